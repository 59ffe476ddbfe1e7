-- The tests after the last line as the code makes them, over the jobs: of the tables of first lines and of starters.
-- That they find 5 and 6 of `model` is shown in proofs/. Then the outcome of a scan of the whole plan.
use Rattle.std.specs.Prelude.{◌≡◌, ℕ, ◌<◌, ◌≤◌, Bool, true, false, cond, not, ◌&&◌, ◌||◌, List, ◌==◌, nat_lt}
use Rattle.std.specs.Prelude.{slice_index, slice_index_or, Result, Ok, Err}
use Rattle.std.proofs.Math.Option.{Option, none, some}
use Rattle.model.specs.Line.{Settings, max_job}
use Rattle.model.specs.WellFormed.{fault}
use Rattle.model.specs.declared.Refusal.{Refusal}
use Rattle.model.specs.declared.Refusal.TheVariants.{BadStart, NeverStarted}
use Rattle.plan.specs.Checked.{checked}
use Rattle.plan.specs.Jobs.{first_lines, starters}
use Rattle.plan.specs.Again.{again_flags}
use Rattle.plan.specs.Holdings.{holdings}
use Rattle.plan.specs.Noting.{NotesOf}
use Rattle.plan.specs.declared.Notes.{Notes}

-- job j starts somewhere and has no lines; has lines and starts nowhere. Job 1 is the one that nothing starts.
pub record Empty (first starter : List ℕ) (j : ℕ) : Type 0 where
  pub low : 2 ≤ j
  pub high : j ≤ max_job
  pub lineless : slice_index_or first j 0 ≡ 0
  pub started : 1 ≤ slice_index starter j

pub record Unstarted (first starter : List ℕ) (j : ℕ) : Type 0 where
  pub low : 2 ≤ j
  pub high : j ≤ max_job
  pub lined : 1 ≤ slice_index first j
  pub startless : slice_index_or starter j 0 ≡ 0

-- of a line so far and the line that starts a job without lines, the lower; 0 is no line
abbrev pub lower_of : ℕ → ℕ → ℕ → ℕ
lower_of low first starter =
    cond (first == 0 && not (starter == 0) && (low == 0 || nat_lt starter low)) starter low

-- of a first line so far and that of a later job that starts nowhere, the first
abbrev pub earlier_of : ℕ → ℕ → ℕ → ℕ
earlier_of low first starter = cond (low == 0 && starter == 0) first low

-- 5 at the lowest such line, 6 at the first line of the lowest such job, or neither; 6 is not given at midday
pub data EndsAs (midday : Bool) (first starter : List ℕ) : Result (Unit {0}) Refusal → Type 0 where
  empty : (j : ℕ) → Empty first starter j
      → ((k : ℕ) → Empty first starter k → slice_index starter j ≤ slice_index starter k)
      → EndsAs midday first starter (Err (BadStart (slice_index starter j)))
  never : midday ≡ false → ((k : ℕ) → Empty first starter k → ⊥) → (j : ℕ) → Unstarted first starter j
      → ((k : ℕ) → k < j → Unstarted first starter k → ⊥)
      → EndsAs midday first starter (Err (NeverStarted (slice_index first j)))
  neither : ((k : ℕ) → Empty first starter k → ⊥) → (midday ≡ false → (k : ℕ) → Unstarted first starter k → ⊥)
      → EndsAs midday first starter (Ok tt)

-- what the walk and these tests find together: the fault, and the tables and notes where there is none
pub record WholeAs (noting : Bool) (S : Settings) (p : List ℕ) (answer : Result (Unit {0}) Refusal) (left : Notes)
    : Type 0 where
  pub answers : answer ≡ checked (fault S p)
  pub tables : answer ≡ Ok tt
      → (left.first ≡ first_lines p) × (left.starter ≡ starters p)
      × (noting ≡ true → NotesOf p left.again left.holdings)

-- what a scan leaves in a lent list: the plan's, or, where it is refused, what stood there
abbrev pub left_by : Option Refusal → List ℕ → List ℕ → List ℕ
left_by none table lent = table
left_by (some r) table lent = lent

-- the outcome of a scan: the fault, and the notes where there is none
pub record ScansAs (S : Settings) (plan : List ℕ) (lent : Notes) (answer : Result (Unit {0}) Refusal) (left : Notes)
    : Type 0 where
  pub answers : answer ≡ checked (fault S plan)
  pub firsts : left.first ≡ left_by (fault S plan) (first_lines plan) lent.first
  pub starts : left.starter ≡ left_by (fault S plan) (starters plan) lent.starter
  pub agains : left.again ≡ left_by (fault S plan) (again_flags plan) lent.again
  pub held : left.holdings ≡ left_by (fault S plan) (holdings plan) lent.holdings

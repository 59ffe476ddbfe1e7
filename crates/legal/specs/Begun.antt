-- What the list of next lines says after any lines done (02, request 1), and how it stands before the first step: no
-- line is done but the held ones, and a job that no line starts is running (02, request 5). A plan of the morning has
-- no held line, and of its jobs job 1 alone is running.
use Rattle.std.specs.Prelude.{ℕ, suc, ◌<◌, ◌≤◌, Bool, true, cond, List, ◌≡◌, eqb, ltb, length, get_or}
use Rattle.std.proofs.Math.Option.{none}
use Rattle.model.specs.Board.{devices, board_at}
use Rattle.model.specs.Lists.{has}
use Rattle.model.specs.Sets.{member}
use Rattle.model.specs.Line.{job, starts, at, max_job}
use Rattle.model.specs.WellFormed.{fault}
use Rattle.model.specs.Mate.{held_lines}
use Rattle.model.specs.Legal.{held}
use Rattle.plan.specs.Jobs.{first_lines, starters}
use Rattle.plan.specs.Again.{again_flags}
use Rattle.plan.specs.declared.Notes.{Notes}
use Rattle.legal.specs.declared.State.{State}

-- what the list says after the lines done
pub record Standing (p done next : List ℕ) : Type 0 where
  pub long : length next ≡ suc max_job
  -- a line is done exactly if its job stands past it
  pub past : (i : ℕ) → i < length p → has i done ≡ ltb (suc i) (get_or next (job (at p i)) 0)
  -- a job that stands somewhere is started
  pub started : (i k : ℕ) → i < length p → 1 ≤ get_or next (job (at p i)) 0 → starts (at p k) (job (at p i)) ≡ true
      → has k done ≡ true
  -- a job that is started stands at a line of it or past one
  pub stands : (i : ℕ) → i < length p → ((k : ℕ) → starts (at p k) (job (at p i)) ≡ true → has k done ≡ true)
      → (f : ℕ) × (job (at p f) ≡ job (at p i)) × (f < get_or next (job (at p i)) 0)

-- with nothing done: a job stands at its first line where no line starts it, and otherwise nowhere
pub record Running (first starter next : List ℕ) : Type 0 where
  pub long : length next ≡ suc max_job
  pub each : (j : ℕ) → j ≤ max_job → get_or next j 0 ≡ cond (eqb (get_or starter j 0) 0) (get_or first j 0) 0

-- a plan has no fault, and the notes are its own
pub record Tabled (midday : Bool) (p : List ℕ) (notes : Notes) : Type 0 where
  pub sound : fault (board_at midday) p ≡ none
  pub firsts : notes.first ≡ first_lines p
  pub starts : notes.starter ≡ starters p
  pub agains : notes.again ≡ again_flags p

-- the held lines are done: where the jobs stand, and which devices are held
pub record BeginsAs (p : List ℕ) (state : State) : Type 0 where
  pub standing : Standing p (held_lines p) state.next
  pub holds : (d : ℕ) → d < devices → member state.held d ≡ held p (held_lines p) d

-- all that the judge of the entries goes by, in the morning or at midday
pub record Ready (p : List ℕ) (notes : Notes) (state : State) : Type 0 where
  pub midday : Bool
  pub tabled : Tabled midday p notes
  pub begins : BeginsAs p state

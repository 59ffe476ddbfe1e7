-- The words in which theory says what of a plan is in order and what is broken (01, "Rules of a well-formed plan" and
-- "Refusal numbers", 2 to 7, and of held lines 02, request 5: 16 and 17): at a line, what is tested there, in the order
-- of the tests; in a plan, the first line at which something is broken, and otherwise what is tested after the last
-- line.
use Rattle.std.specs.Prelude.{ℕ, zero, suc, ◌<◌, ◌≤◌, Bool, true, false, not, ◌&&◌, ◌⊎◌, ◌≡◌, eqb, length}
use mathlib.Core.List.{List, head_d}
use Rattle.model.specs.Lists.{any}
use Rattle.model.specs.Line.{Settings, job, operand, is_held, is_give, is_start, device_of, holds, starts, is_line, at}
use Rattle.model.specs.Line.{line_number, has_lines, first_line, max_lines, max_job}
use Rattle.model.specs.WellFormed.{held_there, is_last}
use Rattle.model.specs.declared.Refusal.{Refusal}
use Rattle.model.specs.declared.Refusal.TheVariants.{Malformed, TooManyLines, JobOutOfSequence, BadStart}
use Rattle.model.specs.declared.Refusal.TheVariants.{NeverStarted, GiveWithoutTake, HeldTwice, HeldLate}

-- ---- one line

-- the job of line i follows on
abbrev pub FollowsOn : List ℕ → ℕ → Type 0
FollowsOn p zero = job (at p 0) ≡ 1
FollowsOn p (suc i) = (job (at p (suc i)) ≡ job (at p i)) ⊎ (job (at p (suc i)) ≡ suc (job (at p i)))

-- line k, earlier, makes line i come too late to be held: it is of the same job and not held, or starts that job
abbrev pub MakesLate : List ℕ → ℕ → ℕ → Type 0
MakesLate p k i =
    ((job (at p k) ≡ job (at p i)) × (is_held (at p k) ≡ false)) ⊎ (starts (at p k) (job (at p i)) ≡ true)

-- line i is in order: nothing that is tested at a line is broken there
pub record InOrder (S : Settings) (p : List ℕ) (i : ℕ) : Type 0 where
  pub few : i < max_lines
  pub line : is_line S (at p i) ≡ true
  pub follows_on : FollowsOn p i
  pub start : (j : ℕ) → starts (at p i) j ≡ true → (job (at p i) < j) × ((k : ℕ) → k < i → starts (at p k) j ≡ false)
  pub give : is_give (at p i) ≡ true → is_last (operand (at p i)) (held_there p i) ≡ true
  pub held_once : is_held (at p i) ≡ true → (k : ℕ) → k < i → holds (at p k) (device_of (at p i)) ≡ false
  pub held_early : is_held (at p i) ≡ true → (k : ℕ) → k < i → MakesLate p k i → ⊥

-- what is broken at line i, where what is tested before it is in order
pub data BrokenAt (S : Settings) (p : List ℕ) (i : ℕ) : Refusal → Type 0 where
  too_many : max_lines ≤ i → BrokenAt S p i TooManyLines
  malformed : i < max_lines → is_line S (at p i) ≡ false → BrokenAt S p i (Malformed (line_number i))
  out_of_sequence : i < max_lines → is_line S (at p i) ≡ true → (FollowsOn p i → ⊥)
      → BrokenAt S p i (JobOutOfSequence (line_number i))
  bad_start : i < max_lines → is_line S (at p i) ≡ true → FollowsOn p i → is_start (at p i) ≡ true
      → (operand (at p i) ≤ job (at p i)) ⊎ ((k : ℕ) × (k < i) × (starts (at p k) (operand (at p i)) ≡ true))
      → BrokenAt S p i (BadStart (line_number i))
  bad_give : i < max_lines → is_line S (at p i) ≡ true → FollowsOn p i → is_give (at p i) ≡ true
      → is_last (operand (at p i)) (held_there p i) ≡ false → BrokenAt S p i (GiveWithoutTake (line_number i))
  held_twice : i < max_lines → is_line S (at p i) ≡ true → FollowsOn p i → is_held (at p i) ≡ true
      → ((k : ℕ) × (k < i) × (holds (at p k) (device_of (at p i)) ≡ true)) → BrokenAt S p i (HeldTwice (line_number i))
  held_late : i < max_lines → is_line S (at p i) ≡ true → FollowsOn p i → is_held (at p i) ≡ true
      → ((k : ℕ) → k < i → holds (at p k) (device_of (at p i)) ≡ false)
      → ((k : ℕ) × (k < i) × MakesLate p k i) → BrokenAt S p i (HeldLate (line_number i))

-- ---- a plan

-- line i starts a job without lines
unfoldable pub starts_empty : List ℕ → ℕ → Bool
starts_empty p i = is_start (at p i) && not (has_lines p (operand (at p i)))

-- job j has lines, is not 1, and no line starts it
unfoldable pub unstarted : List ℕ → ℕ → Bool
unstarted p j = has_lines p j && not (eqb j 1) && not (any (λ l. starts l j) p)

-- What is broken in a plan, and where. That each job is started is tested in a plan of the morning only.
pub data Broken (S : Settings) (p : List ℕ) : Refusal → Type 0 where
  at_line : (k : ℕ) (r : Refusal) → k < length p → ((j : ℕ) → j < k → InOrder S p j) → BrokenAt S p k r → Broken S p r
  no_lines : (i : ℕ) → ((k : ℕ) → k < length p → InOrder S p k) → i < length p → starts_empty p i ≡ true
      → ((k : ℕ) → k < i → starts_empty p k ≡ false) → Broken S p (BadStart (line_number i))
  no_start : S.midday ≡ false → (j : ℕ) → ((k : ℕ) → k < length p → InOrder S p k)
      → ((k : ℕ) → k < length p → starts_empty p k ≡ false)
      → 1 ≤ j → j ≤ max_job → unstarted p j ≡ true → ((k : ℕ) → 1 ≤ k → k < j → unstarted p k ≡ false)
      → Broken S p (NeverStarted (line_number (head_d (first_line j p) 0)))

-- nothing is broken
pub record Sound (S : Settings) (p : List ℕ) : Type 0 where
  pub lines : (k : ℕ) → k < length p → InOrder S p k
  pub full : (k : ℕ) → k < length p → starts_empty p k ≡ false
  pub begun : S.midday ≡ false → (j : ℕ) → 1 ≤ j → j ≤ max_job → unstarted p j ≡ false

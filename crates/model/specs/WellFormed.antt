-- 01, "Rules of a well-formed plan": its rules but the last, that of takes, which 02, request 2, takes away, with those
-- of held lines (02, request 5). The rule that jobs are started is the morning's alone, and stands in `WellFormed`.
-- Then "Refusal numbers", 2 to 7, 16 and 17: each fault of a plan with its place, in the order of the tests. (That a
-- plan has no fault exactly if it is WellFormed is shown in `theory`.)
use Rattle.std.specs.Prelude.{ℕ, zero, suc, ◌<◌, ◌≤◌, Bool, true, false, cond, not, ◌&&◌, ◌||◌, ◌⊎◌, ◌≢◌, ◌≡◌, eqb, leb}
use Rattle.std.specs.Prelude.{length}
use mathlib.Core.List.{List, [], ◌∷◌, tail, head_d}
use Rattle.std.proofs.Math.Option.{Option, none, some}
use Rattle.model.specs.Lists.{up_from, positions, any, first_of}
use Rattle.model.specs.Answers.{refuse_if, refuse_at, first_refusal}
use Rattle.model.specs.Line.{Settings, job, operand, opens, is_held, is_give, is_start, device_of, holds, starts}
use Rattle.model.specs.Line.{is_line, at, line_number, has_lines, first_line, max_lines, max_job}
use Rattle.model.specs.declared.Refusal.{Refusal}
use Rattle.model.specs.declared.Refusal.TheVariants.{Malformed, TooManyLines, JobOutOfSequence, BadStart}
use Rattle.model.specs.declared.Refusal.TheVariants.{NeverStarted, GiveWithoutTake, HeldTwice, HeldLate}

-- the lines before position i, the nearest first
unfoldable pub before : List ℕ → ℕ → List ℕ
before p zero = []
before p (suc i) = at p i ∷ before p i

-- the devices that job j holds after some lines, of which the nearest stands first: the device taken last first, and a
-- device as often as it is held. What a held line holds was taken before the first step.
unfoldable pub held_by : ℕ → List ℕ → List ℕ
unfolding job opens is_give device_of
held_by j [] = []
held_by j (l ∷ b) =
    elim (eqb (job l) j) [
      | false ↦ held_by j b
      | true ↦ elim (opens l) [
        | true ↦ device_of l ∷ held_by j b
        | false ↦ elim (is_give l) [ true ↦ tail (held_by j b) | false ↦ held_by j b ]
      ]
    ]

-- the devices that the job of the line at i holds before it
abbrev pub held_there : List ℕ → ℕ → List ℕ
held_there p i = held_by (job (at p i)) (before p i)

-- device d is the latest of those still held
unfoldable pub is_last : ℕ → List ℕ → Bool
is_last d [] = false
is_last d (x ∷ xs) = eqb d x

-- The rules: first and next; the three about starts; give; and those of held lines: no device is held twice, only held
-- lines stand before one in its job, and no line starts its job. Past the end stands 0, a do of no job, so that starts,
-- gives and held lines need no bound on i.
pub record Rules (p : List ℕ) : Type 0 where
  pub first : 0 < length p → job (at p 0) ≡ 1
  pub next : (i : ℕ) → suc i < length p
      → (job (at p (suc i)) ≡ job (at p i)) ⊎ (job (at p (suc i)) ≡ suc (job (at p i)))
  pub start_higher : (i j : ℕ) → starts (at p i) j ≡ true → job (at p i) < j
  pub start_once : (i k j : ℕ) → k < i → starts (at p i) j ≡ true → starts (at p k) j ≡ false
  pub start_has_lines : (i j : ℕ) → starts (at p i) j ≡ true → has_lines p j ≡ true
  pub give : (i : ℕ) → is_give (at p i) ≡ true → is_last (operand (at p i)) (held_there p i) ≡ true
  pub held_once : (i k d : ℕ) → k < i → holds (at p i) d ≡ true → holds (at p k) d ≡ false
  pub held_first : (i k : ℕ) → k < i → is_held (at p i) ≡ true → job (at p k) ≡ job (at p i) → is_held (at p k) ≡ true
  pub held_runs : (i k : ℕ) → is_held (at p i) ≡ true → starts (at p k) (job (at p i)) ≡ false

-- A well-formed plan: at most 1,024 numbers, each a line's, that obey the rules; and in the morning no job but the
-- first goes without a start. At midday those that do are running.
pub record WellFormed (S : Settings) (p : List ℕ) : Type 0 where
  pub few : length p ≤ max_lines
  pub lines : (i : ℕ) → i < length p → is_line S (at p i) ≡ true
  pub rules : Rules p
  pub started : S.midday ≡ false → (i : ℕ) → i < length p → job (at p i) ≢ 1
      → any (λ l. starts l (job (at p i))) p ≡ true

-- The faults. A line is tested against the lines before it, the nearest first.

unfoldable pub in_sequence : List ℕ → ℕ → Bool
unfolding job
in_sequence [] l = eqb (job l) 1
in_sequence (q ∷ b) l = eqb (job l) (job q) || eqb (job l) (suc (job q))

-- line l comes too late to be held: after a line of its job with another verb, or after a line that starts its job
unfoldable pub late : List ℕ → ℕ → Bool
unfolding any job is_held starts
late b l = any (λ q. (eqb (job q) (job l) && not (is_held q)) || starts q (job l)) b

-- the verb's own rule: 5, as far as the lines before tell; 7; 16, then 17
unfoldable pub verb_fault : List ℕ → ℕ → Option Refusal
unfolding first_refusal refuse_if line_number is_start is_give is_held operand device_of job any starts held_by is_last
    holds
    late
verb_fault b l =
    let n : ℕ = line_number (length b) in
    first_refusal
    (refuse_if (is_start l && (leb (operand l) (job l) || any (λ q. starts q (operand l)) b)) (BadStart n)
    ∷ refuse_if (is_give l && not (is_last (operand l) (held_by (job l) b))) (GiveWithoutTake n)
    ∷ refuse_if (is_held l && any (λ q. holds q (device_of l)) b) (HeldTwice n)
    ∷ refuse_if (is_held l && late b l) (HeldLate n)
    ∷ [])

-- 3, 2, 4, then the verb's own
unfoldable pub line_fault : Settings → List ℕ → ℕ → Option Refusal
unfolding first_refusal refuse_if line_number is_line in_sequence verb_fault
line_fault S b l =
    let n : ℕ = line_number (length b) in
    first_refusal
    (refuse_if (leb max_lines (length b)) TooManyLines
    ∷ refuse_if (not (is_line S l)) (Malformed n)
    ∷ refuse_if (not (in_sequence b l)) (JobOutOfSequence n)
    ∷ verb_fault b l
    ∷ [])

-- the fault of the first line that has one, of lines that stand after some others
unfoldable pub first_fault : Settings → List ℕ → List ℕ → Option Refusal
unfolding line_fault
first_fault S b [] = none
first_fault S b (l ∷ ls) = elim (line_fault S b l) [ some r ↦ some r | none ↦ first_fault S (l ∷ b) ls ]

-- After the last line. 5: the lowest line that starts a job without lines.
unfoldable pub empty_start : List ℕ → Option Refusal
unfolding refuse_at first_of positions is_start operand has_lines line_number
empty_start p =
    refuse_at (λ i. BadStart (line_number i))
    (first_of (λ i. is_start (at p i) && not (has_lines p (operand (at p i)))) (positions p))

-- 6: the first line of the lowest job, other than 1, that no line starts.
unfoldable pub never_started : List ℕ → Option Refusal
unfolding refuse_at first_of up_from has_lines any starts first_line line_number head_d
never_started p =
    refuse_at (λ j. NeverStarted (line_number (head_d (first_line j p) 0)))
    (first_of (λ j. has_lines p j && not (eqb j 1) && not (any (λ l. starts l j) p)) (up_from 1 max_job))

-- the fault of a plan, if it has one; 6 is not given at midday
unfoldable pub fault : Settings → List ℕ → Option Refusal
unfolding first_refusal first_fault empty_start never_started
fault S p =
    first_refusal (first_fault S [] p ∷ empty_start p ∷ cond S.midday none (never_started p) ∷ [])

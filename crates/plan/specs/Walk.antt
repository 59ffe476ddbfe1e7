-- The walk along the lines as the code makes it: its state is the job of the line before (0 before the first), the set
-- of the devices of held lines (02, request 5), whether the line before is one, the devices that its job holds (the
-- latest first), and for each job the number of its first line and of the line that starts it. That it finds the fault
-- of `model` is shown in proofs/.
use Rattle.std.specs.Prelude.{◌≡◌, ℕ, zero, suc, ◌+◌, ◌-◌, Bool, cond, not, ◌&&◌, ◌||◌, List, [], ◌∷◌, length}
use Rattle.std.specs.Prelude.{◌==◌, nat_le, nat_lt, slice_index, slice_index_or, slice_set, Result, Ok, Err}
use mathlib.Core.List.{tail}
use Rattle.std.proofs.Math.Option.{Option, none, some}
use Rattle.model.specs.Answers.{refuse_if, first_refusal}
use Rattle.model.specs.Board.{devices}
use Rattle.model.specs.Line.{Settings, job, operand, opens, is_held, is_give, is_start, is_line, line_number, max_lines}
use Rattle.model.specs.Sets.{empty, union, member}
use Rattle.model.specs.WellFormed.{is_last, first_fault}
use Rattle.model.specs.declared.Refusal.{Refusal}
use Rattle.model.specs.declared.Refusal.TheVariants.{Malformed, TooManyLines, JobOutOfSequence, BadStart}
use Rattle.model.specs.declared.Refusal.TheVariants.{GiveWithoutTake, HeldTwice, HeldLate}
use Rattle.line.specs.Device.{device_bits}
use Rattle.sets.specs.Both.{without}
use Rattle.sets.specs.Only.{only_of}
use Rattle.plan.specs.Checked.{checked}
use Rattle.plan.specs.Tables.{Tables}
use Rattle.plan.specs.declared.Notes.{Notes}

-- ---- one line, at position i

-- 3, 2, 4, by their tests
abbrev pub placed_by : ℕ → Bool → Bool → Bool → Option Refusal
placed_by i many line follows =
    first_refusal
    (refuse_if many TooManyLines ∷ refuse_if (not line) (Malformed (line_number i))
    ∷ refuse_if (not follows) (JobOutOfSequence (line_number i)) ∷ [])

unfoldable pub place_fault : Settings → ℕ → ℕ → ℕ → Option Refusal
place_fault S n i prev = placed_by i (nat_le max_lines i) (is_line S n) (job n == prev || job n == suc prev)

-- 16, 17, by their tests; of a held line
abbrev pub held_both : ℕ → Bool → Bool → Option Refusal
held_both i twice too_late =
    first_refusal (refuse_if twice (HeldTwice (line_number i)) ∷ refuse_if too_late (HeldLate (line_number i)) ∷ [])

-- a line of its job before it is not held, since the line before is not; or a line starts its job
abbrev pub late_by : ℕ → ℕ → Bool → List ℕ → Bool
late_by n prev early starter = (job n == prev && not early) || not (slice_index starter (job n) == 0)

unfoldable pub held_fault : ℕ → ℕ → ℕ → ℕ → Bool → List ℕ → Option Refusal
held_fault n i prev named early starter =
    cond (is_held n) (held_both i (member named (device_bits n)) (late_by n prev early starter)) none

-- the devices of held lines, one line more
unfoldable pub named_after : ℕ → ℕ → ℕ → ℕ
named_after D n named = cond (is_held n) (union named (only_of D (device_bits n))) named

-- what a line leads to: the devices held, the first lines and the starters; or a refusal
pub data Next : Type 0 where
  on : List ℕ → List ℕ → List ℕ → Next
  bad : Refusal → Next

-- the verb's own rule
unfoldable pub rule_of : ℕ → ℕ → List ℕ → List ℕ → List ℕ → Next
rule_of i n held first starter =
    cond (opens n) (on (device_bits n ∷ held) first starter)
    (cond (is_give n)
    (cond (is_last (device_bits n) held) (on (tail held) first starter) (bad (GiveWithoutTake (line_number i))))
    (cond (is_start n)
    (cond (nat_lt (job n) (operand n) && slice_index starter (operand n) == 0)
    (on held first (slice_set starter (operand n) (line_number i))) (bad (BadStart (line_number i))))
    (on held first starter)))

-- a refusal, or what comes after
abbrev pub unless : Option Refusal → Next → Next
unless (some r) next = bad r
unless none next = next

-- all of it: a new job holds nothing, and has its first line here
unfoldable pub step_of : Settings → ℕ → ℕ → ℕ → ℕ → Bool → List ℕ → List ℕ → List ℕ → Next
step_of S n i prev named early held first starter =
    unless (place_fault S n i prev)
    (unless (held_fault n i prev named early starter)
    (rule_of i n (cond (job n == prev) held [])
    (slice_set first (job n) (cond (job n == prev) (slice_index first (job n)) (line_number i))) starter))

-- ---- the devices held as the code has them

-- the devices of the `depth` places above place 0, which is no take's, the latest first
unfoldable pub held_in : ℕ → List ℕ → List ℕ
held_in zero stack = []
held_in (suc depth) stack = slice_index stack (suc depth) ∷ held_in depth stack

pub record Stack (stack : List ℕ) : Type 0 where
  pub long : length stack ≡ suc max_lines
  pub floor : slice_index_or stack 0 0 ≡ devices

-- the set of the device that a line gives
abbrev pub given_by : ℕ → ℕ
given_by n = cond (is_give n) (only_of devices (device_bits n)) empty

-- a line gives another device than the one taken last
abbrev pub misgiven : ℕ → ℕ → Bool
misgiven n latest = not (without (given_by n) (only_of devices latest) == empty)

-- the depth after a line that breaks nothing
abbrev pub depth_after : ℕ → ℕ → ℕ
depth_after n depth = cond (opens n) (depth + 1) (cond (is_give n) (depth - 1) depth)

-- what the code's answers say of its arrays; nothing after a refusal
abbrev pub next_by : Result ℕ Refusal → List ℕ → List ℕ → List ℕ → Next
next_by (Ok depth) stack first starter = on (held_in depth stack) first starter
next_by (Err r) stack first starter = bad r

-- what the whole walk finds: the fault of the first line that has one, or the tables
pub record Walked (S : Settings) (p : List ℕ) (answer : Result (Unit {0}) Refusal) (left : Notes) : Type 0 where
  pub answers : answer ≡ checked (first_fault S [] p)
  pub tables : answer ≡ Ok tt → Tables S p (length p) left.first left.starter

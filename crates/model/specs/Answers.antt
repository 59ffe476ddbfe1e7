-- 01, "Refusal numbers", and 02's so far: the number and the place of each refusal, and for each answer its values: 0
-- where the entry succeeded, else the refusal's number; then what the case carries. The end of the lines and a legal
-- order are 0 alone. And how the tests of an entry decide: by the first that refuses. (8 is given no more: 02,
-- request 2.)
use Rattle.std.specs.Prelude.{ℕ, Bool, true, false, List, [], ◌∷◌, ltb, Result, Ok, Err}
use Rattle.std.proofs.Math.Option.{Option, none, some}
use Rattle.model.specs.declared.Refusal.{Refusal}
use Rattle.model.specs.declared.Refusal.TheVariants.{TextTooLong, Malformed, TooManyLines, JobOutOfSequence}
use Rattle.model.specs.declared.Refusal.TheVariants.{BadStart, NeverStarted, GiveWithoutTake}
use Rattle.model.specs.declared.Refusal.TheVariants.{TwoLasting, LeadsBack, ListTooShort, NotATake}
use Rattle.model.specs.declared.Refusal.TheVariants.{NoSuchDevice, StaleTable, IllegalStep, HeldTwice, HeldLate}
use Rattle.model.specs.declared.LineAnswer.{LineAnswer}

abbrev pub number_of : Refusal → ℕ
number_of TextTooLong = 1
number_of (Malformed line) = 2
number_of TooManyLines = 3
number_of (JobOutOfSequence line) = 4
number_of (BadStart line) = 5
number_of (NeverStarted line) = 6
number_of (GiveWithoutTake line) = 7
number_of (TwoLasting device) = 9
number_of (LeadsBack device) = 10
number_of (ListTooShort needed) = 11
number_of (NotATake asked) = 12
number_of (NoSuchDevice asked) = 13
number_of (StaleTable line) = 14
number_of (IllegalStep position) = 15
number_of (HeldTwice line) = 16
number_of (HeldLate line) = 17

abbrev pub place_of : Refusal → ℕ
place_of TextTooLong = 0
place_of (Malformed line) = line
place_of TooManyLines = 1025
place_of (JobOutOfSequence line) = line
place_of (BadStart line) = line
place_of (NeverStarted line) = line
place_of (GiveWithoutTake line) = line
place_of (TwoLasting device) = device
place_of (LeadsBack device) = device
place_of (ListTooShort needed) = needed
place_of (NotATake asked) = asked
place_of (NoSuchDevice asked) = asked
place_of (StaleTable line) = line
place_of (IllegalStep position) = position
place_of (HeldTwice line) = line
place_of (HeldLate line) = line

abbrev pub refusal_values : Refusal → List ℕ
refusal_values r = number_of r ∷ place_of r ∷ []

abbrev pub line_values : LineAnswer → List ℕ
line_values (LineAnswer.Line number next) = 0 ∷ number ∷ next.offset ∷ next.lines ∷ []
line_values (LineAnswer.Refused r) = refusal_values r
line_values LineAnswer.End = 0 ∷ []

-- of every entry that counts
abbrev pub answer_values : Result ℕ Refusal → List ℕ
answer_values (Ok n) = 0 ∷ n ∷ []
answer_values (Err r) = refusal_values r

-- of the judge, which counts nothing
abbrev pub judge_values : Result (Unit {0}) Refusal → List ℕ
judge_values (Ok tt) = 0 ∷ []
judge_values (Err r) = refusal_values r

-- a refusal, where a test says so
unfoldable pub refuse_if : Bool → Refusal → Option Refusal
refuse_if true r = some r
refuse_if false r = none

-- a refusal at the place that a search found, if it found one
unfoldable pub refuse_at : (ℕ → Refusal) → Option ℕ → Option Refusal
refuse_at r (some place) = some (r place)
refuse_at r none = none

-- The tests of an entry stand in a list, in the order in which they are made: the first that refuses decides.
unfoldable pub first_refusal : List (Option Refusal) → Option Refusal
first_refusal [] = none
first_refusal (some r ∷ tests) = some r
first_refusal (none ∷ tests) = first_refusal tests

-- 11, with the length needed, where the lent list is shorter
unfoldable pub too_short : ℕ → ℕ → Option Refusal
unfolding refuse_if
too_short lent needed = refuse_if (ltb lent needed) (ListTooShort needed)

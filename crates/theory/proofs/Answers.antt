-- The numbers and values that `model` lists for the answers lose nothing: each refusal is known by its number and
-- place, and each answer by its values. Promises that are stated through them are therefore as tight as if they named
-- the cases. Last, what the first refusal of an entry's tests says of each of them.
use Prim.Native.Nat.{ℕ, zero, suc, ◌≤◌}
use Rattle.std.specs.Prelude.{Result, Ok, Err}
use mathlib.Core.Bool.{Bool, true, false, not}
use mathlib.Core.List.{List, [], ◌∷◌}
use mathlib.Core.Option.{Option, none, some, some-injective, none-ne-some}
use mathlib.Core.Path.{◌≡◌, refl, sym, ◌∙◌, ap, ap₂}
use native.Mathlib.Omega.{arith}
use lib.Dec.{ltb}
use lib.ListN.{get_or}
use borrow.Author.Tests.{ltb-false}
use Rattle.model.specs.Answers.{number_of, place_of, refusal_values, line_values, answer_values}
use Rattle.model.specs.Answers.{judge_values, refuse_if, refuse_at, first_refusal}
use Rattle.model.specs.Answers.{too_short}
use Rattle.model.specs.declared.Refusal.{Refusal}
use Rattle.model.specs.declared.Refusal.TheVariants.{TextTooLong, Malformed, TooManyLines, JobOutOfSequence}
use Rattle.model.specs.declared.Refusal.TheVariants.{BadStart, NeverStarted, GiveWithoutTake}
use Rattle.model.specs.declared.Refusal.TheVariants.{TwoLasting, LeadsBack, ListTooShort, NotATake}
use Rattle.model.specs.declared.Refusal.TheVariants.{NoSuchDevice, StaleTable, IllegalStep, HeldTwice, HeldLate}
use Rattle.model.specs.declared.LineAnswer.{LineAnswer}

-- the refusal of a number and a place
refusal_of : ℕ → ℕ → Option Refusal
refusal_of number place =
    get_or
    (none
    ∷ some TextTooLong
    ∷ some (Malformed place)
    ∷ some TooManyLines
    ∷ some (JobOutOfSequence place)
    ∷ some (BadStart place)
    ∷ some (NeverStarted place)
    ∷ some (GiveWithoutTake place)
    ∷ none
    ∷ some (TwoLasting place)
    ∷ some (LeadsBack place)
    ∷ some (ListTooShort place)
    ∷ some (NotATake place)
    ∷ some (NoSuchDevice place)
    ∷ some (StaleTable place)
    ∷ some (IllegalStep place)
    ∷ some (HeldTwice place)
    ∷ some (HeldLate place)
    ∷ [])
    number none

refusal_back : (r : Refusal) → refusal_of (number_of r) (place_of r) ≡ some r
unfolding refusal_of
refusal_back TextTooLong = refl
refusal_back (Malformed line) = refl
refusal_back TooManyLines = refl
refusal_back (JobOutOfSequence line) = refl
refusal_back (BadStart line) = refl
refusal_back (NeverStarted line) = refl
refusal_back (GiveWithoutTake line) = refl
refusal_back (TwoLasting device) = refl
refusal_back (LeadsBack device) = refl
refusal_back (ListTooShort needed) = refl
refusal_back (NotATake asked) = refl
refusal_back (NoSuchDevice asked) = refl
refusal_back (StaleTable line) = refl
refusal_back (IllegalStep position) = refl
refusal_back (HeldTwice line) = refl
refusal_back (HeldLate line) = refl

-- the numbers are 1 to 17
pub number_range : (r : Refusal) → (1 ≤ number_of r) × (number_of r ≤ 17)
number_range TextTooLong = (omega arith, omega arith)
number_range (Malformed line) = (omega arith, omega arith)
number_range TooManyLines = (omega arith, omega arith)
number_range (JobOutOfSequence line) = (omega arith, omega arith)
number_range (BadStart line) = (omega arith, omega arith)
number_range (NeverStarted line) = (omega arith, omega arith)
number_range (GiveWithoutTake line) = (omega arith, omega arith)
number_range (TwoLasting device) = (omega arith, omega arith)
number_range (LeadsBack device) = (omega arith, omega arith)
number_range (ListTooShort needed) = (omega arith, omega arith)
number_range (NotATake asked) = (omega arith, omega arith)
number_range (NoSuchDevice asked) = (omega arith, omega arith)
number_range (StaleTable line) = (omega arith, omega arith)
number_range (IllegalStep position) = (omega arith, omega arith)
number_range (HeldTwice line) = (omega arith, omega arith)
number_range (HeldLate line) = (omega arith, omega arith)

-- a refusal is known by its number and place
pub one_refusal : (r s : Refusal) → number_of r ≡ number_of s → place_of r ≡ place_of s → r ≡ s
one_refusal r s e f = some-injective r s (sym (refusal_back r) ∙ ap₂ refusal_of e f ∙ refusal_back s)

-- the answer of two values: a success with the second, or the refusal that they are
answer_of : {A : Type 0} → (ℕ → A) → (Refusal → A) → List ℕ → A
answer_of done refused [] = done 0
answer_of done refused (n ∷ []) = done 0
answer_of done refused (n ∷ v ∷ vs) = elim (refusal_of n v) [ none ↦ done v | some r ↦ refused r ]

done_back : {A : Type 0} (done : ℕ → A) (refused : Refusal → A) (n : ℕ) → answer_of done refused (0 ∷ n ∷ []) ≡ done n
unfolding answer_of refusal_of
done_back done refused n = refl

refused_back : {A : Type 0} (done : ℕ → A) (refused : Refusal → A) (r : Refusal)
    → answer_of done refused (refusal_values r) ≡ refused r
unfolding answer_of
refused_back done refused r = rw (refusal_back r, answer_of)

-- whatever gives an answer back from its values tells answers apart by them
told_apart : {A : Type 0} (values : A → List ℕ) (of : List ℕ → A) → ((a : A) → of (values a) ≡ a) → (a b : A)
    → values a ≡ values b → a ≡ b
told_apart values of back a b e = sym (back a) ∙ ap of e ∙ back b

answer_back : (a : Result ℕ Refusal) → answer_of Ok Err (answer_values a) ≡ a
answer_back (Ok n) = done_back Ok Err n
answer_back (Err r) = refused_back Ok Err r

judge_back : (a : Result (Unit {0}) Refusal) → answer_of (λ x. Ok tt) Err (judge_values a) ≡ a
unfolding answer_of
judge_back (Ok tt) = refl
judge_back (Err r) = refused_back (λ x. Ok tt) Err r

-- the line reader's: one value for the end, two for a refusal, four for a line
line_of : List ℕ → LineAnswer
unfolding answer_of
line_of [] = LineAnswer.End
line_of (n ∷ []) = LineAnswer.End
line_of (n ∷ v ∷ []) = answer_of (λ x. LineAnswer.End) LineAnswer.Refused (n ∷ v ∷ [])
line_of (n ∷ v ∷ o ∷ []) = LineAnswer.End
line_of (n ∷ v ∷ o ∷ l ∷ ls) = LineAnswer.Line v (record { offset = o; lines = l })

line_back : (a : LineAnswer) → line_of (line_values a) ≡ a
unfolding line_of
line_back (LineAnswer.Line n next) = refl
line_back (LineAnswer.Refused r) = refused_back (λ x. LineAnswer.End) LineAnswer.Refused r
line_back LineAnswer.End = refl

-- answers are known by their values
pub one_line_answer : (a b : LineAnswer) → line_values a ≡ line_values b → a ≡ b
one_line_answer = told_apart line_values line_of line_back

pub one_answer : (a b : Result ℕ Refusal) → answer_values a ≡ answer_values b → a ≡ b
one_answer = told_apart answer_values (answer_of Ok Err) answer_back

pub one_judge_answer : (a b : Result (Unit {0}) Refusal) → judge_values a ≡ judge_values b → a ≡ b
one_judge_answer = told_apart judge_values (answer_of (λ x. Ok tt) Err) judge_back

-- ---- tests in a list

pub data Each (P : Option Refusal → Type 0) : List (Option Refusal) → Type 0 where
  all_tests : Each P []
  also : {x : Option Refusal} {xs : List (Option Refusal)} → P x → Each P xs → Each P (x ∷ xs)

-- what holds of each test holds of the first refusal
pub first_each : (P : Option Refusal → Type 0) (xs : List (Option Refusal)) → P none → Each P xs → P (first_refusal xs)
unfolding first_refusal
first_each P [] n e = n
first_each P (some r ∷ xs) n (also h e) = h
first_each P (none ∷ xs) n (also h e) = first_each P xs n e

-- where there is no first refusal, no test refuses
pub none_refuses : (xs : List (Option Refusal)) → first_refusal xs ≡ none → (k : ℕ) → get_or xs k none ≡ none
unfolding first_refusal
none_refuses [] e k = refl
none_refuses (some r ∷ xs) e k = absurd (none-ne-some r (sym e))
none_refuses (none ∷ xs) e zero = refl
none_refuses (none ∷ xs) e (suc k) = none_refuses xs e k

pub not_refused : (b : Bool) (r : Refusal) → refuse_if (not b) r ≡ none → b ≡ true
unfolding refuse_if
not_refused true r e = refl
not_refused false r e = absurd (none-ne-some r (sym e))

pub not_found : (r : ℕ → Refusal) (o : Option ℕ) → refuse_at r o ≡ none → o ≡ none
unfolding refuse_at
not_found r none e = refl
not_found r (some k) e = absurd (none-ne-some (r k) (sym e))

pub long_enough : (room needed : ℕ) → too_short room needed ≡ none → needed ≤ room
unfolding too_short refuse_if
long_enough room needed = go (ltb room needed) refl
  where
    go : (b : Bool) → ltb room needed ≡ b → refuse_if b (ListTooShort needed) ≡ none → needed ≤ room
    go true e h = absurd (none-ne-some (ListTooShort needed) (sym h))
    go false e h = ltb-false room needed e

-- One line, packed and spelt: a packed number that is a line's has a text that reads as that number, and a text that
-- reads as a number is that number's text, and the number is a line's. So a plan can be written and read line by line
-- (`Text`). Also how long the text of a line is.
use Prim.Native.Nat.{ℕ, zero, suc, ◌+◌, ◌≤◌, ◌<◌}
use mathlib.Core.Bool.{Bool, true, false, cond}
use mathlib.Core.List.{List, [], ◌∷◌, ◌++◌, get_last_d, drop_last, append_assoc}
use mathlib.Core.Logic.{inl, inr}
use mathlib.Core.Option.{Option, none, some, some-injective}
use mathlib.Core.Path.{◌≡◌, refl, ◌∙◌, subst}
use native.Mathlib.Omega.{arith}
use lib.Dec.{eqb}
use lib.ListN.{length, length-append}
use borrow.Author.Tests.{eqb-true}
use Rattle.model.specs.Lists.{has, same, up_from}
use Rattle.model.specs.Line.{Settings, pack_verb, job, verb_of, device_of, line_fits, is_line, held_from}
use Rattle.model.specs.Text.{tab, newline, is_digit, number, decimal, verb, verb_number, fields_of, tabbed}
use Rattle.model.specs.Text.{packed_from, from_fields, packed_line, line_text}
use Rattle.theory.proofs.Tests.{clash, no_some}
use Rattle.theory.specs.Line.{Fits, of_do, of_device, of_held, of_start}
use Rattle.theory.proofs.Line.{verb_parts, verb_small, device_small_lem, line_parts, pack_line}
use Rattle.theory.proofs.Lists.{Answer, first_answer, has_up_from}
use Rattle.theory.proofs.Numbers.{decimal_digits, no_digit, digits_two, digits_three}
use Rattle.theory.proofs.Numbers.{number_decimal, decimal_number}
use Rattle.theory.proofs.Fields.{has_neither, field_last, field_first, tabbed_fields}
use Rattle.theory.proofs.Fields.{last_is, before_last, last_newline, EndsOnce}

-- ---- verbs

pub number_of_verb : (v : ℕ) → v < 5 → verb_number (verb v) ≡ some v
unfolding verb_number verb
number_of_verb zero h = refl
number_of_verb (suc zero) h = refl
number_of_verb (suc (suc zero)) h = refl
number_of_verb (suc (suc (suc zero))) h = refl
number_of_verb (suc (suc (suc (suc zero)))) h = refl
number_of_verb (suc (suc (suc (suc (suc v))))) h = absurd (omega arith)

pub same_list : (s t : List ℕ) → same s t ≡ true → s ≡ t
unfolding same
same_list [] [] h = refl
same_list [] (y ∷ t) h = clash false h refl
same_list (x ∷ s) [] h = clash false h refl
same_list (x ∷ s) (y ∷ t) h = go (eqb x y) refl h (same_list s t)
  where
    go : (b : Bool) → eqb x y ≡ b → elim b [ true ↦ same s t | false ↦ false ] ≡ true → (same s t ≡ true → s ≡ t)
        → x ∷ s ≡ y ∷ t
    go true e h ih = rw (eqb-true x y e, ih h)
    go false e h ih = clash false h refl

pub verb_of_number : (s : List ℕ) (v : ℕ) → verb_number s ≡ some v → (s ≡ verb v) × (v < 5)
unfolding verb_number
verb_of_number s v e =
    let test : ℕ → Bool = λ v. same s (verb v) in
    let a : Answer test (up_from 0 5) (some v) =
    subst (Answer test (up_from 0 5)) e (first_answer test (up_from 0 5)) in
    (same_list s (verb v) a.1, omega (arith, (has_up_from 0 5 v a.0).1))

-- ---- a line and its three fields

digits_without : (b n : ℕ) → is_digit b ≡ false → has b (decimal n) ≡ false
digits_without b n h = no_digit b h (decimal n) (decimal_digits n)

verb_without : (v : ℕ) → (has tab (verb v) ≡ false) × (has newline (verb v) ≡ false)
unfolding has verb
verb_without zero = (refl, refl)
verb_without (suc zero) = (refl, refl)
verb_without (suc (suc zero)) = (refl, refl)
verb_without (suc (suc (suc zero))) = (refl, refl)
verb_without (suc (suc (suc (suc zero)))) = (refl, refl)
verb_without (suc (suc (suc (suc (suc v))))) = (refl, refl)

-- the three fields with their tabs, without the newline
abbrev joined : List ℕ → List ℕ → List ℕ → List ℕ
joined j v o = j ++ (tab ∷ (v ++ (tab ∷ o)))

tabbed_three : (j v o : List ℕ) → tabbed (j ∷ v ∷ o ∷ []) ≡ joined j v o ++ (newline ∷ [])
unfolding tabbed
tabbed_three j v o = simp append_assoc

fields_three : (j v o : List ℕ) → has tab j ≡ false → has tab v ≡ false → has tab o ≡ false
    → fields_of (joined j v o) ≡ j ∷ v ∷ o ∷ []
fields_three j v o a b c = field_first j (v ++ (tab ∷ o)) a ∙ rw (field_first v o b, field_last o c)

-- the text of a line without its newline
abbrev body_of : ℕ → List ℕ
body_of l = joined (decimal (job l)) (verb (verb_of l)) (decimal (device_of l))

line_text_lem : (l : ℕ) → line_text l ≡ body_of l ++ (newline ∷ [])
unfolding line_text
line_text_lem l = tabbed_three (decimal (job l)) (verb (verb_of l)) (decimal (device_of l))

line_fields : (l : ℕ) → fields_of (body_of l) ≡ decimal (job l) ∷ verb (verb_of l) ∷ decimal (device_of l) ∷ []
unfolding is_digit
line_fields l =
    fields_three (decimal (job l)) (verb (verb_of l)) (decimal (device_of l)) (digits_without tab (job l) refl)
    (verb_without (verb_of l)).0 (digits_without tab (device_of l) refl)

pub line_ends : (l : ℕ) → EndsOnce (line_text l)
unfolding is_digit has
line_ends l = record { body = body_of l; clean = clean; whole = line_text_lem l }
  where
    clean : has newline (body_of l) ≡ false
    clean =
        has_neither newline (decimal (job l)) (tab ∷ (verb (verb_of l) ++ (tab ∷ decimal (device_of l))))
        (digits_without newline (job l) refl)
        (has_neither newline (verb (verb_of l)) (tab ∷ decimal (device_of l)) (verb_without (verb_of l)).1
        (digits_without newline (device_of l) refl))

-- ---- how long

-- verb and operand together
verb_operand : (S : Settings) (v o : ℕ) → o < 256 → Fits S v o → length (verb v) + length (decimal o) ≤ 7
unfolding verb
verb_operand S v o b (of_do e h) = rw e (omega (arith, digits_three o (omega arith)))
verb_operand S v o b (of_device (inl e) h) = rw e (omega (arith, digits_three o (omega arith)))
verb_operand S v o b (of_device (inr e) h) = rw e (omega (arith, digits_three o (omega arith)))
verb_operand S v o b (of_held e m h) = rw e (omega (arith, digits_three o (omega arith)))
verb_operand S v o b (of_start e h g) = rw e (omega (arith, digits_two o (omega arith)))

pub line_length : (S : Settings) (l : ℕ) → is_line S l ≡ true → length (line_text l) ≤ 12
line_length S l h =
    let r = line_parts S l h in
    rw (line_text_lem l)
    (simp length-append
    (omega (
      arith,
      digits_two (job l) (omega (arith, r.1)),
      verb_operand S (verb_of l) (device_of l) (device_small_lem l) r.2,
    )))

-- ---- the text read, and the number written

packed_ended : (S : Settings) (b : List ℕ) → packed_line S (b ++ (newline ∷ [])) ≡ from_fields S (fields_of b)
unfolding packed_line
packed_ended S b = rw (last_is b newline 0, before_last b newline)

pub packed_text : (S : Settings) (l : ℕ) → is_line S l ≡ true → packed_line S (line_text l) ≡ some l
unfolding from_fields packed_from is_line
packed_text S l h =
    rw (
      line_text_lem l,
      packed_ended S (body_of l),
      line_fields l,
      number_decimal (job l),
      number_decimal (device_of l),
      number_of_verb (verb_of l) (verb_small l),
      h,
      verb_parts l,
    )

fields_packed : (S : Settings) → S.devices ≤ held_from → (fs : List (List ℕ)) (l : ℕ) → from_fields S fs ≡ some l
    → (line_text l ≡ tabbed fs) × (is_line S l ≡ true)
unfolding from_fields packed_from line_text
fields_packed S d [] l e = no_some e
fields_packed S d (j ∷ []) l e = no_some e
fields_packed S d (j ∷ v ∷ []) l e = no_some e
fields_packed S d (j ∷ v ∷ o ∷ x ∷ fs) l e = no_some e
fields_packed S d (j ∷ v ∷ o ∷ []) l e = go (number j) (verb_number v) (number o) refl refl refl e
  where
    line : (n k m : ℕ) → number j ≡ some n → verb_number v ≡ some k → number o ≡ some m
        → (t : Bool) → line_fits S n k m ≡ t → cond t (some (pack_verb n k m)) none ≡ some l
        → (line_text l ≡ tabbed (j ∷ v ∷ o ∷ [])) × (is_line S l ≡ true)
    line n k m a b c false h e = no_some e
    line n k m a b c true h e =
        let p = pack_line S d n k m h in
        let g = p.0 in
        let q : pack_verb n k m ≡ l = some-injective (pack_verb n k m) l e in
        let w = (verb_of_number v k b).0 in
        (rw (← q, g.of_job, g.of_verb, g.named, decimal_number j n a, decimal_number o m c, w), rw (← q) p.1)

    go : (a b c : Option ℕ) → number j ≡ a → verb_number v ≡ b → number o ≡ c → packed_from S a b c ≡ some l
        → (line_text l ≡ tabbed (j ∷ v ∷ o ∷ [])) × (is_line S l ≡ true)
    go none b c p q r e = no_some e
    go (some n) none c p q r e = no_some e
    go (some n) (some k) none p q r e = no_some e
    go (some n) (some k) (some m) p q r e = line n k m p q r (line_fits S n k m) refl e

-- a text that reads as a number is that number's text, and the number is a line's
pub text_packed : (S : Settings) → S.devices ≤ held_from → (s : List ℕ) (l : ℕ) → packed_line S s ≡ some l
    → (line_text l ≡ s) × (is_line S l ≡ true)
unfolding packed_line
text_packed S d s l e = go (eqb (get_last_d s 0) newline) refl e
  where
    go : (t : Bool) → eqb (get_last_d s 0) newline ≡ t → cond t (from_fields S (fields_of (drop_last s))) none ≡ some l
        → (line_text l ≡ s) × (is_line S l ≡ true)
    go false h e = no_some e
    go true h e =
        let r = fields_packed S d (fields_of (drop_last s)) l e in
        (r.0 ∙ (tabbed_fields (drop_last s) ∙ last_newline s (eqb-true (get_last_d s 0) newline h)), r.1)

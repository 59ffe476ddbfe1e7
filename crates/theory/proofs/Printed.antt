-- What is printed for a text fits the screens' buffer of 4,027 bytes (01, "Plans with their verdicts"), with at most 99
-- devices, in the morning as at midday. A refusal takes at most 16 bytes: its number has two digits at most, and its
-- place is a line of at most 1,025 or a device. An order takes at most 14 for its first line and 4,013 for the rest:
-- each of at most 1,024 lines stands there once at most, at two bytes and one more from each of 10, 100 and 1,000 on.
use Prim.Native.Nat.{ℕ, zero, suc, ◌+◌, ◌-◌, ◌*◌, ◌≤◌, ◌<◌}
use mathlib.Core.Bool.{Bool, true, false, cond, ◌||◌}
use mathlib.Core.List.{List, [], ◌∷◌, ◌++◌, map, flat_map, head_d}
use mathlib.Core.Logic.{◌⊎◌, inl, inr}
use mathlib.Core.Option.{Option, none, some}
use mathlib.Core.Path.{◌≡◌, refl, ◌∙◌}
use native.Mathlib.Omega.{arith}
use lib.Dec.{ltb}
use lib.ListN.{length, length-append, length-map}
use borrow.Author.Tests.{lt-ltb, le-ltb}
use Rattle.model.specs.Lists.{up_from, has, first_of}
use Rattle.model.specs.Answers.{number_of, place_of, refuse_if, refuse_at, first_refusal}
use Rattle.model.specs.Line.{Settings, morning, line_number, first_line, max_lines, max_bytes}
use Rattle.model.specs.Text.{decimal, tabbed, spelt}
use Rattle.model.specs.WellFormed.{WellFormed, fault}
use Rattle.model.specs.Mate.{held_lines, steps}
use Rattle.model.specs.Legal.{held, MayFollow, Follow, Legal}
use Rattle.model.specs.Handed.{handed}
use Rattle.model.specs.Verdict.{two_lasting, circle_of, circle, takes_kept, stays_open, hindered, no_order, held_at_end}
use Rattle.model.specs.Entries.{text_fault}
use Rattle.model.specs.Printed.{order_word, refused_word, printed_line, printed_refusal, printed_order, printed_by}
use Rattle.model.specs.Printed.{printed}
use Rattle.model.specs.Printed.{screen_room}
use Rattle.model.specs.declared.Refusal.{Refusal}
use Rattle.model.specs.declared.Refusal.TheVariants.{TextTooLong, TwoLasting, LeadsBack}
use Rattle.theory.proofs.Tests.{or_split, or_left, or_right, le_or_lt}
use Rattle.theory.proofs.Lists.{has_head, has_up_from, those_length, Answer, first_answer, left, left_le}
use Rattle.theory.proofs.Lists.{left_lt, left_zero, among}
use Rattle.theory.proofs.Answers.{number_range, all_tests, also, first_each}
use Rattle.theory.specs.WellFormed.{BrokenAt, too_many, malformed, out_of_sequence, bad_start, bad_give, held_twice}
use Rattle.theory.specs.WellFormed.{held_late}
use Rattle.theory.specs.WellFormed.{Broken, at_line, no_lines, no_start}
use Rattle.theory.proofs.WellFormed.{FaultView, broken, fault_view}
use Rattle.theory.proofs.Morning.{all_steps}
use Rattle.theory.proofs.WellFormed.{no_fault_exactly, no_held_in_morning}
use Rattle.theory.proofs.Claims.{length_up_from}
use Rattle.theory.proofs.Successors.{first_is}
use Rattle.theory.proofs.LineByLine.{more_old, more_new}
use Rattle.theory.proofs.Verdict.{accepted_is_legal}
use Rattle.theory.proofs.Judged.{steps_counted, steps_left, steps_few, legal_whole}
use Rattle.theory.proofs.Numbers.{digits_one, digits_two, digits_three, digits_four}
use Rattle.theory.proofs.Text.{no_text_fault}

pub three_fields : (f g h : List ℕ) → length (tabbed (f ∷ g ∷ h ∷ [])) ≡ length f + length g + length h + 3
unfolding tabbed
three_fields f g h = simp length-append (omega arith)

-- ---- a refusal

pub refusal_length : (r : Refusal) → number_of r < 100 → place_of r < 10000 → length (printed_refusal r) ≤ 16
unfolding printed_refusal
refusal_length r n p = rw three_fields (omega (arith, digits_two (number_of r) n, digits_four (place_of r) p))

-- the faults of a plan are at a line of at most 1,025
broken_place : (S : Settings) (p : List ℕ) (r : Refusal) → Broken S p r → place_of r ≤ suc max_lines
unfolding line_number head_d
broken_place S p r (at_line k s b f h) = go s h
  where
    go : (s : Refusal) → BrokenAt S p k s → place_of s ≤ suc max_lines
    go s (too_many h) = omega arith
    go s (malformed h a) = omega arith
    go s (out_of_sequence h a b) = omega arith
    go s (bad_start h a b c d) = omega arith
    go s (bad_give h a b c d) = omega arith
    go s (held_twice h a b c d) = omega arith
    go s (held_late h a b c d e) = omega arith
broken_place S p r (no_lines i f b e low) = omega (arith, (f i b).few)
broken_place S p r (no_start m j f g a b e low) = first (first_line j p) (λ k h. (first_is j p k h).0)
  where
    first : (ks : List ℕ) → ((k : ℕ) → has k ks ≡ true → k < length p) → line_number (head_d ks 0) ≤ suc max_lines
    first [] h = omega arith
    first (k ∷ ks) h = omega (arith, (f k (h k (has_head k ks))).few)

pub broken_bounds : (S : Settings) (p : List ℕ) (r : Refusal) → Broken S p r
    → (number_of r ≤ 17) × (place_of r ≤ suc max_lines)
broken_bounds S p r b = ((number_range r).1, broken_place S p r b)

-- a refusal, if there is one, has one of the seventeen numbers, and a place of at most 1,025
abbrev pub Short : Option Refusal → Type 0
Short none = Unit {0}
Short (some r) = (number_of r ≤ 17) × (place_of r ≤ suc max_lines)

pub fault_short : (S : Settings) (text : List ℕ) → Short (text_fault S text)
unfolding text_fault refuse_if
fault_short S text =
    first_each Short (refuse_if (ltb max_bytes (length text)) TextTooLong ∷ fault S p ∷ []) tt
    (also (too_long_lem (ltb max_bytes (length text))) (also (of_plan (fault S p) (fault_view S p)) all_tests))
  where
    p : List ℕ
    p = spelt S text

    too_long_lem : (b : Bool) → Short (refuse_if b TextTooLong)
    too_long_lem true = (omega arith, omega arith)
    too_long_lem false = tt

    of_plan : (x : Option Refusal) → FaultView S p x → Short x
    of_plan none v = tt
    of_plan (some r) (broken s h) = let b = broken_bounds S p s h in (omega (arith, b.0), b.1)

pub no_order_short : (D : ℕ) → D ≤ max_lines → (p : List ℕ) → Short (no_order D p)
unfolding no_order two_lasting circle circle_of hindered refuse_at
no_order_short D d p =
    first_each Short (two_lasting D p ∷ circle D p ∷ hindered D p ∷ []) tt
    (also (lowest TwoLasting (λ n h. (omega arith, omega arith)) _)
    (also (back _) (also (if_so (takes_kept p || stays_open p) _ (back _)) all_tests)))
  where
    lowest : (says : ℕ → Refusal) → ((n : ℕ) → n < D → Short (some (says n))) → (f : ℕ → Bool)
        → Short (refuse_at says (first_of f (up_from 0 D)))
    lowest says h f = go (first_of f (up_from 0 D)) (first_answer f (up_from 0 D))
      where
        go : (x : Option ℕ) → Answer f (up_from 0 D) x → Short (refuse_at says x)
        go none a = tt
        go (some n) a = h n (omega (arith, (has_up_from 0 D n a.0).1))

    back : (f : ℕ → Bool) → Short (refuse_at LeadsBack (first_of f (up_from 0 D)))
    back f = lowest LeadsBack (λ n h. (omega arith, omega arith)) f

    if_so : (b : Bool) (x : Option Refusal) → Short x → Short (cond b x none)
    if_so true x h = h
    if_so false x h = tt

-- ---- what of a legal order is still to come

-- line k is done, or stands before position t
abbrev passed : ℕ → List ℕ → ℕ → Bool
passed t done k = has k done || ltb k t

-- how many of n lines, from position t on, are still to come
abbrev to_come : ℕ → ℕ → List ℕ → ℕ
to_come n t done = left (passed t done) n

all_to_come : (t n : ℕ) → to_come n t [] ≤ n - t
unfolding left has
all_to_come t zero = omega arith
all_to_come t (suc n) = go (le_or_lt t n) (all_to_come t n)
  where
    go : (t ≤ n) ⊎ (n < t) → to_come n t [] ≤ n - t → to_come (suc n) t [] ≤ suc n - t
    go (inl h) ih = rw (le-ltb n t h) (omega arith)
    go (inr h) ih = rw (lt-ltb n t h) (omega arith)

to_come_lem : (t n : ℕ) (done : List ℕ) → to_come n t done ≤ n - t
unfolding has
to_come_lem t n done =
    omega (
      arith,
      all_to_come t n,
      left_le (passed t []) (passed t done) (λ k e. or_right (has k done) (ltb k t) e) n,
    )

-- the bytes of their numbers, each with its newline: two, and one more from each of 10, 100 and 1,000 on
abbrev bytes_to_come : ℕ → List ℕ → ℕ
bytes_to_come n done = 2 * to_come n 0 done + to_come n 9 done + to_come n 99 done + to_come n 999 done

-- at a step
module _ (p done : List ℕ) (i : ℕ) (m : MayFollow p done i) where
  abbrev next : List ℕ
  next = done ++ (i ∷ [])

  still_passed : (t k : ℕ) → passed t done k ≡ true → passed t next k ≡ true
  still_passed t k h = go (or_split (has k done) (ltb k t) h)
    where
      go : (has k done ≡ true) ⊎ (ltb k t ≡ true) → passed t next k ≡ true
      go (inl e) = or_left (has k next) (ltb k t) (more_old k i done e)
      go (inr e) = or_right (has k next) (ltb k t) e

  no_more : (t : ℕ) → to_come (length p) t next ≤ to_come (length p) t done
  no_more t = left_le (passed t done) (passed t next) (still_passed t) (length p)

  less : (t : ℕ) → t ≤ i → to_come (length p) t next < to_come (length p) t done
  less t h =
      left_lt (passed t done) (passed t next) (still_passed t) i (rw (m.once, le-ltb i t h))
      (or_left (has i next) (ltb i t) (more_new i done)) (length p) m.line

  fewer_bytes : length p ≤ max_lines
      → length (decimal (line_number i)) + 1 + bytes_to_come (length p) next ≤ bytes_to_come (length p) done
  unfolding line_number
  fewer_bytes few = go (le_or_lt 9 i) (le_or_lt 99 i) (le_or_lt 999 i) (less 0 (omega arith))
    where
      go : (9 ≤ i) ⊎ (i < 9) → (99 ≤ i) ⊎ (i < 99) → (999 ≤ i) ⊎ (i < 999)
          → to_come (length p) 0 next < to_come (length p) 0 done
          → length (decimal (suc i)) + 1 + bytes_to_come (length p) next ≤ bytes_to_come (length p) done
      go (inr a) b c l = omega (arith, digits_one (suc i) (omega arith), no_more 9, no_more 99, no_more 999)
      go (inl a) (inr b) c l = omega (arith, digits_two (suc i) (omega arith), less 9 a, no_more 99, no_more 999)
      go (inl a) (inl b) (inr c) l = omega (arith, digits_three (suc i) (omega arith), less 9 a, less 99 b, no_more 999)
      go (inl a) (inl b) (inl c) l =
          omega (arith, digits_four (suc i) (omega (arith, m.line)), less 9 a, less 99 b, less 999 c)

-- a legal order has as many entries as the plan has steps
pub legal_length : (p o : List ℕ) → Legal p o → length o ≡ length (steps p)
legal_length p o legal =
    omega (
      arith,
      steps_counted p (held_lines p) o legal.steps,
      left_zero (among (held_lines p ++ o)) (length p) (legal_whole p o legal),
      steps_left p,
    )

-- which are all its lines in the morning, when no line is held
pub morning_length : (D : ℕ) (p o : List ℕ) → WellFormed (morning D) p → Legal p o → length o ≡ length p
morning_length D p o w legal = legal_length p o legal ∙ all_steps p (no_held_in_morning D p w)

-- ---- an order

-- its line numbers, each on a line of its own
abbrev numbered : List ℕ → List ℕ
numbered o = flat_map (λ n. tabbed (decimal n ∷ [])) (map line_number o)

numbered_length : (p o : List ℕ) → length p ≤ max_lines → Legal p o → length (numbered o) ≤ 4013
unfolding tabbed flat_map
numbered_length p o few legal =
    let n : ℕ = length p in
    let d : List ℕ = held_lines p in
    omega (
      arith,
      follow d o legal.steps,
      to_come_lem 0 n d,
      to_come_lem 9 n d,
      to_come_lem 99 n d,
      to_come_lem 999 n d,
    )
  where
    follow : (done o : List ℕ) → Follow p done o → length (numbered o) ≤ bytes_to_come (length p) done
    follow done [] s = omega arith
    follow done (i ∷ o) s =
        simp length-append (omega (arith, fewer_bytes p done i s.0 few, follow (done ++ (i ∷ [])) o s.1))

order_is : (o : List ℕ) (still_held : ℕ)
    → printed_order (map line_number o) still_held
    ≡ tabbed (order_word ∷ decimal (length (map line_number o)) ∷ decimal still_held ∷ []) ++ numbered o
unfolding printed_order
order_is o still_held = refl

pub order_length : (p o : List ℕ) (still_held : ℕ) → length p ≤ max_lines → Legal p o → still_held ≤ 99
    → length (printed_order (map line_number o) still_held) ≤ screen_room
unfolding order_word
order_length p o still_held few legal h =
    rw (order_is, length-append, three_fields, length-map)
    (omega (
      arith,
      digits_four (length o) (omega (arith, legal_length p o legal, steps_few p)),
      digits_two still_held (omega arith),
      numbered_length p o few legal,
    ))

pub held_few : (D : ℕ) (p : List ℕ) → held_at_end D p ≤ D
unfolding held_at_end
held_few D p = omega (arith, those_length (held p (held_lines p ++ handed p)) (up_from 0 D), length_up_from 0 D)

-- ---- what is printed

pub printed_is : (S : Settings) (text : List ℕ)
    → printed S text
    ≡ printed_by (first_refusal (text_fault S text ∷ no_order S.devices (spelt S text) ∷ []))
    (map line_number (handed (spelt S text))) (held_at_end S.devices (spelt S text))
unfolding printed
printed_is S text = refl

-- The theorem.
pub printed_fits : (S : Settings) → S.devices ≤ 99 → (text : List ℕ) → length (printed S text) ≤ screen_room
unfolding printed_by first_refusal
printed_fits S d text =
    rw printed_is
    (go (text_fault S text) (no_order D p) refl refl (fault_short S text) (no_order_short D (omega arith) p))
  where
    D : ℕ
    D = S.devices

    p : List ℕ
    p = spelt S text

    short : (r : Refusal) → Short (some r) → length (printed_refusal r) ≤ screen_room
    short r h = omega (arith, refusal_length r (omega arith) (omega arith))

    go : (x y : Option Refusal) → text_fault S text ≡ x → no_order D p ≡ y → Short x → Short y
        → length (printed_by (first_refusal (x ∷ y ∷ [])) (map line_number (handed p)) (held_at_end D p)) ≤ screen_room
    go (some r) y a b h g = short r h
    go none (some r) a b h g = short r g
    go none none a b h g =
        let sound = ((no_text_fault S text).0 a).1 in
        order_length p (handed p) (held_at_end D p) ((no_fault_exactly S p).0 sound).few (accepted_is_legal S p sound b)
        (omega (arith, held_few D p))

-- and something is printed
pub printed_some : (S : Settings) (text : List ℕ) → 0 < length (printed S text)
unfolding printed_by printed_refusal printed_order printed_line refused_word order_word tabbed
printed_some S text =
    rw printed_is (go (first_refusal (text_fault S text ∷ no_order S.devices (spelt S text) ∷ [])))
  where
    go : (x : Option Refusal)
        → 0 < length (printed_by x (map line_number (handed (spelt S text))) (held_at_end S.devices (spelt S text)))
    go none = omega arith
    go (some r) = omega arith

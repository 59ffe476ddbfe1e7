-- 01, "The plan as text" (numbers): a number's text is read as that number, and what is read as a number is that
-- number's text. An operand is read with up to three digits at once; what is picked is what `fields` finds byte by
-- byte.
use Prim.Native.Nat.{ℕ, zero, suc, ◌+◌, ◌-◌, ◌*◌, ◌%◌, ◌≤◌, ◌<◌}
use mathlib.Core.Bool.{Bool, true, false, cond}
use mathlib.Core.List.{List, [], ◌∷◌, ◌++◌, append_assoc}
use mathlib.Core.Logic.{◌⊎◌, inl, inr}
use mathlib.Core.Option as Math
use mathlib.Core.Option.{none, some}
use mathlib.Core.Path.{◌≡◌, refl, sym, ◌∙◌, ap}
use native.Mathlib.Nat.{add_assoc}
use native.Mathlib.Omega.{arith}
use lib.Dec.{eqb, leb}
use lib.ListN.{length, get_or, drop, length-append}
use borrow.Author.Tests.{eqb-true, eqb-false, eq-eqb, ne_eqb, le-leb, lt-leb, leb-true}
use Rattle.std.specs.Prelude.{Option, Some, None}
use Rattle.std.specs.List.{slice_range}
use Rattle.std.proofs.lemmas.List.{get_or_past, get_or-drop, take_rest}
use Rattle.model.specs.Lists.{all, has}
use Rattle.model.specs.Text.{newline, is_digit, number, decimal}
use Rattle.theory.proofs.Tests.{clash, and_split, le_or_lt}
use Rattle.theory.proofs.Lists.{has_head, has_right}
use Rattle.theory.proofs.Numbers.{decimal_digits, number_decimal, decimal_number}
use Rattle.fields.specs.Number.{up_to, at_most, number_at, kept_below, longer_by}
use Rattle.fields.specs.declared.Number.{Number}
use Rattle.fields.proofs.Reading.{Reading, none_read, no_end, ended, stopped, read_on}
use Rattle.lines.specs.Fields.{joined_by}

-- ---- a number's text

-- with the byte that ends its field
unfoldable pub spelling : ℕ → ℕ → List ℕ
unfolding decimal
spelling end v = decimal v ++ (end ∷ [])

front_of : (end : ℕ) (f rest : List ℕ) → is_digit end ≡ false → all is_digit f ≡ true
    → up_to end (f ++ (end ∷ rest)) ≡ f
unfolding up_to all
front_of end [] rest n d = rw (eq-eqb end end refl, up_to)
front_of end (b ∷ f) rest n d =
    let r = and_split (is_digit b) (all is_digit f) d in
    rw (ne_eqb end b (λ e. clash (is_digit b) r.0 (rw (← e) n)), up_to, front_of end f rest n r.1)

-- it is read as that number
pub field_whole : (end from v : ℕ) (text rest : List ℕ) → is_digit end ≡ false → v ≤ 255
    → drop from text ≡ spelling end v ++ rest
    → number_at text from end 255 ≡ Some (record { value = v; past = from + length (spelling end v) })
unfolding number_at at_most spelling
field_whole end from v text rest n h e =
    let x : drop from text ≡ decimal v ++ (end ∷ rest) = e ∙ append_assoc (decimal v) (end ∷ []) rest in
    rw (
      x,
      has_right end (decimal v) (end ∷ rest) (has_head end rest),
      front_of end (decimal v) rest n (decimal_digits v),
      number_decimal v,
      le-leb v 255 h,
    )
    (ap (λ (p : ℕ). Some (record { value = v; past = p })) (omega (arith, length-append (decimal v) (end ∷ []))))

-- a number and the byte that ends its field stand in front
pub record Spells (end i : ℕ) (s : List ℕ) (n : Number) : Type 0 where
  pub rest : List ℕ
  pub small : n.value ≤ 255
  pub whole : s ≡ spelling end n.value ++ rest
  pub ends : n.past ≡ i + length (spelling end n.value)

front : (end : ℕ) (s : List ℕ) → has end s ≡ true → (rest : List ℕ) × (s ≡ up_to end s ++ (end ∷ rest))
unfolding has up_to
front end [] h = clash false h refl
front end (b ∷ s) h = go (eqb end b) refl h (front end s)
  where
    go : (t : Bool) → eqb end b ≡ t → has end (b ∷ s) ≡ true
        → (has end s ≡ true → (rest : List ℕ) × (s ≡ up_to end s ++ (end ∷ rest)))
        → (rest : List ℕ) × (b ∷ s ≡ up_to end (b ∷ s) ++ (end ∷ rest))
    go true e h ih = let z = eqb-true end b e in (s, rw (e, up_to, ← z))
    go false e h ih = let r = ih (rw e at h) in (r.0, rw (e, up_to) (ap {B = List ℕ} (λ l. b ∷ l) r.1))

-- what is read as a number is its text
pub field_sound : (end from : ℕ) (text : List ℕ) (n : Number) → number_at text from end 255 ≡ Some n
    → Spells end from (drop from text) n
unfolding number_at at_most spelling
field_sound end from text n e = go (has end s) refl e
  where
    s : List ℕ
    s = drop from text

    f : List ℕ
    f = up_to end s

    past : ℕ
    past = from + length f + 1

    fits : (rest : List ℕ) → s ≡ f ++ (end ∷ rest) → (w : ℕ) → number f ≡ some w → (t : Bool) → leb w 255 ≡ t
        → cond t (Some (record { value = w; past = past })) None ≡ Some n → Spells end from s n
    fits rest x w m false t e = cc
    fits rest x w m true t e =
        let d = decimal_number f w m in
        let wv : w ≡ n.value = cc in
        let pv : past ≡ n.past = cc in
        record {
          rest = rest;
          small = omega (arith, leb-true w 255 t);
          whole = rw (← wv, append_assoc, d) x;
          ends = rw (← wv, length-append) (omega (arith, ap length d));
        }

    spelt : (rest : List ℕ) → s ≡ f ++ (end ∷ rest) → (o : Math.Option ℕ) → number f ≡ o
        → at_most 255 past o ≡ Some n → Spells end from s n
    spelt rest x none m e = cc
    spelt rest x (some w) m e = fits rest x w m (leb w 255) refl e

    go : (t : Bool) → has end s ≡ t → cond t (at_most 255 past (number f)) None ≡ Some n → Spells end from s n
    go false h e = cc
    go true h e = let r = front end s h in spelt r.0 r.1 (number f) refl e

-- ---- one digit more

pub digit_range : (b : ℕ) → is_digit b ≡ true → (48 ≤ b) × (b ≤ 57)
unfolding is_digit
digit_range b e = let r = and_split (leb 48 b) (leb b 57) e in (leb-true 48 b r.0, leb-true b 57 r.1)

-- the last four bits of a digit's byte are its value
pub joined_bits : (v b : ℕ) → cond (is_digit b) (v * 10 + b % 16) 256 ≡ joined_by v b
unfolding joined_by
joined_bits v b = go (is_digit b) refl
  where
    go : (t : Bool) → is_digit b ≡ t → cond t (v * 10 + b % 16) 256 ≡ cond t (v * 10 + (b - 48)) 256
    go false e = refl
    go true e = let r = digit_range b e in omega arith

pub joined_small : (v b : ℕ) → joined_by v b ≤ v * 10 + 256
unfolding joined_by
joined_small v b = go (is_digit b) refl
  where
    go : (t : Bool) → is_digit b ≡ t → cond t (v * 10 + (b - 48)) 256 ≤ v * 10 + 256
    go false e = omega arith
    go true e = let r = digit_range b e in omega arith

-- past the end of the text stands no digit, and none ends a line
joined_none : (v : ℕ) → joined_by v 0 ≡ 256
unfolding joined_by is_digit
joined_none v = refl

joined_end : joined_by 0 newline ≡ 256
unfolding joined_by is_digit
joined_end = refl

-- a value that passes has the one before in front
pub joined_grows : (v b : ℕ) → joined_by v b ≤ 255 → v * 10 ≤ joined_by v b
unfolding joined_by
joined_grows v b = go (is_digit b)
  where
    go : (t : Bool) → cond t (v * 10 + (b - 48)) 256 ≤ 255 → v * 10 ≤ cond t (v * 10 + (b - 48)) 256
    go false h = absurd (omega arith)
    go true h = omega arith

-- what is joined to a value that does not pass does not pass
joined_large : (v b : ℕ) → 255 < v → 255 < joined_by v b
joined_large v b h = go (le_or_lt (joined_by v b) 255)
  where
    go : (joined_by v b ≤ 255) ⊎ (255 < joined_by v b) → 255 < joined_by v b
    go (inl g) = absurd (omega (arith, joined_grows v b g))
    go (inr g) = g

-- ---- an operand, digit by digit

-- joining to v, and asking whether the value passes, is what a byte more makes of a field
abbrev Joins : Option ℕ → ℕ → Type 0
Joins o v = (b : ℕ) → longer_by o b 255 ≡ kept_below 255 (Some (joined_by v b))

joins_none : Joins None 0
unfolding longer_by joined_by
joins_none b = go (is_digit b)
  where
    go : (t : Bool)
        → cond t (kept_below 255 (Some (b - 48))) None ≡ kept_below 255 (Some (cond t (0 * 10 + (b - 48)) 256))
    go true = ap (λ (n : ℕ). kept_below 255 (Some n)) (omega arith)
    go false = refl

-- no digit comes behind a nought
joins_front : (v : ℕ) → Joins (Some v) (cond (eqb v 0) 256 v)
unfolding longer_by joined_by
joins_front zero b = rw (lt-leb (joined_by 256 b) 255 (joined_large 256 b (omega arith))) (go (is_digit b))
  where
    go : (t : Bool) → let none : Option ℕ = None in cond t none none ≡ none
    go true = refl
    go false = refl
joins_front (suc v) b = rw (ne_eqb (suc v) 0 (λ e. omega arith)) (go (is_digit b))
  where
    go : (t : Bool) → cond t (kept_below 255 (Some (suc v * 10 + (b - 48)))) None
        ≡ kept_below 255 (Some (cond t (suc v * 10 + (b - 48)) 256))
    go true = refl
    go false = refl

module _ (text : List ℕ) (from : ℕ) where
  abbrev answer : Option Number
  answer = number_at text from newline 255

  abbrev Here : Option ℕ → ℕ → Type 0
  Here o at = Reading text from newline 255 o at

  -- the byte that ends the line stands at no place past the text
  within : (at : ℕ) → get_or text at 0 ≡ newline → at < length text
  within at e = go (le_or_lt (length text) at)
    where
      go : (length text ≤ at) ⊎ (at < length text) → at < length text
      go (inl h) = absurd (omega (arith, get_or_past text at 0 h))
      go (inr h) = h

  -- with one byte more the value passes, or the field is lost
  data Next (w at : ℕ) : Type 0 where
    lost : 255 < w → None ≡ answer → Next w at
    on : w ≤ 255 → Here (Some w) (at + 1) → Next w at

  next : {o : Option ℕ} {at : ℕ} → Here o at → (v : ℕ) → Joins o v → (get_or text at 0 ≡ newline → ⊥) → (w : ℕ)
      → w ≡ joined_by v (get_or text at 0) → Next w at
  next {o} {at} x v j n w e = go (le_or_lt (length text) at) (le_or_lt w 255)
    where
      b : ℕ
      b = get_or text at 0

      go : (length text ≤ at) ⊎ (at < length text) → (w ≤ 255) ⊎ (255 < w) → Next w at
      go (inl h) g = lost (rw (e, get_or_past text at 0 h, joined_none v) (omega arith)) (no_end x h)
      go (inr h) (inl g) = on g (read_on x h n w (sym (j b ∙ rw (← e, le-leb w 255 g))))
      go (inr h) (inr g) = lost g (stopped x h n (sym (j b ∙ rw (← e, lt-leb w 255 g))))

  -- what the code picked: a value that does not pass, one with the end behind its digits, or one of three digits
  pub data Picked (value digits : ℕ) : Type 0 where
    large : 255 < value → None ≡ answer → Picked value digits
    short : value ≤ 255 → Here (Some value) (from + digits) → get_or text (from + digits) 0 ≡ newline
        → Picked value digits
    full : value ≤ 255 → 26 ≤ value → Here (Some value) (from + digits) → Picked value digits

  module _ (one two three : ℕ) (e1 : one ≡ joined_by 0 (get_or text from 0))
      (e2 : two ≡ joined_by (cond (eqb one 0) 256 one) (get_or text (from + 1) 0))
      (e3 : three ≡ joined_by two (get_or text (from + 2) 0)) where
    -- where the first is none, neither do the others pass
    all_large : 255 < one → (t u : Bool) → 255 < cond t one (cond u two three)
    all_large h true u = h
    all_large h false u = go u
      where
        second : 255 < two
        second =
            rw e2
            (joined_large (cond (eqb one 0) 256 one) (get_or text (from + 1) 0)
            (rw (ne_eqb one 0 (λ e. omega arith)) h))

        go : (u : Bool) → 255 < cond u two three
        go true = second
        go false = rw e3 (joined_large two (get_or text (from + 2) 0) second)

    two_large : 255 < two → (u : Bool) → 255 < cond u two three
    two_large h true = h
    two_large h false = rw e3 (joined_large two (get_or text (from + 2) 0) h)

    front_some : 1 ≤ cond (eqb one 0) 256 one
    front_some = go (eqb one 0) refl
      where
        go : (t : Bool) → eqb one 0 ≡ t → 1 ≤ cond t 256 one
        go true e = omega arith
        go false e = let n = eqb-false one 0 e in omega arith

    two_some : two ≤ 255 → 10 ≤ two
    two_some h =
        omega (
          arith,
          joined_grows (cond (eqb one 0) 256 one) (get_or text (from + 1) 0) (rw (← e2) h),
          front_some,
        )

    joins_two : 1 ≤ two → Joins (Some two) two
    joins_two h b = rw (ne_eqb two 0 (λ e. omega arith)) at (joins_front two b)

    third : (u : Bool) → eqb (get_or text (from + 2) 0) newline ≡ u → Here (Some two) (from + 2) → two ≤ 255
        → Picked (cond u two three) (cond u 2 3)
    third true q x h = short h x (eqb-true (get_or text (from + 2) 0) newline q)
    third false q x h =
        go
        (next x two (joins_two (omega (arith, two_some h))) (eqb-false (get_or text (from + 2) 0) newline q) three e3)
      where
        go : Next three (from + 2) → Picked three 3
        go (lost g z) = large g z
        go (on g y) =
            full g
            (omega (arith, joined_grows two (get_or text (from + 2) 0) (rw (← e3) g), two_some h))
            (rw (add_assoc from 2 1) at y)

    second : (t u : Bool) → eqb (get_or text (from + 1) 0) newline ≡ t → eqb (get_or text (from + 2) 0) newline ≡ u
        → Here (Some one) (from + 1) → one ≤ 255
        → Picked (cond t one (cond u two three)) (cond t 1 (cond u 2 3))
    second true u p q x h = short h x (eqb-true (get_or text (from + 1) 0) newline p)
    second false u p q x h =
        go (next x (cond (eqb one 0) 256 one) (joins_front one) (eqb-false (get_or text (from + 1) 0) newline p) two e2)
      where
        go : Next two (from + 1) → Picked (cond u two three) (cond u 2 3)
        go (lost g z) = large (two_large g u) z
        go (on g y) = third u q (rw (add_assoc from 1 1) at y) g

    first : (t u : Bool) → eqb (get_or text (from + 1) 0) newline ≡ t → eqb (get_or text (from + 2) 0) newline ≡ u
        → Picked (cond t one (cond u two three)) (cond t 1 (cond u 2 3))
    first t u p q = here (eqb (get_or text from 0) newline) refl
      where
        start : Here None from
        start = none_read text from newline 255

        go : Next one from → Picked (cond t one (cond u two three)) (cond t 1 (cond u 2 3))
        go (lost g z) = large (all_large g t u) z
        go (on g y) = second t u p q y g

        here : (r : Bool) → eqb (get_or text from 0) newline ≡ r
            → Picked (cond t one (cond u two three)) (cond t 1 (cond u 2 3))
        here true r =
            let n = eqb-true (get_or text from 0) newline r in
            large (all_large (rw (e1, n, joined_end) (omega arith)) t u) (ended start (within from n) n)
        here false r = go (next start 0 joins_none (eqb-false (get_or text from 0) newline r) one e1)

    pub picked : {value digits : ℕ}
        → value ≡ cond (eqb (get_or text (from + 1) 0) newline) one
        (cond (eqb (get_or text (from + 2) 0) newline) two three)
        → digits ≡ cond (eqb (get_or text (from + 1) 0) newline) 1 (cond (eqb (get_or text (from + 2) 0) newline) 2 3)
        → Picked value digits
    picked ev ed =
        rw (ev, ed)
        (first (eqb (get_or text (from + 1) 0) newline) (eqb (get_or text (from + 2) 0) newline) refl refl)

  module _ {value digits : ℕ} (p : Picked value digits) where
    pub too_large : 255 < value → None ≡ answer
    too_large h = go p
      where
        go : Picked value digits → None ≡ answer
        go (large g z) = z
        go (short g x e) = absurd (omega arith)
        go (full g k x) = absurd (omega arith)

    module _ (h : value ≤ 255) where
      pub spelt : get_or text (from + digits) 0 ≡ newline
          → Some (record { value = value; past = from + digits + 1 }) ≡ answer
      spelt n = go p
        where
          go : Picked value digits → Some (record { value = value; past = from + digits + 1 }) ≡ answer
          go (large g z) = absurd (omega arith)
          go (short g x e) = ended x (within (from + digits) n) n
          go (full g k x) = ended x (within (from + digits) n) n

      pub unended : (get_or text (from + digits) 0 ≡ newline → ⊥) → None ≡ answer
      unended n = go p
        where
          more : 26 ≤ value → Next (joined_by value (get_or text (from + digits) 0)) (from + digits) → None ≡ answer
          more k (lost g z) = z
          more k (on g y) = absurd (omega (arith, joined_grows value (get_or text (from + digits) 0) g))

          joins : 26 ≤ value → Joins (Some value) value
          joins k b = rw (ne_eqb value 0 (λ e. omega arith)) at (joins_front value b)

          go : Picked value digits → None ≡ answer
          go (large g z) = z
          go (short g x e) = absurd (n e)
          go (full g k x) = more k (next x value (joins k) n (joined_by value (get_or text (from + digits) 0)) refl)

-- from the values as the code has them, of the bytes that stand from the place on
module _ (text rest : List ℕ) (from : ℕ) (e : rest ≡ slice_range text from (length text)) where
  pub byte_there : (k : ℕ) → get_or rest k 0 ≡ get_or text (from + k) 0
  byte_there k = rw (e, take_rest text from) (get_or-drop from text k 0)

  pub operand_picked : {a b c one front two three more value count digits : ℕ}
      → a ≡ get_or rest 0 0 → b ≡ get_or rest 1 0 → c ≡ get_or rest 2 0
      → one ≡ joined_by 0 a → front ≡ cond (eqb one 0) 256 one → two ≡ joined_by front b → three ≡ joined_by two c
      → more ≡ cond (eqb c newline) two three → value ≡ cond (eqb b newline) one more
      → count ≡ cond (eqb c newline) 2 3 → digits ≡ cond (eqb b newline) 1 count
      → Picked text from value digits
  operand_picked {a} {b} {c} {one} {front} {two} {three} ea eb ec e1 ef e2 e3 em ev en ed =
      let z : from + 0 ≡ from = omega arith in
      let pa : get_or text from 0 ≡ a = rw (← z) (sym (ea ∙ byte_there 0)) in
      let pb : get_or text (from + 1) 0 ≡ b = sym (eb ∙ byte_there 1) in
      let pc : get_or text (from + 2) 0 ≡ c = sym (ec ∙ byte_there 2) in
      picked text from one two three (rw pa e1) (rw (pb, ← ef) e2) (rw pc e3) (rw (pb, pc, ← em) ev)
      (rw (pb, pc, ← en) ed)

pub front_small : (a : ℕ) {one front : ℕ} → one ≡ joined_by 0 a → front ≡ cond (eqb one 0) 256 one → front ≤ 256
front_small a {one} e f = rw f (go (eqb one 0))
  where
    go : (t : Bool) → cond t 256 one ≤ 256
    go true = omega arith
    go false = omega (arith, e, joined_small 0 a)

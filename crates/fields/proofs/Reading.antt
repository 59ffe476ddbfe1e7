-- A number read byte by byte (01, "The plan as text", its words on numbers): the bytes passed are the digits of the
-- value at hand, and what is left of the text decides with them. That is what the definition by splitting gives.
use Prim.Native.Nat.{ℕ, zero, suc, ◌+◌, ◌-◌, ◌*◌, ◌/◌, ◌%◌, ◌≤◌, ◌<◌}
use mathlib.Core.Bool.{Bool, true, false, cond}
use mathlib.Core.List.{List, [], ◌∷◌, ◌++◌, append_assoc, append-nil}
use mathlib.Core.Logic.{◌⊎◌, inl, inr}
use mathlib.Core.Option as Math
use mathlib.Core.Option.{none, some, some-injective}
use mathlib.Core.Path.{◌≡◌, refl, sym, ◌∙◌, ap}
use native.Mathlib.Numerals.{add-one}
use native.Mathlib.Omega.{arith}
use lib.ListN.{length, get_or, drop, drop_of_length-le}
use lib.Seq.{drop-cons}
use borrow.Author.Tests.{leb-true, le-leb, lt-leb, eq-eqb, ne_eqb}
use Rattle.model.specs.Lists.{has}
use Rattle.model.specs.Text.{is_digit, is_number, number, decimal}
use Rattle.theory.proofs.Tests.{clash, no_some, test, and_split, le_or_lt}
use Rattle.theory.proofs.Lists.{has_head, has_right}
use Rattle.theory.proofs.Numbers.{decimal_small, decimal_step, decimal_digits, no_digit, number_decimal, decimal_number}
use Rattle.std.specs.Option.{option_map}
use Rattle.std.specs.Prelude.{Option, Some, None}
use Rattle.fields.specs.Number.{up_to, at_most, number_at, kept_below, longer_by}
use Rattle.fields.specs.declared.Number.{Number}

-- ---- digits with one byte more

-- a digit alone
digit_first : (b : ℕ) → is_digit b ≡ true → b ∷ [] ≡ decimal (b - 48)
unfolding is_digit
digit_first b d =
    let s = and_split _ _ d in
    let low = leb-true 48 b s.0 in
    let high = leb-true b 57 s.1 in
    let last : 48 + (b - 48) ≡ b = omega arith in
    rw (decimal_small (b - 48) (omega arith), last)

-- a digit behind those of a number other than nought
digit_more : (v b : ℕ) → 1 ≤ v → is_digit b ≡ true → decimal v ++ (b ∷ []) ≡ decimal (v * 10 + (b - 48))
unfolding is_digit
digit_more v b h d =
    let s = and_split _ _ d in
    let low = leb-true 48 b s.0 in
    let high = leb-true b 57 s.1 in
    let w : ℕ = v * 10 + (b - 48) in
    let tenth : w / 10 ≡ v = omega arith in
    let last : 48 + w % 10 ≡ b = omega arith in
    rw (decimal_step w (omega arith), tenth, last)

-- a byte that is no digit is in no number, and nought has nothing behind it
no_number : (front t : List ℕ) (b : ℕ) → is_digit b ≡ false → number (front ++ (b ∷ t)) ≡ none
no_number front t b d = go (number (front ++ (b ∷ t))) refl
  where
    go : (o : Math.Option ℕ) → number (front ++ (b ∷ t)) ≡ o → o ≡ none
    go none e = refl
    go (some n) e =
        let s = decimal_number (front ++ (b ∷ t)) n e in
        clash (has b (front ++ (b ∷ t))) (has_right b front (b ∷ t) (has_head b t))
        (rw s at (no_digit b d (decimal n) (decimal_digits n)))

after_nought : (b : ℕ) (t : List ℕ) → number (decimal 0 ++ (b ∷ t)) ≡ none
unfolding number is_number
after_nought b t = rw (decimal_small 0 (omega arith))

-- more digits make no less
no_less : (t : List ℕ) (v n : ℕ) → number (decimal v ++ t) ≡ some n → v ≤ n
no_less [] v n e =
    let z = some-injective v n (sym (number_decimal v) ∙ (ap number (sym (append-nil (decimal v))) ∙ e)) in
    omega arith
no_less (b ∷ t) v n e = go (test (is_digit b)) (le_or_lt 1 v) (no_less t (v * 10 + (b - 48)) n)
  where
    go : (is_digit b ≡ true) ⊎ (is_digit b ≡ false) → (1 ≤ v) ⊎ (v < 1)
        → (number (decimal (v * 10 + (b - 48)) ++ t) ≡ some n → v * 10 + (b - 48) ≤ n) → v ≤ n
    go d (inr h) ih = omega arith
    go (inl d) (inl h) ih = omega (arith, ih (rw (← digit_more v b h d, append_assoc) e))
    go (inr d) (inl h) ih = no_some (sym (no_number (decimal v) t b d) ∙ e)

-- ---- the rest of a field

module _ (end most : ℕ) where
  -- what the bytes from place i on make of a field that begins with some others
  abbrev pub reads : List ℕ → ℕ → List ℕ → Option Number
  reads front i s =
      cond (has end s) (at_most most (i + length (up_to end s) + 1) (number (front ++ up_to end s))) None

  reads_ends : (front : List ℕ) (i b : ℕ) (s : List ℕ) → b ≡ end
      → reads front i (b ∷ s) ≡ at_most most (i + 1) (number front)
  unfolding has up_to
  reads_ends front i b s e =
      rw (eq-eqb end b (sym e), up_to, append-nil front)
      (ap (λ (n : ℕ). at_most most n (number front)) (omega arith))

  reads_on : (front : List ℕ) (i b : ℕ) (s : List ℕ) → (b ≡ end → ⊥)
      → reads front i (b ∷ s) ≡ reads (front ++ (b ∷ [])) (i + 1) s
  unfolding has up_to
  reads_on front i b s n =
      let z : i + suc (length (up_to end s)) + 1 ≡ i + 1 + length (up_to end s) + 1 = omega arith in
      rw (ne_eqb end b (λ e. n (sym e)), up_to, z, append_assoc front (b ∷ []) (up_to end s))

  -- a field that spells no number that may be read, whatever follows
  reads_lost : (front : List ℕ)
      → ((t : List ℕ) (past : ℕ) → at_most most past (number (front ++ t)) ≡ None)
      → (i : ℕ) (s : List ℕ) → None ≡ reads front i s
  reads_lost front f i s = rw (f (up_to end s) (i + length (up_to end s) + 1)) (either (has end s))
    where
      either : (t : Bool) → let none : Option Number = None in none ≡ cond t none none
      either true = refl
      either false = refl

  -- the bytes of a field so far: none, or the digits of the value at hand
  pub data Front : List ℕ → Option ℕ → Type 0 where
    nothing : Front [] None
    spelt : (v : ℕ) → v ≤ most → Front (decimal v) (Some v)

  -- with a byte more: the digits of the value, or, where there is none, a field that is lost
  data Longer : List ℕ → Option ℕ → Type 0 where
    goes : {front : List ℕ} {w : ℕ} → Front front (Some w) → Longer front (Some w)
    stops : {front : List ℕ} → ((i : ℕ) (s : List ℕ) → None ≡ reads front i s) → Longer front None

  none_spelt : (front : List ℕ) → ((t : List ℕ) → number (front ++ t) ≡ none) → Longer front None
  unfolding at_most
  none_spelt front f = stops (reads_lost front (λ t past. rw (f t)))

  some_spelt : (v : ℕ) → Longer (decimal v) (kept_below most (Some v))
  unfolding at_most
  some_spelt v = go (le_or_lt v most)
    where
      over : (past : ℕ) (o : Math.Option ℕ) → ((n : ℕ) → o ≡ some n → most < n) → at_most most past o ≡ None
      over past none f = refl
      over past (some n) f = rw (lt-leb n most (f n refl))

      go : (v ≤ most) ⊎ (most < v) → Longer (decimal v) (kept_below most (Some v))
      go (inl h) = rw (le-leb v most h) (goes (spelt v h))
      go (inr h) =
          rw (lt-leb v most h)
          (stops (reads_lost (decimal v)
          (λ t past. over past (number (decimal v ++ t)) (λ n e. omega (arith, no_less t v n e)))))

  longer_front : {front : List ℕ} {v : Option ℕ} (b : ℕ) → Front front v
      → Longer (front ++ (b ∷ [])) (longer_by v b most)
  unfolding longer_by
  longer_front b x = go (test (is_digit b)) x
    where
      go : (is_digit b ≡ true) ⊎ (is_digit b ≡ false) → {front : List ℕ} {v : Option ℕ} → Front front v
          → Longer (front ++ (b ∷ [])) (longer_by v b most)
      go (inr d) {front} x =
          rw d (none_spelt (front ++ (b ∷ [])) (λ t. rw (append_assoc front (b ∷ []) t) (no_number front t b d)))
      go (inl d) nothing = rw (d, digit_first b d) (some_spelt (b - 48))
      go (inl d) (spelt zero h) =
          rw d (none_spelt (decimal 0 ++ (b ∷ [])) (λ t. rw (append_assoc (decimal 0) (b ∷ []) t) (after_nought b t)))
      go (inl d) (spelt (suc v) h) =
          rw (d, ne_eqb (suc v) 0 (λ e. omega arith))
          (rw (digit_more (suc v) b (omega arith) d) (some_spelt (suc v * 10 + (b - 48))))

-- ---- the loop

-- the field so far, and the text from a place on, make the number
pub record Reading (text : List ℕ) (from end most : ℕ) (value : Option ℕ) (at : ℕ) : Type 0 where
  pub front : List ℕ
  pub state : Front end most front value
  pub same : reads end most front at (drop at text) ≡ number_at text from end most

pub none_read : (text : List ℕ) (from end most : ℕ) → Reading text from end most None from
unfolding number_at
none_read text from end most = record { front = []; state = nothing; same = refl }

module _ {text : List ℕ} {from end most : ℕ} {value : Option ℕ} {at : ℕ} (x : Reading text from end most value at) where
  -- the text ends before the field
  pub no_end : length text ≤ at → None ≡ number_at text from end most
  unfolding has
  no_end h = (rw (drop_of_length-le text h)) ∙ x.same

  module _ (h : at < length text) where
    abbrev byte : ℕ
    byte = get_or text at 0

    here : reads end most x.front at (byte ∷ drop (suc at) text) ≡ number_at text from end most
    here = rw (drop-cons text at 0 h) at x.same

    -- the byte ends the field
    pub ended : byte ≡ end
        → option_map (λ v. record { value = v; past = at + 1 }) value ≡ number_at text from end most
    unfolding number is_number at_most
    ended e = go x.state ∙ (sym (reads_ends end most x.front at byte (drop (suc at) text) e) ∙ here)
      where
        go : {front : List ℕ} {o : Option ℕ} → Front end most front o
            → option_map (λ v. record { value = v; past = at + 1 }) o ≡ at_most most (at + 1) (number front)
        go nothing = refl
        go (spelt v k) = rw (number_decimal v, le-leb v most k)

    -- it does not
    module _ (n : byte ≡ end → ⊥) where
      passed : reads end most (x.front ++ (byte ∷ [])) (at + 1) (drop (at + 1) text) ≡ number_at text from end most
      passed =
          ap (λ (k : ℕ). reads end most (x.front ++ (byte ∷ [])) (at + 1) (drop k text)) (add-one at)
          ∙ (sym (reads_on end most x.front at byte (drop (suc at) text) n) ∙ here)

      pub stopped : None ≡ longer_by value byte most → None ≡ number_at text from end most
      stopped e = go (longer_front end most byte x.state) (sym e) passed
        where
          go : {front : List ℕ} {o : Option ℕ} → Longer end most front o → o ≡ None
              → reads end most front (at + 1) (drop (at + 1) text) ≡ number_at text from end most
              → None ≡ number_at text from end most
          go (goes f) e p = cc
          go (stops f) e p = f (at + 1) (drop (at + 1) text) ∙ p

      pub read_on : (w : ℕ) → Some w ≡ longer_by value byte most → Reading text from end most (Some w) (at + 1)
      read_on w e = go (longer_front end most byte x.state) (sym e) passed
        where
          go : {front : List ℕ} {o : Option ℕ} → Longer end most front o → o ≡ Some w
              → reads end most front (at + 1) (drop (at + 1) text) ≡ number_at text from end most
              → Reading text from end most (Some w) (at + 1)
          go {front} (goes f) e p = record { front = front; state = rw e at f; same = p }
          go (stops f) e p = cc

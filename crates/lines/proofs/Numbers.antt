-- Bytes as one number, the first lowest (01, "The plan as text", by which verbs are compared): the first byte and the
-- rest of them, how large the number is, and how the number of the eight bytes at a place tells the word there.
use Prim.Native.Nat.{ℕ, zero, suc, ◌+◌, ◌-◌, ◌*◌, ◌^◌, ◌%◌, ◌≤◌, ◌<◌}
use mathlib.Core.Bool.{Bool, true, false, cond, ◌&&◌}
use mathlib.Core.List.{List, [], ◌∷◌}
use mathlib.Core.Path.{◌≡◌, refl, sym, ◌∙◌, ap}
use native.Mathlib.Nat.{eq_of_mul-eq-mul_right, mul-div_cancel}
use native.Mathlib.Omega.{arith}
use lib.Arith.{digits_div, digits_mod, mod-mul}
use lib.Dec.{eqb, leb, ltb}
use lib.ListN.{length, get_or, take, drop}
use borrow.Author.Tests.{eqb-true, eqb-false, eq-eqb, ne_eqb, leb-true, ltb-true}
use Rattle.std.specs.Int.{w64, from_le_bytes}
use Rattle.std.proofs.Common.{lit<}
use Rattle.std.proofs.lemmas.List.{take-take}
use Rattle.model.specs.Lists.{all}
use Rattle.theory.proofs.Tests.{and_split, tests_agree, falsely}
use Rattle.lines.specs.Verbs.{begins, as_number, highest_of}

-- past all numbers of n bytes
unfoldable pub reach : ℕ → ℕ
reach zero = 1
reach (suc n) = reach n * 256

reach_pos : (n : ℕ) → 0 < reach n
unfolding reach
reach_pos zero = omega arith
reach_pos (suc n) = omega (arith, reach_pos n)

-- the byte at a place, and those after it; past the end of a text stands nought
pub number_front : (n a : ℕ) (s : List ℕ)
    → as_number (take (suc n) (drop a s)) ≡ get_or s a 0 + as_number (take n (drop (suc a) s)) * 256
unfolding as_number
number_front zero zero [] = refl
number_front (suc n) zero [] = refl
number_front zero (suc a) [] = refl
number_front (suc n) (suc a) [] = refl
number_front n zero (b ∷ s) = refl
number_front n (suc a) (b ∷ s) = number_front n a s

-- seven bytes leave room for one more
reach_le : (n m : ℕ) → n ≤ m → reach n ≤ reach m
unfolding reach
reach_le zero m h = reach_pos m
reach_le (suc n) zero h = absurd (omega arith)
reach_le (suc n) (suc m) h = omega (arith, reach_le n m (omega arith))

module _ (s : List ℕ) (bytes : (i : ℕ) → get_or s i 0 < 256) where
  number_small : (n a : ℕ) → as_number (take n (drop a s)) < reach n
  unfolding as_number reach
  number_small zero a = omega arith
  number_small (suc n) a = omega (arith, number_front n a s, bytes a, number_small n (suc a))

  pub seven_small : (n a : ℕ) → n ≤ 7 → as_number (take n (drop a s)) < 2 ^ 56
  unfolding reach
  seven_small n a h = omega (arith, number_small n a, reach_le n 7 h)

-- eight bytes read as a number: those of a text, with noughts past its end
pub eight_read : (p s : List ℕ) → ((i : ℕ) → i < 8 → get_or p i 0 ≡ get_or s i 0)
    → from_le_bytes w64 p ≡ as_number (take 8 s)
unfolding as_number
eight_read p s e =
    omega (
      arith,
      e 0 (lit< tt),
      e 1 (lit< tt),
      e 2 (lit< tt),
      e 3 (lit< tt),
      e 4 (lit< tt),
      e 5 (lit< tt),
      e 6 (lit< tt),
      e 7 (lit< tt),
      number_front 7 0 s,
      number_front 6 1 s,
      number_front 5 2 s,
      number_front 4 3 s,
      number_front 3 4 s,
      number_front 2 5 s,
      number_front 1 6 s,
      number_front 0 7 s,
    )

-- the first eight of a text
pub eight_first : (s : List ℕ) → from_le_bytes w64 (take 8 s) ≡ as_number (take 8 s)
eight_first s = eight_read (take 8 s) (take 8 s) (λ i h. refl) ∙ ap as_number (take-take 8 8 s (omega arith))

-- ---- a word and the bytes at a place

-- a number of bytes by its lowest and the rest
reach_mod : (n q b : ℕ) → b < 256 → (b + q * 256) % reach (suc n) ≡ q % reach n * 256 + b
unfolding reach
reach_mod n q b h =
    let e : b + q * 256 ≡ q * 256 + b = omega arith in
    rw (e, mod-mul (q * 256 + b) {m = reach n} {c = 256} (reach_pos n) (omega arith), digits_div q h, digits_mod q h)

-- two such numbers are the same if both parts are
parts_same : (p q b x : ℕ) → b < 256 → x < 256 → cond (eqb b x) (eqb p q) false ≡ eqb (p * 256 + b) (q * 256 + x)
parts_same p q b x h g = go (eqb b x) refl
  where
    go : (t : Bool) → eqb b x ≡ t → cond t (eqb p q) false ≡ eqb (p * 256 + b) (q * 256 + x)
    go false e = sym (ne_eqb (p * 256 + b) (q * 256 + x) (λ k. eqb-false b x e (omega arith)))
    go true e =
        let k = eqb-true b x e in
        tests_agree (eqb p q) (eqb (p * 256 + b) (q * 256 + x))
        (λ y. eq-eqb (p * 256 + b) (q * 256 + x) (omega (arith, eqb-true p q y)))
        (λ y. eq-eqb p q (omega (arith, eqb-true (p * 256 + b) (q * 256 + x) y)))

-- the bytes of a word are none of them nought, which stands past the end of a text
abbrev pub plain : ℕ → Bool
plain x = leb 1 x && ltb x 256

begins_byte : (x a : ℕ) (w s : List ℕ) → 1 ≤ x
    → begins (x ∷ w) (drop a s) ≡ cond (eqb (get_or s a 0) x) (begins w (drop (suc a) s)) false
unfolding begins
begins_byte x zero w [] h = rw (ne_eqb 0 x (λ e. omega arith))
begins_byte x (suc a) w [] h = rw (ne_eqb 0 x (λ e. omega arith))
begins_byte x zero w (b ∷ s) h = refl
begins_byte x (suc a) w (b ∷ s) h = begins_byte x a w s h

module _ (s : List ℕ) (bytes : (i : ℕ) → get_or s i 0 < 256) where
  -- a word stands at a place if the lowest bytes of the number there are the word's
  begins_number : (w : List ℕ) (n a : ℕ) → all plain w ≡ true → length w ≤ n
      → begins w (drop a s)
      ≡ eqb (as_number (take n (drop a s)) % reach (length w)) (as_number w % reach (length w))
  unfolding all begins as_number reach
  begins_number [] n a p h = sym (eq-eqb (as_number (take n (drop a s)) % 1) 0 (omega arith))
  begins_number (x ∷ w) zero a p h = absurd (omega arith)
  begins_number (x ∷ w) (suc n) a p h =
      let r = and_split (plain x) (all plain w) p in
      let q = and_split (leb 1 x) (ltb x 256) r.0 in
      let b = get_or s a 0 in
      begins_byte x a w s (leb-true 1 x q.0)
      ∙ rw (
        begins_number w n (suc a) r.1 (omega arith),
        parts_same (as_number (take n (drop (suc a) s)) % reach (length w)) (as_number w % reach (length w)) b x
            (bytes a)
            (ltb-true x 256 q.1),
        number_front n a s,
        reach_mod (length w) (as_number (take n (drop (suc a) s))) b (bytes a),
        reach_mod (length w) (as_number w) x (ltb-true x 256 q.1),
      )

-- a number shifted up, so that only its lowest n bytes are left
shifted : (y n c : ℕ) → reach n * c ≡ 2 ^ 64 → 0 < c → y * c % 2 ^ 64 ≡ y % reach n * c
shifted y n c e p =
    let z : y * c + 0 ≡ y * c = omega arith in
    ap (λ (m : ℕ). y * c % m) (sym e)
    ∙ (mod-mul (y * c) (reach_pos n) p ∙ rw (mul-div_cancel y p, rw z at (digits_mod y p)) (omega arith))

-- a word that has room in eight bytes
pub record Fitting (w : List ℕ) : Type 0 where
  pub bytes : all plain w ≡ true
  pub short : length w ≤ 7
  pub fills : reach (length w) * 2 ^ (64 - length w * 8) ≡ 2 ^ 64
  pub some : 0 < 2 ^ (64 - length w * 8)

module _ (s : List ℕ) (bytes : (i : ℕ) → get_or s i 0 < 256) (a : ℕ) (w : List ℕ) (f : Fitting w) where
  -- what the code asks of the eight bytes at the place
  abbrev pub Asked : Type 0
  Asked = as_number (take 8 (drop a s)) * 2 ^ (64 - length w * 8) % 2 ^ 64 ≡ highest_of w

  told : begins w (drop a s)
      ≡ eqb (as_number (take 8 (drop a s)) % reach (length w)) (as_number w % reach (length w))
  told = begins_number s bytes w 8 a f.bytes (omega (arith, f.short))

  pub asked : Asked → begins w (drop a s) ≡ true
  unfolding highest_of
  asked e =
      told
      ∙ eq-eqb _ _
      (eq_of_mul-eq-mul_right (2 ^ (64 - length w * 8)) f.some _ _
      (sym (shifted (as_number (take 8 (drop a s))) (length w) _ f.fills f.some)
      ∙ (e ∙ shifted (as_number w) (length w) _ f.fills f.some)))

  pub not_asked : (Asked → ⊥) → begins w (drop a s) ≡ false
  unfolding highest_of
  not_asked n =
      falsely (begins w (drop a s))
      (λ t.
      n
      (shifted (as_number (take 8 (drop a s))) (length w) _ f.fills f.some
      ∙ (ap (λ (y : ℕ). y * 2 ^ (64 - length w * 8)) (eqb-true _ _ (sym told ∙ t))
      ∙ sym (shifted (as_number w) (length w) _ f.fills f.some))))

-- The digits of a number put from the last to the first (01, "The plan as text", its words on numbers): behind the
-- place at hand stand the last digits, and what is left of the number has the others.
use Prim.Native.Nat.{ℕ, zero, suc, ◌+◌, ◌-◌, ◌*◌, ◌/◌, ◌%◌, ◌^◌, ◌≤◌, ◌<◌}
use mathlib.Core.List.{List, [], ◌∷◌, ◌++◌, append_assoc, append-nil}
use mathlib.Core.Logic.{◌⊎◌, inl, inr}
use mathlib.Core.Path.{◌≡◌, refl, sym, ◌∙◌, ap}
use native.Mathlib.Nat.{pow-suc}
use native.Mathlib.Omega.{arith}
use lib.ListN.{length, get_or, take, drop, set, length-append, length-set, take-append-drop}
use lib.Seq.{take-suc, set_at, length-take-le}
use Rattle.model.specs.Text.{decimal}
use Rattle.theory.proofs.Numbers.{decimal_small, decimal_step, digits_one}
use Rattle.theory.proofs.Tests.{le_or_lt}
use Rattle.fields.specs.Puts.{PutsAs}
use Rattle.fields.proofs.Putting.{put}

-- one digit more than its tenth
pub digits_tenth : (n : ℕ) → 10 ≤ n → length (decimal n) ≡ length (decimal (n / 10)) + 1
digits_tenth n h = rw (decimal_step n h, length-append) (omega arith)

-- as many as its logarithm tells, and one more
pub digits_log : (k n : ℕ) → 10 ^ k ≤ n → n < 10 * 10 ^ k → length (decimal n) ≡ k + 1
digits_log zero n low high = digits_one n (omega arith)
digits_log (suc k) n low high =
    let e = pow-suc 10 k in
    let p = pow_pos k in
    omega (
      arith,
      digits_tenth n (omega arith),
      digits_log k (n / 10) (omega arith) (omega arith),
    )
  where
    pow_pos : (k : ℕ) → 1 ≤ 10 ^ k
    pow_pos zero = omega arith
    pow_pos (suc k) = omega (arith, pow-suc 10 k, pow_pos k)

-- a store in front of what was stored
store_front : (k : ℕ) (old t : List ℕ) (d : ℕ) → k < length old
    → set (take (suc k) old ++ t) k d ≡ take k old ++ (d ∷ t)
store_front k old t d h =
    rw (take-suc old k 0 h, append_assoc (take k old) (get_or old k 0 ∷ []) t)
    (set_at (take k old) (get_or old k 0) t d k (length-take-le k old (omega arith)))

-- the digits that are not put yet: those of the rest, or, past the first place, none
pub data Left (n at : ℕ) (tail : List ℕ) (rest i : ℕ) : Type 0 where
  some : i ≡ at + length (decimal rest) → decimal n ≡ decimal rest ++ tail → Left n at tail rest i
  none : i ≡ at → decimal n ≡ tail → Left n at tail rest i

-- the last digits stand from place i on
pub record LastDigits (n at : ℕ) (old : List ℕ) (rest i : ℕ) (made : List ℕ) : Type 0 where
  pub room : at + length (decimal n) ≤ length old
  pub low : at ≤ i
  pub high : i ≤ at + length (decimal n)
  pub long : length made ≡ length old
  pub tail : List ℕ
  pub left : Left n at tail rest i
  pub leaves : made ≡ take i old ++ (tail ++ drop (at + length (decimal n)) old)

pub last_none : (n at : ℕ) (old : List ℕ) → at + length (decimal n) ≤ length old
    → LastDigits n at old n (at + length (decimal n)) old
last_none n at old h = record {
  room = h;
  low = omega arith;
  high = omega arith;
  long = refl;
  tail = [];
  left = some refl (sym (append-nil (decimal n)));
  leaves = sym (take-append-drop (at + length (decimal n)) old);
}

module _ {n at : ℕ} {old : List ℕ} {rest i : ℕ} {made : List ℕ} (x : LastDigits n at old rest i made) where
  pub last_more : at < i → LastDigits n at old (rest / 10) (i - 1) (set made (i - 1) (48 + rest % 10))
  last_more h =
      let t = x.tail ++ drop (at + length (decimal n)) old in
      let one : i ≡ suc (i - 1) = omega arith in
      record {
        room = x.room;
        low = omega arith;
        high = omega (arith, x.high);
        long = length-set made (i - 1) (48 + rest % 10) ∙ x.long;
        tail = (48 + rest % 10) ∷ x.tail;
        left = go x.left (le_or_lt 10 rest);
        leaves =
            ap (λ (l : List ℕ). set l (i - 1) (48 + rest % 10)) (x.leaves ∙ ap (λ (m : ℕ). take m old ++ t) one)
            ∙ store_front (i - 1) old t (48 + rest % 10) (omega (arith, x.room, x.high));
      }
    where
      go : Left n at x.tail rest i → (10 ≤ rest) ⊎ (rest < 10)
          → Left n at ((48 + rest % 10) ∷ x.tail) (rest / 10) (i - 1)
      go (none e f) k = absurd (omega arith)
      go (some e f) (inl k) =
          some (omega (arith, digits_tenth rest k))
          (f ∙ rw (decimal_step rest k) (append_assoc (decimal (rest / 10)) ((48 + rest % 10) ∷ []) x.tail))
      go (some e f) (inr k) =
          let z : rest % 10 ≡ rest = omega arith in
          none (omega (arith, digits_one rest k)) (f ∙ rw (decimal_small rest k, z))

  pub last_all : i ≤ at → PutsAs (decimal n) at old (at + length (decimal n)) made
  last_all h = put (record { room = x.room; moved = refl; leaves = x.leaves ∙ go x.left (le_or_lt 10 rest) })
    where
      go : Left n at x.tail rest i → (10 ≤ rest) ⊎ (rest < 10)
          → take i old ++ (x.tail ++ drop (at + length (decimal n)) old)
          ≡ take at old ++ decimal n ++ drop (at + length (decimal n)) old
      go (none e f) k =
          rw (e, ← f) (sym (append_assoc (take at old) (decimal n) (drop (at + length (decimal n)) old)))
      go (some e f) (inl k) = absurd (omega (arith, digits_tenth rest k))
      go (some e f) (inr k) = absurd (omega (arith, digits_one rest k))

-- Sets of devices by their members: of no device, of one, of a union, of a union over a list, of a set with a device
-- put in or left out; two sets below 2 ^ D with the same members are the same; how many members a set has, and the
-- lowest. All of it over the number of devices D.
use Prim.Native.Nat.{ℕ, zero, suc, ◌+◌, ◌-◌, ◌*◌, ◌/◌, ◌%◌, ◌^◌, ◌<◌, ◌≤◌, max}
use mathlib.Core.Bool.{Bool, true, false, cond, not, ◌||◌}
use mathlib.Core.List.{List, [], ◌∷◌, map}
use mathlib.Core.Logic.{◌⊎◌, inl, inr}
use mathlib.Core.Path.{◌≡◌, refl, sym, ◌∙◌, ap}
use mathlib.Core.Option.{some, get_or}
use native.Mathlib.Nat.{zero-add, add-zero, zero-div, div-one, div-eq_of_lt, lt_of_lt_of_le, pow-suc, one-mul}
use native.Mathlib.Nat.{mod-eq_of_lt}
use native.Mathlib.Numerals.{add-one}
use native.Mathlib.Omega.{arith}
use lib.Bits.{bit_or, bit_xor, differ, or_shr, or_step, or_lt, xor_shr, xor_step, xor_lt}
use lib.Count.{ones, ones_in, ones_step, under, count_trailing_zeros}
use lib.Dec.{eqb}
use lib.ListN.{length}
use lib.Pow.{pow-add, pow_pos, pow-lt, pow_mono, shl-shr, shr-shr, shr_lt}
use borrow.Author.Tests.{eqb-true, eqb-false, eq-eqb, ne_eqb}
use Rattle.model.specs.Lists.{up_from, has, those, first_of}
use Rattle.model.specs.Sets.{empty, only, union, union_of, member, put, lowest_of}
use Rattle.theory.proofs.Tests.{clash, or_split, or_left, or_right, le_or_lt}
use Rattle.theory.proofs.Lists.{has_none, has_head, has_tail, has_cases}

-- binary digits: a test of every pair of them
pub digits : (P : ℕ → ℕ → Type 0) → P 0 0 → P 0 1 → P 1 0 → P 1 1 → (u v : ℕ) → u < 2 → v < 2 → P u v
digits P a b c d zero zero h k = a
digits P a b c d zero (suc zero) h k = b
digits P a b c d zero (suc (suc v)) h k = absurd (omega arith)
digits P a b c d (suc zero) zero h k = c
digits P a b c d (suc zero) (suc zero) h k = d
digits P a b c d (suc zero) (suc (suc v)) h k = absurd (omega arith)
digits P a b c d (suc (suc u)) v h k = absurd (omega arith)

or_low : (x y : ℕ) → bit_or x y % 2 ≡ max (x % 2) (y % 2)
or_low x y = omega (arith, or_step x y)

pub member_union : (a b d : ℕ) → member (union a b) d ≡ (member a d || member b d)
unfolding member union
member_union a b d =
    ap (λ (x : ℕ). eqb (x % 2) 1) (or_shr a b d)
    ∙ ap (λ (x : ℕ). eqb x 1) (or_low (a / 2 ^ d) (b / 2 ^ d))
    ∙ digits (λ u v. eqb (max u v) 1 ≡ (eqb u 1 || eqb v 1)) refl refl refl refl
    (a / 2 ^ d % 2) (b / 2 ^ d % 2) (omega arith) (omega arith)

xor_low : (x y : ℕ) → bit_xor x y % 2 ≡ differ (x % 2) (y % 2)
xor_low x y =
    omega (
      arith,
      xor_step x y,
      digits (λ u v. differ u v < 2) (omega arith) (omega arith) (omega arith) (omega arith)
          (x % 2) (y % 2) (omega arith) (omega arith),
    )

-- of the members of one of two sets alone
pub member_xor : (a b d : ℕ) → member (bit_xor a b) d ≡ cond (member b d) (not (member a d)) (member a d)
unfolding member
member_xor a b d =
    ap (λ (x : ℕ). eqb (x % 2) 1) (xor_shr a b d)
    ∙ ap (λ (x : ℕ). eqb x 1) (xor_low (a / 2 ^ d) (b / 2 ^ d))
    ∙ digits (λ u v. eqb (differ u v) 1 ≡ cond (eqb v 1) (not (eqb u 1)) (eqb u 1)) refl refl refl refl
    (a / 2 ^ d % 2) (b / 2 ^ d % 2) (omega arith) (omega arith)

pub member_empty : (d : ℕ) → member empty d ≡ false
unfolding member empty
member_empty d = ap (λ (x : ℕ). eqb (x % 2) 1) (zero-div (2 ^ d))

-- a 1 shifted by less than the width of a word is the set of one
pub shifted : (W d : ℕ) → d < W → 1 * 2 ^ d % 2 ^ W ≡ only d
unfolding only
shifted W d h = ap (λ (x : ℕ). x % 2 ^ W) (one-mul (2 ^ d)) ∙ mod-eq_of_lt (pow-lt h)

pub member_only : (d e : ℕ) → member (only d) e ≡ eqb d e
unfolding member only
member_only d e = go (le_or_lt e d)
  where
    high : (k : ℕ) → 2 ^ (k + e) / 2 ^ e ≡ 2 ^ k
    high k = ap (λ (x : ℕ). x / 2 ^ e) (pow-add 2 k e) ∙ shl-shr (2 ^ k) e

    at_or_above : (k : ℕ) → eqb (2 ^ (k + e) / 2 ^ e % 2) 1 ≡ eqb (k + e) e
    at_or_above zero = ap (λ (x : ℕ). eqb (x % 2) 1) (high 0) ∙ sym (eq-eqb (0 + e) e (omega arith))
    at_or_above (suc k) =
        ap (λ (x : ℕ). eqb (x % 2) 1) (high (suc k))
        ∙ ne_eqb (2 ^ suc k % 2) 1 (λ q. omega (arith, pow-suc 2 k, q))
        ∙ sym (ne_eqb (suc k + e) e (λ q. omega arith))

    go : (e ≤ d) ⊎ (d < e) → eqb (2 ^ d / 2 ^ e % 2) 1 ≡ eqb d e
    go (inl h) = let q : d - e + e ≡ d = omega arith in rw q at (at_or_above (d - e))
    go (inr h) = ap (λ (x : ℕ). eqb (x % 2) 1) (div-eq_of_lt (pow-lt h)) ∙ sym (ne_eqb d e (λ q. omega arith))

-- ---- members of a union

pub in_union : (a b d : ℕ) → member (union a b) d ≡ true → (member a d ≡ true) ⊎ (member b d ≡ true)
in_union a b d h = or_split (member a d) (member b d) (sym (member_union a b d) ∙ h)

pub in_left_lem : (a b d : ℕ) → member a d ≡ true → member (union a b) d ≡ true
in_left_lem a b d h = member_union a b d ∙ or_left (member a d) (member b d) h

pub in_right : (a b d : ℕ) → member b d ≡ true → member (union a b) d ≡ true
in_right a b d h = member_union a b d ∙ or_right (member a d) (member b d) h

-- of a union over a list: some element's set has it
pub in_union_of : (f : ℕ → ℕ) (xs : List ℕ) (d : ℕ) → member (union_of (map f xs)) d ≡ true
    → (x : ℕ) × (has x xs ≡ true) × (member (f x) d ≡ true)
unfolding union_of
in_union_of f [] d h = clash (member empty d) h (member_empty d)
in_union_of f (x ∷ xs) d h = go (in_union (f x) (union_of (map f xs)) d h) (in_union_of f xs d)
  where
    go : (member (f x) d ≡ true) ⊎ (member (union_of (map f xs)) d ≡ true)
        → (member (union_of (map f xs)) d ≡ true → (y : ℕ) × (has y xs ≡ true) × (member (f y) d ≡ true))
        → (y : ℕ) × (has y (x ∷ xs) ≡ true) × (member (f y) d ≡ true)
    go (inl m) ih = (x, has_head x xs, m)
    go (inr m) ih = let r = ih m in (r.0, has_tail r.0 x xs r.1, r.2)

pub union_of_in : (f : ℕ → ℕ) (xs : List ℕ) (x d : ℕ) → has x xs ≡ true → member (f x) d ≡ true
    → member (union_of (map f xs)) d ≡ true
unfolding union_of
union_of_in f [] x d h m = has_none x h
union_of_in f (y ∷ xs) x d h m = go (has_cases x y xs h) (λ k. union_of_in f xs x d k m)
  where
    go : (x ≡ y) ⊎ (has x xs ≡ true) → (has x xs ≡ true → member (union_of (map f xs)) d ≡ true)
        → member (union (f y) (union_of (map f xs))) d ≡ true
    go (inl e) ih = in_left_lem (f y) (union_of (map f xs)) d (rw e at m)
    go (inr k) ih = in_right (f y) (union_of (map f xs)) d (ih k)

-- ---- sets below 2 ^ D

pub empty_below : (D : ℕ) → empty < 2 ^ D
unfolding empty
empty_below D = pow_pos D

pub only_below : (D d : ℕ) → d < D → only d < 2 ^ D
unfolding only
only_below D d h = pow-lt h

pub union_below : (D a b : ℕ) → a < 2 ^ D → b < 2 ^ D → union a b < 2 ^ D
unfolding union
union_below D a b h k = or_lt D a b h k

-- past its devices a set has no member
pub member_past : (D s d : ℕ) → s < 2 ^ D → D ≤ d → member s d ≡ false
unfolding member
member_past D s d h k = ap (λ (x : ℕ). eqb (x % 2) 1) (div-eq_of_lt (lt_of_lt_of_le h (pow_mono k)))

-- a binary digit is 0 or 1
by_digit : {P : Type 0} (n : ℕ) → (n % 2 ≡ 0 → P) → (n % 2 ≡ 1 → P) → P
by_digit {P} n f g = go (n % 2) (omega arith) refl
  where
    go : (k : ℕ) → k < 2 → n % 2 ≡ k → P
    go zero h e = f e
    go (suc zero) h e = g e
    go (suc (suc k)) h e = absurd (omega arith)

half_shift : (s e : ℕ) → s / 2 ^ e / 2 ≡ s / 2 ^ suc e
half_shift s e = shr-shr s e 1 ∙ ap (λ (x : ℕ). s / 2 ^ x) (add-one e)

-- the members of half a set
half_member : (s d : ℕ) → member (s / 2) d ≡ member s (suc d)
unfolding member
half_member s d =
    ap (λ (x : ℕ). eqb (x % 2) 1)
    (shr-shr s 1 d ∙ ap (λ (x : ℕ). s / 2 ^ x) (let q : 1 + d ≡ suc d = omega arith in q))

-- two sets with the same members are the same
pub same_members : (D s t : ℕ) → s < 2 ^ D → t < 2 ^ D → ((d : ℕ) → d < D → member s d ≡ member t d) → s ≡ t
unfolding member
same_members zero s t h k f = omega arith
same_members (suc D) s t h k f =
    go
    (same_members D (s / 2) (t / 2) (shr_lt D 1 (rw add-one h)) (shr_lt D 1 (rw add-one k))
    (λ d b. half_member s d ∙ f (suc d) (omega arith) ∙ sym (half_member t d)))
    (f 0 (omega arith))
  where
    go : s / 2 ≡ t / 2 → eqb (s / 2 ^ 0 % 2) 1 ≡ eqb (t / 2 ^ 0 % 2) 1 → s ≡ t
    go e q =
        by_digit s
        (λ a. by_digit t (λ b. omega arith) (λ b. clash true refl (sym (low t 1 b) ∙ sym q ∙ low s 0 a)))
        (λ a. by_digit t (λ b. clash true refl (sym (low s 1 a) ∙ q ∙ low t 0 b)) (λ b. omega arith))
      where
        low : (x k : ℕ) → x % 2 ≡ k → eqb (x / 2 ^ 0 % 2) 1 ≡ eqb k 1
        low x k e = ap (λ (y : ℕ). eqb (y % 2) 1) (div-one x) ∙ ap (λ (y : ℕ). eqb y 1) e

-- the digit of a device, and whether it is a member
member_digit : (s e : ℕ) (b : Bool) → member s e ≡ b → s / 2 ^ e % 2 ≡ cond b 1 0
unfolding member
member_digit s e true h = eqb-true (s / 2 ^ e % 2) 1 h
member_digit s e false h = let n = eqb-false (s / 2 ^ e % 2) 1 h in omega arith

-- how many members a set has
count_from : (D e s : ℕ) → length (those (member s) (up_from e D)) ≡ ones_in D (s / 2 ^ e)
unfolding those up_from ones_in
count_from zero e s = refl
count_from (suc D) e s = go (member s e) refl (count_from D (suc e) s ∙ ap (ones_in D) (sym (half_shift s e)))
  where
    go : (b : Bool) → member s e ≡ b → length (those (member s) (up_from (suc e) D)) ≡ ones_in D (s / 2 ^ e / 2)
        → length {A = ℕ} (elim b [
          | true ↦ e ∷ those (member s) (up_from (suc e) D)
          | false ↦
              those (member s) (up_from (suc e) D)
        ])
        ≡ s / 2 ^ e % 2 + ones_in D (s / 2 ^ e / 2)
    go true q ih = omega (arith, member_digit s e true q)
    go false q ih = omega (arith, member_digit s e false q)

ones_in_lem : (D s : ℕ) → s < 2 ^ D → ones s ≡ ones_in D s
unfolding ones_in ones
ones_in_lem zero zero h = refl
ones_in_lem zero (suc s) h = absurd (omega arith)
ones_in_lem (suc D) s h = ones_step s ∙ ap (λ (x : ℕ). s % 2 + x) (ones_in_lem D (s / 2) (shr_lt D 1 (rw add-one h)))

pub count_of_members : (D s : ℕ) → s < 2 ^ D → ones s ≡ length (those (member s) (up_from 0 D))
count_of_members D s h = ones_in_lem D s h ∙ sym (count_from D 0 s ∙ ap (ones_in D) (div-one s))

-- the lowest member, or D where there is none
lowest_from : (D e s : ℕ) → get_or (first_of (member s) (up_from e D)) (e + D) ≡ e + count_trailing_zeros D (s / 2 ^ e)
unfolding first_of up_from count_trailing_zeros
lowest_from zero e s = refl
lowest_from (suc D) e s =
    go (member s e) refl (lowest_from D (suc e) s
    ∙ ap (λ (x : ℕ). suc e + count_trailing_zeros D x) (sym (half_shift s e)))
  where
    go : (b : Bool) → member s e ≡ b
        → get_or (first_of (member s) (up_from (suc e) D)) (suc e + D) ≡ suc e + count_trailing_zeros D (s / 2 ^ e / 2)
        → get_or (elim b [ true ↦ some e | false ↦ first_of (member s) (up_from (suc e) D) ]) (e + suc D)
        ≡ e + under (s / 2 ^ e % 2) (count_trailing_zeros D (s / 2 ^ e / 2))
    go true q ih = rw (member_digit s e true q) (sym (add-zero e))
    go false q ih =
        rw (member_digit s e false q)
        (ap (get_or (first_of (member s) (up_from (suc e) D))) (let z : e + suc D ≡ suc e + D = omega arith in z)
        ∙ ih
        ∙ (let z : suc e + count_trailing_zeros D (s / 2 ^ e / 2) ≡ e + suc (count_trailing_zeros D (s / 2 ^ e / 2)) =
        omega arith in z))

pub lowest_member : (D s : ℕ) → lowest_of D s ≡ count_trailing_zeros D s
unfolding lowest_of
lowest_member D s = simp (zero-add, div-one) at (lowest_from D 0 s)

-- ---- a device put in, or left out

-- what holds of a set, and of it with one bit turned, holds of it with a device put in or left out
put_either : (P : ℕ → Type 0) (b : Bool) (d s : ℕ) → P s → P (bit_xor s (only d)) → P (put b d s)
unfolding put
put_either P true d s x y = go (member s d)
  where
    go : (m : Bool) → P (cond m s (bit_xor s (only d)))
    go true = x
    go false = y
put_either P false d s x y = go (member s d)
  where
    go : (m : Bool) → P (cond m (bit_xor s (only d)) s)
    go true = y
    go false = x

member_turned : (d s x : ℕ) → member (bit_xor s (only d)) x ≡ cond (eqb d x) (not (member s x)) (member s x)
member_turned d s x = rw (member_xor s (only d) x, member_only d x)

put_there : (b : Bool) (d s : ℕ) → member (put b d s) d ≡ b
unfolding put
put_there b d s = go b (member s d) refl
  where
    turned : member (bit_xor s (only d)) d ≡ not (member s d)
    turned = member_turned d s d ∙ rw (eq-eqb d d refl)

    go : (b m : Bool) → member s d ≡ m → member (put b d s) d ≡ b
    go true true e = rw e e
    go true false e = rw e (turned ∙ rw e)
    go false true e = rw e (turned ∙ rw e)
    go false false e = rw e e

-- the device is in it as asked, the others as they were
pub member_put : (b : Bool) (d s x : ℕ) → member (put b d s) x ≡ cond (eqb d x) b (member s x)
member_put b d s x = go (eqb d x) refl
  where
    go : (z : Bool) → eqb d x ≡ z → member (put b d s) x ≡ cond z b (member s x)
    go true e = rw (← eqb-true d x e) (put_there b d s)
    go false e = put_either (λ t. member t x ≡ member s x) b d s refl (member_turned d s x ∙ rw e)

pub put_below : (D : ℕ) (b : Bool) (d s : ℕ) → d < D → s < 2 ^ D → put b d s < 2 ^ D
put_below D b d s h k = put_either (λ t. t < 2 ^ D) b d s k (xor_lt D s (only d) k (only_below D d h))

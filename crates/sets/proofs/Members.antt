-- Members of what code makes of sets: of one device of a board, of both of two sets, of one of them alone, of one
-- without the other; how many members there are with one more or less; and the lowest. All of it over the number of
-- devices D. With `theory/proofs/Sets.antt` this is every law about sets as numbers.
use Prim.Native.Nat.{ℕ, ◌*◌, ◌/◌, ◌%◌, ◌^◌, ◌<◌, ◌≤◌, min}
use mathlib.Core.Bool.{Bool, true, false, cond, not, ◌&&◌}
use mathlib.Core.Logic.{◌⊎◌, inl, inr}
use mathlib.Core.Option.{Option, none, some, get_or}
use mathlib.Core.Path.{◌≡◌, refl, sym, ◌∙◌, ap}
use native.Mathlib.Nat.{lt_of_le_of_lt, mod-eq_of_lt}
use mir.Val.{bool_byte}
use native.Mathlib.Omega.{arith}
use lib.Bits.{bit_and, and_shr, and_step, and_le_l, and_zero_r, or_zero_r, xor_lt, xor_zero_r}
use lib.Dec.{eqb, ltb}
use borrow.Author.Tests.{eqb-true, eq-eqb, ne_eqb, lt-ltb, le-ltb}
use Rattle.model.specs.Lists.{up_from, first_of}
use Rattle.model.specs.Sets.{empty, only, union, member, lowest_of}
use Rattle.theory.proofs.Tests.{clash, test, and_split, le_or_lt}
use Rattle.theory.proofs.Lists.{has_up_from, up_from_has, Answer, first_answer, first_lowest}
use Rattle.theory.proofs.Sets.{digits, member_xor, member_empty, member_only, member_past, empty_below, only_below}
use Rattle.theory.proofs.Sets.{same_members, shifted}
use Rattle.sets.specs.Only.{only_of}
use Rattle.sets.specs.Both.{both, differ, without}

-- ---- one device

pub only_of_lem : (D d : ℕ) → d < D → only_of D d ≡ only d
unfolding only_of
only_of_lem D d h = rw (lt-ltb d D h)

pub member_only_of : (D d e : ℕ) → e < D → member (only_of D d) e ≡ eqb d e
unfolding only_of
member_only_of D d e h = go (le_or_lt D d)
  where
    go : (D ≤ d) ⊎ (d < D) → member (cond (ltb d D) (only d) empty) e ≡ eqb d e
    go (inl a) = rw (le-ltb d D a) (member_empty e ∙ sym (ne_eqb d e (λ q. omega arith)))
    go (inr a) = rw (lt-ltb d D a) (member_only d e)

-- put in on a test
pub member_only_if : (D : ℕ) (put : Bool) (d e : ℕ) → e < D
    → member (cond put (only_of D d) empty) e ≡ (put && eqb d e)
member_only_if D true d e h = member_only_of D d e h
member_only_if D false d e h = member_empty e

pub only_of_below : (D d : ℕ) → only_of D d < 2 ^ D
unfolding only_of
only_of_below D d = go (le_or_lt D d)
  where
    go : (D ≤ d) ⊎ (d < D) → cond (ltb d D) (only d) empty < 2 ^ D
    go (inl a) = rw (le-ltb d D a) (empty_below D)
    go (inr a) = rw (lt-ltb d D a) (only_below D d a)

-- a flag shifted by less than the width loses nothing, and nought stays nought
pub shifted_flag : (D : ℕ) (put : Bool) (d : ℕ)
    → bool_byte (put && ltb d D) * 2 ^ (d % D) % 2 ^ D ≡ cond put (only_of D d) empty
unfolding only_of empty
shifted_flag D false d = omega arith
shifted_flag D true d = go (le_or_lt D d)
  where
    go : (D ≤ d) ⊎ (d < D) → bool_byte (ltb d D) * 2 ^ (d % D) % 2 ^ D ≡ only_of D d
    go (inl h) = rw (le-ltb d D h) (omega arith)
    go (inr h) = rw (lt-ltb d D h, mod-eq_of_lt h) (shifted D d h)

-- ---- two sets

pub member_both : (s t d : ℕ) → member (both s t) d ≡ (member s d && member t d)
unfolding member both
member_both s t d =
    ap (λ (x : ℕ). eqb (x % 2) 1) (and_shr s t d)
    ∙ ap (λ (x : ℕ). eqb x 1)
    (let e : bit_and (s / 2 ^ d) (t / 2 ^ d) % 2 ≡ min (s / 2 ^ d % 2) (t / 2 ^ d % 2) =
    omega (arith, and_step (s / 2 ^ d) (t / 2 ^ d)) in e)
    ∙ digits (λ u v. eqb (min u v) 1 ≡ (eqb u 1 && eqb v 1)) refl refl refl refl
    (s / 2 ^ d % 2) (t / 2 ^ d % 2) (omega arith) (omega arith)

pub member_differ : (s t d : ℕ) → member (differ s t) d ≡ cond (member t d) (not (member s d)) (member s d)
unfolding differ
member_differ s t d = member_xor s t d

pub member_without : (s t d : ℕ) → member (without s t) d ≡ (member s d && not (member t d))
unfolding without
member_without s t d = member_differ s (both s t) d ∙ rw (member_both s t d) (go (member s d) (member t d))
  where
    go : (a b : Bool) → cond (a && b) (not a) a ≡ (a && not b)
    go true true = refl
    go true false = refl
    go false b = refl

pub both_below : (D s t : ℕ) → s < 2 ^ D → both s t < 2 ^ D
unfolding both
both_below D s t h = lt_of_le_of_lt (and_le_l s t) h

pub differ_below : (D s t : ℕ) → s < 2 ^ D → t < 2 ^ D → differ s t < 2 ^ D
unfolding differ
differ_below D s t h k = xor_lt D s t h k

pub without_below : (D s t : ℕ) → s < 2 ^ D → without s t < 2 ^ D
unfolding without
without_below D s t h = differ_below D s (both s t) h (both_below D s t h)

-- ---- the lowest

pub data Lowest (D s : ℕ) : ℕ → Type 0 where
  found : (m : ℕ) → m < D → member s m ≡ true → ((k : ℕ) → k < m → member s k ≡ false) → Lowest D s m
  nothing : ((k : ℕ) → k < D → member s k ≡ false) → Lowest D s D

pub lowest : (D s : ℕ) → Lowest D s (lowest_of D s)
unfolding lowest_of
lowest D s = go (first_of (member s) (up_from 0 D)) refl (first_answer (member s) (up_from 0 D))
  where
    go : (o : Option ℕ) → first_of (member s) (up_from 0 D) ≡ o → Answer (member s) (up_from 0 D) o
        → Lowest D s (get_or o D)
    go none e a = nothing (λ k h. a k (up_from_has 0 D k (omega arith) (omega arith)))
    go (some m) e a =
        found m (omega (arith, (has_up_from 0 D m a.0).1)) a.1
        (λ k h. first_lowest (member s) 0 D m e k (omega arith) h)

pub lowest_at_most : (D s : ℕ) → lowest_of D s ≤ D
lowest_at_most D s = go (lowest_of D s) (lowest D s)
  where
    go : (m : ℕ) → Lowest D s m → m ≤ D
    go m (found k h e low) = omega arith
    go m (nothing f) = omega arith

-- ---- no device put in or taken out

pub nothing_turned : (s : ℕ) → without (union s empty) empty ≡ s
unfolding without both differ union empty
nothing_turned s = rw (or_zero_r s, and_zero_r s) (xor_zero_r s)

-- ---- one device asked for

-- sets that share no device have nothing in both
none_in_both : (D s t : ℕ) → s < 2 ^ D → ((d : ℕ) → d < D → (member s d && member t d) ≡ false) → both s t ≡ empty
none_in_both D s t h f =
    same_members D (both s t) empty (both_below D s t h) (empty_below D)
    (λ d l. member_both s t d ∙ f d l ∙ sym (member_empty d))

pub member_asked : (D : ℕ) (asked : Bool) (s d : ℕ) → s < 2 ^ D
    → not (eqb (both s (cond asked (only_of D d) empty)) empty) ≡ (asked && member s d)
member_asked D asked s d h = go (test (asked && member s d))
  where
    one : ℕ
    one = cond asked (only_of D d) empty

    -- it is there: below D, since no set has more
    there : asked ≡ true → member s d ≡ true → (D ≤ d) ⊎ (d < D) → member (both s one) d ≡ true
    there a m (inl l) = clash (member s d) m (member_past D s d h l)
    there a m (inr l) = member_both s one d ∙ rw (m, member_only_if D asked d d l, a) (eq-eqb d d refl)

    apart : (m a b : Bool) → (b ≡ true → (a && m) ≡ false) → (m && (a && b)) ≡ false
    apart true true true f = f refl
    apart true true false f = refl
    apart true false b f = refl
    apart false a b f = refl

    go : ((asked && member s d) ≡ true) ⊎ ((asked && member s d) ≡ false)
        → not (eqb (both s one) empty) ≡ (asked && member s d)
    go (inl e) =
        let r = and_split asked (member s d) e in
        let t = there r.0 r.1 (le_or_lt D d) in
        rw (
          e,
          ne_eqb (both s one) empty
              (λ q. clash (member (both s one) d) t (ap (λ (x : ℕ). member x d) q ∙ member_empty d)),
        )
    go (inr e) =
        rw (
          e,
          eq-eqb (both s one) empty
              (none_in_both D s one h
              (λ k l. rw (member_only_if D asked d k l)
              (apart (member s k) asked (eqb d k) (λ q. rw (eqb-true d k q) at e)))),
        )

-- Sets by their size as numbers, so that a search that takes devices out of a set, or puts devices in, is seen to end.
use Rattle.std.proofs.Common.{◌≡◌, ℕ, ◌+◌, ◌-◌, ◌*◌, ◌^◌, ◌<◌, ◌≤◌, Bool, true, false, cond, not, ◌&&◌, eqb, ◌⊎◌, sym}
use Rattle.std.proofs.Common.{refl, ap, ◌∙◌, inl, inr, arith, eq-eqb, eqb-true}
use lib.Bits.{and_le_l, or_add_and}
use borrow.Author.Tests.{eqb-false, not-true}
use Rattle.model.specs.Sets.{union, member}
use Rattle.theory.proofs.Tests.{clash, test, and_split}
use Rattle.theory.proofs.Sets.{same_members, in_left_lem}
use Rattle.sets.specs.Only.{only_of}
use Rattle.sets.specs.Both.{both, without}
use Rattle.sets.proofs.Members.{member_both, member_without, member_only_of, both_below, without_below}

-- ---- a loop that ends when a set is what it was before, or another

module _ (s before other : ℕ) where
  pub differs : (not (eqb s before) && not (eqb s other)) ≡ true → eqb s before ≡ false
  differs t = not-true (eqb s before) (and_split (not (eqb s before)) (not (eqb s other)) t).0

  pub one_of_two : (not (eqb s before) && not (eqb s other)) ≡ false → (s ≡ before) ⊎ (s ≡ other)
  one_of_two t = go (test (eqb s before)) (test (eqb s other))
    where
      go : (eqb s before ≡ true) ⊎ (eqb s before ≡ false) → (eqb s other ≡ true) ⊎ (eqb s other ≡ false)
          → (s ≡ before) ⊎ (s ≡ other)
      go (inl e) z = inl (eqb-true s before e)
      go (inr e) (inl z) = inr (eqb-true s other z)
      go (inr e) (inr z) = clash (not (eqb s before) && not (eqb s other)) (rw (e, z)) t

-- a number that falls, or stays and is then seen to stay
pub falls : (s t : ℕ) → s ≤ t → 2 * s + cond (eqb s t) 0 1 < 2 * t + 1
falls s t h = go (test (eqb s t))
  where
    go : (eqb s t ≡ true) ⊎ (eqb s t ≡ false) → 2 * s + cond (eqb s t) 0 1 < 2 * t + 1
    go (inl e) = rw e (omega (arith, eqb-true s t e))
    go (inr e) = rw e (let n = eqb-false s t e in omega arith)

-- the same below some number, for one that rises
pub rises : (limit s t : ℕ) → s < limit → t ≤ s → 2 * (limit - s) + cond (eqb s t) 0 1 < 2 * (limit - t) + 1
rises limit s t b h = go (test (eqb s t))
  where
    go : (eqb s t ≡ true) ⊎ (eqb s t ≡ false) → 2 * (limit - s) + cond (eqb s t) 0 1 < 2 * (limit - t) + 1
    go (inl e) = rw e (omega (arith, eqb-true s t e))
    go (inr e) = rw e (let n = eqb-false s t e in omega arith)

-- ---- sets

-- a set within another is no larger
pub within_le : (D s t : ℕ) → s < 2 ^ D → t < 2 ^ D → ((d : ℕ) → member s d ≡ true → member t d ≡ true) → s ≤ t
unfolding both
within_le D s t h k f =
    let e = same_members D s (both t s) h (both_below D t s k)
    (λ d l. same (member t d) (member s d) (f d) ∙ sym (member_both t s d)) in
    rw e (and_le_l t s)
  where
    same : (a b : Bool) → (b ≡ true → a ≡ true) → b ≡ (a && b)
    same true b g = refl
    same false true g = sym (g refl)
    same false false g = refl

pub union_more : (s t : ℕ) → t ≤ union s t
unfolding union
union_more s t = omega (arith, or_add_and s t, and_le_l s t)

-- a device put in, or taken out
module _ (D s d : ℕ) where
  pub put_in_more : d < D → member s d ≡ false → s < union (only_of D d) s
  put_in_more l m = go (test (eqb s (union (only_of D d) s)))
    where
      there : member (union (only_of D d) s) d ≡ true
      there = in_left_lem (only_of D d) s d (member_only_of D d d l ∙ eq-eqb d d refl)

      go : (eqb s (union (only_of D d) s) ≡ true) ⊎ (eqb s (union (only_of D d) s) ≡ false) → s < union (only_of D d) s
      go (inl e) =
          clash (member s d) (ap (λ (x : ℕ). member x d) (eqb-true s (union (only_of D d) s) e) ∙ there) m
      go (inr e) = let n = eqb-false s (union (only_of D d) s) e in omega (arith, union_more (only_of D d) s)

-- some of a set taken out
pub taken_out_less : (D s t d : ℕ) → s < 2 ^ D → member s d ≡ true → member t d ≡ true → without s t < s
taken_out_less D s t d h m k = go (test (eqb (without s t) s))
  where
    gone : member (without s t) d ≡ false
    gone = member_without s t d ∙ rw (m, k)

    go : (eqb (without s t) s ≡ true) ⊎ (eqb (without s t) s ≡ false) → without s t < s
    go (inl e) = clash (member s d) m (ap (λ (x : ℕ). member x d) (sym (eqb-true (without s t) s e)) ∙ gone)
    go (inr e) =
        let n = eqb-false (without s t) s e in
        omega (
          arith,
          within_le D (without s t) s (without_below D s t h) h
              (λ e q. (and_split (member s e) (not (member t e)) (sym (member_without s t e) ∙ q)).0),
        )

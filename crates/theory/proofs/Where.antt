-- Sets of devices by a test, over the number of devices D: their members, that nothing else has these members, and what
-- a search of them finds.
use Prim.Native.Nat.{ℕ, zero, suc, ◌+◌, ◌^◌, ◌<◌, ◌≤◌}
use mathlib.Core.Bool.{Bool, true, false}
use mathlib.Core.List.{List, [], ◌∷◌, map}
use mathlib.Core.Option.{Option, some}
use mathlib.Core.Path.{◌≡◌, refl, sym, ◌∙◌, ap}
use native.Mathlib.Omega.{arith}
use borrow.Author.Tests.{eqb-true, eq-eqb}
use Rattle.model.specs.Lists.{up_from, has, those, first_of}
use Rattle.model.specs.Sets.{empty, union_of, member, only_if, devices_where}
use Rattle.theory.proofs.Tests.{clash, tests_agree}
use Rattle.theory.proofs.Lists.{has_head, has_tail, has_up_from, up_from_has, those_same}
use Rattle.theory.proofs.Sets.{member_empty, member_only, in_union_of, union_of_in, empty_below, only_below}
use Rattle.theory.proofs.Sets.{union_below, same_members}

-- a device is in the set of one where the test passes and it is that one
in_one_lem : (b : Bool) (d e : ℕ) → member (only_if b d) e ≡ true → (b ≡ true) × (d ≡ e)
unfolding only_if
in_one_lem true d e m = (refl, eqb-true d e (sym (member_only d e) ∙ m))
in_one_lem false d e m = clash (member empty e) m (member_empty e)

-- a test of every number gives its set
module _ (f : ℕ → Bool) where
  ones : ℕ → ℕ
  ones d = only_if (f d) d

  in_ones : (a n d : ℕ) → member (union_of (map ones (up_from a n))) d ≡ true → f d ≡ true
  unfolding ones
  in_ones a n d m =
      let r = in_union_of ones (up_from a n) d m in
      let s = in_one_lem (f r.0) r.0 d r.2 in ap f (sym s.1) ∙ s.0

  ones_below : (D a n : ℕ) → a + n ≤ D → union_of (map ones (up_from a n)) < 2 ^ D
  unfolding union_of up_from ones only_if
  ones_below D a zero h = empty_below D
  ones_below D a (suc n) h =
      union_below D (ones a) (union_of (map ones (up_from (suc a) n))) (one (f a))
      (ones_below D (suc a) n (omega arith))
    where
      one : (b : Bool) → only_if b a < 2 ^ D
      one true = only_below D a (omega arith)
      one false = empty_below D

  -- the members are those that pass
  pub member_where : (D d : ℕ) → d < D → member (devices_where D f) d ≡ f d
  unfolding devices_where ones only_if
  member_where D d h =
      tests_agree (member (devices_where D f) d) (f d) (in_ones 0 D d)
      (λ e. union_of_in ones (up_from 0 D) d d (up_from_has 0 D d (omega arith) (omega arith))
      (rw e (member_only d d ∙ eq-eqb d d refl)))

  pub where_below : (D : ℕ) → devices_where D f < 2 ^ D
  unfolding devices_where ones
  where_below D = ones_below D 0 D (omega arith)

  -- a set with these members is this set
  pub is_where : (D s : ℕ) → s < 2 ^ D → ((d : ℕ) → d < D → member s d ≡ f d) → s ≡ devices_where D f
  is_where D s h m = same_members D s (devices_where D f) h (where_below D) (λ d k. m d k ∙ sym (member_where D d k))

-- A search of the set finds what a search of the test finds, and the same are counted.

first_same : (f g : ℕ → Bool) (xs : List ℕ) → ((k : ℕ) → has k xs ≡ true → f k ≡ g k) → first_of f xs ≡ first_of g xs
unfolding first_of
first_same f g [] h = refl
first_same f g (x ∷ xs) h =
    rw (h x (has_head x xs), first_of) (go (g x) (first_same f g xs (λ k m. h k (has_tail k x xs m))))
  where
    go : (b : Bool) → first_of f xs ≡ first_of g xs
        → ◌≡◌ {A = Option ℕ} (elim b [ true ↦ some x | false ↦ first_of f xs ])
        (elim b [ true ↦ some x | false ↦ first_of g xs ])
    go true ih = refl
    go false ih = ih

module _ (D : ℕ) (f : ℕ → Bool) where
  member_listed : (d : ℕ) → has d (up_from 0 D) ≡ true → member (devices_where D f) d ≡ f d
  member_listed d h = member_where f D d (omega (arith, (has_up_from 0 D d h).1))

  pub where_first : first_of (member (devices_where D f)) (up_from 0 D) ≡ first_of f (up_from 0 D)
  where_first = first_same (member (devices_where D f)) f (up_from 0 D) member_listed

  pub where_those : those (member (devices_where D f)) (up_from 0 D) ≡ those f (up_from 0 D)
  where_those = those_same (member (devices_where D f)) f (up_from 0 D) member_listed

-- Sets of devices by a test, as code makes them: the set of one device, and a union over the devices, from the last one
-- on.
use Rattle.std.proofs.Common.{◌≡◌, ℕ, zero, suc, ◌-◌, ◌<◌, ◌≤◌, Bool, true, false, cond, map, sym, refl, ap, ◌∙◌, arith}
use Rattle.model.specs.Lists.{up_from}
use Rattle.model.specs.Sets.{empty, union, union_of, only_if}
use Rattle.sets.specs.Only.{only_of}
use Rattle.sets.proofs.Members.{only_of_lem}
use Rattle.claims.proofs.Joining.{none_union}

-- the set of one device that passes, as the code makes it
pub one_where : (D d : ℕ) (b : Bool) → d < D → cond b (only_of D d) empty ≡ only_if b d
unfolding only_if
one_where D d true h = only_of_lem D d h
one_where D d false h = refl

-- A union over the devices, made from the last device on: what is joined from device d on.
abbrev pub joined_from : ℕ → (ℕ → ℕ) → ℕ → ℕ
joined_from D f d = union_of (map f (up_from d (D - d)))

module _ (D d : ℕ) (f : ℕ → ℕ) where
  pub joined_begins : D ≤ d → empty ≡ joined_from D f d
  unfolding union_of up_from
  joined_begins h = let z : D - d ≡ 0 = omega arith in rw z

  pub joined_grows : (s : ℕ) → 0 < d → d ≤ D → s ≡ joined_from D f d
      → union (f (d - 1)) s ≡ joined_from D f (d - 1)
  unfolding union_of up_from
  joined_grows s h k e =
      let z : D - (d - 1) ≡ suc (D - d) = omega arith in
      let y : suc (d - 1) ≡ d = omega arith in
      rw (z, y) (ap (union (f (d - 1))) e)

-- devices that add nothing need not be looked at
pub joined_whole : (D d : ℕ) (f : ℕ → ℕ) → d ≤ D → ((k : ℕ) → k < d → f k ≡ empty)
    → joined_from D f d ≡ union_of (map f (up_from 0 D))
joined_whole D zero f h n = let z : D - 0 ≡ D = omega arith in rw z
joined_whole D (suc d) f h n = none ∙ joined_whole D d f (omega arith) (λ k l. n k (omega arith))
  where
    none : joined_from D f (suc d) ≡ joined_from D f d
    none =
        let y : suc d - 1 ≡ d = omega arith in
        let e = rw y at (joined_grows D (suc d) f (joined_from D f (suc d)) (omega arith) h refl) in
        sym
        (ap (λ (x : ℕ). union x (joined_from D f (suc d))) (n d (omega arith)) ∙ none_union (joined_from D f (suc d)))
        ∙ e

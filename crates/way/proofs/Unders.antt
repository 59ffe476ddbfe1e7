-- The lines under a take (02, request 2) as the code goes along them: the positions of a range, or none.
use Prim.Native.Nat.{min, ℕ, zero, suc, ◌+◌, ◌-◌, ◌<◌, ◌≤◌}
use mathlib.Core.Bool.{Bool, true, false, cond, ◌&&◌}
use mathlib.Core.List.{List, ◌∷◌}
use mathlib.Core.Logic.{◌⊎◌, inl, inr}
use mathlib.Core.Path.{◌≡◌, refl, sym, ap}
use native.Mathlib.Numerals.{add-one}
use native.Mathlib.Omega.{arith}
use lib.Dec.{leb}
use lib.ListN.{length}
use borrow.Author.Tests.{le-leb, leb-true}
use Rattle.std.specs.Prelude.{None}
use Rattle.std.specs.List.{range_with_len}
use Rattle.model.specs.Lists.{up_from, first_of}
use Rattle.mates.specs.Found.{found}
use Rattle.way.specs.Back.{under_by}

up_from_is : (a n : ℕ) → up_from a n ≡ range_with_len a n
unfolding up_from
up_from_is a zero = refl
up_from_is a (suc n) = rw add-one (ap (λ (xs : List ℕ). a ∷ xs) (up_from_is (suc a) n))

module _ (p t : List ℕ) (i stop : ℕ) where
  -- there is no such line
  pub none_under : (f : ℕ → Bool) (n : ℕ) → n ≡ min (length p) (length t) → (stop ≤ i) ⊎ ((i < stop) × (n < stop))
      → None ≡ found (first_of f (under_by p t i stop))
  unfolding under_by up_from first_of
  none_under f n e h = ap (λ (x : ℕ). found (first_of f (up_from (suc i) x))) (sym (go h))
    where
      go : (stop ≤ i) ⊎ ((i < stop) × (n < stop)) → cond (leb stop (length p) && leb stop (length t)) stop 0 - suc i ≡ 0
      go (inl low) = either (leb stop (length p) && leb stop (length t))
        where
          either : (b : Bool) → cond b stop 0 - suc i ≡ 0
          either true = omega arith
          either false = omega arith
      go (inr short) = either (leb stop (length p)) refl (leb stop (length t)) refl
        where
          either : (a : Bool) → leb stop (length p) ≡ a → (b : Bool) → leb stop (length t) ≡ b
              → cond (a && b) stop 0 - suc i ≡ 0
          either true d true f =
              absurd (omega (arith, e, short.1, leb-true stop (length p) d, leb-true stop (length t) f))
          either true d false f = omega arith
          either false d b f = omega arith

  pub under_is : stop ≤ min (length p) (length t) → under_by p t i stop ≡ range_with_len (i + 1) (stop - (i + 1))
  unfolding under_by
  under_is h =
      rw (add-one, le-leb stop (length p) (omega arith), le-leb stop (length t) (omega arith))
      (up_from_is (suc i) (stop - suc i))

-- What a job holds after one line more (01, "Rules of a well-formed plan"), by what that line is.
use Prim.Native.Nat.{ℕ, zero, suc, ◌<◌}
use mathlib.Core.Bool.{Bool, true, false}
use mathlib.Core.List.{List, [], ◌∷◌, tail}
use mathlib.Core.Logic.{◌≢◌}
use mathlib.Core.Path.{◌≡◌, refl, ap}
use native.Mathlib.Omega.{arith}
use lib.Dec.{eqb}
use borrow.Author.Tests.{eq-eqb, ne_eqb}
use Rattle.model.specs.Line.{job, opens, is_give, device_of, at}
use Rattle.model.specs.WellFormed.{before, held_by}

pub held_foreign : (j l : ℕ) (b : List ℕ) → job l ≢ j → held_by j (l ∷ b) ≡ held_by j b
unfolding held_by
held_foreign j l b n = rw (ne_eqb (job l) j n, held_by)

pub held_opened : (j l : ℕ) (b : List ℕ) → job l ≡ j → opens l ≡ true → held_by j (l ∷ b) ≡ device_of l ∷ held_by j b
unfolding held_by
held_opened j l b e t =
    rw (eq-eqb (job l) j e, held_by)
    (ap (λ (x : Bool). elim x [
      | true ↦ device_of l ∷ held_by j b
      | false ↦ elim (is_give l) [ true ↦ tail (held_by j b) | false ↦ held_by j b ]
    ]) t)

pub held_give : (j l : ℕ) (b : List ℕ) → job l ≡ j → opens l ≡ false → is_give l ≡ true
    → held_by j (l ∷ b) ≡ tail (held_by j b)
unfolding held_by
held_give j l b e t g = rw (eq-eqb (job l) j e, t, g, held_by)

-- it neither opens nor closes anything, of whatever job
pub held_other : (j l : ℕ) (b : List ℕ) → opens l ≡ false → is_give l ≡ false → held_by j (l ∷ b) ≡ held_by j b
unfolding held_by
held_other j l b t g = go (eqb (job l) j)
  where
    go : (x : Bool) → elim x [
      | false ↦ held_by j b
      | true ↦ elim (opens l) [
        | true ↦ device_of l ∷ held_by j b
        | false ↦ elim (is_give l) [ true ↦ tail (held_by j b) | false ↦ held_by j b ]
      ]
    ]
        ≡ held_by j b
    go false = refl
    go true = rw (t, g)

-- a job without earlier lines holds nothing
pub none_held : (p : List ℕ) (j i : ℕ) → ((k : ℕ) → k < i → job (at p k) ≡ j → ⊥) → held_by j (before p i) ≡ []
unfolding held_by before
none_held p j zero f = refl
none_held p j (suc i) f =
    rw (ne_eqb (job (at p i)) j (f i (omega arith)), held_by) (none_held p j i (λ k h. f k (omega arith)))

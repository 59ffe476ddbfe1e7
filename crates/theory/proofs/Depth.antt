-- Whether a take is outermost needs no stack: in a plan that obeys the rules a give gives back the latest take of its
-- own device, so each device may be counted by itself. Before a line, its job has taken or held a device so many times
-- more often than it has given it; a take is outermost exactly if that number is 0.
use Prim.Native.Nat.{ℕ, suc, ◌-◌}
use mathlib.Core.Bool.{Bool, true, false, cond, not, ◌&&◌, ◌||◌}
use mathlib.Core.List.{List, [], ◌∷◌, tail}
use mathlib.Core.Path.{◌≡◌, refl, sym, ap}
use native.Mathlib.Omega.{arith}
use lib.Dec.{eqb, leb}
use borrow.Author.Tests.{eqb-true, le-leb}
use Rattle.model.specs.Lists.{has}
use Rattle.model.specs.Line.{job, opens, is_take, is_give, device_of, at}
use Rattle.model.specs.WellFormed.{before, held_by, held_there, is_last, Rules}
use Rattle.model.specs.Mate.{device_at, holds_already, takes_at}
use Rattle.theory.proofs.Tests.{clash}
use Rattle.theory.proofs.Line.{own_device, give_no_held}

-- how often a device stands in a list
unfoldable pub times : ℕ → List ℕ → ℕ
times d [] = 0
times d (x ∷ xs) = cond (eqb d x) (suc (times d xs)) (times d xs)

pub has_times : (d : ℕ) (xs : List ℕ) → has d xs ≡ leb 1 (times d xs)
unfolding has times
has_times d [] = refl
has_times d (x ∷ xs) = go (eqb d x) (has_times d xs)
  where
    go : (b : Bool) → has d xs ≡ leb 1 (times d xs)
        → (b || has d xs) ≡ leb 1 (cond b (suc (times d xs)) (times d xs))
    go true ih = sym (le-leb 1 (suc (times d xs)) (omega arith))
    go false ih = ih

-- without the latest
pub times_tail : (d x : ℕ) (xs : List ℕ) → is_last x xs ≡ true
    → times d (tail xs) ≡ cond (eqb d x) (times d xs - 1) (times d xs)
unfolding times is_last
times_tail d x [] h = clash false h refl
times_tail d x (y ∷ ys) h = rw (eqb-true x y h) (go (eqb d y))
  where
    go : (b : Bool)
        → times d ys ≡ cond b (cond b (suc (times d ys)) (times d ys) - 1) (cond b (suc (times d ys)) (times d ys))
    go true = omega arith
    go false = refl

-- how deep job j is in device d before line i
unfoldable pub depth : List ℕ → ℕ → ℕ → ℕ → ℕ
depth p j d i = times d (held_by j (before p i))

-- what a line of the job, of that device, does to it
unfoldable pub deeper : ℕ → ℕ → ℕ
deeper l n = cond (opens l) (suc n) (cond (is_give l) (n - 1) n)

pub depth_start : (p : List ℕ) (j d : ℕ) → depth p j d 0 ≡ 0
unfolding depth times before held_by
depth_start p j d = refl

pub depth_step : (p : List ℕ) → Rules p → (j d i : ℕ)
    → depth p j d (suc i)
    ≡ cond (eqb (job (at p i)) j && eqb d (device_at p i)) (deeper (at p i) (depth p j d i)) (depth p j d i)
unfolding depth deeper before held_by times device_at
depth_step p rules j d i = go (eqb (job (at p i)) j) (opens (at p i)) (is_give (at p i)) refl refl refl
  where
    xs : List ℕ
    xs = held_by j (before p i)

    given : eqb (job (at p i)) j ≡ true → is_give (at p i) ≡ true → is_last (device_of (at p i)) xs ≡ true
    given e g =
        rw (own_device (at p i) (give_no_held (at p i) g)) (rw (eqb-true (job (at p i)) j e) at (rules.give i g))

    go : (x y z : Bool) → eqb (job (at p i)) j ≡ x → opens (at p i) ≡ y → is_give (at p i) ≡ z
        → times d (elim x [
          | false ↦ xs
          | true ↦ elim y [ true ↦ device_of (at p i) ∷ xs | false ↦ elim z [ true ↦ tail xs | false ↦ xs ] ]
        ])
        ≡ cond (x && eqb d (device_of (at p i))) (cond y (suc (times d xs)) (cond z (times d xs - 1) (times d xs)))
        (times d xs)
    go false y z e f g = refl
    go true true z e f g = refl
    go true false true e f g = times_tail d (device_of (at p i)) xs (given e g)
    go true false false e f g = same (eqb d (device_of (at p i)))
      where
        same : (b : Bool) → times d xs ≡ cond b (times d xs) (times d xs)
        same true = refl
        same false = refl

-- The theorem: a take is outermost exactly if its job is not in its device yet.
pub outermost_by_depth : (p : List ℕ) (i : ℕ)
    → takes_at p i ≡ (is_take (at p i) && not (leb 1 (depth p (job (at p i)) (device_at p i) i)))
unfolding takes_at holds_already depth
outermost_by_depth p i =
    ap (λ (b : Bool). is_take (at p i) && not b) (has_times (device_at p i) (held_there p i))

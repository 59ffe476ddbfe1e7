-- Boolean tests: what a test that passes or fails says of its parts. Every other file of this room leans on these.
use Prim.Native.Nat.{ℕ, ◌≤◌, ◌<◌}
use mathlib.Core.Bool.{Bool, true, false, cond, not, ◌&&◌, ◌||◌}
use mathlib.Core.Logic.{◌⊎◌, inl, inr}
use mathlib.Core.Option.{Option, none, some, none-ne-some}
use mathlib.Core.Path.{◌≡◌, refl, sym, ap}
use native.Mathlib.Omega.{arith}
use lib.Dec.{leb}
use borrow.Author.Tests.{leb-true, leb-false, le-leb}

-- no test both passes and fails
pub clash : {A : Type 0} (b : Bool) → b ≡ true → b ≡ false → A
clash b e f =
    let z : ◌≡◌ {A = Bool} true false = cc in
    let w : ◌≡◌ {A = ℕ} 0 1 = ap (λ (t : Bool). cond t 0 1) z in
    absurd (omega arith)

-- what is none is not some
pub no_some : {A : Type 0} {m : ℕ} → ◌≡◌ {A = Option ℕ} none (some m) → A
no_some {A} {m} e = absurd (none-ne-some m e)

-- a test passes or fails
pub test : (b : Bool) → (b ≡ true) ⊎ (b ≡ false)
test true = inl refl
test false = inr refl

-- what cannot pass fails
pub falsely : (b : Bool) → (b ≡ true → ⊥) → b ≡ false
falsely true f = absurd (f refl)
falsely false f = refl

pub or_split : (a b : Bool) → (a || b) ≡ true → (a ≡ true) ⊎ (b ≡ true)
or_split true b e = inl refl
or_split false b e = inr e

pub or_left : (a b : Bool) → a ≡ true → (a || b) ≡ true
or_left true b e = refl
or_left false b e = clash false e refl

pub or_right : (a b : Bool) → b ≡ true → (a || b) ≡ true
or_right true b e = refl
or_right false b e = e

pub or_neither : (a b : Bool) → (a || b) ≡ false → (a ≡ false) × (b ≡ false)
or_neither true b e = clash true refl e
or_neither false b e = (refl, e)

pub and_split : (a b : Bool) → (a && b) ≡ true → (a ≡ true) × (b ≡ true)
and_split true b e = (refl, e)
and_split false b e = clash false e refl

pub and_both : (a b : Bool) → a ≡ true → b ≡ true → (a && b) ≡ true
and_both a b e f = rw (e, f)

pub and_left : (a b : Bool) → a ≡ false → (a && b) ≡ false
and_left true b e = clash true refl e
and_left false b e = refl

pub and_right : (a b : Bool) → b ≡ false → (a && b) ≡ false
and_right true b e = e
and_right false b e = refl

-- a test beside one that changes nothing
pub or_false : (b : Bool) → (b || false) ≡ b
or_false true = refl
or_false false = refl

pub and_true : (b : Bool) → (b && true) ≡ b
and_true true = refl
and_true false = refl

-- the second fails, where both fail and the first passes
pub and_second : (a b : Bool) → a ≡ true → (a && b) ≡ false → b ≡ false
and_second true b e h = h
and_second false b e h = clash false e refl

-- a test that passes only if another does
pub only_if : (a b : Bool) → (not a || b) ≡ true → a ≡ true → b ≡ true
only_if true b e h = e
only_if false b e h = clash false h refl

pub if_only : (a b : Bool) → (a ≡ true → b ≡ true) → (not a || b) ≡ true
if_only true b h = h refl
if_only false b h = refl

pub le_or_lt : (a b : ℕ) → (a ≤ b) ⊎ (b < a)
le_or_lt a b = go (test (leb a b))
  where
    go : (leb a b ≡ true) ⊎ (leb a b ≡ false) → (a ≤ b) ⊎ (b < a)
    go (inl h) = inl (leb-true a b h)
    go (inr h) = inr (leb-false a b h)

-- two tests that pass together are the same
pub tests_agree : (s t : Bool) → (s ≡ true → t ≡ true) → (t ≡ true → s ≡ true) → s ≡ t
tests_agree true t f g = sym (f refl)
tests_agree false true f g = g refl
tests_agree false false f g = refl

pub leb_agree : (a b c d : ℕ) → (a ≤ b → c ≤ d) → (c ≤ d → a ≤ b) → leb a b ≡ leb c d
leb_agree a b c d f g =
    tests_agree (leb a b) (leb c d) (λ e. le-leb c d (f (leb-true a b e))) (λ e. le-leb a b (g (leb-true c d e)))

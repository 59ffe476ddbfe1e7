-- What the words of `model/Lists` mean: members of a list, of the positions, of those that pass; what a search finds,
-- and that where it finds nothing nothing passes; what a lent list has in front and past it, once it was written to.
-- One law for each word serves order, verdict, faults and moves.
use Prim.Native.Nat.{ℕ, zero, suc, ◌+◌, ◌-◌, ◌<◌, ◌≤◌}
use mathlib.Core.Bool.{Bool, true, false, cond, ◌&&◌, ◌||◌}
use mathlib.Core.List.{List, [], ◌∷◌, ◌++◌, map}
use mathlib.Core.Logic.{◌⊎◌, inl, inr, ◌≢◌, ◌↔◌}
use mathlib.Core.Option.{Option, none, some, some-injective}
use mathlib.Core.Path.{◌≡◌, refl, sym, ◌∙◌, ap, subst}
use native.Mathlib.Omega.{arith}
use lib.Dec.{eqb, ltb}
use lib.ListN.{length, get_or, take, drop, length-append, length-drop, length-take, take-append-drop}
use lib.Seq.{get_or-take, get_or-drop, take_at, drop_at}
use borrow.Author.Tests.{eqb-true, eq-eqb, eqb-false, ltb-true, ltb-false}
use Rattle.model.specs.Lists.{up_from, positions, any, all, has, those, first_of, lower, least_by, or_else, over}
use Rattle.theory.proofs.Tests.{clash, no_some, test, or_split, or_left, or_right, and_split, and_both}
use Rattle.theory.proofs.Tests.{le_or_lt}

-- ---- members

pub has_head : (i : ℕ) (xs : List ℕ) → has i (i ∷ xs) ≡ true
unfolding has
has_head i xs = or_left (eqb i i) (has i xs) (eq-eqb i i refl)

pub has_tail : (i x : ℕ) (xs : List ℕ) → has i xs ≡ true → has i (x ∷ xs) ≡ true
unfolding has
has_tail i x xs e = or_right (eqb i x) (has i xs) e

pub has_cases : (i x : ℕ) (xs : List ℕ) → has i (x ∷ xs) ≡ true → (i ≡ x) ⊎ (has i xs ≡ true)
unfolding has
has_cases i x xs e = go (or_split (eqb i x) (has i xs) e)
  where
    go : (eqb i x ≡ true) ⊎ (has i xs ≡ true) → (i ≡ x) ⊎ (has i xs ≡ true)
    go (inl h) = inl (eqb-true i x h)
    go (inr h) = inr h

pub has_none : {A : Type 0} (i : ℕ) → has i [] ≡ true → A
unfolding has
has_none i e = clash false e refl

pub has_left : (i : ℕ) (xs ys : List ℕ) → has i xs ≡ true → has i (xs ++ ys) ≡ true
has_left i [] ys h = has_none i h
has_left i (x ∷ xs) ys h = go (has_cases i x xs h) (has_left i xs ys)
  where
    go : (i ≡ x) ⊎ (has i xs ≡ true) → (has i xs ≡ true → has i (xs ++ ys) ≡ true) → has i (x ∷ xs ++ ys) ≡ true
    go (inl e) ih = rw e (has_head x (xs ++ ys))
    go (inr m) ih = has_tail i x (xs ++ ys) (ih m)

pub has_right : (i : ℕ) (xs ys : List ℕ) → has i ys ≡ true → has i (xs ++ ys) ≡ true
has_right i [] ys h = h
has_right i (x ∷ xs) ys h = has_tail i x (xs ++ ys) (has_right i xs ys h)

pub has_append : (i : ℕ) (xs ys : List ℕ) → has i (xs ++ ys) ≡ true → (has i xs ≡ true) ⊎ (has i ys ≡ true)
has_append i [] ys h = inr h
has_append i (x ∷ xs) ys h = go (has_cases i x (xs ++ ys) h) (has_append i xs ys)
  where
    further : (has i xs ≡ true) ⊎ (has i ys ≡ true) → (has i (x ∷ xs) ≡ true) ⊎ (has i ys ≡ true)
    further (inl m) = inl (has_tail i x xs m)
    further (inr m) = inr m

    go : (i ≡ x) ⊎ (has i (xs ++ ys) ≡ true) → (has i (xs ++ ys) ≡ true → (has i xs ≡ true) ⊎ (has i ys ≡ true))
        → (has i (x ∷ xs) ≡ true) ⊎ (has i ys ≡ true)
    go (inl e) ih = inl (rw e (has_head x xs))
    go (inr m) ih = further (ih m)

pub has_suc : (i : ℕ) (xs : List ℕ) → has i (map suc xs) ≡ true → (k : ℕ) × (i ≡ suc k) × (has k xs ≡ true)
has_suc i [] h = has_none i h
has_suc i (x ∷ xs) h = go (has_cases i (suc x) (map suc xs) h) (has_suc i xs)
  where
    go : (i ≡ suc x) ⊎ (has i (map suc xs) ≡ true)
        → (has i (map suc xs) ≡ true → (k : ℕ) × (i ≡ suc k) × (has k xs ≡ true))
        → (k : ℕ) × (i ≡ suc k) × (has k (x ∷ xs) ≡ true)
    go (inl e) ih = (x, e, has_head x xs)
    go (inr m) ih = let r = ih m in (r.0, r.1, has_tail r.0 x xs r.2)

pub suc_has : (k : ℕ) (xs : List ℕ) → has k xs ≡ true → has (suc k) (map suc xs) ≡ true
suc_has k [] h = has_none k h
suc_has k (x ∷ xs) h = go (has_cases k x xs h) (suc_has k xs)
  where
    go : (k ≡ x) ⊎ (has k xs ≡ true) → (has k xs ≡ true → has (suc k) (map suc xs) ≡ true)
        → has (suc k) (suc x ∷ map suc xs) ≡ true
    go (inl e) ih = rw e (has_head (suc x) (map suc xs))
    go (inr m) ih = has_tail (suc k) (suc x) (map suc xs) (ih m)

-- ---- positions

pub has_up_from : (i n k : ℕ) → has k (up_from i n) ≡ true → (i ≤ k) × (k < i + n)
unfolding up_from
has_up_from i zero k h = has_none k h
has_up_from i (suc n) k h = go (has_cases k i (up_from (suc i) n) h) (has_up_from (suc i) n k)
  where
    go : (k ≡ i) ⊎ (has k (up_from (suc i) n) ≡ true)
        → (has k (up_from (suc i) n) ≡ true → (suc i ≤ k) × (k < suc i + n))
        → (i ≤ k) × (k < i + suc n)
    go (inl e) ih = (omega arith, omega arith)
    go (inr m) ih = let r = ih m in (omega (arith, r.0), omega (arith, r.1))

pub up_from_has : (i n k : ℕ) → i ≤ k → k < i + n → has k (up_from i n) ≡ true
unfolding up_from
up_from_has i zero k h g = absurd (omega arith)
up_from_has i (suc n) k h g = go (test (eqb k i)) (λ a. up_from_has (suc i) n k a (omega arith))
  where
    go : (eqb k i ≡ true) ⊎ (eqb k i ≡ false) → (suc i ≤ k → has k (up_from (suc i) n) ≡ true)
        → has k (i ∷ up_from (suc i) n) ≡ true
    go (inl e) ih = rw (eqb-true k i e) (has_head i (up_from (suc i) n))
    go (inr e) ih = let ne : (k ≡ i → ⊥) = eqb-false k i e in has_tail k i (up_from (suc i) n) (ih (omega arith))

pub has_position : (p : List ℕ) (k : ℕ) → has k (positions p) ≡ true → k < length p
unfolding positions
has_position p k h = omega (arith, (has_up_from 0 (length p) k h).1)

pub position_has : (p : List ℕ) (k : ℕ) → k < length p → has k (positions p) ≡ true
unfolding positions
position_has p k h = up_from_has 0 (length p) k (omega arith) (omega arith)

-- ---- tests over a list

pub any_found : (f : ℕ → Bool) (xs : List ℕ) → any f xs ≡ true → (k : ℕ) × (has k xs ≡ true) × (f k ≡ true)
unfolding any
any_found f [] h = clash false h refl
any_found f (x ∷ xs) h = go (or_split (f x) (any f xs) h) (any_found f xs)
  where
    go : (f x ≡ true) ⊎ (any f xs ≡ true) → (any f xs ≡ true → (k : ℕ) × (has k xs ≡ true) × (f k ≡ true))
        → (k : ℕ) × (has k (x ∷ xs) ≡ true) × (f k ≡ true)
    go (inl e) ih = (x, has_head x xs, e)
    go (inr m) ih = let r = ih m in (r.0, has_tail r.0 x xs r.1, r.2)

pub any_at : (f : ℕ → Bool) (xs : List ℕ) (k : ℕ) → has k xs ≡ true → f k ≡ true → any f xs ≡ true
unfolding any
any_at f [] k h e = has_none k h
any_at f (x ∷ xs) k h e = go (has_cases k x xs h) (λ m. any_at f xs k m e)
  where
    go : (k ≡ x) ⊎ (has k xs ≡ true) → (has k xs ≡ true → any f xs ≡ true) → (f x || any f xs) ≡ true
    go (inl q) ih = or_left (f x) (any f xs) (subst (λ (y : ℕ). f y ≡ true) q e)
    go (inr m) ih = or_right (f x) (any f xs) (ih m)

pub any_none : (f : ℕ → Bool) (xs : List ℕ) → any f xs ≡ false → (k : ℕ) → has k xs ≡ true → f k ≡ false
any_none f xs h k m = go (test (f k))
  where
    go : (f k ≡ true) ⊎ (f k ≡ false) → f k ≡ false
    go (inl e) = clash (any f xs) (any_at f xs k m e) h
    go (inr e) = e

pub none_any : (f : ℕ → Bool) (xs : List ℕ) → ((k : ℕ) → has k xs ≡ true → f k ≡ false) → any f xs ≡ false
none_any f xs h = go (test (any f xs))
  where
    go : (any f xs ≡ true) ⊎ (any f xs ≡ false) → any f xs ≡ false
    go (inl e) = let r = any_found f xs e in clash (f r.0) r.2 (h r.0 r.1)
    go (inr e) = e

-- all of a list pass, or one fails
pub all_at : (f : ℕ → Bool) (xs : List ℕ) (k : ℕ) → all f xs ≡ true → has k xs ≡ true → f k ≡ true
unfolding all
all_at f [] k e h = has_none k h
all_at f (x ∷ xs) k e h = let s = and_split (f x) (all f xs) e in go s.0 (has_cases k x xs h) (all_at f xs k s.1)
  where
    go : f x ≡ true → (k ≡ x) ⊎ (has k xs ≡ true) → (has k xs ≡ true → f k ≡ true) → f k ≡ true
    go t (inl q) ih = rw q t
    go t (inr m) ih = ih m

pub each_all : (f : ℕ → Bool) (xs : List ℕ) → ((k : ℕ) → has k xs ≡ true → f k ≡ true) → all f xs ≡ true
unfolding all
each_all f [] h = refl
each_all f (x ∷ xs) h =
    and_both (f x) (all f xs) (h x (has_head x xs)) (each_all f xs (λ k m. h k (has_tail k x xs m)))

pub not_all : (f : ℕ → Bool) (xs : List ℕ) → all f xs ≡ false → (k : ℕ) × (has k xs ≡ true) × (f k ≡ false)
unfolding all
not_all f [] h = clash true refl h
not_all f (x ∷ xs) h = go (f x) refl h (not_all f xs)
  where
    go : (b : Bool) → f x ≡ b → (b && all f xs) ≡ false
        → (all f xs ≡ false → (k : ℕ) × (has k xs ≡ true) × (f k ≡ false))
        → (k : ℕ) × (has k (x ∷ xs) ≡ true) × (f k ≡ false)
    go false e m ih = (x, has_head x xs, e)
    go true e m ih = let r = ih m in (r.0, has_tail r.0 x xs r.1, r.2)

-- ---- those that pass

pub has_those : (f : ℕ → Bool) (xs : List ℕ) (k : ℕ) → has k (those f xs) ≡ true → (has k xs ≡ true) × (f k ≡ true)
unfolding those
has_those f [] k h = has_none k h
has_those f (x ∷ xs) k h = go (f x) refl h (has_those f xs k)
  where
    go : (b : Bool) → f x ≡ b → has k (elim b [ true ↦ x ∷ those f xs | false ↦ those f xs ]) ≡ true
        → (has k (those f xs) ≡ true → (has k xs ≡ true) × (f k ≡ true))
        → (has k (x ∷ xs) ≡ true) × (f k ≡ true)
    go false e m ih = let r = ih m in (has_tail k x xs r.0, r.1)
    go true e m ih = split (has_cases k x (those f xs) m)
      where
        split : (k ≡ x) ⊎ (has k (those f xs) ≡ true) → (has k (x ∷ xs) ≡ true) × (f k ≡ true)
        split (inl q) = (rw q (has_head x xs), rw q e)
        split (inr n) = let r = ih n in (has_tail k x xs r.0, r.1)

pub those_has : (f : ℕ → Bool) (xs : List ℕ) (k : ℕ) → has k xs ≡ true → f k ≡ true → has k (those f xs) ≡ true
unfolding those
those_has f [] k h e = has_none k h
those_has f (x ∷ xs) k h e = go (f x) refl (has_cases k x xs h) (λ m. those_has f xs k m e)
  where
    go : (b : Bool) → f x ≡ b → (k ≡ x) ⊎ (has k xs ≡ true) → (has k xs ≡ true → has k (those f xs) ≡ true)
        → has k (elim b [ true ↦ x ∷ those f xs | false ↦ those f xs ]) ≡ true
    go true q (inl z) ih = rw z (has_head x (those f xs))
    go true q (inr m) ih = has_tail k x (those f xs) (ih m)
    go false q (inl z) ih = clash (f x) (subst (λ (y : ℕ). f y ≡ true) z e) q
    go false q (inr m) ih = ih m

-- tests that agree on a list pass the same of it
pub those_same : (f g : ℕ → Bool) (xs : List ℕ) → ((k : ℕ) → has k xs ≡ true → f k ≡ g k) → those f xs ≡ those g xs
unfolding those
those_same f g [] h = refl
those_same f g (x ∷ xs) h = go (f x) (g x) (h x (has_head x xs)) (those_same f g xs (λ k m. h k (has_tail k x xs m)))
  where
    go : (a b : Bool) → a ≡ b → those f xs ≡ those g xs
        → ◌≡◌ {A = List ℕ} (elim a [ true ↦ x ∷ those f xs | false ↦ those f xs ])
        (elim b [ true ↦ x ∷ those g xs | false ↦ those g xs ])
    go true true e ih = ap {B = List ℕ} (λ ys. x ∷ ys) ih
    go false false e ih = ih
    go true false e ih = clash true refl e
    go false true e ih = clash true refl (sym e)

-- no more pass than there are
pub those_length : (f : ℕ → Bool) (xs : List ℕ) → length (those f xs) ≤ length xs
unfolding those
those_length f [] = omega arith
those_length f (x ∷ xs) = go (f x) (those_length f xs)
  where
    go : (b : Bool) → length (those f xs) ≤ length xs
        → length {A = ℕ} (elim b [ true ↦ x ∷ those f xs | false ↦ those f xs ]) ≤ suc (length xs)
    go true ih = omega arith
    go false ih = omega arith

-- ---- what a search finds

-- an answer is of the list and passes; where there is none, nothing of the list passes
abbrev pub Answer : (ℕ → Bool) → List ℕ → Option ℕ → Type 0
Answer f xs none = (k : ℕ) → has k xs ≡ true → f k ≡ false
Answer f xs (some i) = (has i xs ≡ true) × (f i ≡ true)

pub first_answer : (f : ℕ → Bool) (xs : List ℕ) → Answer f xs (first_of f xs)
unfolding first_of
first_answer f [] = λ k m. has_none k m
first_answer f (x ∷ xs) = go (f x) refl (first_of f xs) (first_answer f xs)
  where
    go : (b : Bool) → f x ≡ b → (o : Option ℕ) → Answer f xs o
        → Answer f (x ∷ xs) (elim b [ true ↦ some x | false ↦ o ])
    go true e o ih = (has_head x xs, e)
    go false e (some i) ih = (has_tail i x xs ih.0, ih.1)
    go false e none ih = λ k m. split k (has_cases k x xs m)
      where
        split : (k : ℕ) → (k ≡ x) ⊎ (has k xs ≡ true) → f k ≡ false
        split k (inl q) = rw q e
        split k (inr n) = ih k n

-- none is found exactly if none passes
pub none_exactly : (f : ℕ → Bool) (xs : List ℕ) → (first_of f xs ≡ none) ↔ ((k : ℕ) → has k xs ≡ true → f k ≡ false)
none_exactly f xs =
    (λ e. to (first_of f xs) e (first_answer f xs), λ h. from h (first_of f xs) refl (first_answer f xs))
  where
    to : (o : Option ℕ) → o ≡ none → Answer f xs o → (k : ℕ) → has k xs ≡ true → f k ≡ false
    to none e a = a
    to (some i) e a = no_some (sym e)

    from : ((k : ℕ) → has k xs ≡ true → f k ≡ false) → (o : Option ℕ) → first_of f xs ≡ o → Answer f xs o
        → first_of f xs ≡ none
    from h none e a = e
    from h (some i) e a = clash (f i) a.1 (h i a.0)

-- what a search finds, with what stands before it and after it: nothing before it passes
pub first_split : (f : ℕ → Bool) (xs : List ℕ) (k : ℕ) → first_of f xs ≡ some k
    → (ys zs : List ℕ) × (xs ≡ ys ++ (k ∷ zs)) × (f k ≡ true) × ((j : ℕ) → has j ys ≡ true → f j ≡ false)
unfolding first_of
first_split f [] k e = no_some e
first_split f (x ∷ xs) k e = go (f x) refl e (first_split f xs k)
  where
    go : (b : Bool) → f x ≡ b → elim b [ true ↦ some x | false ↦ first_of f xs ] ≡ some k
        → (first_of f xs ≡ some k
        → (ys zs : List ℕ) × (xs ≡ ys ++ (k ∷ zs)) × (f k ≡ true) × ((j : ℕ) → has j ys ≡ true → f j ≡ false))
        → (ys zs : List ℕ) × (x ∷ xs ≡ ys ++ (k ∷ zs)) × (f k ≡ true) × ((j : ℕ) → has j ys ≡ true → f j ≡ false)
    go true q e ih =
        let y : x ≡ k = some-injective x k e in
        ([], xs, ap (λ (z : ℕ). z ∷ xs) y, rw y at q, λ j h. has_none j h)
    go false q e ih =
        let r = ih e in
        (x ∷ r.0, r.1, ap (λ (z : List ℕ). x ∷ z) r.2, r.3, λ j h. fails r.0 j (has_cases j x r.0 h) r.4)
      where
        fails : (ys : List ℕ) (j : ℕ) → (j ≡ x) ⊎ (has j ys ≡ true) → ((j : ℕ) → has j ys ≡ true → f j ≡ false)
            → f j ≡ false
        fails ys j (inl z) g = rw z q
        fails ys j (inr z) g = g j z

-- and back
pub split_first : (f : ℕ → Bool) (ys zs : List ℕ) (k : ℕ) → f k ≡ true → ((j : ℕ) → has j ys ≡ true → f j ≡ false)
    → first_of f (ys ++ (k ∷ zs)) ≡ some k
unfolding first_of
split_first f [] zs k e g = rw e
split_first f (y ∷ ys) zs k e g =
    rw (g y (has_head y ys)) (split_first f ys zs k e (λ j h. g j (has_tail j y ys h)))

-- a search through one list after another
pub first_append : (f : ℕ → Bool) (xs ys : List ℕ) → first_of f (xs ++ ys) ≡ or_else (first_of f xs) (first_of f ys)
unfolding first_of or_else
first_append f [] ys = refl
first_append f (x ∷ xs) ys = go (f x) (first_append f xs ys)
  where
    go : (b : Bool) → first_of f (xs ++ ys) ≡ or_else (first_of f xs) (first_of f ys)
        → elim b [ true ↦ some x | false ↦ first_of f (xs ++ ys) ]
        ≡ or_else (elim b [ true ↦ some x | false ↦ first_of f xs ]) (first_of f ys)
    go true ih = refl
    go false ih = ih

-- the first of ascending numbers is the lowest
pub first_lowest : (f : ℕ → Bool) (i n m : ℕ) → first_of f (up_from i n) ≡ some m → (k : ℕ) → i ≤ k → k < m
    → f k ≡ false
unfolding first_of up_from
first_lowest f i zero m e k h g = no_some e
first_lowest f i (suc n) m e k h g = go (f i) refl e (test (eqb k i)) (λ q a. first_lowest f (suc i) n m q k a g)
  where
    go : (b : Bool) → f i ≡ b → elim b [ true ↦ some i | false ↦ first_of f (up_from (suc i) n) ] ≡ some m
        → (eqb k i ≡ true) ⊎ (eqb k i ≡ false)
        → (first_of f (up_from (suc i) n) ≡ some m → suc i ≤ k → f k ≡ false) → f k ≡ false
    go true q e t ih = let z : i ≡ m = some-injective i m e in absurd (omega arith)
    go false q e (inl t) ih = rw (eqb-true k i t) q
    go false q e (inr t) ih = let ne : (k ≡ i → ⊥) = eqb-false k i t in ih e (omega arith)

-- and the lowest that passes is the first
pub first_is_lowest : (f : ℕ → Bool) (a n i : ℕ) → a ≤ i → i < a + n → f i ≡ true
    → ((k : ℕ) → a ≤ k → k < i → f k ≡ false)
    → first_of f (up_from a n) ≡ some i
unfolding first_of up_from
first_is_lowest f a zero i h g e low = absurd (omega arith)
first_is_lowest f a (suc n) i h g e low =
    go (f a) refl (test (eqb i a))
    (λ lt. first_is_lowest f (suc a) n i lt (omega arith) e (λ k m. low k (omega arith)))
  where
    go : (b : Bool) → f a ≡ b → (eqb i a ≡ true) ⊎ (eqb i a ≡ false)
        → (suc a ≤ i → first_of f (up_from (suc a) n) ≡ some i)
        → elim b [ true ↦ some a | false ↦ first_of f (up_from (suc a) n) ] ≡ some i
    go true q (inl t) ih = ap {B = Option ℕ} some (sym (eqb-true i a t))
    go true q (inr t) ih = let ne = eqb-false i a t in clash (f a) q (low a (omega arith) (omega arith))
    go false q (inl t) ih = clash (f a) (rw (eqb-true i a t) at e) q
    go false q (inr t) ih = let ne = eqb-false i a t in ih (omega arith)

-- the first of those that pass is the first that passes both
pub first_those : (f g : ℕ → Bool) (xs : List ℕ) → first_of f (those g xs) ≡ first_of (λ k. g k && f k) xs
unfolding first_of those
first_those f g [] = refl
first_those f g (x ∷ xs) = go (g x) (first_those f g xs)
  where
    go : (b : Bool) → first_of f (those g xs) ≡ first_of (λ k. g k && f k) xs
        → first_of f (elim b [ true ↦ x ∷ those g xs | false ↦ those g xs ])
        ≡ elim (b && f x) [ true ↦ some x | false ↦ first_of (λ k. g k && f k) xs ]
    go false ih = ih
    go true ih = ap (λ (o : Option ℕ). elim (f x) [ true ↦ some x | false ↦ o ]) ih

-- the one with the lowest key: of the list, and no other of the list has a lower one; none only of the empty list
abbrev pub Least : (ℕ → ℕ) → List ℕ → Option ℕ → Type 0
Least key xs none = xs ≡ []
Least key xs (some i) = (has i xs ≡ true) × ((k : ℕ) → has k xs ≡ true → key i ≤ key k)

pub least_answer : (key : ℕ → ℕ) (xs : List ℕ) → Least key xs (least_by key xs)
unfolding least_by lower
least_answer key [] = refl
least_answer key (x ∷ xs) = go (least_by key xs) (least_answer key xs)
  where
    alone : xs ≡ [] → (k : ℕ) → (k ≡ x) ⊎ (has k xs ≡ true) → key x ≤ key k
    alone e k (inl q) = rw q (omega arith)
    alone e k (inr m) = has_none k (rw e at m)

    go : (o : Option ℕ) → Least key xs o → Least key (x ∷ xs) (lower key x o)
    go none e = (has_head x xs, λ k m. alone e k (has_cases k x xs m))
    go (some y) ih = split (ltb (key y) (key x)) refl
      where
        tail : (z : ℕ) → key z ≤ key x → key z ≤ key y → (k : ℕ) → (k ≡ x) ⊎ (has k xs ≡ true) → key z ≤ key k
        tail z a b k (inl q) = rw q a
        tail z a b k (inr m) = omega (arith, ih.1 k m)

        split : (b : Bool) → ltb (key y) (key x) ≡ b → Least key (x ∷ xs) (elim b [ true ↦ some y | false ↦ some x ])
        split true e = (
          has_tail y x xs ih.0,
          λ k m. tail y (omega (arith, ltb-true (key y) (key x) e)) (omega arith) k
              (has_cases k x xs m),
        )
        split false e = (
          has_head x xs,
          λ k m. tail x (omega arith) (omega (arith, ltb-false (key y) (key x) e)) k
              (has_cases k x xs m),
        )

-- ---- how many numbers below n do not pass

unfoldable pub left : (ℕ → Bool) → ℕ → ℕ
left f zero = 0
left f (suc n) = cond (f n) (left f n) (suc (left f n))

-- where more passes, no more is left, and less where one more passes
pub left_le : (f g : ℕ → Bool) → ((k : ℕ) → f k ≡ true → g k ≡ true) → (n : ℕ) → left g n ≤ left f n
unfolding left
left_le f g s zero = omega arith
left_le f g s (suc n) = go (f n) (g n) refl refl (left_le f g s n)
  where
    go : (a b : Bool) → f n ≡ a → g n ≡ b → left g n ≤ left f n
        → cond b (left g n) (suc (left g n)) ≤ cond a (left f n) (suc (left f n))
    go true true e h ih = ih
    go true false e h ih = clash (g n) (s n e) h
    go false true e h ih = omega arith
    go false false e h ih = omega arith

pub left_lt : (f g : ℕ → Bool) → ((k : ℕ) → f k ≡ true → g k ≡ true) → (i : ℕ) → f i ≡ false → g i ≡ true → (n : ℕ)
    → i < n → left g n < left f n
unfolding left
left_lt f g s i hf hg zero h = absurd (omega arith)
left_lt f g s i hf hg (suc n) lim =
    go (f n) (g n) refl refl (left_le f g s n) (test (eqb i n)) (left_lt f g s i hf hg n)
  where
    at_n : (k : ℕ → Bool) (b : Bool) → k i ≡ b → eqb i n ≡ true → k n ≡ b
    at_n k b e t = subst (λ (x : ℕ). k x ≡ b) (eqb-true i n t) e

    go : (a b : Bool) → f n ≡ a → g n ≡ b → left g n ≤ left f n → (eqb i n ≡ true) ⊎ (eqb i n ≡ false)
        → (i < n → left g n < left f n) → cond b (left g n) (suc (left g n)) < cond a (left f n) (suc (left f n))
    go false true e h le t ih = omega arith
    go true false e h le t ih = clash (g n) (s n e) h
    go true true e h le (inl t) ih = clash (f n) e (at_n f false hf t)
    go true true e h le (inr t) ih = let q = eqb-false i n t in ih (omega arith)
    go false false e h le (inl t) ih = clash (g n) (at_n g true hg t) h
    go false false e h le (inr t) ih = let q = eqb-false i n t in let r : i < n = omega arith in omega (arith, ih r)

-- nothing is left exactly if all pass
pub left_none : (f : ℕ → Bool) (n : ℕ) → left f n ≤ 0 → (k : ℕ) → k < n → f k ≡ true
unfolding left
left_none f zero h k g = absurd (omega arith)
left_none f (suc n) h k g = go (f n) refl h (test (eqb k n)) (λ a b. left_none f n a k b)
  where
    go : (b : Bool) → f n ≡ b → cond b (left f n) (suc (left f n)) ≤ 0 → (eqb k n ≡ true) ⊎ (eqb k n ≡ false)
        → (left f n ≤ 0 → k < n → f k ≡ true) → f k ≡ true
    go false e a t ih = absurd (omega arith)
    go true e a (inl t) ih = subst (λ (x : ℕ). f x ≡ true) (sym (eqb-true k n t)) e
    go true e a (inr t) ih = let q = eqb-false k n t in ih a (omega arith)

pub left_zero : (f : ℕ → Bool) (n : ℕ) → ((k : ℕ) → k < n → f k ≡ true) → left f n ≤ 0
unfolding left
left_zero f zero s = omega arith
left_zero f (suc n) s = rw (s n (omega arith)) (left_zero f n (λ k h. s k (omega arith)))

pub left_all : (f : ℕ → Bool) (n : ℕ) → left f n ≤ n
unfolding left
left_all f zero = omega arith
left_all f (suc n) = go (f n) (left_all f n)
  where
    go : (b : Bool) → left f n ≤ n → cond b (left f n) (suc (left f n)) ≤ suc n
    go true h = omega arith
    go false h = omega arith

-- tests that agree leave as many
pub left_same : (f g : ℕ → Bool) (n : ℕ) → ((k : ℕ) → k < n → f k ≡ g k) → left f n ≡ left g n
unfolding left
left_same f g zero h = refl
left_same f g (suc n) h = rw (h n (omega arith), left_same f g n (λ k l. h k (omega arith)))

-- where just one more passes, just one less is left
pub left_one : (f g : ℕ → Bool) (i : ℕ) → f i ≡ false → g i ≡ true → ((k : ℕ) → k ≢ i → f k ≡ g k) → (n : ℕ) → i < n
    → left f n ≡ suc (left g n)
unfolding left
left_one f g i a b h zero l = absurd (omega arith)
left_one f g i a b h (suc n) l = go (test (eqb n i)) (left_one f g i a b h n)
  where
    step : (c d : Bool) → c ≡ d → left f n ≡ suc (left g n)
        → cond c (left f n) (suc (left f n)) ≡ suc (cond d (left g n) (suc (left g n)))
    step true true e ih = ih
    step false false e ih = ap suc ih
    step true false e ih = clash true refl e
    step false true e ih = clash true refl (sym e)

    go : (eqb n i ≡ true) ⊎ (eqb n i ≡ false) → (i < n → left f n ≡ suc (left g n))
        → cond (f n) (left f n) (suc (left f n)) ≡ suc (cond (g n) (left g n) (suc (left g n)))
    go (inl q) ih =
        let z = eqb-true n i q in
        rw (z, a, b) (ap suc (left_same f g i (λ k m. h k (λ y. omega arith))))
    go (inr q) ih = let z = eqb-false n i q in step (f n) (g n) (h n z) (ih (omega (arith, z)))

-- a list as a test
abbrev pub among : List ℕ → ℕ → Bool
among xs k = has k xs

-- nothing is done: all is left
pub left_every : (n : ℕ) → left (among []) n ≡ n
unfolding left has
left_every zero = refl
left_every (suc n) = ap suc (left_every n)

-- ---- lent lists that were written to

pub over_front : (n : ℕ) (new old : List ℕ) → length new ≡ n → take n (over new old) ≡ new
unfolding over
over_front n new old h = take_at new (drop (length new) old) n h

pub over_rest : (n : ℕ) (new old : List ℕ) → length new ≡ n → drop n (over new old) ≡ drop n old
unfolding over
over_rest n new old h = drop_at new (drop (length new) old) n h ∙ rw h

pub over_length : (new old : List ℕ) → length new ≤ length old → length (over new old) ≡ length old
unfolding over
over_length new old h = simp (length-append, length-drop) (omega arith)

-- written over again, by as many
pub over_again : (new mid old : List ℕ) → length new ≡ length mid → over new (over mid old) ≡ over new old
unfolding over
over_again new mid old h =
    ap (λ (xs : List ℕ). new ++ xs) (drop_at mid (drop (length mid) old) (length new) (sym h) ∙ rw h)

-- with what stands there
pub over_own : (n : ℕ) (new old : List ℕ) → take n old ≡ new → length new ≡ n → over new old ≡ old
unfolding over
over_own n new old h k = rw (k, ← h) (take-append-drop n old)

pub own_room : (n : ℕ) (new old : List ℕ) → take n old ≡ new → length new ≡ n → n ≤ length old
own_room n new old h k = omega (arith, ap length h, length-take n old)

-- an entry of a list that was written to, from its front or from past it
pub over_entry : (new old : List ℕ) (d v : ℕ) → (d < length new → get_or new d 0 ≡ v)
    → (length new ≤ d → get_or old d 0 ≡ v) → get_or (over new old) d 0 ≡ v
over_entry new old d v f g = go (le_or_lt (length new) d)
  where
    n : ℕ
    n = length new

    go : (length new ≤ d) ⊎ (d < length new) → get_or (over new old) d 0 ≡ v
    go (inr h) =
        sym (get_or-take n (over new old) d 0 h) ∙ ap (λ (xs : List ℕ). get_or xs d 0) (over_front n new old refl) ∙ f h
    go (inl h) = past (d - n) (omega arith)
      where
        past : (k : ℕ) → d ≡ n + k → get_or (over new old) d 0 ≡ v
        past k z =
            let c = ap (λ (xs : List ℕ). get_or xs k 0) (over_rest n new old refl) in
            rw z (sym (get_or-drop n (over new old) k 0) ∙ c ∙ get_or-drop n old k 0 ∙ (rw (← z) (g h)))

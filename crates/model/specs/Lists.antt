-- Words for lists of numbers, which no paragraph of 01 defines and every one uses: positions, tests over a list, and
-- what a lent list holds after it was written to.
use Rattle.std.specs.Prelude.{ℕ, zero, suc, Bool, true, false, ◌&&◌, ◌||◌, List, [], ◌∷◌, ◌++◌, eqb, ltb, length, drop}
use Rattle.std.proofs.Math.Option.{Option, none, some}

-- the numbers from i on, n of them
unfoldable pub up_from : ℕ → ℕ → List ℕ
up_from i zero = []
up_from i (suc n) = i ∷ up_from (suc i) n

-- the positions of a list, from 0
unfoldable pub positions : List ℕ → List ℕ
unfolding up_from
positions p = up_from 0 (length p)

-- one of a list passes the test; all of it do
unfoldable pub any : (ℕ → Bool) → List ℕ → Bool
any f [] = false
any f (x ∷ xs) = f x || any f xs

unfoldable pub all : (ℕ → Bool) → List ℕ → Bool
all f [] = true
all f (x ∷ xs) = f x && all f xs

-- a number is one of a list
unfoldable pub has : ℕ → List ℕ → Bool
unfolding any
has n xs = any (eqb n) xs

-- those of a list that pass
unfoldable pub those : (ℕ → Bool) → List ℕ → List ℕ
those f [] = []
those f (x ∷ xs) = elim (f x) [ true ↦ x ∷ those f xs | false ↦ those f xs ]

-- the first of a list that passes
unfoldable pub first_of : (ℕ → Bool) → List ℕ → Option ℕ
first_of f [] = none
first_of f (x ∷ xs) = elim (f x) [ true ↦ some x | false ↦ first_of f xs ]

-- the last of a list; of an empty one, the number given
unfoldable pub last_or : ℕ → List ℕ → ℕ
last_or x [] = x
last_or x (y ∷ ys) = last_or y ys

-- of x and the one found so far, the one with the lower key; x where the keys are equal
unfoldable pub lower : (ℕ → ℕ) → ℕ → Option ℕ → Option ℕ
lower key x none = some x
lower key x (some y) = elim (ltb (key y) (key x)) [ true ↦ some y | false ↦ some x ]

-- the first of those of a list that have the lowest key
unfoldable pub least_by : (ℕ → ℕ) → List ℕ → Option ℕ
unfolding lower
least_by key [] = none
least_by key (x ∷ xs) = lower key x (least_by key xs)

-- the first of two, or, where there is none, the second
unfoldable pub or_else : Option ℕ → Option ℕ → Option ℕ
or_else (some x) b = some x
or_else none b = b

-- two lists are the same
unfoldable pub same : List ℕ → List ℕ → Bool
same [] [] = true
same [] (y ∷ ys) = false
same (x ∷ xs) [] = false
same (x ∷ xs) (y ∷ ys) = elim (eqb x y) [ true ↦ same xs ys | false ↦ false ]

-- a lent list after new entries were written to its front: the entries past them stay as they were
unfoldable pub over : List ℕ → List ℕ → List ℕ
over new old = new ++ drop (length new) old

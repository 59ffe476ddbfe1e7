-- A line's claim set by the first lines of two jobs, its own and, for a start, the started one (01, "Claims and rows"):
-- what the code keeps in an array of one set a job. And the own claim, as the code works it out.
use Prim.Native.Nat.{ℕ, suc}
use mathlib.Core.Bool.{Bool, true, false, cond}
use mathlib.Core.List.{List, [], ◌∷◌, ◌++◌, map}
use mathlib.Core.Path.{◌≡◌, refl, sym, ◌∙◌, ap}
use lib.Bits.{or_zero_l, or_zero_r}
use lib.Dec.{eqb}
use lib.ListN.{get_or, drop}
use Rattle.model.specs.Sets.{empty, only, union, union_of}
use Rattle.sets.specs.Only.{only_of}
use Rattle.model.specs.Line.{Settings, job, operand, opens, is_take, is_give, is_start, device_of, is_line, at}
use Rattle.model.specs.Line.{first_line}
use Rattle.model.specs.Mate.{takes_at, device_at}
use Rattle.model.specs.Claims.{successors, own, joined, beyond}
use Rattle.theory.specs.Outer.{again_at, plain_at}
use Rattle.theory.proofs.Line.{device_line, own_device, take_no_held, take_opens}
use Rattle.theory.proofs.Tests.{or_left}
use Rattle.theory.proofs.Claims.{outermost}
use Rattle.theory.proofs.Outer.{plain_operand, plain_take, plain_start}
use Rattle.sets.proofs.Members.{only_of_lem}
use Rattle.claims.specs.Claim.{begun_of}

-- ---- unions with the empty set

pub union_none : (a : ℕ) → union a empty ≡ a
unfolding union empty
union_none a = or_zero_r a

pub none_union : (a : ℕ) → union empty a ≡ a
unfolding union empty
none_union a = or_zero_l a

-- ---- the first line of a job is at most one

pub data AtMostOne : List ℕ → Type 0 where
  no : AtMostOne []
  one : (o : ℕ) → AtMostOne (o ∷ [])

pub at_most_one : (j : ℕ) (ls : List ℕ) → AtMostOne (first_line j ls)
unfolding first_line
at_most_one j [] = no
at_most_one j (l ∷ ls) = go (eqb (job l) j) (first_line j ls) (at_most_one j ls)
  where
    go : (b : Bool) (xs : List ℕ) → AtMostOne xs → AtMostOne (elim b [ true ↦ 0 ∷ [] | false ↦ map suc xs ])
    go true xs h = one 0
    go false [] no = no
    go false (x ∷ []) (one o) = one (suc o)
    go false (x ∷ (y ∷ ys)) h = elim h [ ]

-- the set of the first line of job j, among lines whose table is t; none where the job has no line there
abbrev pub set_of : List ℕ → List ℕ → ℕ → ℕ
set_of t ls j = joined t (first_line j ls)

joined_both : (t xs ys : List ℕ) → AtMostOne xs → joined t (xs ++ ys) ≡ union (joined t xs) (joined t ys)
unfolding joined union_of
joined_both t [] ys no = sym (none_union (joined t ys))
joined_both t (x ∷ []) ys (one o) = ap (λ (s : ℕ). union s (joined t ys)) (sym (union_none (get_or t o 0)))
joined_both t (x ∷ (y ∷ more)) ys h = elim h [ ]

joined_if : (t xs : List ℕ) (b : Bool) → joined t (cond b xs []) ≡ cond b (joined t xs) empty
unfolding joined union_of
joined_if t xs true = refl
joined_if t xs false = refl

-- what lies beyond a line is in these two sets
pub beyond_is : (p t : List ℕ) (i : ℕ)
    → beyond p t i
    ≡ union (set_of (drop (suc i) t) (drop (suc i) p) (job (at p i)))
    (cond (is_start (at p i)) (set_of (drop (suc i) t) (drop (suc i) p) (operand (at p i))) empty)
unfolding beyond successors
beyond_is p t i =
    let l = at p i in
    let ls = drop (suc i) p in
    let u = drop (suc i) t in
    joined_both u (first_line (job l) ls) (cond (is_start l) (first_line (operand l) ls) []) (at_most_one (job l) ls)
    ∙ ap (union (joined u (first_line (job l) ls))) (joined_if u (first_line (operand l) ls) (is_start l))

-- ---- the sets of first lines with one line more in front

pub set_here : (v l : ℕ) (t ls : List ℕ) (j : ℕ) → eqb (job l) j ≡ true → set_of (v ∷ t) (l ∷ ls) j ≡ v
unfolding joined union_of first_line
set_here v l t ls j e = rw (first_line, e) (union_none v)

shifted : (v : ℕ) (t xs : List ℕ) → joined (v ∷ t) (map suc xs) ≡ joined t xs
unfolding joined union_of
shifted v t [] = refl
shifted v t (x ∷ xs) = ap (union (get_or t x 0)) (shifted v t xs)

pub set_there : (v l : ℕ) (t ls : List ℕ) (j : ℕ) → eqb (job l) j ≡ false → set_of (v ∷ t) (l ∷ ls) j ≡ set_of t ls j
unfolding first_line
set_there v l t ls j e = rw (first_line, e) (shifted v t (first_line j ls))

-- ---- the own claim, as the code works it out from the line as it counts

pub own_is : (S : Settings) (p : List ℕ) (i : ℕ) → is_line S (at p i) ≡ true
    → cond (is_take (plain_at p i)) (only_of S.devices (operand (plain_at p i))) empty ≡ own p i
unfolding own device_at
own_is S p i h = rw (plain_take p i, plain_operand (again_at p i) (at p i)) (go (takes_at p i) refl)
  where
    go : (b : Bool) → takes_at p i ≡ b
        → cond b (only_of S.devices (operand (at p i))) empty ≡ cond b (only (device_of (at p i))) empty
    go false e = refl
    go true e =
        let l = at p i in
        let t = (outermost p i e).0 in
        let same = own_device l (take_no_held l t) in
        ap (only_of S.devices) (sym same)
        ∙ only_of_lem S.devices (device_of l) (device_line S l h (or_left (opens l) (is_give l) (take_opens l t)))

-- what a started job claims, by the line as it counts
pub begun_is : (p claimed : List ℕ) (i : ℕ) → begun_of (plain_at p i) claimed ≡ begun_of (at p i) claimed
unfolding begun_of
begun_is p claimed i = rw (plain_start p i, plain_operand (again_at p i) (at p i))

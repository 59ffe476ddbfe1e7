-- A device is in the claim set of a line exactly if a take of it is reached from the line by successors, in none or
-- more steps. Both halves of the existence theorem read claim sets and rows through this.
use Prim.Native.Nat.{ℕ, zero, suc, ◌+◌, ◌<◌, ◌≤◌}
use mathlib.Core.Bool.{Bool, true, false, cond, not, ◌&&◌}
use mathlib.Core.List.{List, [], ◌∷◌, map}
use mathlib.Core.Logic.{◌⊎◌, inl, inr, ◌↔◌}
use mathlib.Core.Path.{◌≡◌, refl, sym, ◌∙◌, ap}
use native.Mathlib.Nat.{add-zero}
use native.Mathlib.Omega.{arith}
use lib.Dec.{eqb}
use lib.ListN.{length, get_or, drop, length-map, get_or-eq_default}
use lib.Seq.{get_or-drop}
use borrow.Author.Tests.{eqb-true, eq-eqb, not-true}
use Rattle.model.specs.Lists.{up_from, positions, has}
use Rattle.model.specs.Sets.{empty, only, union, member}
use Rattle.model.specs.Line.{is_take, at}
use Rattle.model.specs.Mate.{device_at, holds_already, takes_at, takes}
use Rattle.model.specs.Claims.{successors, own, joined, table_of, table, beyond}
use Rattle.theory.specs.Claims.{claim, Reach, here, step, Reached}
use Rattle.theory.proofs.Tests.{clash, and_split, le_or_lt}
use Rattle.theory.proofs.Line.{take_line}
use Rattle.theory.proofs.Sets.{member_empty, member_only, in_union, in_left_lem, in_right, in_union_of, union_of_in}

-- ---- the table, line by line

pub length_up_from : (i n : ℕ) → length (up_from i n) ≡ n
unfolding up_from
length_up_from i zero = refl
length_up_from i (suc n) = ap suc (length_up_from (suc i) n)

pub get_or_up_from : (f : ℕ → ℕ) (a n i : ℕ) → i < n → get_or (map f (up_from a n)) i 0 ≡ f (a + i)
unfolding up_from
get_or_up_from f a zero i h = absurd (omega arith)
get_or_up_from f a (suc n) zero h = ap f (sym (add-zero a))
get_or_up_from f a (suc n) (suc i) h = get_or_up_from f (suc a) n i (omega arith) ∙ ap f (omega arith)

length_table_of : (os ls : List ℕ) → length os ≡ length ls → length (table_of os ls) ≡ length ls
unfolding table_of
length_table_of [] ls e = e
length_table_of (o ∷ os) [] e = absurd (omega arith)
length_table_of (o ∷ os) (l ∷ ls) e = ap suc (length_table_of os ls (omega arith))

entry : (os ls : List ℕ) (i : ℕ) → i < length os → length os ≡ length ls
    → get_or (table_of os ls) i 0
    ≡ union (get_or os i 0) (joined (drop (suc i) (table_of os ls)) (successors (at ls i) (drop (suc i) ls)))
unfolding table_of
entry [] ls i h e = absurd (omega arith)
entry (o ∷ os) [] i h e = absurd (omega arith)
entry (o ∷ os) (l ∷ ls) zero h e = refl
entry (o ∷ os) (l ∷ ls) (suc i) h e = entry os ls i (omega arith) (omega arith)

owns : List ℕ → List ℕ
owns p = map (own p) (positions p)

length_owns : (p : List ℕ) → length (owns p) ≡ length p
unfolding owns positions
length_owns p = length-map (up_from 0 (length p)) (own p) ∙ length_up_from 0 (length p)

pub length_table : (p : List ℕ) → length (table p) ≡ length p
unfolding table owns
length_table p = length_table_of (owns p) p (length_owns p)

-- the claim set is the union of the own claim and of what the table has for the successors
pub claim_is : (p : List ℕ) (i : ℕ) → i < length p → claim p i ≡ union (own p i) (beyond p (table p) i)
unfolding table beyond owns positions
claim_is p i h =
    entry (owns p) p i (omega (arith, length_owns p)) (length_owns p)
    ∙ ap (λ (o : ℕ). union o (beyond p (table p) i))
    (get_or_up_from (own p) 0 (length p) i h ∙ ap (own p) (omega arith))

pub claim_past : (p : List ℕ) (i : ℕ) → length p ≤ i → claim p i ≡ empty
unfolding empty
claim_past p i h = get_or-eq_default (table p) 0 (omega (arith, length_table p))

pub claim_line : (p : List ℕ) (i d : ℕ) → member (claim p i) d ≡ true → i < length p
claim_line p i d m = go (le_or_lt (length p) i)
  where
    go : (length p ≤ i) ⊎ (i < length p) → i < length p
    go (inr k) = k
    go (inl k) = clash (member empty d) (rw (claim_past p i k) at m) (member_empty d)

-- ---- takes and own claims

pub own_takes : (p : List ℕ) (i d : ℕ) → member (own p i) d ≡ takes p i d
unfolding own takes
own_takes p i d = go (takes_at p i)
  where
    go : (b : Bool) → member (cond b (only (device_at p i)) empty) d ≡ (b && eqb (device_at p i) d)
    go true = member_only (device_at p i) d
    go false = member_empty d

-- an outermost take is a take, of a device that its job does not hold there
pub outermost : (p : List ℕ) (i : ℕ) → takes_at p i ≡ true → (is_take (at p i) ≡ true) × (holds_already p i ≡ false)
unfolding takes_at
outermost p i h =
    let s = and_split (is_take (at p i)) (not (holds_already p i)) h in (s.0, not-true (holds_already p i) s.1)

pub makes_take : (p : List ℕ) (i d : ℕ) → is_take (at p i) ≡ true → holds_already p i ≡ false → device_at p i ≡ d
    → takes p i d ≡ true
unfolding takes takes_at
makes_take p i d t h e = rw (t, h, eq-eqb (device_at p i) d e)

-- a line that takes device d is an outermost take, and d is its device
pub takes_parts : (p : List ℕ) (i d : ℕ) → takes p i d ≡ true → (takes_at p i ≡ true) × (device_at p i ≡ d)
unfolding takes
takes_parts p i d h =
    let s = and_split (takes_at p i) (eqb (device_at p i) d) h in (s.0, eqb-true (device_at p i) d s.1)

pub taking : (p : List ℕ) (i d : ℕ) → takes p i d ≡ true → is_take (at p i) ≡ true
taking p i d h = (outermost p i (takes_parts p i d h).0).0

-- a line that takes is a line of the plan
pub takes_line : (p : List ℕ) (i d : ℕ) → takes p i d ≡ true → i < length p
takes_line p i d h = take_line p i (taking p i d h)

-- ---- claims are reached takes

-- what is claimed past a line is claimed by a successor
pub in_beyond : (p : List ℕ) (i d : ℕ) → member (beyond p (table p) i) d ≡ true
    → (o : ℕ) × (has o (successors (at p i) (drop (suc i) p)) ≡ true) × (member (claim p (suc i + o)) d ≡ true)
unfolding beyond joined
in_beyond p i d m =
    let r = in_union_of (λ o. get_or (drop (suc i) (table p)) o 0) (successors (at p i) (drop (suc i) p)) d m in
    (r.0, r.1, rw (get_or-drop (suc i) (table p) r.0 0) at r.2)

pub beyond_in : (p : List ℕ) (i o d : ℕ) → has o (successors (at p i) (drop (suc i) p)) ≡ true
    → member (claim p (suc i + o)) d ≡ true → member (beyond p (table p) i) d ≡ true
unfolding beyond joined
beyond_in p i o d h m =
    union_of_in (λ o. get_or (drop (suc i) (table p)) o 0) (successors (at p i) (drop (suc i) p)) o d h
    (rw (get_or-drop (suc i) (table p) o 0) m)

beyond_claim : (p : List ℕ) (i d : ℕ) → i < length p → member (beyond p (table p) i) d ≡ true
    → member (claim p i) d ≡ true
beyond_claim p i d h m = rw (claim_is p i h) (in_right (own p i) (beyond p (table p) i) d m)

pub reached_claimed : (p : List ℕ) (i j d : ℕ) → Reach p i j → takes p j d ≡ true → member (claim p i) d ≡ true
reached_claimed p i j d (here k) t =
    rw (claim_is p k (takes_line p k d t)) (in_left_lem (own p k) (beyond p (table p) k) d (own_takes p k d ∙ t))
reached_claimed p i j d (step k o l h r) t =
    let m = reached_claimed p (suc k + o) l d r t in
    beyond_claim p k d (omega (arith, claim_line p (suc k + o) d m)) (beyond_in p k o d h m)

-- n lines at most are left from line i on
claimed_reached : (n : ℕ) (p : List ℕ) (i d : ℕ) → length p ≤ i + n → member (claim p i) d ≡ true → Reached p i d
claimed_reached zero p i d h m = clash (member empty d) (rw (claim_past p i (omega arith)) at m) (member_empty d)
claimed_reached (suc n) p i d h m =
    go (in_union (own p i) (beyond p (table p) i) d (rw (claim_is p i (claim_line p i d m)) at m))
    (λ o. claimed_reached n p (suc i + o) d (omega arith))
  where
    go : (member (own p i) d ≡ true) ⊎ (member (beyond p (table p) i) d ≡ true)
        → ((o : ℕ) → member (claim p (suc i + o)) d ≡ true → Reached p (suc i + o) d) → Reached p i d
    go (inl a) ih = record { j = i; way = here i; taken = sym (own_takes p i d) ∙ a }
    go (inr b) ih =
        let r = in_beyond p i d b in
        let g = ih r.0 r.2 in
        record { j = g.j; way = step i r.0 g.j r.1 g.way; taken = g.taken }

-- The theorem: claims are the reached takes.
pub claims_are_reached : (p : List ℕ) (i d : ℕ) → (member (claim p i) d ≡ true) ↔ Reached p i d
claims_are_reached p i d =
    (claimed_reached (length p) p i d (omega arith), λ r. reached_claimed p i r.j d r.way r.taken)

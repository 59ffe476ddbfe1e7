-- Successors by positions. A line has to come before each of its successors; and, in a plan in which jobs follow on
-- and starts name higher jobs, a line that has to come before another stands higher up and reaches it by successors.
use Prim.Native.Nat.{ℕ, zero, suc, ◌+◌, ◌-◌, ◌<◌, ◌≤◌}
use mathlib.Core.Bool.{Bool, true, false, cond, ◌&&◌}
use mathlib.Core.List.{List, [], ◌∷◌, map}
use mathlib.Core.Logic.{◌⊎◌, inl, inr}
use mathlib.Core.Path.{◌≡◌, refl, sym, ◌∙◌, ap}
use native.Mathlib.Omega.{arith}
use lib.Dec.{eqb, ltb}
use lib.ListN.{length, drop, length-drop}
use lib.Seq.{get_or-drop}
use borrow.Author.Tests.{eqb-true, eq-eqb, eqb-false, ltb-true, lt-ltb}
use Rattle.model.specs.Lists.{has}
use Rattle.model.specs.Line.{job, operand, is_start, starts, at, first_line}
use Rattle.model.specs.WellFormed.{Rules}
use Rattle.model.specs.Legal.{precedes}
use Rattle.model.specs.Claims.{successors}
use Rattle.theory.proofs.Tests.{test, or_split, or_left, or_right, and_split, and_both, le_or_lt}
use Rattle.theory.proofs.Lists.{has_none, has_head, has_cases, has_left, has_right, has_append, has_suc}
use Rattle.theory.proofs.Lists.{suc_has}
use Rattle.theory.specs.Claims.{Reach, here, step}
use Rattle.theory.proofs.Line.{start_parts}

-- ---- the first line of a job

pub first_is : (j : ℕ) (ls : List ℕ) (o : ℕ) → has o (first_line j ls) ≡ true → (o < length ls) × (job (at ls o) ≡ j)
unfolding first_line
first_is j [] o h = has_none o h
first_is j (m ∷ ms) o h = go (eqb (job m) j) refl h (first_is j ms)
  where
    go : (b : Bool) → eqb (job m) j ≡ b → has o (elim b [ true ↦ 0 ∷ [] | false ↦ map suc (first_line j ms) ]) ≡ true
        → ((k : ℕ) → has k (first_line j ms) ≡ true → (k < length ms) × (job (at ms k) ≡ j))
        → (o < suc (length ms)) × (job (at (m ∷ ms) o) ≡ j)
    go true e h ih = zeroth (has_cases o 0 [] h)
      where
        zeroth : (o ≡ 0) ⊎ (has o [] ≡ true) → (o < suc (length ms)) × (job (at (m ∷ ms) o) ≡ j)
        zeroth (inl z) = (omega arith, rw z (eqb-true (job m) j e))
        zeroth (inr z) = has_none o z
    go false e h ih =
        let r = has_suc o (first_line j ms) h in
        let q = ih r.0 r.2 in (omega (arith, r.1, q.0), rw r.1 q.1)

-- a job with a line at o has a first line, there or higher up
pub first_at : (j : ℕ) (ls : List ℕ) (o : ℕ) → o < length ls → job (at ls o) ≡ j
    → (f : ℕ) × (has f (first_line j ls) ≡ true) × (f ≤ o)
unfolding first_line
first_at j [] o h e = absurd (omega arith)
first_at j (m ∷ ms) o h e = go (eqb (job m) j) refl o h e (first_at j ms)
  where
    go : (b : Bool) → eqb (job m) j ≡ b → (o : ℕ) → o < suc (length ms) → job (at (m ∷ ms) o) ≡ j
        → ((o : ℕ) → o < length ms → job (at ms o) ≡ j → (f : ℕ) × (has f (first_line j ms) ≡ true) × (f ≤ o))
        → (f : ℕ) × (has f (elim b [ true ↦ 0 ∷ [] | false ↦ map suc (first_line j ms) ]) ≡ true) × (f ≤ o)
    go true q o h e ih = (0, has_head 0 [], omega arith)
    go false q zero h e ih = absurd (eqb-false (job m) j q e)
    go false q (suc o) h e ih =
        let r = ih o (omega arith) e in (suc r.0, suc_has r.0 (first_line j ms) r.1, omega (arith, r.2))

-- ---- what has to come before

pub earlier_precedes : (p : List ℕ) (k i : ℕ) → k < i → job (at p k) ≡ job (at p i) → precedes p k i ≡ true
unfolding precedes
earlier_precedes p k i h e =
    or_left (ltb k i && eqb (job (at p k)) (job (at p i))) (starts (at p k) (job (at p i)))
    (and_both (ltb k i) (eqb (job (at p k)) (job (at p i))) (lt-ltb k i h) (eq-eqb (job (at p k)) (job (at p i)) e))

pub start_precedes : (p : List ℕ) (k i : ℕ) → starts (at p k) (job (at p i)) ≡ true → precedes p k i ≡ true
unfolding precedes
start_precedes p k i e =
    or_right (ltb k i && eqb (job (at p k)) (job (at p i))) (starts (at p k) (job (at p i))) e

-- why one line precedes another
pub data Why (p : List ℕ) (k i : ℕ) : Type 0 where
  same_job : k < i → job (at p k) ≡ job (at p i) → Why p k i
  starter : starts (at p k) (job (at p i)) ≡ true → Why p k i

pub why : (p : List ℕ) (k i : ℕ) → precedes p k i ≡ true → Why p k i
unfolding precedes
why p k i h = go (or_split (ltb k i && eqb (job (at p k)) (job (at p i))) (starts (at p k) (job (at p i))) h)
  where
    go : ((ltb k i && eqb (job (at p k)) (job (at p i))) ≡ true) ⊎ (starts (at p k) (job (at p i)) ≡ true) → Why p k i
    go (inl a) =
        let s = and_split (ltb k i) (eqb (job (at p k)) (job (at p i))) a in
        same_job (ltb-true k i s.0) (eqb-true (job (at p k)) (job (at p i)) s.1)
    go (inr a) = starter a

-- ---- a line has to come before its successors

pub successor_after : (p : List ℕ) (i o : ℕ) → has o (successors (at p i) (drop (suc i) p)) ≡ true
    → (suc i + o < length p) × (precedes p i (suc i + o) ≡ true)
unfolding successors starts
successor_after p i o h = go (has_append o (first_line (job l) ls) (cond (is_start l) (first_line (operand l) ls) []) h)
  where
    l : ℕ
    l = at p i

    ls : List ℕ
    ls = drop (suc i) p

    k : ℕ
    k = suc i + o

    there : at ls o ≡ at p k
    there = get_or-drop (suc i) p o 0

    inside : o < length ls → k < length p
    inside b = omega (arith, length-drop (suc i) p)

    started : (b : Bool) → is_start l ≡ b → has o (cond b (first_line (operand l) ls) []) ≡ true
        → (k < length p) × (precedes p i k ≡ true)
    started true e m =
        let r = first_is (operand l) ls o m in (
          inside r.0,
          start_precedes p i k
              (and_both (is_start l) (eqb (operand l) (job (at p k))) e
              (eq-eqb (operand l) (job (at p k)) (sym r.1 ∙ ap job there))),
        )
    started false e m = has_none o m

    go : (has o (first_line (job l) ls) ≡ true) ⊎ (has o (cond (is_start l) (first_line (operand l) ls) []) ≡ true)
        → (k < length p) × (precedes p i k ≡ true)
    go (inl m) =
        let r = first_is (job l) ls o m in
        (inside r.0, earlier_precedes p i k (omega arith) (sym r.1 ∙ ap job there))
    go (inr m) = started (is_start l) refl m

-- the first line of its job, and of the job that it starts, are successors of a line
next_successor : (l : ℕ) (ls : List ℕ) (o : ℕ) → has o (first_line (job l) ls) ≡ true → has o (successors l ls) ≡ true
unfolding successors
next_successor l ls o h = has_left o (first_line (job l) ls) (cond (is_start l) (first_line (operand l) ls) []) h

start_successor : (l : ℕ) (ls : List ℕ) (o : ℕ) → is_start l ≡ true → has o (first_line (operand l) ls) ≡ true
    → has o (successors l ls) ≡ true
unfolding successors
start_successor l ls o s h =
    has_right o (first_line (job l) ls) (cond (is_start l) (first_line (operand l) ls) []) (rw s h)

-- the first line of job j after line i, where line k is a later line of that job
pub record NextOf (p : List ℕ) (i j k : ℕ) : Type 0 where
  pub o : ℕ
  pub first : has o (first_line j (drop (suc i) p)) ≡ true
  pub up_to : suc i + o ≤ k
  pub of_job : job (at p (suc i + o)) ≡ j

pub next_of : (p : List ℕ) (i j k : ℕ) → i < k → k < length p → job (at p k) ≡ j → NextOf p i j k
next_of p i j k lt h e = go (first_at j (drop (suc i) p) (k - suc i) (omega (arith, length-drop (suc i) p)) there)
  where
    there : job (at (drop (suc i) p) (k - suc i)) ≡ j
    there = let z : suc i + (k - suc i) ≡ k = omega arith in ap job (get_or-drop (suc i) p (k - suc i) 0 ∙ ap (at p) z)
        ∙ e

    of_job' : (o : ℕ) → has o (first_line j (drop (suc i) p)) ≡ true → job (at p (suc i + o)) ≡ j
    of_job' o f = ap job (sym (get_or-drop (suc i) p o 0)) ∙ (first_is j (drop (suc i) p) o f).1

    go : (o : ℕ) × (has o (first_line j (drop (suc i) p)) ≡ true) × (o ≤ k - suc i) → NextOf p i j k
    go r = record { o = r.0; first = r.1; up_to = omega (arith, r.2); of_job = of_job' r.0 r.1 }

-- a line reaches the later lines of its job
along : (n : ℕ) (p : List ℕ) (i k : ℕ) → k ≤ i + n → i ≤ k → k < length p → job (at p i) ≡ job (at p k) → Reach p i k
along zero p i k le ge h e = let q : i ≡ k = omega arith in rw q (here k)
along (suc n) p i k le ge h e = split (test (eqb i k)) (λ s a b c. along n p s k a b h c)
  where
    split : (eqb i k ≡ true) ⊎ (eqb i k ≡ false)
        → ((s : ℕ) → k ≤ s + n → s ≤ k → job (at p s) ≡ job (at p k) → Reach p s k) → Reach p i k
    split (inl q) ih = rw (eqb-true i k q) (here k)
    split (inr q) ih =
        let ne = eqb-false i k q in
        let r = next_of p i (job (at p i)) k (omega arith) h (sym e) in
        step i r.o k (next_successor (at p i) (drop (suc i) p) r.o r.first)
        (ih (suc i + r.o) (omega arith) r.up_to (r.of_job ∙ e))

pub same_job_reaches : (p : List ℕ) (i k : ℕ) → i ≤ k → k < length p → job (at p i) ≡ job (at p k) → Reach p i k
same_job_reaches p i k a h e = along k p i k (omega arith) a h e

-- ---- in a plan that obeys the rules

module _ (p : List ℕ) (rules : Rules p) where
  grow : (n i : ℕ) → i + n < length p → job (at p i) ≤ job (at p (i + n))
  grow zero i h = let q : i + 0 ≡ i = omega arith in rw q (omega arith)
  grow (suc n) i h =
      let q : i + suc n ≡ suc (i + n) = omega arith in
      rw q (go (grow n i (omega arith)) (rules.next (i + n) (omega arith)))
    where
      go : job (at p i) ≤ job (at p (i + n))
          → (job (at p (suc (i + n))) ≡ job (at p (i + n))) ⊎ (job (at p (suc (i + n))) ≡ suc (job (at p (i + n))))
          → job (at p i) ≤ job (at p (suc (i + n)))
      go h (inl e) = omega arith
      go h (inr e) = omega arith

  -- jobs never fall
  pub jobs_grow : (i k : ℕ) → i ≤ k → k < length p → job (at p i) ≤ job (at p k)
  jobs_grow i k h g = let q : i + (k - i) ≡ k = omega arith in rw q at (grow (k - i) i (omega arith))

  -- a line that has to come before another stands higher up and reaches it
  pub precedes_reaches : (k i : ℕ) → k < length p → i < length p → precedes p k i ≡ true → (k < i) × Reach p k i
  precedes_reaches k i hk hi h = go (why p k i h)
    where
      order : starts (at p k) (job (at p i)) ≡ true → (i ≤ k) ⊎ (k < i) → (k < i) × Reach p k i
      order a (inl le) = absurd (omega (arith, rules.start_higher k (job (at p i)) a, jobs_grow i k le hk))
      order a (inr lt) =
          let s = start_parts (at p k) (job (at p i)) a in
          let r = next_of p k (operand (at p k)) i lt hi (sym s.1) in (
            lt,
            step k r.o i (start_successor (at p k) (drop (suc k) p) r.o s.0 r.first)
                (same_job_reaches p (suc k + r.o) i r.up_to hi (r.of_job ∙ s.1)),
          )

      go : Why p k i → (k < i) × Reach p k i
      go (same_job lt e) = (lt, same_job_reaches p k i (omega arith) hi e)
      go (starter a) = order a (le_or_lt i k)

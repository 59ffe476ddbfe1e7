-- The way of a line: it begins with the line and falls to the first line of a running job, which in a plan of the
-- morning is line 1; and it has exactly the lines that lead to the line. So a line off the way has no successor on
-- it. The lines that a move may change are the way of the moved take and the lines under it; together they are the way
-- of the last of these, so that what holds of a way holds of them, and a move, which rewrites their sets from the last
-- one back, leaves the rest right.
use Prim.Native.Nat.{ℕ, zero, suc, ◌+◌, ◌-◌, ◌<◌, ◌≤◌}
use mathlib.Core.Bool.{Bool, true, false, ◌||◌}
use mathlib.Core.List.{List, [], ◌∷◌, ◌++◌, append-nil}
use mathlib.Core.Logic.{◌⊎◌, inl, inr, ◌≢◌, ◌↔◌}
use mathlib.Core.Option.{Option, none, some, get_or}
use mathlib.Core.Path.{◌≡◌, refl, sym, ◌∙◌, ap, subst}
use native.Mathlib.Omega.{arith}
use lib.Dec.{eqb}
use lib.ListN.{length, drop}
use borrow.Author.Tests.{eqb-true, eq-eqb, eqb-false}
use Rattle.model.specs.Lists.{up_from, has, those, last_or}
use Rattle.model.specs.Line.{morning, job, starts, at}
use Rattle.model.specs.WellFormed.{Rules, WellFormed}
use Rattle.model.specs.Legal.{precedes}
use Rattle.model.specs.Claims.{successors}
use Rattle.model.specs.Mate.{mate}
use Rattle.model.specs.Move.{way_in, way, until, under, may_change, from_last}
use Rattle.theory.specs.Claims.{Reach, here, step}
use Rattle.theory.specs.Move.{Falls, ends, falls, Running, WayEnds}
use Rattle.theory.proofs.Tests.{clash, test, falsely, or_split, or_right, or_neither, le_or_lt}
use Rattle.theory.proofs.Lists.{has_none, has_head, has_tail, has_cases, has_left, has_right, has_append}
use Rattle.theory.proofs.Lists.{has_up_from, up_from_has, has_those, those_has}
use Rattle.theory.proofs.WellFormed.{start_line, any_line}
use Rattle.theory.proofs.Successors.{Why, same_job, starter, why, earlier_precedes, start_precedes}
use Rattle.theory.proofs.Successors.{successor_after, jobs_grow, precedes_reaches}
use Rattle.theory.proofs.Mate.{pair}

pub falls_below : (n k : ℕ) (xs : List ℕ) → Falls n xs → has k xs ≡ true → k < n
falls_below n k xs (ends m) h = has_none k h
falls_below n k xs (falls m x ys lt f) h = go (has_cases k x ys h) (falls_below x k ys f)
  where
    go : (k ≡ x) ⊎ (has k ys ≡ true) → (has k ys ≡ true → k < x) → k < m
    go (inl e) ih = omega arith
    go (inr e) ih = omega (arith, ih e)

pub falls_further : (n m : ℕ) (xs : List ℕ) → n ≤ m → Falls n xs → Falls m xs
falls_further n m xs h (ends k) = ends m
falls_further n m xs h (falls k x ys lt f) = falls m x ys (omega arith) f

-- ---- what the walk does at a line

-- line i is of job j or starts it
onto : List ℕ → ℕ → ℕ → Bool
onto p j i = eqb (job (at p i)) j || starts (at p i) j

way_on : (p : List ℕ) (j i : ℕ) → onto p j i ≡ true → way_in p j (suc i) ≡ i ∷ way_in p (job (at p i)) i
unfolding way_in onto
way_on p j i h = rw (h, way_in)

way_past : (p : List ℕ) (j i : ℕ) → onto p j i ≡ false → way_in p j (suc i) ≡ way_in p j i
unfolding way_in onto
way_past p j i h = rw (h, way_in)

way_in_falls : (p : List ℕ) (j n : ℕ) → Falls n (way_in p j n)
unfolding way_in
way_in_falls p j zero = ends 0
way_in_falls p j (suc i) = go (test (onto p j i)) (way_in_falls p j i) (way_in_falls p (job (at p i)) i)
  where
    go : (onto p j i ≡ true) ⊎ (onto p j i ≡ false) → Falls i (way_in p j i) → Falls i (way_in p (job (at p i)) i)
        → Falls (suc i) (way_in p j (suc i))
    go (inl h) f g = rw (way_on p j i h) (falls (suc i) i (way_in p (job (at p i)) i) (omega arith) g)
    go (inr h) f g = rw (way_past p j i h) (falls_further i (suc i) (way_in p j i) (omega arith) f)

-- the way falls, and the line is its first
pub way_falls : (p : List ℕ) (i : ℕ) → Falls (suc i) (way p i)
unfolding way
way_falls p i = way_in_falls p (job (at p i)) (suc i)

pub way_first : (p : List ℕ) (i : ℕ) → way p i ≡ i ∷ way_in p (job (at p i)) i
unfolding way onto
way_first p i = way_on p (job (at p i)) i (rw (eq-eqb (job (at p i)) (job (at p i)) refl))

pub way_is : (p : List ℕ) (j i : ℕ) → job (at p i) ≡ j → way p i ≡ way_in p j (suc i)
unfolding way
way_is p j i e = ap (λ (j : ℕ). way_in p j (suc i)) e

pub line_on_way : (p : List ℕ) (i : ℕ) → has i (way p i) ≡ true
line_on_way p i = rw (way_first p i) (has_head i (way_in p (job (at p i)) i))

module _ (p : List ℕ) (rules : Rules p) where
  -- no line between a line of job j, or its start, and a later place starts j
  no_start_between : (j k n : ℕ) → onto p j k ≡ true → k < n → starts (at p n) j ≡ false
  unfolding onto
  no_start_between j k n h lt = go (test (starts (at p n) j)) (or_split (eqb (job (at p k)) j) (starts (at p k) j) h)
    where
      go : (starts (at p n) j ≡ true) ⊎ (starts (at p n) j ≡ false)
          → (eqb (job (at p k)) j ≡ true) ⊎ (starts (at p k) j ≡ true) → starts (at p n) j ≡ false
      go (inl s) (inl e) =
          absurd (omega (
            arith,
            eqb-true (job (at p k)) j e,
            rules.start_higher n j s,
            jobs_grow p rules k n (omega arith) (start_line p n j s),
          ))
      go (inl s) (inr e) = clash (starts (at p k) j) e (rules.start_once n k j lt s)
      go (inr s) e = s

  -- the walk back finds the lines of the job looked for, and its start
  finds : (j k n : ℕ) → onto p j k ≡ true → k < n → has k (way_in p j n) ≡ true
  unfolding onto
  finds j k zero h lt = absurd (omega arith)
  finds j k (suc n) h lt = go (test (eqb k n)) (test (onto p j n)) (λ g. finds j k n h g)
    where
      go : (eqb k n ≡ true) ⊎ (eqb k n ≡ false) → (onto p j n ≡ true) ⊎ (onto p j n ≡ false)
          → (k < n → has k (way_in p j n) ≡ true) → has k (way_in p j (suc n)) ≡ true
      go (inl z) (inl x) ih = rw (way_on p j n x, eqb-true k n z) (has_head n (way_in p (job (at p n)) n))
      go (inl z) (inr x) ih = clash (onto p j n) (rw (eqb-true k n z) at h) x
      go (inr z) (inr x) ih = let ne = eqb-false k n z in rw (way_past p j n x) (ih (omega arith))
      go (inr z) (inl x) ih =
          let ne = eqb-false k n z in
          let g : k < n = omega arith in
          same g (or_split (eqb (job (at p n)) j) (starts (at p n) j) x)
        where
          same : k < n → (eqb (job (at p n)) j ≡ true) ⊎ (starts (at p n) j ≡ true) → has k (way_in p j (suc n)) ≡ true
          same g (inl e) = rw (way_on p j n x, eqb-true (job (at p n)) j e) (has_tail k n (way_in p j n) (ih g))
          same g (inr s) = clash (starts (at p n) j) s (no_start_between j k n h g)

  closed : (j k s n : ℕ) → onto p (job (at p s)) k ≡ true → k < s → has s (way_in p j n) ≡ true
      → has k (way_in p j n) ≡ true
  unfolding way_in
  closed j k s zero h lt m = has_none s m
  closed j k s (suc i) h lt m =
      go (test (onto p j i)) (λ j. closed j k s i h lt)
    where
      split : (s ≡ i) ⊎ (has s (way_in p (job (at p i)) i) ≡ true)
          → (has s (way_in p (job (at p i)) i) ≡ true → has k (way_in p (job (at p i)) i) ≡ true)
          → has k (way_in p (job (at p i)) i) ≡ true
      split (inl z) ih = finds (job (at p i)) k i (rw z at h) (omega arith)
      split (inr y) ih = ih y

      go : (onto p j i ≡ true) ⊎ (onto p j i ≡ false)
          → ((j : ℕ) → has s (way_in p j i) ≡ true → has k (way_in p j i) ≡ true) → has k (way_in p j (suc i)) ≡ true
      go (inl x) ih =
          rw (way_on p j i x)
          (has_tail k i (way_in p (job (at p i)) i)
          (split (has_cases s i (way_in p (job (at p i)) i) (rw (way_on p j i x) at m)) (ih (job (at p i)))))
      go (inr x) ih = rw (way_past p j i x) (ih j (rw (way_past p j i x) at m))

  -- with a line the way has the lines higher up that have to come before it
  pub way_closed : (i k s : ℕ) → k < s → precedes p k s ≡ true → has s (way p i) ≡ true → has k (way p i) ≡ true
  unfolding way onto
  way_closed i k s lt h m = closed (job (at p i)) k s (suc i) (go (why p k s h)) lt m
    where
      go : Why p k s → (eqb (job (at p k)) (job (at p s)) || starts (at p k) (job (at p s))) ≡ true
      go (same_job l e) = rw (eq-eqb (job (at p k)) (job (at p s)) e)
      go (starter e) = or_right (eqb (job (at p k)) (job (at p s))) (starts (at p k) (job (at p s))) e

  -- The theorem: a line off the way has no successor on it.
  pub off_way_stays_off : (i k o : ℕ) → has o (successors (at p k) (drop (suc k) p)) ≡ true → has k (way p i) ≡ false
      → has (suc k + o) (way p i) ≡ false
  off_way_stays_off i k o h m = go (test (has (suc k + o) (way p i)))
    where
      go : (has (suc k + o) (way p i) ≡ true) ⊎ (has (suc k + o) (way p i) ≡ false) → has (suc k + o) (way p i) ≡ false
      go (inl n) =
          clash (has k (way p i)) (way_closed i k (suc k + o) (omega arith) (successor_after p k o h).1 n) m
      go (inr n) = n

  -- a line with none before it that is of its job or starts it is the first line of a running job
  runs : (n : ℕ) → n < length p → ((k : ℕ) → k < n → onto p (job (at p n)) k ≡ false) → Running p n
  unfolding onto
  runs n h f = record { line = h; first = first'; unstarted = unstarted' }
    where
      j : ℕ
      j = job (at p n)

      off : (k : ℕ) → k < n → (eqb (job (at p k)) j ≡ false) × (starts (at p k) j ≡ false)
      off k lt = or_neither (eqb (job (at p k)) j) (starts (at p k) j) (f k lt)

      first' : (k : ℕ) → k < n → job (at p k) ≢ j
      first' k lt = eqb-false (job (at p k)) j (off k lt).0

      unstarted' : (k : ℕ) → starts (at p k) j ≡ false
      unstarted' k = falsely (starts (at p k) j) no
        where
          no : starts (at p k) j ≡ true → ⊥
          no s = go (le_or_lt n k)
            where
              go : (n ≤ k) ⊎ (k < n) → ⊥
              go (inl le) = omega (arith, rules.start_higher k j s, jobs_grow p rules n k le (start_line p k j s))
              go (inr lt) = clash (starts (at p k) j) s (off k lt).1

  -- Walking back from place n for job j, none of these lines is met, or the last one met is the first line of a running
  -- job: the walk goes on from a line met as long as some line has to come before it.
  last_met : (n j x : ℕ) → n ≤ length p
      → (((k : ℕ) → k < n → onto p j k ≡ false) × (way_in p j n ≡ [])) ⊎ Running p (last_or x (way_in p j n))
  unfolding way_in last_or
  last_met zero j x h = inl (λ k lt. absurd (omega arith), refl)
  last_met (suc n) j x h = go (test (onto p j n)) (λ j x. last_met n j x (omega arith))
    where
      go : (onto p j n ≡ true) ⊎ (onto p j n ≡ false)
          → ((j x : ℕ) → (((k : ℕ) → k < n → onto p j k ≡ false) × (way_in p j n ≡ []))
          ⊎ Running p (last_or x (way_in p j n)))
          → (((k : ℕ) → k < suc n → onto p j k ≡ false) × (way_in p j (suc n) ≡ []))
          ⊎ Running p (last_or x (way_in p j (suc n)))
      go (inl m) ih = inr (rw (way_on p j n m) (met (ih (job (at p n)) n)))
        where
          met : (((k : ℕ) → k < n → onto p (job (at p n)) k ≡ false) × (way_in p (job (at p n)) n ≡ []))
              ⊎ Running p (last_or n (way_in p (job (at p n)) n))
              → Running p (last_or n (way_in p (job (at p n)) n))
          met (inl r) = rw r.1 (runs n h r.0)
          met (inr r) = r
      go (inr m) ih = rw (way_past p j n m) (past (ih j x))
        where
          past : (((k : ℕ) → k < n → onto p j k ≡ false) × (way_in p j n ≡ [])) ⊎ Running p (last_or x (way_in p j n))
              → (((k : ℕ) → k < suc n → onto p j k ≡ false) × (way_in p j n ≡ []))
              ⊎ Running p (last_or x (way_in p j n))
          past (inr r) = inr r
          past (inl r) = inl (λ k lt. each k lt (test (eqb k n)), r.1)
            where
              each : (k : ℕ) → k < suc n → (eqb k n ≡ true) ⊎ (eqb k n ≡ false) → onto p j k ≡ false
              each k lt (inl z) = rw (eqb-true k n z) m
              each k lt (inr z) = let ne = eqb-false k n z in r.0 k (omega arith)

  -- The theorem: the way ends at the first line of a running job.
  pub way_to_running : (i : ℕ) → i < length p → Running p (last_or i (way p i))
  unfolding way onto
  way_to_running i h = go (last_met (suc i) (job (at p i)) i h)
    where
      go : (((k : ℕ) → k < suc i → onto p (job (at p i)) k ≡ false) × (way p i ≡ [])) ⊎ Running p (last_or i (way p i))
          → Running p (last_or i (way p i))
      go (inl r) =
          clash (onto p (job (at p i)) i) (rw (eq-eqb (job (at p i)) (job (at p i)) refl)) (r.0 i (omega arith))
      go (inr r) = r

-- the last number of a list stands in it
last_has : (x : ℕ) (xs : List ℕ) → has (last_or x xs) (x ∷ xs) ≡ true
unfolding last_or
last_has x [] = has_head x []
last_has x (y ∷ ys) = has_tail (last_or y ys) x (y ∷ ys) (last_has y ys)

pub last_on_way : (p : List ℕ) (i : ℕ) → has (last_or i (way p i)) (way p i) ≡ true
unfolding last_or
last_on_way p i = rw (way_first p i) (last_has i (way_in p (job (at p i)) i))

-- of numbers that fall the last is the lowest
last_below : (x : ℕ) (xs : List ℕ) → Falls x xs → last_or x xs ≤ x
unfolding last_or
last_below x xs (ends n) = omega arith
last_below x xs (falls n y ys lt f) = omega (arith, last_below y ys f)

last_lowest : (n x k : ℕ) (xs : List ℕ) → Falls n xs → has k xs ≡ true → last_or x xs ≤ k
unfolding last_or
last_lowest n x k xs (ends m) h = has_none k h
last_lowest n x k xs (falls m y ys lt f) h = go (has_cases k y ys h) (last_lowest y y k ys f)
  where
    go : (k ≡ y) ⊎ (has k ys ≡ true) → (has k ys ≡ true → last_or y ys ≤ k) → last_or y ys ≤ k
    go (inl e) ih = omega (arith, last_below y ys f)
    go (inr e) ih = ih e

-- no line before the last of the way is on it
pub before_last_off : (p : List ℕ) (i k : ℕ) → k < last_or i (way p i) → has k (way p i) ≡ false
before_last_off p i k lt =
    falsely (has k (way p i)) (λ h. omega (arith, last_lowest (suc i) i k (way p i) (way_falls p i) h))

-- ---- the way has exactly the lines that lead to its first

join : (p : List ℕ) (i b k : ℕ) → Reach p i b → Reach p b k → Reach p i k
join p i b k (here x) r = r
join p i b k (step x o y h s) r = step i o k h (join p (suc i + o) b k s r)

module _ (p : List ℕ) (rules : Rules p) where
  -- what the walk back for the job of line i meets leads to line i
  leads_on : (n k i : ℕ) → n ≤ i → i < length p → has k (way_in p (job (at p i)) n) ≡ true → Reach p k i
  unfolding way_in onto
  leads_on zero k i le h m = has_none k m
  leads_on (suc n) k i le h m = go (test (onto p (job (at p i)) n)) (leads_on n k)
    where
      before : (eqb (job (at p n)) (job (at p i)) ≡ true) ⊎ (starts (at p n) (job (at p i)) ≡ true)
          → precedes p n i ≡ true
      before (inl e) = earlier_precedes p n i (omega arith) (eqb-true (job (at p n)) (job (at p i)) e)
      before (inr e) = start_precedes p n i e

      go : (onto p (job (at p i)) n ≡ true) ⊎ (onto p (job (at p i)) n ≡ false)
          → ((i : ℕ) → n ≤ i → i < length p → has k (way_in p (job (at p i)) n) ≡ true → Reach p k i) → Reach p k i
      go (inr x) ih = ih i (omega arith) h (rw (way_past p (job (at p i)) n x) at m)
      go (inl x) ih =
          met (has_cases k n (way_in p (job (at p n)) n) (rw (way_on p (job (at p i)) n x) at m))
        where
          reaches : Reach p n i
          reaches =
              (precedes_reaches p rules n i (omega arith) h
              (before (or_split (eqb (job (at p n)) (job (at p i))) (starts (at p n) (job (at p i))) x))).1

          met : (k ≡ n) ⊎ (has k (way_in p (job (at p n)) n) ≡ true) → Reach p k i
          met (inl e) = rw e reaches
          met (inr e) = join p k n i (ih n (omega arith) (omega arith) e) reaches

  reach_on_way : (i k : ℕ) → Reach p k i → has k (way p i) ≡ true
  reach_on_way i k (here x) = line_on_way p i
  reach_on_way i k (step x o y h r) =
      way_closed p rules i k (suc k + o) (omega arith) (successor_after p k o h).1 (reach_on_way i (suc k + o) r)

  -- The theorem: a line is on the way exactly if it leads there.
  pub way_exactly : (i k : ℕ) → i < length p → (has k (way p i) ≡ true) ↔ Reach p k i
  way_exactly i k h = (λ m. go (has_cases k i (way_in p (job (at p i)) i) (rw (way_first p i) at m)), reach_on_way i k)
    where
      go : (k ≡ i) ⊎ (has k (way_in p (job (at p i)) i) ≡ true) → Reach p k i
      go (inl e) = rw e (here i)
      go (inr e) = leads_on i k i (omega arith) h e

  -- so the way ends where no line before leads there: at the first line of a running job
  pub way_ends : (i : ℕ) → i < length p → WayEnds p i (last_or i (way p i))
  way_ends i h = record {
    running = way_to_running p rules i h;
    leads = (way_exactly i (last_or i (way p i)) h).0 (last_on_way p i);
    first = λ k r. last_lowest (suc i) i k (way p i) (way_falls p i) (reach_on_way i k r);
  }

-- In a plan of the morning that is line 1.
module _ (D : ℕ) (p : List ℕ) (w : WellFormed (morning D) p) where
  runs_first : (k : ℕ) → Running p k → k ≡ 0
  runs_first k r = go (test (eqb (job (at p k)) 1)) (le_or_lt k 0)
    where
      go : (eqb (job (at p k)) 1 ≡ true) ⊎ (eqb (job (at p k)) 1 ≡ false) → (k ≤ 0) ⊎ (0 < k) → k ≡ 0
      go e (inl z) = omega arith
      go (inl e) (inr pos) =
          absurd (r.first 0 pos (w.rules.first (omega (arith, r.line)) ∙ sym (eqb-true (job (at p k)) 1 e)))
      go (inr e) (inr pos) =
          let s = any_line (λ l. starts l (job (at p k))) p
          (w.started refl k r.line (eqb-false (job (at p k)) 1 e)) in
          clash (starts (at p s.0) (job (at p k))) s.2 (r.unstarted s.0)

  pub way_ends_first : (i : ℕ) → i < length p → last_or i (way p i) ≡ 0
  way_ends_first i h = runs_first (last_or i (way p i)) (way_to_running p w.rules i h)

  pub way_to_first : (i : ℕ) → i < length p → has 0 (way p i) ≡ true
  way_to_first i h = subst (λ (x : ℕ). has x (way p i) ≡ true) (way_ends_first i h) (last_on_way p i)

-- ---- the lines under a take

module _ (p : List ℕ) (i : ℕ) where
  pub has_under : (k : ℕ) → has k (under p i) ≡ true → (i < k) × (k < until p i) × (job (at p k) ≡ job (at p i))
  unfolding under
  has_under k h =
      let r = has_those (λ k. eqb (job (at p k)) (job (at p i))) (up_from (suc i) (until p i - suc i)) k h in
      let s = has_up_from (suc i) (until p i - suc i) k r.0 in
      (s.0, omega (arith, s.0, s.1), eqb-true (job (at p k)) (job (at p i)) r.1)

  pub under_has : (k : ℕ) → i < k → k < until p i → job (at p k) ≡ job (at p i) → has k (under p i) ≡ true
  unfolding under
  under_has k a b e =
      those_has (λ k. eqb (job (at p k)) (job (at p i))) (up_from (suc i) (until p i - suc i)) k
      (up_from_has (suc i) (until p i - suc i) k a (omega arith)) (eq-eqb (job (at p k)) (job (at p i)) e)

  -- what a take holds ends in the plan, or with it
  pub until_in_plan : until p i ≤ length p
  unfolding until
  until_in_plan = go (mate p i) refl
    where
      go : (o : Option ℕ) → mate p i ≡ o → get_or o (length p) ≤ length p
      go none e = omega arith
      go (some m) e = omega (arith, (pair p i m e).in_plan)

  pub may_change_line : i < length p → (k : ℕ) → has k (may_change p i) ≡ true → k < length p
  unfolding may_change
  may_change_line h k m = go (has_append k (way p i) (under p i) m)
    where
      go : (has k (way p i) ≡ true) ⊎ (has k (under p i) ≡ true) → k < length p
      go (inl a) = omega (arith, falls_below (suc i) k (way p i) (way_falls p i) a)
      go (inr a) = omega (arith, (has_under k a).1, until_in_plan)

  -- a move changes no line before the way's end
  pub before_last_kept : (k : ℕ) → k < last_or i (way p i) → has k (may_change p i) ≡ false
  unfolding may_change
  before_last_kept k lt = falsely (has k (may_change p i)) (λ m. go (has_append k (way p i) (under p i) m))
    where
      go : (has k (way p i) ≡ true) ⊎ (has k (under p i) ≡ true) → ⊥
      go (inl a) = clash (has k (way p i)) a (before_last_off p i k lt)
      go (inr a) =
          omega (
            arith,
            (has_under k a).0,
            falls_below (suc i) (last_or i (way p i)) (way p i) (way_falls p i) (last_on_way p i),
          )

-- where in a list a number stands makes no difference
has_moved : (k a : ℕ) (xs ys : List ℕ) → has k (xs ++ (a ∷ ys)) ≡ has k (a ∷ xs ++ ys)
unfolding has
has_moved k a [] ys = refl
has_moved k a (x ∷ xs) ys = rw (has_moved k a xs ys) (swap (eqb k x) (eqb k a))
  where
    swap : (b c : Bool) → (b || (c || has k (xs ++ ys))) ≡ (c || (b || has k (xs ++ ys)))
    swap true true = refl
    swap true false = refl
    swap false c = refl

module _ (p : List ℕ) (rules : Rules p) (i : ℕ) where
  -- after line i, the walk back for its job skips the lines of others
  skips : (a : ℕ) → i < a → eqb (job (at p a)) (job (at p i)) ≡ false
      → way_in p (job (at p i)) (suc a) ≡ way_in p (job (at p i)) a
  unfolding onto
  skips a lt q =
      way_past p (job (at p i)) a
      (rw (q, no_start_between p rules (job (at p i)) i a (rw (eq-eqb (job (at p i)) (job (at p i)) refl)) lt))

  -- the way of the last line of the job among n from line a on, or of line x before them, goes through all of them
  through : (n a x k : ℕ) → i < a → way p x ≡ way_in p (job (at p i)) a
      → has k (way p (last_or x (those (λ k. eqb (job (at p k)) (job (at p i))) (up_from a n))))
      ≡ has k (way p x ++ those (λ k. eqb (job (at p k)) (job (at p i))) (up_from a n))
  unfolding those up_from last_or
  through zero a x k lt e = rw (append-nil (way p x))
  through (suc n) a x k lt e =
      go (eqb (job (at p a)) (job (at p i))) refl (λ x. through n (suc a) x k (omega arith))
    where
      rest : List ℕ
      rest = those (λ k. eqb (job (at p k)) (job (at p i))) (up_from (suc a) n)

      go : (b : Bool) → eqb (job (at p a)) (job (at p i)) ≡ b
          → ((x : ℕ) → way p x ≡ way_in p (job (at p i)) (suc a)
          → has k (way p (last_or x rest)) ≡ has k (way p x ++ rest))
          → has k (way p (last_or x (elim b [ true ↦ a ∷ rest | false ↦ rest ])))
          ≡ has k (way p x ++ elim b [ true ↦ a ∷ rest | false ↦ rest ])
      go false q ih = ih x (e ∙ sym (skips a lt q))
      go true q ih =
          let j = eqb-true (job (at p a)) (job (at p i)) q in
          let here : way p a ≡ a ∷ way p x = way_first p a ∙ rw (j, ← e) in
          ih a (way_is p (job (at p i)) a j) ∙ rw here (sym (has_moved k a (way p x) rest))

  -- from the last line back are the same lines as in the order of the tests
  pub from_last_same : (k : ℕ) → has k (from_last p i) ≡ has k (may_change p i)
  unfolding from_last may_change under
  from_last_same k = through (until p i - suc i) (suc i) i k (omega arith) (way_is p (job (at p i)) i refl)

  -- a line that is not among them is neither the take nor under it
  pub off_take : (k : ℕ) → has k (from_last p i) ≡ false → (k ≢ i) × (has k (under p i) ≡ false)
  unfolding may_change
  off_take k m = (
    λ z. clash (has k (from_last p i))
        (from_last_same k ∙ has_left k (way p i) (under p i) (rw z (line_on_way p i))) m,
    go (test (has k (under p i))),
  )
    where
      go : (has k (under p i) ≡ true) ⊎ (has k (under p i) ≡ false) → has k (under p i) ≡ false
      go (inl u) = clash (has k (from_last p i)) (from_last_same k ∙ has_right k (way p i) (under p i) u) m
      go (inr u) = u

  -- from the last line back they fall, within the plan
  pub from_last_falls : i < length p → Falls (length p) (from_last p i)
  unfolding from_last
  from_last_falls h =
      falls_further (suc last) (length p) (way p last)
      (may_change_line p i h last (sym (from_last_same last) ∙ line_on_way p last)) (way_falls p last)
    where
      last : ℕ
      last = last_or i (under p i)

  -- and another line has no successor among them
  pub from_last_off : (k o : ℕ) → has o (successors (at p k) (drop (suc k) p)) ≡ true → has k (from_last p i) ≡ false
      → has (suc k + o) (from_last p i) ≡ false
  unfolding from_last
  from_last_off = off_way_stays_off p rules (last_or i (under p i))

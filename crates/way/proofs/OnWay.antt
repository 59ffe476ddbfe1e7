-- With the starters of a plan that obeys the rules, the walk from line to line is the way: it goes on at the line
-- before, if that is of the same job, else at the line that starts the job. So no line between need be looked at.
use Prim.Native.Nat.{ℕ, zero, suc, ◌-◌, ◌<◌, ◌≤◌}
use mathlib.Core.Bool.{true, false, cond}
use mathlib.Core.List.{List, [], ◌∷◌}
use mathlib.Core.Logic.{◌⊎◌, inl, inr, ◌≢◌}
use mathlib.Core.Option.{Option, none, some}
use mathlib.Core.Path.{◌≡◌, refl, sym, ◌∙◌, ap}
use native.Mathlib.Omega.{arith}
use lib.Dec.{eqb, ltb}
use lib.ListN.{length, get_or}
use borrow.Author.Tests.{eqb-true, eqb-false, ne_eqb, lt-ltb, le-ltb}
use Rattle.model.specs.Lists.{positions, first_of}
use Rattle.model.specs.Line.{job, starts, at, line_number, max_job}
use Rattle.model.specs.WellFormed.{Rules}
use Rattle.model.specs.Move.{way_in, way}
use Rattle.plan.specs.Jobs.{number_of_found, starters}
use Rattle.theory.proofs.Tests.{clash, test, le_or_lt}
use Rattle.theory.proofs.Lists.{Answer, first_answer, position_has}
use Rattle.theory.proofs.WellFormed.{start_line}
use Rattle.theory.proofs.Successors.{jobs_grow}
use Rattle.theory.proofs.Way.{way_first}
use Rattle.way.specs.Back.{line_before, walked}
use Rattle.way.proofs.Walks.{further_up}
use Rattle.way.proofs.Numbered.{starter_at_job}

-- the way from the line with a number; none from 0
abbrev onward : List ℕ → ℕ → List ℕ
onward p zero = []
onward p (suc i) = way p i

-- ---- past lines that are not on the way

passes : (p : List ℕ) (j k : ℕ) → job (at p k) ≢ j → starts (at p k) j ≡ false → way_in p j (suc k) ≡ way_in p j k
unfolding way_in
passes p j k n s = rw (ne_eqb (job (at p k)) j n, s, way_in)

finds : (p : List ℕ) (j k : ℕ) → job (at p k) ≢ j → starts (at p k) j ≡ true → way_in p j (suc k) ≡ way p k
unfolding way_in
finds p j k n s = rw (ne_eqb (job (at p k)) j n, s, way_in) (sym (way_first p k))

-- down to the start, if one stands above: m is its number, or 0
down : (p : List ℕ) (j m : ℕ) → ((k : ℕ) → starts (at p k) j ≡ true → m ≡ suc k)
    → ((k : ℕ) → m ≡ suc k → starts (at p k) j ≡ true) → (n : ℕ) → ((k : ℕ) → k < n → job (at p k) ≢ j)
    → way_in p j n ≡ onward p (cond (ltb n m) 0 m)
unfolding way_in
down p j zero only is zero f = refl
down p j (suc m) only is zero f = rw (lt-ltb 0 (suc m) (omega arith))
down p j m only is (suc n) f =
    go (test (starts (at p n) j)) (le_or_lt m n) (down p j m only is n (λ k h. f k (omega arith)))
  where
    go : (starts (at p n) j ≡ true) ⊎ (starts (at p n) j ≡ false) → (m ≤ n) ⊎ (n < m)
        → way_in p j n ≡ onward p (cond (ltb n m) 0 m) → way_in p j (suc n) ≡ onward p (cond (ltb (suc n) m) 0 m)
    go (inl s) h ih = rw (only n s, le-ltb (suc n) (suc n) (omega arith)) (finds p j n (f n (omega arith)) s)
    go (inr s) (inl h) ih =
        passes p j n (f n (omega arith)) s ∙ rw (le-ltb (suc n) m (omega arith)) (rw (le-ltb n m h) at ih)
    go (inr s) (inr h) ih =
        let ne : m ≢ suc n = λ z. clash (starts (at p n) j) (is n z) s in
        passes p j n (f n (omega arith)) s ∙ rw (lt-ltb (suc n) m (omega (arith, ne))) (rw (lt-ltb n m h) at ih)

-- ---- from line to line

module _ (p : List ℕ) (rules : Rules p) (small : (i : ℕ) → i < length p → job (at p i) ≤ max_job) where
  -- one line starts a job
  one_start : (j k s : ℕ) → starts (at p k) j ≡ true → starts (at p s) j ≡ true → s ≡ k
  one_start j k s a b = go (test (eqb s k)) (le_or_lt s k)
    where
      go : (eqb s k ≡ true) ⊎ (eqb s k ≡ false) → (s ≤ k) ⊎ (k < s) → s ≡ k
      go (inl e) h = eqb-true s k e
      go (inr e) (inl h) =
          let ne = eqb-false s k e in clash (starts (at p s) j) b (rules.start_once k s j (omega arith) a)
      go (inr e) (inr h) = clash (starts (at p k) j) a (rules.start_once s k j h b)

  -- from the first line of a job, to the line that starts the job
  to_start : (i : ℕ) → i < length p → ((k : ℕ) → k < i → job (at p k) ≢ job (at p i)) → (m : ℕ)
      → m ≡ get_or (starters p) (job (at p i)) 0 → way_in p (job (at p i)) i ≡ onward p (cond (ltb i m) 0 m)
  unfolding number_of_found line_number
  to_start i h begins m e =
      rw (e, starter_at_job p j (small i h))
      (go (first_of (λ k. starts (at p k) j) (positions p)) (first_answer (λ k. starts (at p k) j) (positions p)))
    where
      j : ℕ
      j = job (at p i)

      go : (o : Option ℕ) → Answer (λ k. starts (at p k) j) (positions p) o
          → way_in p j i ≡ onward p (cond (ltb i (number_of_found o)) 0 (number_of_found o))
      go none a =
          down p j 0 (λ k s. clash (starts (at p k) j) s (a k (position_has p k (start_line p k j s))))
          (λ k z. absurd (omega arith)) i begins
      go (some s) a =
          down p j (suc s) (λ k b. ap suc (one_start j k s b a.1))
          (λ k z. let y : s ≡ k = omega arith in rw y at a.1) i begins

  -- the lines before one of another job are of other jobs
  other_begins : (i : ℕ) → suc i < length p → job (at p i) ≢ job (at p (suc i))
      → (k : ℕ) → k < suc i → job (at p k) ≢ job (at p (suc i))
  other_begins i h n k lt e =
      n
      (omega (
        arith,
        jobs_grow p rules k i (omega arith) (omega arith),
        jobs_grow p rules i (suc i) (omega arith) h,
      ))

  -- after the line at i the way goes on as the code does
  goes_on_lem : (i : ℕ) → i < length p → way p i ≡ i ∷ onward p (line_before p (starters p) i)
  unfolding way_in line_before
  goes_on_lem zero h = way_first p 0
  goes_on_lem (suc i) h =
      let z : suc i - 1 ≡ i = omega arith in
      way_first p (suc i)
      ∙ rw (ne_eqb (suc i) 0 (λ e. omega arith), z) (go (test (eqb (job (at p i)) (job (at p (suc i))))))
    where
      s : ℕ
      s = get_or (starters p) (job (at p (suc i))) 0

      go : (eqb (job (at p i)) (job (at p (suc i))) ≡ true) ⊎ (eqb (job (at p i)) (job (at p (suc i))) ≡ false)
          → suc i ∷ way_in p (job (at p (suc i))) (suc i)
          ≡ suc i ∷ onward p (cond (eqb (job (at p i)) (job (at p (suc i)))) (suc i) (cond (ltb (suc i) s) 0 s))
      go (inl e) = rw (e, way_in) (ap (λ (xs : List ℕ). suc i ∷ xs) (sym (way_first p i)))
      go (inr e) =
          rw e
          (ap (λ (xs : List ℕ). suc i ∷ xs)
          (to_start (suc i) h (other_begins i h (eqb-false (job (at p i)) (job (at p (suc i))) e)) s refl))

  -- The theorem: the walk from a line is its way.
  pub walk_is : (m n : ℕ) → n ≤ m → n ≤ length p → walked p (starters p) m n ≡ onward p n
  unfolding walked
  walk_is zero zero h g = refl
  walk_is zero (suc i) h g = absurd (omega arith)
  walk_is (suc m) zero h g = refl
  walk_is (suc m) (suc i) h g =
      ap (λ (xs : List ℕ). i ∷ xs)
      (walk_is m (line_before p (starters p) i) (omega (arith, further_up p (starters p) i))
      (omega (arith, further_up p (starters p) i)))
      ∙ sym (goes_on_lem i g)

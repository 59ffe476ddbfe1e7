-- The tables of first lines and starters, entry by entry: one line more changes an entry only where there was none.
use Rattle.std.proofs.Common.{◌≡◌, ℕ, zero, suc, ◌+◌, ◌<◌, ◌≤◌, Bool, true, false, not, eqb, ◌⊎◌, List, [], ◌∷◌, map}
use Rattle.std.proofs.Common.{length, get_or, set, sym, refl, ap, ◌∙◌, inl, inr, arith, get_or-set_other}
use Rattle.std.proofs.Common.{get_or-set_same, ext_get_or, ne_eqb, eqb-true}
use mathlib.Core.List.{head_d}
use lib.ListN.{length-map}
use borrow.Author.Tests.{eqb-false}
use Rattle.model.specs.Line.{Settings, job, starts, at, line_number, first_line, max_job}
use mathlib.Core.Option.{Option, none, some}
use Rattle.model.specs.Lists.{up_from, positions, any, first_of}
use Rattle.model.specs.WellFormed.{before}
use Rattle.theory.proofs.Tests.{clash, test, falsely, le_or_lt}
use Rattle.theory.proofs.WellFormed.{any_before, before_any, any_line, line_any}
use Rattle.theory.proofs.Lists.{Answer, first_answer, has_up_from, first_is_lowest}
use Rattle.plan.specs.Jobs.{number_of_first, number_of_found, first_lines, starters}
use Rattle.theory.proofs.Claims.{length_up_from, get_or_up_from}
use Rattle.plan.specs.Tables.{First, nothing, found, Tables}

-- what holds below i, and at i, holds below the next
pub up_to : (P : ℕ → Type 0) (i : ℕ) → P i → ((k : ℕ) → k < i → P k) → (k : ℕ) → k < suc i → P k
up_to P i here f k h = go (test (eqb k i))
  where
    go : (eqb k i ≡ true) ⊎ (eqb k i ≡ false) → P k
    go (inl e) = rw (eqb-true k i e) here
    go (inr e) = let n = eqb-false k i e in f k (omega arith)

module _ (f : ℕ → Bool) (p : List ℕ) (i : ℕ) where
  -- one line more
  pub stays : (m : ℕ) → f (at p i) ≡ false → First f p i m → First f p (suc i) m
  stays m e (nothing h) = nothing (up_to (λ k. f (at p k) ≡ false) i e h)
  stays m e (found k b t low) = found k (omega arith) t low

  pub kept : (m : ℕ) → (m ≡ 0 → ⊥) → First f p i m → First f p (suc i) m
  kept m n (nothing h) = absurd (n refl)
  kept m n (found k b t low) = found k (omega arith) t low

  pub new : (m : ℕ) → f (at p i) ≡ true → m ≡ 0 → First f p i m → First f p (suc i) (suc i)
  new m t z (nothing h) = found i (omega arith) t h
  new m t z (found k b u low) = absurd (omega arith)

  -- where a line passes, the entry is no later line's; where none does, there is no entry
  pub at_most_lem : (m k : ℕ) → First f p i m → k < i → f (at p k) ≡ true → (1 ≤ m) × (m ≤ suc k)
  at_most_lem m k (nothing h) b t = clash (f (at p k)) t (h k b)
  at_most_lem m k (found j c u low) b t = go (le_or_lt j k)
    where
      go : (j ≤ k) ⊎ (k < j) → (1 ≤ suc j) × (suc j ≤ suc k)
      go (inl h) = (omega arith, omega arith)
      go (inr h) = clash (f (at p k)) t (low k h)

  pub unfound : (m : ℕ) → First f p i m → ((k : ℕ) → k < i → f (at p k) ≡ false) → m ≡ 0
  unfound m (nothing h) g = refl
  unfound m (found k b t low) g = clash (f (at p k)) t (g k b)

  pub any_found : (m : ℕ) → First f p i m → any f (before p i) ≡ not (eqb m 0)
  any_found m (nothing h) =
      falsely (any f (before p i)) (λ e. let r = any_before f p i e in clash (f (at p r.0)) r.2 (h r.0 r.1))
  any_found m (found k b t low) = rw (ne_eqb (suc k) 0 (λ q. omega arith)) (before_any f p i k b t)

-- a table with one entry stored anew
pub stored : (f : ℕ → ℕ → Bool) (p : List ℕ) (i : ℕ) (t : List ℕ) (o v : ℕ) → length t ≡ suc max_job → o ≤ max_job
    → ((j : ℕ) → j ≤ max_job → First (f j) p i (get_or t j 0)) → First (f o) p (suc i) v
    → ((j : ℕ) → (o ≡ j → ⊥) → f j (at p i) ≡ false) → (j : ℕ) → j ≤ max_job
    → First (f j) p (suc i) (get_or (set t o v) j 0)
stored f p i t o v l b old here other j h = go (test (eqb o j))
  where
    go : (eqb o j ≡ true) ⊎ (eqb o j ≡ false) → First (f j) p (suc i) (get_or (set t o v) j 0)
    go (inl e) = rw (← eqb-true o j e) (rw (get_or-set_same t o v 0 (omega arith)) here)
    go (inr e) =
        let n = eqb-false o j e in
        rw (get_or-set_other t o j v 0 (λ q. n (sym q))) (stays (f j) p i (get_or t j 0) (other j n) (old j h))

-- ---- past the last line

-- some line passes exactly if the table has an entry
pub any_in : (f : ℕ → Bool) (p : List ℕ) (m : ℕ) → First f p (length p) m → any f p ≡ not (eqb m 0)
any_in f p m (nothing h) =
    falsely (any f p) (λ e. let r = any_line f p e in clash (f (at p r.0)) r.2 (h r.0 r.1))
any_in f p m (found k b t low) = rw (ne_eqb (suc k) 0 (λ q. omega arith)) (line_any f p k b t)

-- a search that finds nothing
pub first_none : (f : ℕ → Bool) (a n : ℕ) → ((k : ℕ) → a ≤ k → k < a + n → f k ≡ false)
    → first_of f (up_from a n) ≡ none
first_none f a n h = go (first_of f (up_from a n)) (first_answer f (up_from a n))
  where
    go : (o : Option ℕ) → Answer f (up_from a n) o → o ≡ none
    go none e = refl
    go (some i) e = let r = has_up_from a n i e.0 in clash (f i) e.1 (h i r.0 r.1)

-- the first line of a job
none_later : (xs : List ℕ) → number_of_first xs ≡ 0 → number_of_first (map suc xs) ≡ 0
unfolding number_of_first line_number
none_later [] e = refl
none_later (x ∷ xs) e = absurd (omega arith)

one_later : (xs : List ℕ) (k : ℕ) → number_of_first xs ≡ suc k → number_of_first (map suc xs) ≡ suc (suc k)
unfolding number_of_first line_number
one_later [] k e = absurd (omega arith)
one_later (x ∷ xs) k e = ap suc e

pub first_line_lem : (j : ℕ) (p : List ℕ) (m : ℕ) → First (λ l. eqb (job l) j) p (length p) m
    → number_of_first (first_line j p) ≡ m
unfolding first_line number_of_first line_number
first_line_lem j [] m (nothing h) = refl
first_line_lem j [] m (found k b t low) = absurd (omega arith)
first_line_lem j (l ∷ ls) m v = go (eqb (job l) j) refl m v (first_line_lem j ls)
  where
    go : (b : Bool) → eqb (job l) j ≡ b → (m : ℕ) → First (λ l. eqb (job l) j) (l ∷ ls) (suc (length ls)) m
        → ((m : ℕ) → First (λ l. eqb (job l) j) ls (length ls) m → number_of_first (first_line j ls) ≡ m)
        → number_of_first (elim b [ true ↦ 0 ∷ [] | false ↦ map suc (first_line j ls) ]) ≡ m
    go true e m (nothing h) ih = clash (eqb (job l) j) e (h 0 (omega arith))
    go true e m (found zero b t low) ih = refl
    go true e m (found (suc k) b t low) ih = clash (eqb (job l) j) e (low 0 (omega arith))
    go false e m (nothing h) ih = none_later (first_line j ls) (ih 0 (nothing (λ k b. h (suc k) (omega arith))))
    go false e m (found zero b t low) ih = clash (eqb (job l) j) t e
    go false e m (found (suc k) b t low) ih =
        one_later (first_line j ls) k (ih (suc k) (found k (omega arith) t (λ i c. low (suc i) (omega arith))))

pub first_number : (j : ℕ) (p : List ℕ) (m : ℕ) → First (λ l. eqb (job l) j) p (length p) m → 1 ≤ m
    → line_number (head_d (first_line j p) 0) ≡ m
unfolding number_of_first head_d
first_number j p m v h = go (first_line j p) (first_line_lem j p m v)
  where
    go : (xs : List ℕ) → number_of_first xs ≡ m → line_number (head_d xs 0) ≡ m
    go [] e = absurd (omega arith)
    go (x ∷ xs) e = e

-- the line that starts a job
first_found : (f : ℕ → Bool) (p : List ℕ) (m : ℕ) → First f p (length p) m
    → number_of_found (first_of (λ i. f (at p i)) (positions p)) ≡ m
unfolding positions number_of_found line_number
first_found f p m (nothing h) =
    ap number_of_found (first_none (λ i. f (at p i)) 0 (length p) (λ k a b. h k (omega arith)))
first_found f p m (found k b t low) =
    ap number_of_found (first_is_lowest (λ i. f (at p i)) 0 (length p) k (omega arith) (omega arith) t
    (λ i a c. low i c))

-- entry by entry, a table is the one that a map over the jobs makes
pub table_is_lem : (g : ℕ → ℕ) (t : List ℕ) → length t ≡ suc max_job → ((j : ℕ) → j ≤ max_job → g j ≡ get_or t j 0)
    → t ≡ map g (up_from 0 (suc max_job))
table_is_lem g t n f =
    ext_get_or 0 t (map g (up_from 0 (suc max_job)))
    (n ∙ sym (length-map (up_from 0 (suc max_job)) g ∙ length_up_from 0 (suc max_job)))
    (λ j h. sym (get_or_up_from g 0 (suc max_job) j (omega arith) ∙ ap g (omega arith) ∙ f j (omega arith)))

module _ (S : Settings) (p first starter : List ℕ) (t : Tables S p (length p) first starter) where
  pub firsts_are_lem : first ≡ first_lines p
  unfolding first_lines
  firsts_are_lem =
      table_is_lem (λ j. number_of_first (first_line j p)) first t.first_long
      (λ j h. first_line_lem j p (get_or first j 0) (t.firsts j h))

  pub starters_are : starter ≡ starters p
  unfolding starters
  starters_are =
      table_is_lem (λ j. number_of_found (first_of (λ i. starts (at p i) j) (positions p))) starter t.starter_long
      (λ j h. first_found (λ l. starts l j) p (get_or starter j 0) (t.starters j h))

-- The tables of first lines and of starters while lines are passed: an entry is the number of the first line so far
-- that passes a test, 0 where none does.
use Rattle.std.specs.Prelude.{◌≡◌, ℕ, suc, ◌<◌, ◌≤◌, Bool, true, false, List, length, replicate, nat_eq, slice_index}
use Rattle.model.specs.Line.{Settings, job, starts, is_line, at, max_job}

-- of the first i lines
pub data First (f : ℕ → Bool) (p : List ℕ) (i : ℕ) : ℕ → Type 0 where
  nothing : ((k : ℕ) → k < i → f (at p k) ≡ false) → First f p i 0
  found : (k : ℕ) → k < i → f (at p k) ≡ true → ((m : ℕ) → m < k → f (at p m) ≡ false) → First f p i (suc k)

-- no entry yet
abbrev pub none_yet : List ℕ
none_yet = replicate (suc max_job) 0

-- the first i numbers are lines, and these are their tables
pub record Tables (S : Settings) (p : List ℕ) (i : ℕ) (first starter : List ℕ) : Type 0 where
  pub lines : (k : ℕ) → k < i → is_line S (at p k) ≡ true
  pub first_long : length first ≡ suc max_job
  pub starter_long : length starter ≡ suc max_job
  pub firsts : (j : ℕ) → j ≤ max_job → First (λ l. nat_eq (job l) j) p i (slice_index first j)
  pub starters : (j : ℕ) → j ≤ max_job → First (λ l. starts l j) p i (slice_index starter j)

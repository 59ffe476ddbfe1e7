-- The line that an entry names (02, request 1), as it counts (request 2), which its flag tells: the code's test of it
-- asks for the outermost takes of the plan. Then what a line that is done changes: places in the list of next lines,
-- and a device.
use Prim.Native.Nat.{ℕ, suc, ◌+◌, ◌-◌, ◌<◌, ◌≤◌}
use mathlib.Core.Bool.{Bool, true, false, cond, not, ◌&&◌}
use mathlib.Core.List.{List}
use mathlib.Core.Logic.{◌⊎◌, inl, inr}
use mathlib.Core.Path.{◌≡◌, refl, sym, ◌∙◌, ap}
use native.Mathlib.Omega.{arith}
use lib.Dec.{eqb}
use lib.ListN.{length, get_or}
use borrow.Author.Tests.{eqb-true}
use Rattle.model.specs.Sets.{member}
use Rattle.model.specs.Line.{Settings, job, kind, operand, is_take, is_start, starts, is_line, at}
use Rattle.model.specs.Line.{max_job, max_lines}
use Rattle.model.specs.Mate.{device_at, holds_already, takes_at}
use Rattle.model.specs.WellFormed.{WellFormed}
use Rattle.theory.specs.Outer.{again_at, plain, plain_at}
use Rattle.theory.proofs.Tests.{clash, test, and_split}
use Rattle.theory.proofs.Line.{line_parts, start_parts, start_of, start_operand, take_no_held, own_device}
use Rattle.theory.proofs.Claims.{get_or_up_from}
use Rattle.theory.proofs.Outer.{plain_job, plain_operand, plain_line, plain_take, plain_start}
use Rattle.plan.specs.Again.{again_flag, again_flags}
use Rattle.legal.specs.Steps.{is_next, started_by, passed}

-- the job that a line starts, or 0, is at most the last
pub started_small : (S : Settings) (l : ℕ) → is_line S l ≡ true → started_by l ≤ max_job
unfolding started_by is_start
started_small S l h = go (is_start l) refl
  where
    go : (b : Bool) → is_start l ≡ b → cond b (operand l) 0 ≤ max_job
    go true e = start_operand S l h (eqb-true (kind l) 3 e)
    go false e = omega arith

-- ---- the line that an entry names

-- an entry is the number of a line, which counts as l
pub record Names (p : List ℕ) (e l : ℕ) : Type 0 where
  pub number : e ≡ suc (e - 1)
  pub line : e - 1 < length p
  pub counts : l ≡ plain_at p (e - 1)

-- the flag of line i tells whether it takes again, or gives such a take back
flag_tells : (p : List ℕ) (i : ℕ) → i < max_lines → eqb (get_or (again_flags p) i 0) 1 ≡ again_at p i
unfolding again_flags again_flag
flag_tells p i h =
    let z : 0 + i ≡ i = omega arith in rw (get_or_up_from (again_flag p) 0 max_lines i h, z) (go (again_at p i))
  where
    go : (b : Bool) → eqb (cond b 1 0) 1 ≡ b
    go true = refl
    go false = refl

module _ {S : Settings} {p : List ℕ} (w : WellFormed S p) (e l : ℕ) where
  pub named : {again : List ℕ} → again ≡ again_flags p → 1 ≤ e → e ≤ length p
      → l ≡ plain (eqb (get_or again (e - 1) 0) 1) (at p (e - 1)) → Names p e l
  named a low high q = record {
    number = omega arith;
    line = omega arith;
    counts = q ∙ rw (a, flag_tells p (e - 1) (omega (arith, high, w.few)));
  }

  counted_line : Names p e l → is_line S l ≡ true
  counted_line n = rw n.counts (plain_line (again_at p (e - 1)) (at p (e - 1)) S (w.lines (e - 1) n.line))

  -- its job and the one that it starts have places in the list of next lines
  pub counted_job : Names p e l → job l ≤ max_job
  counted_job n = (line_parts S l (counted_line n)).1

  pub counted_start : Names p e l → started_by l ≤ max_job
  counted_start n = started_small S l (counted_line n)

module _ (p : List ℕ) (i : ℕ) where
  -- the test of line i: it is its job's next line, and no outermost take of a device held
  pub next_counted : (next : List ℕ) (held n : ℕ) → is_next next held (plain_at p i) n
      ≡ (eqb (get_or next (job (at p i)) 0) n && not (takes_at p i && member held (device_at p i)))
  unfolding is_next takes_at device_at
  next_counted next held n =
      rw (plain_job (again_at p i) (at p i), plain_take p i, plain_operand (again_at p i) (at p i))
      (ap (λ (b : Bool). eqb (get_or next (job (at p i)) 0) n && not b) (barred (test (takes_at p i))))
    where
      -- what a take takes is what its operand names
      barred : (takes_at p i ≡ true) ⊎ (takes_at p i ≡ false)
          → (takes_at p i && member held (operand (at p i))) ≡ (takes_at p i && member held (device_at p i))
      barred (inr n) = rw n
      barred (inl t) =
          let takes = (and_split (is_take (at p i)) (not (holds_already p i)) t).0 in
          ap (λ (d : ℕ). takes_at p i && member held d) (sym (own_device (at p i) (take_no_held (at p i) takes)))

  -- it changes the same places as the line as it is written
  pub passed_counted : (next first : List ℕ) (n : ℕ)
      → passed next first (plain_at p i) n ≡ passed next first (at p i) n
  unfolding passed started_by
  passed_counted next first n =
      rw (plain_job (again_at p i) (at p i), plain_start p i, plain_operand (again_at p i) (at p i))

-- ---- the places that a line changes

-- a start of job j has its place, and no other line has
pub starts_it : (l j : ℕ) → starts l j ≡ true → j ≡ started_by l
unfolding started_by
starts_it l j a = let r = start_parts l j a in rw r.0 (sym r.1)

pub starts_no_other : (l j : ℕ) → starts l j ≡ false → 1 ≤ j → j ≡ started_by l → ⊥
unfolding started_by
starts_no_other l j a h q = go (is_start l) refl q
  where
    go : (b : Bool) → is_start l ≡ b → j ≡ cond b (operand l) 0 → ⊥
    go true e q = clash (starts l j) (rw q (start_of l e)) a
    go false e q = omega arith

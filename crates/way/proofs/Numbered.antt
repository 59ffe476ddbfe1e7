-- The arrays of a scan, one number a job: what stands in them at a job.
use Prim.Native.Nat.{ℕ, suc, ◌+◌, ◌≤◌}
use mathlib.Core.List.{List}
use mathlib.Core.Path.{◌≡◌, ◌∙◌, ap}
use native.Mathlib.Omega.{arith}
use lib.ListN.{get_or}
use Rattle.model.specs.Lists.{positions, first_of}
use Rattle.model.specs.Line.{starts, at, first_line, max_job}
use Rattle.plan.specs.Jobs.{number_of_first, number_of_found, first_lines, starters}
use Rattle.theory.proofs.Claims.{get_or_up_from}

pub first_at_job : (p : List ℕ) (j : ℕ) → j ≤ max_job → get_or (first_lines p) j 0 ≡ number_of_first (first_line j p)
unfolding first_lines
first_at_job p j h =
    let z : 0 + j ≡ j = omega arith in
    get_or_up_from (λ j. number_of_first (first_line j p)) 0 (suc max_job) j (omega arith)
    ∙ ap (λ (x : ℕ). number_of_first (first_line x p)) z

pub starter_at_job : (p : List ℕ) (j : ℕ) → j ≤ max_job
    → get_or (starters p) j 0 ≡ number_of_found (first_of (λ i. starts (at p i) j) (positions p))
unfolding starters
starter_at_job p j h =
    let z : 0 + j ≡ j = omega arith in
    get_or_up_from (λ j. number_of_found (first_of (λ i. starts (at p i) j) (positions p))) 0 (suc max_job) j
    (omega arith)
    ∙ ap (λ (x : ℕ). number_of_found (first_of (λ i. starts (at p i) x) (positions p))) z

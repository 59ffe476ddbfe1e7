-- The outcomes of the entries of this room by the fault of the plan (01, "Refusal numbers", 2 to 7).
use Rattle.std.proofs.Common.{◌≡◌, ℕ, List, Ok, Err, refl, ◌∙◌, arith}
use mathlib.Core.Option.{Option, none, some}
use Rattle.model.specs.Board.{devices, board}
use Rattle.model.specs.WellFormed.{fault}
use Rattle.model.specs.Sets.{union_of}
use Rattle.model.specs.Kept.{held_to_end}
use Rattle.model.specs.declared.Refusal.{Refusal}
use Rattle.theory.proofs.WellFormed.{no_fault_exactly}
use Rattle.plan.specs.Holdings.{holdings}
use Rattle.rows.specs.declared.Held.{Held}
use Rattle.rows.specs.Lasting.{held_twice}
use Rattle.rows.specs.Twice.{twice_in}
use Rattle.rows.proofs.Twice.{one_of_jobs, two_of_jobs}
use Rattle.rows.specs.Holds.{holds_by}

module _ (p : List ℕ) where
  -- what the jobs hold makes the two sets
  pub held_made : (r : Held) (left : List ℕ) → fault board p ≡ none → left ≡ holdings p → r.held ≡ union_of left
      → r.twice ≡ twice_in left → Ok r ≡ holds_by (fault board p) p
  held_made r left f e h t =
      let w = (no_fault_exactly board p).0 f in
      let to_end : r.held ≡ held_to_end devices p = h ∙ rw e (one_of_jobs p w) in
      let twice : r.twice ≡ held_twice devices p = t ∙ rw e (two_of_jobs p w) in
      rw (f, ← to_end, ← twice)

  -- and what an answer says of the plan: for the rooms above
  pub told_fault : {r : Refusal} → Err r ≡ holds_by (fault board p) p → fault board p ≡ some r
  told_fault {r} e = go (fault board p) e
    where
      go : (o : Option Refusal) → Err r ≡ holds_by o p → o ≡ some r
      go none q = cc
      go (some s) q = cc

  pub told_sets : {r : Held} → Ok r ≡ holds_by (fault board p) p
      → (fault board p ≡ none) × (r.held ≡ held_to_end devices p) × (r.twice ≡ held_twice devices p)
  told_sets {r} e = go (fault board p) e
    where
      go : (o : Option Refusal) → Ok r ≡ holds_by o p
          → (o ≡ none) × (r.held ≡ held_to_end devices p) × (r.twice ≡ held_twice devices p)
      go none q = (refl, (cc), (cc))
      go (some s) q = let z : ◌≡◌ {A = ℕ} 0 1 = cc in absurd (omega arith)

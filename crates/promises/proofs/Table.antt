-- What follows from what `table` promises, `TablesAs` (01, "Refusal numbers"): it refuses exactly in a listed case, and
-- then leaves the list as it was; a success leaves the table and, past it, what was there.
use Prim.Native.Nat.{ℕ, ◌≤◌}
use Rattle.std.specs.Prelude.{Result, Ok, Err}
use mathlib.Core.List.{List, []}
use mathlib.Core.Logic.{◌↔◌}
use mathlib.Core.Path.{◌≡◌, refl, ◌∙◌, sym}
use native.Mathlib.Omega.{arith}
use lib.ListN.{length, drop}
use lib.Seq.{take_at}
use Rattle.model.specs.Lists.{over}
use Rattle.model.specs.Line.{Settings}
use Rattle.model.specs.WellFormed.{WellFormed, fault}
use Rattle.model.specs.Claims.{table}
use Rattle.model.specs.Entries.{tabling}
use Rattle.model.specs.declared.Refusal.{Refusal}
use Rattle.theory.specs.WellFormed.{Broken}
use Rattle.theory.proofs.Claims.{length_table}
use Rattle.theory.proofs.WellFormed.{fault_exactly, no_fault_exactly}
use Rattle.promises.specs.Outcome.{NoFurther, Refuses}
use Rattle.promises.specs.Table.{TablesAs, NoTable, IsTabled, OwnTable}
use Rattle.promises.proofs.Tight.{by_none}
use Rattle.promises.proofs.Outcome as one
use Rattle.promises.proofs.Outcome.{Entry, counts, none_after}

abbrev pub entry : (S : Settings) (plan lent : List ℕ)
    → Entry (Result ℕ Refusal) (List ℕ) (WellFormed S plan) (Broken S plan) NoFurther
entry S plan lent = record {
  answers = counts;
  fault = fault S plan;
  rest = [];
  sound = no_fault_exactly S plan;
  broken = fault_exactly S plan;
  beyond = λ s. none_after;
  room = length lent;
  needed = length plan;
  count = length plan;
  new = over (table plan) lent;
  lent = lent;
}

module _ (S : Settings) (plan lent : List ℕ) where
  -- a refusal exactly in a listed case; it leaves the list
  pub refused_exactly : (a : Result ℕ Refusal) (left : List ℕ) → TablesAs S plan lent a left → (r : Refusal)
      → (a ≡ Err r) ↔ NoTable S plan lent r
  unfolding tabling
  refused_exactly = one.refused_exactly (entry S plan lent)

  pub refused_leaves : (r : Refusal) (left : List ℕ) → TablesAs S plan lent (Err r) left
      → Refuses (NoTable S plan lent) lent r left
  unfolding tabling
  refused_leaves r left m = one.refused_leaves (entry S plan lent) (Err r) left m r refl

  -- a table exactly of a plan without a fault, given room; it stands in front
  pub tabled_exactly : (a : Result ℕ Refusal) (left : List ℕ) → TablesAs S plan lent a left
      → ((n : ℕ) × (a ≡ Ok n)) ↔ (WellFormed S plan × (length plan ≤ length lent))
  unfolding tabling
  tabled_exactly a left m =
      let d = one.done_exactly (entry S plan lent) a left m in
      (λ h. let p = d.0 h in (p.0, p.1), λ h. d.1 (h.0, h.1, refl))

  pub tabled_leaves : (n : ℕ) (left : List ℕ) → TablesAs S plan lent (Ok n) left
      → IsTabled S plan lent n left
  unfolding tabling
  tabled_leaves n left m =
      let d = one.done_leaves (entry S plan lent) (Ok n) left m n refl in
      record {
        sound = d.0.0;
        room = omega (arith, d.0.1, length_table plan);
        counts = d.1 ∙ sym (length_table plan);
        leaves = d.2;
      }

  -- and that it does is promised
  pub tables_as : (left : List ℕ) → WellFormed S plan → length plan ≤ length lent → left ≡ over (table plan) lent
      → TablesAs S plan lent (Ok (length plan)) left
  unfolding tabling
  tables_as left w h e =
      by_none Err (Ok (length plan)) (over (table plan) lent) lent
      (one.tests (entry S plan lent)) left ((one.passed_exactly (entry S plan lent)).1 (w, h, refl)) e

  -- what is tabled is the plan's own
  pub tabled_own : (n : ℕ) (left : List ℕ) → TablesAs S plan lent (Ok n) left → OwnTable S plan left
  unfolding over
  tabled_own n left m =
      let d = tabled_leaves n left m in
      record {
        sound = d.sound;
        own = rw d.leaves (take_at (table plan) (drop (length (table plan)) lent) (length plan) (length_table plan));
      }

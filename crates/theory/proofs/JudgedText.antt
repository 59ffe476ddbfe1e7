-- 02, request 1: of a text with a plan and an order, what is refused, exactly: the fault of the plan's part, and
-- otherwise 15 where the entries go wrong.
use Prim.Native.Nat.{ℕ, ◌≤◌}
use mathlib.Core.List.{List}
use mathlib.Core.Logic.{◌↔◌}
use mathlib.Core.Option.{none, some}
use mathlib.Core.Path.{◌≡◌}
use lib.ListN.{length}
use Rattle.model.specs.Line.{Settings, max_bytes}
use Rattle.model.specs.Entries.{text_fault}
use Rattle.model.specs.Judged.{judge_text_refusal}
use Rattle.model.specs.declared.Refusal.{Refusal}
use Rattle.model.specs.WellFormed.{WellFormed}
use Rattle.theory.specs.Judged.{LegalEntries, plan_text, plan_of, list_of, TextPasses, TextWrong, faulty, astray}
use Rattle.theory.proofs.WellFormed.{no_fault_exactly}
use Rattle.theory.proofs.Judged.{Reason, first, second, tests_refuse_exactly, tests_pass_exactly}
use Rattle.theory.proofs.Text.{no_text_fault, text_fault_exactly}

module _ (S : Settings) (text : List ℕ) where
  abbrev part : List ℕ
  part = plan_text text

  abbrev plan : List ℕ
  plan = plan_of S text

  -- the plan's part has no fault exactly if it is short, and its plan well-formed
  plan_passes : (text_fault S part ≡ none) ↔ ((length part ≤ max_bytes) × WellFormed S plan)
  plan_passes = (
    λ e. let s = (no_text_fault S part).0 e in (s.0, (no_fault_exactly S plan).0 s.1),
    λ h. (no_text_fault S part).1 (h.0, (no_fault_exactly S plan).1 h.1),
  )

  -- a refusal exactly for its reason
  pub text_refused_exactly : (r : Refusal) → (judge_text_refusal S text ≡ some r) ↔ TextWrong S text r
  unfolding judge_text_refusal
  text_refused_exactly r = (λ e. to r (tests.0 e), λ w. tests.1 (from r w))
    where
      tests : (judge_text_refusal S text ≡ some r) ↔ Reason (text_fault S part) plan (list_of text) r
      tests = tests_refuse_exactly (text_fault S part) plan (list_of text) r

      to : (r : Refusal) → Reason (text_fault S part) plan (list_of text) r → TextWrong S text r
      to r (first q e) = faulty q ((text_fault_exactly S part q).0 e)
      to r (second q e s) = let h = plan_passes.0 e in astray q h.0 h.1 s

      from : (r : Refusal) → TextWrong S text r → Reason (text_fault S part) plan (list_of text) r
      from r (faulty q b) = first q ((text_fault_exactly S part q).1 b)
      from r (astray q few w s) = second q (plan_passes.1 (few, w)) s

  -- nothing, exactly if the plan's part is sound and the entries are a legal order's
  pub text_passes_exactly : (judge_text_refusal S text ≡ none) ↔ TextPasses S text
  unfolding judge_text_refusal
  text_passes_exactly = (
    λ e. let h = tests.0 e in
        let s = plan_passes.0 h.0 in record { short = s.0; plan = s.1; entries = h.1 },
    λ t. tests.1 (plan_passes.1 (t.short, t.plan), t.entries),
  )
    where
      tests : (judge_text_refusal S text ≡ none) ↔ ((text_fault S part ≡ none) × LegalEntries plan (list_of text))
      tests = tests_pass_exactly (text_fault S part) plan (list_of text)

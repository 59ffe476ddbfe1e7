-- What follows from what `judge` promises, `JudgesAs` (02, request 1): it accepts exactly the legal orders of a plan
-- without a fault, from whatever maker, and so what the verdict hands out; it refuses exactly for a listed reason, and
-- 15 names the place up to which all may follow and at which the list goes wrong or stops.
use Prim.Native.Nat.{ℕ}
use Rattle.std.specs.Prelude.{Result, Ok, Err}
use mathlib.Core.List.{List, map}
use mathlib.Core.Logic.{◌↔◌}
use mathlib.Core.Option.{Option, none, some}
use mathlib.Core.Path.{◌≡◌, refl, sym, ◌∙◌, ap}
use native.Mathlib.Omega.{arith}
use lib.ListN.{length, take, drop, length-map}
use lib.Seq.{take_at}
use Rattle.model.specs.Lists.{over}
use Rattle.model.specs.Answers.{number_of}
use Rattle.model.specs.Line.{Settings, line_number}
use Rattle.model.specs.WellFormed.{WellFormed, fault}
use Rattle.model.specs.Mate.{steps}
use Rattle.model.specs.Legal.{Legal}
use Rattle.model.specs.Entries.{ordering}
use Rattle.model.specs.Judged.{judge_refusal, judged_by, judging}
use Rattle.model.specs.declared.Refusal.{Refusal}
use Rattle.model.specs.declared.Refusal.TheVariants.{IllegalStep}
use Rattle.theory.specs.Judged.{LegalEntries, StrayAt}
use Rattle.theory.proofs.WellFormed.{fault_exactly, no_fault_exactly}
use Rattle.theory.proofs.Judged.{Reason, first, second, tests_refuse_exactly, tests_pass_exactly}
use Rattle.theory.proofs.Printed.{legal_length}
use Rattle.promises.specs.Verdict.{OrdersAs, Ordered}
use Rattle.promises.specs.Judge.{JudgesAs, NotPassed, faulty, astray}
use Rattle.promises.proofs.Tight.{the_judgement}
use Rattle.promises.proofs.Verdict.{entry, not_broken, order_is_legal}
use Rattle.promises.proofs.Outcome as one

-- ---- what is accepted and refused

-- an answer tells what was refused
told_legal : (o : Option Refusal) → judged_by o ≡ (Ok tt) → o ≡ none
unfolding judged_by
told_legal none e = refl
told_legal (some r) e = cc

told_refused : (o : Option Refusal) (r : Refusal) → judged_by o ≡ Err r → o ≡ some r
unfolding judged_by
told_refused none r e = cc
told_refused (some q) r e = cc

module _ (S : Settings) (p es : List ℕ) (a : Result (Unit {0}) Refusal) (m : JudgesAs S p es a) where
  abbrev refusal : Option Refusal
  refusal = judge_refusal S p es

  answer_is : a ≡ judged_by refusal
  unfolding judging
  answer_is = the_judgement S p es a m

  -- accepted are exactly the legal orders of plans without a fault
  pub accepted_exactly : (a ≡ (Ok tt)) ↔ (WellFormed S p × LegalEntries p es)
  unfolding judged_by judge_refusal
  accepted_exactly = (
    λ e. let h = tests.0 (told_legal refusal (sym answer_is ∙ e)) in ((no_fault_exactly S p).0 h.0, h.1),
    λ l. answer_is ∙ ap judged_by (tests.1 ((no_fault_exactly S p).1 l.0, l.1)),
  )
    where
      tests : (refusal ≡ none) ↔ ((fault S p ≡ none) × LegalEntries p es)
      tests = tests_pass_exactly (fault S p) p es

  pub judged_exactly : fault S p ≡ none → (a ≡ (Ok tt)) ↔ LegalEntries p es
  judged_exactly sound =
      (λ e. (accepted_exactly.0 e).1, λ l. accepted_exactly.1 ((no_fault_exactly S p).0 sound, l))

  -- a refusal exactly for its reason
  pub refused_exactly : (r : Refusal) → (a ≡ Err r) ↔ NotPassed S p es r
  unfolding judged_by judge_refusal
  refused_exactly r = (
    λ e. to r (tests.0 (told_refused refusal r (sym answer_is ∙ e))),
    λ n. answer_is ∙ ap judged_by (tests.1 (from r n)),
  )
    where
      tests : (refusal ≡ some r) ↔ Reason (fault S p) p es r
      tests = tests_refuse_exactly (fault S p) p es r

      to : (r : Refusal) → Reason (fault S p) p es r → NotPassed S p es r
      to r (first q e) = faulty q ((fault_exactly S p q).0 e)
      to r (second q e s) = astray q ((no_fault_exactly S p).0 e) s

      from : (r : Refusal) → NotPassed S p es r → Reason (fault S p) p es r
      from r (faulty q b) = first q ((fault_exactly S p q).1 b)
      from r (astray q w s) = second q ((no_fault_exactly S p).1 w) s

  -- 15, exactly at the first entry that goes wrong of a plan without a fault: all before it may follow, one after
  -- another, and it may not, or the list stops there
  pub astray_exactly : (q : ℕ) → (a ≡ Err (IllegalStep q)) ↔ (WellFormed S p × StrayAt p es q)
  astray_exactly q = (
    λ e. to (IllegalStep q) refl ((refused_exactly (IllegalStep q)).0 e),
    λ s. (refused_exactly (IllegalStep q)).1 (astray q s.0 s.1),
  )
    where
      to : (r : Refusal) → r ≡ IllegalStep q → NotPassed S p es r → WellFormed S p × StrayAt p es q
      to r e (faulty s b) = let n = ap number_of e in absurd (not_broken S p s b (omega arith) (omega arith))
      to r e (astray k w s) = let z : k ≡ q = cc in (w, rw (← z) s)

-- ---- orders from here and elsewhere

-- any legal order is accepted, whether or not it is the one that is handed out
pub any_legal : (S : Settings) (p o : List ℕ) → WellFormed S p → Legal p o → (a : Result (Unit {0}) Refusal)
    → JudgesAs S p (map line_number o) a → a ≡ (Ok tt)
any_legal S p o w l a m =
    (accepted_exactly S p (map line_number o) a m).1 (w, record { order = o; numbers = refl; legal = l })

-- what the verdict hands out, one entry a step, is accepted
pub handed_out_lem : (S : Settings) (p lent left : List ℕ) (n : ℕ) → OrdersAs S p lent (Ok n) left
    → (a : Result (Unit {0}) Refusal) → JudgesAs S p (take (length (steps p)) left) a → a ≡ (Ok tt)
unfolding ordering over
handed_out_lem S p lent left n v a m =
    any_legal S p d.order ((one.done_exactly (entry S p lent) (Ok n) left v).0 (n, refl)).0
    d.legal a (rw written at m)
  where
    d : Ordered S p lent n left
    d = order_is_legal S p lent n left v

    numbers : List ℕ
    numbers = map line_number d.order

    written : take (length (steps p)) left ≡ numbers
    written =
        ap (take (length (steps p))) d.written
        ∙ take_at numbers (drop (length numbers) lent) (length (steps p))
        (length-map d.order line_number ∙ legal_length p d.order d.legal)

-- 02, request 1: what is printed for a text fits the room for an answer. The faults of a text have numbers and places
-- of few digits (theory/Printed); a position is at most one past as many entries as the plan has lines, which are at
-- most 1,024.
use Prim.Native.Nat.{ℕ, ◌≤◌}
use mathlib.Core.List.{List, [], ◌∷◌}
use mathlib.Core.Option.{Option, none, some}
use mathlib.Core.Path.{◌≡◌, refl}
use native.Mathlib.Omega.{arith}
use lib.ListN.{length}
use Rattle.model.specs.Answers.{refuse_at, first_refusal}
use Rattle.model.specs.Board.{board}
use Rattle.model.specs.Text.{lines_of, spelt}
use Rattle.model.specs.Entries.{text_fault}
use Rattle.model.specs.Judged.{stray, judged_by, plan_part, entries_of, judge_text_refusal, legal_line, judge_line}
use Rattle.model.specs.Judged.{judge_printed}
use Rattle.model.specs.declared.Refusal.{Refusal}
use Rattle.model.specs.declared.Refusal.TheVariants.{IllegalStep}
use Rattle.fields.specs.Puts.{PutsAs}
use Rattle.fields.proofs.Putting.{moves}
use Rattle.theory.proofs.WellFormed.{no_fault_exactly}
use Rattle.theory.proofs.Judged.{stray_bounds}
use Rattle.theory.proofs.Text.{no_text_fault}
use Rattle.theory.proofs.Printed.{Short, fault_short, refusal_length}

pub answer_fits : (text : List ℕ) → length (judge_printed board text) ≤ 22
unfolding judge_printed judge_text_refusal judged_by judge_line first_refusal refuse_at legal_line
answer_fits text = go (text_fault board plan) refl (fault_short board plan) (stray p es) refl
  where
    plan : List ℕ
    plan = plan_part (lines_of text)

    p : List ℕ
    p = spelt board plan

    es : List ℕ
    es = entries_of (lines_of text)

    go : (x : Option Refusal) → text_fault board plan ≡ x → Short x → (o : Option ℕ) → stray p es ≡ o
        → length (judge_line (judged_by (first_refusal (x ∷ refuse_at IllegalStep o ∷ [])))) ≤ 22
    go (some r) e h o q = omega (arith, refusal_length r (omega arith) (omega arith))
    go none e h none q = omega arith
    go none e h (some k) q =
        let few = ((no_fault_exactly board p).0 ((no_text_fault board plan).0 e).1).few in
        omega (arith, refusal_length (IllegalStep k) (omega arith) (omega (arith, (stray_bounds p es k q).0)))

-- so with that room it is put whole
pub put_within : (text : List ℕ) {lent : List ℕ} {n : ℕ} {left : List ℕ}
    → PutsAs (judge_printed board text) 0 lent n left → 22 ≤ length lent → n ≤ length lent
put_within text x h = omega (arith, answer_fits text, moves x (omega (arith, answer_fits text)))

-- 02, request 1: the answer on a text is that of `model`. The judge's answer on the entries listed is that on the
-- text's; the text's fault decides first, and where it has none the plan read has none, so that 15 alone is left.
use Prim.Native.Nat.{ℕ, ◌≤◌}
use Rattle.std.specs.Prelude.{Result, Ok, Err}
use mathlib.Core.List.{List, [], ◌∷◌}
use mathlib.Core.Path.{◌≡◌, sym, ◌∙◌}
use lib.ListN.{length, take}
use Rattle.model.specs.Answers.{refuse_at, first_refusal}
use Rattle.model.specs.Board.{board}
use Rattle.model.specs.Line.{max_lines}
use Rattle.model.specs.Text.{lines_of, spelt}
use Rattle.model.specs.Entries.{text_fault}
use Rattle.model.specs.Judged.{stray, judge_refusal, judged_by, judging, plan_part, entry_part, entries_of}
use Rattle.model.specs.Judged.{judge_text_refusal}
use Rattle.model.specs.declared.Refusal.{Refusal}
use Rattle.model.specs.declared.Refusal.TheVariants.{IllegalStep}
use Rattle.theory.proofs.Answers.{one_judge_answer}
use Rattle.promises.specs.Text.{ReadsAs}
use Rattle.promises.specs.Judge.{JudgesAs}
use Rattle.promises.proofs.WasRead.{read_fault, no_fault_read, well_formed_read, front_read}
use Rattle.judged.specs.Entered.{entries_in, Gathers}

-- ---- the judge's answer

-- entries that go wrong at the same place have the same answer
same_answer : (p es fs : List ℕ) → stray p es ≡ stray p fs → judging board p es ≡ judging board p fs
unfolding judging judge_refusal
same_answer p es fs e = rw e

pub answer_on_text : (p : List ℕ) → length p ≤ max_lines → {text : List ℕ} {count : ℕ} {left : List ℕ}
    → Gathers text count left → (a : Result (Unit {0}) Refusal) → JudgesAs board p (take count left) a
    → a ≡ judging board p (entries_in text)
answer_on_text p few {text} {count} {left} g a j =
    one_judge_answer a (judging board p (take count left)) j.answers
    ∙ same_answer p (take count left) (entries_in text) (sym (g.same p few))

-- ---- the answer on a text

module _ (text first behind : List ℕ) (x : plan_part (lines_of text) ≡ first)
    (y : entry_part (lines_of text) ≡ lines_of behind) where
  judged_is : judge_text_refusal board text
      ≡ first_refusal
      (text_fault board first ∷ refuse_at IllegalStep (stray (spelt board first) (entries_in behind)) ∷ [])
  unfolding judge_text_refusal entries_of
  judged_is = rw (x, y)

  module _ (lent : List ℕ) {a : Result ℕ Refusal} {left : List ℕ} (m : ReadsAs board first lent a left) where
    -- a fault of the text
    pub judges_fault : length lent ≡ max_lines → (r : Refusal) → a ≡ Err r
        → Err r ≡ judged_by (judge_text_refusal board text)
    unfolding first_refusal judged_by
    judges_fault long r q = rw (judged_is, read_fault board first lent m long r q)

    -- the judge's answer on the plan read
    pub judges_plan : (n : ℕ) → a ≡ Ok n
        → judging board (take n left) (entries_in behind) ≡ judged_by (judge_text_refusal board text)
    unfolding first_refusal judging judge_refusal
    judges_plan n q =
        rw (
          front_read board first lent m q,
          well_formed_read board first lent m q,
          judged_is,
          no_fault_read board first lent m q,
        )

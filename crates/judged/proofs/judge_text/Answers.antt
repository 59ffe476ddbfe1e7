-- `judged::judge_text` meets its contract: the judge's answer on the plan that was read, or the text's fault.
use Rattle.std.proofs.Common.{ℕ, Err, arith, sym, ap, ◌∙◌, length, length-take-le, replicate, ◌≡◌, ◌≤◌}
use Rattle.std.proofs.lemmas.List.{length-replicate}
use Rattle.std.proofs.lemmas.Result.{err_from_is_err_and}
use Rattle.model.specs.Board.{board}
use Rattle.model.specs.Line.{max_lines}
use Rattle.promises.proofs.WasRead.{read_few}
use Rattle.judged.proofs.Answering.{judges_fault, judges_plan}
use Rattle.judged.proofs.judge_text.Goals as goal
use Rattle.judged.proofs.judge_text.Goals.{In_ok-lines}

-- the list that the plan is read into
long : length (replicate {A = ℕ} max_lines 0) ≡ max_lines
long = length-replicate {A = ℕ} max_lines 0

-- the text's fault
pub returns-in_err-lines : goal.returns-in_err-lines
returns-in_err-lines c =
    let p = err_from_is_err_and c.from_residual.result c.from_residual.ensures.1 in
    p.1 ∙ ap Err p.2
    ∙ judges_fault c.args.text.now _ _ (sym c.in_two.ensures.plan) (sym c.in_two.ensures.entries) _ c.read.ensures
    long _ c.in_err-lines.was

few : (c : In_ok-lines) → c.in_ok-lines.field-0 ≤ length c.read.new.plan
few c = omega (arith, read_few board _ _ c.read.ensures c.in_ok-lines.was, c.read.auto.plan, long)

pub slice_bounds-plan-end : goal.slice_bounds-plan-end
slice_bounds-plan-end c = few (goal.at.slice_bounds-plan-end c).In_ok-lines

pub slice_bounds-judge_entries-end : goal.slice_bounds-judge_entries-end
slice_bounds-judge_entries-end c =
    sym (length-take-le _ _ (few (goal.at.slice_bounds-judge_entries-end c).In_ok-lines))

-- the judge's answer
pub returns : goal.returns
returns c =
    c.judge_entries.ensures
    ∙ judges_plan c.args.text.now _ _ (sym c.in_two.ensures.plan) (sym c.in_two.ensures.entries) _ c.read.ensures _
    c.in_ok-lines.was

-- `lines::VerbTable::line_at` meets its contract: where all three fields are read and are a line's, the line stands
-- there; otherwise none does.
use Rattle.std.proofs.Common.{sym, ◌∙◌, lit≤}
use Rattle.model.specs.Board.{board_at}
use Rattle.line.proofs.Ranges.{packed_verb}
use Rattle.lines.proofs.Verbs.{verb_within}
use Rattle.lines.proofs.Lines.{no_job, no_verb, no_operand, no_line, line_there_lem}
use Rattle.lines.proofs.VerbTable.line_at.Goals as goal

-- no job
pub returns-in_err-job : goal.returns-in_err-job
returns-in_err-job c = rw c.from_residual.ensures (no_job _ _ _ (sym c.in_err-job.ensures))

-- no verb
pub returns-in_err-verb : goal.returns-in_err-verb
returns-in_err-verb c =
    rw c.from_residual-in_err-verb.ensures (no_verb _ _ _ _ (sym c.in_ok-job.ensures) (sym c.in_err-verb.ensures))

pub operand_at-requires : goal.operand_at-requires
operand_at-requires c = verb_within _ _ _ (sym c.in_ok-verb.ensures)

-- no operand
pub returns-in_err-operand : goal.returns-in_err-operand
returns-in_err-operand c =
    rw c.from_residual-in_err-operand.ensures
    (no_operand _ _ _ _ _ (sym c.in_ok-job.ensures) (sym c.in_ok-verb.ensures) (sym c.in_err-operand.ensures))

-- none
pub returns-then-not-fits : goal.returns-then-not-fits
returns-then-not-fits c =
    no_line _ _ _
    (record {
      of_job_lem = sym c.in_ok-job.ensures;
      of_verb_lem = sym c.in_ok-verb.ensures;
      of_operand = sym c.in_ok-operand.ensures;
    })
    (sym c.fits.ensures ∙ c.if-not-fits.true)

-- a line
pub returns : goal.returns
returns c =
    let fit = sym c.fits.ensures ∙ c.if-not-fits.false in
    line_there_lem _ _ (board_at c.args.midday)
    (record {
      of_job_lem = sym c.in_ok-job.ensures;
      of_verb_lem = sym c.in_ok-verb.ensures;
      of_operand = sym c.in_ok-operand.ensures;
    })
    (lit≤ tt) fit _
    (c.pack_verb.ensures ∙ packed_verb (board_at c.args.midday) (lit≤ tt) _ _ _ fit)

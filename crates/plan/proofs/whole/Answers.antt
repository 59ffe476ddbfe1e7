-- `plan::whole` meets its contract, by the laws of `Scans`.
use Rattle.std.proofs.Common.{refl}
use Rattle.model.specs.Board.{board_at}
use Rattle.plan.proofs.Answers.{passed_up}
use Rattle.plan.proofs.Scans.{at_a_line, past_the_lines}
use Rattle.plan.proofs.whole.Goals as goal

pub returns-in_err-walk : goal.returns-in_err-walk
returns-in_err-walk g c =
    let r = c.in_err-walk.field-0.0 in
    rw (passed_up c.from_residual.result r c.from_residual.ensures.1)
    (at_a_line _ (board_at c.args.midday) c.args.plan.now _ r c.in_err-walk.ensures.walked)

pub returns : goal.returns
returns g c =
    past_the_lines _ (board_at c.args.midday) c.args.plan.now _ c.ends.result c.in_ok-walk.ensures.walked
    (λ t. c.in_ok-walk.ensures.noted t refl) c.ends.ensures

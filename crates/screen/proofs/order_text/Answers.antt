-- `screen::order_text` meets its contract: an order; why there is none; or the text's fault.
use Rattle.std.proofs.Common.{Err, ap, ◌∙◌, arith}
use Rattle.std.proofs.lemmas.Result.{err_from_is_err_and}
use Rattle.model.specs.Board.{board}
use Rattle.promises.proofs.WasRead.{read_few}
use Rattle.screen.proofs.Screened.{finds_fault, finds_why, finds_order}
use Rattle.screen.proofs.order_text.Goals as goal

-- the text's fault
pub returns-in_err-lines : goal.returns-in_err-lines
returns-in_err-lines c =
    let p = err_from_is_err_and c.from_residual.result c.from_residual.ensures.1 in
    rw (p.1 ∙ ap Err p.2)
    (finds_fault c.args.text.now c.args.plan.now c.args.order.now (omega arith, omega arith) c.read.ensures
    c.in_err-lines.was)

pub shared_ref_as_front-verdict : goal.shared_ref_as_front-verdict
shared_ref_as_front-verdict c = read_few board _ _ c.read.ensures c.in_ok-lines.was

-- no order
pub returns-in_err-held : goal.returns-in_err-held
returns-in_err-held c =
    let p = err_from_is_err_and c.from_residual-in_err-held.result c.from_residual-in_err-held.ensures.1 in
    rw (p.1 ∙ ap Err p.2)
    (finds_why c.args.text.now c.args.plan.now c.args.order.now (omega arith, omega arith) c.read.ensures
    c.in_ok-lines.was c.verdict.ensures c.in_err-held.was)

-- an order
pub returns : goal.returns
returns c =
    finds_order c.args.text.now c.args.plan.now c.args.order.now (omega arith, omega arith) c.read.ensures
    c.in_ok-lines.was c.verdict.ensures c.in_ok-held.was

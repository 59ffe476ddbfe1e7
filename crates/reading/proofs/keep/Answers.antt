-- `reading::keep` meets its contract: the fault of the plan, 11, or the plan in the lent list.
use Rattle.model.specs.Board.{board}
use Rattle.model.specs.Lists.{over}
use Rattle.plan.proofs.Answers.{told, untold, passed_up}
use Rattle.reading.proofs.Outcomes.{keeps_fault, keeps_short, keeps_all}
use Rattle.reading.proofs.keep.Goals as goal

-- 2 to 7
pub returns-in_err-fault : goal.returns-in_err-fault
returns-in_err-fault c =
    rw (passed_up _ _ c.from_residual.ensures.1) (keeps_fault board _ _ _ (told _ _ c.in_err-fault.ensures))

-- 11
pub returns-then-plan-n : goal.returns-then-plan-n
returns-then-plan-n c = keeps_short board _ _ (untold _ c.in_ok-fault.ensures) c.if-plan-n.true

-- the plan
pub returns : goal.returns
unfolding over
returns c =
    keeps_all board _ _ (untold _ c.in_ok-fault.ensures) _ c.if-plan-n.false (rw c.copy_from_slice.ensures.after)

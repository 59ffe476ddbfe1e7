use Rattle.std.proofs.Common.{sym, ◌∙◌, arith}
use Rattle.model.specs.Board.{board}
use Rattle.model.specs.WellFormed.{fault}
use Rattle.theory.proofs.WellFormed.{no_fault_exactly}
use Rattle.plan.proofs.Answers.{untold}
use Rattle.kept.proofs.no_room.Goals as goal

pub overflow_cast-result : goal.overflow_cast-result
overflow_cast-result c =
    let p = c.args.plan.now in
    let f = untold (fault board p) (sym c.in_default.is ∙ c.fault.ensures) in
    omega (arith, ((no_fault_exactly board p).0 f).few)

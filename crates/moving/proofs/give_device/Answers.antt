-- Past the plan's end nothing is written.
use Rattle.std.proofs.Common.{sym}
use Rattle.std.proofs.Math.Seq.{set_out}
use Rattle.model.specs.Move.{with_device}
use Rattle.moving.proofs.give_device.Goals as goal

pub returns-else-i-plan : goal.returns-else-i-plan
unfolding with_device
returns-else-i-plan c = sym (set_out c.args.plan.now c.args.i _ c.if-i-plan.false)

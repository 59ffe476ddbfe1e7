use Rattle.std.proofs.Common.{sym, ◌∙◌}
use Rattle.verdict.proofs.Steps.{stands_is}
use Rattle.verdict.proofs.order.Known.lasting_after.Goals as goal

pub returns : goal.returns
returns c =
    let k = c.args.self.now in
    c.then_some.ensures
    ∙ stands_is k.plan.now k.lasting.now c.args.i c.in_ok-next.next k.sound k.marks
    (sym c.follower.ensures.value ∙ c.in_ok-next.was)

use Rattle.std.proofs.Common.{sym, ◌∙◌}
use Rattle.verdict.proofs.Steps.{goes_is}
use Rattle.verdict.proofs.order.Known.goes_on.Goals as goal

pub returns : goal.returns
returns c =
    let k = c.args.self.now in
    c.then_some.ensures
    ∙ goes_is k.plan.now k.lasting.now c.args.i c.in_ok-next.next k.sound k.marks
    (sym c.follower.ensures.value ∙ c.in_ok-next.was)

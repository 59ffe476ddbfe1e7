-- The first i lines are counted.
use Rattle.std.proofs.Common.{◌≡◌}
use Rattle.verdict.specs.Waiting.{tallied}
use Rattle.verdict.proofs.order.Known.tally.Given as goal

abbrev pub invariant-loop-i : goal.invariant-loop-i
invariant-loop-i l = l.counts ≡ tallied l.self.plan.now l.i

-- The devices below d are through.
use Rattle.std.proofs.Common.{◌≡◌}
use Rattle.verdict.specs.Waiting.{scarce_below}
use Rattle.verdict.proofs.order.scarce.Given as goal

abbrev pub invariant-loop-d : goal.invariant-loop-d
invariant-loop-d l = l.s ≡ scarce_below l.counts l.d

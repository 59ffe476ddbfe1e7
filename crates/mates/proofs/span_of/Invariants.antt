-- The whole search is the search from the present position and depth, by the laws of `Mates`.
use Rattle.std.specs.Prelude.{◌+◌}
use Rattle.mates.proofs.Mates.{Sought}
use Rattle.mates.proofs.span_of.Given as goal

abbrev pub invariant-loop-past : goal.invariant-loop-past
invariant-loop-past l = Sought l.plan l.i l.j l.depth (l.i + 1 + l.past)

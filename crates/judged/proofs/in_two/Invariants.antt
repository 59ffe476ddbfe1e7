-- The lines passed are the plan's, and what is left to be cut decides.
use Rattle.std.specs.Slice.Iter.{split_inclusive_rest}
use Rattle.judged.proofs.Parting.{Planned}
use Rattle.judged.proofs.in_two.Given as goal

abbrev pub invariant-loop-line : goal.invariant-loop-line
invariant-loop-line l = Planned l.text l.end (split_inclusive_rest l.line-iterator)

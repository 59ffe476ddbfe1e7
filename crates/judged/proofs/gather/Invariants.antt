-- The entries listed so far and those still in the text go wrong where all do.
use Rattle.judged.proofs.Entering.{Listed}
use Rattle.judged.proofs.gather.Given as goal

abbrev pub invariant-loop-n : goal.invariant-loop-n
invariant-loop-n l = Listed l.text l.at l.n l.entries

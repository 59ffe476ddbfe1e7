-- With `k` entries passed, the state tells of their lines, and the whole answer is that of the entries left.
use Rattle.legal.proofs.Loop.{Following}
use Rattle.legal.proofs.legal_steps.Given as goal

abbrev pub invariant-loop-k : goal.invariant-loop-k
invariant-loop-k l = Following l.plan l.notes.first l.order l.state.next l.state.held l.k

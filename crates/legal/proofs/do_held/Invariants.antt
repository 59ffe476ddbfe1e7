-- With the lines before `i` looked at, the held ones of them are done.
use Rattle.legal.proofs.Begins.{Doing}
use Rattle.legal.proofs.do_held.Given as goal

abbrev pub invariant-loop-i : goal.invariant-loop-i
invariant-loop-i l = Doing l.plan l.state.next l.steps l.state.held l.i

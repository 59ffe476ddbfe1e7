-- What is found so far is that of the lines from line i on.
use Rattle.rows.proofs.Walked.{Walked}
use Rattle.rows.proofs.walk_back.Given as goal

abbrev pub invariant-loop-i : goal.invariant-loop-i
invariant-loop-i l = Walked l.plan l.initial.table l.rows l.lasting l.table l.claimed l.passed l.i

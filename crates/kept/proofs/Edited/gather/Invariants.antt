-- What is gathered so far is that of the lines from line i on.
use Rattle.kept.proofs.Gathering.{Gathered}
use Rattle.kept.proofs.Edited.gather.Given as goal

abbrev pub invariant-loop-i : goal.invariant-loop-i
invariant-loop-i l = Gathered l.self.plan.now l.self.sets.now l.rows l.lasting l.passed l.behind l.i

abbrev pub decreases-loop-i : goal.decreases-loop-i
decreases-loop-i l = l.i

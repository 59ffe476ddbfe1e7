-- What the job holds is what it holds before the lines that are left, going back.
use Rattle.moving.proofs.Holding.{Back}
use Rattle.moving.proofs.job_holds.Given as goal

abbrev pub invariant-loop-k : goal.invariant-loop-k
invariant-loop-k l = Back l.plan l.i l.device l.k

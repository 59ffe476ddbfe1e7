-- The sets written so far are the end of the table, and what each job claims is at hand.
use Rattle.claims.proofs.Written.{Done}
use Rattle.claims.proofs.fill.Given as goal

abbrev pub invariant-loop-i : goal.invariant-loop-i
invariant-loop-i l = Done l.plan l.initial.sets l.sets l.claimed l.i

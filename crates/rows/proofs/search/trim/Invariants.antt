-- The work is done when a look takes nothing away, or nothing is left.
use Rattle.std.proofs.Common.{◌+◌, ◌*◌, cond, eqb}
use Rattle.rows.proofs.TakenAway.{Taking}
use Rattle.rows.proofs.search.trim.Given as goal

abbrev pub invariant-loop-stays : goal.invariant-loop-stays
invariant-loop-stays l = Taking l.rows l.left l.stays l.before

abbrev pub decreases-loop-stays : goal.decreases-loop-stays
decreases-loop-stays l = 2 * l.stays + cond (eqb l.stays l.before) 0 1

-- The rows of what is done lead to what is reached.
use Rattle.std.proofs.Common.{◌-◌, ◌^◌, length}
use Rattle.rows.proofs.Reaching.{Following}
use Rattle.rows.proofs.search.ahead.Given as goal

abbrev pub invariant-loop-reached : goal.invariant-loop-reached
invariant-loop-reached l = Following l.rows l.within l.from l.reached l.done

abbrev pub decreases-loop-reached : goal.decreases-loop-reached
decreases-loop-reached l = 2 ^ length l.rows - l.done

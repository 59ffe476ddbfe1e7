-- The set is whole when a look finds nothing new, or nothing else can be.
use Rattle.std.proofs.Common.{◌+◌, ◌-◌, ◌*◌, ◌^◌, cond, eqb, length}
use Rattle.rows.proofs.Reaching.{Gathering}
use Rattle.rows.proofs.search.behind.Given as goal

abbrev pub invariant-loop-lead : goal.invariant-loop-lead
invariant-loop-lead l = Gathering l.rows l.within l.these l.lead l.before

abbrev pub decreases-loop-lead : goal.decreases-loop-lead
decreases-loop-lead l = 2 * (2 ^ length l.rows - l.lead) + cond (eqb l.lead l.before) 0 1

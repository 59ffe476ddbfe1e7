-- What the walk passed leads to where it is, until that was passed before.
use Rattle.rows.proofs.CameBack.{Walking}
use Rattle.rows.proofs.search.walk.Given as goal

abbrev pub invariant-loop-rest : goal.invariant-loop-rest
invariant-loop-rest l = Walking l.rows l.left l.at l.rest

abbrev pub decreases-loop-rest : goal.decreases-loop-rest
decreases-loop-rest l = l.rest

-- Each turn takes one line off what is left of the way.
use Rattle.way.specs.Back.{way_by}
use Rattle.way.specs.Way.{lines_left}
use Rattle.way.proofs.Walks.{Mending}
use Rattle.way.proofs.mend_way.Given as goal

abbrev pub invariant-loop-k : goal.invariant-loop-k
invariant-loop-k l =
    Mending l.plan l.tables.again.now l.tables.first.now l.fn.sets (way_by l.plan l.fn.sets l.tables.starter.now l.i)
    l.sets l.count (lines_left l.k-iterator)

-- `fields::number_at` meets its contract: the field ends, a byte more is read or ends the search, or the text ends.
use Rattle.std.proofs.Common.{arith}
use Rattle.std.proofs.lemmas.Grind.{common_steps}
use Rattle.fields.proofs.Reading.{none_read, no_end, ended, stopped, read_on}
use Rattle.fields.proofs.number_at.Goals as goal

pub loop-at-init : goal.loop-at-init
loop-at-init c = none_read _ _ _ _

pub returns-then-b-end : goal.returns-then-b-end
returns-then-b-end c =
    let e = ended c.loop-at.invariant c.loop-at-test.true c.if-b-end.true in grind (arith, common_steps)

pub returns-in_err-longer : goal.returns-in_err-longer
returns-in_err-longer c =
    rw c.from_residual.ensures
    (stopped c.loop-at.invariant c.loop-at-test.true c.if-b-end.false c.in_err-longer.ensures)

pub loop-at-preserved : goal.loop-at-preserved
loop-at-preserved c =
    read_on c.loop-at.invariant c.loop-at-test.true c.if-b-end.false _ c.in_ok-longer.ensures

pub returns : goal.returns
returns c = no_end c.loop-at.invariant c.loop-at-test.false

-- `screen::put_order` meets its contract: the first line, and behind it the numbers so far.
use Rattle.model.specs.Printed.{order_word}
use Rattle.screen.proofs.Shown.{listed_none, listed_more, order_shown}
use Rattle.screen.proofs.put_order.Goals as goal

pub loop-line-init : goal.loop-line-init
loop-line-init c = listed_none _ _ _

pub loop-line-preserved : goal.loop-line-preserved
loop-line-preserved c =
    listed_more _ c.loop-line.line-index c.loop-line-test.true c.loop-line.invariant
    (rw c.from.ensures at c.put_field-at.ensures)

pub returns : goal.returns
unfolding order_word
returns c =
    order_shown _ c.loop-line.line-index _ c.loop-line-test.false c.put_word-word.ensures c.put_values-at.ensures
    c.loop-line.invariant

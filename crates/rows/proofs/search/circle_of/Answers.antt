use Rattle.std.proofs.Common.{sym, ◌∙◌}
use Rattle.model.specs.Board.{devices}
use Rattle.rows.proofs.Looked.{on_board_lem}
use Rattle.rows.proofs.OnCircle.{circle_passed, circle_behind}
use Rattle.rows.proofs.search.circle_of.Goals as goal

pub ahead-led-requires : goal.ahead-led-requires
ahead-led-requires c =
    let a = c.args in
    on_board_lem devices a.left a.walked.at c.ranges.left.fits c.requires.again

-- nothing else was reached
pub returns-then-both-eq-NONE : goal.returns-then-both-eq-NONE
returns-then-both-eq-NONE c =
    let a = c.args in
    let r = c.requires in
    let led = c.ahead-led in
    circle_passed a.rows.now a.left a.walked r.ended r.again r.whole led.result led.ensures
    (sym c.both.ensures ∙ c.if-both-eq-NONE.true)

pub ahead-requires : goal.ahead-requires
ahead-requires c =
    let a = c.args in
    on_board_lem devices a.left a.walked.at c.ranges.left.fits c.requires.again

-- something was
pub returns : goal.returns
returns c =
    let a = c.args in
    let r = c.requires in
    circle_behind a.rows.now a.left a.walked r.ended r.again r.whole c.behind-lead.result
    (rw c.without.ensures at c.behind-lead.ensures) c.ahead.result c.ahead.ensures

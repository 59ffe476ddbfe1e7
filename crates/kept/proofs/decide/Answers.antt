use Rattle.std.proofs.Common.{◌∙◌, ap}
use Rattle.model.specs.Board.{devices}
use Rattle.model.specs.Sets.{lowest_of}
use Rattle.rows.specs.Where.{circles_of}
use Rattle.kept.proofs.Deciding.{rows_short, twice_lasting, in_circle, not_refused}
use Rattle.kept.proofs.decide.Goals as goal

-- 11
pub returns-in_default : goal.returns-in_default
returns-in_default c = rows_short c.args.rows.now c.args.holds.held c.args.holds.twice c.in_default.ensures.cases

-- 9
pub returns-then-d-lt-DEVICES : goal.returns-then-d-lt-DEVICES
returns-then-d-lt-DEVICES c =
    let h = c.args.holds in
    twice_lasting c.args.rows.now h.held h.twice c.in-Some.ensures.cases.enough c.lowest-d.ensures
    c.if-d-lt-DEVICES.true

-- 10
pub returns-then-e-lt-DEVICES : goal.returns-then-e-lt-DEVICES
returns-then-e-lt-DEVICES c =
    let h = c.args.holds in
    let first = c.in-Some.ensures.cases in
    in_circle c.args.rows.now h.held h.twice first.enough c.lowest-d.ensures c.if-d-lt-DEVICES.false
    (c.lowest-e.ensures ∙ ap (lowest_of devices) (c.circles.ensures ∙ ap circles_of first.same)) c.if-e-lt-DEVICES.true

-- neither
pub returns : goal.returns
returns c =
    let h = c.args.holds in
    let first = c.in-Some.ensures.cases in
    not_refused c.args.rows.now h.held h.twice first.enough c.lowest-d.ensures c.if-d-lt-DEVICES.false
    (c.lowest-e.ensures ∙ ap (lowest_of devices) (c.circles.ensures ∙ ap circles_of first.same))
    c.if-e-lt-DEVICES.false c.count.ensures

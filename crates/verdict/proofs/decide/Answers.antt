use Rattle.std.proofs.Common.{◌∙◌, ap}
use Rattle.model.specs.Board.{devices}
use Rattle.model.specs.Sets.{lowest_of}
use Rattle.verdict.proofs.Findings.{two_lasting_lem, leads_back_lem, has_order, count_held}
use Rattle.verdict.proofs.Outcome.{short, without_order, ordered}
use Rattle.verdict.proofs.Steps.{sound_of}
use Rattle.verdict.proofs.decide.Goals as goal

-- 11
pub returns-then-order-n : goal.returns-then-order-n
returns-then-order-n c =
    let k = c.args.known.now in short k.plan.now c.args.order.now (sound_of k.plan.now k.sound) c.if-order-n.true

-- 9
pub returns-then-d-lt-DEVICES : goal.returns-then-d-lt-DEVICES
returns-then-d-lt-DEVICES c =
    let k = c.args.known.now in
    without_order k.plan.now c.args.order.now (sound_of k.plan.now k.sound) c.if-order-n.false _
    (two_lasting_lem k.sound c.requires c.lowest-d.ensures c.if-d-lt-DEVICES.true)

-- 10
pub returns-then-e-lt-DEVICES : goal.returns-then-e-lt-DEVICES
returns-then-e-lt-DEVICES c =
    let k = c.args.known.now in
    without_order k.plan.now c.args.order.now (sound_of k.plan.now k.sound) c.if-order-n.false _
    (leads_back_lem k.sound c.requires c.lowest-d.ensures c.if-d-lt-DEVICES.false
    (c.lowest-e.ensures ∙ ap (lowest_of devices) c.circles.ensures) c.if-e-lt-DEVICES.true)

-- neither
pub hand_out-requires-clause-orderly : goal.hand_out-requires-clause-orderly
hand_out-requires-clause-orderly c =
    has_order c.args.known.now.sound c.requires c.lowest-d.ensures c.if-d-lt-DEVICES.false
    (c.lowest-e.ensures ∙ ap (lowest_of devices) c.circles.ensures) c.if-e-lt-DEVICES.false

pub returns : goal.returns
returns c =
    let k = c.args.known.now in
    let fine = has_order k.sound c.requires c.lowest-d.ensures c.if-d-lt-DEVICES.false
    (c.lowest-e.ensures ∙ ap (lowest_of devices) c.circles.ensures) c.if-e-lt-DEVICES.false in
    ordered k.plan.now c.args.order.now (sound_of k.plan.now k.sound) c.if-order-n.false c.count.result _ fine
    (c.count.ensures ∙ count_held k.sound c.requires fine) c.hand_out.ensures

-- Which test refuses, or what the last one answers.
use Rattle.std.proofs.Common.{◌-◌, ℕ, sym, ap, ◌∙◌}
use Rattle.model.specs.Answers.{first_refusal}
use Rattle.model.specs.Board.{devices}
use Rattle.model.specs.Move.{asked_at}
use Rattle.mates.specs.Span.{span_of}
use Rattle.moving.specs.Tested.{tested_by, last_tests}
use Rattle.moving.proofs.Refusing.{too_short_lem, not_a_take_lem, no_device_lem, last_left, asked_position, take_asked}
use Rattle.moving.proofs.asked.Goals as goal

pub returns-then-sets-n : goal.returns-then-sets-n
returns-then-sets-n c =
    let a = c.args in too_short_lem devices a.plan.now a.sets.now a.line a.device _ c.if-sets-n.true

pub returns-in_default : goal.returns-in_default
returns-in_default c =
    let a = c.args in
    not_a_take_lem devices a.plan.now a.sets.now a.line a.device _ c.if-sets-n.false c.in_default.ensures

pub returns-then-device-ge-DEVICES : goal.returns-then-device-ge-DEVICES
returns-then-device-ge-DEVICES c =
    let a = c.args in
    no_device_lem devices a.plan.now a.sets.now a.line a.device _ c.if-sets-n.false c.in-Some.ensures.0
    c.if-device-ge-DEVICES.true

pub fresh-requires : goal.fresh-requires
fresh-requires c =
    let a = c.args in
    rw c.in-Some.ensures.1 (
      (take_asked a.plan.now a.line a.device c.requires.well_formed c.in-Some.ensures.0
          c.if-device-ge-DEVICES.false).line,
      record { scan = c.requires; room = c.if-sets-n.false },
    )

pub returns : goal.returns
returns c =
    let a = c.args in
    let take = c.in-Some.ensures in
    last_left devices a.plan.now a.sets.now a.line a.device (span_of a.plan.now (asked_at a.line)) c.if-sets-n.false
    take.0 c.if-device-ge-DEVICES.false _
    (c.fresh.ensures
    ∙ rw take.1
    (ap (λ (x : ℕ). tested_by (first_refusal (last_tests a.plan.now a.sets.now (a.line - 1))) (span_of a.plan.now x))
    (sym (asked_position a.plan.now a.line take.0).1)))

use Rattle.std.proofs.Common.{◌≡◌, ℕ, ◌<◌, length, Some, length-take, refl, arith}
use Rattle.model.specs.Sets.{empty}
use Rattle.verdict.specs.Waiting.{idle, goes_after}
use Rattle.verdict.proofs.Loop.{hands_first, a_place, a_line_lem, falls, hands_on, all_handed}
use Rattle.verdict.proofs.order.Known.hand_out.Goals as goal

pub loop-number-init : goal.loop-number-init
unfolding idle empty goes_after
loop-number-init c =
    let k = c.args.self.now in (
      λ i e. cc,
      hands_first k.sound c.requires.orderly
          (omega (arith, length-take (length k.plan.now) c.args.order.now, c.requires.room))
          (rw (c.scarce-standing.ensures, c.tally.ensures)) refl c.tally.ensures,
    )

pub goes_on_after-requires : goal.goes_on_after-requires
goes_on_after-requires c = c.loop-number.invariant.0

pub goes_next-i-requires : goal.goes_next-i-requires
goes_next-i-requires c =
    rw c.goes_on_after.ensures
    (a_place c.loop-number.invariant.1 c.loop-number-test.true)

-- the line is one of the plan's, so its number is small
in_plan : (c : goal.After-goes_next-i) → c.goes_next-i.result < length c.args.self.now.plan.now
in_plan c =
    let n = c.goes_next-i.ensures in
    a_line_lem c.loop-number.invariant.1 c.loop-number-test.true
    (rw c.goes_on_after.ensures at n.line) (rw c.goes_on_after.ensures at n.waiting_after)

pub overflow_add-number : goal.overflow_add-number
overflow_add-number c = omega (arith, in_plan c, c.args.self.now.few)

pub overflow_cast-number : goal.overflow_cast-number
overflow_cast-number c = omega (arith, in_plan c, c.args.self.now.few)

pub pass-requires-clause-in_plan : goal.pass-requires-clause-in_plan
pass-requires-clause-in_plan c =
    let n = c.goes_next-i.ensures in
    a_line_lem c.loop-number.invariant.1 c.loop-number-test.true
    (rw c.goes_on_after.ensures at n.line) (rw c.goes_on_after.ensures at n.waiting_after)

pub pass-requires-clause-can_fall : goal.pass-requires-clause-can_fall
pass-requires-clause-can_fall c =
    let n = c.goes_next-i.ensures in
    rw n.counts_after
    (falls c.loop-number.invariant.1 c.loop-number-test.true
    (rw c.goes_on_after.ensures at n.line) (rw c.goes_on_after.ensures at n.waiting_after))

-- a value is the one that is held
held_is : (x y : ℕ) → Some x ≡ Some y → y ≡ x
held_is x y e = cc

pub loop-number-preserved : goal.loop-number-preserved
unfolding goes_after
loop-number-preserved c =
    let n = c.goes_next-i.ensures in
    let p = c.pass.ensures in
    let line = rw c.goes_on_after.ensures at n.line in
    let others = rw c.goes_on_after.ensures at n.waiting_after in (
      λ i e. rw (held_is _ i e) (a_line_lem c.loop-number.invariant.1 c.loop-number-test.true line others),
      hands_on c.loop-number.invariant.1 c.loop-number-test.true line others
          (rw n.counts_after at p.waiting_after) (rw n.places_after at p.places_after)
          (rw n.counts_after at p.counts_after) refl,
    )

pub returns : goal.returns
returns c =
    let p = c.args.self.now.plan.now in
    all_handed p c.args.order.now c.loop-number.invariant.1
    (omega (arith, length-take (length p) c.args.order.now, c.requires.room, c.loop-number-test.false))

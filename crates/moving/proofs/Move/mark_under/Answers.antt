-- The flag of the line at hand, by the laws of `Marking`.
use Rattle.std.proofs.Common.{ap, ◌≡◌, ◌&&◌, ◌<◌, ℕ, List, not, eqb, length, get_or, sym, ◌∙◌, arith}
use Rattle.model.specs.Line.{operand, at, max_lines}
use Rattle.model.specs.Mate.{device_at}
use Rattle.theory.specs.Outer.{again_at}
use Rattle.theory.proofs.Line.{take_no_held, own_device}
use Rattle.mates.specs.Span.{span_of, stop_of}
use Rattle.plan.specs.Again.{again_flags}
use Rattle.plan.proofs.Again.{again_is}
use Rattle.moving.specs.Tested.{Take}
use Rattle.moving.proofs.Marking.{span_is, marks_start, marks_on, none_below, few}
use Rattle.moving.proofs.Move.mark_under.Goals as goal
use Rattle.moving.proofs.Move.mark_under.Goals.{In-loop-k}

-- what tells that the old device is counted, as the code works it out
fresh_is : (p again : List ℕ) (i device old : ℕ) → again ≡ again_flags p → i < max_lines → old ≡ device_at p i
    → (not (eqb (get_or again i 0) 1) && not (eqb old device))
    ≡ (not (again_at p i) && not (eqb (device_at p i) device))
fresh_is p again i device old e h o = rw (o, again_is p again i e h)

-- the operand of a take is its device
old_is : (p : List ℕ) (i device old : ℕ) → Take p i device → old ≡ operand (at p i) → old ≡ device_at p i
unfolding device_at
old_is p i device old t e = e ∙ sym (own_device (at p i) (take_no_held (at p i) t.takes))

-- the line at hand is under the take
under : (c : In-loop-k) → c.loop-k.k < stop_of (span_of c.args.plan.now c.args.self.at)
under c = rw (c.stop-k-end.ensures ∙ ap stop_of c.requires.0.spans) at c.loop-k-test.true

inside : (c : In-loop-k) → (c.loop-k.k < length c.args.plan.now) × (c.loop-k.k < max_lines)
inside c =
    let z = (span_is c.args.plan.now c.args.self.at c.args.self.device c.requires.0.take).high in
    (omega (arith, under c, z), omega (arith, under c, z, c.requires.0.take.line.well_formed.few))

pub loop-k-init : goal.loop-k-init
loop-k-init c t = marks_start c.args.plan.now c.args.self.at c.args.self.device t _ c.args.again.now c.requires.1

pub offset_bounds-plan-k : goal.offset_bounds-plan-k
offset_bounds-plan-k c = record { fits = omega (arith, (inside c).1) }

pub bounds-plan-k : goal.bounds-plan-k
bounds-plan-k c = (inside (goal.at.bounds-plan-k c).In-loop-k).0

pub bounds-again-k : goal.bounds-again-k
bounds-again-k c = (inside (goal.at.bounds-again-k c).In-loop-k).1

pub bounds-again-k-in-loop-k : goal.bounds-again-k-in-loop-k
bounds-again-k-in-loop-k c = (inside (goal.at.bounds-again-k-in-loop-k c).In-loop-k).1

pub open_after-deep-requires : goal.open_after-deep-requires
open_after-deep-requires c =
    let a = c.args in
    let l = c.loop-k in
    let m = l.invariant c.requires.0.take in
    let o = c.operand-old in
    let here = under (goal.at.open_after-deep-requires c).In-loop-k in (
      few a.plan.now a.self.at a.self.device c.requires.0.take _ l.again l.deep l.k m here,
      none_below a.plan.now a.self.at a.self.device c.requires.0.take _ l.again l.deep l.k m here o.result
          (old_is a.plan.now a.self.at a.self.device _ c.requires.0.take o.ensures),
    )

pub loop-k-preserved : goal.loop-k-preserved
loop-k-preserved c t =
    let a = c.args in
    let l = c.loop-k in
    let o = c.operand-old in
    let old = old_is a.plan.now a.self.at a.self.device _ t o.ensures in
    rw c.from.ensures
    (marks_on a.plan.now a.self.at a.self.device t _ l.again l.deep l.k (l.invariant t)
    (under (goal.at.loop-k-preserved c).In-loop-k)
    (fresh_is a.plan.now a.again.now a.self.at a.self.device _ c.requires.1
    (omega (arith, t.line.in_plan, t.line.well_formed.few)) old)
    o.result old c.again_after-marked.result c.again_after-marked.ensures c.open_after-deep.result
    c.open_after-deep.ensures)

pub returns : goal.returns
returns c =
    let l = c.loop-k in
    let m = l.invariant c.requires.0.take in
    let end = ap stop_of c.requires.0.spans in
    let z : l.k ≡ stop_of c.args.self.span = omega (arith, m.high, end, c.stop-k-end.ensures, c.loop-k-test.false) in
    rw z at m.marked

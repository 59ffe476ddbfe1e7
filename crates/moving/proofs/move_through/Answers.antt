-- Refused, or moved.
use Rattle.std.proofs.Common.{◌≡◌, false, ap, ◌∙◌}
use mathlib.Core.Option.{none}
use Rattle.model.specs.Move.{asked_at, move_refusal}
use Rattle.model.specs.Board.{board}
use Rattle.mates.specs.Span.{span_of, stop_of}
use Rattle.plan.proofs.Answers.{passed_up}
use Rattle.moving.proofs.Answers.{told_refused, told_passes}
use Rattle.moving.proofs.Refusing.{Passes, passes}
use Rattle.moving.proofs.Outcome.{through_refused, by_scan, through_moved}
use Rattle.moving.proofs.move_through.Goals as goal
use Rattle.moving.proofs.move_through.Goals.{In_ok-span}

pub returns-in_err-span : goal.returns-in_err-span
returns-in_err-span c =
    let a = c.args in
    let r = c.in_err-span.field-0.0 in
    let t = c.in_err-span.ensures in
    rw (passed_up c.from_residual.result r c.from_residual.ensures.1)
    (through_refused false a.plan.now a.sets.now a.line a.device a.notes.now _ t.firsts t.starts t.agains t.holds r
    (told_refused _ _ r t.answers))

-- what is known where no test refuses
told : (c : In_ok-span)
    → let a = c.args in
    (move_refusal board a.plan.now a.sets.now a.line a.device ≡ none)
    × (c.in_ok-span.span ≡ span_of a.plan.now (asked_at a.line))
told c =
    let a = c.args in
    told_passes (move_refusal board a.plan.now a.sets.now a.line a.device) (span_of a.plan.now (asked_at a.line)) _
    c.in_ok-span.ensures.answers

known : (c : In_ok-span) → let a = c.args in Passes false a.plan.now a.sets.now a.line a.device
known c = let a = c.args in passes false a.plan.now a.sets.now a.line a.device (told c).0

pub overflow_sub-at : goal.overflow_sub-at
overflow_sub-at c = (known c).positive

pub rewrite-changed-requires : goal.rewrite-changed-requires
rewrite-changed-requires c =
    let a = c.args in
    let t = c.in_ok-span.ensures in
    let d = (goal.at.rewrite-changed-requires c).In_ok-span in (
      record { take = (known d).asked; spans = (told d).1 ∙ ap (span_of a.plan.now) (known d).position },
      (by_scan false a.plan.now a.sets.now a.line a.device a.notes.now _ t.firsts t.starts t.agains t.holds
          (told d).0).agains,
    )

pub returns : goal.returns
returns c =
    let a = c.args in
    let t = c.in_ok-span.ensures in
    let d = told (goal.at.returns c).In_ok-span in
    through_moved false a.plan.now a.sets.now a.line a.device a.notes.now _ t.firsts t.starts t.agains t.holds d.0 _ _ _
    _ _ (c.stop.ensures ∙ ap stop_of d.1) c.rewrite-changed.ensures

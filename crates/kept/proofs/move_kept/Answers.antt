use Rattle.std.proofs.Common.{false, sym, ◌∙◌, ltb-false, lt-ltb, eqb-true, length, arith}
use borrow.Author.Tests.{eqb-false}
use Rattle.std.proofs.lemmas.Result.{err_from_is_err_and}
use Rattle.model.specs.Board.{board}
use Rattle.theory.proofs.WellFormed.{no_fault_exactly}
use Rattle.promises.specs.Kept.{beside}
use Rattle.promises.proofs.Kept.{met_as_building, met_refused}
use Rattle.moving.proofs.Outcome.{plainly_refused}
use Rattle.kept.proofs.Building.{no_room}
use Rattle.kept.proofs.Gathering.{sound_is}
use Rattle.kept.proofs.Outcome.{stop_past, is_edited, may_skip, moves_kept}
use Rattle.kept.proofs.move_kept.Goals as goal
use Rattle.kept.proofs.move_kept.Goals.{then-rows-lt-EACH_DEVICE-via-then-rows-lt-EACH_DEVICE}
use Rattle.kept.proofs.move_kept.Goals.{then-rows-lt-EACH_DEVICE-via-else-rows-lt-EACH_DEVICE+then-is_empty}

-- 2 to 7, and 11
pub returns-then-rows-lt-EACH_DEVICE : goal.returns-then-rows-lt-EACH_DEVICE
returns-then-rows-lt-EACH_DEVICE c =
    let a = c.args in
    let lent = beside a.sets.now a.rows.now a.held.now in
    rw c.no_room.ensures
    (met_as_building a.plan.now lent a.line a.device _
    (no_room a.plan.now lent
    (λ e f. elim c.then-rows-lt-EACH_DEVICE.branch [
      | then-rows-lt-EACH_DEVICE-via-then-rows-lt-EACH_DEVICE w ↦
          absurd (omega (arith, ltb-false _ _ f, w.if-rows-lt-EACH_DEVICE.true))
      | then-rows-lt-EACH_DEVICE-via-else-rows-lt-EACH_DEVICE+then-is_empty w ↦
          lt-ltb _ 1 (omega (arith, eqb-true _ _ (sym w.is_empty.ensures ∙ w.if-is_empty.true)))
    ])))

-- a test of the move refuses
pub returns-in_err-moved : goal.returns-in_err-moved
returns-in_err-moved c =
    let a = c.args in
    let n = eqb-false (length a.held.now) 0 (sym c.is_empty.ensures ∙ c.if-is_empty.false) in
    let up = err_from_is_err_and c.from_residual.result c.from_residual.ensures.1 in
    rw (up.1, up.2)
    (met_refused a.plan.now (beside a.sets.now a.rows.now a.held.now) a.line a.device c.if-rows-lt-EACH_DEVICE.false
    (omega (arith, n)) c.in_err-moved.field-0.0 _ _
    (plainly_refused false _ _ _ _ _ _ _ _ _ c.move_through.ensures c.in_err-moved.field-0.0 c.in_err-moved.was))

-- it is done
pub overflow_sub-edited : goal.overflow_sub-edited
overflow_sub-edited c = stop_past c.move_through.ensures c.in_ok-moved.was

pub invariant_of-edited : goal.invariant_of-edited
invariant_of-edited c =
    let m = c.move_through.ensures in
    let e = is_edited m c.in_ok-moved.was in
    let s = may_skip m c.in_ok-moved.was in
    record {
      sound = sound_is e.sound;
      few = ((no_fault_exactly board _).0 e.sound).few;
      room = e.room;
      agains = e.agains;
      firsts = s.firsts;
      among = s.among;
    }

pub returns : goal.returns
returns c =
    let a = c.args in
    let n = eqb-false (length a.held.now) 0 (sym c.is_empty.ensures ∙ c.if-is_empty.false) in
    moves_kept c.move_through.ensures c.in_ok-moved.was a.rows.now a.held.now _ _ _ c.if-rows-lt-EACH_DEVICE.false
    (omega (arith, n)) c.keep.ensures.was_set c.device_at-old.ensures c.keep.ensures.kept

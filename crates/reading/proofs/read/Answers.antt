-- `reading::read` meets its contract: 1, what decides where the reader stopped, or what keeping all lines answers. The
-- lines handed out stand in front of the list, up to a refusal or to the end.
use Rattle.std.proofs.Common.{refl, sym, length-take-le}
use Rattle.model.specs.Board.{board}
use Rattle.plan.proofs.Answers.{told, untold, passed_up}
use Rattle.reading.proofs.Found.{stopped_front, all_front}
use Rattle.reading.proofs.Outcomes.{reads_long, reads_fault, reads_stopped, reads_kept}
use Rattle.reading.proofs.read.Goals as goal

-- 1
pub returns-then-text-gt-MOST_BYTES : goal.returns-then-text-gt-MOST_BYTES
returns-then-text-gt-MOST_BYTES c = reads_long board c.args.text.now c.args.plan.now c.if-text-gt-MOST_BYTES.true

-- where the reader stopped
pub slice_bounds-found-end-in-Err : goal.slice_bounds-found-end-in-Err
slice_bounds-found-end-in-Err c = (stopped_front board _ _ _ refl _ c.in-Err.ensures).0.within

pub slice_bounds-lines_fault-end : goal.slice_bounds-lines_fault-end
slice_bounds-lines_fault-end c =
    sym (length-take-le _ _ (stopped_front board _ _ _ refl _ c.in-Err.ensures).0.within)

-- a fault of an earlier line
pub returns-in_err-lines_fault-in-Err : goal.returns-in_err-lines_fault-in-Err
returns-in_err-lines_fault-in-Err c =
    let s = stopped_front board _ _ _ refl _ c.in-Err.ensures in
    rw (passed_up _ _ c.from_residual.ensures.1)
    (reads_fault board _ _ c.if-text-gt-MOST_BYTES.false _ s.1 _
    (told _ _ (rw s.0.lines at c.in_err-lines_fault-in-Err.ensures)))

-- none
pub returns-in_ok-lines_fault-in-Err : goal.returns-in_ok-lines_fault-in-Err
returns-in_ok-lines_fault-in-Err c =
    let s = stopped_front board _ _ _ refl _ c.in-Err.ensures in
    reads_stopped board _ _ c.if-text-gt-MOST_BYTES.false _ s.1
    (untold _ (rw s.0.lines at c.in_ok-lines_fault-in-Err.ensures))

-- where it came to the end
pub slice_bounds-found-end : goal.slice_bounds-found-end
slice_bounds-found-end c = (all_front board _ _ _ refl _ c.in-Ok.ensures).0.within

pub slice_bounds-keep-end : goal.slice_bounds-keep-end
slice_bounds-keep-end c = sym (length-take-le _ _ (all_front board _ _ _ refl _ c.in-Ok.ensures).0.within)

pub returns-in-Ok : goal.returns-in-Ok
returns-in-Ok c =
    let s = all_front board _ _ _ refl _ c.in-Ok.ensures in
    reads_kept board c.args.text.now c.args.plan.now c.if-text-gt-MOST_BYTES.false s.1 _ _
    (rw s.0.lines at c.keep.ensures)

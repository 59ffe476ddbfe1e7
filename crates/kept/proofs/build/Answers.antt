use Rattle.std.proofs.Common.{sym, ◌∙◌, ltb-false, lt-ltb, eqb-true, length, length-take, arith}
use borrow.Author.Tests.{eqb-false}
use Rattle.std.proofs.lemmas.Result.{err_from_is_err_and}
use Rattle.theory.proofs.WellFormed.{no_fault_exactly}
use Rattle.model.specs.Board.{board}
use Rattle.promises.specs.Kept.{beside}
use Rattle.rows.proofs.Outcome.{told_sets}
use Rattle.kept.proofs.Building.{no_room, refused_as, not_built, built}
use Rattle.kept.proofs.build.Goals as goal
use Rattle.kept.proofs.build.Goals.{then-sets-plan-via-then-sets-plan}
use Rattle.kept.proofs.build.Goals.{then-sets-plan-via-else-sets-plan+then-rows-lt-EACH_DEVICE}
use Rattle.kept.proofs.build.Goals.{then-sets-plan-via-else-sets-plan+else-rows-lt-EACH_DEVICE+then-is_empty}

-- 2 to 7, and 11
pub returns-then-sets-plan : goal.returns-then-sets-plan
returns-then-sets-plan c =
    let a = c.args in
    let lent = beside a.sets.now a.rows.now a.held.now in
    rw c.no_room.ensures
    (refused_as a.plan.now lent
    (no_room a.plan.now lent
    (λ e f. elim c.then-sets-plan.branch [
      | then-sets-plan-via-then-sets-plan w ↦ absurd (omega (arith, ltb-false _ _ e, w.if-sets-plan.true))
      | then-sets-plan-via-else-sets-plan+then-rows-lt-EACH_DEVICE w ↦
          absurd (omega (arith, ltb-false _ _ f, w.if-rows-lt-EACH_DEVICE.true))
      | then-sets-plan-via-else-sets-plan+else-rows-lt-EACH_DEVICE+then-is_empty w ↦
          lt-ltb _ 1 (omega (arith, eqb-true _ _ (sym w.is_empty.ensures ∙ w.if-is_empty.true)))
    ])))

-- 2 to 7
pub returns-in_err-holds : goal.returns-in_err-holds
returns-in_err-holds c =
    let a = c.args in
    let up = err_from_is_err_and c.from_residual.result c.from_residual.ensures.1 in
    rw (up.1, up.2)
    (not_built a.plan.now (beside a.sets.now a.rows.now a.held.now) c.tabled.ensures c.in_err-holds.was)

-- no fault, and there is room
pub copy_from_slice-requires : goal.copy_from_slice-requires
copy_from_slice-requires c =
    omega (arith, length-take 32 c.args.rows.now, c.if-rows-lt-EACH_DEVICE.false, c.tabled.array_long)

pub overflow_cast-result : goal.overflow_cast-result
overflow_cast-result c =
    let p = c.args.plan.now in
    omega (
      arith,
      ((no_fault_exactly board p).0 (told_sets p (sym c.in_ok-holds.was ∙ c.tabled.ensures.answers)).0).few,
    )

pub returns : goal.returns
returns c =
    let a = c.args in
    let n = eqb-false (length a.held.now) 0 (sym c.is_empty.ensures ∙ c.if-is_empty.false) in
    rw c.copy_from_slice.ensures.after
    (built a.plan.now (beside a.sets.now a.rows.now a.held.now) c.tabled.ensures c.in_ok-holds.was
    (c.if-sets-plan.false, c.if-rows-lt-EACH_DEVICE.false, omega (arith, n)))

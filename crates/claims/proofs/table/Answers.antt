-- The outcome by what the tests found.
use Rattle.std.proofs.Common.{◌≡◌, ◌≤◌, length, sym, ◌∙◌, arith}
use mathlib.Core.Option.{none}
use Rattle.model.specs.Board.{board}
use Rattle.model.specs.Line.{max_lines}
use Rattle.model.specs.WellFormed.{fault}
use Rattle.theory.proofs.WellFormed.{no_fault_exactly}
use Rattle.plan.proofs.Answers.{told, untold, passed_up}
use Rattle.claims.proofs.Outcome.{faulty, short, tabled}
use Rattle.claims.proofs.table.Goals as goal
use Rattle.claims.proofs.table.Goals.{In_ok-scan}

-- 2 to 7
pub returns-in_err-scan : goal.returns-in_err-scan
returns-in_err-scan c =
    let a = c.args in
    let r = c.in_err-scan.field-0.0 in
    rw (passed_up c.from_residual.result r c.from_residual.ensures.1)
    (faulty a.plan.now a.sets.now r (told (fault board a.plan.now) r (sym c.in_err-scan.was ∙ c.scan.ensures.answers)))

-- where no test of the plan refused, it has no fault
no_fault : (c : In_ok-scan) → fault board c.args.plan.now ≡ none
no_fault c = untold (fault board c.args.plan.now) (sym c.in_ok-scan.was ∙ c.scan.ensures.answers)

few : (c : In_ok-scan) → length c.args.plan.now ≤ max_lines
few c = ((no_fault_exactly board c.args.plan.now).0 (no_fault c)).few

pub overflow_cast-result : goal.overflow_cast-result
overflow_cast-result c = omega (arith, few (goal.at.overflow_cast-result c).In_ok-scan)

-- 11
pub returns-then-sets-n : goal.returns-then-sets-n
returns-then-sets-n c =
    let a = c.args in
    short a.plan.now a.sets.now (no_fault (goal.at.returns-then-sets-n c).In_ok-scan) c.if-sets-n.true

pub overflow_cast-result-2 : goal.overflow_cast-result-2
overflow_cast-result-2 c = omega (arith, few (goal.at.overflow_cast-result-2 c).In_ok-scan)

-- the table
pub returns : goal.returns
returns c =
    let a = c.args in
    tabled a.plan.now a.sets.now _ (no_fault (goal.at.returns c).In_ok-scan) c.if-sets-n.false c.fill.ensures

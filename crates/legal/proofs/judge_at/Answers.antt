-- `legal::judge_at` meets its contract: a refusal of the scan, or what the steps tell.
use Rattle.std.proofs.Common.{arith, refl, length, ◌≡◌, ◌≤◌}
use mathlib.Core.Option.{none}
use Rattle.model.specs.Board.{board_at}
use Rattle.model.specs.Line.{max_lines}
use Rattle.model.specs.Mate.{steps}
use Rattle.model.specs.WellFormed.{fault}
use Rattle.model.specs.Sets.{empty}
use Rattle.plan.proofs.Answers.{told, untold, passed_up}
use Rattle.theory.proofs.Judged.{steps_few}
use Rattle.theory.proofs.WellFormed.{no_fault_exactly}
use Rattle.legal.proofs.Outcome.{tabled, faulty, legal, illegal}
use Rattle.legal.proofs.judge_at.Goals as goal
use Rattle.legal.proofs.judge_at.Goals.{In_ok-scan}

-- 2 to 7, 16 and 17
pub returns-in_err-scan : goal.returns-in_err-scan
returns-in_err-scan c =
    let p = c.args.plan.now in
    let r = c.in_err-scan.field-0.0 in
    rw (passed_up c.from_residual.result r c.from_residual.ensures.1)
    (faulty (board_at c.args.midday) p c.args.order.now r
    (told (fault (board_at c.args.midday) p) r c.in_err-scan.ensures.answers))

-- where the plan has no fault
no_fault : (c : In_ok-scan) → fault (board_at c.args.midday) c.args.plan.now ≡ none
no_fault c = untold (fault (board_at c.args.midday) c.args.plan.now) c.in_ok-scan.ensures.answers

pub begin-all-requires : goal.begin-all-requires
unfolding empty
begin-all-requires c =
    record { tabled = tabled c.scan.ensures (no_fault (goal.at.begin-all-requires c).In_ok-scan); held = refl }

pub legal_steps-steps-requires : goal.legal_steps-steps-requires
legal_steps-steps-requires c = record {
  midday = c.args.midday;
  tabled = tabled c.scan.ensures (no_fault (goal.at.legal_steps-steps-requires c).In_ok-scan);
  begins = c.begin-all.ensures.begins;
}

few : (c : In_ok-scan) → length (steps c.args.plan.now) ≤ max_lines
few c =
    let p = c.args.plan.now in
    omega (arith, steps_few p, ((no_fault_exactly (board_at c.args.midday) p).0 (no_fault c)).few)

-- every step is done, and no entry is left
pub returns-then-steps-all : goal.returns-then-steps-all
returns-then-steps-all c =
    legal (board_at c.args.midday) c.args.plan.now c.args.order.now
    (no_fault (goal.at.returns-then-steps-all c).In_ok-scan) c.begin-all.result c.begin-all.ensures.counted
    c.legal_steps-steps.result c.legal_steps-steps.ensures c.if-steps-all.true

pub overflow_add-result : goal.overflow_add-result
overflow_add-result c =
    omega (arith, c.legal_steps-steps.ensures.few, few (goal.at.overflow_add-result c).In_ok-scan)

pub overflow_cast-result : goal.overflow_cast-result
overflow_cast-result c =
    omega (arith, c.legal_steps-steps.ensures.few, few (goal.at.overflow_cast-result c).In_ok-scan)

-- 15
pub returns : goal.returns
returns c =
    illegal (board_at c.args.midday) c.args.plan.now c.args.order.now (no_fault (goal.at.returns c).In_ok-scan)
    c.begin-all.result c.begin-all.ensures.counted c.legal_steps-steps.result c.legal_steps-steps.ensures
    c.if-steps-all.false

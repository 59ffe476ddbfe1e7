-- `plan::checked_line` meets its contract: the first tests are `misplaced`, those of held lines `misheld`, and `rule`
-- does the rest.
use Rattle.std.proofs.Common.{◌≡◌, ℕ, ◌≤◌, Bool, true, Ok, set, arith}
use Rattle.model.specs.Board.{board_at}
use Rattle.model.specs.Line.{job, is_line, max_job}
use Rattle.theory.proofs.Line.{line_parts}
use Rattle.plan.specs.Checked.{checked}
use Rattle.plan.specs.Walk.{place_fault, held_in, next_by}
use Rattle.plan.proofs.Answers.{told, untold, passed_up}
use Rattle.plan.proofs.Steps.{in_place, line_at_midday, stops, stops_held, goes_on_lem}
use Rattle.plan.proofs.checked_line.Goals as goal

-- 2 or 4
pub returns-in_err-misplaced-clause-led : goal.returns-in_err-misplaced-clause-led
returns-in_err-misplaced-clause-led c =
    let u = c.args.at.now in
    let r = c.in_err-misplaced.field-0.0 in
    rw (passed_up c.from_residual.result r c.from_residual.ensures.1)
    (stops (board_at c.args.midday) c.args.n u.lines u.job u.named u.early c.args.notes.now.first
    c.args.notes.now.starter (held_in u.depth c.args.takes.now.stack) r (told _ r c.in_err-misplaced.ensures))

-- neither
few : (midday : Bool) (n i prev : ℕ) → Ok tt ≡ checked (place_fault (board_at midday) n i prev)
    → (is_line (board_at midday) n ≡ true) × (job n ≤ max_job)
few midday n i prev e =
    let p = in_place (board_at midday) n i prev (untold _ e) in (p.1, (line_parts (board_at midday) n p.1).1)

pub misheld-requires : goal.misheld-requires
misheld-requires c =
    let u = c.args.at.now in
    record { few = c.requires; its_job = (few c.args.midday c.args.n u.lines u.job c.in_ok-misplaced.ensures).1 }

-- 16 or 17
pub returns-in_err-misheld-clause-led : goal.returns-in_err-misheld-clause-led
returns-in_err-misheld-clause-led c =
    let u = c.args.at.now in
    let r = c.in_err-misheld.field-0.0 in
    rw (passed_up c.from_residual-in_err-misheld.result r c.from_residual-in_err-misheld.ensures.1)
    (stops_held (board_at c.args.midday) c.args.n u.lines u.job u.named u.early c.args.notes.now.first
    c.args.notes.now.starter (held_in u.depth c.args.takes.now.stack) r
    (untold _ c.in_ok-misplaced.ensures) (told _ r c.in_err-misheld.ensures))

pub bounds-notes-t : goal.bounds-notes-t
bounds-notes-t c =
    let u = c.args.at.now in omega (arith, few c.args.midday c.args.n u.lines u.job c.in_ok-misplaced.ensures)

pub bounds-notes-t-2 : goal.bounds-notes-t-2
bounds-notes-t-2 c =
    let u = c.args.at.now in omega (arith, few c.args.midday c.args.n u.lines u.job c.in_ok-misplaced.ensures)

pub rule-requires : goal.rule-requires
rule-requires c =
    let u = c.args.at.now in
    let f = few c.args.midday c.args.n u.lines u.job c.in_ok-misplaced.ensures in
    record { few = omega (arith, c.in_job.ensures.passed); line = line_at_midday c.args.midday c.args.n f.0 }

pub returns-clause-led : goal.returns-clause-led
returns-clause-led c =
    let f = c.rule in
    let u = c.args.at.now in
    let first = set c.args.notes.now.first c.job-j.result c.choose.result in
    goes_on_lem (board_at c.args.midday) c.args.n u.lines u.job u.named u.early c.args.notes.now.first
    c.args.notes.now.starter (next_by f.result f.new.self.stack first f.new.starter) u.depth
    c.in_job.result.depth c.job-j.result c.choose.result c.args.takes.now.stack
    (untold _ c.in_ok-misplaced.ensures) (untold _ c.in_ok-misheld.ensures) c.job-j.ensures c.choose.ensures
    (rw c.job-j.ensures c.in_job.ensures.deep) (rw c.in_job.ensures.passed at (f.ensures.led first))

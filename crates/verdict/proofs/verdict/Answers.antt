use Rattle.std.proofs.Common.{sym, ◌∙◌}
use Rattle.std.proofs.lemmas.Result.{err_from_is_err_and}
use Rattle.rows.proofs.Outcome.{told_fault}
use Rattle.verdict.proofs.Findings.{is_known, are_findings}
use Rattle.verdict.proofs.Outcome.{faulty}
use Rattle.verdict.proofs.verdict.Goals as goal

-- 2 to 7
pub returns-in_err-holds : goal.returns-in_err-holds
returns-in_err-holds c =
    let a = c.args in
    let up = err_from_is_err_and c.from_residual.result c.from_residual.ensures.1 in
    rw (up.1, up.2)
    (faulty a.plan.now a.order.now c.in_err-holds.field-0.0
    (told_fault a.plan.now (sym c.in_err-holds.was ∙ c.holds.ensures.answers)))

-- no fault: what the search left
pub invariant_of-known : goal.invariant_of-known
invariant_of-known c =
    let k = is_known (rw c.in_ok-holds.was at c.holds.ensures) in
    record { sound = k.0; few = k.4; firsts = k.1; agains = k.2; marks = k.3 }

pub decide-requires : goal.decide-requires
decide-requires c = are_findings (rw c.in_ok-holds.was at c.holds.ensures)

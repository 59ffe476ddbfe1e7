use Rattle.std.proofs.Common.{sym, ◌∙◌}
use Rattle.std.proofs.lemmas.Result.{err_from_is_err_and}
use Rattle.kept.proofs.Deciding.{quick_refused, quick_decided}
use Rattle.kept.proofs.quick.Goals as goal

-- 2 to 7
pub returns-in_err-holds : goal.returns-in_err-holds
returns-in_err-holds c =
    let a = c.args in
    let up = err_from_is_err_and c.from_residual.result c.from_residual.ensures.1 in
    rw (up.1, up.2) (quick_refused a.plan.now a.rows.now (sym c.in_err-holds.was ∙ c.held_to_end.ensures))

-- by the two sets
pub returns : goal.returns
returns c =
    let a = c.args in
    quick_decided a.plan.now a.rows.now (sym c.in_ok-holds.was ∙ c.held_to_end.ensures) c.decide.ensures

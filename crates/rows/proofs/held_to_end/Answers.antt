use Rattle.std.proofs.Common.{sym, ◌∙◌}
use Rattle.model.specs.Board.{board}
use Rattle.model.specs.WellFormed.{fault}
use Rattle.plan.proofs.Answers.{untold}
use Rattle.rows.proofs.Outcome.{held_made}
use Rattle.rows.proofs.held_to_end.Goals as goal

-- what the jobs hold is the plan's
pub returns : goal.returns
returns c =
    let f = untold (fault board c.args.plan.now) (sym c.in_ok-scan.was ∙ c.scan.ensures.answers) in
    held_made c.args.plan.now c.over_jobs.result c.scan.new.notes.holdings f (rw f at c.scan.ensures.held)
    c.over_jobs.ensures.held c.over_jobs.ensures.twice

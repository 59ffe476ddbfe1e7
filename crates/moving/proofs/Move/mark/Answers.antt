-- The flags of the take and its give, by the laws of `Marking`.
use Rattle.std.proofs.Common.{sym, ap, ◌∙◌, arith}
use Rattle.theory.proofs.Mate.{pair}
use Rattle.mates.specs.Span.{span_of, stop_of}
use Rattle.moving.specs.Marked.{Marked}
use Rattle.moving.proofs.Answers.{span_given, span_kept}
use Rattle.moving.proofs.Marking.{all_given, all_kept}
use Rattle.moving.proofs.Move.mark.Goals as goal
use Rattle.moving.proofs.Move.mark.Goals.{After-mark_under}

-- what was marked under the take
marked : (c : After-mark_under)
    → Marked c.args.plan.now c.args.self.at c.args.self.device (stop_of (span_of c.args.plan.now c.args.self.at))
    c.mark_under.new.again
marked c = rw (ap stop_of c.requires.0.spans) at c.mark_under.ensures

-- the give is in the plan
pub bounds-again-m : goal.bounds-again-m
bounds-again-m c =
    let s = c.args in
    omega (
      arith,
      (pair s.plan.now s.self.at _ (span_given s.plan.now s.self.at _
          (sym c.in-Given.is ∙ c.requires.0.spans))).in_plan,
      c.requires.0.take.line.well_formed.few,
    )

pub returns-in-Given : goal.returns-in-Given
returns-in-Given c =
    let s = c.args in
    rw c.from-held.ensures
    (all_given s.plan.now s.self.at s.self.device c.requires.0.take _ c.job_holds.result c.job_holds.ensures
    (marked (goal.at.returns-in-Given c).After-mark_under) _
    (span_given s.plan.now s.self.at _ (sym c.in-Given.is ∙ c.requires.0.spans)))

pub returns-in_default : goal.returns-in_default
returns-in_default c =
    let s = c.args in
    rw c.from-held.ensures
    (all_kept s.plan.now s.self.at s.self.device c.requires.0.take _ c.job_holds.result c.job_holds.ensures
    (marked (goal.at.returns-in_default c).After-mark_under)
    (span_kept s.plan.now s.self.at _ (sym c.in_default.is ∙ c.requires.0.spans)))

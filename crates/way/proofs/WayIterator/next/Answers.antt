-- A call takes the first line off those that are left.
use Rattle.std.proofs.Common.{◌∙◌, length, ap, sym, arith}
use Rattle.way.proofs.Walks.{none_left, one_left, before_in_plan}
use Rattle.way.proofs.WayIterator.next.Goals as goal

pub returns-in_err-k-clause-steps : goal.returns-in_err-k-clause-steps
returns-in_err-k-clause-steps c =
    let w = c.args.self.now in
    let e = none_left w.plan.now w.starter.now w.next c.in_err-k.was in
    rw c.from_residual.ensures (e, e)

pub invariant_of-self : goal.invariant_of-self
invariant_of-self c =
    let w = c.args.self.now in
    record {
      in_plan = λ x e.
          before_in_plan w.plan.now w.starter.now c.in_ok-k.k x (w.in_plan c.in_ok-k.k c.in_ok-k.was)
          (sym c.line_before-self.ensures ∙ e);
    }

pub returns-clause-steps : goal.returns-clause-steps
returns-clause-steps c =
    let w = c.args.self.now in
    one_left w.plan.now w.starter.now w.next c.in_ok-k.k c.in_ok-k.was c.line_before-self.result
    c.line_before-self.ensures

pub returns-clause-goes : goal.returns-clause-goes
returns-clause-goes c =
    let e = ap length (returns-clause-steps c) in
    record { on = λ f. (tt, tt, omega (arith, e)); keeps = tt; rests = λ f. tt }

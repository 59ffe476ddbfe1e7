-- `plan::Takes::held_after` meets its contract, by the laws of `Stacks`.
use Rattle.std.proofs.Common.{arith}
use Rattle.theory.proofs.Line.{opens_no_give}
use Rattle.plan.proofs.Stacks.{given_deep, left_held}
use Rattle.plan.proofs.Takes.held_after.Goals as goal

pub deeper-requires : goal.deeper-requires
deeper-requires c =
    let t = c.args.self.now in
    let n = c.args.n in
    rw (c.is_give.ensures, c.opens.ensures) (record {
      deep = omega arith;
      some_given = given_deep n c.args.depth t.stack t.floored c.requires.line c.requires.room c.requires.given;
      one_verb = opens_no_give n;
    })

pub returns-clause-led : goal.returns-clause-led
returns-clause-led c =
    let t = c.args.self.now in
    rw (c.deeper.ensures, c.is_give.ensures, c.opens.ensures, c.device.ensures)
    (λ i first starter. left_held c.args.n c.args.depth t.stack t.floored c.requires.line c.requires.room
    c.requires.given i c.requires.no_start first starter)

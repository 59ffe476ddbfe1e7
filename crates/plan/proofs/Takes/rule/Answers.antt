-- `plan::Takes::rule` meets its contract: a give by `misgives`, a start by its own test, what is left by `held_after`.
use Rattle.std.proofs.Common.{◌≡◌, ℕ, ◌+◌, true, false, ◌&&◌, eqb, ltb, List, get_or, set, sym, ◌∙◌, add-one, arith}
use Rattle.std.proofs.Common.{eqb-true}
use Rattle.model.specs.Board.{board_at}
use Rattle.model.specs.Line.{job, kind, operand, opens, is_give, is_start, line_number}
use Rattle.model.specs.declared.Refusal.TheVariants.{BadStart}
use Rattle.theory.proofs.Line.{start_operand, opens_no_start, give_no_start}
use Rattle.theory.proofs.Tests.{clash, falsely}
use Rattle.plan.specs.Walk.{on, bad, rule_of, held_in}
use Rattle.plan.proofs.Stacks.{wrongly_given}
use Rattle.plan.proofs.Takes.rule.Goals as goal

module _ (i n : ℕ) (held starter : List ℕ) (s : is_start n ≡ true) where
  no_open : opens n ≡ false
  no_open = falsely (opens n) (λ e. clash (is_start n) s (opens_no_start n e))

  no_give : is_give n ≡ false
  no_give = falsely (is_give n) (λ e. clash (is_start n) s (give_no_start n e))

  begun : (ltb (job n) (operand n) && eqb (get_or starter (operand n) 0) 0) ≡ true → (first : List ℕ)
      → on held first (set starter (operand n) (i + 1)) ≡ rule_of i n held first starter
  unfolding rule_of line_number
  begun e first = rw (no_open, no_give, s, e, add-one)

  not_begun : (ltb (job n) (operand n) && eqb (get_or starter (operand n) 0) 0) ≡ false → (first : List ℕ)
      → bad (BadStart (i + 1)) ≡ rule_of i n held first starter
  unfolding rule_of line_number
  not_begun e first = rw (no_open, no_give, s, e, add-one)

-- a give of what is not the latest
pub returns-then-misgives-clause-led : goal.returns-then-misgives-clause-led
returns-then-misgives-clause-led c =
    let u = c.args.at.now in
    let t = c.args.self.now in
    λ first. wrongly_given c.args.n u.depth t.stack t.floored c.requires.line u.lines
    (sym c.misgives.ensures ∙ c.if-misgives.true) first c.args.starter.now

-- a start's operand has its entry
pub bounds-starter-t : goal.bounds-starter-t
unfolding is_start
bounds-starter-t c =
    omega (
      arith,
      c.operand-o.ensures,
      start_operand (board_at true) c.args.n c.requires.line
          (eqb-true (kind c.args.n) 3 (sym c.is_start.ensures ∙ c.if-is_start.true)),
    )

pub bounds-starter-t-then-job-o : goal.bounds-starter-t-then-job-o
unfolding is_start
bounds-starter-t-then-job-o c =
    omega (
      arith,
      c.operand-o.ensures,
      start_operand (board_at true) c.args.n c.requires.line
          (eqb-true (kind c.args.n) 3 (sym c.is_start.ensures ∙ c.if-is_start.true)),
    )

-- a start that is in order
pub returns-then-job-o-clause-led : goal.returns-then-job-o-clause-led
returns-then-job-o-clause-led c =
    let u = c.args.at.now in
    rw c.operand-o.ensures
    (begun u.lines c.args.n (held_in u.depth c.args.self.now.stack) c.args.starter.now
    (sym c.is_start.ensures ∙ c.if-is_start.true)
    (rw (c.job.ensures, c.operand-o.ensures) at c.if-job-o.true))

-- one that is not
pub returns-then-is_start-clause-led : goal.returns-then-is_start-clause-led
returns-then-is_start-clause-led c =
    let u = c.args.at.now in
    not_begun u.lines c.args.n (held_in u.depth c.args.self.now.stack) c.args.starter.now
    (sym c.is_start.ensures ∙ c.if-is_start.true)
    (rw (c.job.ensures, c.operand-o.ensures) at c.if-job-o.false)

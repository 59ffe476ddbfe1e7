use Rattle.std.proofs.Common.{◌≡◌, ℕ, suc, ◌-◌, ◌<◌, length, ◌∙◌, arith}
use Rattle.model.specs.Line.{at}
use Rattle.theory.specs.Outer.{plain_at}
use Rattle.rows.specs.Holds.{PassedOn}
use Rattle.rows.proofs.Counted.{has_flag, counts_as}
use Rattle.rows.proofs.Walked.{Walked, none_walked, counts_line, is_take_lem, one_walked, all_walked}
use Rattle.rows.proofs.walk_back.Goals as goal
use Rattle.rows.proofs.walk_back.Goals.{After-pass_line-passed}

pub loop-i-init : goal.loop-i-init
loop-i-init c = none_walked c.args.plan.now c.args.table.now

pub bounds-again-i : goal.bounds-again-i
bounds-again-i c =
    has_flag c.args.plan.now c.args.again.now (c.loop-i.i - 1) (c.requires.sound, c.requires.flags)
    (omega (arith, c.loop-i.invariant.counted.in_plan))

-- the line at hand, passed as it counts
module _ (c : After-pass_line-passed) where
  abbrev k : ℕ
  k = c.loop-i.i - 1

  in_plan : k < length c.args.plan.now
  in_plan = omega (arith, c.loop-i.invariant.counted.in_plan)

  counts : c.plain-plain.result ≡ plain_at c.args.plan.now k
  counts =
      c.plain-plain.ensures
      ∙ counts_as c.args.plan.now c.args.again.now k (c.requires.sound, c.requires.flags) in_plan

  passed_on : PassedOn c.pass_line-passed.result c.loop-i.passed (at c.args.plan.now k) (plain_at c.args.plan.now k)
  passed_on = rw counts at c.pass_line-passed.ensures

  walked : Walked c.args.plan.now c.args.table.now c.loop-i.rows c.loop-i.lasting c.loop-i.table c.loop-i.claimed
      c.loop-i.passed (suc k)
  walked = let back : c.loop-i.i ≡ suc (c.loop-i.i - 1) = omega arith in rw back at c.loop-i.invariant

pub bounds-lasting-i : goal.bounds-lasting-i
bounds-lasting-i c =
    has_flag c.args.plan.now c.args.again.now (c.loop-i.i - 1) (c.requires.sound, c.requires.flags)
    (omega (arith, c.loop-i.invariant.counted.in_plan))

pub join_line-s-requires-clause-on_board : goal.join_line-s-requires-clause-on_board
join_line-s-requires-clause-on_board c =
    let here = (goal.at.join_line-s-requires-clause-on_board c).After-pass_line-passed in
    rw (counts here) (counts_line c.requires.sound (walked here) (passed_on here))

pub join_line-s-requires-clause-takes : goal.join_line-s-requires-clause-takes
join_line-s-requires-clause-takes c =
    let here = (goal.at.join_line-s-requires-clause-takes c).After-pass_line-passed in
    rw (counts here) (is_take_lem c.requires.sound (walked here) (passed_on here))

pub loop-i-preserved : goal.loop-i-preserved
loop-i-preserved c =
    let here = (goal.at.loop-i-preserved c).After-pass_line-passed in
    rw (c.store.ensures, c.from.ensures)
    (one_walked c.requires.sound (walked here) (passed_on here) (rw (counts here) at c.join_line-s.ensures))

pub returns : goal.returns
returns c =
    let front : c.loop-i.i ≡ 0 = omega arith in
    all_walked c.requires.sound (rw front at c.loop-i.invariant)

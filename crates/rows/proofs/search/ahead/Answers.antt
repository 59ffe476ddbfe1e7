use Rattle.std.proofs.Common.{ℕ, sym, ap, ◌∙◌}
use Rattle.model.specs.Board.{devices}
use Rattle.model.specs.Sets.{lowest_of}
use Rattle.sets.specs.Both.{without}
use Rattle.rows.proofs.Reaching.{Next, next, following_begins, following_on, following_less, all_followed}
use Rattle.rows.proofs.search.ahead.Goals as goal
use Rattle.rows.proofs.search.ahead.Goals.{After-lowest-d}

pub loop-reached-init : goal.loop-reached-init
loop-reached-init c =
    let a = c.args in
    rw (c.only-reached.ensures, sym c.told-rows)
    (following_begins a.rows.now a.within a.from (rw c.told-rows c.requires))

-- the device that is chosen is reached, and was not looked at
chosen : (c : After-lowest-d)
    → Next c.args.rows.now c.args.within c.args.from c.loop-reached.reached c.loop-reached.done c.loop-reached.invariant
    c.lowest-d.result
chosen c =
    let a = c.args in
    let l = c.loop-reached in
    next a.rows.now a.within a.from l.reached l.done l.invariant a.stop
    (rw c.both.ensures at c.loop-reached-test.true) c.lowest-d.result
    (c.lowest-d.ensures ∙ ap (lowest_of devices) c.without.ensures
    ∙ ap (λ (D : ℕ). lowest_of D (without l.reached l.done)) (sym c.told-rows))

pub bounds-rows-d : goal.bounds-rows-d
bounds-rows-d c = rw (← c.told-rows) (chosen (goal.at.bounds-rows-d c).After-lowest-d).on_board

pub loop-reached-smaller : goal.loop-reached-smaller
loop-reached-smaller c =
    let a = c.args in
    let l = c.loop-reached in
    rw (c.union-done.ensures, c.only.ensures, sym c.told-rows)
    (following_less a.rows.now a.within a.from l.reached l.done l.invariant c.lowest-d.result
    (chosen (goal.at.loop-reached-smaller c).After-lowest-d))

pub loop-reached-preserved : goal.loop-reached-preserved
loop-reached-preserved c =
    let a = c.args in
    let l = c.loop-reached in
    rw (
      c.union-reached.ensures,
      c.both-in-loop-reached.ensures,
      c.union-done.ensures,
      c.only.ensures,
      sym c.told-rows,
    )
    (following_on a.rows.now a.within a.from l.reached l.done l.invariant c.lowest-d.result
    (chosen (goal.at.loop-reached-preserved c).After-lowest-d) (rw c.told-rows c.ranges.within.fits))

pub returns : goal.returns
returns c =
    let l = c.loop-reached in
    let a = c.args in
    all_followed a.rows.now a.within a.from l.reached l.done l.invariant a.stop
    (rw c.both.ensures at c.loop-reached-test.false)

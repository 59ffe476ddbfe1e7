use Rattle.std.proofs.Common.{sym, ◌∙◌}
use Rattle.rows.proofs.CameBack.{walking_begins, walking_on, walking_less, walking_ends}
use Rattle.rows.proofs.Looked.{on_board_lem}
use Rattle.rows.proofs.search.walk.Goals as goal

pub loop-rest-init : goal.loop-rest-init
loop-rest-init c =
    let a = c.args in
    rw (c.lowest-at.ensures, sym c.told-rows)
    (walking_begins a.rows.now a.left (rw c.told-rows c.ranges.left.fits) c.requires)

pub bounds-rows-at : goal.bounds-rows-at
bounds-rows-at c =
    let l = c.loop-rest in
    rw (← c.told-rows)
    (on_board_lem _ l.rest l.at l.invariant.rest_below (sym c.member.ensures ∙ c.loop-rest-test.true))

pub loop-rest-smaller : goal.loop-rest-smaller
loop-rest-smaller c =
    let l = c.loop-rest in
    rw (c.without-rest.ensures, c.only.ensures, sym c.told-rows)
    (walking_less c.args.rows.now c.args.left l.at l.rest l.invariant (sym c.member.ensures ∙ c.loop-rest-test.true))

pub loop-rest-preserved : goal.loop-rest-preserved
loop-rest-preserved c =
    let l = c.loop-rest in
    rw (
      c.lowest-at-in-loop-rest.ensures,
      c.both.ensures,
      c.without-rest.ensures,
      c.only.ensures,
      sym c.told-rows,
    )
    (walking_on c.args.rows.now c.args.left l.at l.rest l.invariant (sym c.member.ensures ∙ c.loop-rest-test.true))

pub returns : goal.returns
returns c =
    let l = c.loop-rest in
    let a = c.args in
    walking_ends a.rows.now a.left record { at = l.at; rest = l.rest } l.invariant
    (sym c.member.ensures ∙ c.loop-rest-test.false)

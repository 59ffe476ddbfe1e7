use Rattle.rows.proofs.TakenAway.{taking_begins, taking_on, taking_less, all_taken}
use Rattle.rows.proofs.Smaller.{one_of_two}
use Rattle.rows.proofs.search.trim.Goals as goal

pub loop-stays-init : goal.loop-stays-init
loop-stays-init c = taking_begins c.args.rows.now c.args.left (rw c.told-rows c.ranges.left.fits)

pub loop-stays-smaller : goal.loop-stays-smaller
loop-stays-smaller c =
    let a = c.args in
    let l = c.loop-stays in
    rw (c.both-stays.ensures, c.look-seen.ensures.into, c.look-seen.ensures.onto)
    (taking_less a.rows.now a.left l.stays l.before l.invariant c.loop-stays-test.true)

pub loop-stays-preserved : goal.loop-stays-preserved
loop-stays-preserved c =
    let a = c.args in
    let l = c.loop-stays in
    rw (c.both-stays.ensures, c.look-seen.ensures.into, c.look-seen.ensures.onto)
    (taking_on a.rows.now a.left l.stays l.before l.invariant)

pub returns : goal.returns
returns c =
    let a = c.args in
    let l = c.loop-stays in
    all_taken a.rows.now a.left l.stays l.before l.invariant
    (one_of_two l.stays l.before 0 c.loop-stays-test.false)

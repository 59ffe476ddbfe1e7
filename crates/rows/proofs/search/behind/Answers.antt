use Rattle.rows.proofs.Smaller.{one_of_two}
use Rattle.rows.proofs.Reaching.{gathering_begins, gathering_on, gathering_less, all_gathered}
use Rattle.rows.proofs.search.behind.Goals as goal

pub loop-lead-init : goal.loop-lead-init
loop-lead-init c =
    gathering_begins c.args.rows.now c.args.within c.args.these (rw c.told-rows c.ranges.these.fits)

pub loop-lead-smaller : goal.loop-lead-smaller
loop-lead-smaller c =
    let a = c.args in
    let l = c.loop-lead in
    rw (c.union-lead.ensures, c.look-seen.ensures.into, c.without.ensures)
    (gathering_less a.rows.now a.within a.these l.lead l.before l.invariant c.loop-lead-test.true)

pub loop-lead-preserved : goal.loop-lead-preserved
loop-lead-preserved c =
    let a = c.args in
    let l = c.loop-lead in
    rw (c.union-lead.ensures, c.look-seen.ensures.into, c.without.ensures)
    (gathering_on a.rows.now a.within a.these l.lead l.before l.invariant)

pub returns : goal.returns
returns c =
    let a = c.args in
    let l = c.loop-lead in
    all_gathered a.rows.now a.within a.these l.lead l.before l.invariant
    (one_of_two l.lead l.before a.within c.loop-lead-test.false)

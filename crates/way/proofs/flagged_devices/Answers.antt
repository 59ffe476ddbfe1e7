-- The first line that is left adds its device, if it has a flag.
use Rattle.std.proofs.Common.{refl, sym, ◌∙◌}
use Rattle.model.specs.Sets.{empty}
use Rattle.way.specs.Flagged.{flagged_by}
use Rattle.way.proofs.Walks.{way_within, others_within}
use Rattle.way.proofs.flagged_devices.Goals as goal

pub loop-k-init : goal.loop-k-init
unfolding empty
loop-k-init c =
    let a = c.args in
    rw (c.into_iter-k-iterator.ensures.into_iter_gives, c.new-k-items.ensures)
    (record { within = way_within a.plan.now a.sets.now a.starter.now a.i; left = refl })

pub loop-k-preserved : goal.loop-k-preserved
unfolding flagged_by
loop-k-preserved c =
    let e = c.in-Some.ensures.steps in
    record {
      within = others_within (rw e at c.loop-k.invariant.within);
      left = c.loop-k.invariant.left
          ∙ rw (
            e,
            flagged_by,
            ← c.flagged.ensures,
            ← c.operand.ensures,
            ← c.only_if-one.ensures,
            ← c.union-found.ensures,
          );
    }

pub returns : goal.returns
unfolding flagged_by
returns c = sym (c.loop-k.invariant.left ∙ rw c.in-None.ensures.steps.0)

-- The set of the first line that is left is rewritten.
use Rattle.std.proofs.Common.{◌≡◌, Bool, true, false, cond, refl, ap, ◌∙◌}
use Rattle.way.proofs.Walks.{way_within, mend_start, mend_on, mend_end}
use Rattle.way.proofs.mend_way.Goals as goal
use mir.Val.{bool_byte}

as_number_lem : (b : Bool) → bool_byte b ≡ cond b 1 0
as_number_lem true = refl
as_number_lem false = refl

pub loop-k-init : goal.loop-k-init
loop-k-init c =
    let a = c.args in
    let n = a.tables.now in
    rw (c.into_iter-k-iterator.ensures.into_iter_gives, c.new-k-items.ensures)
    (mend_start a.plan.now n.again.now n.first.now a.sets.now _ (way_within a.plan.now a.sets.now n.starter.now a.i))

pub loop-k-preserved : goal.loop-k-preserved
loop-k-preserved c =
    mend_on (rw c.in-Some.ensures.steps at c.loop-k.invariant) c.mend.new.sets c.from-count.result
    c.mend.ensures.mended
    (c.from-count.ensures ∙ as_number_lem c.mend.result ∙ ap (λ b. cond b 1 0) c.mend.ensures.counted)

pub returns-clause-mended : goal.returns-clause-mended
returns-clause-mended c = (mend_end (rw c.in-None.ensures.steps.0 at c.loop-k.invariant)).0

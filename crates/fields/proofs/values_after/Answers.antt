-- `fields::values_after` meets its contract: from the place at hand on, bytes end where they end behind the numbers
-- passed.
use mathlib.Core.List.{flat_map}
use Rattle.std.proofs.Common.{◌∙◌, ap, length-append, arith}
use Rattle.fields.specs.Puts.{place_after, value_text, values_text}
use Rattle.fields.proofs.Pieces.{pieces_all, place_more}
use Rattle.fields.proofs.values_after.Goals as goal

pub loop-n-init : goal.loop-n-init
unfolding flat_map
loop-n-init c = λ k. ap (place_after c.args.room c.args.from) (omega arith)

pub loop-n-preserved : goal.loop-n-preserved
loop-n-preserved c =
    place_more value_text _ _ c.loop-n-test.true _ _ _ _ c.loop-n.invariant
    (c.place_after-at.ensures
    ∙ ap (place_after c.args.room c.loop-n.at) (omega (arith, rw c.from.ensures at c.digits.ensures.count)))

pub returns : goal.returns
unfolding values_text
returns c =
    c.place_after.ensures
    ∙ (c.loop-n.invariant 1
    ∙ ap (place_after c.args.room c.args.from)
    (rw (pieces_all value_text c.args.values.now c.loop-n.n-index c.loop-n-test.false, length-append)))

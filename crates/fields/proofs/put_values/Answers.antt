-- `fields::put_values` meets its contract: the numbers passed are put, and where all of them and the newline fit, so
-- does the next.
use mathlib.Core.List.{flat_map}
use Rattle.std.proofs.Common.{[], ◌∷◌, length-append, arith}
use Rattle.model.specs.Text.{newline}
use Rattle.fields.specs.Puts.{value_text, values_text}
use Rattle.fields.proofs.Putting.{fits, unput, put_none, put_both}
use Rattle.fields.proofs.Pieces.{pieces_all, next_room, put_more}
use Rattle.fields.proofs.put_values.Goals as goal

pub returns-then-out-past : goal.returns-then-out-past
returns-then-out-past c = unput c.values_after-past.ensures c.if-out-past.true

pub loop-n-init : goal.loop-n-init
unfolding flat_map values_text
loop-n-init c =
    let f = fits _ _ _ _ c.values_after-past.ensures c.if-out-past.false in
    record {
      room = omega (arith, f.0, length-append (flat_map value_text c.args.values.now) (newline ∷ []));
      put = put_none _ _ (omega (arith, f.0));
    }

pub put_value-place-requires : goal.put_value-place-requires
put_value-place-requires c =
    next_room value_text _ _ c.loop-n-test.true c.loop-n.invariant.put (omega (arith, c.loop-n.invariant.room))

pub loop-n-preserved : goal.loop-n-preserved
loop-n-preserved c = record {
  room = c.loop-n.invariant.room;
  put =
      put_more value_text _ _ c.loop-n-test.true c.loop-n.invariant.put (omega (arith, c.loop-n.invariant.room))
      c.put_value-place.ensures;
}

pub returns : goal.returns
unfolding values_text
returns c =
    let vs = c.args.values.now in
    put_both (rw (pieces_all value_text vs c.loop-n.n-index c.loop-n-test.false) at c.loop-n.invariant.put)
    c.put_byte.ensures
    (omega (arith, c.loop-n.invariant.room, length-append (flat_map value_text vs) (newline ∷ [])))

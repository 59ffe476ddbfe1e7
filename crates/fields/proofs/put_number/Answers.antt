-- `fields::put_number` meets its contract: the last digits are put, and the rest has the others.
use Rattle.std.proofs.Common.{◌∙◌}
use Rattle.fields.proofs.Putting.{fits, unput}
use Rattle.fields.proofs.LastDigits.{last_none, last_more, last_all}
use Rattle.fields.proofs.put_number.Goals as goal

pub returns-then-out-past : goal.returns-then-out-past
returns-then-out-past c = unput (c.place_after-past.ensures ∙ rw c.digits.ensures.count) c.if-out-past.true

pub loop-i-init : goal.loop-i-init
loop-i-init c =
    let f = fits _ _ _ _ (rw c.digits.ensures.count at c.place_after-past.ensures) c.if-out-past.false in
    (f.1, rw f.1 (last_none _ _ _ f.0))

pub loop-i-preserved : goal.loop-i-preserved
loop-i-preserved c = (c.loop-i.invariant.0, last_more c.loop-i.invariant.1 c.loop-i-test.true)

pub returns : goal.returns
returns c = rw c.loop-i.invariant.0 (last_all c.loop-i.invariant.1 c.loop-i-test.false)

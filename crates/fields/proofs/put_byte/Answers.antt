-- `fields::put_byte` meets its contract: one store, or none where the place is past the buffer.
use Rattle.std.proofs.Common.{length, arith}
use Rattle.fields.proofs.Putting.{beyond, unput, put_one}
use Rattle.fields.proofs.put_byte.Goals as goal

pub returns-then-out-at : goal.returns-then-out-at
returns-then-out-at c =
    let a = c.args in unput (omega (arith, beyond (length a.out.now) a.at 1 (omega arith))) (omega arith)

pub returns : goal.returns
returns c = put_one _ _ _ c.if-out-at.false

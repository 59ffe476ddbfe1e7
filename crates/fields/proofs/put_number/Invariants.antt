-- The last digits are put, and the rest has the others.
use Rattle.std.proofs.Common.{◌≡◌, ◌+◌, length}
use Rattle.model.specs.Text.{decimal}
use Rattle.fields.proofs.LastDigits.{LastDigits}
use Rattle.fields.proofs.put_number.Given as goal

abbrev pub invariant-loop-i : goal.invariant-loop-i
invariant-loop-i l = (l.past ≡ l.at + length (decimal l.n)) × LastDigits l.n l.at l.initial.out l.rest l.i l.out

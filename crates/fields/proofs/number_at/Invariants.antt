-- The bytes passed and what is left of the text make the number.
use Rattle.fields.proofs.Reading.{Reading}
use Rattle.fields.proofs.number_at.Given as goal

abbrev pub invariant-loop-at : goal.invariant-loop-at
invariant-loop-at l = Reading l.text l.from l.end l.most l.value l.at-counter

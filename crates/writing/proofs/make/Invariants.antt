-- The lines passed are put.
use Rattle.model.specs.Text.{line_text}
use Rattle.fields.specs.Puts.{PutsAs}
use Rattle.fields.proofs.Pieces.{pieces}
use Rattle.writing.proofs.make.Given as goal

abbrev pub invariant-loop-l : goal.invariant-loop-l
invariant-loop-l l = PutsAs (pieces line_text l.plan l.l-index) 0 l.initial.made l.at l.made

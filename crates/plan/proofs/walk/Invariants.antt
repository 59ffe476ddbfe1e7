-- What the walk keeps from line to line: where it stands, and its notes where it makes them.
use Rattle.std.proofs.Common.{◌≡◌, true}
use Rattle.model.specs.Board.{board_at}
use Rattle.plan.specs.contracts.walk.{NOTING-type}
use Rattle.plan.proofs.Walks.{At}
use Rattle.plan.proofs.NoteWalk.{NotesAt}
use Rattle.plan.proofs.walk.Given as goal

abbrev pub invariant-loop-n : goal.invariant-loop-n
invariant-loop-n g l = record {
  passed : l.at.lines ≡ l.n-index;
  stands : At (board_at l.midday) l.plan l.at l.takes.stack l.notes.first l.notes.starter;
  noted : NOTING-type (denote.Param.number g.row.NOTING) ≡ true
      → NotesAt l.plan l.at l.takes.stack l.added l.notes.again l.notes.holdings;
}

-- `lines::next_line` meets its contract: 1, or what is handed out at the cursor.
use Rattle.std.proofs.Common.{sym, ◌∙◌, ap}
use Rattle.model.specs.Answers.{line_values}
use Rattle.model.specs.Board.{board}
use Rattle.theory.proofs.Reader.{next_in}
use Rattle.lines.proofs.Lines.{next_long}
use Rattle.lines.proofs.next_line.Goals as goal

-- 1
pub returns-then-text-gt-MOST_BYTES : goal.returns-then-text-gt-MOST_BYTES
returns-then-text-gt-MOST_BYTES c =
    record { answers = ap line_values (next_long board _ _ c.if-text-gt-MOST_BYTES.true) }

-- what is handed out
pub returns : goal.returns
returns c =
    record { answers = ap line_values (c.handed.ensures ∙ sym (next_in board _ _ c.if-text-gt-MOST_BYTES.false)) }

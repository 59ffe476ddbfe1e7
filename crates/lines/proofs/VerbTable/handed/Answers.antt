-- `lines::VerbTable::handed` meets its contract: the end, 3, the line that was read, or 2.
use Rattle.std.proofs.Common.{lit≤}
use Rattle.model.specs.Board.{board_at}
use Rattle.lines.proofs.Lines.{handed_none, handed_over, handed_read, handed_wrong}
use Rattle.lines.proofs.VerbTable.handed.Goals as goal

pub returns-then-text-c : goal.returns-then-text-c
returns-then-text-c c = handed_none _ _ _ _ c.if-text-c.true

pub returns-then-c-ge-MOST_LINES : goal.returns-then-c-ge-MOST_LINES
returns-then-c-ge-MOST_LINES c = handed_over _ _ _ _ c.if-text-c.false c.if-c-ge-MOST_LINES.true

-- a line
pub returns-in-Some : goal.returns-in-Some
returns-in-Some c = handed_read _ _ _ _ c.if-c-ge-MOST_LINES.false _ _ c.in-Some.ensures

-- 2
pub returns-in-None : goal.returns-in-None
returns-in-None c =
    handed_wrong (board_at c.args.midday) _ _ _ c.if-c-ge-MOST_LINES.false (lit≤ tt) c.if-text-c.false
    c.in-None.ensures

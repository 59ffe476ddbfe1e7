-- The lines handed out so far are past, and their numbers stand in front.
use Rattle.std.proofs.Common.{◌-◌}
use Rattle.model.specs.Board.{board_at}
use Rattle.model.specs.Line.{max_lines}
use Rattle.lines.proofs.Gathering.{Past}
use Rattle.lines.proofs.gather.Given as goal

abbrev pub invariant-loop-l : goal.invariant-loop-l
invariant-loop-l l = Past (board_at l.midday) l.text l.initial.lines l.c.offset l.c.lines l.lines

abbrev pub decreases-loop-l : goal.decreases-loop-l
decreases-loop-l l = max_lines - l.c.lines

-- `lines::gather` meets its contract: each line that is handed out is one more past, and where none is, the reader
-- stands at the end or at the refusal.
use Rattle.std.proofs.Common.{sym, arith}
use Rattle.lines.proofs.Gathering.{none_past, line_more, all_past, stopped}
use Rattle.lines.proofs.gather.Goals as goal

pub loop-l-init : goal.loop-l-init
loop-l-init c = none_past _ _ _

-- one line more was handed out
pub bounds-lines-c : goal.bounds-lines-c
bounds-lines-c c = (line_more _ _ _ _ _ _ c.loop-l.invariant _ _ (sym c.in-Line.ensures)).0

pub loop-l-smaller : goal.loop-l-smaller
loop-l-smaller c =
    let more = line_more _ _ _ _ _ _ c.loop-l.invariant _ _ (sym c.in-Line.ensures) in omega (arith, more.0, more.1)

pub loop-l-preserved : goal.loop-l-preserved
loop-l-preserved c = (line_more _ _ _ _ _ _ c.loop-l.invariant _ _ (sym c.in-Line.ensures)).2

-- a refusal
pub returns-in-Refused : goal.returns-in-Refused
returns-in-Refused c = stopped _ _ _ _ _ _ c.loop-l.invariant _ (sym c.in-Refused.ensures)

-- the end
pub returns-in-End : goal.returns-in-End
returns-in-End c = all_past _ _ _ _ _ _ c.loop-l.invariant (sym c.in-End.ensures)

-- `judged::gather` meets its contract: the entries listed so far and those still in the text go wrong where all do.
use Rattle.std.proofs.Common.{◌≡◌, arith, length}
use Rattle.std.proofs.lemmas.List.{set-get_or}
use Rattle.std.specs.Prelude.{Some}
use Rattle.model.specs.Line.{max_lines}
use Rattle.judged.proofs.Entering.{There, there, found_small, listed_all, listed_full, listed_more, listed_last}
use Rattle.judged.proofs.gather.Goals as goal
use Rattle.judged.proofs.gather.Goals.{In-Some}

-- no entry is left, and none is put
pub returns-then-text-at : goal.returns-then-text-at
returns-then-text-at c =
    rw (set-get_or c.loop-n.entries c.loop-n.n 0) (listed_all c.loop-n.invariant c.if-text-at.true)

-- the line there has a number
found : (c : In-Some) → There c.args.text.now c.loop-n.at max_lines (Some c.in-Some.number)
found c = rw c.in-Some.ensures (there c.args.text.now c.loop-n.at max_lines c.if-text-at.false)

pub overflow_cast-entry : goal.overflow_cast-entry
overflow_cast-entry c = omega (arith, found_small (found (goal.at.overflow_cast-entry c).In-Some))

pub loop-n-preserved : goal.loop-n-preserved
loop-n-preserved c =
    listed_more c.loop-n.invariant (omega arith) (found (goal.at.loop-n-preserved c).In-Some)

-- it has none that a line could have
pub returns-in_default : goal.returns-in_default
returns-in_default c =
    listed_last c.loop-n.invariant (omega arith)
    (rw c.in_default.ensures (there c.args.text.now c.loop-n.at max_lines c.if-text-at.false))

-- the list is full
pub returns : goal.returns
returns c =
    let z : c.loop-n.n ≡ length c.loop-n.entries = omega arith in
    rw (← z) (listed_full c.loop-n.invariant (omega arith) (omega arith))

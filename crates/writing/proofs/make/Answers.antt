-- `writing::make` meets its contract: the lines passed are put, and where all of them fit, so does the next.
use Rattle.std.proofs.Common.{arith, length, ℕ, List, ◌+◌, ◌≤◌}
use mathlib.Core.List.{flat_map}
use Rattle.model.specs.Text.{line_text, text_of}
use Rattle.fields.proofs.Putting.{put_none}
use Rattle.fields.proofs.Pieces.{pieces_all, next_room, put_more}
use Rattle.writing.proofs.make.Goals as goal

-- all lines fit
room : (p made : List ℕ) → length (text_of p) ≤ length made → 0 + length (flat_map line_text p) ≤ length made
unfolding text_of
room p made h = omega arith

pub loop-l-init : goal.loop-l-init
unfolding flat_map
loop-l-init c = put_none 0 c.args.made.now (omega arith)

pub put_line-at-requires : goal.put_line-at-requires
put_line-at-requires c =
    let h = c.loop-l-test.true in
    let r = room _ _ c.requires.1 in
    (c.requires.0 c.loop-l.l-index h, next_room line_text _ _ h c.loop-l.invariant r)

pub loop-l-preserved : goal.loop-l-preserved
loop-l-preserved c =
    put_more line_text _ _ c.loop-l-test.true c.loop-l.invariant (room _ _ c.requires.1) c.put_line-at.ensures

pub returns : goal.returns
unfolding text_of
returns c = rw (pieces_all line_text c.args.plan.now c.loop-l.l-index c.loop-l-test.false) at c.loop-l.invariant

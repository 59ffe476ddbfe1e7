-- `judge::run` stays within its arrays, and what it hands to be written is what is printed for the whole input, of
-- which it read as much as decides.
use Rattle.std.proofs.Common.{◌∙◌, sym, ap, arith}
use Rattle.std.proofs.lemmas.List.{length-take-le}
use Rattle.model.specs.Board.{board}
use Rattle.model.specs.Judged.{parting_line, judge_printed}
use Rattle.theory.proofs.LaterBytes.{later_bytes_print_nothing}
use Rattle.fields.proofs.Putting.{front_at_start}
use Rattle.judged.proofs.Fitting.{put_within}
use Rattle.judge.proofs.run.Goals as goal

-- the input has room for all that decides
pub read_text-requires : goal.read_text-requires
unfolding parting_line
read_text-requires g c = omega arith

-- the bytes printed fit into the output
pub slice_bounds-out-end : goal.slice_bounds-out-end
slice_bounds-out-end g c =
    let p = c.print-m in omega (arith, put_within _ p.ensures (omega arith), p.auto.out)

pub slice_bounds-write_printed-end : goal.slice_bounds-write_printed-end
slice_bounds-write_printed-end g c =
    let p = c.print-m in sym (length-take-le _ _ (omega (arith, put_within _ p.ensures (omega arith), p.auto.out)))

pub write_printed-requires : goal.write_printed-requires
write_printed-requires g c input front =
    let p = c.print-m in
    front_at_start p.ensures (put_within _ p.ensures (omega arith))
    ∙ ap (judge_printed board) front ∙ later_bytes_print_nothing board input

-- What was counted is the newlines among the bytes passed.
use Rattle.std.proofs.Common.{◌≡◌, ◌==◌, ◌≤◌, count_by, take}
use Rattle.model.specs.Text.{newline}
use Rattle.reader.proofs.newlines_before.Given as goal

abbrev pub invariant-loop-i : goal.invariant-loop-i
invariant-loop-i l = record {
  below : l.i ≤ l.offset;
  counted : l.lines ≡ count_by (λ b. b == newline) (take l.i l.text);
}

-- The bytes put so far are the text's.
use Rattle.std.proofs.Common.{◌≡◌, ◌<◌, ℕ, length, slice_index}
use Rattle.lines.proofs.put_few.Given as goal

abbrev pub invariant-loop-k : goal.invariant-loop-k
invariant-loop-k l = record {
  long : length l.bytes ≡ 8;
  same : (i : ℕ) → i < l.k → slice_index l.bytes i ≡ slice_index l.text i;
}

-- The numbers passed are put, and all of them and the newline fit.
use Rattle.std.proofs.Common.{◌≤◌, ◌+◌, length}
use mathlib.Core.List.{flat_map}
use Rattle.fields.specs.Puts.{PutsAs, value_text}
use Rattle.fields.proofs.Pieces.{pieces}
use Rattle.fields.proofs.put_values.Given as goal

abbrev pub invariant-loop-n : goal.invariant-loop-n
invariant-loop-n l = record {
  room : l.at + length (flat_map value_text l.values) + 1 ≤ length l.initial.out;
  put : PutsAs (pieces value_text l.values l.n-index) l.at l.initial.out l.place l.out;
}

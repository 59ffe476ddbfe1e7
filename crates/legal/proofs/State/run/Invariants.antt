-- The places below `j` are written.
use Rattle.std.proofs.Common.{◌≡◌, ℕ, ◌<◌, cond, slice_index, nat_eq}
use Rattle.legal.proofs.State.run.Given as goal

abbrev pub invariant-loop-j : goal.invariant-loop-j
invariant-loop-j l = (k : ℕ) → k < l.j
    → slice_index l.next-items k ≡ cond (nat_eq (slice_index l.notes.starter k) 0) (slice_index l.notes.first k) 0

-- What was read so far fits into the room. Each piece has a byte at least, so there is less room left after it.
use Rattle.std.proofs.Common.{length, ◌-◌, ◌≤◌}
use Rattle.shell.proofs.read_input.Given as goal

abbrev pub invariant-loop-n : goal.invariant-loop-n
invariant-loop-n g l = l.n ≤ length l.room

abbrev pub decreases-loop-n : goal.decreases-loop-n
decreases-loop-n g l = length l.room - l.n

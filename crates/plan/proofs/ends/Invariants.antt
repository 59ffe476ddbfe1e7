-- The jobs come up one by one, from job 2 on.
use Rattle.std.proofs.Common.{◌+◌, length}
use Rattle.plan.proofs.LastTests.{Low, Never}
use Rattle.plan.proofs.ends.Given as goal

abbrev pub invariant-loop-first : goal.invariant-loop-first
invariant-loop-first l =
    Low l.notes.first l.notes.starter (length l.yielded + 2) l.empty
    × Never l.notes.first l.notes.starter (length l.yielded + 2) l.never

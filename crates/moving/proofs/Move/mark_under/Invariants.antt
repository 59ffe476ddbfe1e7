-- The flags are those of the edited plan as far as line k, by the laws of `Marking`.
use Rattle.moving.specs.Tested.{Take}
use Rattle.moving.proofs.Marking.{Marks}
use Rattle.moving.proofs.Move.mark_under.Given as goal

abbrev pub invariant-loop-k : goal.invariant-loop-k
invariant-loop-k l =
    (t : Take l.plan l.fn.self.at l.fn.self.device)
    → Marks l.plan l.fn.self.at l.fn.self.device t l.fresh l.again l.deep l.k

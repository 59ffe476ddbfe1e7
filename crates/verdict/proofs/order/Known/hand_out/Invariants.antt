-- With so many lines done the places, the counts and the sets tell of them, and they are the front of the order; the
-- last of them is a line of the plan, after which a job goes on, if one does.
use Rattle.std.proofs.Common.{◌<◌, length, take}
use Rattle.std.specs.Option.{ForSome}
use Rattle.verdict.specs.Waiting.{goes_after}
use Rattle.verdict.proofs.Loop.{Handing}
use Rattle.verdict.proofs.order.Known.hand_out.Given as goal

abbrev pub invariant-loop-number : goal.invariant-loop-number
invariant-loop-number l =
    ForSome l.last (λ i. i < length l.self.plan.now)
    × Handing l.self.plan.now (take (length l.self.plan.now) l.fn.order) l.number-items l.standing.places
    l.standing.counts l.standing.waiting (goes_after l.self.plan.now l.last) l.number-index

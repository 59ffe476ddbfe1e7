-- What is found leads back, and what leads back is found or left.
use Rattle.rows.specs.Search.{Underway}
use Rattle.rows.proofs.circles.Given as goal

abbrev pub invariant-loop-search : goal.invariant-loop-search
invariant-loop-search l = Underway l.rows l.search

abbrev pub decreases-loop-search : goal.decreases-loop-search
decreases-loop-search l = l.search.left

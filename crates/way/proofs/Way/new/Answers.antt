-- The way begins at the line, or has none.
use Rattle.std.proofs.Common.{ap}
use Rattle.way.specs.Back.{way_from, way_by}
use Rattle.way.proofs.Walks.{begins}
use Rattle.way.proofs.Way.new.Goals as goal

pub returns : goal.returns
unfolding way_by
returns c =
    let a = c.args in
    ap (λ n. way_from a.plan.now a.starter.now n)
    (rw (c.then_some-next.ensures, c.min.ensures) (begins a.plan.now a.sets.now a.i))

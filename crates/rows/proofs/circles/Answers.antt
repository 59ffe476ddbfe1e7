use Rattle.rows.proofs.Finding.{all_found}
use Rattle.rows.proofs.circles.Goals as goal

pub returns : goal.returns
returns c =
    let l = c.loop-search in
    all_found c.args.rows.now l.search.found (rw c.loop-search-test.false at l.invariant.searching)

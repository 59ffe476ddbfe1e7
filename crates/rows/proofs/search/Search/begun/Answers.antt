use Rattle.rows.proofs.Finding.{searching_begins}
use Rattle.rows.proofs.search.Search.begun.Goals as goal

-- all that lead back stand in rows, and none of them is taken away
pub returns : goal.returns
returns c = record {
  below = c.trim.ensures.below;
  searching = searching_begins c.args.rows.now c.trim.result (rw c.in_rows.ensures at c.trim.ensures);
}

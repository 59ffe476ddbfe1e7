-- Each of the two sets so far is that from device d on.
use Rattle.std.proofs.Common.{◌≡◌}
use Rattle.model.specs.Board.{devices}
use Rattle.rows.specs.Search.{row_in}
use Rattle.rows.proofs.Where.{joined_from}
use Rattle.rows.proofs.Looked.{into_at}
use Rattle.rows.proofs.search.look.Given as goal

abbrev pub invariant-loop-d : goal.invariant-loop-d
invariant-loop-d l = record {
  into : l.into ≡ joined_from devices (into_at l.rows l.within l.s) l.d;
  onto : l.onto ≡ joined_from devices (row_in l.rows l.within) l.d;
}

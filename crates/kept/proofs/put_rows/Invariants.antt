-- The rows put so far stand in front of the lent ones.
use Rattle.kept.specs.Keeping.{new_rows}
use Rattle.kept.proofs.Lists.{PutTo}
use Rattle.kept.proofs.put_rows.Given as goal

abbrev pub invariant-loop-d : goal.invariant-loop-d
invariant-loop-d l = PutTo (new_rows l.these l.made l.fn.rows) l.fn.rows l.rows l.d

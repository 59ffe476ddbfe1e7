-- Past the list nothing is stored.
use Rattle.std.proofs.Common.{sym}
use lib.Seq.{set_out}
use Rattle.rows.proofs.store.Goals as goal

pub returns-else-i-table : goal.returns-else-i-table
returns-else-i-table c = let a = c.args in sym (set_out a.table.now a.i a.s c.if-i-table.false)

-- The set of the devices that lead back to themselves (01, "Claims and rows").
use Rattle.std.specs.Prelude.{ℕ, List, length}
use Rattle.model.specs.Sets.{devices_where}
use Rattle.model.specs.Rows.{leads_back}

-- the devices that lead back to themselves by the rows
unfoldable pub circles_of : List ℕ → ℕ
unfolding devices_where leads_back
circles_of rs = devices_where (length rs) (leads_back rs)

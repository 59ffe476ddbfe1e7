-- `fields::put_value` meets its contract: a tab, and the digits behind it.
use Rattle.fields.proofs.Putting.{put_both}
use Rattle.fields.proofs.put_value.Goals as goal

pub returns : goal.returns
returns c = put_both c.put_byte-a.ensures (rw c.from.ensures at c.put_number.ensures) c.requires

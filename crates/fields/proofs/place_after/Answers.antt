-- `fields::place_after` meets its contract: the sum, where there is one within the room.
use Rattle.std.proofs.Common.{arith}
use Rattle.std.proofs.lemmas.Grind.{common_steps}
use Rattle.fields.proofs.Putting.{within, beyond}
use Rattle.fields.proofs.place_after.Goals as goal

pub returns-in-Some : goal.returns-in-Some
returns-in-Some c =
    let a = c.args in grind (arith, common_steps, within a.room a.at a.count)

pub returns-in_default : goal.returns-in_default
returns-in_default c =
    let a = c.args in grind (arith, common_steps, beyond a.room a.at a.count)

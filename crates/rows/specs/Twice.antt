-- Of some sets, the devices that are in two of them (02, request 4): by what each job holds after its last line these
-- are the devices with two lasting takes, as those in one of them are the devices held to the end. (Shown in proofs/.)
use Rattle.std.specs.Prelude.{ℕ, List, [], ◌∷◌}
use Rattle.model.specs.Sets.{empty, union, union_of}
use Rattle.sets.specs.Both.{both}

unfoldable pub twice_in : List ℕ → ℕ
unfolding empty union union_of both
twice_in [] = empty
twice_in (s ∷ ss) = union (both s (union_of ss)) (twice_in ss)

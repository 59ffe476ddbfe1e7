-- The devices of some lines that have a flag, joined one after the other to those of a set (02, request 4).
use Rattle.std.specs.Prelude.{ℕ, cond, List, [], ◌∷◌, eqb, get_or}
use Rattle.model.specs.Board.{devices}
use Rattle.model.specs.Line.{operand, at}
use Rattle.model.specs.Sets.{empty, union}
use Rattle.sets.specs.Only.{only_of}

unfoldable pub flagged_by : List ℕ → List ℕ → List ℕ → ℕ → ℕ
unfolding union only_of operand empty
flagged_by p flags [] s = s
flagged_by p flags (k ∷ is) s =
    flagged_by p flags is (union (cond (eqb (get_or flags k 0) 1) (only_of devices (operand (at p k))) empty) s)

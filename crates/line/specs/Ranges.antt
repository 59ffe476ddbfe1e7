-- The lowest and the highest operand of a kind (01, the table of "The plan as text"): do is 0, take 1, give 2, start 3.
use Rattle.std.specs.Prelude.{ℕ, ◌-◌, cond, eqb}
use Rattle.model.specs.Board.{devices}
use Rattle.model.specs.Line.{max_job}

abbrev pub lowest_operand : ℕ → ℕ
lowest_operand k = cond (eqb k 3) 2 0

abbrev pub highest_operand : ℕ → ℕ
highest_operand k = cond (eqb k 0) 255 (cond (eqb k 3) max_job (devices - 1))

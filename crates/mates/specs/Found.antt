-- A definition's option as the code's, for a position that may be found; and one line's part in the search for a mate.
use Rattle.std.specs.Prelude.{ℕ, suc, ◌-◌, cond, eqb, Option, Some, None}
use Rattle.std.proofs.Math.Option.{none, some}
use Rattle.std.proofs.Math.Option as maths
use Rattle.model.specs.Line.{opens, is_give}

abbrev pub found : maths.Option ℕ → Option ℕ
found none = None
found (some i) = Some i

-- a take or a held line goes one deeper; a give comes one back, and at depth 0 it is the mate
abbrev pub passed_by : ℕ → ℕ → Option ℕ
passed_by l depth =
    cond (opens l) (Some (suc depth))
    (cond (is_give l) (cond (eqb depth 0) None (Some (depth - 1))) (Some depth))

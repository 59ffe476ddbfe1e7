-- The way as the code's iterator goes along it: the lines that are left of it.
use Rattle.std.specs.Prelude.{ℕ, suc, List, Option, Some, None}
use Rattle.way.specs.declared.Way.{Way}
use Rattle.way.specs.Back.{way_from}

-- the number of a line that may be there; 0 of none
abbrev pub number_of : Option ℕ → ℕ
number_of None = 0
number_of (Some i) = suc i

abbrev pub lines_left : Way → List ℕ
lines_left w = way_from w.plan.now w.starter.now (number_of w.next)

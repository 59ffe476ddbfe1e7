-- A flag for each line (02, request 2): 1 where it takes again what its job holds, or gives such a take back, else 0;
-- past the plan 0.
use Rattle.std.specs.Prelude.{ℕ, cond, List, map, replicate}
use Rattle.model.specs.Lists.{up_from}
use Rattle.model.specs.Line.{max_lines}
use Rattle.theory.specs.Outer.{again_at}

unfoldable pub again_flag : List ℕ → ℕ → ℕ
unfolding again_at
again_flag p i = cond (again_at p i) 1 0

unfoldable pub again_flags : List ℕ → List ℕ
unfolding again_flag up_from
again_flags p = map (again_flag p) (up_from 0 max_lines)

-- no flag
abbrev pub none_again : List ℕ
none_again = replicate max_lines 0

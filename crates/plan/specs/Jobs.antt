-- The first line of each job and the line that starts it, by line numbers from 1; 0 where there is none. Entry j is
-- job j's.
use Rattle.std.specs.Prelude.{ℕ, suc, List, [], ◌∷◌, map}
use Rattle.std.proofs.Math.Option.{Option, none, some}
use Rattle.model.specs.Lists.{up_from, positions, first_of}
use Rattle.model.specs.Line.{starts, at, line_number, first_line, max_job}

unfoldable pub number_of_first : List ℕ → ℕ
unfolding line_number
number_of_first [] = 0
number_of_first (i ∷ is) = line_number i

unfoldable pub number_of_found : Option ℕ → ℕ
unfolding line_number
number_of_found none = 0
number_of_found (some i) = line_number i

unfoldable pub first_lines : List ℕ → List ℕ
unfolding number_of_first first_line up_from
first_lines p = map (λ j. number_of_first (first_line j p)) (up_from 0 (suc max_job))

unfoldable pub starters : List ℕ → List ℕ
unfolding number_of_found first_of positions starts up_from
starters p = map (λ j. number_of_found (first_of (λ i. starts (at p i) j) (positions p))) (up_from 0 (suc max_job))

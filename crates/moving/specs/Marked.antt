-- The flags of the lines that take again, while a take is moved (02, request 2): under the take those of the edited
-- plan, elsewhere still those of the plan.
use Rattle.std.specs.Prelude.{ℕ, ◌<◌, ◌≤◌, List, ◌≡◌, length, get_or}
use Rattle.model.specs.Line.{max_lines}
use Rattle.model.specs.Move.{edited}
use Rattle.plan.specs.Again.{again_flag}

-- of the lines after the take at i, as far as position k
pub record Marked (p : List ℕ) (i device k : ℕ) (again : List ℕ) : Type 0 where
  pub long : length again ≡ max_lines
  pub under : (x : ℕ) → i < x → x < k → get_or again x 0 ≡ again_flag (edited p i device) x
  pub up_to : (x : ℕ) → x ≤ i → get_or again x 0 ≡ again_flag p x
  pub after : (x : ℕ) → k ≤ x → x < max_lines → get_or again x 0 ≡ again_flag p x

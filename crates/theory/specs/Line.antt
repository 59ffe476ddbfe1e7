-- The word in which theory says which operands a verb has (01, "The plan as text", its table, and 02, request 5).
use Rattle.std.specs.Prelude.{ℕ, ◌<◌, ◌≤◌, true, ◌⊎◌, ◌≡◌}
use Rattle.model.specs.Line.{Settings, held_verb, max_job}

-- what its verb says of an operand
pub data Fits (S : Settings) (v o : ℕ) : Type 0 where
  of_do : v ≡ 0 → o ≤ 255 → Fits S v o
  of_device : (v ≡ 1) ⊎ (v ≡ 2) → o < S.devices → Fits S v o
  of_held : v ≡ held_verb → S.midday ≡ true → o < S.devices → Fits S v o
  of_start : v ≡ 3 → 2 ≤ o → o ≤ max_job → Fits S v o

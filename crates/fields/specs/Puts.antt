-- 01, "The plan as text" and "Plans with their verdicts": bytes put into a lent buffer, all of them or none. A put is
-- answered with the place past it, or, where it does not fit, with the place one past the buffer's end: from there on
-- nothing fits, not even no bytes.
use Rattle.std.specs.Prelude.{ℕ, suc, ◌+◌, cond, ◌≡◌, leb, length, take, drop}
use mathlib.Core.List.{List, [], ◌∷◌, ◌++◌, flat_map}
use Rattle.model.specs.Text.{tab, newline, decimal}

-- the place past so many bytes in so much room
unfoldable pub place_after : ℕ → ℕ → ℕ → ℕ
place_after room at count = cond (leb (at + count) room) (at + count) (suc room)

-- the buffer with new bytes at a place
unfoldable pub with_bytes : List ℕ → ℕ → List ℕ → List ℕ
with_bytes new at old =
    cond (leb (at + length new) (length old)) (take at old ++ new ++ drop (at + length new) old) old

pub record PutsAs (new : List ℕ) (at : ℕ) (old : List ℕ) (past : ℕ) (made : List ℕ) : Type 0 where
  pub answers : past ≡ place_after (length old) at (length new)
  pub leaves : made ≡ with_bytes new at old

-- a number behind a tab, and such numbers with a newline: what a printed line has behind its word
abbrev pub value_text : ℕ → List ℕ
value_text n = tab ∷ decimal n

unfoldable pub values_text : List ℕ → List ℕ
unfolding decimal flat_map
values_text values = flat_map value_text values ++ (newline ∷ [])

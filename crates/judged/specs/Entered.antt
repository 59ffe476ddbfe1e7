-- 02, request 1: the entries of a text, one a line, and as many of them in a list as decide.
use Rattle.std.specs.Prelude.{ℕ, ◌≤◌, List, map, ◌≡◌, length, take}
use Rattle.model.specs.Line.{max_lines}
use Rattle.model.specs.Text.{lines_of}
use Rattle.model.specs.Judged.{stray, entry_of}

abbrev pub entries_in : List ℕ → List ℕ
entries_in text = map entry_of (lines_of text)

-- for every plan of at most 1,024 lines the front of the list goes wrong where the entries of the text do
pub record Gathers (text : List ℕ) (count : ℕ) (left : List ℕ) : Type 0 where
  pub within : count ≤ length left
  pub same : (p : List ℕ) → length p ≤ max_lines → stray p (entries_in text) ≡ stray p (take count left)

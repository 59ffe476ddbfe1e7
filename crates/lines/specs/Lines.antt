-- 01, "The plan as text" (the line reader, asked once): the line at a place of a text, by the text that lines
-- have, and what the reader hands out there.
use Rattle.std.specs.Prelude.{Option, Some, None}
use Rattle.std.specs.Prelude.{ℕ, ◌+◌, true, List, ◌++◌, ◌≡◌, length, drop}
use Rattle.model.specs.Line.{Settings, is_line}
use Rattle.model.specs.Text.{lines_of, line_text, handed_line}
use Rattle.model.specs.declared.LineAnswer.{LineAnswer}
use Rattle.fields.specs.declared.Number.{Number}

-- line n stands at place i of a text
pub record LineThere (S : Settings) (text : List ℕ) (i n : ℕ) : Type 0 where
  pub rest : List ℕ
  pub line : is_line S n ≡ true
  pub whole : drop i text ≡ line_text n ++ rest

abbrev pub SpeltAt : Settings → List ℕ → ℕ → Option Number → Type 0
SpeltAt S text i (Some l) = LineThere S text i l.value × (l.past ≡ i + length (line_text l.value))
SpeltAt S text i None = (n : ℕ) → LineThere S text i n → ⊥

-- what the reader hands out at place i, after n lines
abbrev pub handed_at : Settings → List ℕ → ℕ → ℕ → LineAnswer
handed_at S text i n = handed_line S (record { offset = i; lines = n }) (lines_of (drop i text))

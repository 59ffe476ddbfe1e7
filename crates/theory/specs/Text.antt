-- The words in which theory says what the line reader hands out (01, "The plan as text"), and what is broken in a text
-- (01, "Refusal numbers", 1).
use Rattle.std.specs.Prelude.{ℕ, suc, ◌<◌, ◌≤◌, true, List, ◌≢◌, ◌≡◌, length, get_or}
use Rattle.model.specs.Line.{Settings, is_line, at, max_bytes}
use Rattle.model.specs.Text.{newline, spelt}
use Rattle.model.specs.declared.Refusal.{Refusal}
use Rattle.model.specs.declared.Refusal.TheVariants.{TextTooLong}
use Rattle.model.specs.declared.LineAnswer.{LineAnswer}
use Rattle.theory.specs.WellFormed.{Broken}

-- each number of a plan is a line's
abbrev pub AllLines : Settings → List ℕ → Type 0
AllLines S p = (i : ℕ) → i < length p → is_line S (at p i) ≡ true

-- the first n numbers that a text spells are lines'
abbrev pub FirstLines : Settings → List ℕ → ℕ → Type 0
FirstLines S text n = (i : ℕ) → i < n → is_line S (at (spelt S text) i) ≡ true

-- an answer that hands out no line
pub data NoLine : LineAnswer → Type 0 where
  refused : (r : Refusal) → NoLine (LineAnswer.Refused r)
  ended : NoLine LineAnswer.End

-- a place just past the first newline from an offset on
pub record PastNewline (text : List ℕ) (offset place : ℕ) : Type 0 where
  pub newline_at : ℕ
  pub from : offset ≤ newline_at
  pub past : place ≡ suc newline_at
  pub is_newline : get_or text newline_at 0 ≡ newline
  pub none_before : (i : ℕ) → offset ≤ i → i < newline_at → get_or text i 0 ≢ newline

-- what is broken in a text: its length, or else what is broken in the plan that it spells
pub data TextBroken (S : Settings) (text : List ℕ) : Refusal → Type 0 where
  too_long : max_bytes < length text → TextBroken S text TextTooLong
  spells : (r : Refusal) → length text ≤ max_bytes → Broken S (spelt S text) r → TextBroken S text r

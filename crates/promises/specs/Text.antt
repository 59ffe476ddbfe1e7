-- What the line reader, reading and writing promise (01, "The plan as text" and "Refusal numbers"), and the words for
-- what follows. `S` is what the reader goes by: in the morning as 01 says, at midday as 02, request 5, says; so each
-- promise here and in the files beside this one is one for both readers. `text` or `plan` is what is read from, `lent`
-- the list as it came, `left` the list as it is left.
use Rattle.std.specs.Prelude.{ℕ, suc, ◌<◌, ◌≤◌, true, false, List, ◌≡◌, length}
use Rattle.std.specs.Prelude.{Result}
use Rattle.model.specs.Answers.{line_values, answer_values}
use Rattle.model.specs.Line.{Settings, is_line, at, line_number, max_lines, max_bytes}
use Rattle.model.specs.Text.{spelt, text_of, next_line, cursor_after, cursor_from, line_from}
use Rattle.model.specs.WellFormed.{WellFormed}
use Rattle.model.specs.Entries.{reading, writing}
use Rattle.model.specs.declared.Refusal.{Refusal}
use Rattle.model.specs.declared.Refusal.TheVariants.{TextTooLong, Malformed, TooManyLines}
use Rattle.model.specs.declared.Cursor.{Cursor}
use Rattle.model.specs.declared.LineAnswer.{LineAnswer}
use Rattle.theory.specs.WellFormed.{Broken}
use Rattle.theory.specs.Text.{TextBroken}
use Rattle.promises.specs.Outcome.{Meets, Listed, NoFurther, Fills}

-- the line reader is lent nothing to write to
pub record HandsOutAs (S : Settings) (text : List ℕ) (cursor : Cursor) (answer : LineAnswer) : Type 0 where
  pub answers : line_values answer ≡ line_values (next_line S text cursor)

abbrev pub ReadsAs : Settings → List ℕ → List ℕ → Result ℕ Refusal → List ℕ → Type 0
ReadsAs S text lent answer left = Meets answer_values (reading S text lent) answer left

abbrev pub WritesAs : Settings → List ℕ → List ℕ → Result ℕ Refusal → List ℕ → Type 0
WritesAs S plan lent answer left = Meets answer_values (writing S plan lent) answer left

-- ---- reading and writing

-- a text that is not too long and spells a well-formed plan
abbrev pub SoundText : Settings → List ℕ → Type 0
SoundText S text = (length text ≤ max_bytes) × WellFormed S (spelt S text)

-- why a text is not read: 1 to 7, 16 or 17; or, where nothing is broken, 11 (6 in the morning alone, 16 and 17 at
-- midday alone, here and below)
abbrev pub NotRead : Settings → List ℕ → List ℕ → Refusal → Type 0
NotRead S text lent =
    Listed (SoundText S text) (TextBroken S text) (length lent) (length (spelt S text)) NoFurther

-- why a plan is not written: 2 to 7, 16 or 17; or, where nothing is broken, 11
abbrev pub NotWritten : Settings → List ℕ → List ℕ → Refusal → Type 0
NotWritten S plan lent =
    Listed (WellFormed S plan) (Broken S plan) (length lent) (length (text_of plan)) NoFurther

abbrev pub IsRead : Settings → List ℕ → List ℕ → ℕ → List ℕ → Type 0
IsRead S text lent count left = Fills (SoundText S text) (spelt S text) lent count left

abbrev pub IsWritten : Settings → List ℕ → List ℕ → ℕ → List ℕ → Type 0
IsWritten S plan lent count left = Fills (WellFormed S plan) (text_of plan) lent count left

-- ---- the reader of a text and an offset

-- One that is asked again and again: it begins before the first line, answers with the line at its offset, and goes on
-- to the offset past a line that it handed out.
pub record Asked (S : Settings) (text : List ℕ) (offset : ℕ → ℕ) (answer : ℕ → LineAnswer) : Type 0 where
  pub begins : offset 0 ≡ 0
  pub answers : (k : ℕ) → answer k ≡ line_from S text (offset k)
  pub goes_on : (k : ℕ) → offset (suc k) ≡ (cursor_after (cursor_from text (offset k)) (answer k)).offset

-- What comes after n lines of a text: 1, where the text is too long; otherwise the next line, with the number that
-- reading takes for it; or 3 or 2; or, nothing being left, the end. No two of these hold at once.
pub data Comes (S : Settings) (text : List ℕ) (n : ℕ) : LineAnswer → Type 0 where
  too_long : max_bytes < length text → Comes S text n (LineAnswer.Refused TextTooLong)
  too_many : length text ≤ max_bytes → max_lines ≤ n → n < length (spelt S text)
      → Comes S text n (LineAnswer.Refused TooManyLines)
  malformed : length text ≤ max_bytes → n < max_lines → n < length (spelt S text)
      → is_line S (at (spelt S text) n) ≡ false
      → Comes S text n (LineAnswer.Refused (Malformed (line_number n)))
  line : (next : Cursor) → length text ≤ max_bytes → n < max_lines → is_line S (at (spelt S text) n) ≡ true
      → Comes S text n (LineAnswer.Line (at (spelt S text) n) next)
  end : length text ≤ max_bytes → length (spelt S text) ≡ n → Comes S text n LineAnswer.End

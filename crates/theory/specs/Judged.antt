-- The words in which theory says why an order from elsewhere is not legal (02, request 1): up to an entry every entry
-- may come, and that one may not, or is missing. Then the same of a text with a plan and entries.
use Rattle.std.specs.Prelude.{ℕ, suc, ◌<◌, ◌≤◌, false, List, [], ◌∷◌, ◌++◌, map, ◌≡◌, length}
use Rattle.model.specs.Lists.{has}
use Rattle.model.specs.Line.{Settings, line_number, max_bytes}
use Rattle.model.specs.Text.{lines_of, spelt}
use Rattle.model.specs.WellFormed.{WellFormed}
use Rattle.model.specs.Mate.{held_lines}
use Rattle.model.specs.Legal.{MayFollow, Follow, Legal}
use Rattle.model.specs.Judged.{plan_part, entries_of}
use Rattle.model.specs.declared.Refusal.{Refusal}
use Rattle.model.specs.declared.Refusal.TheVariants.{IllegalStep}
use Rattle.theory.specs.Text.{TextBroken}

-- entries are the line numbers of a legal order
pub record LegalEntries (p es : List ℕ) : Type 0 where
  pub order : List ℕ
  pub numbers : es ≡ map line_number order
  pub legal : Legal p order

-- after the lines done, the entries left go wrong at once: the first is the number of no line that may follow, or there
-- is none although a line is undone
pub data Wrong (p done : List ℕ) : List ℕ → Type 0 where
  stops : (i : ℕ) → i < length p → has i done ≡ false → Wrong p done []
  strays : (e : ℕ) (es : List ℕ) → ((i : ℕ) → e ≡ line_number i → MayFollow p done i → ⊥) → Wrong p done (e ∷ es)

-- the list first goes wrong at this position, from 1: the entries before it may follow, one after another, from the
-- state in which the held lines are done, and the one there may not, or is missing
pub record StrayAt (p es : List ℕ) (position : ℕ) : Type 0 where
  pub before : List ℕ
  pub rest : List ℕ
  pub entries : es ≡ map line_number before ++ rest
  pub counted : position ≡ suc (length before)
  pub follow : Follow p (held_lines p) before
  pub wrong : Wrong p (held_lines p ++ before) rest

-- ---- a text with a plan and entries

-- its plan's part, the plan that this spells, and its entries
abbrev pub plan_text : List ℕ → List ℕ
plan_text text = plan_part (lines_of text)

abbrev pub plan_of : Settings → List ℕ → List ℕ
plan_of S text = spelt S (plan_text text)

abbrev pub list_of : List ℕ → List ℕ
list_of text = entries_of (lines_of text)

-- nothing is wrong with it
pub record TextPasses (S : Settings) (text : List ℕ) : Type 0 where
  pub short : length (plan_text text) ≤ max_bytes
  pub plan : WellFormed S (plan_of S text)
  pub entries : LegalEntries (plan_of S text) (list_of text)

-- what is wrong with it: the plan's part, or else the entries
pub data TextWrong (S : Settings) (text : List ℕ) : Refusal → Type 0 where
  faulty : (r : Refusal) → TextBroken S (plan_text text) r → TextWrong S text r
  astray : (position : ℕ) → length (plan_text text) ≤ max_bytes → WellFormed S (plan_of S text)
      → StrayAt (plan_of S text) (list_of text) position → TextWrong S text (IllegalStep position)

-- 01, "Plans with their verdicts", its last part: what `order` prints for a text, and the screens' entry.
use Rattle.std.specs.Prelude.{ℕ, Bool, true, false, ltb, length}
use mathlib.Core.List.{List, [], ◌∷◌, ◌++◌, map, flat_map}
use Rattle.std.proofs.Math.Option.{Option, none, some}
use Rattle.model.specs.Lists.{over}
use Rattle.model.specs.Answers.{refusal_values, first_refusal}
use Rattle.model.specs.Line.{Settings, line_number}
use Rattle.model.specs.Text.{decimal, tabbed, spelt}
use Rattle.model.specs.Handed.{handed}
use Rattle.model.specs.Verdict.{no_order, held_at_end}
use Rattle.model.specs.Entries.{text_fault}
use Rattle.model.specs.declared.Refusal.{Refusal}

-- the words order and refused
unfoldable pub order_word : List ℕ
order_word = 111 ∷ 114 ∷ 100 ∷ 101 ∷ 114 ∷ []

unfoldable pub refused_word : List ℕ
refused_word = 114 ∷ 101 ∷ 102 ∷ 117 ∷ 115 ∷ 101 ∷ 100 ∷ []

-- a line of a word and numbers
unfoldable pub printed_line : List ℕ → List ℕ → List ℕ
unfolding tabbed decimal
printed_line word values = tabbed (word ∷ map decimal values)

unfoldable pub printed_refusal : Refusal → List ℕ
unfolding printed_line refused_word
printed_refusal r = printed_line refused_word (refusal_values r)

-- first how many steps and how many devices stay held, then the order, a number to a line
unfoldable pub printed_order : List ℕ → ℕ → List ℕ
unfolding printed_line order_word tabbed decimal flat_map
printed_order order still_held =
    printed_line order_word (length order ∷ still_held ∷ []) ++ flat_map (λ n. tabbed (decimal n ∷ [])) order

unfoldable pub printed_by : Option Refusal → List ℕ → ℕ → List ℕ
unfolding printed_order printed_refusal
printed_by none order still_held = printed_order order still_held
printed_by (some r) order still_held = printed_refusal r

-- what `order` prints for a text, and at midday `resume`
unfoldable pub printed : Settings → List ℕ → List ℕ
unfolding printed_by first_refusal text_fault no_order spelt handed held_at_end line_number
printed S text =
    let p : List ℕ = spelt S text in
    printed_by (first_refusal (text_fault S text ∷ no_order S.devices p ∷ []))
    (map line_number (handed p)) (held_at_end S.devices p)

-- The screens' entry: the number of bytes written, and the buffer. Under 4,027 bytes the number is 0 and the buffer
-- stays as it was. No print is longer: its first line has 14 bytes at most, and the numbers 1 to 1,024 have 4,013.
abbrev pub screen_room : ℕ
screen_room = 4027

pub record ScreenOutcome : Type 0 where
  pub count : ℕ
  pub out : List ℕ

unfoldable pub screen_by : Bool → List ℕ → List ℕ → ScreenOutcome
unfolding over
screen_by true bytes lent = record { count = 0; out = lent }
screen_by false bytes lent = record { count = length bytes; out = over bytes lent }

unfoldable pub screening : Settings → List ℕ → List ℕ → ScreenOutcome
unfolding screen_by printed
screening S text lent = screen_by (ltb (length lent) screen_room) (printed S text) lent

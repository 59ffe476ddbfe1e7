-- 01, "Plans with their verdicts", its last part: an order, put piece by piece.
use Prim.Native.Nat.{ℕ, ◌+◌, ◌≤◌, ◌<◌}
use mathlib.Core.List.{List, [], ◌∷◌, ◌++◌, flat_map}
use mathlib.Core.Path.{◌≡◌, refl, ◌∙◌, ap}
use native.Mathlib.Omega.{arith}
use lib.ListN.{length, get_or, length-append}
use Rattle.model.specs.Text.{newline, decimal, tabbed}
use Rattle.model.specs.Printed.{order_word, printed_line, printed_order}
use Rattle.fields.specs.Puts.{PutsAs, values_text}
use Rattle.fields.proofs.Putting.{kept, moves, put_none, put_at_start, put_both}
use Rattle.fields.proofs.Pieces.{pieces, pieces_all, put_more, printed_line_lem}
use Rattle.screen.specs.Shows.{ShowsAs}

-- an order is its first line and the others
whole : (order : List ℕ) (held : ℕ)
    → printed_order order held
    ≡ printed_line order_word (length order ∷ held ∷ []) ++ flat_map (λ n. tabbed (decimal n ∷ [])) order
unfolding printed_order
whole order held = refl

-- ---- bytes put from the start of the buffer on

pub shown : {bytes lent : List ℕ} {n : ℕ} {left : List ℕ} → PutsAs bytes 0 lent n left → ShowsAs bytes lent n left
shown x h = put_at_start x (omega (arith, moves x (omega arith)))

-- a line of a word and numbers
line : (values : List ℕ) {word old : List ℕ} {p : ℕ} {mid : List ℕ} {q : ℕ} {made : List ℕ} → PutsAs word 0 old p mid
    → PutsAs (values_text values) p mid q made → length (printed_line word values) ≤ length old
    → PutsAs (printed_line word values) 0 old q made
line values {word} x y h =
    let e = printed_line_lem values word in rw e (put_both x y (omega (arith, ap length e)))

-- ---- an order: its first line, and its numbers, one to a line

abbrev number_line : ℕ → List ℕ
number_line n = tabbed (decimal n ∷ [])

-- the first i numbers stand behind a place from which all of them fit
abbrev pub Listed : List ℕ → ℕ → ℕ → List ℕ → ℕ → List ℕ → Type 0
Listed order i from old past made =
    from + length (flat_map number_line order) ≤ length old → PutsAs (pieces number_line order i) from old past made

pub listed_none : (order : List ℕ) (from : ℕ) (old : List ℕ) → Listed order 0 from old from old
unfolding flat_map
listed_none order from old fits = put_none from old (omega arith)

module _ (order : List ℕ) (i : ℕ) {old : List ℕ} {p : ℕ} {mid : List ℕ} {q : ℕ} {made : List ℕ} where
  pub listed_more : {from : ℕ} → i < length order → Listed order i from old p mid
      → PutsAs (decimal (get_or order i 0) ++ (newline ∷ [])) p mid q made → Listed order (i + 1) from old q made
  unfolding tabbed
  listed_more h x y fits = put_more number_line order i h (x fits) fits y

  pub order_shown : (held : ℕ) {s : ℕ} {left : List ℕ} → length order ≤ i → PutsAs order_word 0 old p mid
      → PutsAs (values_text (length order ∷ held ∷ [])) p mid q made → Listed order i q made s left
      → ShowsAs (printed_order order held) old s left
  order_shown held h x y z fits =
      let first = printed_line order_word (length order ∷ held ∷ []) in
      let all : printed_order order held ≡ first ++ flat_map number_line order = whole order held in
      let room = ap length all ∙ length-append first (flat_map number_line order) in
      let f = line (length order ∷ held ∷ []) x y (omega arith) in
      let g = rw (pieces_all number_line order i h) at (z (omega (arith, kept f, moves f (omega arith)))) in
      shown (rw all (put_both f g (omega (arith, ap length all)))) fits

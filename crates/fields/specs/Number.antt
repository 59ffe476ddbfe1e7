-- 01, "The plan as text" (its words on numbers): the number that stands in a text from a place up to the first byte
-- `end`. It is found by splitting, and read by `number` of model/Text.
use Rattle.std.specs.Prelude.{ℕ, ◌+◌, ◌-◌, ◌*◌, true, false, cond, List, [], ◌∷◌, eqb, leb, length, drop}
use Rattle.std.specs.Prelude.{Option, Some, None}
use Rattle.std.proofs.Math.Option as Math
use Rattle.std.proofs.Math.Option.{none, some}
use Rattle.model.specs.Lists.{has}
use Rattle.model.specs.Text.{is_digit, number}
use Rattle.fields.specs.declared.Number.{Number}

-- the bytes before the first `end`
unfoldable pub up_to : ℕ → List ℕ → List ℕ
up_to end [] = []
up_to end (b ∷ s) = elim (eqb end b) [ true ↦ [] | false ↦ b ∷ up_to end s ]

-- a number, if there is one and it is not over `most`
unfoldable pub at_most : ℕ → ℕ → Math.Option ℕ → Option Number
at_most most past none = None
at_most most past (some v) = cond (leb v most) (Some (record { value = v; past = past })) None

unfoldable pub number_at : List ℕ → ℕ → ℕ → ℕ → Option Number
unfolding up_to at_most has number
number_at text from end most =
    let rest : List ℕ = drop from text in
    let field : List ℕ = up_to end rest in
    cond (has end rest) (at_most most (from + length field + 1) (number field)) None

-- Digits and their value, one byte after another: words of the private function that reads them.
abbrev pub behind : Option ℕ → ℕ → Option ℕ
behind None d = Some d
behind (Some v) d = cond (eqb v 0) None (Some (v * 10 + d))

abbrev pub kept_below : ℕ → Option ℕ → Option ℕ
kept_below most None = None
kept_below most (Some v) = cond (leb v most) (Some v) None

unfoldable pub longer_by : Option ℕ → ℕ → ℕ → Option ℕ
unfolding is_digit
longer_by value b most = cond (is_digit b) (kept_below most (behind value (b - 48))) None

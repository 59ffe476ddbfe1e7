-- 01, "The plan as text" (the line reader, asked again and again): what `gather` promises. The numbers that the reader
-- hands out until it refuses or comes to the end are written to the lent list, from its first entry on; every other
-- entry stays as it was. (That an array behind a reference has 1,024 entries is not told to the proofs, so this is said
-- by the stores, for a list of any length; in one of 1,024 all have room, as proofs/Gathering.antt shows.)
use Rattle.std.specs.Prelude.{ℕ, suc, cond, List, [], ◌∷◌, ◌≡◌, leb, length}
use Rattle.std.specs.Prelude.{Result, Ok, Err}
use Rattle.std.proofs.Math.Option.{Option, none, some}
use Rattle.std.proofs.lemmas.List.Edits.{sets}
use Rattle.model.specs.Line.{Settings, line_number, max_lines}
use Rattle.model.specs.Text.{packed_line, lines_of}
use Rattle.model.specs.declared.Refusal.{Refusal}
use Rattle.model.specs.declared.Refusal.TheVariants.{Malformed, TooManyLines}
use Rattle.lines.specs.declared.Stopped.{Stopped}

-- of lines that stand after n others, the numbers handed out, and the refusal that comes then
unfoldable pub handed_out : Settings → ℕ → List (List ℕ) → List ℕ
unfolding packed_line
handed_out S n [] = []
handed_out S n (l ∷ ls) =
    cond (leb max_lines n) [] (elim (packed_line S l) [ none ↦ [] | some m ↦ m ∷ handed_out S (suc n) ls ])

unfoldable pub stops_with : Settings → ℕ → List (List ℕ) → Option Refusal
unfolding packed_line line_number
stops_with S n [] = none
stops_with S n (l ∷ ls) =
    cond (leb max_lines n) (some TooManyLines)
    (elim (packed_line S l) [ none ↦ some (Malformed (line_number n)) | some m ↦ stops_with S (suc n) ls ])

unfoldable pub gathered : ℕ → Option Refusal → Result ℕ Stopped
gathered n none = Ok n
gathered n (some r) = Err (record { lines = n; refusal = r })

pub record GathersAs (S : Settings) (text lent : List ℕ) (answer : Result ℕ Stopped) (left : List ℕ) : Type 0 where
  pub answers : answer ≡ gathered (length (handed_out S 0 (lines_of text))) (stops_with S 0 (lines_of text))
  pub leaves : left ≡ sets lent 0 (handed_out S 0 (lines_of text))

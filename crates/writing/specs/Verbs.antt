-- 01, "The plan as text": a verb as it is put, with as many bytes as the longest has. No promise rests on these words.
use Rattle.std.specs.Prelude.{ℕ, ◌+◌, ◌-◌, ◌≡◌, length, replicate}
use mathlib.Core.List.{List, ◌++◌}
use Rattle.model.specs.Text.{verb}
use Rattle.fields.specs.Puts.{with_bytes}

-- what stands behind a verb
abbrev pub spare : List ℕ → List ℕ
spare word = replicate (5 - length word) 0

-- its five bytes put, and the place past the verb's own
pub record Lays (k place : ℕ) (old : List ℕ) (past : ℕ) (made : List ℕ) : Type 0 where
  pub answers : past ≡ place + length (verb k)
  pub leaves : made ≡ with_bytes (verb k ++ spare (verb k)) place old

-- 01, "The plan as text" (a verb's bytes are exactly its name): the verb at a place. Its first letter tells which it
-- can be, since no two begin with the same; then its bytes are compared, as one number.
use Rattle.std.specs.Prelude.{ℕ, ◌+◌, ◌-◌, ◌*◌, ◌^◌, ◌%◌, Bool, true, false, cond, eqb, length}
use Rattle.std.specs.Prelude.{Option, Some, None}
use mathlib.Core.List.{List, [], ◌∷◌, ◌++◌, map, head_d}
use Rattle.std.proofs.Math.Option as Math
use Rattle.std.proofs.Math.Option.{none, some}
use Rattle.model.specs.Lists.{up_from, first_of}
use Rattle.model.specs.Text.{tab, verbs, verb}
use Rattle.fields.specs.declared.Number.{Number}
use Rattle.lines.specs.declared.Entry.{Entry}

-- a verb with the tab that ends it
unfoldable pub word : ℕ → List ℕ
unfolding verb
word k = verb k ++ (tab ∷ [])

-- a text begins with a word
unfoldable pub begins : List ℕ → List ℕ → Bool
begins [] s = true
begins (x ∷ w) [] = false
begins (x ∷ w) (b ∷ s) = cond (eqb b x) (begins w s) false

-- the kind of the verb that begins with a byte
unfoldable pub kind_by : ℕ → Math.Option ℕ
unfolding verb verbs first_of up_from head_d
kind_by b = first_of (λ k. eqb (head_d (verb k) 0) b) (up_from 0 (length verbs))

-- the verb at place i, with the place past it
unfoldable pub verb_of : ℕ → List ℕ → Math.Option ℕ → Option Number
unfolding begins word
verb_of i s none = None
verb_of i s (some k) = cond (begins (word k) s) (Some (record { value = k; past = i + length (word k) })) None

unfoldable pub verb_at : ℕ → List ℕ → Option Number
unfolding verb_of kind_by
verb_at i [] = None
verb_at i (b ∷ s) = verb_of i (b ∷ s) (kind_by b)

-- bytes as one number, the first lowest, and a word as the highest of eight bytes
unfoldable pub as_number : List ℕ → ℕ
as_number [] = 0
as_number (b ∷ s) = b + as_number s * 256

unfoldable pub highest_of : List ℕ → ℕ
unfolding as_number
highest_of w = as_number w * 2 ^ (64 - length w * 8) % 2 ^ 64

-- the two lists: by the last five bits of a verb's first byte its length and its number, 0 where they begin none; and
-- by its number its bytes
unfoldable pub letter_kind : ℕ → Math.Option ℕ
unfolding verb verbs first_of up_from head_d
letter_kind i = first_of (λ k. eqb (head_d (verb k) 0 % 32) i) (up_from 0 (length verbs))

abbrev pub entry_of : ℕ → List ℕ → Entry
entry_of k w = record { length = length w; verb = k }

unfoldable pub entry_by : Math.Option ℕ → Entry
unfolding word
entry_by none = record { length = 0; verb = 0 }
entry_by (some k) = entry_of k (word k)

unfoldable pub all_entries : List Entry
unfolding entry_by letter_kind up_from
all_entries = map (λ i. entry_by (letter_kind i)) (up_from 0 32)

unfoldable pub all_words : List ℕ
unfolding highest_of word up_from verbs
all_words = map (λ k. highest_of (word k)) (up_from 0 (length verbs))

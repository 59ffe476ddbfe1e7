-- 01, "The plan as text", with the verb that 02, request 5, adds: numbers, verbs, lines and the line reader, and the
-- text of a plan.
use Rattle.std.specs.Prelude.{ℕ, zero, suc, ◌+◌, ◌-◌, ◌*◌, ◌/◌, ◌%◌, Bool, true, false, cond, not, ◌&&◌, eqb, leb, ltb}
use Rattle.std.specs.Prelude.{length, get_or, take, drop}
use mathlib.Core.List.{List, [], ◌∷◌, ◌++◌, map, flat_map, get_last_d, drop_last}
use Rattle.std.proofs.Math.Option
use Rattle.std.proofs.Math.Option.{Option, none, some}
use Rattle.model.specs.Lists.{up_from, all, those, first_of, same}
use Rattle.model.specs.Line.{Settings, pack_verb, job, verb_of, device_of, line_fits, line_number, max_lines, max_bytes}
use Rattle.model.specs.declared.Refusal.TheVariants.{TextTooLong, Malformed, TooManyLines}
use Rattle.model.specs.declared.Cursor.{Cursor}
use Rattle.model.specs.declared.LineAnswer.{LineAnswer}

abbrev pub tab : ℕ
tab = 9

abbrev pub newline : ℕ
newline = 10

-- A number as text: digits, without a leading zero unless it is 0 itself.

unfoldable pub is_digit : ℕ → Bool
is_digit b = leb 48 b && leb b 57

unfoldable pub is_number : List ℕ → Bool
unfolding is_digit all
is_number [] = false
is_number (b ∷ []) = is_digit b
is_number (b ∷ c ∷ s) = not (eqb b 48) && all is_digit (b ∷ c ∷ s)

-- the value of digits, after digits of value v
unfoldable pub value_after : ℕ → List ℕ → ℕ
value_after v [] = v
value_after v (b ∷ s) = value_after (v * 10 + (b - 48)) s

unfoldable pub number : List ℕ → Option ℕ
unfolding is_number value_after
number s = cond (is_number s) (some (value_after 0 s)) none

-- the text of n, which has at most one digit more than steps
unfoldable pub decimal_in : ℕ → ℕ → List ℕ
decimal_in zero n = (48 + n % 10) ∷ []
decimal_in (suc steps) n =
    elim (ltb n 10) [ true ↦ (48 + n) ∷ [] | false ↦ decimal_in steps (n / 10) ++ ((48 + n % 10) ∷ []) ]

unfoldable pub decimal : ℕ → List ℕ
unfolding decimal_in
decimal n = decimal_in n n

-- The verbs, in the order of their numbers: do, take, give, start, held.

unfoldable pub verbs : List (List ℕ)
verbs =
    (100 ∷ 111 ∷ []) ∷ (116 ∷ 97 ∷ 107 ∷ 101 ∷ []) ∷ (103 ∷ 105 ∷ 118 ∷ 101 ∷ []) ∷ (115 ∷ 116 ∷ 97 ∷ 114 ∷ 116 ∷ [])
    ∷ (104 ∷ 101 ∷ 108 ∷ 100 ∷ []) ∷ []

unfoldable pub verb : ℕ → List ℕ
unfolding verbs
verb v = get_or verbs v []

-- the number of a verb, matched byte for byte
unfoldable pub verb_number : List ℕ → Option ℕ
unfolding first_of same verb up_from
verb_number s = first_of (λ v. same s (verb v)) (up_from 0 5)

-- Lines and fields.

unfoldable pub in_front : ℕ → List (List ℕ) → List (List ℕ)
in_front b [] = (b ∷ []) ∷ []
in_front b (l ∷ ls) = (b ∷ l) ∷ ls

-- the lines of a text, each with the newline that ends it; the last may lack its own
unfoldable pub lines_of : List ℕ → List (List ℕ)
unfolding in_front
lines_of [] = []
lines_of (b ∷ s) = elim (eqb b newline) [ true ↦ (b ∷ []) ∷ lines_of s | false ↦ in_front b (lines_of s) ]

-- the fields that tabs part
unfoldable pub fields_of : List ℕ → List (List ℕ)
unfolding in_front
fields_of [] = [] ∷ []
fields_of (b ∷ s) = elim (eqb b tab) [ true ↦ [] ∷ fields_of s | false ↦ in_front b (fields_of s) ]

-- fields parted by one tab each, and a newline
unfoldable pub tabbed : List (List ℕ) → List ℕ
tabbed [] = newline ∷ []
tabbed (f ∷ []) = f ++ (newline ∷ [])
tabbed (f ∷ g ∷ fs) = f ++ (tab ∷ tabbed (g ∷ fs))

-- One line: job, verb, operand. Its packed number, or none where it is malformed.

unfoldable pub packed_from : Settings → Option ℕ → Option ℕ → Option ℕ → Option ℕ
unfolding line_fits pack_verb
packed_from S (some j) (some v) (some o) = cond (line_fits S j v o) (some (pack_verb j v o)) none
packed_from S (some j) (some v) none = none
packed_from S (some j) none o = none
packed_from S none v o = none

unfoldable pub from_fields : Settings → List (List ℕ) → Option ℕ
unfolding packed_from number verb_number
from_fields S [] = none
from_fields S (j ∷ []) = none
from_fields S (j ∷ v ∷ []) = none
from_fields S (j ∷ v ∷ o ∷ []) = packed_from S (number j) (verb_number v) (number o)
from_fields S (j ∷ v ∷ o ∷ x ∷ xs) = none

unfoldable pub packed_line : Settings → List ℕ → Option ℕ
unfolding from_fields fields_of get_last_d
packed_line S l = cond (eqb (get_last_d l 0) newline) (from_fields S (fields_of (drop_last l))) none

-- the text of a line, and of a plan
unfoldable pub line_text : ℕ → List ℕ
unfolding tabbed decimal verb job verb_of device_of
line_text l = tabbed (decimal (job l) ∷ verb (verb_of l) ∷ decimal (device_of l) ∷ [])

unfoldable pub text_of : List ℕ → List ℕ
unfolding line_text flat_map
text_of p = flat_map line_text p

-- the packed numbers that a text spells; a malformed line has 0 for its number, which is no line's
unfoldable pub spelt : Settings → List ℕ → List ℕ
unfolding lines_of packed_line
spelt S text = map (λ l. Option.get_or (packed_line S l) 0) (lines_of text)

-- The line reader, at any cursor, also one that no answer gave: 1; the end where nothing is left; 3; 2; or the line
-- and the cursor past it.

unfoldable pub handed_line : Settings → Cursor → List (List ℕ) → LineAnswer
unfolding packed_line line_number
handed_line S c [] = LineAnswer.End
handed_line S c (l ∷ ls) =
    cond (leb max_lines c.lines) (LineAnswer.Refused TooManyLines)
    (elim (packed_line S l) [
      | none ↦ LineAnswer.Refused (Malformed (line_number c.lines))
      | some n ↦ LineAnswer.Line n (record { offset = c.offset + length l; lines = suc c.lines })
    ])

unfoldable pub next_line : Settings → List ℕ → Cursor → LineAnswer
unfolding handed_line lines_of
next_line S text c =
    cond (ltb max_bytes (length text)) (LineAnswer.Refused TextTooLong)
    (handed_line S c (lines_of (drop c.offset text)))

-- past the line; otherwise the reader stays, so that its next answer is the same
unfoldable pub cursor_after : Cursor → LineAnswer → Cursor
cursor_after c (LineAnswer.Line n next) = next
cursor_after c (LineAnswer.Refused r) = c
cursor_after c LineAnswer.End = c

-- where reading begins, and where the reader stands after some answers
unfoldable pub begin : Cursor
begin = record { offset = 0; lines = 0 }

unfoldable pub cursor_at : Settings → List ℕ → ℕ → Cursor
unfolding begin cursor_after next_line
cursor_at S text zero = begin
cursor_at S text (suc n) = let c : Cursor = cursor_at S text n in cursor_after c (next_line S text c)

-- The line reader by an offset alone: as many lines were handed out as newlines stand before the offset, so that the
-- number of the line there is one more than these.

unfoldable pub newlines_before : List ℕ → ℕ → ℕ
unfolding those
newlines_before text offset = length (those (λ b. eqb b newline) (take offset text))

unfoldable pub cursor_from : List ℕ → ℕ → Cursor
unfolding newlines_before
cursor_from text offset = record { offset = offset; lines = newlines_before text offset }

unfoldable pub line_from : Settings → List ℕ → ℕ → LineAnswer
unfolding cursor_from next_line
line_from S text offset = next_line S text (cursor_from text offset)

-- The line reader by an offset alone is the line reader with a cursor (01, "The plan as text": lines are handed out one
-- after another): wherever the second stands, counted from the beginning, its count of lines is that of the newlines
-- before its offset. For each line that is handed out ends in its only newline.
use Prim.Native.Nat.{ℕ, zero, suc, ◌+◌, ◌-◌, ◌≤◌, ◌<◌}
use mathlib.Core.Bool.{Bool, true, false, cond}
use mathlib.Core.List.{List, [], ◌∷◌, ◌++◌, flatten, get_last_d, drop_last}
use mathlib.Core.Logic.{◌⊎◌, inl, inr}
use mathlib.Core.Option.{Option, none, some}
use mathlib.Core.Path.{◌≡◌, refl, sym, ◌∙◌, ap, subst}
use native.Mathlib.Numerals.{add-one}
use native.Mathlib.Omega.{arith}
use lib.Dec.{eqb, leb, ltb}
use lib.ListN.{length, get_or, take, drop}
use lib.Seq.{take_all, take-suc, take-add, take-append_seam, length-take-le, get_or-drop}
use borrow.Author.Tests.{eq-eqb, ne_eqb, eqb-true, eqb-false}
use Rattle.model.specs.Line.{Settings, line_number, max_lines, max_bytes}
use Rattle.model.specs.Lists.{those}
use Rattle.model.specs.Text.{newline, in_front, lines_of, packed_line, handed_line, next_line, cursor_after, cursor_at}
use Rattle.model.specs.Text.{fields_of, from_fields, newlines_before, cursor_from, line_from}
use Rattle.model.specs.declared.Refusal.TheVariants.{TextTooLong, Malformed, TooManyLines}
use Rattle.model.specs.declared.Cursor.{Cursor}
use Rattle.model.specs.declared.LineAnswer.{LineAnswer}
use Rattle.theory.specs.Text.{PastNewline}
use Rattle.theory.proofs.Tests.{no_some, le_or_lt}
use Rattle.theory.proofs.Lists.{those_length}
use Rattle.theory.proofs.Fields.{flatten_lines}

-- ---- newlines

abbrev is_newline : ℕ → Bool
is_newline b = eqb b newline

-- how many newlines a text has
abbrev newlines_in : List ℕ → ℕ
newlines_in s = length (those is_newline s)

newlines_append : (s t : List ℕ) → newlines_in (s ++ t) ≡ newlines_in s + newlines_in t
unfolding those
newlines_append [] t = omega arith
newlines_append (b ∷ s) t = go (is_newline b) (newlines_append s t)
  where
    go : (n : Bool) → newlines_in (s ++ t) ≡ newlines_in s + newlines_in t
        → length {A = ℕ} (elim n [ true ↦ b ∷ those is_newline (s ++ t) | false ↦ those is_newline (s ++ t) ])
        ≡ length {A = ℕ} (elim n [ true ↦ b ∷ those is_newline s | false ↦ those is_newline s ]) + newlines_in t
    go true ih = omega arith
    go false ih = ih

one_newline : (b : ℕ) → is_newline b ≡ true → newlines_in (b ∷ []) ≡ 1
unfolding those
one_newline b e = rw (e, those)

no_newline : (b : ℕ) (s : List ℕ) → is_newline b ≡ false → newlines_in (b ∷ s) ≡ newlines_in s
unfolding those
no_newline b s e = rw (e, those)

-- ---- newlines before an offset: none, all, no more than bytes; one byte further on

pub before_none : (text : List ℕ) → newlines_before text 0 ≡ 0
unfolding newlines_before
before_none text = refl

pub before_all : (text : List ℕ) (offset : ℕ) → length text ≤ offset
    → newlines_before text offset ≡ newlines_before text (length text)
unfolding newlines_before
before_all text offset h = rw (take_all offset text h, take_all (length text) text (omega arith))

pub before_few : (text : List ℕ) (offset : ℕ) → offset ≤ length text → newlines_before text offset ≤ offset
unfolding newlines_before
before_few text offset h = omega (arith, those_length is_newline (take offset text), length-take-le offset text h)

before_suc : (text : List ℕ) (i : ℕ) → i < length text
    → newlines_before text (suc i) ≡ newlines_before text i + newlines_in (get_or text i 0 ∷ [])
unfolding newlines_before
before_suc text i h = rw (take-suc text i 0 h) (newlines_append (take i text) (get_or text i 0 ∷ []))

pub before_newline : (text : List ℕ) (i : ℕ) → i < length text → get_or text i 0 ≡ newline
    → newlines_before text (i + 1) ≡ newlines_before text i + 1
before_newline text i h e =
    rw (add-one i) (before_suc text i h ∙ rw (one_newline (get_or text i 0) (eq-eqb (get_or text i 0) newline e)))

pub before_other : (text : List ℕ) (i : ℕ) → i < length text → (get_or text i 0 ≡ newline → ⊥)
    → newlines_before text (i + 1) ≡ newlines_before text i
unfolding those
before_other text i h e =
    rw add-one
    (before_suc text i h
    ∙ rw (no_newline (get_or text i 0) [] (ne_eqb (get_or text i 0) newline e)) (omega arith))

-- the line at an offset, after so many lines as newlines stand before it
pub from_count : (S : Settings) (text : List ℕ) (offset lines : ℕ) → lines ≡ newlines_before text offset
    → next_line S text (record { offset = offset; lines = lines }) ≡ line_from S text offset
unfolding line_from cursor_from
from_count S text offset lines e = rw e

-- ---- a line that is handed out has one newline

-- the first line of a text, where it ends in a newline, has no other
abbrev FirstEnds : List (List ℕ) → Type 0
FirstEnds [] = Unit {0}
FirstEnds (l ∷ ls) = get_last_d l 0 ≡ newline → newlines_in l ≡ 1

first_ends : (s : List ℕ) → FirstEnds (lines_of s)
unfolding lines_of get_last_d
first_ends [] = tt
first_ends (b ∷ s) = go (is_newline b) refl (lines_of s) (first_ends s)
  where
    go : (t : Bool) → is_newline b ≡ t → (ls : List (List ℕ)) → FirstEnds ls
        → FirstEnds (elim t [ true ↦ (b ∷ []) ∷ ls | false ↦ in_front b ls ])
    go true e ls h = λ z. one_newline b e
    go false e [] h = λ z. absurd (eqb-false b newline e z)
    go false e ([] ∷ ls) h = λ z. absurd (eqb-false b newline e z)
    go false e ((x ∷ l) ∷ ls) h = λ z. no_newline b (x ∷ l) e ∙ h z

-- a line that has a packed number ends in a newline
packed_ends : (S : Settings) (l : List ℕ) (n : ℕ) → packed_line S l ≡ some n → get_last_d l 0 ≡ newline
unfolding packed_line
packed_ends S l n e = go (is_newline (get_last_d l 0)) refl e
  where
    go : (t : Bool) → is_newline (get_last_d l 0) ≡ t → cond t (from_fields S (fields_of (drop_last l))) none ≡ some n
        → get_last_d l 0 ≡ newline
    go true h q = eqb-true (get_last_d l 0) newline h
    go false h q = no_some q

-- so there is one newline more before the offset past such a line
before_past : (text : List ℕ) (o : ℕ) (l : List ℕ) (ls : List (List ℕ)) → lines_of (drop o text) ≡ l ∷ ls
    → get_last_d l 0 ≡ newline → newlines_before text (o + length l) ≡ suc (newlines_before text o)
unfolding newlines_before flatten
before_past text o l ls e z =
    let whole : drop o text ≡ l ++ flatten ls =
    sym (flatten_lines (drop o text)) ∙ ap (λ (k : List (List ℕ)). flatten k) e in
    let line : take (length l) (drop o text) ≡ l = rw whole (take-append_seam l (flatten ls)) in
    let one : newlines_in l ≡ 1 = subst FirstEnds e (first_ends (drop o text)) z in
    rw (take-add o (length l) text, line) (newlines_append (take o text) l ∙ rw one (omega arith))

-- and that offset is just past the first newline
FirstPast : List ℕ → List (List ℕ) → Type 0
FirstPast s [] = Unit {0}
FirstPast s (l ∷ ls) = get_last_d l 0 ≡ newline → PastNewline s 0 (length l)

first_past : (s : List ℕ) → FirstPast s (lines_of s)
unfolding lines_of get_last_d FirstPast
first_past [] = tt
first_past (b ∷ s) = go (is_newline b) refl (lines_of s) (first_past s)
  where
    go : (t : Bool) → is_newline b ≡ t → (ls : List (List ℕ)) → FirstPast s ls
        → FirstPast (b ∷ s) (elim t [ true ↦ (b ∷ []) ∷ ls | false ↦ in_front b ls ])
    go true e ls h = λ z. record {
      newline_at = 0;
      from = omega arith;
      past = refl;
      is_newline = eqb-true b newline e;
      none_before = λ i g lt. absurd (omega arith);
    }
    go false e [] h = λ z. absurd (eqb-false b newline e z)
    go false e ([] ∷ ls) h = λ z. absurd (eqb-false b newline e z)
    go false e ((x ∷ l) ∷ ls) h = λ z. more (h z)
      where
        more : PastNewline s 0 (length (x ∷ l)) → PastNewline (b ∷ s) 0 (suc (length (x ∷ l)))
        more r = record {
          newline_at = suc r.newline_at;
          from = omega arith;
          past = ap suc r.past;
          is_newline = r.is_newline;
          none_before = none;
        }
          where
            none : (i : ℕ) → 0 ≤ i → i < suc r.newline_at → get_or (b ∷ s) i 0 ≡ newline → ⊥
            none zero g lt q = eqb-false b newline e q
            none (suc i) g lt q = r.none_before i (omega arith) (omega arith) q

past_newline : (text : List ℕ) (o : ℕ) (l : List ℕ) (ls : List (List ℕ)) → lines_of (drop o text) ≡ l ∷ ls
    → get_last_d l 0 ≡ newline → PastNewline text o (o + length l)
unfolding FirstPast
past_newline text o l ls e z =
    let r = subst (FirstPast (drop o text)) e (first_past (drop o text)) z in
    record {
      newline_at = o + r.newline_at;
      from = omega arith;
      past = omega (arith, r.past);
      is_newline = sym (get_or-drop o text r.newline_at 0) ∙ r.is_newline;
      none_before = λ i g lt q.
          let y : o + (i - o) ≡ i = omega arith in
          r.none_before (i - o) (omega arith) (omega arith) (get_or-drop o text (i - o) 0 ∙ rw y q);
    }

pub one_past : (text : List ℕ) (o m n : ℕ) → PastNewline text o m → PastNewline text o n → m ≡ n
one_past text o m n x y = go (le_or_lt x.newline_at y.newline_at) (le_or_lt y.newline_at x.newline_at)
  where
    go : (x.newline_at ≤ y.newline_at) ⊎ (y.newline_at < x.newline_at)
        → (y.newline_at ≤ x.newline_at) ⊎ (x.newline_at < y.newline_at) → m ≡ n
    go (inl a) (inl b) = omega (arith, x.past, y.past)
    go (inl a) (inr b) = absurd (y.none_before x.newline_at x.from b x.is_newline)
    go (inr a) b = absurd (x.none_before y.newline_at y.from a y.is_newline)

-- ---- the two readers

-- the cursor past a line that is handed out is that at its offset, just past the line's newline
abbrev pub StandsAt : List ℕ → ℕ → LineAnswer → Type 0
StandsAt text o (LineAnswer.Line n next) =
    (next ≡ cursor_from text next.offset) × PastNewline text o next.offset
StandsAt text o (LineAnswer.Refused r) = Unit {0}
StandsAt text o LineAnswer.End = Unit {0}

module _ (S : Settings) (text : List ℕ) (o : ℕ) where
  abbrev here : Cursor
  here = cursor_from text o

  handed_stands : (ls : List (List ℕ)) → lines_of (drop o text) ≡ ls → StandsAt text o (handed_line S here ls)
  unfolding handed_line cursor_from
  handed_stands [] e = tt
  handed_stands (l ∷ ls) e = go (leb max_lines here.lines) (packed_line S l) refl
    where
      go : (many : Bool) (p : Option ℕ) → packed_line S l ≡ p
          → StandsAt text o (cond many (LineAnswer.Refused TooManyLines)
          (elim p [
            | none ↦ LineAnswer.Refused (Malformed (line_number here.lines))
            | some n ↦ LineAnswer.Line n (record { offset = o + length l; lines = suc here.lines })
          ]))
      go true p q = tt
      go false none q = tt
      go false (some n) q = (
        ap (λ (m : ℕ). record { offset = o + length l; lines = m })
            (sym (before_past text o l ls e (packed_ends S l n q))),
        past_newline text o l ls e (packed_ends S l n q),
      )

  next_stands : StandsAt text o (next_line S text here)
  unfolding next_line cursor_from
  next_stands = go (ltb max_bytes (length text)) (handed_stands (lines_of (drop o text)) refl)
    where
      go : (long : Bool) → StandsAt text o (handed_line S here (lines_of (drop o text)))
          → StandsAt text o (cond long (LineAnswer.Refused TextTooLong) (handed_line S here (lines_of (drop o text))))
      go true h = tt
      go false h = h

  after_stands : (a : LineAnswer) → StandsAt text o a
      → cursor_after here a ≡ cursor_from text (cursor_after here a).offset
  unfolding cursor_after cursor_from
  after_stands (LineAnswer.Line n next) h = h.0
  after_stands (LineAnswer.Refused r) h = refl
  after_stands LineAnswer.End h = refl

-- wherever the reader with a cursor stands, its cursor is the one at its offset
pub cursor_from_lem : (S : Settings) (text : List ℕ) (n : ℕ)
    → cursor_at S text n ≡ cursor_from text (cursor_at S text n).offset
unfolding cursor_at cursor_from
cursor_from_lem S text zero = refl
cursor_from_lem S text (suc n) =
    let o : ℕ = (cursor_at S text n).offset in
    subst
    (λ (c : Cursor). cursor_after c (next_line S text c)
    ≡ cursor_from text (cursor_after c (next_line S text c)).offset)
    (sym (cursor_from_lem S text n)) (after_stands S text o (next_line S text (here S text o)) (next_stands S text o))

-- so the reader of an offset alone hands out there what it hands out
pub same_line : (S : Settings) (text : List ℕ) (n : ℕ)
    → line_from S text (cursor_at S text n).offset ≡ next_line S text (cursor_at S text n)
unfolding line_from
same_line S text n = ap (next_line S text) (sym (cursor_from_lem S text n))

-- and past a line that it hands out stands the place just past the line's newline
pub from_stands : (S : Settings) (text : List ℕ) (o : ℕ) → StandsAt text o (line_from S text o)
unfolding line_from
from_stands S text o = next_stands S text o

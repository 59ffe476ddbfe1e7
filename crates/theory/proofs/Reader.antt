-- The line reader hands out, one after another, the numbers that reading takes from the same text: after n lines that
-- are well-formed it stands past just these lines, and its next answer is the number of the line there, or the refusal
-- of that line, or the end. Where it answers with a refusal or the end it stays, and gives the same answer again. So a
-- host that reads line by line sees the plan that reading a whole text gives.
use Prim.Native.Nat.{ℕ, zero, suc, ◌+◌, ◌≤◌, ◌<◌}
use mathlib.Core.Bool.{Bool, true, false, cond}
use mathlib.Core.List.{List, [], ◌∷◌, ◌++◌, flatten, append-nil}
use mathlib.Core.Logic.{◌⊎◌, inl, inr}
use mathlib.Core.Option
use mathlib.Core.Option.{Option, none, some}
use mathlib.Core.Path.{◌≡◌, refl, sym, ◌∙◌, ap, subst}
use native.Mathlib.Omega.{arith}
use lib.ListN.{length, get_or, take, drop, length-append, length-map, drop_of_length-le}
use lib.ListN.{get_or-map, get_or-eq_default}
use lib.Seq.{take-suc, drop-cons, drop-drop}
use lib.Dec.{leb, ltb}
use borrow.Author.Tests.{leb-false, le-leb, lt-leb, le-ltb}
use Rattle.model.specs.Answers.{number_of, place_of}
use Rattle.model.specs.Line.{Settings, is_line, at, line_number, max_lines, max_bytes, held_from}
use Rattle.model.specs.Text.{lines_of, packed_line, spelt, handed_line, next_line, cursor_after, begin, cursor_at}
use Rattle.model.specs.declared.Refusal.TheVariants.{TextTooLong, Malformed, TooManyLines}
use Rattle.model.specs.declared.Cursor.{Cursor}
use Rattle.model.specs.declared.LineAnswer.{LineAnswer}
use Rattle.theory.specs.Text.{FirstLines, NoLine, refused, ended}
use Rattle.theory.proofs.Tests.{clash, le_or_lt}
use Rattle.theory.proofs.Fields.{lines_past}
use Rattle.theory.proofs.Line.{zero_no_line}
use Rattle.theory.proofs.Spelling.{text_packed}
use Rattle.theory.specs.Text.{AllLines}
use Rattle.theory.proofs.Text.{number_in, was_spelt}

-- ---- the same answer again

pub stays : (c : Cursor) (a : LineAnswer) → NoLine a → cursor_after c a ≡ c
unfolding cursor_after
stays c a (refused r) = refl
stays c a ended = refl

pub same_again : (S : Settings) (text : List ℕ) (c : Cursor) → NoLine (next_line S text c)
    → next_line S text (cursor_after c (next_line S text c)) ≡ next_line S text c
same_again S text c h = ap (next_line S text) (stays c (next_line S text c) h)

-- ---- one answer

pub next_in : (S : Settings) (text : List ℕ) (c : Cursor) → length text ≤ max_bytes
    → next_line S text c ≡ handed_line S c (lines_of (drop c.offset text))
unfolding next_line
next_in S text c h = rw (le-ltb max_bytes (length text) h)

module _ (S : Settings) (c : Cursor) (l : List ℕ) (ls : List (List ℕ)) where
  pub handed_many : max_lines ≤ c.lines → handed_line S c (l ∷ ls) ≡ LineAnswer.Refused TooManyLines
  unfolding handed_line
  handed_many h = rw (le-leb max_lines c.lines h)

  pub handed_malformed : c.lines < max_lines → packed_line S l ≡ none
      → handed_line S c (l ∷ ls) ≡ LineAnswer.Refused (Malformed (line_number c.lines))
  unfolding handed_line
  handed_malformed h e = rw (lt-leb max_lines c.lines h, e)

  pub handed_line_lem : (n : ℕ) → c.lines < max_lines → packed_line S l ≡ some n
      → handed_line S c (l ∷ ls) ≡ LineAnswer.Line n (record { offset = c.offset + length l; lines = suc c.lines })
  unfolding handed_line
  handed_line_lem n h e = rw (lt-leb max_lines c.lines h, e)

-- ---- where the reader stands

cursor_zero : (S : Settings) (text : List ℕ) → cursor_at S text 0 ≡ begin
unfolding cursor_at
cursor_zero S text = refl

cursor_suc : (S : Settings) (text : List ℕ) (n : ℕ)
    → cursor_at S text (suc n) ≡ cursor_after (cursor_at S text n) (next_line S text (cursor_at S text n))
unfolding cursor_at
cursor_suc S text n = refl

-- past the first n lines of a text
abbrev pub past : List ℕ → ℕ → Cursor
past text n = record { offset = length (flatten (take n (lines_of text))); lines = n }

-- line n of a text
abbrev pub text_line : List ℕ → ℕ → List ℕ
text_line text n = get_or (lines_of text) n []

length_snoc : (ls : List (List ℕ)) (l : List ℕ) → length (flatten (ls ++ (l ∷ []))) ≡ length (flatten ls) + length l
unfolding flatten
length_snoc [] l = rw append-nil (omega arith)
length_snoc (k ∷ ls) l = simp length-append (omega (arith, length_snoc ls l))

past_one_more : (text : List ℕ) (n : ℕ) → n < length (lines_of text)
    → (past text (suc n)).offset ≡ (past text n).offset + length (text_line text n)
past_one_more text n h =
    ap (λ (ls : List (List ℕ)). length (flatten ls)) (take-suc (lines_of text) n [] h)
    ∙ length_snoc (take n (lines_of text)) (text_line text n)

pub rest_past : (text : List ℕ) (n : ℕ) → n ≤ length (lines_of text)
    → lines_of (drop (past text n).offset text) ≡ drop n (lines_of text)
unfolding flatten
rest_past text zero h = refl
rest_past text (suc n) h =
    let l : List ℕ = text_line text n in
    let o : ℕ = (past text n).offset in
    rw (past_one_more text n h)
    (subst (λ (s : List ℕ). lines_of s ≡ drop (suc n) (lines_of text)) (drop-drop (length l) o text)
    (lines_past (drop o text) l (drop (suc n) (lines_of text))
    (rest_past text n (omega arith) ∙ drop-cons (lines_of text) n [] h)))

-- ---- what it answers there

pub spelt_at : (S : Settings) (text : List ℕ) (n : ℕ) → at (spelt S text) n ≡ number_in S (text_line text n)
unfolding spelt
spelt_at S text n = get_or-map (number_in S) (lines_of text) n []

pub spelt_length : (S : Settings) (text : List ℕ) → length (spelt S text) ≡ length (lines_of text)
unfolding spelt
spelt_length S text = length-map (lines_of text) (number_in S)

-- a number that is a line's is that of a line of the text
pub line_there_lem : (S : Settings) (text : List ℕ) (n : ℕ) → is_line S (at (spelt S text) n) ≡ true
    → n < length (lines_of text)
line_there_lem S text n h = go (le_or_lt (length (lines_of text)) n)
  where
    go : (length (lines_of text) ≤ n) ⊎ (n < length (lines_of text)) → n < length (lines_of text)
    go (inl le) =
        let e : at (spelt S text) n ≡ 0 = get_or-eq_default (spelt S text) 0 (omega (arith, spelt_length S text)) in
        clash (is_line S 0) (rw e at h) (zero_no_line S)
    go (inr lt) = lt

module _ (S : Settings) (text : List ℕ) (short : length text ≤ max_bytes) (n : ℕ) where
  -- the reader sees the line there
  next_past : n < length (lines_of text)
      → next_line S text (past text n) ≡ handed_line S (past text n) (text_line text n ∷ drop (suc n) (lines_of text))
  next_past h =
      next_in S text (past text n) short
      ∙ ap (handed_line S (past text n)) (rest_past text n (omega arith) ∙ drop-cons (lines_of text) n [] h)

  next_well : n < max_lines → is_line S (at (spelt S text) n) ≡ true
      → next_line S text (past text n) ≡ LineAnswer.Line (at (spelt S text) n) (past text (suc n))
  next_well few h =
      let lt = line_there_lem S text n h in
      rw (past_one_more text n lt, spelt_at S text n)
      (next_past lt
      ∙ handed_line_lem S (past text n) (text_line text n) (drop (suc n) (lines_of text))
      (number_in S (text_line text n)) few
      (was_spelt S (text_line text n) (rw spelt_at at h)))

pub cursor_past : (S : Settings) (text : List ℕ) → length text ≤ max_bytes → (n : ℕ) → n ≤ max_lines
    → FirstLines S text n
    → cursor_at S text n ≡ past text n
unfolding begin cursor_after flatten
cursor_past S text short zero few lines = cursor_zero S text
cursor_past S text short (suc n) few lines =
    cursor_suc S text n
    ∙ rw (
      cursor_past S text short n (omega arith) (λ i h. lines i (omega arith)),
      next_well S text short n few (lines n (omega arith)),
    )

-- a line whose number is no line's is malformed
pub was_malformed : (S : Settings) → S.devices ≤ held_from → (s : List ℕ) → is_line S (number_in S s) ≡ false
    → packed_line S s ≡ none
was_malformed S d s = go (packed_line S s) refl
  where
    go : (o : Option ℕ) → packed_line S s ≡ o → is_line S (Option.get_or o 0) ≡ false → o ≡ none
    go none e h = refl
    go (some l) e h = clash (is_line S l) (text_packed S d s l e).1 h

-- after n well-formed lines the reader stands past them, and answers with the line there, 2, 3, or the end
module _ (S : Settings) (text : List ℕ) (short : length text ≤ max_bytes) (n : ℕ) (few : n ≤ max_lines)
    (lines : FirstLines S text n) where
  here : cursor_at S text n ≡ past text n
  here = cursor_past S text short n few lines

  pub reader_line : n < max_lines → is_line S (at (spelt S text) n) ≡ true
      → next_line S text (cursor_at S text n) ≡ LineAnswer.Line (at (spelt S text) n) (cursor_at S text (suc n))
  unfolding cursor_after
  reader_line h l = rw (cursor_suc S text n, here, next_well S text short n h l)

  pub reader_malformed : S.devices ≤ held_from → n < max_lines → n < length (lines_of text)
      → is_line S (at (spelt S text) n) ≡ false
      → next_line S text (cursor_at S text n) ≡ LineAnswer.Refused (Malformed (line_number n))
  reader_malformed d h l e =
      rw here
      (next_past S text short n l
      ∙ handed_malformed S (past text n) (text_line text n) (drop (suc n) (lines_of text)) h
      (was_malformed S d (text_line text n) (rw spelt_at at e)))

  pub reader_many : max_lines ≤ n → n < length (lines_of text)
      → next_line S text (cursor_at S text n) ≡ LineAnswer.Refused TooManyLines
  reader_many h l =
      rw here
      (next_past S text short n l ∙ handed_many S (past text n) (text_line text n) (drop (suc n) (lines_of text)) h)

  pub reader_end : length (lines_of text) ≡ n → next_line S text (cursor_at S text n) ≡ LineAnswer.End
  unfolding handed_line
  reader_end e =
      rw here
      (next_in S text (past text n) short
      ∙ rw (rest_past text n (omega arith), drop_of_length-le (lines_of text) {i = n} (omega arith)))

-- where every number that a text spells is a line's, the reader hands out just these, and then comes the end
pub reader_spells : (S : Settings) (text : List ℕ) → length text ≤ max_bytes → length (spelt S text) ≤ max_lines
    → AllLines S (spelt S text)
    → ((i : ℕ) → i < length (spelt S text)
    → next_line S text (cursor_at S text i) ≡ LineAnswer.Line (at (spelt S text) i) (cursor_at S text (suc i)))
    × (next_line S text (cursor_at S text (length (spelt S text))) ≡ LineAnswer.End)
reader_spells S text short few lines = (
  λ i h. reader_line S text short i (omega arith) (λ k g. lines k (omega arith)) (omega arith) (lines i h),
  reader_end S text short (length (spelt S text)) few lines (sym (spelt_length S text)),
)

-- ---- any answer

-- what is handed out is a line's number; a refusal is 1, 2 or 3, at a line of at most 1,025
abbrev pub RightAnswer : Settings → LineAnswer → Type 0
RightAnswer S (LineAnswer.Line n next) = is_line S n ≡ true
RightAnswer S (LineAnswer.Refused r) = (number_of r ≤ 3) × (place_of r ≤ suc max_lines)
RightAnswer S LineAnswer.End = Unit {0}

pub next_right : (S : Settings) → S.devices ≤ held_from → (text : List ℕ) (c : Cursor)
    → RightAnswer S (next_line S text c)
unfolding next_line handed_line line_number
next_right S d text c = long (ltb max_bytes (length text)) (lines_of (drop c.offset text))
  where
    line : (l : List ℕ) (many : Bool) → leb max_lines c.lines ≡ many → (o : Option ℕ) → packed_line S l ≡ o
        → RightAnswer S
        (cond many (LineAnswer.Refused TooManyLines)
        (elim o [
          | none ↦ LineAnswer.Refused (Malformed (line_number c.lines))
          | some n ↦ LineAnswer.Line n (record { offset = c.offset + length l; lines = suc c.lines })
        ]))
    line l true e o q = (omega arith, omega arith)
    line l false e none q = (omega arith, omega (arith, leb-false max_lines c.lines e))
    line l false e (some n) q = (text_packed S d l n q).1

    long : (b : Bool) (ls : List (List ℕ))
        → RightAnswer S (cond b (LineAnswer.Refused TextTooLong) (handed_line S c ls))
    long true ls = (omega arith, omega arith)
    long false [] = tt
    long false (l ∷ ls) = line l (leb max_lines c.lines) refl (packed_line S l) refl

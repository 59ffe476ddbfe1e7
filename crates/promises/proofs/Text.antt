-- What follows from what reading, writing and the line reader promise (01, "The plan as text" and "Refusal numbers"): a
-- refusal exactly in a listed case, with the list as it was; the round trips, byte for byte and number for number; and
-- line after line, what the reader of a text and an offset hands out, with the same answer again where no line came.
use Prim.Native.Nat.{ℕ, zero, suc, ◌+◌, ◌-◌, ◌<◌, ◌≤◌}
use Rattle.std.specs.Prelude.{Result, Ok, Err}
use mathlib.Core.Bool.{true, false}
use mathlib.Core.List.{List, []}
use mathlib.Core.Logic.{◌⊎◌, inl, inr, ◌↔◌}
use mathlib.Core.Path.{◌≡◌, refl, sym, ◌∙◌, ap}
use native.Mathlib.Omega.{arith}
use lib.ListN.{length, get_or, take, drop, get_or-append}
use borrow.Author.Tests.{lt-ltb}
use Rattle.model.specs.Lists.{over}
use Rattle.model.specs.Line.{Settings, is_line, at, max_lines, max_bytes, held_from}
use Rattle.model.specs.Text.{spelt, text_of, next_line, cursor_after, begin, cursor_at, cursor_from, line_from}
use Rattle.model.specs.WellFormed.{WellFormed, fault}
use Rattle.model.specs.Entries.{text_fault, reading, writing}
use Rattle.model.specs.declared.Refusal.{Refusal}
use Rattle.model.specs.declared.Cursor.{Cursor}
use Rattle.model.specs.declared.LineAnswer.{LineAnswer}
use Rattle.theory.specs.WellFormed.{Broken}
use Rattle.theory.specs.Text.{FirstLines, NoLine, ended, TextBroken}
use Rattle.theory.proofs.Lists.{over_front}
use Rattle.theory.proofs.WellFormed.{fault_exactly, no_fault_exactly}
use Rattle.theory.proofs.Answers.{one_answer}
use Rattle.theory.proofs.Text.{no_text_fault, text_fault_exactly, reading_written, writing_read}
use Rattle.theory.proofs.Tests.{test, le_or_lt}
use Rattle.theory.proofs.Reader.{stays, spelt_length, line_there_lem, reader_line, reader_malformed, reader_many}
use Rattle.theory.proofs.Reader.{reader_end, reader_spells}
use Rattle.theory.proofs.Offsets.{cursor_from_lem, same_line}
use Rattle.promises.specs.Outcome.{NoFurther, Refuses}
use Rattle.promises.specs.Text.{HandsOutAs, ReadsAs, WritesAs, SoundText, NotRead, NotWritten, IsRead, IsWritten}
use Rattle.promises.specs.Text.{Asked, Comes, too_long, too_many, malformed, line, end}
use Rattle.promises.proofs.Tight.{the_outcome, the_line}
use Rattle.promises.proofs.Outcome as one
use Rattle.promises.proofs.Outcome.{Entry, counts, none_after}

-- ---- reading

abbrev pub read_entry : (S : Settings) (text lent : List ℕ)
    → Entry (Result ℕ Refusal) (List ℕ) (SoundText S text) (TextBroken S text) NoFurther
read_entry S text lent = record {
  answers = counts;
  fault = text_fault S text;
  rest = [];
  sound = (
    λ e. let h = (no_text_fault S text).0 e in (h.0, (no_fault_exactly S (spelt S text)).0 h.1),
    λ s. (no_text_fault S text).1 (s.0, (no_fault_exactly S (spelt S text)).1 s.1),
  );
  broken = text_fault_exactly S text;
  beyond = λ s. none_after;
  room = length lent;
  needed = length (spelt S text);
  count = length (spelt S text);
  new = over (spelt S text) lent;
  lent = lent;
}

module _ (S : Settings) (text lent : List ℕ) where
  pub read_refused_exactly : (a : Result ℕ Refusal) (left : List ℕ) → ReadsAs S text lent a left → (r : Refusal)
      → (a ≡ Err r) ↔ NotRead S text lent r
  unfolding reading
  read_refused_exactly = one.refused_exactly (read_entry S text lent)

  pub refused_read_leaves : (r : Refusal) (left : List ℕ) → ReadsAs S text lent (Err r) left
      → Refuses (NotRead S text lent) lent r left
  unfolding reading
  refused_read_leaves r left m = one.refused_leaves (read_entry S text lent) (Err r) left m r refl

  pub read_exactly : (a : Result ℕ Refusal) (left : List ℕ) → ReadsAs S text lent a left
      → ((n : ℕ) × (a ≡ Ok n)) ↔ (SoundText S text × (length (spelt S text) ≤ length lent))
  unfolding reading
  read_exactly a left m =
      let d = one.done_exactly (read_entry S text lent) a left m in
      (λ h. let p = d.0 h in (p.0, p.1), λ h. d.1 (h.0, h.1, refl))

  pub read_leaves : (n : ℕ) (left : List ℕ) → ReadsAs S text lent (Ok n) left → IsRead S text lent n left
  unfolding reading
  read_leaves n left m =
      let d = one.done_leaves (read_entry S text lent) (Ok n) left m n refl in
      record { sound = d.0.0; room = d.0.1; counts = d.1; leaves = d.2 }

-- ---- writing

abbrev pub write_entry : (S : Settings) (plan lent : List ℕ)
    → Entry (Result ℕ Refusal) (List ℕ) (WellFormed S plan) (Broken S plan) NoFurther
write_entry S plan lent = record {
  answers = counts;
  fault = fault S plan;
  rest = [];
  sound = no_fault_exactly S plan;
  broken = fault_exactly S plan;
  beyond = λ s. none_after;
  room = length lent;
  needed = length (text_of plan);
  count = length (text_of plan);
  new = over (text_of plan) lent;
  lent = lent;
}

module _ (S : Settings) (plan lent : List ℕ) where
  pub write_refused_exactly : (a : Result ℕ Refusal) (left : List ℕ) → WritesAs S plan lent a left → (r : Refusal)
      → (a ≡ Err r) ↔ NotWritten S plan lent r
  unfolding writing
  write_refused_exactly = one.refused_exactly (write_entry S plan lent)

  pub refused_write_leaves : (r : Refusal) (left : List ℕ) → WritesAs S plan lent (Err r) left
      → Refuses (NotWritten S plan lent) lent r left
  unfolding writing
  refused_write_leaves r left m = one.refused_leaves (write_entry S plan lent) (Err r) left m r refl

  pub written_exactly : (a : Result ℕ Refusal) (left : List ℕ) → WritesAs S plan lent a left
      → ((n : ℕ) × (a ≡ Ok n)) ↔ (WellFormed S plan × (length (text_of plan) ≤ length lent))
  unfolding writing
  written_exactly a left m =
      let d = one.done_exactly (write_entry S plan lent) a left m in
      (λ h. let p = d.0 h in (p.0, p.1), λ h. d.1 (h.0, h.1, refl))

  pub written_leaves : (n : ℕ) (left : List ℕ) → WritesAs S plan lent (Ok n) left
      → IsWritten S plan lent n left
  unfolding writing
  written_leaves n left m =
      let d = one.done_leaves (write_entry S plan lent) (Ok n) left m n refl in
      record { sound = d.0.0; room = d.0.1; counts = d.1; leaves = d.2 }

-- ---- the round trips

-- what was written to the front of a list is its front
pub front_of : (new old left : List ℕ) (n : ℕ) → n ≡ length new → left ≡ over new old → take n left ≡ new
front_of new old left n e f = rw f (over_front n new old (sym e))

-- What was read, written again from the entries that reading wrote, is the text, byte for byte.
pub read_then_written : (S : Settings) → S.devices ≤ held_from → (text lent left : List ℕ) (n : ℕ)
    → ReadsAs S text lent (Ok n) left
    → (buffer : List ℕ) → length text ≤ length buffer → (answer : Result ℕ Refusal) (written : List ℕ)
    → WritesAs S (take n left) buffer answer written
    → (answer ≡ Ok (length text)) × (written ≡ over text buffer)
read_then_written S small text lent left n r buffer h answer written w =
    let d = read_leaves S text lent n left r in
    let u = the_outcome one_answer answer written w in
    let e =
    ap (λ (p : List ℕ). writing S p buffer) (front_of (spelt S text) lent left n d.counts d.leaves)
    ∙ writing_read S small text ((read_entry S text lent).sound.1 d.sound) buffer h in
    (u.0 ∙ rw e, u.1 ∙ rw e)

-- What was written, read again from the bytes that writing wrote, is the plan, number for number.
pub written_then_read : (S : Settings) (plan lent left : List ℕ) (n : ℕ)
    → WritesAs S plan lent (Ok n) left → (list : List ℕ) → length plan ≤ length list
    → (answer : Result ℕ Refusal) (taken : List ℕ)
    → ReadsAs S (take n left) list answer taken
    → (answer ≡ Ok (length plan)) × (taken ≡ over plan list)
written_then_read S plan lent left n r list h answer taken w =
    let d = written_leaves S plan lent n left r in
    let u = the_outcome one_answer answer taken w in
    let e =
    ap (λ (s : List ℕ). reading S s list) (front_of (text_of plan) lent left n d.counts d.leaves)
    ∙ reading_written S plan ((no_fault_exactly S plan).1 d.sound) list h in
    (u.0 ∙ rw e, u.1 ∙ rw e)

-- ---- the line reader

-- At a cursor: where no line came, asking again gives the same answer.
pub same_again : (S : Settings) (text : List ℕ) (c : Cursor) (a b : LineAnswer) → HandsOutAs S text c a → NoLine a
    → HandsOutAs S text (cursor_after c a) b → b ≡ a
same_again S text c a b x h y =
    the_line S text (cursor_after c a) b y ∙ ap (next_line S text) (stays c a h) ∙ sym (the_line S text c a x)

-- With a text and an offset, asked again and again.
module _ (S : Settings) (text : List ℕ) (offset : ℕ → ℕ) (answer : ℕ → LineAnswer)
    (asked : Asked S text offset answer) where
  -- it stands where the reader with a cursor stands, and hands out the same
  stands : (k : ℕ) → offset k ≡ (cursor_at S text k).offset
  unfolding cursor_at begin
  stands zero = asked.begins
  stands (suc k) =
      let o = stands k in
      asked.goes_on k
      ∙ rw (asked.answers k, o, same_line S text k, sym (cursor_from_lem S text k))

  handed : (k : ℕ) → answer k ≡ next_line S text (cursor_at S text k)
  handed k = asked.answers k ∙ ap (line_from S text) (stands k) ∙ same_line S text k

  -- Lines come one after another: after n lines the next one, or why none comes.
  pub line_by_line : S.devices ≤ held_from → (n : ℕ) → n ≤ max_lines → FirstLines S text n → Comes S text n (answer n)
  unfolding next_line
  line_by_line small n few lines =
      rw (handed n) (go (le_or_lt (length text) max_bytes) (le_or_lt (length p) n) (le_or_lt max_lines n)
      (test (is_line S (at p n))))
    where
      p : List ℕ
      p = spelt S text

      -- no line is the first n lines' past the end
      all : length p ≤ n → length p ≡ n
      all h = whole (le_or_lt n (length p))
        where
          whole : (n ≤ length p) ⊎ (length p < n) → length p ≡ n
          whole (inl g) = omega (arith, h)
          whole (inr g) =
              absurd (omega (arith, line_there_lem S text (length p) (lines (length p) g), spelt_length S text))

      go : (length text ≤ max_bytes) ⊎ (max_bytes < length text) → (length p ≤ n) ⊎ (n < length p)
          → (max_lines ≤ n) ⊎ (n < max_lines) → (is_line S (at p n) ≡ true) ⊎ (is_line S (at p n) ≡ false)
          → Comes S text n (next_line S text (cursor_at S text n))
      go (inr long) b c d = rw (lt-ltb max_bytes (length text) long) (too_long long)
      go (inl short) (inl none) c d =
          rw (reader_end S text short n few lines (sym (spelt_length S text) ∙ all none))
          (end short (all none))
      go (inl short) (inr b) (inl many) d =
          rw (reader_many S text short n few lines many (omega (arith, spelt_length S text)))
          (too_many short many b)
      go (inl short) (inr b) (inr c) (inl d) =
          rw (reader_line S text short n few lines c d) (line (cursor_at S text (suc n)) short c d)
      go (inl short) (inr b) (inr c) (inr d) =
          rw (reader_malformed S text short n few lines small c (omega (arith, spelt_length S text)) d)
          (malformed short c b d)

  -- Where no line came, the same answer comes ever after.
  pub same_ever_after : (k : ℕ) → NoLine (answer k) → (m : ℕ) → answer (k + m) ≡ answer k
  unfolding cursor_from
  same_ever_after k h m = asked.answers (k + m) ∙ ap (line_from S text) (again m) ∙ sym (asked.answers k)
    where
      again : (m : ℕ) → offset (k + m) ≡ offset k
      again zero = ap offset (omega arith)
      again (suc m) =
          let o = again m in
          let e : answer (k + m) ≡ answer k =
          asked.answers (k + m) ∙ ap (line_from S text) o ∙ sym (asked.answers k) in
          ap offset (omega arith) ∙ asked.goes_on (k + m)
          ∙ ap (λ (c : Cursor). c.offset) (stays (cursor_from text (offset (k + m))) (answer (k + m)) (rw e h)) ∙ o

  -- A text that reading takes comes number by number, and then the end.
  pub read_line_by_line : (lent left : List ℕ) (n : ℕ) → ReadsAs S text lent (Ok n) left
      → ((i : ℕ) → i < n → (next : Cursor) × (answer i ≡ LineAnswer.Line (get_or left i 0) next))
      × ((k : ℕ) → n ≤ k → answer k ≡ LineAnswer.End)
  unfolding over
  read_line_by_line lent left n m = (λ i h. (cursor_at S text (suc i), each i h), after)
    where
      p : List ℕ
      p = spelt S text

      d : IsRead S text lent n left
      d = read_leaves S text lent n left m

      spells : ((i : ℕ) → i < length p
          → next_line S text (cursor_at S text i) ≡ LineAnswer.Line (at p i) (cursor_at S text (suc i)))
          × (next_line S text (cursor_at S text (length p)) ≡ LineAnswer.End)
      spells = reader_spells S text d.sound.0 d.sound.1.few d.sound.1.lines

      each : (i : ℕ) → i < n → answer i ≡ LineAnswer.Line (get_or left i 0) (cursor_at S text (suc i))
      each i h =
          let lt : i < length p = omega (arith, d.counts) in
          rw (d.leaves, get_or-append p (drop (length p) lent) 0 i lt) (handed i ∙ spells.0 i lt)

      last : answer n ≡ LineAnswer.End
      last = rw d.counts (handed (length p) ∙ spells.1)

      after : (k : ℕ) → n ≤ k → answer k ≡ LineAnswer.End
      after k h =
          let e : k ≡ n + (k - n) = omega arith in
          ap answer e ∙ same_ever_after n (rw last ended) (k - n) ∙ last

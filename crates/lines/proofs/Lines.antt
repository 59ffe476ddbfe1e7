-- 01, "The plan as text" (the line reader, asked once): three fields that are a line's are that line's text, and a
-- line's text is read as its three fields. So what is read at a place is the first line of what stands there, as the
-- definition has it, which parts the text at its newlines; and what the reader hands out is this line, 2 where none
-- stands there, 3 after line 1,024, or the end.
use Prim.Native.Nat.{ℕ, ◌+◌, ◌≤◌, ◌<◌}
use mathlib.Core.Bool.{true, false}
use mathlib.Core.List.{List, ◌∷◌, ◌++◌, append_assoc, flatten}
use mathlib.Core.Option as Math
use mathlib.Core.Option.{none, some}
use mathlib.Core.Path.{◌≡◌, refl, sym, ◌∙◌, ap}
use native.Mathlib.Numerals.{add-one}
use native.Mathlib.Omega.{arith}
use lib.ListN.{length, drop, length-append, length-drop, drop_of_length-le}
use lib.Seq.{drop-drop, drop-append_seam}
use borrow.Author.Tests.{lt-ltb}
use Rattle.std.specs.Prelude.{Some, None}
use Rattle.model.specs.Line.{Settings, pack_verb, job, verb_of, device_of, line_fits, is_line, line_number, max_lines}
use Rattle.model.specs.Line.{max_bytes, held_from}
use Rattle.model.specs.Text.{tab, newline, is_digit, verbs, tabbed, lines_of, packed_line, line_text}
use Rattle.model.specs.Text.{handed_line, next_line}
use Rattle.model.specs.declared.Refusal.TheVariants.{TextTooLong, Malformed, TooManyLines}
use Rattle.model.specs.declared.Cursor.{Cursor}
use Rattle.model.specs.declared.LineAnswer.{LineAnswer}
use Rattle.theory.proofs.Tests.{clash}
use Rattle.theory.proofs.Line.{verb_small, device_small_lem, line_parts, pack_line}
use Rattle.theory.proofs.Fields.{line_first, flatten_lines, some_line}
use Rattle.theory.proofs.Spelling.{line_ends, packed_text, text_packed}
use Rattle.theory.proofs.Reader.{handed_many, handed_malformed, handed_line_lem}
use Rattle.fields.specs.Number.{number_at}
use Rattle.fields.specs.declared.Number.{Number}
use Rattle.lines.specs.Verbs.{word, verb_at}
use Rattle.lines.specs.Lines.{LineThere, SpeltAt, handed_at}
use Rattle.lines.proofs.Fields.{spelling, field_whole, Spells, field_sound}
use Rattle.lines.proofs.Verbs.{verb_whole, SpellsVerb, verb_sound}

-- ---- a line's text and its three fields

line_fields : (n : ℕ) → line_text n ≡ spelling tab (job n) ++ (word (verb_of n) ++ spelling newline (device_of n))
unfolding line_text tabbed spelling word
line_fields n = simp append_assoc

-- past what stands at a place
past : (text f rest : List ℕ) (i : ℕ) → drop i text ≡ f ++ rest → drop (i + length f) text ≡ rest
past text f rest i e = sym (drop-drop (length f) i text) ∙ (ap (drop (length f)) e ∙ drop-append_seam f rest)

module _ (text : List ℕ) (i : ℕ) where
  -- job, verb and operand were read, each with the place past it
  pub record Read (j v o : Number) : Type 0 where
    pub of_job_lem : number_at text i tab 255 ≡ Some j
    pub of_verb_lem : verb_at j.past (drop j.past text) ≡ Some v
    pub of_operand : number_at text v.past newline 255 ≡ Some o

  -- a line's text is read so
  record ReadAs (n : ℕ) : Type 0 where
    pub j : Number
    pub v : Number
    pub o : Number
    pub read : Read j v o
    pub job_is : j.value ≡ job n
    pub verb_is : v.value ≡ verb_of n
    pub operand_is : o.value ≡ device_of n

  line_read : (S : Settings) (n : ℕ) → LineThere S text i n → ReadAs n
  unfolding is_digit verbs
  line_read S n l =
      let j : List ℕ = spelling tab (job n) in
      let k : List ℕ = word (verb_of n) in
      let o : List ℕ = spelling newline (device_of n) in
      let a : ℕ = i + length j in
      let b : ℕ = a + length k in
      let x : drop i text ≡ j ++ (k ++ (o ++ l.rest)) =
      l.whole ∙ (ap (λ (f : List ℕ). f ++ l.rest) (line_fields n) ∙ simp append_assoc) in
      let y : drop a text ≡ k ++ (o ++ l.rest) = past text j (k ++ (o ++ l.rest)) i x in
      let z : drop b text ≡ o ++ l.rest = past text k (o ++ l.rest) a y in
      record {
        j = record { value = job n; past = a };
        v = record { value = verb_of n; past = b };
        o = record { value = device_of n; past = b + length o };
        read = record {
          of_job_lem =
              field_whole tab i (job n) text (k ++ (o ++ l.rest)) refl (omega (arith, (line_parts S n l.line).1)) x;
          of_verb_lem = rw y (verb_whole a (verb_of n) (o ++ l.rest) (verb_small n));
          of_operand = field_whole newline b (device_of n) text l.rest refl (omega (arith, device_small_lem n)) z;
        };
        job_is = refl;
        verb_is = refl;
        operand_is = refl;
      }

  -- and in no other way
  module _ {n : ℕ} (r : ReadAs n) {j : Number} (x : number_at text i tab 255 ≡ Some j) where
    job_same : r.j ≡ j
    job_same = let z = r.read.of_job_lem in cc

    verb_there : verb_at j.past (drop j.past text) ≡ Some r.v
    verb_there = rw (← job_same) r.read.of_verb_lem

    module _ {v : Number} (y : verb_at j.past (drop j.past text) ≡ Some v) where
      verb_same : r.v ≡ v
      verb_same = let z = verb_there in cc

      operand_there : number_at text v.past newline 255 ≡ Some r.o
      operand_there = rw (← verb_same) r.read.of_operand

  module _ (S : Settings) where
    -- so no line stands where a field is wrong
    pub no_job : number_at text i tab 255 ≡ None → SpeltAt S text i None
    no_job x n l = let z = (line_read S n l).read.of_job_lem in cc

    pub no_verb : (j : Number) → number_at text i tab 255 ≡ Some j → verb_at j.past (drop j.past text) ≡ None
        → SpeltAt S text i None
    no_verb j x y n l = let z = verb_there (line_read S n l) x in cc

    pub no_operand : (j v : Number) → number_at text i tab 255 ≡ Some j → verb_at j.past (drop j.past text) ≡ Some v
        → number_at text v.past newline 255 ≡ None → SpeltAt S text i None
    no_operand j v x y z n l = let w = operand_there (line_read S n l) x y in cc

    -- job, verb and operand that were read
    module _ {j v o : Number} (r : Read j v o) where
      x : Spells tab i (drop i text) j
      x = field_sound tab i text j r.of_job_lem

      y : SpellsVerb j.past (drop j.past text) v
      y = verb_sound j.past (drop j.past text) v r.of_verb_lem

      z : Spells newline v.past (drop v.past text) o
      z = field_sound newline v.past text o r.of_operand

      -- where they are no line's, none stands there
      pub no_line : line_fits S j.value v.value o.value ≡ false → SpeltAt S text i None
      unfolding is_line
      no_line f m l =
          let q = line_read S m l in
          let a = job_same q r.of_job_lem in
          let b = verb_same q r.of_job_lem r.of_verb_lem in
          let c : q.o ≡ o =
          let w = operand_there q r.of_job_lem r.of_verb_lem in let u = r.of_operand in cc in
          let same : line_fits S (job m) (verb_of m) (device_of m) ≡ line_fits S j.value v.value o.value =
          rw (← a, ← b, ← c, q.job_is, q.verb_is, q.operand_is) in
          clash (line_fits S (job m) (verb_of m) (device_of m)) l.line (same ∙ f)

      -- where they are a line's, what was read is its text
      pub line_there_lem : S.devices ≤ held_from → line_fits S j.value v.value o.value ≡ true → (n : ℕ)
          → n ≡ pack_verb j.value v.value o.value
          → SpeltAt S text i (Some (record { value = n; past = o.past }))
      line_there_lem d t n c =
          let g = pack_line S d j.value v.value o.value t in
          let u : drop j.past text ≡ x.rest =
          ap (λ (p : ℕ). drop p text) x.ends ∙ past text (spelling tab j.value) x.rest i x.whole in
          let w : drop v.past text ≡ y.rest =
          ap (λ (p : ℕ). drop p text) y.ends ∙ past text (word v.value) y.rest j.past y.whole in
          let whole : line_text n ≡ spelling tab j.value ++ (word v.value ++ spelling newline o.value) =
          line_fields n ∙ rw (c, g.0.of_job, g.0.of_verb, g.0.named) in (
            record {
              rest = z.rest;
              line = rw c g.1;
              whole =
                  rw whole
                  (simp append_assoc
                  (x.whole
                  ∙ ap (λ (l : List ℕ). spelling tab j.value ++ l)
                  (sym u ∙ (y.whole ∙ ap (λ (l : List ℕ). word v.value ++ l) (sym w ∙ z.whole)))));
            },
            rw whole (simp length-append (omega (arith, x.ends, y.ends, z.ends))),
          )

-- ---- what the reader hands out

module _ (S : Settings) (text : List ℕ) (i n : ℕ) where
  -- nothing stands past the end
  pub handed_none : length text ≤ i → LineAnswer.End ≡ handed_at S text i n
  unfolding handed_line lines_of
  handed_none h = rw (drop_of_length-le text h)

  -- something stands after line 1,024
  pub handed_over : i < length text → max_lines ≤ n → LineAnswer.Refused TooManyLines ≡ handed_at S text i n
  handed_over h m =
      let r = some_line (drop i text) (simp length-drop (omega arith)) in
      rw r.2 (sym (handed_many S (record { offset = i; lines = n }) r.0 r.1 m))

  module _ (few : n < max_lines) where
    abbrev here : Cursor
    here = record { offset = i; lines = n }

    -- the line that was read
    pub handed_read : (l e : ℕ) → SpeltAt S text i (Some (record { value = l; past = e }))
        → LineAnswer.Line l (record { offset = e; lines = n + 1 }) ≡ handed_at S text i n
    handed_read l e r =
        let w = line_ends l in
        let first : lines_of (line_text l ++ r.0.rest) ≡ line_text l ∷ lines_of r.0.rest =
        rw (w.whole, append_assoc) (line_first w.body r.0.rest w.clean) in
        rw (r.1, add-one n, r.0.whole, first)
        (sym (handed_line_lem S here (line_text l) (lines_of r.0.rest) l few (packed_text S l r.0.line)))

    -- none was read
    pub handed_wrong : S.devices ≤ held_from → i < length text → SpeltAt S text i None
        → LineAnswer.Refused (Malformed (n + 1)) ≡ handed_at S text i n
    unfolding line_number flatten
    handed_wrong d h q =
        let r = some_line (drop i text) (simp length-drop (omega arith)) in
        rw (add-one n, r.2)
        (sym (handed_malformed S here r.0 r.1 few (go r.0 r.1 r.2 (packed_line S r.0) refl)))
      where
        go : (l : List ℕ) (ls : List (List ℕ)) → lines_of (drop i text) ≡ l ∷ ls → (o : Math.Option ℕ)
            → packed_line S l ≡ o → o ≡ none
        go l ls e none p = refl
        go l ls e (some m) p =
            let r = text_packed S d l m p in
            absurd
            (q m
            (record {
              rest = flatten ls;
              line = r.1;
              whole = rw r.0 (sym (flatten_lines (drop i text)) ∙ ap flatten e);
            }))

-- 1 comes first
pub next_long : (S : Settings) (text : List ℕ) (c : Cursor) → max_bytes < length text
    → LineAnswer.Refused TextTooLong ≡ next_line S text c
unfolding next_line
next_long S text c h = rw (lt-ltb max_bytes (length text) h)

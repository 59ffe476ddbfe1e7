-- Reading and writing are each other's inverse on plans without a fault, of the morning as of midday: the text of such
-- a plan spells that plan and has no fault, and the plan that a text without a fault spells has that text. Then the
-- same of the two entries' outcomes.
use Prim.Native.Nat.{ℕ, suc, ◌*◌, ◌≤◌}
use Rattle.std.specs.Prelude.{Ok, Err}
use mathlib.Core.Bool.{Bool, true, false}
use mathlib.Core.List.{List, [], ◌∷◌, map, flat_map, flatten}
use mathlib.Core.Logic.{◌↔◌}
use mathlib.Core.Option.{Option, none, some, get_or, some-ne-none, none-ne-some}
use mathlib.Core.Path.{◌≡◌, refl, ◌∙◌, ap}
use native.Mathlib.Omega.{arith}
use lib.Dec.{ltb}
use lib.ListN.{length, length-append}
use borrow.Author.Tests.{le-ltb, lt-ltb, ltb-true, ltb-false}
use Rattle.model.specs.Lists.{over}
use Rattle.model.specs.Answers.{refuse_if, first_refusal, too_short}
use Rattle.model.specs.Line.{Settings, is_line, max_bytes, held_from}
use Rattle.model.specs.Text.{lines_of, packed_line, line_text, text_of, spelt}
use Rattle.model.specs.WellFormed.{fault}
use Rattle.model.specs.Entries.{outcome, text_fault, reading, writing}
use Rattle.model.specs.declared.Refusal.{Refusal}
use Rattle.model.specs.declared.Refusal.TheVariants.{TextTooLong}
use Rattle.theory.specs.Text.{AllLines}
use Rattle.theory.specs.Text.{TextBroken, too_long, spells}
use Rattle.theory.proofs.Tests.{clash}
use Rattle.theory.proofs.Fields.{lines_back, flatten_lines}
use Rattle.theory.proofs.Line.{zero_no_line}
use Rattle.theory.proofs.Spelling.{line_ends, packed_text, text_packed, line_length}
use Rattle.theory.proofs.WellFormed.{fault_exactly, no_fault_exactly}

-- the number that a line of a text spells; 0 where it is malformed
abbrev pub number_in : Settings → List ℕ → ℕ
number_in S s = get_or (packed_line S s) 0

-- ---- written and read

pub lines_of_text : (p : List ℕ) → lines_of (text_of p) ≡ map line_text p
unfolding text_of
lines_of_text p = lines_back line_text line_ends p

pub spelt_text : (S : Settings) (p : List ℕ) → AllLines S p → spelt S (text_of p) ≡ p
unfolding spelt
spelt_text S p lines = ap (map (number_in S)) (lines_of_text p) ∙ each p lines
  where
    each : (p : List ℕ) → AllLines S p → map (number_in S) (map line_text p) ≡ p
    each [] lines = refl
    each (l ∷ p) lines = rw (packed_text S l (lines 0 (omega arith)), each p (λ i h. lines (suc i) (omega arith)))

pub text_length : (S : Settings) (p : List ℕ) → AllLines S p → length (text_of p) ≤ 12 * length p
unfolding text_of
text_length S [] lines = omega arith
text_length S (l ∷ p) lines =
    rw length-append
    (omega (arith, line_length S l (lines 0 (omega arith)), text_length S p (λ i h. lines (suc i) (omega arith))))

-- ---- read and written

-- a number that is a line's was spelt
pub was_spelt : (S : Settings) (s : List ℕ) → is_line S (number_in S s) ≡ true → packed_line S s ≡ some (number_in S s)
was_spelt S s = go (packed_line S s)
  where
    go : (o : Option ℕ) → is_line S (get_or o 0) ≡ true → o ≡ some (get_or o 0)
    go none h = clash (is_line S 0) h (zero_no_line S)
    go (some l) h = refl

pub text_spelt : (S : Settings) → S.devices ≤ held_from → (text : List ℕ) → AllLines S (spelt S text)
    → text_of (spelt S text) ≡ text
unfolding spelt text_of flatten
text_spelt S d text lines = each (lines_of text) lines ∙ flatten_lines text
  where
    each : (ls : List (List ℕ)) → AllLines S (map (number_in S) ls)
        → flat_map line_text (map (number_in S) ls) ≡ flatten ls
    each [] lines = refl
    each (s ∷ ls) lines =
        rw (
          (text_packed S d s (number_in S s) (was_spelt S s (lines 0 (omega arith)))).0,
          each ls (λ i h. lines (suc i) (omega arith)),
        )

-- ---- faults

-- a text has no fault exactly if it is not too long and the plan that it spells has none
pub no_text_fault : (S : Settings) (text : List ℕ)
    → (text_fault S text ≡ none) ↔ ((length text ≤ max_bytes) × (fault S (spelt S text) ≡ none))
unfolding text_fault first_refusal refuse_if
no_text_fault S text = (
  λ h. to (ltb max_bytes (length text)) (fault S (spelt S text)) refl refl h,
  λ h. rw (le-ltb max_bytes (length text) h.0, h.1),
)
  where
    to : (b : Bool) (o : Option Refusal) → ltb max_bytes (length text) ≡ b → fault S (spelt S text) ≡ o
        → first_refusal (refuse_if b TextTooLong ∷ o ∷ []) ≡ none
        → (length text ≤ max_bytes) × (fault S (spelt S text) ≡ none)
    to true o e f h = absurd (some-ne-none TextTooLong h)
    to false (some r) e f h = absurd (some-ne-none r h)
    to false none e f h = (ltb-false max_bytes (length text) e, f)

-- and it has the fault r exactly if that is broken in it
pub text_fault_exactly : (S : Settings) (text : List ℕ) (r : Refusal)
    → (text_fault S text ≡ some r) ↔ TextBroken S text r
unfolding text_fault first_refusal refuse_if
text_fault_exactly S text r = (to (ltb max_bytes (length text)) refl (fault S p) refl, from r)
  where
    p : List ℕ
    p = spelt S text

    to : (b : Bool) → ltb max_bytes (length text) ≡ b → (o : Option Refusal) → fault S p ≡ o
        → first_refusal (refuse_if b TextTooLong ∷ o ∷ []) ≡ some r → TextBroken S text r
    to true e o f h = let z : r ≡ TextTooLong = cc in rw z (too_long (ltb-true max_bytes (length text) e))
    to false e (some q) f h =
        spells r (ltb-false max_bytes (length text) e) ((fault_exactly S p r).0 (f ∙ h))
    to false e none f h = absurd (none-ne-some r h)

    from : (q : Refusal) → TextBroken S text q
        → first_refusal (refuse_if (ltb max_bytes (length text)) TextTooLong ∷ fault S p ∷ []) ≡ some q
    from q (too_long h) = rw (lt-ltb max_bytes (length text) h)
    from q (spells s h b) = rw (le-ltb max_bytes (length text) h, (fault_exactly S p s).1 b)

-- a list that is long enough is not too short
room : (lent needed : ℕ) → needed ≤ lent → too_short lent needed ≡ none
unfolding too_short
room lent needed h = rw (le-ltb lent needed h)

-- reading, with its parts shut
reading_is : (S : Settings) (text lent : List ℕ)
    → reading S text lent
    ≡ outcome Err
    (first_refusal (text_fault S text ∷ too_short (length lent) (length (spelt S text)) ∷ []))
    (Ok (length (spelt S text))) (over (spelt S text) lent) lent
unfolding reading
reading_is S text lent = refl

-- ---- the round trips

module _ (S : Settings) (p : List ℕ) (sound : fault S p ≡ none) where
  -- written and read again: the same numbers, and no fault
  pub written_read : (spelt S (text_of p) ≡ p) × (text_fault S (text_of p) ≡ none)
  written_read =
      let w = (no_fault_exactly S p).0 sound in
      let s = spelt_text S p w.lines in
      (s, (no_text_fault S (text_of p)).1 (omega (arith, text_length S p w.lines, w.few), ap (fault S) s ∙ sound))

  -- with room, reading what was written gives the plan back
  pub reading_written : (lent : List ℕ) → length p ≤ length lent
      → reading S (text_of p) lent ≡ record { answer = Ok (length p); left = over p lent }
  unfolding first_refusal outcome
  reading_written lent h =
      reading_is S (text_of p) lent ∙ rw (written_read.0, written_read.1, room (length lent) (length p) h)

-- a device that is read has to fit the seven bits beside the one that tells a held line; one that is written fits them
-- already
module _ (S : Settings) (d : S.devices ≤ held_from) (text : List ℕ) (sound : text_fault S text ≡ none) where
  -- read and written again: the same bytes
  pub read_written : text_of (spelt S text) ≡ text
  read_written = text_spelt S d text ((no_fault_exactly S (spelt S text)).0 ((no_text_fault S text).0 sound).1).lines

  -- with room, writing what was read gives the text back
  pub writing_read : (lent : List ℕ) → length text ≤ length lent
      → writing S (spelt S text) lent ≡ record { answer = Ok (length text); left = over text lent }
  unfolding writing first_refusal outcome
  writing_read lent h = rw (read_written, ((no_text_fault S text).0 sound).1, room (length lent) (length text) h)

-- A plan of the morning taken up at midday (02, request 5): what 01's reader takes, the reader at midday takes too, and
-- everything that is answered, left and printed is the same. So a caller may use the entries for resumed plans of plans
-- in which nothing is under way. And of such plans the steps are the lines, as 01 has it.
use Prim.Native.Nat.{ℕ, ◌<◌, ◌≤◌}
use mathlib.Core.Bool.{Bool, true, false, cond}
use mathlib.Core.List.{List, [], ◌∷◌, get_last_d, drop_last}
use mathlib.Core.Logic.{◌⊎◌, inl, inr}
use mathlib.Core.Option.{Option, none, some, none-ne-some}
use mathlib.Core.Path.{◌≡◌, refl, sym, ◌∙◌, ap}
use lib.Dec.{eqb, leb, ltb}
use lib.ListN.{length, drop}
use Rattle.model.specs.Lists.{has}
use Rattle.model.specs.Line.{morning, at_midday, held_from, is_held, pack_verb, line_fits, at, line_number}
use Rattle.model.specs.Line.{max_lines, max_bytes}
use Rattle.model.specs.Mate.{held_at, steps}
use Rattle.model.specs.Text.{newline, number, verb_number, lines_of, fields_of, packed_from, from_fields, packed_line}
use Rattle.model.specs.Text.{text_of, spelt, handed_line, next_line}
use Rattle.model.specs.WellFormed.{fault}
use Rattle.model.specs.Move.{move_refusal}
use Rattle.model.specs.Entries.{text_fault, reading, writing, tabling, ordering, moving}
use Rattle.model.specs.Judged.{judge_refusal, judging, judge_text_refusal, judge_printed}
use Rattle.model.specs.Printed.{printed, screening}
use Rattle.model.specs.declared.Refusal.TheVariants.{TextTooLong, Malformed}
use Rattle.model.specs.declared.Cursor.{Cursor}
use Rattle.model.specs.declared.LineAnswer.{LineAnswer}
use Rattle.theory.specs.Line.{Fits, of_do, of_device, of_held, of_start}
use Rattle.theory.specs.Judged.{plan_text}
use Rattle.theory.proofs.Tests.{clash, test}
use Rattle.theory.proofs.Line.{fits_exactly}
use Rattle.theory.proofs.WellFormed.{no_fault_exactly, morning_midday, no_held_in_morning}
use Rattle.theory.proofs.Morning.{all_steps}
use Rattle.theory.proofs.Text.{no_text_fault, written_read, read_written}
use Rattle.theory.proofs.Printed.{printed_is}
use Rattle.promises.specs.Verdict.{StepsOnce}

-- ---- the line reader

module _ (D : ℕ) where
  -- what is a line in the morning is one at midday
  both_fit : (j v o : ℕ) → line_fits (morning D) j v o ≡ true → line_fits (at_midday D) j v o ≡ true
  both_fit j v o h =
      let r = (fits_exactly (morning D) j v o).0 h in (fits_exactly (at_midday D) j v o).1 (r.0, r.1, go r.2)
    where
      go : Fits (morning D) v o → Fits (at_midday D) v o
      go (of_do e b) = of_do e b
      go (of_device e b) = of_device e b
      go (of_held e m b) = clash false m refl
      go (of_start e a b) = of_start e a b

  both_pack : (j v o : Option ℕ) (n : ℕ) → packed_from (morning D) j v o ≡ some n
      → packed_from (at_midday D) j v o ≡ some n
  unfolding packed_from
  both_pack (some j) (some v) (some o) n e = go (test (line_fits (morning D) j v o))
    where
      go : (line_fits (morning D) j v o ≡ true) ⊎ (line_fits (morning D) j v o ≡ false)
          → cond (line_fits (at_midday D) j v o) (some (pack_verb j v o)) none ≡ some n
      go (inl h) = rw (both_fit j v o h) (rw h at e)
      go (inr h) = absurd (none-ne-some n (rw h at e))
  both_pack (some j) (some v) none n e = e
  both_pack (some j) none o n e = e
  both_pack none v o n e = e

  both_fields : (fs : List (List ℕ)) (n : ℕ) → from_fields (morning D) fs ≡ some n
      → from_fields (at_midday D) fs ≡ some n
  unfolding from_fields
  both_fields [] n e = e
  both_fields (j ∷ []) n e = e
  both_fields (j ∷ v ∷ []) n e = e
  both_fields (j ∷ v ∷ o ∷ []) n e = both_pack (number j) (verb_number v) (number o) n e
  both_fields (j ∷ v ∷ o ∷ x ∷ xs) n e = e

  both_spelt : (l : List ℕ) (n : ℕ) → packed_line (morning D) l ≡ some n → packed_line (at_midday D) l ≡ some n
  unfolding packed_line
  both_spelt l n = go (eqb (get_last_d l 0) newline)
    where
      go : (b : Bool) → cond b (from_fields (morning D) (fields_of (drop_last l))) none ≡ some n
          → cond b (from_fields (at_midday D) (fields_of (drop_last l))) none ≡ some n
      go true e = both_fields (fields_of (drop_last l)) n e
      go false e = e

  -- At any cursor of any text, unless the answer is 2 in the morning, it is the same at midday.
  pub both_hand_out : (text : List ℕ) (c : Cursor)
      → ((k : ℕ) → next_line (morning D) text c ≡ LineAnswer.Refused (Malformed k) → ⊥)
      → next_line (at_midday D) text c ≡ next_line (morning D) text c
  unfolding next_line handed_line
  both_hand_out text c fine = long (ltb max_bytes (length text)) refl
    where
      rest : List (List ℕ)
      rest = lines_of (drop c.offset text)

      some_line : (l : List ℕ) (ls : List (List ℕ)) → rest ≡ l ∷ ls → ltb max_bytes (length text) ≡ false → (b : Bool)
          → leb max_lines c.lines ≡ b → (o : Option ℕ) → packed_line (morning D) l ≡ o
          → handed_line (at_midday D) c (l ∷ ls) ≡ handed_line (morning D) c (l ∷ ls)
      some_line l ls r w true many o e = rw many
      some_line l ls r w false few (some n) e = rw (few, both_spelt l n e, e)
      some_line l ls r w false few none e =
          absurd (fine (line_number c.lines) (rw (w, r, few, e)))

      here : (ls : List (List ℕ)) → rest ≡ ls → ltb max_bytes (length text) ≡ false
          → handed_line (at_midday D) c ls ≡ handed_line (morning D) c ls
      here [] r w = refl
      here (l ∷ ls) r w = some_line l ls r w (leb max_lines c.lines) refl (packed_line (morning D) l) refl

      long : (b : Bool) → ltb max_bytes (length text) ≡ b
          → cond b (LineAnswer.Refused TextTooLong) (handed_line (at_midday D) c rest)
          ≡ cond b (LineAnswer.Refused TextTooLong) (handed_line (morning D) c rest)
      long true w = refl
      long false w = here rest refl w

-- ---- a plan

module _ (D : ℕ) (p : List ℕ) (sound : fault (morning D) p ≡ none) where
  pub both_take : fault (at_midday D) p ≡ none
  both_take = (no_fault_exactly (at_midday D) p).1 (morning_midday D p ((no_fault_exactly (morning D) p).0 sound))

  -- writing, the table, the verdict, the move and the judge, whatever they are lent and asked
  pub both_write : (lent : List ℕ) → writing (at_midday D) p lent ≡ writing (morning D) p lent
  unfolding writing
  both_write lent = rw (both_take, sound)

  pub both_table : (lent : List ℕ) → tabling (at_midday D) p lent ≡ tabling (morning D) p lent
  unfolding tabling
  both_table lent = rw (both_take, sound)

  pub both_order : (lent : List ℕ) → ordering (at_midday D) p lent ≡ ordering (morning D) p lent
  unfolding ordering
  both_order lent = rw (both_take, sound)

  pub both_move : (sets : List ℕ) (line device : ℕ)
      → moving (at_midday D) p sets line device ≡ moving (morning D) p sets line device
  unfolding moving move_refusal
  both_move sets line device = rw (both_take, sound)

  pub both_judge : (entries : List ℕ) → judging (at_midday D) p entries ≡ judging (morning D) p entries
  unfolding judging judge_refusal
  both_judge entries = rw (both_take, sound)

  -- room for the steps is room for the lines, and an order that has each step once has each line once
  unheld : (i : ℕ) → is_held (at p i) ≡ false
  unheld = no_held_in_morning D p ((no_fault_exactly (morning D) p).0 sound)

  pub steps_are_lines : length (steps p) ≡ length p
  steps_are_lines = all_steps p unheld

  pub has_each_line : (o : List ℕ) → StepsOnce p o → (i : ℕ) → i < length p → has i o ≡ true
  unfolding held_at
  has_each_line o once i h = once.each i h (unheld i)

-- ---- a text

module _ (D : ℕ) (small : D ≤ held_from) (text : List ℕ) (sound : text_fault (morning D) text ≡ none) where
  abbrev p : List ℕ
  p = spelt (morning D) text

  p_sound : fault (morning D) p ≡ none
  p_sound = ((no_text_fault (morning D) text).0 sound).1

  text_is : text_of p ≡ text
  text_is = read_written (morning D) small text sound

  -- it spells the same plan, and has no fault
  pub both_spell : spelt (at_midday D) text ≡ spelt (morning D) text
  both_spell =
      ap (spelt (at_midday D)) (sym text_is) ∙ (written_read (at_midday D) p (both_take D p p_sound)).0

  pub both_take_text : text_fault (at_midday D) text ≡ none
  both_take_text =
      ap (text_fault (at_midday D)) (sym text_is) ∙ (written_read (at_midday D) p (both_take D p p_sound)).1

  -- reading, whatever it is lent; what is printed; and the screens, whatever they are lent
  pub both_read : (lent : List ℕ) → reading (at_midday D) text lent ≡ reading (morning D) text lent
  unfolding reading
  both_read lent = rw (both_take_text, sound, both_spell)

  pub both_print : printed (at_midday D) text ≡ printed (morning D) text
  both_print = rw (printed_is (at_midday D) text, printed_is (morning D) text, both_take_text, sound, both_spell)

  pub both_screen : (lent : List ℕ) → screening (at_midday D) text lent ≡ screening (morning D) text lent
  unfolding screening
  both_screen lent = rw both_print

-- and of a plan and entries in one text, what the judge prints
pub both_print_judged : (D : ℕ) → D ≤ held_from → (text : List ℕ) → text_fault (morning D) (plan_text text) ≡ none
    → judge_printed (at_midday D) text ≡ judge_printed (morning D) text
unfolding judge_printed judge_text_refusal
both_print_judged D small text sound =
    rw (both_take_text D small (plan_text text) sound, sound, both_spell D small (plan_text text) sound)

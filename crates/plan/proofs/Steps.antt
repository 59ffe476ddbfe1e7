-- One step of the walk, by the code's tests: `step_of` from what its parts found.
use Rattle.std.proofs.Common.{◌≡◌, ℕ, suc, ◌+◌, ◌<◌, Bool, true, false, cond, ◌||◌, eqb, leb, List, [], get_or}
use Rattle.std.proofs.Common.{set, sym, refl, ◌∙◌, add-one, leb-false}
use mathlib.Core.Option.{none, some, none-ne-some}
use Rattle.model.specs.Answers.{refuse_if, first_refusal}
use Rattle.model.specs.Board.{devices, board, board_at}
use Rattle.model.specs.Line.{Settings, job, is_line, line_number, max_lines}
use Rattle.model.specs.declared.Refusal.{Refusal}
use Rattle.model.specs.declared.Refusal.TheVariants.{Malformed, TooManyLines, JobOutOfSequence}
use Rattle.theory.proofs.Line.{morning_line, line_either}
use Rattle.plan.specs.Walk.{placed_by, place_fault, held_fault, Next, bad, rule_of, step_of, held_in}

-- the first three tests pass
passed : (i : ℕ) (a b c : Bool) → placed_by i a b c ≡ none → (a ≡ false) × (b ≡ true) × (c ≡ true)
unfolding refuse_if first_refusal
passed i false true true e = (refl, refl, refl)
passed i true b c e = absurd (none-ne-some TooManyLines (sym e))
passed i false false c e = absurd (none-ne-some (Malformed (line_number i)) (sym e))
passed i false true false e = absurd (none-ne-some (JobOutOfSequence (line_number i)) (sym e))

pub in_place : (S : Settings) (n i prev : ℕ) → place_fault S n i prev ≡ none
    → (i < max_lines) × (is_line S n ≡ true) × ((eqb (job n) prev || eqb (job n) (suc prev)) ≡ true)
unfolding place_fault
in_place S n i prev e =
    let t = passed i (leb max_lines i) (is_line S n) (eqb (job n) prev || eqb (job n) (suc prev)) e in
    (leb-false max_lines i t.0, t.1, t.2)

-- a line of the morning is one at midday too
pub line_at_midday : (midday : Bool) (l : ℕ) → is_line (board_at midday) l ≡ true → is_line (board_at true) l ≡ true
line_at_midday true l h = h
line_at_midday false l h = line_either board (board_at true) refl l (morning_line devices l h) h

module _ (S : Settings) (n i prev named : ℕ) (early : Bool) (first starter : List ℕ) where
  pub stops : (held : List ℕ) (r : Refusal) → place_fault S n i prev ≡ some r
      → bad r ≡ step_of S n i prev named early held first starter
  unfolding step_of
  stops held r e = rw e

  pub stops_held : (held : List ℕ) (r : Refusal) → place_fault S n i prev ≡ none
      → held_fault n i prev named early starter ≡ some r → bad r ≡ step_of S n i prev named early held first starter
  unfolding step_of
  stops_held held r e h = rw (e, h)

  -- the line is of job j, v is its entry in the first lines, and d devices are held
  pub goes_on_lem : (x : Next) (depth d j v : ℕ) (stack : List ℕ) → place_fault S n i prev ≡ none
      → held_fault n i prev named early starter ≡ none → j ≡ job n
      → v ≡ cond (eqb j prev) (get_or first j 0) (i + 1) → d ≡ cond (eqb j prev) depth 0
      → x ≡ rule_of i n (held_in d stack) (set first j v) starter
      → x ≡ step_of S n i prev named early (held_in depth stack) first starter
  unfolding step_of line_number held_in
  goes_on_lem x depth d j v stack e h q f g led = led ∙ rw (f, g, e, h, q, add-one) (go (eqb (job n) prev))
    where
      go : (b : Bool) → rule_of i n (held_in (cond b depth 0) stack) (set first (job n) (cond b (get_or first (job n) 0)
          (suc i))) starter
          ≡ rule_of i n (cond b (held_in depth stack) []) (set first (job n) (cond b (get_or first (job n) 0) (suc i)))
          starter
      go true = refl
      go false = refl

-- 02, request 1: an order from elsewhere, judged entry by entry against 01, "Legal orders". An entry names a line by
-- its number, from 1; 0 and a number past the last line name none. Then the program that reads a plan and such an order
-- in one text.
use Rattle.std.specs.Prelude.{ℕ, zero, suc, ◌+◌, ◌*◌, Bool, true, false, cond, not, ◌&&◌, ◌||◌, eqb, ltb, length}
use Rattle.std.specs.Prelude.{Result, Ok, Err}
use mathlib.Core.List.{List, [], ◌∷◌, ◌++◌, map, get_last_d, drop_last}
use Rattle.std.proofs.Math.Option.{Option, none, some, get_or}
use Rattle.model.specs.Lists.{positions, all, has, same}
use Rattle.model.specs.Answers.{refuse_at, first_refusal}
use Rattle.model.specs.Line.{Settings, max_lines, max_bytes}
use Rattle.model.specs.Text.{newline, number, lines_of, spelt}
use Rattle.model.specs.WellFormed.{fault}
use Rattle.model.specs.Mate.{takes_at, device_at, held_lines}
use Rattle.model.specs.Legal.{precedes, held}
use Rattle.model.specs.Entries.{text_fault}
use Rattle.model.specs.Printed.{printed_refusal}
use Rattle.model.specs.declared.Refusal.{Refusal}
use Rattle.model.specs.declared.Refusal.TheVariants.{IllegalStep}

-- line i may follow the lines done: `Legal.MayFollow`, as a test
unfoldable pub may_follow : List ℕ → List ℕ → ℕ → Bool
unfolding has all precedes positions takes_at held device_at
may_follow p done i =
    ltb i (length p) && not (has i done) && all (λ k. not (precedes p k i) || has k done) (positions p)
    && not (takes_at p i && held p done (device_at p i))

-- Where a list goes wrong, counted from 1. So many entries are gone through, and their lines are among those done. It
-- goes wrong at the first entry that may not follow or, where a line is undone at its end, just past the end.
unfoldable pub stray_after : List ℕ → List ℕ → ℕ → List ℕ → Option ℕ
unfolding may_follow all has positions
stray_after p done gone [] = cond (all (λ i. has i done) (positions p)) none (some (suc gone))
stray_after p done gone (zero ∷ es) = some (suc gone)
stray_after p done gone (suc i ∷ es) =
    elim (may_follow p done i) [ true ↦ stray_after p (done ++ (i ∷ [])) (suc gone) es | false ↦ some (suc gone) ]

-- from the front, with nothing done but what is held
unfoldable pub stray : List ℕ → List ℕ → Option ℕ
unfolding stray_after held_lines
stray p es = stray_after p (held_lines p) 0 es

-- The judge's tests: those of the plan; then 15. It is lent nothing to write to, so its outcome is its answer.
unfoldable pub judge_refusal : Settings → List ℕ → List ℕ → Option Refusal
unfolding first_refusal fault refuse_at stray
judge_refusal S p es = first_refusal (fault S p ∷ refuse_at IllegalStep (stray p es) ∷ [])

unfoldable pub judged_by : Option Refusal → Result (Unit {0}) Refusal
judged_by none = Ok tt
judged_by (some r) = Err r

unfoldable pub judging : Settings → List ℕ → List ℕ → Result (Unit {0}) Refusal
unfolding judged_by judge_refusal
judging S p es = judged_by (judge_refusal S p es)

-- ---- the program: a plan's text, the line --, and the entries one a line

unfoldable pub parting_line : List ℕ
parting_line = 45 ∷ 45 ∷ newline ∷ []

-- the plan's text: the lines before the first that parts; all of them where none does
unfoldable pub plan_part : List (List ℕ) → List ℕ
unfolding same parting_line
plan_part [] = []
plan_part (l ∷ ls) = elim (same l parting_line) [ true ↦ [] | false ↦ l ++ plan_part ls ]

-- the lines of the entries: those after the first that parts; none where none does
unfoldable pub entry_part : List (List ℕ) → List (List ℕ)
unfolding same parting_line
entry_part [] = []
entry_part (l ∷ ls) = elim (same l parting_line) [ true ↦ ls | false ↦ entry_part ls ]

-- a line's entry: its number, or 0 where its newline is missing or what stands before it is no number
unfoldable pub entry_of : List ℕ → ℕ
unfolding number get_last_d
entry_of l = cond (eqb (get_last_d l 0) newline) (get_or (number (drop_last l)) 0) 0

unfoldable pub entries_of : List (List ℕ) → List ℕ
unfolding entry_of entry_part
entries_of ls = map entry_of (entry_part ls)

-- those of the plan's text; then 15
unfoldable pub judge_text_refusal : Settings → List ℕ → Option Refusal
unfolding first_refusal text_fault refuse_at stray spelt plan_part entries_of lines_of
judge_text_refusal S text =
    let ls : List (List ℕ) = lines_of text in
    let plan : List ℕ = plan_part ls in
    first_refusal (text_fault S plan ∷ refuse_at IllegalStep (stray (spelt S plan) (entries_of ls)) ∷ [])

-- the line legal, or the line of the refusal
unfoldable pub legal_line : List ℕ
legal_line = 108 ∷ 101 ∷ 103 ∷ 97 ∷ 108 ∷ newline ∷ []

unfoldable pub judge_line : Result (Unit {0}) Refusal → List ℕ
unfolding legal_line printed_refusal
judge_line (Ok tt) = legal_line
judge_line (Err r) = printed_refusal r

-- what `judge` prints for a text
unfoldable pub judge_printed : Settings → List ℕ → List ℕ
unfolding judge_line judged_by judge_text_refusal
judge_printed S text = judge_line (judged_by (judge_text_refusal S text))

-- The first 17,412 bytes of a text decide: as many as a plan's text can have, the line that parts, five for each entry
-- of a legal order, and one more, which shows where a list goes on.
abbrev pub judge_room : ℕ
judge_room = max_bytes + length parting_line + max_lines * 5 + 1

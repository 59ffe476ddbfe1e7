-- Cases of plans taken up at midday (02, request 5), each worked out by hand, as tables of the form of Starred: what an
-- entry makes of a case, computed from the definitions, and what it is by 02 and by the order rule of docs/RULES.md.
-- The verdict's list is one place longer than needed and filled with 99. The records are the statements.
use Prim.Native.Nat.{ℕ, ◌+◌}
use Rattle.std.specs.Prelude.{Result}
use mathlib.Core.List.{List, [], ◌∷◌}
use mathlib.Core.Option.{Option, none, some}
use mathlib.Core.Path.{◌≡◌, refl}
use lib.ListN.{length, replicate}
use Rattle.model.specs.Answers.{refusal_values, answer_values, judge_values}
use Rattle.model.specs.Line.{Settings, at_midday, pack_verb, held_verb}
use Rattle.model.specs.Text.{spelt, text_of}
use Rattle.model.specs.Mate.{steps}
use Rattle.model.specs.WellFormed.{fault}
use Rattle.model.specs.Claims.{table}
use Rattle.model.specs.Entries.{Outcome, Lent, tabling, ordering, moving}
use Rattle.model.specs.Kept.{beside_of, building, moving_kept, quick}
use Rattle.model.specs.Printed.{printed}
use Rattle.model.specs.Judged.{judging}
use Rattle.model.specs.Board.{devices, board}
use Rattle.model.specs.declared.Refusal.{Refusal}
use Rattle.model.proofs.Starred.{◌does◌, ◌takes◌, ◌gives◌, ◌starts◌, accepted}
use Rattle.model.proofs.Worked.{bytes}

infix 90 ◌holds◌
unfoldable pub ◌holds◌ : ℕ → ℕ → ℕ
unfolding pack_verb
j holds d = pack_verb j held_verb d

-- eight devices are enough for the cases, and keep them short to compute
abbrev pub midday : Settings
midday = at_midday 8

-- ---- what the entries make of a case

unfoldable pub lent : List ℕ → List ℕ
unfolding steps
lent p = replicate (length (steps p) + 1) 99

unfoldable pub verdict_on : List ℕ → List (List ℕ)
unfolding ordering lent
verdict_on p =
    let o : Outcome (Result ℕ Refusal) (List ℕ) = ordering midday p (lent p) in answer_values o.answer ∷ o.left ∷ []

unfoldable pub refused : ℕ → ℕ → List ℕ → List (List ℕ)
unfolding lent
refused number place p = (number ∷ place ∷ []) ∷ lent p ∷ []

-- the answer alone, with so many places
pub room_for : ℕ → List ℕ → List ℕ
unfolding ordering
room_for places p = answer_values (ordering midday p (replicate places 99)).answer

pub tabled : List ℕ → List (List ℕ)
unfolding tabling
tabled p =
    let o : Outcome (Result ℕ Refusal) (List ℕ) = tabling midday p (replicate (length p) 99) in
    answer_values o.answer ∷ o.left ∷ []

pub moved_with : List ℕ → List ℕ → ℕ → ℕ → List (List ℕ)
unfolding moving
moved_with sets p line device =
    let o : Outcome (Result ℕ Refusal) Lent = moving midday p sets line device in
    answer_values o.answer ∷ o.left.plan ∷ o.left.sets ∷ []

-- of a plan with its own table
pub moved : List ℕ → ℕ → ℕ → List (List ℕ)
unfolding moved_with table
moved p line device = moved_with (table p) p line device

pub judged : List ℕ → List ℕ → List ℕ
unfolding judging
judged p order = judge_values (judging midday p order)

pub values_of : Option Refusal → List ℕ
values_of none = []
values_of (some r) = refusal_values r

-- number and place of a plan's fault at midday, and in the morning
pub fault_of : List ℕ → List ℕ
unfolding values_of fault
fault_of p = values_of (fault midday p)

pub morning_fault : List ℕ → List ℕ
unfolding values_of fault
morning_fault p = values_of (fault board p)

-- ---- the plans

-- Each job holds what the other wants next. The segment of job 1, lines 2 to 4, takes 3, which job 2 holds; that of job
-- 2, lines 6 to 8, takes 5, which job 1 holds. Neither can be done: 10, at 3, the lower of the two held.
pub crossed : List ℕ
unfolding ◌holds◌ ◌takes◌ ◌gives◌
crossed =
    1 holds 5 ∷ 1 takes 3 ∷ 1 gives 3 ∷ 1 gives 5 ∷ 2 holds 3 ∷ 2 takes 5 ∷ 2 gives 5 ∷ 2 gives 3 ∷ []

-- The same, but job 2 gives first. Its segment is line 6 and takes nothing, so it can be done; then 3 is free for that
-- of job 1; then nothing is open, and 01's turns do the pair of lines 7 and 8.
unfoldable pub gives_first : List ℕ
unfolding ◌holds◌ ◌takes◌ ◌gives◌
gives_first =
    1 holds 5 ∷ 1 takes 3 ∷ 1 gives 3 ∷ 1 gives 5 ∷ 2 holds 3 ∷ 2 gives 3 ∷ 2 takes 5 ∷ 2 gives 5 ∷ []

-- Both segments can be done, and the lower job's goes first.
pub lowest_first : List ℕ
unfolding ◌holds◌ ◌gives◌
lowest_first = 1 holds 0 ∷ 1 gives 0 ∷ 2 holds 1 ∷ 2 gives 1 ∷ []

-- Job 1 holds 4 to the end, and line 5 takes it for a while: no order is legal. All stretches that have a give can be
-- closed, so the kept device alone is why. 10 comes with the lowest device that is held, which is 2.
pub taken_elsewhere : List ℕ
unfolding ◌holds◌ ◌does◌ ◌takes◌ ◌gives◌
taken_elsewhere = 1 holds 4 ∷ 1 does 7 ∷ 2 holds 2 ∷ 2 gives 2 ∷ 2 takes 4 ∷ 2 gives 4 ∷ []

-- A held line has no row. Line 2 takes 3 to the end and claims 5 beyond it, so that 3 leads to 5; if 5, which job 1
-- holds to the end with 3 claimed beyond it, led to 3, it would be 10 at 3. It is 10 at 5, since line 4 takes what is
-- kept.
pub rowless : List ℕ
unfolding ◌holds◌ ◌takes◌ ◌gives◌ ◌starts◌
rowless = 1 holds 5 ∷ 1 takes 3 ∷ 1 starts 2 ∷ 2 takes 5 ∷ 2 gives 5 ∷ []

-- Job 1 holds 4 to the end, and line 3 takes it to the end: 9 at 4.
pub kept_twice : List ℕ
unfolding ◌holds◌ ◌does◌ ◌takes◌
kept_twice = 1 holds 4 ∷ 1 does 7 ∷ 2 takes 4 ∷ []

-- What job 1 holds is given back in two segments, line 3 and lines 4 to 6. The second takes 2, which job 2 holds, and
-- job 2's, lines 8 to 10, takes 1, which the first gives back: so job 2's goes between them.
pub between : List ℕ
unfolding ◌holds◌ ◌takes◌ ◌gives◌
between =
    1 holds 0 ∷ 1 holds 1 ∷ 1 gives 1 ∷ 1 takes 2 ∷ 1 gives 2 ∷ 1 gives 0
    ∷ 2 holds 2 ∷ 2 takes 1 ∷ 2 gives 1 ∷ 2 gives 2 ∷ []

-- Job 2 is running, though no line starts it, and holds 3 to the end; in the morning its held line is no line.
unfoldable pub running : List ℕ
unfolding ◌holds◌ ◌does◌
running = 1 does 7 ∷ 2 holds 3 ∷ 2 does 8 ∷ []

-- The device that is held is taken again, which needs no free device and claims nothing; line 3 gives the inner take
-- back, line 4 the held device. Only line 5 claims: {0}.
unfoldable pub held_again : List ℕ
unfolding ◌holds◌ ◌takes◌ ◌gives◌
held_again = 1 holds 0 ∷ 1 takes 0 ∷ 1 gives 0 ∷ 1 gives 0 ∷ 2 takes 0 ∷ 2 gives 0 ∷ []

-- Line 2 takes 7 to the end, and line 3 starts job 2, which takes 7: 7 leads back to itself. That job 3 takes 2, which
-- job 1 holds to the end, would be 10 at 2; the rows come first.
pub circle_beside : List ℕ
unfolding ◌holds◌ ◌takes◌ ◌gives◌ ◌starts◌
circle_beside =
    1 holds 2 ∷ 1 takes 7 ∷ 1 starts 2 ∷ 2 takes 7 ∷ 2 gives 7 ∷ 3 takes 2 ∷ 3 gives 2 ∷ []

-- A move in a running job. Line 4 is moved from 1 to 5: its way ends at line 3, the first of its job, and the sets of
-- job 1 stay. Lines 3 and 4 claim {1} before, {5} after.
unfoldable pub running_move : ℕ → List ℕ
unfolding ◌holds◌ ◌takes◌ ◌gives◌
running_move d = 1 takes 0 ∷ 1 gives 0 ∷ 2 holds 3 ∷ 2 takes d ∷ 2 gives d ∷ []

-- A move in a job that a running one starts. Line 5 is moved from 1 to 5: its way goes back to line 4, which starts its
-- job, and to line 3, the first of job 2. Lines 3 to 5 claim {1} before, {5} after.
unfoldable pub started_move : ℕ → List ℕ
unfolding ◌holds◌ ◌takes◌ ◌gives◌ ◌starts◌
started_move d = 1 takes 0 ∷ 1 gives 0 ∷ 2 holds 3 ∷ 2 starts 3 ∷ 3 takes d ∷ 3 gives d ∷ []

-- ---- the tables

pub record Verdicts : Type 0 where
  pub is_crossed : verdict_on crossed ≡ refused 10 3 crossed
  pub gives_first_lem : verdict_on gives_first ≡ accepted 0 (6 ∷ 2 ∷ 3 ∷ 4 ∷ 7 ∷ 8 ∷ [])
  pub lowest_first_lem : verdict_on lowest_first ≡ accepted 0 (2 ∷ 4 ∷ [])
  pub goes_between : verdict_on between ≡ accepted 0 (3 ∷ 8 ∷ 9 ∷ 10 ∷ 4 ∷ 5 ∷ 6 ∷ [])
  pub is_running : verdict_on running ≡ accepted 1 (1 ∷ 3 ∷ [])
  pub held_again_lem : verdict_on held_again ≡ accepted 0 (2 ∷ 3 ∷ 4 ∷ 5 ∷ 6 ∷ [])
  -- the list has room for the steps; one place less is 11
  pub no_room : room_for 5 gives_first ≡ 11 ∷ 6 ∷ []
  pub room : room_for 6 gives_first ≡ 0 ∷ 0 ∷ []

pub verdicts : Verdicts
unfolding verdict_on room_for refused lent accepted crossed gives_first lowest_first between running held_again
verdicts =
    record {
      is_crossed = refl;
      gives_first_lem = refl;
      lowest_first_lem = refl;
      goes_between = refl;
      is_running = refl;
      held_again_lem = refl;
      no_room = refl;
      room = refl;
    }

pub record Elsewhere : Type 0 where
  pub taken_elsewhere_lem : verdict_on taken_elsewhere ≡ refused 10 2 taken_elsewhere

pub elsewhere : Elsewhere
unfolding verdict_on refused lent taken_elsewhere
elsewhere = record { taken_elsewhere_lem = refl }

pub record Twice : Type 0 where
  pub kept_twice_lem : verdict_on kept_twice ≡ refused 9 4 kept_twice

pub twice : Twice
unfolding verdict_on refused lent kept_twice
twice = record { kept_twice_lem = refl }

pub record ByRows : Type 0 where
  pub no_row : verdict_on rowless ≡ refused 10 5 rowless
  pub circle_beside_lem : verdict_on circle_beside ≡ refused 10 7 circle_beside

pub by_rows_lem : ByRows
unfolding verdict_on refused lent rowless circle_beside
by_rows_lem = record { no_row = refl; circle_beside_lem = refl }

pub record Tables : Type 0 where
  pub claims_nothing : tabled held_again ≡ (0 ∷ 6 ∷ []) ∷ (0 ∷ 0 ∷ 0 ∷ 0 ∷ 1 ∷ 0 ∷ []) ∷ []
  pub its_successors : tabled (running_move 1) ≡ (0 ∷ 5 ∷ []) ∷ (1 ∷ 0 ∷ 2 ∷ 2 ∷ 0 ∷ []) ∷ []

pub tables : Tables
unfolding tabled held_again running_move
tables =
    record {
      claims_nothing = refl;
      its_successors = refl;
    }

pub record Faults : Type 0 where
  -- 16; 17 after another verb, and in a job that is started; 16 before 17
  pub held_twice_lem : fault_of (1 holds 0 ∷ 2 holds 0 ∷ []) ≡ 16 ∷ 2 ∷ []
  pub late : fault_of (1 does 7 ∷ 1 holds 0 ∷ []) ≡ 17 ∷ 2 ∷ []
  pub started : fault_of (1 starts 2 ∷ 2 holds 0 ∷ []) ≡ 17 ∷ 2 ∷ []
  pub twice_first : fault_of (1 holds 0 ∷ 1 does 7 ∷ 1 holds 0 ∷ []) ≡ 16 ∷ 3 ∷ []
  -- 7: a give matches the device held last. 2: a device past the board. 4 before 16. 5 after the last line
  pub give_last : fault_of (1 holds 0 ∷ 1 holds 1 ∷ 1 gives 0 ∷ []) ≡ 7 ∷ 3 ∷ []
  pub off_board : fault_of (1 holds 8 ∷ []) ≡ 2 ∷ 1 ∷ []
  pub out_of_sequence_lem : fault_of (1 holds 0 ∷ 3 holds 0 ∷ []) ≡ 4 ∷ 2 ∷ []
  pub starts_nobody : fault_of (1 holds 0 ∷ 1 starts 2 ∷ []) ≡ 5 ∷ 2 ∷ []
  -- 6 is not given; in the morning it is, and a held line is no line
  pub no_six : fault_of (1 does 7 ∷ 2 does 8 ∷ []) ≡ []
  pub morning_six : morning_fault (1 does 7 ∷ 2 does 8 ∷ []) ≡ 6 ∷ 2 ∷ []
  pub morning_held : morning_fault running ≡ 2 ∷ 2 ∷ []
  -- and so it is for the three entries that are lent rows
  pub builds_none : answer_values (building devices running (beside_of devices running)).answer ≡ 2 ∷ 2 ∷ []
  pub moves_none : answer_values (moving_kept devices running (beside_of devices running) 1 0).answer ≡ 2 ∷ 2 ∷ []
  pub quick_none : answer_values (quick devices running (replicate devices 0)) ≡ 2 ∷ 2 ∷ []

pub faults : Faults
unfolding fault_of morning_fault running building moving_kept quick beside_of ◌holds◌ ◌does◌ ◌gives◌ ◌starts◌
faults =
    record {
      held_twice_lem = refl;
      late = refl;
      started = refl;
      twice_first = refl;
      give_last = refl;
      off_board = refl;
      out_of_sequence_lem = refl;
      starts_nobody = refl;
      no_six = refl;
      morning_six = refl;
      morning_held = refl;
      builds_none = refl;
      moves_none = refl;
      quick_none = refl;
    }

-- the judge takes the order handed out and others; a held line is no step, and a list without it is whole
pub record Judgements : Type 0 where
  pub own : judged gives_first (6 ∷ 2 ∷ 3 ∷ 4 ∷ 7 ∷ 8 ∷ []) ≡ 0 ∷ []
  pub other : judged running (3 ∷ 1 ∷ []) ≡ 0 ∷ []
  pub held_line : judged running (1 ∷ 2 ∷ 3 ∷ []) ≡ 15 ∷ 2 ∷ []
  pub held_device : judged gives_first (2 ∷ []) ≡ 15 ∷ 1 ∷ []
  pub short : judged running (1 ∷ []) ≡ 15 ∷ 2 ∷ []

pub judgements : Judgements
unfolding judged gives_first running
judgements =
    record {
      own = refl;
      other = refl;
      held_line = refl;
      held_device = refl;
      short = refl;
    }

pub record Moves : Type 0 where
  pub moves_on : moved (running_move 1) 4 5 ≡ (0 ∷ 2 ∷ []) ∷ running_move 5 ∷ (1 ∷ 0 ∷ 32 ∷ 32 ∷ 0 ∷ []) ∷ []
  pub moves_through_a_start : moved (started_move 1) 5 5
      ≡ (0 ∷ 3 ∷ []) ∷ started_move 5 ∷ (1 ∷ 0 ∷ 32 ∷ 32 ∷ 32 ∷ 0 ∷ []) ∷ []
  pub held_stays : moved (running_move 1) 3 5 ≡ (12 ∷ 3 ∷ []) ∷ running_move 1 ∷ (1 ∷ 0 ∷ 2 ∷ 2 ∷ 0 ∷ []) ∷ []
  pub held_stays_stale : moved_with (9 ∷ 9 ∷ 9 ∷ 9 ∷ 9 ∷ []) (running_move 1) 3 5
      ≡ (12 ∷ 3 ∷ []) ∷ running_move 1 ∷ (9 ∷ 9 ∷ 9 ∷ 9 ∷ 9 ∷ []) ∷ []

pub moves : Moves
unfolding moved moved_with running_move started_move
moves =
    record {
      moves_on = refl;
      moves_through_a_start = refl;
      held_stays = refl;
      held_stays_stale = refl;
    }

-- the way ends in the running job: what stands before it is not asked, and stays
pub record Ways : Type 0 where
  pub ends_there : moved_with (99 ∷ 99 ∷ 2 ∷ 2 ∷ 0 ∷ []) (running_move 1) 4 5
      ≡ (0 ∷ 2 ∷ []) ∷ running_move 5 ∷ (99 ∷ 99 ∷ 32 ∷ 32 ∷ 0 ∷ []) ∷ []
  pub stale_there : moved_with (1 ∷ 0 ∷ 99 ∷ 2 ∷ 0 ∷ []) (running_move 1) 4 5
      ≡ (14 ∷ 3 ∷ []) ∷ running_move 1 ∷ (1 ∷ 0 ∷ 99 ∷ 2 ∷ 0 ∷ []) ∷ []

pub ways : Ways
unfolding moved_with running_move
ways =
    record {
      ends_there = refl;
      stale_there = refl;
    }

-- there and back; a take's operand keeps its range; what is printed counts the steps
pub record Texts : Type 0 where
  pub spells : spelt midday (bytes "1\tdo\t7\n2\theld\t3\n2\tdo\t8\n") ≡ running
  pub writes : text_of running ≡ bytes "1\tdo\t7\n2\theld\t3\n2\tdo\t8\n"
  pub no_take_lem : spelt midday (bytes "1\ttake\t131\n") ≡ 0 ∷ []
  pub morning_text : spelt board (bytes "1\theld\t3\n") ≡ 0 ∷ []
  pub prints : printed midday (bytes "1\tdo\t7\n2\theld\t3\n2\tdo\t8\n") ≡ bytes "order\t2\t1\n1\n3\n"

pub texts : Texts
unfolding spelt text_of printed bytes running
texts =
    record {
      spells = refl;
      writes = refl;
      no_take_lem = refl;
      morning_text = refl;
      prints = refl;
    }

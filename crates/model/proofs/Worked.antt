-- Worked cases beside the starred ones of 01, as one table, for what those do not reach: each row has what the
-- definitions make of a case, computed from them, and what 01 says it is, or 02 of devices taken again (request 2) and
-- of an order from elsewhere (request 1), where each group says what wrong judge it excludes. Texts are written as they
-- stand in a file. Lent lists are filled with 99, which no case has; the values of an answer are 0 and the value, or a
-- refusal's number and place. The record is the one statement.
use Prim.Native.Nat.{ℕ}
use Rattle.std.specs.Prelude.{Result}
use Prim.Native.Char.{code}
use Prim.Native.String.{String, [] as nothing, ◌∷◌ as ◌then◌}
use mathlib.Core.Bool.{true, false}
use mathlib.Core.List.{List, [], ◌∷◌, ◌++◌, map, flat_map}
use mathlib.Core.Option.{Option, none, some}
use mathlib.Core.Path.{◌≡◌, refl}
use lib.ListN.{replicate}
use Rattle.model.specs.Answers.{refusal_values, line_values, answer_values}
use Rattle.model.specs.Answers.{judge_values}
use Rattle.model.specs.Line.{line_fits, line_number}
use Rattle.model.specs.Text.{spelt, text_of, next_line, line_from}
use Rattle.model.specs.WellFormed.{line_fault, fault}
use Rattle.model.specs.Legal.{held}
use Rattle.model.specs.Handed.{handed}
use Rattle.model.specs.Entries.{Outcome, reading, writing, tabling, ordering, moving}
use Rattle.model.specs.Printed.{ScreenOutcome, printed, screening}
use Rattle.model.specs.Judged.{judging, judge_printed}
use Rattle.model.specs.Board.{board}
use Rattle.model.specs.declared.Refusal.{Refusal}
use Rattle.model.proofs.Starred.{◌does◌, ◌takes◌, ◌gives◌, ◌starts◌, plan_a, plan_d, plan_f, plan_j, plan_k, plan_m}
use Rattle.model.proofs.Starred.{moved}

-- the bytes of a text, which has none but those of ASCII
unfoldable pub bytes : String → List ℕ
bytes nothing = []
bytes (c then s) = code c ∷ bytes s

-- ---- what the entries make of a case

pub values_of : Option Refusal → List ℕ
values_of none = []
values_of (some r) = refusal_values r

-- number and place of a plan's fault; nothing where it has none
pub fault_of : List ℕ → List ℕ
unfolding values_of fault
fault_of p = values_of (fault board p)

-- and of a line after so many others
pub fault_after : ℕ → ℕ → List ℕ
unfolding values_of line_fault ◌does◌
fault_after lines l = values_of (line_fault board (replicate lines (1 does 0)) l)

-- answer and list, of a list of so many entries
pub read_into : ℕ → List ℕ → List (List ℕ)
unfolding reading
read_into room text =
    let o : Outcome (Result ℕ Refusal) (List ℕ) = reading board text (replicate room 99) in
    answer_values o.answer ∷ o.left ∷ []

pub written_into : ℕ → List ℕ → List (List ℕ)
unfolding writing
written_into room p =
    let o : Outcome (Result ℕ Refusal) (List ℕ) = writing board p (replicate room 99) in
    answer_values o.answer ∷ o.left ∷ []

pub tabled_into : ℕ → List ℕ → List (List ℕ)
unfolding tabling
tabled_into room p =
    let o : Outcome (Result ℕ Refusal) (List ℕ) = tabling board p (replicate room 99) in
    answer_values o.answer ∷ o.left ∷ []

pub ordered_into : ℕ → List ℕ → List (List ℕ)
unfolding ordering
ordered_into room p =
    let o : Outcome (Result ℕ Refusal) (List ℕ) = ordering board p (replicate room 99) in
    answer_values o.answer ∷ o.left ∷ []

-- the line numbers of the order handed out
pub order_of : List ℕ → List ℕ
unfolding handed line_number
order_of p = map line_number (handed p)

pub shown_in : ℕ → List ℕ → List (List ℕ)
unfolding screening
shown_in room text =
    let o : ScreenOutcome = screening board text (replicate room 99) in (o.count ∷ []) ∷ o.out ∷ []

-- what comes at an offset, after so many lines
pub next_at : List ℕ → ℕ → ℕ → List ℕ
unfolding next_line
next_at text offset lines = line_values (next_line board text (record { offset = offset; lines = lines }))

-- a move's answer, with these sets
pub moved_with : List ℕ → List ℕ → ℕ → ℕ → List ℕ
unfolding moving
moved_with p sets line device = answer_values (moving board p sets line device).answer

-- what the judge answers of entries, and prints of a text
pub judged_of : List ℕ → List ℕ → List ℕ
unfolding judging
judged_of p entries = judge_values (judging board p entries)

pub judged_text : String → List ℕ
unfolding judge_printed bytes
judged_text text = judge_printed board (bytes text)

-- the same of the text of one line, the line that parts, and these entries
pub judged_after : String → List ℕ
unfolding judge_printed bytes
judged_after entries = judge_printed board (bytes "1\tdo\t0\n--\n" ++ bytes entries)

-- ---- the cases

pub text_a : List ℕ
unfolding bytes
text_a = bytes "1\tstart\t2\n1\ttake\t1\n1\tdo\t7\n2\ttake\t0\n2\ttake\t1\n2\tgive\t1\n"

pub print_a : List ℕ
unfolding bytes
print_a = bytes "order\t6\t2\n1\n4\n5\n6\n2\n3\n"

pub table_a : List ℕ
table_a = 3 ∷ 2 ∷ 0 ∷ 3 ∷ 2 ∷ 0 ∷ []

-- numbers of one, two and three digits
pub wide : List ℕ
unfolding ◌does◌ ◌takes◌ ◌gives◌ ◌starts◌
wide = 64 does 255 ∷ 10 takes 31 ∷ 9 gives 10 ∷ 1 starts 64 ∷ 1 does 0 ∷ []

pub wide_text : List ℕ
unfolding bytes
wide_text = bytes "64\tdo\t255\n10\ttake\t31\n9\tgive\t10\n1\tstart\t64\n1\tdo\t0\n"

-- none is a line: empty; a carriage return; a capital; a nought or a sign in front; an operand or a job that is not
-- there; a field too many; blanks for tabs; two tabs; numbers past their ranges; a word that is no verb; the bytes next
-- to the digits; the beginning of a verb, or nothing for it; a field too few; no newline
pub not_lines : List ℕ
unfolding bytes
not_lines =
    flat_map bytes
    ("\n" ∷ "1\tdo\t7\r\n" ∷ "1\tDo\t7\n" ∷ "1\tdo\t07\n" ∷ "01\tdo\t7\n" ∷ "1\tdo\t+7\n" ∷ "1\tdo\t\n"
    ∷ "\tdo\t7\n" ∷ "1\tdo\t7\t\n" ∷ "1 do 7\n" ∷ "1\t\tdo\t7\n" ∷ "1\tdo\t256\n" ∷ "65\tdo\t7\n"
    ∷ "1\ttake\t32\n" ∷ "1\tstart\t1\n" ∷ "1\tdone\t7\n" ∷ "1\tdo\t:\n" ∷ "1\tdo\t/\n" ∷ "1\td\t7\n"
    ∷ "1\t\t7\n" ∷ "1\tdo\n" ∷ "1\tdo\t7" ∷ [])

-- 0 leads to 1 and 2, which lead to each other
pub plan_ring : List ℕ
unfolding ◌takes◌ ◌gives◌ ◌starts◌
plan_ring = 1 starts 2 ∷ 1 takes 0 ∷ 1 takes 1 ∷ 1 takes 2 ∷ 1 gives 2 ∷ 2 takes 2 ∷ 2 takes 1 ∷ 2 gives 1 ∷ []

-- 0 leads back in four steps, the others in three: 0 to 1, 1 to 2, 2 to 3, 3 to 0 and 1
pub plan_four : List ℕ
unfolding ◌takes◌ ◌gives◌ ◌starts◌
plan_four =
    1 starts 2 ∷ 1 starts 3 ∷ 1 takes 3 ∷ 1 takes 0 ∷ 1 takes 1 ∷ 1 gives 1
    ∷ 2 takes 1 ∷ 2 takes 2 ∷ 2 gives 2
    ∷ 3 takes 2 ∷ 3 takes 3 ∷ 3 gives 3 ∷ []

-- the lasting take of 0 waits for job 2, which takes 0 too
pub plan_waits : List ℕ
unfolding ◌takes◌ ◌gives◌ ◌starts◌
plan_waits = 1 starts 2 ∷ 1 takes 0 ∷ 2 takes 1 ∷ 2 takes 0 ∷ 2 gives 0 ∷ []

-- 3 and 5 last twice, and lead to each other
pub plan_twice : List ℕ
unfolding ◌takes◌ ◌starts◌
plan_twice = 1 starts 2 ∷ 1 takes 5 ∷ 1 takes 3 ∷ 2 takes 3 ∷ 2 takes 5 ∷ []

-- lines under a take of 0, and two after them
pub plan_under : List ℕ
unfolding ◌does◌ ◌takes◌ ◌gives◌
plan_under = 1 does 0 ∷ 1 takes 0 ∷ 1 does 0 ∷ 1 does 0 ∷ 1 gives 0 ∷ 1 does 0 ∷ []

-- The table.
pub record Worked : Type 0 where
  -- texts read and written, in lists that are just long enough, one too long or one too short
  pub a_read : read_into 6 text_a ≡ (0 ∷ 6 ∷ []) ∷ plan_a ∷ []
  pub a_read_long : read_into 7 text_a ≡ (0 ∷ 6 ∷ []) ∷ (plan_a ++ (99 ∷ [])) ∷ []
  pub a_read_short : read_into 5 text_a ≡ (11 ∷ 6 ∷ []) ∷ replicate 5 99 ∷ []
  pub a_written : written_into 53 plan_a ≡ (0 ∷ 53 ∷ []) ∷ text_a ∷ []
  pub a_written_long : written_into 54 plan_a ≡ (0 ∷ 53 ∷ []) ∷ (text_a ++ (99 ∷ [])) ∷ []
  pub a_written_short : written_into 52 plan_a ≡ (11 ∷ 53 ∷ []) ∷ replicate 52 99 ∷ []
  pub wide_written : text_of wide ≡ wide_text
  pub wide_spelt : spelt board wide_text ≡ wide
  pub not_spelt : spelt board not_lines ≡ replicate 22 0
  pub not_ended : flat_map (λ s. spelt board (bytes s)) ("1\tdo\t7\r" ∷ "1\tdo\t7\t" ∷ []) ≡ 0 ∷ 0 ∷ []
  -- what is printed, and shown on the screens
  pub a_printed : printed board text_a ≡ print_a
  pub nothing_printed : printed board [] ≡ bytes "order\t0\t0\n"
  pub refusal_printed : printed board (bytes "1\ttake\t3\n1\tgive\t2\n") ≡ bytes "refused\t7\t2\n"
  pub no_order_printed : printed board (bytes "1\ttake\t0\n1\tstart\t2\n2\ttake\t0\n2\tgive\t0\n")
      ≡ bytes "refused\t10\t0\n"
  pub full_printed : printed board (replicate 12288 10) ≡ bytes "refused\t2\t1\n"
  pub length_printed : printed board (replicate 12289 10) ≡ bytes "refused\t1\t0\n"
  pub a_shown : shown_in 4027 text_a ≡ (22 ∷ []) ∷ (print_a ++ replicate 4005 99) ∷ []
  pub refusal_shown : shown_in 4027 (bytes "1\ttake\t3\n1\tgive\t2\n")
      ≡ (12 ∷ []) ∷ (bytes "refused\t7\t2\n" ++ replicate 4015 99) ∷ []
  pub a_not_shown : shown_in 4026 text_a ≡ (0 ∷ []) ∷ replicate 4026 99 ∷ []
  -- the ranges at their ends
  pub jobs : map (λ j. line_fits board j 0 0) (0 ∷ 1 ∷ 64 ∷ 65 ∷ []) ≡ false ∷ true ∷ true ∷ false ∷ []
  pub codes : map (line_fits board 1 0) (0 ∷ 255 ∷ 256 ∷ []) ≡ true ∷ true ∷ false ∷ []
  pub taken : map (line_fits board 1 1) (0 ∷ 31 ∷ 32 ∷ []) ≡ true ∷ true ∷ false ∷ []
  pub given : map (line_fits board 1 2) (0 ∷ 31 ∷ 32 ∷ []) ≡ true ∷ true ∷ false ∷ []
  pub holding : map (line_fits board 1 4) (0 ∷ 31 ∷ 32 ∷ []) ≡ false ∷ false ∷ false ∷ []
  pub started : map (line_fits board 1 3) (1 ∷ 2 ∷ 64 ∷ 65 ∷ []) ≡ false ∷ true ∷ true ∷ false ∷ []
  -- the line reader at its limits: 1, 3, 2, the last line, the end; and by an offset alone
  pub next_long : next_at (replicate 12289 10) 0 0 ≡ 1 ∷ 0 ∷ []
  pub next_full : next_at (replicate 12288 10) 0 0 ≡ 2 ∷ 1 ∷ []
  pub next_many : next_at text_a 10 1024 ≡ 3 ∷ 1025 ∷ []
  pub next_many_first : next_at not_lines 0 1024 ≡ 3 ∷ 1025 ∷ []
  pub next_malformed : next_at not_lines 0 5 ≡ 2 ∷ 6 ∷ []
  pub next_last : next_at text_a 10 1023 ≡ 0 ∷ 1 takes 1 ∷ 19 ∷ 1024 ∷ []
  pub next_end : next_at text_a 53 1024 ≡ 0 ∷ []
  pub next_by_offset : line_values (line_from board text_a 19) ≡ 0 ∷ 1 does 7 ∷ 26 ∷ 3 ∷ []
  -- 2 to 7, with their places, and which comes first
  pub two : map fault_of ((1 does 0 ∷ 0 ∷ []) ∷ (65 does 0 ∷ []) ∷ []) ≡ (2 ∷ 2 ∷ []) ∷ (2 ∷ 1 ∷ []) ∷ []
  pub three : map (λ lines. fault_after lines (1 does 0)) (1023 ∷ 1024 ∷ []) ≡ [] ∷ (3 ∷ 1025 ∷ []) ∷ []
  pub three_first : fault_after 1024 0 ≡ 3 ∷ 1025 ∷ []
  pub four : map fault_of ((2 does 0 ∷ []) ∷ (1 does 0 ∷ 3 does 0 ∷ []) ∷ []) ≡ (4 ∷ 1 ∷ []) ∷ (4 ∷ 2 ∷ []) ∷ []
  pub four_falling : fault_of (1 starts 2 ∷ 2 does 0 ∷ 1 does 0 ∷ []) ≡ 4 ∷ 3 ∷ []
  pub four_first : fault_of (1 does 0 ∷ 3 gives 0 ∷ []) ≡ 4 ∷ 2 ∷ []
  pub five_higher : fault_of (1 does 0 ∷ 2 starts 2 ∷ []) ≡ 5 ∷ 2 ∷ []
  pub five_lower : fault_of (1 does 0 ∷ 2 does 0 ∷ 3 starts 2 ∷ []) ≡ 5 ∷ 3 ∷ []
  pub five_once : fault_of (1 starts 2 ∷ 1 starts 2 ∷ 2 does 0 ∷ []) ≡ 5 ∷ 2 ∷ []
  pub five_lines : fault_of (1 does 0 ∷ 1 starts 3 ∷ 2 does 0 ∷ []) ≡ 5 ∷ 2 ∷ []
  pub five_lowest_line : fault_of (1 starts 3 ∷ 1 starts 2 ∷ []) ≡ 5 ∷ 1 ∷ []
  pub six : fault_of (1 does 0 ∷ 2 does 0 ∷ 2 does 0 ∷ []) ≡ 6 ∷ 2 ∷ []
  pub six_lowest_job : fault_of (1 does 0 ∷ 2 does 0 ∷ 3 does 0 ∷ []) ≡ 6 ∷ 2 ∷ []
  pub seven : fault_of (1 takes 0 ∷ 1 takes 1 ∷ 1 gives 0 ∷ []) ≡ 7 ∷ 3 ∷ []
  pub seven_first_line : fault_of (1 gives 0 ∷ 1 gives 0 ∷ []) ≡ 7 ∷ 1 ∷ []
  pub seven_before_five : fault_of (1 starts 2 ∷ 1 gives 0 ∷ []) ≡ 7 ∷ 2 ∷ []
  -- 8 is given no more; gives match the take made last, also of a device taken again
  pub taken_again : map fault_of ((1 takes 3 ∷ 1 takes 3 ∷ []) ∷ (1 takes 0 ∷ 1 gives 0 ∷ 1 takes 0 ∷ []) ∷ [])
      ≡ [] ∷ [] ∷ []
  pub given_once_more : fault_of (1 takes 0 ∷ 1 takes 0 ∷ 1 gives 0 ∷ 1 gives 0 ∷ 1 gives 0 ∷ []) ≡ 7 ∷ 5 ∷ []
  pub seven_around : fault_of (1 takes 0 ∷ 1 takes 1 ∷ 1 takes 0 ∷ 1 gives 1 ∷ []) ≡ 7 ∷ 4 ∷ []
  -- A's device 1 is held where job 1 took it, or job 2, and not once job 2 gave it
  pub a_held : map (λ done. held plan_a done 1) ((0 ∷ 1 ∷ []) ∷ (3 ∷ 4 ∷ []) ∷ (3 ∷ 4 ∷ 5 ∷ []) ∷ [])
      ≡ true ∷ true ∷ false ∷ []
  -- a lasting take waits for the others of its device, and a job for its start
  pub waits : order_of plan_waits ≡ 1 ∷ 3 ∷ 4 ∷ 5 ∷ 2 ∷ []
  pub started_after : order_of (1 takes 0 ∷ 1 starts 2 ∷ 2 does 0 ∷ []) ≡ 1 ∷ 2 ∷ 3 ∷ []
  -- of lasting takes the lowest device first; 9 before 10, and the lowest device of those that there are
  pub lowest_first_lem : ordered_into 3 (1 starts 2 ∷ 1 takes 1 ∷ 2 takes 0 ∷ []) ≡ (0 ∷ 2 ∷ []) ∷ (1 ∷ 3 ∷ 2 ∷ []) ∷ []
  pub nine : ordered_into 5 plan_twice ≡ (9 ∷ 3 ∷ []) ∷ replicate 5 99 ∷ []
  pub ten : ordered_into 8 plan_ring ≡ (10 ∷ 1 ∷ []) ∷ replicate 8 99 ∷ []
  pub ten_four : ordered_into 12 plan_four ≡ (10 ∷ 0 ∷ []) ∷ replicate 12 99 ∷ []
  -- what is broken comes before 11, and 11 before the rest
  pub read_broken : read_into 0 (bytes "2\tdo\t0\n") ≡ (4 ∷ 1 ∷ []) ∷ [] ∷ []
  pub written_broken : written_into 0 (2 does 0 ∷ []) ≡ (4 ∷ 1 ∷ []) ∷ [] ∷ []
  pub tabled_broken : tabled_into 0 (2 does 0 ∷ []) ≡ (4 ∷ 1 ∷ []) ∷ [] ∷ []
  pub ordered_broken : ordered_into 0 (2 does 0 ∷ []) ≡ (4 ∷ 1 ∷ []) ∷ [] ∷ []
  pub moved_broken : moved_with (2 does 0 ∷ []) [] 0 32 ≡ 4 ∷ 1 ∷ []
  pub tabled_short : tabled_into 5 plan_a ≡ (11 ∷ 6 ∷ []) ∷ replicate 5 99 ∷ []
  pub ordered_short : ordered_into 7 plan_ring ≡ (11 ∷ 8 ∷ []) ∷ replicate 7 99 ∷ []
  pub moved_short : moved_with plan_a (3 ∷ 2 ∷ 0 ∷ 3 ∷ 2 ∷ []) 0 32 ≡ 11 ∷ 6 ∷ []
  -- moves of A's claims: 12, then 13, then 14 at the nearest stale line; a stale set that the move may not change bars
  -- nothing, and the present device changes nothing
  pub twelve : map (λ line. moved_with plan_a table_a line 32) (0 ∷ 1 ∷ 6 ∷ 7 ∷ [])
      ≡ (12 ∷ 0 ∷ []) ∷ (12 ∷ 1 ∷ []) ∷ (12 ∷ 6 ∷ []) ∷ (12 ∷ 7 ∷ []) ∷ []
  pub twelve_nought : moved_with (1 takes 0 ∷ []) (1 ∷ []) 0 1 ≡ 12 ∷ 0 ∷ []
  pub thirteen : moved_with plan_a (3 ∷ 2 ∷ 0 ∷ 7 ∷ 2 ∷ 0 ∷ []) 5 32 ≡ 13 ∷ 32 ∷ []
  pub fourteen : moved_with plan_a (3 ∷ 2 ∷ 0 ∷ 7 ∷ 2 ∷ 0 ∷ []) 5 0 ≡ 14 ∷ 4 ∷ []
  pub fourteen_not : moved_with plan_a (3 ∷ 2 ∷ 1 ∷ 3 ∷ 2 ∷ 0 ∷ []) 5 31 ≡ 0 ∷ 3 ∷ []
  pub not_moved_lem : moved_with plan_a table_a 5 1 ≡ 0 ∷ 0 ∷ []
  -- onto a device that the job holds: line 5 claims nothing any more, so that line 4 claims 0 alone (3 and 2 become 1
  -- and 0); onto one that it takes later: line 4 takes 1, line 5 takes it again (lines 1, 4, 5: 3, 3, 2 become 2, 2, 0)
  pub onto_held : moved plan_a 5 0
      ≡ (0 ∷ 2 ∷ []) ∷ (1 starts 2 ∷ 1 takes 1 ∷ 1 does 7 ∷ 2 takes 0 ∷ 2 takes 0 ∷ 2 gives 0 ∷ [])
      ∷ (3 ∷ 2 ∷ 0 ∷ 1 ∷ 0 ∷ 0 ∷ 99 ∷ []) ∷ []
  pub onto_later : moved plan_a 4 1
      ≡ (0 ∷ 3 ∷ []) ∷ (1 starts 2 ∷ 1 takes 1 ∷ 1 does 7 ∷ 2 takes 1 ∷ 2 takes 1 ∷ 2 gives 1 ∷ [])
      ∷ (2 ∷ 2 ∷ 0 ∷ 2 ∷ 0 ∷ 0 ∷ 99 ∷ []) ∷ []
  -- of a take that is taken again: M's line 2 claims 1 now, and so does line 1 beside 0; J's line 2, which is not given
  -- back, claims 0; the present device changes nothing
  pub inner_moved : moved plan_m 2 1
      ≡ (0 ∷ 2 ∷ []) ∷ (1 takes 0 ∷ 1 takes 1 ∷ 1 gives 1 ∷ 1 gives 0 ∷ []) ∷ (3 ∷ 2 ∷ 0 ∷ 0 ∷ 99 ∷ []) ∷ []
  pub inner_kept : moved plan_j 2 0 ≡ (0 ∷ 2 ∷ []) ∷ (1 takes 3 ∷ 1 takes 0 ∷ []) ∷ (9 ∷ 1 ∷ 99 ∷ []) ∷ []
  pub inner_present : moved_with plan_m (1 ∷ 0 ∷ 0 ∷ 0 ∷ []) 2 0 ≡ 0 ∷ 0 ∷ []
  -- away from the device that a line further down takes: line 3 claims 0 now, and the line between them with it
  pub under_joined : moved (1 takes 0 ∷ 1 does 7 ∷ 1 takes 0 ∷ 1 gives 0 ∷ 1 gives 0 ∷ []) 1 1
      ≡ (0 ∷ 3 ∷ []) ∷ (1 takes 1 ∷ 1 does 7 ∷ 1 takes 0 ∷ 1 gives 0 ∷ 1 gives 1 ∷ [])
      ∷ (3 ∷ 1 ∷ 1 ∷ 0 ∷ 0 ∷ 99 ∷ []) ∷ []
  -- 14 at a line under the take: of several the nearest, and one on the way before all of them; to the job's end where
  -- the take lasts. The give, what comes after it and another job's lines bar nothing
  pub fourteen_under : map (λ sets. moved_with plan_under sets 2 1)
      ((5 ∷ 5 ∷ 4 ∷ 4 ∷ 0 ∷ 0 ∷ []) ∷ (5 ∷ 5 ∷ 4 ∷ 6 ∷ 0 ∷ 0 ∷ []) ∷ (7 ∷ 5 ∷ 4 ∷ 4 ∷ 0 ∷ 0 ∷ []) ∷ [])
      ≡ (14 ∷ 4 ∷ []) ∷ (14 ∷ 3 ∷ []) ∷ (14 ∷ 1 ∷ []) ∷ []
  pub fourteen_to_end : moved_with plan_a (11 ∷ 2 ∷ 0 ∷ 11 ∷ 10 ∷ 8 ∷ []) 4 2 ≡ 14 ∷ 6 ∷ []
  pub fourteen_past : map (λ sets. moved_with plan_under sets 2 1)
      ((9 ∷ 9 ∷ 8 ∷ 8 ∷ 8 ∷ 0 ∷ []) ∷ (9 ∷ 9 ∷ 8 ∷ 8 ∷ 8 ∷ 8 ∷ []) ∷ []) ≡ (0 ∷ 2 ∷ []) ∷ (0 ∷ 2 ∷ []) ∷ []
  pub fourteen_other_job : moved_with plan_a (11 ∷ 2 ∷ 0 ∷ 11 ∷ 10 ∷ 8 ∷ []) 2 3 ≡ 0 ∷ 1 ∷ []
  -- a refused move leaves plan and sets; a lasting take moves alone; F, which has no order, can be moved, and the way
  -- goes on past the start to line 1
  pub thirteen_leaves : moved plan_a 5 32 ≡ (13 ∷ 32 ∷ []) ∷ plan_a ∷ (table_a ++ (99 ∷ [])) ∷ []
  pub lasting_moved : moved_with plan_a table_a 4 2 ≡ 0 ∷ 2 ∷ []
  pub f_moved : moved_with plan_f (1 ∷ 1 ∷ 1 ∷ 0 ∷ []) 3 1 ≡ 0 ∷ 3 ∷ []
  -- Legal entries are those of any legal order: the one handed out, one with the other job first, and one that goes
  -- over to another job inside a pair, as none that is handed out does; of the empty plan, none. This excludes a judge
  -- that compares with the order handed out.
  pub a_judged : judged_of plan_a (1 ∷ 4 ∷ 5 ∷ 6 ∷ 2 ∷ 3 ∷ []) ≡ 0 ∷ []
  pub d_judged : map (judged_of plan_d)
      ((1 ∷ 2 ∷ 3 ∷ 4 ∷ 5 ∷ 6 ∷ 7 ∷ 8 ∷ 9 ∷ []) ∷ (1 ∷ 6 ∷ 7 ∷ 8 ∷ 9 ∷ 2 ∷ 3 ∷ 4 ∷ 5 ∷ [])
      ∷ (1 ∷ 6 ∷ 7 ∷ 8 ∷ 2 ∷ 9 ∷ 3 ∷ 4 ∷ 5 ∷ []) ∷ []) ≡ replicate 3 (0 ∷ [])
  pub nothing_judged : map (judged_of []) ([] ∷ (1 ∷ []) ∷ (0 ∷ []) ∷ []) ≡ (0 ∷ []) ∷ (15 ∷ 1 ∷ []) ∷ (15 ∷ 1 ∷ [])
      ∷ []
  -- a device taken while it is held: for good, until its give, or crosswise, where nothing can follow any more. This
  -- excludes a judge that asks for starts and the order of each job's lines alone.
  pub held_judged : map (judged_of plan_a) ((1 ∷ 2 ∷ 3 ∷ 4 ∷ 5 ∷ 6 ∷ []) ∷ (1 ∷ 4 ∷ 5 ∷ 2 ∷ 3 ∷ 6 ∷ []) ∷ [])
      ≡ (15 ∷ 5 ∷ []) ∷ (15 ∷ 4 ∷ []) ∷ []
  pub crosswise_judged : map (judged_of plan_d) ((1 ∷ 2 ∷ 6 ∷ 3 ∷ []) ∷ (1 ∷ 2 ∷ 6 ∷ 7 ∷ []) ∷ (1 ∷ 2 ∷ 6 ∷ []) ∷ [])
      ≡ replicate 3 (15 ∷ 4 ∷ [])
  -- a line whose job is not started, also where the starting job is under way, or with an earlier line of its job
  -- undone. This excludes a judge that asks for devices alone.
  pub unstarted_judged : judged_of plan_a (4 ∷ 1 ∷ 5 ∷ 6 ∷ 2 ∷ 3 ∷ []) ≡ 15 ∷ 1 ∷ []
  pub starting_judged : judged_of (1 does 0 ∷ 1 starts 2 ∷ 2 does 0 ∷ []) (1 ∷ 3 ∷ 2 ∷ []) ≡ 15 ∷ 2 ∷ []
  pub earlier_judged : judged_of plan_a (1 ∷ 4 ∷ 6 ∷ 5 ∷ 2 ∷ 3 ∷ []) ≡ 15 ∷ 3 ∷ []
  -- a line twice, 0, and a number past the last line's, first and after all the lines. This excludes a judge that takes
  -- entries for positions from 0, or stops where every line is done.
  pub twice_judged : map (judged_of plan_a) ((1 ∷ 1 ∷ []) ∷ (1 ∷ 4 ∷ 5 ∷ 6 ∷ 2 ∷ 3 ∷ 3 ∷ []) ∷ [])
      ≡ (15 ∷ 2 ∷ []) ∷ (15 ∷ 7 ∷ []) ∷ []
  pub nought_judged : map (judged_of plan_a) ((0 ∷ 1 ∷ []) ∷ (1 ∷ 4 ∷ 5 ∷ 6 ∷ 2 ∷ 3 ∷ 0 ∷ []) ∷ [])
      ≡ (15 ∷ 1 ∷ []) ∷ (15 ∷ 7 ∷ []) ∷ []
  pub past_judged : map (judged_of plan_a) ((7 ∷ []) ∷ (1 ∷ 4 ∷ 5 ∷ 6 ∷ 2 ∷ 3 ∷ 7 ∷ []) ∷ [])
      ≡ (15 ∷ 1 ∷ []) ∷ (15 ∷ 7 ∷ []) ∷ []
  -- a list that stops early, at one past its end; and of several wrong entries the first. This excludes a judge that
  -- accepts what can be gone on with, or that names the last place.
  pub early_judged : map (judged_of plan_a) ([] ∷ (1 ∷ []) ∷ (1 ∷ 4 ∷ 5 ∷ 6 ∷ 2 ∷ []) ∷ [])
      ≡ (15 ∷ 1 ∷ []) ∷ (15 ∷ 2 ∷ []) ∷ (15 ∷ 6 ∷ []) ∷ []
  pub first_judged : judged_of plan_a (1 ∷ 4 ∷ 9 ∷ 0 ∷ []) ≡ 15 ∷ 3 ∷ []
  -- what is broken in the plan comes before 15; where it has no legal order, the place in the list is named all the
  -- same. This excludes a judge that asks for the verdict first.
  pub broken_judged : judged_of (1 takes 3 ∷ 1 gives 2 ∷ []) (9 ∷ []) ≡ 7 ∷ 2 ∷ []
  pub no_order_judged : map (judged_of plan_f) ((1 ∷ 2 ∷ 3 ∷ 4 ∷ []) ∷ (1 ∷ 2 ∷ []) ∷ []) ≡ replicate 2 (15 ∷ 3 ∷ [])
  -- a device taken again needs no free device, and is free when the outermost give is done. This excludes a judge that
  -- frees it at the inner give, or refuses the take again.
  pub again_judged : map (judged_of plan_k)
      ((1 ∷ 2 ∷ 3 ∷ 4 ∷ 5 ∷ 6 ∷ 7 ∷ 8 ∷ 9 ∷ []) ∷ (1 ∷ 2 ∷ 3 ∷ 4 ∷ 5 ∷ 8 ∷ 6 ∷ 7 ∷ 9 ∷ []) ∷ [])
      ≡ (0 ∷ []) ∷ (15 ∷ 6 ∷ []) ∷ []
  -- The judge's texts: with the line that parts, its order and another; without it, where the list is empty; and where
  -- that line is the first or there is nothing, and the plan is. This excludes a program that wants the line.
  pub legal_texts : map judged_text
      ("1\tstart\t2\n1\ttake\t1\n2\ttake\t0\n--\n1\n3\n2\n" ∷ "1\tstart\t2\n1\ttake\t1\n2\ttake\t0\n--\n1\n2\n3\n" ∷ [])
      ≡ replicate 2 (bytes "legal\n")
  pub no_parting : judged_text "1\tdo\t0\n" ≡ bytes "refused\t15\t1\n"
  pub empty_texts : map judged_text ("" ∷ "--\n" ∷ []) ≡ replicate 2 (bytes "legal\n")
  pub empty_plan : judged_text "--\n1\n" ≡ bytes "refused\t15\t1\n"
  -- what is like the line that parts is a malformed line of the plan, and so is an entry without one. This excludes a
  -- program that trims a line, looks at its beginning, or lets the text's end stand for a newline.
  pub not_parting : map judged_text
      ("1\tdo\t0\n-- \n1\n" ∷ "1\tdo\t0\n --\n1\n" ∷ "1\tdo\t0\n--\r\n1\n" ∷ "1\tdo\t0\n---\n1\n"
      ∷ "1\tdo\t0\n-\n1\n" ∷ "1\tdo\t0\n--" ∷ "1\tdo\t0\n1\n" ∷ [])
      ≡ replicate 7 (bytes "refused\t2\t2\n")
  -- the first such line parts, so that a second is an entry. This excludes a program that goes by the last one, or
  -- passes over it.
  pub second_parting : map judged_after ("--\n1\n" ∷ "1\n--\n" ∷ [])
      ≡ bytes "refused\t15\t1\n" ∷ bytes "refused\t15\t2\n" ∷ []
  -- an entry is a number as 01 writes it, with its newline and nothing else: no nought in front, no sign, blank, tab,
  -- carriage return or letter, and not nothing; and one too big for 8, 16, 32 or 64 bits is no line's. This excludes a
  -- reader of numbers that forgives, and one that wraps.
  pub one_entry : judged_after "1\n" ≡ bytes "legal\n"
  pub no_entry : map judged_after
      ("01\n" ∷ "00\n" ∷ "0\n" ∷ "+1\n" ∷ "-1\n" ∷ " 1\n" ∷ "1 \n" ∷ "1\t\n" ∷ "1\r\n" ∷ "\n1\n" ∷ "x\n" ∷ "1"
      ∷ [])
      ≡ replicate 12 (bytes "refused\t15\t1\n")
  pub no_wrap : map judged_after ("257\n" ∷ "65537\n" ∷ "4294967297\n" ∷ "18446744073709551617\n" ∷ [])
      ≡ replicate 4 (bytes "refused\t15\t1\n")
  pub entry_past : map judged_after ("1\n\n" ∷ "1\n1" ∷ [])
      ≡ replicate 2 (bytes "refused\t15\t2\n")
  -- 1 counts the plan's bytes alone, and comes first; then 2 to 7, before 15. This excludes a program that measures
  -- the whole text.
  pub full_plan : judge_printed board (replicate 12288 10 ++ bytes "--\n") ≡ bytes "refused\t2\t1\n"
  pub long_plan : judge_printed board (replicate 12289 10 ++ bytes "--\n") ≡ bytes "refused\t1\t0\n"
  pub broken_plan : judged_text "1\ttake\t3\n1\tgive\t2\n--\n0\n" ≡ bytes "refused\t7\t2\n"

pub worked : Worked
unfolding bytes values_of fault_of fault_after read_into written_into tabled_into ordered_into order_of shown_in
    next_at moved_with
    judged_of judged_text judged_after judge_printed line_from text_a print_a table_a wide wide_text not_lines
    plan_ring plan_four
    plan_waits plan_twice plan_under plan_a plan_d plan_f plan_j plan_k plan_m moved held
worked =
    record {
      a_read = refl;
      a_read_long = refl;
      a_read_short = refl;
      a_written = refl;
      a_written_long = refl;
      a_written_short = refl;
      wide_written = refl;
      wide_spelt = refl;
      not_spelt = refl;
      not_ended = refl;
      a_printed = refl;
      nothing_printed = refl;
      refusal_printed = refl;
      no_order_printed = refl;
      full_printed = refl;
      length_printed = refl;
      a_shown = refl;
      refusal_shown = refl;
      a_not_shown = refl;
      jobs = refl;
      codes = refl;
      taken = refl;
      given = refl;
      holding = refl;
      started = refl;
      next_long = refl;
      next_full = refl;
      next_many = refl;
      next_many_first = refl;
      next_malformed = refl;
      next_last = refl;
      next_end = refl;
      next_by_offset = refl;
      two = refl;
      three = refl;
      three_first = refl;
      four = refl;
      four_falling = refl;
      four_first = refl;
      five_higher = refl;
      five_lower = refl;
      five_once = refl;
      five_lines = refl;
      five_lowest_line = refl;
      six = refl;
      six_lowest_job = refl;
      seven = refl;
      seven_first_line = refl;
      seven_before_five = refl;
      given_once_more = refl;
      seven_around = refl;
      taken_again = refl;
      a_held = refl;
      waits = refl;
      started_after = refl;
      lowest_first_lem = refl;
      nine = refl;
      ten = refl;
      ten_four = refl;
      read_broken = refl;
      written_broken = refl;
      tabled_broken = refl;
      ordered_broken = refl;
      moved_broken = refl;
      tabled_short = refl;
      ordered_short = refl;
      moved_short = refl;
      twelve = refl;
      twelve_nought = refl;
      thirteen = refl;
      fourteen = refl;
      fourteen_not = refl;
      onto_held = refl;
      onto_later = refl;
      inner_moved = refl;
      inner_kept = refl;
      inner_present = refl;
      under_joined = refl;
      fourteen_under = refl;
      fourteen_to_end = refl;
      fourteen_past = refl;
      fourteen_other_job = refl;
      not_moved_lem = refl;
      thirteen_leaves = refl;
      lasting_moved = refl;
      f_moved = refl;
      a_judged = refl;
      d_judged = refl;
      nothing_judged = refl;
      held_judged = refl;
      crosswise_judged = refl;
      unstarted_judged = refl;
      starting_judged = refl;
      earlier_judged = refl;
      twice_judged = refl;
      nought_judged = refl;
      past_judged = refl;
      early_judged = refl;
      first_judged = refl;
      broken_judged = refl;
      no_order_judged = refl;
      again_judged = refl;
      legal_texts = refl;
      no_parting = refl;
      empty_texts = refl;
      empty_plan = refl;
      not_parting = refl;
      second_parting = refl;
      one_entry = refl;
      no_entry = refl;
      no_wrap = refl;
      entry_past = refl;
      full_plan = refl;
      long_plan = refl;
      broken_plan = refl;
    }

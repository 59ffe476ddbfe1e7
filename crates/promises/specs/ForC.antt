-- What the entries for C and Rust promise (01, "Refusal numbers"; 02, requests 1, 4 and 5): the outcome of the
-- entry behind each, its answer as one number of 64 bits. Then the words for what a caller reads off the number.
use Rattle.std.specs.Prelude.{ℕ, suc, ◌/◌, ◌%◌, ◌<◌, ◌≤◌, List, ◌↔◌, ◌≡◌}
use Rattle.std.specs.Prelude.{Result, Ok, Err}
use Rattle.model.specs.Board.{devices}
use Rattle.model.specs.Line.{Settings}
use Rattle.model.specs.Answers.{number_of, place_of, line_values, answer_values}
use Rattle.model.specs.Answers.{judge_values}
use Rattle.model.specs.Text.{line_from}
use Rattle.model.specs.Entries.{Outcome, reading, writing, tabling, ordering, moving}
use Rattle.model.specs.Kept.{building, moving_kept, quick}
use Rattle.model.specs.Judged.{judging}
use Rattle.model.specs.declared.Refusal.{Refusal}
use Rattle.model.specs.declared.Cursor.{Cursor}
use Rattle.model.specs.declared.LineAnswer.{LineAnswer}
use Rattle.theory.specs.Text.{PastNewline}
use Rattle.model.specs.InOne.{half, in_one}
use Rattle.promises.specs.Outcome.{Meets, MeetsInOne}
use Rattle.promises.specs.Kept.{beside}

-- the line that a reader of the text hands out at an offset
pub record HandsOutForC (S : Settings) (text : List ℕ) (offset answer : ℕ) : Type 0 where
  pub answers : answer ≡ in_one (line_values (line_from S text offset))

abbrev pub ReadsForC : Settings → List ℕ → List ℕ → ℕ → List ℕ → Type 0
ReadsForC S text lent answer left = MeetsInOne answer_values (reading S text lent) answer left

abbrev pub WritesForC : Settings → List ℕ → List ℕ → ℕ → List ℕ → Type 0
WritesForC S plan lent answer left = MeetsInOne answer_values (writing S plan lent) answer left

abbrev pub TablesForC : Settings → List ℕ → List ℕ → ℕ → List ℕ → Type 0
TablesForC S plan lent answer left = MeetsInOne answer_values (tabling S plan lent) answer left

abbrev pub OrdersForC : Settings → List ℕ → List ℕ → ℕ → List ℕ → Type 0
OrdersForC S plan lent answer left = MeetsInOne answer_values (ordering S plan lent) answer left

abbrev pub MovesForC : Settings → List ℕ → List ℕ → ℕ → ℕ → ℕ → List ℕ → List ℕ → Type 0
MovesForC S p t line device answer p' t' =
    MeetsInOne answer_values (moving S p t line device) answer (record { plan = p'; sets = t' })

-- the three that are lent rows (02, request 4), of which the quick verdict writes to nothing that is lent
abbrev pub BuildsForC : List ℕ → List ℕ → List ℕ → List ℕ → ℕ → List ℕ → List ℕ → List ℕ → Type 0
BuildsForC plan sets rows held answer sets' rows' held' =
    MeetsInOne answer_values (building devices plan (beside sets rows held)) answer (beside sets' rows' held')

abbrev pub MovesKeptForC : List ℕ → List ℕ → List ℕ → List ℕ → ℕ → ℕ → ℕ → List ℕ → List ℕ → List ℕ → List ℕ → Type 0
MovesKeptForC p sets rows held line device answer p' sets' rows' held' =
    MeetsInOne answer_values (moving_kept devices p (beside sets rows held) line device) answer
    (record { plan = p'; beside = beside sets' rows' held' })

pub record QuickForC (plan rows : List ℕ) (answer : ℕ) : Type 0 where
  pub answers : answer ≡ in_one (answer_values (quick devices plan rows))

-- the judge, who is lent nothing to write to
pub record JudgesForC (S : Settings) (plan entries : List ℕ) (answer : ℕ) : Type 0 where
  pub answers : answer ≡ in_one (judge_values (judging S plan entries))

-- ---- what a number says

-- A number stands for one answer: below 2^32 it is the count; from there on the upper half is a refusal's number, and
-- the lower half its place.
pub data StandsFor {A : Type 0} (done : ℕ → A) (refused : Refusal → A) (n : ℕ) : A → Type 0 where
  a_count : n < half → StandsFor done refused n (done n)
  a_refusal : (r : Refusal) → half ≤ n → number_of r ≡ n / half → place_of r ≡ n % half
      → StandsFor done refused n (refused r)

-- What an entry's number and the lists left say: the answer that it stands for is that of the entry behind; it is below
-- 2^32 exactly if that succeeded; and from there on everything lent is as it was.
pub record ReadOff {A L : Type 0} (values : A → List ℕ) (done : ℕ → A) (refused : Refusal → A) (o : Outcome A L)
    (lent : L) (n : ℕ) (left : L) : Type 0 where
  pub answer : A
  pub behind : Meets values o answer left
  pub stands : StandsFor done refused n answer
  pub below : (n < half) ↔ ((k : ℕ) × (answer ≡ done k))
  pub kept : half ≤ n → left ≡ lent

-- the same of the line entry, which is lent nothing to write to: 0 is the end, and no line's number
pub data LineStandsFor (n : ℕ) : LineAnswer → Type 0 where
  the_end : n ≡ 0 → LineStandsFor n LineAnswer.End
  a_line : (next : Cursor) → 0 < n → n < half → LineStandsFor n (LineAnswer.Line n next)
  no_line : (r : Refusal) → half ≤ n → number_of r ≡ n / half → place_of r ≡ n % half
      → LineStandsFor n (LineAnswer.Refused r)

-- the same of the judge: 0 is legal, from 2^32 on it is a refusal, and no other number comes
pub data JudgeStandsFor (n : ℕ) : Result (Unit {0}) Refusal → Type 0 where
  a_legal : n ≡ 0 → JudgeStandsFor n (Ok tt)
  not_passed : (r : Refusal) → half ≤ n → number_of r ≡ n / half → place_of r ≡ n % half
      → JudgeStandsFor n (Err r)

-- The line entry asked again and again by a caller who has its numbers alone: it begins at offset 0, and goes on past
-- the newline of a line that came; where none came, it stays.
pub record AskedForC (S : Settings) (text : List ℕ) (offset number : ℕ → ℕ) : Type 0 where
  pub begins : offset 0 ≡ 0
  pub answers : (k : ℕ) → HandsOutForC S text (offset k) (number k)
  pub goes_on : (k : ℕ) → 0 < number k → number k < half → PastNewline text (offset k) (offset (suc k))
  pub ended : (k : ℕ) → number k ≡ 0 → offset (suc k) ≡ offset k
  pub refused : (k : ℕ) → half ≤ number k → offset (suc k) ≡ offset k

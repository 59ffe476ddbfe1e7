-- What follows from what the entries for C and Rust promise (01, "Refusal numbers"): what a caller reads off the
-- number, a count or by its halves a refusal, is the answer of the entry behind, so that one number for two values
-- loses nothing; it is below 2^32 exactly if that entry succeeded; from there on everything lent is as it was. The line
-- entry gives 0 exactly at the end, and the judge exactly of a legal order. For no count, length, place or position of
-- an entry has more than 32 bits.
use Prim.Native.Nat.{ℕ, suc, ◌+◌, ◌*◌, ◌<◌, ◌≤◌}
use Rattle.std.specs.Prelude.{Result, Ok, Err}
use mathlib.Core.Bool.{true, not}
use mathlib.Core.List.{List}
use mathlib.Core.Logic.{◌↔◌}
use mathlib.Core.Option.{Option, none, some}
use mathlib.Core.Path.{◌≡◌, refl, sym, ◌∙◌, ap}
use native.Mathlib.Omega.{arith}
use lib.Dec.{lit≤, eqb}
use lib.ListN.{length, get_or, take}
use Rattle.model.specs.Board.{devices, board}
use Rattle.model.specs.Lists.{up_from, positions}
use Rattle.model.specs.Answers.{number_of, place_of, line_values, answer_values}
use Rattle.model.specs.Answers.{judge_values}
use Rattle.model.specs.Line.{Settings, job, is_line, line_number, held_from}
use Rattle.model.specs.Text.{spelt, cursor_after, cursor_from, line_from}
use Rattle.model.specs.WellFormed.{WellFormed}
use Rattle.model.specs.Rows.{rows}
use Rattle.model.specs.Move.{edited, from_last, rewritten, changed, asked_at, move_refusal}
use Rattle.model.specs.Entries.{outcome, reading, writing, tabling, ordering, moving}
use Rattle.model.specs.Kept.{lasts_in, held_number, Beside, building, moving_kept, quick}
use Rattle.model.specs.Judged.{judging}
use Rattle.model.specs.declared.Refusal.{Refusal}
use Rattle.model.specs.declared.LineAnswer.{LineAnswer}
use Rattle.theory.specs.WellFormed.{Broken}
use Rattle.theory.specs.Verdict.{NoOrderBy, twice, back, NoOrder, by_rows, by_held}
use Rattle.theory.specs.Text.{TextBroken, too_long, spells}
use Rattle.theory.specs.Judged.{LegalEntries}
use Rattle.theory.proofs.Answers.{number_range, one_refusal}
use Rattle.theory.proofs.Lists.{those_length}
use Rattle.theory.proofs.Line.{line_parts, take_line}
use Rattle.theory.proofs.Claims.{length_up_from}
use Rattle.theory.proofs.Way.{may_change_line}
use Rattle.theory.proofs.Move.{asked_take, nearest_may_change}
use Rattle.theory.proofs.Text.{text_length}
use Rattle.theory.proofs.Reader.{RightAnswer, next_right}
use Rattle.theory.proofs.Offsets.{StandsAt, from_stands, one_past}
use Rattle.theory.proofs.Judged.{stray_exactly, stray_bounds, steps_few}
use Rattle.theory.proofs.Printed.{broken_bounds, held_few}
use Rattle.model.specs.InOne.{half, in_one}
use Rattle.promises.specs.Outcome.{MeetsInOne, faulty, short, further, NoFurther}
use Rattle.promises.specs.Text.{ReadsAs, Asked}
use Rattle.promises.specs.Move.{NotMoved, not_a_take, no_such_device, stale_table}
use Rattle.promises.specs.Kept.{beside, QuickAs, also_short, beyond, AfterTable}
use Rattle.promises.specs.Judge as judge
use Rattle.promises.specs.Judge.{JudgesAs, NotPassed}
use Rattle.promises.specs.ForC.{HandsOutForC, ReadsForC, WritesForC, TablesForC, OrdersForC, MovesForC}
use Rattle.promises.specs.ForC.{StandsFor, a_count, a_refusal, ReadOff, LineStandsFor, the_end, a_line, no_line}
use Rattle.promises.specs.ForC.{BuildsForC, MovesKeptForC, QuickForC}
use Rattle.promises.specs.ForC.{AskedForC, JudgesForC, JudgeStandsFor, a_legal, not_passed}
use Rattle.promises.proofs.Tight.{by_refusal, by_none}
use Rattle.promises.proofs.Outcome.{Answers, Entry, tests, outcome_of, Case, listed_exactly, passed_exactly}
use Rattle.promises.proofs.Outcome.{not_both}
use Rattle.promises.proofs.Text.{read_entry, write_entry, read_line_by_line}
use Rattle.promises.proofs.Table as table
use Rattle.promises.proofs.Verdict as verdict
use Rattle.promises.proofs.Move as move
use Rattle.promises.proofs.Kept as kept
use Rattle.promises.proofs.Judge.{accepted_exactly, refused_exactly}

-- ---- one law

-- a number stands for one answer
pub one_number : {A : Type 0} (x : Answers A) (n : ℕ) (a b : A) → StandsFor x.done x.refused n a
    → StandsFor x.done x.refused n b → a ≡ b
one_number x n a b (a_count h) (a_count g) = refl
one_number x n a b (a_count h) (a_refusal r g e f) = absurd (omega arith)
one_number x n a b (a_refusal r g e f) (a_count h) = absurd (omega arith)
one_number x n a b (a_refusal r g e f) (a_refusal s h u v) = ap x.refused (one_refusal r s (e ∙ sym u) (f ∙ sym v))

-- no value of an entry has more than 32 bits
record Small {A L S : Type 0} {B F : Refusal → Type 0} (e : Entry A L S B F) : Type 0 where
  broken : (r : Refusal) → B r → place_of r < half
  needed : S → e.needed < half
  further : S → (r : Refusal) → F r → place_of r < half
  count : S → e.count < half

module _ {A L S : Type 0} {B F : Refusal → Type 0} (e : Entry A L S B F) (s : Small e) where
  place_small : (r : Refusal) → Case e r → place_of r < half
  place_small r (faulty q b) = s.broken q b
  place_small r (short w h) = s.needed w
  place_small r (further q w h f) = s.further w q f

  abbrev Says : ℕ → L → Type 0
  Says n left = ReadOff e.answers.values e.answers.done e.answers.refused (outcome_of e) e.lent n left

  -- a success, and a refusal
  reads_count : (n : ℕ) (left : L) → MeetsInOne e.answers.values (outcome_of e) n left → tests e ≡ none
      → Says n left
  unfolding outcome
  reads_count n left m h = record {
    answer = e.answers.done n;
    behind = rw is (by_none e.answers.refused (e.answers.done e.count) e.new e.lent (tests e) left h
        (rw h at m.leaves));
    stands = a_count small;
    below = (λ b. (n, refl), λ b. small);
    kept = λ b. absurd (omega (arith, small));
  }
    where
      is : n ≡ e.count
      is = let z = (rw h at m.answers) ∙ ap in_one (e.answers.of_done e.count) in omega (arith, z)

      small : n < half
      small = omega (arith, is, s.count ((passed_exactly e).0 h).0)

  reads_refusal : (n : ℕ) (left : L) → MeetsInOne e.answers.values (outcome_of e) n left → (r : Refusal)
      → tests e ≡ some r → Says n left
  unfolding outcome
  reads_refusal n left m r h = record {
    answer = e.answers.refused r;
    behind = rw leaves
        (by_refusal e.answers.refused (e.answers.done e.count) e.new e.lent (tests e) r h);
    stands = a_refusal r (omega (arith, is, (number_range r).0)) (omega (arith, is, small)) (omega (arith, is, small));
    below = (
      λ b. absurd (omega (arith, is, (number_range r).0)),
      λ k. absurd (not_both e.answers k.0 r (sym k.1)),
    );
    kept = λ b. leaves;
  }
    where
      leaves : left ≡ e.lent
      leaves = rw h at m.leaves

      is : n ≡ number_of r * half + place_of r
      is = (rw h at m.answers) ∙ ap in_one (e.answers.of_refused r)

      small : place_of r < half
      small = place_small r ((listed_exactly e r).0 h)

  says : (n : ℕ) (left : L) → MeetsInOne e.answers.values (outcome_of e) n left → Says n left
  says n left m = go (tests e) refl
    where
      go : (x : Option Refusal) → tests e ≡ x → Says n left
      go none h = reads_count n left m h
      go (some r) h = reads_refusal n left m r h

-- ---- the entries

-- a plan's faults are at lines of at most 1,025
fault_small : (S : Settings) (p : List ℕ) (r : Refusal) → Broken S p r → place_of r < half
fault_small S p r b = omega (arith, (broken_bounds S p r b).1)

pub read_number : (S : Settings) (text lent : List ℕ) (n : ℕ) (left : List ℕ) → ReadsForC S text lent n left
    → ReadOff answer_values Ok Err (reading S text lent) lent n left
unfolding reading
read_number S text lent = says (read_entry S text lent) (record {
  broken = text_small;
  needed = λ w. omega (arith, w.1.few);
  further = λ w r f. absurd f;
  count = λ w. omega (arith, w.1.few);
})
  where
    text_small : (r : Refusal) → TextBroken S text r → place_of r < half
    text_small r (too_long h) = omega arith
    text_small r (spells q h b) = fault_small S (spelt S text) q b

pub write_number : (S : Settings) (plan lent : List ℕ) (n : ℕ) (left : List ℕ) → WritesForC S plan lent n left
    → ReadOff answer_values Ok Err (writing S plan lent) lent n left
unfolding writing
write_number S plan lent = says (write_entry S plan lent) (record {
  broken = fault_small S plan;
  needed = λ w. omega (arith, w.few, text_length S plan w.lines);
  further = λ w r f. absurd f;
  count = λ w. omega (arith, w.few, text_length S plan w.lines);
})

pub table_number : (S : Settings) (plan lent : List ℕ) (n : ℕ) (left : List ℕ) → TablesForC S plan lent n left
    → ReadOff answer_values Ok Err (tabling S plan lent) lent n left
unfolding tabling
table_number S plan lent = says (table.entry S plan lent) (record {
  broken = fault_small S plan;
  needed = λ w. omega (arith, w.few);
  further = λ w r f. absurd f;
  count = λ w. omega (arith, w.few);
})

-- 9 and 10 are at devices
device_small_lem : (D : ℕ) → D ≤ held_from → (p rs : List ℕ) (r : Refusal) → NoOrderBy D p rs r → place_of r < half
device_small_lem D small p rs r (twice d h l f) = omega arith
device_small_lem D small p rs r (back d f h l g) = omega arith

no_order_small : (D : ℕ) → D ≤ held_from → (p : List ℕ) (r : Refusal) → NoOrder D p r → place_of r < half
no_order_small D small p r (by_rows q n) = device_small_lem D small p (rows D p) q n
no_order_small D small p r (by_held d t b h l n f) = omega arith

pub verdict_number : (S : Settings) → S.devices ≤ held_from → (plan lent : List ℕ) (n : ℕ) (left : List ℕ)
    → OrdersForC S plan lent n left
    → ReadOff answer_values Ok Err (ordering S plan lent) lent n left
unfolding ordering
verdict_number S small plan lent = says (verdict.entry S plan lent) (record {
  broken = fault_small S plan;
  needed = λ w. omega (arith, w.few, steps_few plan);
  further = λ w. no_order_small S.devices small plan;
  count = λ w. omega (arith, held_few S.devices plan);
})

-- what is read off the quick verdict's number is its answer
pub quick_number : (plan rs : List ℕ) (n : ℕ) → QuickForC plan rs n
    → (a : Result ℕ Refusal) × QuickAs plan rs a × StandsFor Ok Err n a
    × ((n < half) ↔ ((k : ℕ) × (a ≡ Ok k)))
unfolding held_number
quick_number plan rs n m =
    let r =
    says (kept.quick_entry plan rs)
    (record {
      broken = fault_small board plan;
      needed = λ w. omega arith;
      further = λ w. device_small_lem devices (lit≤ tt) plan (take devices rs);
      count = λ w. omega (arith, those_length (lasts_in plan) (up_from 0 devices), length_up_from 0 devices);
    })
    n tt
    (record { answers = m.answers ∙ ap (λ (a : Result ℕ Refusal). in_one (answer_values a)) is; leaves = refl }) in
    (r.answer, record { answers = r.behind.answers ∙ ap answer_values (sym is) }, r.stands, r.below)
  where
    is : quick devices plan rs ≡ (outcome_of (kept.quick_entry plan rs)).answer
    is = kept.quick_is plan rs

-- 11 for the lists beside the table, and what is tested after it
after_table_small : (lent : Beside) (F : Refusal → Type 0) → ((r : Refusal) → F r → place_of r < half) → (r : Refusal)
    → AfterTable lent F r → place_of r < half
after_table_small lent F small r (also_short h) = omega arith
after_table_small lent F small r (beyond q h (also_short k)) = omega arith
after_table_small lent F small r (beyond q h (beyond s k f)) = small s f

pub build_number : (plan sets rs held : List ℕ) (n : ℕ) (sets' rs' held' : List ℕ)
    → BuildsForC plan sets rs held n sets' rs' held'
    → ReadOff answer_values Ok Err (building devices plan (beside sets rs held))
    (beside sets rs held) n (beside sets' rs' held')
build_number plan sets rs held n sets' rs' held' =
    let lent = beside sets rs held in
    rw (kept.building_is plan lent)
    (says (kept.build_entry plan lent) (record {
      broken = fault_small board plan;
      needed = λ w. omega (arith, w.few);
      further = λ w. after_table_small lent NoFurther (λ r f. absurd f);
      count = λ w. omega (arith, w.few);
    }) n (beside sets' rs' held'))

-- no move changes more sets than the plan has lines
changed_few : (p t u : List ℕ) → changed p t u ≤ length p
unfolding changed positions
changed_few p t u =
    omega (
      arith,
      those_length (λ i. not (eqb (get_or u i 0) (get_or t i 0))) (up_from 0 (length p)),
      length_up_from 0 (length p),
    )

count_small : (S : Settings) (p t : List ℕ) → WellFormed S p → (u : List ℕ) → changed p t u < half
count_small S p t w u = omega (arith, w.few, changed_few p t u)

-- line and device are numbers of 32 bits
module _ (S : Settings) (p t : List ℕ) (line device : ℕ) (line_small : line < half) (device_small : device < half) where
  not_moved_small : WellFormed S p → (r : Refusal) → NotMoved S p t line device r → place_of r < half
  unfolding line_number
  not_moved_small w r (not_a_take x) = line_small
  not_moved_small w r (no_such_device x h) = device_small
  not_moved_small w r (stale_table k x h s) =
      let i = asked_at line in
      let in_plan = take_line p i (asked_take p line x) in
      omega (arith, may_change_line p i in_plan k (nearest_may_change p t i k s), w.few)

  pub move_number : (n : ℕ) (p' t' : List ℕ) → MovesForC S p t line device n p' t'
      → ReadOff answer_values Ok Err (moving S p t line device)
      (record { plan = p; sets = t }) n (record { plan = p'; sets = t' })
  unfolding moving move_refusal
  move_number n p' t' =
      says (move.entry S p t line device) (record {
        broken = fault_small S p;
        needed = λ w. omega (arith, w.few);
        further = not_moved_small;
        count = λ w. count_small S p t w (rewritten (edited p (asked_at line) device) t (from_last p (asked_at line)));
      })
      n (record { plan = p'; sets = t' })

module _ (p t : List ℕ) (line device : ℕ) (line_small : line < half) (device_small : device < half) where
  pub move_kept_number : (rs held : List ℕ) (n : ℕ) (p' t' rs' held' : List ℕ)
      → MovesKeptForC p t rs held line device n p' t' rs' held'
      → ReadOff answer_values Ok Err
      (moving_kept devices p (beside t rs held) line device) (record { plan = p; beside = beside t rs held }) n
      (record { plan = p'; beside = beside t' rs' held' })
  move_kept_number rs held n p' t' rs' held' =
      let lent = beside t rs held in
      rw (kept.moving_is p lent line device)
      (says (kept.move_entry p lent line device) (record {
        broken = fault_small board p;
        needed = λ w. omega (arith, w.few);
        further = λ w. after_table_small lent (NotMoved board p t line device)
            (not_moved_small board p t line device line_small device_small w);
        count = λ w. count_small board p t w
            (rewritten (edited p (asked_at line) device) t (from_last p (asked_at line)));
      })
      n (record { plan = p'; beside = beside t' rs' held' }))

-- ---- the line entry

-- a line's number is not 0, and has 32 bits
line_small_lem : (S : Settings) (n : ℕ) → is_line S n ≡ true → (0 < n) × (n < half)
unfolding job
line_small_lem S n h = let r = line_parts S n h in (omega (arith, r.0), omega (arith, r.1))

pub line_number_lem : (S : Settings) → S.devices ≤ held_from → (text : List ℕ) (offset n : ℕ)
    → HandsOutForC S text offset n
    → LineStandsFor n (line_from S text offset)
unfolding line_from
line_number_lem S small text offset n m =
    go (line_from S text offset) (next_right S small text (cursor_from text offset)) m.answers
  where
    go : (a : LineAnswer) → RightAnswer S a → n ≡ in_one (line_values a) → LineStandsFor n a
    go (LineAnswer.Line l next) h e =
        let z : l ≡ n = omega arith in
        let b = line_small_lem S l h in
        rw z (a_line next (omega (arith, b.0)) (omega (arith, b.1)))
    go (LineAnswer.Refused r) h e =
        no_line r (omega (arith, (number_range r).0)) (omega (arith, h.1)) (omega (arith, h.1))
    go LineAnswer.End h e = the_end e

-- 0 exactly at the end
pub end_exactly : (S : Settings) → S.devices ≤ held_from → (text : List ℕ) (offset n : ℕ)
    → HandsOutForC S text offset n
    → (n ≡ 0) ↔ (line_from S text offset ≡ LineAnswer.End)
end_exactly S small text offset n m =
    (λ e. go e (line_from S text offset) (line_number_lem S small text offset n m), λ e. rw e at m.answers)
  where
    go : n ≡ 0 → (a : LineAnswer) → LineStandsFor n a → a ≡ LineAnswer.End
    go e a (the_end h) = refl
    go e a (a_line next h g) = absurd (omega arith)
    go e a (no_line r h f g) = absurd (omega arith)

-- Asked again and again by the numbers alone, past the newline of each line that came, it is the reader of a text and
-- an offset that is asked so.
module _ (S : Settings) (small : S.devices ≤ held_from) (text : List ℕ) (offset number : ℕ → ℕ)
    (asked : AskedForC S text offset number) where
  pub asked_so : Asked S text offset (λ k. line_from S text (offset k))
  unfolding cursor_after cursor_from
  asked_so = record {
    begins = asked.begins;
    answers = λ k. refl;
    goes_on = λ k. go k (line_from S text (offset k))
        (line_number_lem S small text (offset k) (number k) (asked.answers k))
        (from_stands S text (offset k));
  }
    where
      go : (k : ℕ) (a : LineAnswer) → LineStandsFor (number k) a → StandsAt text (offset k) a
          → offset (suc k) ≡ (cursor_after (cursor_from text (offset k)) a).offset
      go k a (the_end h) s = asked.ended k h
      go k a (a_line next h g) s =
          one_past text (offset k) (offset (suc k)) next.offset (asked.goes_on k h g) s.1
      go k a (no_line r h f g) s = asked.refused k h

  -- and a text that is read comes number by number, and then noughts
  pub numbers_come : (lent left : List ℕ) (n : ℕ) → ReadsAs S text lent (Ok n) left
      → ((i : ℕ) → i < n → number i ≡ get_or left i 0) × ((k : ℕ) → n ≤ k → number k ≡ 0)
  numbers_come lent left n m =
      let r = read_line_by_line S text offset (λ k. line_from S text (offset k)) asked_so lent left n m in (
        λ i h. let q = r.0 i h in (asked.answers i).answers ∙ rw q.1 (omega arith),
        λ k h. (asked.answers k).answers ∙ rw (r.1 k h),
      )

-- ---- the judge

-- a number stands for one answer
pub one_judge_number : (n : ℕ) (a b : Result (Unit {0}) Refusal) → JudgeStandsFor n a → JudgeStandsFor n b → a ≡ b
one_judge_number n a b (a_legal e) (a_legal f) = refl
one_judge_number n a b (a_legal e) (not_passed r h f g) = absurd (omega arith)
one_judge_number n a b (not_passed r h f g) (a_legal e) = absurd (omega arith)
one_judge_number n a b (not_passed r h f g) (not_passed s k u v) =
    ap Err (one_refusal r s (f ∙ sym u) (g ∙ sym v))

-- a list goes wrong at most one past as many entries as there are lines
not_passed_small : (S : Settings) (plan entries : List ℕ) (r : Refusal) → NotPassed S plan entries r → place_of r < half
not_passed_small S plan entries r (judge.faulty q b) = fault_small S plan q b
not_passed_small S plan entries r (judge.astray q w s) =
    omega (arith, w.few, (stray_bounds plan entries q ((stray_exactly plan entries q).1 s)).0)

module _ (S : Settings) (plan entries : List ℕ) (n : ℕ) (m : JudgesForC S plan entries n) where
  -- what a caller reads off is the answer of the judge behind
  pub judge_number : (a : Result (Unit {0}) Refusal) × JudgesAs S plan entries a × JudgeStandsFor n a
  judge_number =
      let a = judging S plan entries in
      let behind : JudgesAs S plan entries a = record { answers = refl } in (a, behind, go a behind m.answers)
    where
      go : (a : Result (Unit {0}) Refusal) → JudgesAs S plan entries a → n ≡ in_one (judge_values a)
          → JudgeStandsFor n a
      go (Ok tt) j e = a_legal e
      go (Err r) j e =
          let no = (refused_exactly S plan entries (Err r) j r).0 refl in
          let small = not_passed_small S plan entries r no in
          not_passed r (omega (arith, (number_range r).0)) (omega arith) (omega arith)

  -- 0 exactly of a legal order, and a plan without a fault
  pub legal_exactly : (n ≡ 0) ↔ (WellFormed S plan × LegalEntries plan entries)
  legal_exactly = let r = judge_number in (
    λ e. to r.0 r.1 e r.2,
    λ l. from r.0 ((accepted_exactly S plan entries r.0 r.1).1 l) r.2,
  )
    where
      to : (a : Result (Unit {0}) Refusal) → JudgesAs S plan entries a → n ≡ 0 → JudgeStandsFor n a
          → WellFormed S plan × LegalEntries plan entries
      to a j e (a_legal f) = (accepted_exactly S plan entries a j).0 refl
      to a j e (not_passed r h f g) = absurd (omega arith)

      from : (a : Result (Unit {0}) Refusal) → a ≡ (Ok tt) → JudgeStandsFor n a → n ≡ 0
      from a e (a_legal f) = f
      from a e (not_passed r h f g) = let z : ◌≡◌ {A = ℕ} 0 1 = cc in absurd (omega arith)

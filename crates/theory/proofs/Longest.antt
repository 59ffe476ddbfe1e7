-- The screens' room is no byte too much (01, "Plans with their verdicts": 4,027): the print of some plan has just so
-- many. In it job 1 takes ten devices for good, and then does nothing up to line 1,024; so its one legal order is that
-- of the line numbers.
use Prim.Native.Nat.{ℕ, zero, suc, ◌+◌, ◌/◌, ◌%◌, ◌<◌, ◌≤◌}
use mathlib.Core.Bool.{Bool, true, false, cond, not, ◌&&◌}
use mathlib.Core.List.{List, [], ◌∷◌, ◌++◌, map}
use mathlib.Core.Logic.{◌⊎◌, inl, inr}
use mathlib.Core.Option.{Option, none, some}
use mathlib.Core.Path.{◌≡◌, refl, sym, ◌∙◌, ap}
use native.Mathlib.Omega.{arith}
use lib.Dec.{eqb, leb, ltb}
use lib.ListN.{length, length-map}
use borrow.Author.Tests.{not-false, eqb-true, eq-eqb, lt-leb, ltb-true, lt-ltb}
use Rattle.model.specs.Board.{devices, board}
use Rattle.model.specs.Lists.{up_from, positions, any, has, those}
use Rattle.model.specs.Answers.{first_refusal}
use Rattle.model.specs.Line.{job, kind, operand, opens, is_take, is_give, is_start, starts, at, line_number}
use Rattle.model.specs.Line.{is_held, held_from, max_lines}
use Rattle.model.specs.Text.{spelt, text_of}
use Rattle.model.specs.WellFormed.{WellFormed, fault}
use Rattle.model.specs.Mate.{device_at, holds_already, takes, held_at, mate, is_none, grips, keeps}
use Rattle.model.specs.Legal.{given_back, held, MayFollow, Follow, Legal}
use Rattle.model.specs.Handed.{handed}
use Rattle.model.specs.Verdict.{no_order, held_at_end}
use Rattle.model.specs.Entries.{text_fault}
use Rattle.model.specs.Printed.{printed_order, printed_by, printed, screen_room}
use Rattle.theory.proofs.Tests.{clash, falsely, and_split, and_both, tests_agree, le_or_lt}
use Rattle.theory.proofs.Lists.{has_up_from, up_from_has, position_has, any_found, any_at, any_none, those_same}
use Rattle.theory.proofs.Line.{start_parts, take_no_held, own_device, give_line, take_line}
use Rattle.theory.proofs.WellFormed.{line_any, start_line}
use Rattle.theory.proofs.Claims.{length_up_from, get_or_up_from, takes_parts, taking, makes_take}
use Rattle.theory.proofs.WellFormed.{no_fault_exactly, no_held_in_morning}
use Rattle.theory.proofs.Successors.{Why, same_job, starter, why, earlier_precedes}
use Rattle.theory.proofs.Mate.{pair}
use Rattle.theory.proofs.Grips.{takes_grips, grips_takes}
use Rattle.theory.proofs.Morning.{legal_from_nothing}
use Rattle.theory.proofs.Verdict.{accepted_is_legal, legal_order_exactly, held_number_lem}
use Rattle.theory.proofs.Text.{written_read}
use Rattle.theory.proofs.Printed.{morning_length, printed_is}

-- ---- the plan

line_there : ℕ → ℕ
line_there i = cond (ltb i 10) (1280 + i) 1024

plan : List ℕ
unfolding line_there
plan = map line_there (up_from 0 max_lines)

-- What is computed of it: it has no fault; all lines are of job 1, no give, no start; and none of the first ten takes
-- again what the job holds.
sound : fault board plan ≡ none
unfolding fault plan up_from
sound = refl

gives_none : any is_give plan ≡ false
unfolding any is_give plan up_from
gives_none = refl

starts_none : any is_start plan ≡ false
unfolding any is_start plan up_from
starts_none = refl

others_none : any (λ l. not (eqb (job l) 1)) plan ≡ false
unfolding any job plan up_from
others_none = refl

again_none : any (holds_already plan) (up_from 0 10) ≡ false
unfolding any holds_already plan up_from
again_none = refl

plan_length : length plan ≡ max_lines
unfolding plan
plan_length = length-map (up_from 0 max_lines) line_there ∙ length_up_from 0 max_lines

there : (i : ℕ) → i < max_lines → at plan i ≡ line_there i
unfolding plan
there i h = let z : 0 + i ≡ i = omega arith in get_or_up_from line_there 0 max_lines i h ∙ ap line_there z

of_job_lem : (i : ℕ) → i < max_lines → job (at plan i) ≡ 1
of_job_lem i h =
    eqb-true (job (at plan i)) 1
    (not-false (eqb (job (at plan i)) 1)
    (falsely (not (eqb (job (at plan i)) 1))
    (λ t. clash (any (λ l. not (eqb (job l) 1)) plan)
    (line_any (λ l. not (eqb (job l) 1)) plan i (omega (arith, plan_length)) t) others_none)))

no_give : (i : ℕ) → is_give (at plan i) ≡ true → ⊥
no_give i t = clash (any is_give plan) (line_any is_give plan i (give_line plan i t) t) gives_none

no_start_lem : (i j : ℕ) → starts (at plan i) j ≡ true → ⊥
no_start_lem i j t =
    clash (any is_start plan) (line_any is_start plan i (start_line plan i j t) (start_parts (at plan i) j t).0)
    starts_none

well_formed_lem : WellFormed board plan
well_formed_lem = (no_fault_exactly board plan).0 sound

-- nothing is held from the beginning: what grips takes
unheld : (i : ℕ) → is_held (at plan i) ≡ false
unheld i = no_held_in_morning devices plan well_formed_lem i

gripped : (i d : ℕ) → grips plan i d ≡ true → takes plan i d ≡ true
unfolding held_at
gripped i d g = grips_takes plan i d (unheld i) g

-- a take is of the device of its place, and the first ten lines are
of_take : (i : ℕ) → is_take (at plan i) ≡ true → (i < 10) × (device_at plan i ≡ i)
unfolding line_there is_take opens kind operand device_at
of_take i t =
    let r = go (ltb i 10) refl (rw e at t) in
    (r.0, own_device (at plan i) (take_no_held (at plan i) t) ∙ rw e r.1)
  where
    e : at plan i ≡ line_there i
    e = there i (omega (arith, take_line plan i t, plan_length))

    go : (b : Bool) → ltb i 10 ≡ b → is_take (cond b (1280 + i) 1024) ≡ true
        → (i < 10) × (operand (cond b (1280 + i) 1024) ≡ i)
    go true q t = let lt = ltb-true i 10 q in (lt, omega arith)
    go false q t = clash false t refl

is_take_lem : (i : ℕ) → i < 10 → is_take (at plan i) ≡ true
unfolding line_there is_take opens kind operand
is_take_lem i h =
    rw (there i (omega arith), lt-ltb i 10 h)
    (and_both (eqb ((1280 + i) / 256 % 4) 1) (not (leb held_from ((1280 + i) % 256)))
    (eq-eqb ((1280 + i) / 256 % 4) 1 (omega arith)) (rw (lt-leb held_from ((1280 + i) % 256) (omega arith))))

-- none of them takes again what the job holds
first_taken : (i : ℕ) → is_take (at plan i) ≡ true → holds_already plan i ≡ false
first_taken i t =
    any_none (holds_already plan) (up_from 0 10) again_none i
    (up_from_has 0 10 i (omega arith) (omega (arith, (of_take i t).0)))

-- ---- the order of the line numbers is legal, and no other

up_snoc : (i n : ℕ) → up_from i n ++ ((i + n) ∷ []) ≡ up_from i (suc n)
unfolding up_from
up_snoc i zero = ap (λ (k : ℕ). k ∷ []) (omega arith)
up_snoc i (suc n) =
    let z : i + suc n ≡ suc i + n = omega arith in rw z (ap (λ (xs : List ℕ). i ∷ xs) (up_snoc (suc i) n))

up_next : (i : ℕ) → up_from 0 i ++ (i ∷ []) ≡ up_from 0 (suc i)
up_next i = let z : 0 + i ≡ i = omega arith in rw z at (up_snoc 0 i)

-- after the lines before it, a line may follow
may_follow_lem : (i : ℕ) → i < max_lines → MayFollow plan (up_from 0 i) i
unfolding held
may_follow_lem i h = record {
  line = omega (arith, plan_length);
  once = falsely (has i (up_from 0 i)) (λ m. omega (arith, (has_up_from 0 i i m).1));
  after = λ k lt q. before_it k (why plan k i q);
  free = λ d t. falsely (held plan (up_from 0 i) d) (λ m. free d t (any_found _ (up_from 0 i) m));
}
  where
    before_it : (k : ℕ) → Why plan k i → has k (up_from 0 i) ≡ true
    before_it k (same_job lt e) = up_from_has 0 i k (omega arith) (omega arith)
    before_it k (starter s) = absurd (no_start_lem k (job (at plan i)) s)

    free : (d : ℕ) → takes plan i d ≡ true
        → (k : ℕ) × (has k (up_from 0 i) ≡ true) × ((grips plan k d && not (given_back plan (up_from 0 i) k)) ≡ true)
        → ⊥
    free d t r =
        let b = and_split (grips plan r.0 d) (not (given_back plan (up_from 0 i) r.0)) r.2 in
        let g = gripped r.0 d b.0 in
        omega (
          arith,
          (has_up_from 0 i r.0 r.1).1,
          (of_take i (taking plan i d t)).1,
          (takes_parts plan i d t).1,
          (of_take r.0 (taking plan r.0 d g)).1,
          (takes_parts plan r.0 d g).1,
        )

follow : (n i : ℕ) → i + n ≡ max_lines → Follow plan (up_from 0 i) (up_from i n)
unfolding up_from
follow zero i e = tt
follow (suc n) i e = (may_follow_lem i (omega arith), rw (up_next i) (follow n (suc i) (omega arith)))

by_number : Legal plan (up_from 0 max_lines)
unfolding up_from
by_number =
    (legal_from_nothing plan unheld (up_from 0 max_lines)).1
    (follow max_lines 0 refl, λ i h. up_from_has 0 max_lines i (omega arith) (omega (arith, plan_length)))

only_so : (o : List ℕ) (i : ℕ) → Follow plan (up_from 0 i) o → o ≡ up_from i (length o)
unfolding up_from
only_so [] i f = refl
only_so (x ∷ o) i f =
    let e = same (le_or_lt i x) (le_or_lt x i) in
    rw e (ap (λ (xs : List ℕ). i ∷ xs) (only_so o (suc i) (rw (e, up_next i) at f.1)))
  where
    in_plan : x < max_lines
    in_plan = omega (arith, f.0.line, plan_length)

    same : (i ≤ x) ⊎ (x < i) → (x ≤ i) ⊎ (i < x) → x ≡ i
    same (inl a) (inl b) = omega arith
    same (inr a) b = clash (has x (up_from 0 i)) (up_from_has 0 i x (omega arith) (omega arith)) f.0.once
    same (inl a) (inr b) =
        let h = earlier_precedes plan i x b (of_job_lem i (omega (arith, in_plan)) ∙ sym (of_job_lem x in_plan)) in
        absurd (omega (arith, (has_up_from 0 i i (f.0.after i (omega (arith, plan_length, in_plan)) h)).1))

no_refusal : no_order devices plan ≡ none
no_refusal =
    (legal_order_exactly board plan sound).0 (up_from 0 max_lines, by_number)

handed_legal : Legal plan (handed plan)
handed_legal = accepted_is_legal board plan sound no_refusal

handed_is : handed plan ≡ up_from 0 max_lines
unfolding up_from
handed_is =
    only_so (handed plan) 0 ((legal_from_nothing plan unheld (handed plan)).0 handed_legal).0
    ∙ ap (up_from 0) (morning_length devices plan (handed plan) well_formed_lem handed_legal ∙ plan_length)

-- ---- ten devices stay held

stays_held : (d : ℕ) → any (λ i. keeps plan i d) (positions plan) ≡ ltb d 10
unfolding keeps is_none
stays_held d = tests_agree (any (λ i. keeps plan i d) (positions plan)) (ltb d 10) to from
  where
    to : any (λ i. keeps plan i d) (positions plan) ≡ true → ltb d 10 ≡ true
    to h =
        let r = any_found (λ i. keeps plan i d) (positions plan) h in
        let a = and_split (grips plan r.0 d) (is_none (mate plan r.0)) r.2 in
        let g = gripped r.0 d a.0 in
        let t = of_take r.0 (taking plan r.0 d g) in
        lt-ltb d 10 (omega (arith, t.0, t.1, (takes_parts plan r.0 d g).1))

    lasts : (m : Option ℕ) → mate plan d ≡ m → is_none m ≡ true
    lasts none e = refl
    lasts (some m) e = absurd (no_give m (pair plan d m e).gives)

    from : ltb d 10 ≡ true → any (λ i. keeps plan i d) (positions plan) ≡ true
    from h =
        let lt = ltb-true d 10 h in
        let t = is_take_lem d lt in
        any_at (λ i. keeps plan i d) (positions plan) d (position_has plan d (omega (arith, plan_length)))
        (and_both (grips plan d d) (is_none (mate plan d))
        (takes_grips plan d d (makes_take plan d d t (first_taken d t) (of_take d t).1))
        (lasts (mate plan d) refl))

ten_held : held_at_end devices plan ≡ 10
unfolding those up_from
ten_held =
    held_number_lem devices plan handed_legal
    ∙ ap length
    (those_same (λ d. any (λ i. keeps plan i d) (positions plan)) (λ d. ltb d 10) (up_from 0 devices)
    (λ d h. stays_held d))

-- ---- what is printed

counted : length (printed_order (map line_number (up_from 0 max_lines)) 10) ≡ screen_room
unfolding printed_order up_from line_number
counted = refl

-- The theorem: a text's print has as many bytes as the screens' room.
pub longest : (text : List ℕ) × (length (printed board text) ≡ screen_room)
unfolding printed_by first_refusal
longest = (text_of plan, ap length print ∙ counted)
  where
    w : (spelt board (text_of plan) ≡ plan) × (text_fault board (text_of plan) ≡ none)
    w = written_read board plan sound

    print : printed board (text_of plan) ≡ printed_order (map line_number (up_from 0 max_lines)) 10
    print = printed_is board (text_of plan) ∙ rw (w.0, w.1, no_refusal, handed_is, ten_held)

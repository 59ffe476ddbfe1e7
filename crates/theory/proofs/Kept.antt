-- Kept rows. Whatever is lent, a move whose lists have room does to plan and table what it does without rows, and
-- writes no row but those of the devices concerned. From a plan without a fault and its own table, rows and held set it
-- leaves those of the edited plan; so over any list of moves, refused ones among them, they stay the plan's own, and
-- the quick verdict, which reads them, is the verdict's answer in number, place and count. Else a verdict by kept rows
-- would be worth nothing. No verdict is supposed: plans with two lasting takes of a device, or with circles, are meant
-- too. It is all for plans of the morning, which the entries that take rows serve; the verdict has one more test, of
-- held lines, which no such plan fails (02, request 5).
use Prim.Native.Nat.{ℕ, ◌+◌, ◌^◌, ◌<◌, ◌≤◌}
use Rattle.std.specs.Prelude.{Result, Ok, Err}
use mathlib.Core.Bool.{Bool, true, false, cond, not}
use mathlib.Core.List.{List, [], ◌∷◌, map}
use mathlib.Core.Logic.{◌⊎◌, inl, inr, ◌≢◌, ◌↔◌}
use mathlib.Core.Option.{Option, none, some, none-ne-some}
use mathlib.Core.Path.{◌≡◌, refl, sym, ◌∙◌, ap}
use native.Mathlib.Omega.{arith}
use lib.Dec.{eqb}
use lib.ListN.{length, get_or, take, drop, length-map}
use lib.Seq.{get_or-take, take_at}
use borrow.Author.Tests.{eqb-true, eq-eqb, ne_eqb, le-ltb}
use Rattle.model.specs.Lists.{up_from, positions, any, over}
use Rattle.model.specs.Sets.{member, put}
use Rattle.model.specs.Answers.{refuse_if, first_refusal, too_short}
use Rattle.model.specs.Line.{morning, is_take, at, line_number, held_from}
use Rattle.model.specs.WellFormed.{Rules, WellFormed, fault}
use Rattle.model.specs.Mate.{device_at, held_at, steps, lasting, keeps}
use Rattle.model.specs.Claims.{table}
use Rattle.model.specs.Rows.{row_of, rows}
use Rattle.model.specs.Handed.{handed}
use Rattle.model.specs.Verdict.{two_lasting, circle_of, circle, hindered, no_order, held_at_end}
use Rattle.model.specs.Move.{edited, from_last, rewritten, changed, asked_at, is_take_of, move_refusal}
use Rattle.model.specs.Entries.{Outcome, Lent, outcome, moving, ordering}
use Rattle.model.specs.Kept.{lasts_among, lasts_in, held_to_end, held_number, Beside, beside_of, over_all, room_for}
use Rattle.model.specs.Kept.{building}
use Rattle.model.specs.Kept.{concerned, kept_rows, kept_held, kept_refusal, beside_after, LentBeside, moving_kept}
use Rattle.model.specs.Kept.{quick_refusal, quick_by, quick}
use Rattle.model.specs.declared.Refusal.{Refusal}
use Rattle.theory.specs.Verdict.{NoOrderBy}
use Rattle.theory.specs.Move.{Ask, moved, moved_by}
use Rattle.theory.specs.Kept.{Own, less_rows, without_rows, WritesOnly, MadeBy, StepKept, refused, accepted}
use Rattle.theory.specs.Kept.{moved_kept, moved_kept_by, StillOwn}
use Rattle.theory.proofs.Tests.{test}
use Rattle.theory.proofs.Lists.{has_up_from, over_front, over_rest, over_length, over_again, over_own}
use Rattle.theory.proofs.Lists.{own_room, over_entry, those_same, those_length}
use Rattle.theory.proofs.Answers.{none_refuses, long_enough}
use Rattle.theory.proofs.Sets.{member_put, put_below}
use Rattle.theory.proofs.Where.{member_where, where_below, is_where}
use Rattle.theory.proofs.Claims.{length_table, length_up_from, get_or_up_from}
use Rattle.theory.proofs.WellFormed.{no_fault_exactly, no_held_in_morning}
use Rattle.theory.proofs.Edited.{EditOf, edit}
use Rattle.theory.proofs.Move as move
use Rattle.theory.proofs.Move.{sets_are, TestView, passes, refuses, test_view, asked_take, taken_device, accepts}
use Rattle.theory.proofs.OnlyIf.{row_is, length_rows}
use Rattle.theory.proofs.Verdict.{view_by, seen_exactly, accepted_is_legal, held_number_lem}
use Rattle.theory.proofs.Morning.{keeps_is, none_hindered}
use Rattle.theory.proofs.LastingKept.{map_same, any_same, row_own, row_stays, lasts_in_same, eqb_turned}

-- ---- the set of the devices held to the end

pub member_held : (D : ℕ) (p : List ℕ) (d : ℕ) → d < D → member (held_to_end D p) d ≡ lasts_in p d
unfolding held_to_end
member_held D p d h = member_where (lasts_in p) D d h

pub held_below_lem : (D : ℕ) (p : List ℕ) → held_to_end D p < 2 ^ D
unfolding held_to_end
held_below_lem D p = where_below (lasts_in p) D

-- ---- rows and held set of the edited plan

module _ (D : ℕ) (p t : List ℕ) (i e : ℕ) (rules : Rules p) (taken : is_take (at p i) ≡ true)
    (small : e < held_from) where
  abbrev q : List ℕ
  q = edited p i e

  abbrev u : List ℕ
  u = rewritten (edited p i e) t (from_last p i)

  edit' : EditOf p i e q
  edit' = edit p i e taken small

  -- from the plan's own table and rows
  pub rows_are : take (length p) t ≡ table p → (rs : List ℕ) → take D rs ≡ rows D p
      → kept_rows D q u (concerned p i e) rs ≡ rows D q
  unfolding kept_rows rows
  rows_are mine rs own =
      map_same (λ d. cond (concerned p i e d) (row_of q u d) (get_or rs d 0)) (row_of q (table q)) (up_from 0 D)
      (λ d m. go d (omega (arith, (has_up_from 0 D d m).1)) (concerned p i e d) refl)
    where
      new : (d : ℕ) → row_of q u d ≡ row_of q (table q) d
      new =
          row_own q u
          (rw (sets_are p t i e rules mine taken small)
          (take_at (table q) (drop (length p) t) (length q) (length_table q)))

      go : (d : ℕ) → d < D → (b : Bool) → concerned p i e d ≡ b
          → cond b (row_of q u d) (get_or rs d 0) ≡ row_of q (table q) d
      go d h true c = new d
      go d h false c =
          sym (get_or-take D rs d 0 h) ∙ ap (λ (xs : List ℕ). get_or xs d 0) own ∙ row_is D p d h
          ∙ sym (row_own p t mine d) ∙ sym (row_stays p q t i e d rules taken edit' c) ∙ new d

  -- from the plan's own held set
  pub held_is_lem : device_at p i < D → e < D → kept_held q (device_at p i) e (held_to_end D p) ≡ held_to_end D q
  unfolding kept_held held_to_end
  held_is_lem h k =
      is_where (lasts_in q) D (put (lasts_in q e) e inner)
      (put_below D (lasts_in q e) e inner k (put_below D (lasts_in q old) old (held_to_end D p) h (held_below_lem D p)))
      (λ d b. member_put (lasts_in q e) e inner d
      ∙ ap (cond (eqb e d) (lasts_in q e)) (member_put (lasts_in q old) old (held_to_end D p) d)
      ∙ ap (λ (x : Bool). cond (eqb e d) (lasts_in q e) (cond (eqb old d) (lasts_in q old) x)) (member_held D p d b)
      ∙ go d (eqb e d) refl (eqb old d) refl)
    where
      old : ℕ
      old = device_at p i

      inner : ℕ
      inner = put (lasts_in q old) old (held_to_end D p)

      go : (d : ℕ) (b : Bool) → eqb e d ≡ b → (c : Bool) → eqb old d ≡ c
          → cond b (lasts_in q e) (cond c (lasts_in q old) (lasts_in p d)) ≡ lasts_in q d
      go d true z c w = rw (eqb-true e d z)
      go d false z true w = rw (eqb-true old d w)
      go d false z false w = sym (lasts_in_same p q i e d taken edit' (eqb_turned d old ∙ w) (eqb_turned d e ∙ z))

-- ---- the three lists

same_lists : {s t rs us hs vs : List ℕ} → s ≡ t → rs ≡ us → hs ≡ vs
    → ◌≡◌ {A = Beside} (record { sets = s; rows = rs; held = hs }) (record { sets = t; rows = us; held = vs })
same_lists x y z = rw (x, y, z)

module _ (D : ℕ) (p : List ℕ) (b : Beside) where
  -- what is written over with a plan's own is its own
  pub own_written : Own D p (over_all (beside_of D p) b)
  unfolding over_all beside_of
  own_written = record {
    own_table = over_front (length p) (table p) b.sets (length_table p);
    own_rows = over_front D (rows D p) b.rows (length_rows D p);
    own_held = over_front 1 (held_to_end D p ∷ []) b.held refl;
  }

  module _ (own : Own D p b) where
    pub rows_room_lem : D ≤ length b.rows
    rows_room_lem = own_room D (rows D p) b.rows own.own_rows (length_rows D p)

    pub held_room_lem : 1 ≤ length b.held
    held_room_lem = own_room 1 (held_to_end D p ∷ []) b.held own.own_held refl

    -- and stays when it is written over with that
    pub own_stays : over_all (beside_of D p) b ≡ b
    unfolding over_all beside_of
    own_stays =
        same_lists
        (over_own (length p) (table p) b.sets own.own_table (length_table p))
        (over_own D (rows D p) b.rows own.own_rows (length_rows D p))
        (over_own 1 (held_to_end D p ∷ []) b.held own.own_held refl)

-- written over with a plan's own, and then with another's that has as many lines
written_again : (D : ℕ) (p q : List ℕ) (b : Beside) → length q ≡ length p
    → over_all (beside_of D q) (over_all (beside_of D p) b) ≡ over_all (beside_of D q) b
unfolding over_all beside_of
written_again D p q b h =
    same_lists
    (over_again (table q) (table p) b.sets (length_table q ∙ h ∙ sym (length_table p)))
    (over_again (rows D q) (rows D p) b.rows (length_rows D q ∙ sym (length_rows D p)))
    (over_again (held_to_end D q ∷ []) (held_to_end D p ∷ []) b.held refl)

-- ---- any move, whatever is lent

sole : (x : Option Refusal) → first_refusal (x ∷ none ∷ none ∷ []) ≡ x
unfolding first_refusal
sole none = refl
sole (some r) = refl

module _ (D : ℕ) (p : List ℕ) (lent : Beside) where
  -- 11, where rows and held set have room, is that of the table
  room_of_table : D ≤ length lent.rows → 1 ≤ length lent.held
      → room_for D p lent ≡ too_short (length lent.sets) (length p)
  unfolding room_for too_short refuse_if
  room_of_table a b =
      rw (le-ltb (length lent.rows) D a, le-ltb (length lent.held) 1 b)
      (sole (too_short (length lent.sets) (length p)))

  -- and where there is none, there is room
  pub has_room : room_for D p lent ≡ none
      → (length p ≤ length lent.sets) × (D ≤ length lent.rows) × (1 ≤ length lent.held)
  unfolding room_for
  has_room h =
      let e = none_refuses
      (too_short (length lent.sets) (length p) ∷ too_short (length lent.rows) D
      ∷ too_short (length lent.held) 1 ∷ []) h in (
        long_enough (length lent.sets) (length p) (e 0),
        long_enough (length lent.rows) D (e 1),
        long_enough (length lent.held) 1 (e 2),
      )

-- what a move answers and leaves, by what its tests answer
abbrev tested : ℕ → List ℕ → Beside → ℕ → ℕ → Option Refusal → Outcome (Result ℕ Refusal) LentBeside
tested D p lent i device x =
    let new : Beside = beside_after D p lent i device in
    outcome Err x (Ok (changed p lent.sets new.sets))
    (record { plan = edited p i device; beside = new }) (record { plan = p; beside = lent })

length_kept_rows : (D : ℕ) (q t : List ℕ) (f : ℕ → Bool) (rs : List ℕ) → length (kept_rows D q t f rs) ≡ D
unfolding kept_rows
length_kept_rows D q t f rs =
    length-map (up_from 0 D) (λ d. cond (f d) (row_of q t d) (get_or rs d 0)) ∙ length_up_from 0 D

-- a row that is not concerned is as it was lent
row_lent : (D : ℕ) (q t : List ℕ) (f : ℕ → Bool) (rs : List ℕ) (d : ℕ) → f d ≡ false → d < D
    → get_or (kept_rows D q t f rs) d 0 ≡ get_or rs d 0
unfolding kept_rows
row_lent D q t f rs d c h =
    let z : 0 + d ≡ d = omega arith in
    get_or_up_from (λ d. cond (f d) (row_of q t d) (get_or rs d 0)) 0 D d h ∙ rw (z, c)

-- one that is concerned is by the plan and the table
row_made : (D : ℕ) (q t : List ℕ) (f : ℕ → Bool) (rs : List ℕ) (d : ℕ) → f d ≡ true → d < D
    → get_or (kept_rows D q t f rs) d 0 ≡ row_of q t d
unfolding kept_rows
row_made D q t f rs d c h =
    let z : 0 + d ≡ d = omega arith in
    get_or_up_from (λ d. cond (f d) (row_of q t d) (get_or rs d 0)) 0 D d h ∙ rw (z, c)

-- the bits of the two devices are the plan's
new_bit_lem : (q : List ℕ) (old new s : ℕ) → member (kept_held q old new s) new ≡ lasts_in q new
unfolding kept_held
new_bit_lem q old new s = member_put (lasts_in q new) new (put (lasts_in q old) old s) new ∙ rw (eq-eqb new new refl)

old_bit_lem : (q : List ℕ) (old new s : ℕ) → member (kept_held q old new s) old ≡ lasts_in q old
unfolding kept_held
old_bit_lem q old new s =
    member_put (lasts_in q new) new (put (lasts_in q old) old s) old
    ∙ rw (member_put (lasts_in q old) old s old, eq-eqb old old refl) (go (test (eqb new old)))
  where
    go : (eqb new old ≡ true) ⊎ (eqb new old ≡ false)
        → cond (eqb new old) (lasts_in q new) (lasts_in q old) ≡ lasts_in q old
    go (inl e) = rw e (ap (lasts_in q) (eqb-true new old e))
    go (inr e) = rw e

-- a bit of neither device is as it was lent
bit_lent : (q : List ℕ) (old new s d : ℕ) → d ≢ old → d ≢ new → member (kept_held q old new s) d ≡ member s d
unfolding kept_held
bit_lent q old new s d a b =
    member_put (lasts_in q new) new (put (lasts_in q old) old s) d
    ∙ rw (ne_eqb new d (λ e. b (sym e)), member_put (lasts_in q old) old s d, ne_eqb old d (λ e. a (sym e)))

module _ (D : ℕ) (p : List ℕ) (lent : Beside) (line device : ℕ) where
  -- With room for rows and held set the tests are those of a move,
  pub same_tests : D ≤ length lent.rows → 1 ≤ length lent.held
      → kept_refusal D p lent line device ≡ move_refusal (morning D) p lent.sets line device
  unfolding kept_refusal move_refusal
  same_tests a b = rw (room_of_table D p lent a b)

  -- and so is what becomes of plan and table, whatever the rows are.
  pub as_before : D ≤ length lent.rows → 1 ≤ length lent.held
      → without_rows (moving_kept D p lent line device) ≡ moving (morning D) p lent.sets line device
  unfolding without_rows less_rows moving_kept moving outcome
  as_before a b = rw (same_tests a b) (go (move_refusal (morning D) p lent.sets line device))
    where
      go : (x : Option Refusal)
          → without_rows (tested D p lent (asked_at line) device x) ≡ move.tested p lent.sets (asked_at line) device x
      go none = refl
      go (some r) = refl

  writes : D ≤ length lent.rows → 1 ≤ length lent.held
      → WritesOnly D p lent line device (beside_after D p lent (asked_at line) device)
  unfolding over
  writes a b = record {
    others = λ d c. over_entry new lent.rows d (get_or lent.rows d 0)
        (λ h. row_lent D q u (concerned p i device) lent.rows d c (omega (arith, long))) (λ h. refl);
    past_rows = over_rest D new lent.rows long;
    long_rows = over_length new lent.rows (omega (arith, long));
    other_bits = λ d x y. bit_lent q (device_at p i) device (get_or lent.held 0 0) d x y;
    past_held = over_rest 1 set lent.held refl;
    long_held = over_length set lent.held b;
  }
    where
      i : ℕ
      i = asked_at line

      q : List ℕ
      q = edited p i device

      u : List ℕ
      u = rewritten q lent.sets (from_last p i)

      new : List ℕ
      new = kept_rows D q u (concerned p i device) lent.rows

      set : List ℕ
      set = kept_held q (device_at p i) device (get_or lent.held 0 0) ∷ []

      long : length new ≡ D
      long = length_kept_rows D q u (concerned p i device) lent.rows

  -- What is written is by the edited plan and the table as it has become, whatever was lent.
  pub made_after : MadeBy D p line device (edited p (asked_at line) device)
      (beside_after D p lent (asked_at line) device)
  unfolding over
  made_after = record {
    rows_made = λ d h c. over_front_entry d h ∙ row_made D q u (concerned p i device) lent.rows d c h;
    old_bit = old_bit_lem q (device_at p i) device (get_or lent.held 0 0);
    new_bit = new_bit_lem q (device_at p i) device (get_or lent.held 0 0);
  }
    where
      i : ℕ
      i = asked_at line

      q : List ℕ
      q = edited p i device

      u : List ℕ
      u = rewritten q lent.sets (from_last p i)

      new : List ℕ
      new = kept_rows D q u (concerned p i device) lent.rows

      over_front_entry : (d : ℕ) → d < D → get_or (over new lent.rows) d 0 ≡ get_or new d 0
      over_front_entry d h =
          over_entry new lent.rows d (get_or new d 0) (λ g. refl)
          (λ g. absurd (omega (arith, length_kept_rows D q u (concerned p i device) lent.rows)))

  -- a move that no test refuses had room
  pub room_passed : kept_refusal D p lent line device ≡ none → room_for D p lent ≡ none
  unfolding kept_refusal
  room_passed h = none_refuses (move.tests (morning D) p lent.sets (room_for D p lent) line device) h 1

  -- Only the rows of the devices concerned are written, and in the held set only the bits of the old and the new one.
  pub writes_only : WritesOnly D p lent line device (moving_kept D p lent line device).left.beside
  unfolding moving_kept outcome
  writes_only = go (kept_refusal D p lent line device) refl
    where
      go : (x : Option Refusal) → kept_refusal D p lent line device ≡ x
          → WritesOnly D p lent line device (moving_kept D p lent line device).left.beside
      go none e = let r = has_room D p lent (room_passed e) in rw e (writes r.1 r.2)
      go (some r) e = rw e (record {
        others = λ d c. refl;
        past_rows = refl;
        long_rows = refl;
        other_bits = λ d x y. refl;
        past_held = refl;
        long_held = refl;
      })

-- ---- a move from a plan's own table, rows and held set

module _ (D : ℕ) (p : List ℕ) (lent : Beside) (line device : ℕ) (w : WellFormed (morning D) p)
    (small : D ≤ held_from) (own : Own D p lent) where
  -- what is left is the edited plan's, and the rest
  after_own : is_take_of p line ≡ true → device < D
      → beside_after D p lent (asked_at line) device ≡ over_all (beside_of D (edited p (asked_at line) device)) lent
  unfolding over_all beside_of over
  after_own a b =
      same_lists
      (sets_are p t i device w.rules own.own_table taken fits
      ∙ rw (length_table q, (edit p i device taken fits).alike.long))
      (ap (λ (rs : List ℕ). over rs lent.rows)
      (rows_are D p t i device w.rules taken fits own.own_table lent.rows own.own_rows))
      (ap (λ (s : ℕ). over (kept_held q (device_at p i) device s ∷ []) lent.held) first
      ∙ ap (λ (s : ℕ). over (s ∷ []) lent.held)
      (held_is_lem D p t i device w.rules taken fits (taken_device (morning D) p i w taken) b))
    where
      i : ℕ
      i = asked_at line

      t : List ℕ
      t = lent.sets

      q : List ℕ
      q = edited p i device

      taken : is_take (at p i) ≡ true
      taken = asked_take p line a

      fits : device < held_from
      fits = omega arith

      first : get_or lent.held 0 0 ≡ held_to_end D p
      first =
          sym (get_or-take 1 lent.held 0 0 (omega arith)) ∙ ap (λ (xs : List ℕ). get_or xs 0 0) own.own_held

  -- The theorem for one move.
  pub kept_step : StepKept D p lent line device (moving_kept D p lent line device)
  unfolding moving_kept outcome without_rows less_rows
  kept_step =
      rw (same_tests D p lent line device (rows_room_lem D p lent own) (held_room_lem D p lent own))
      (go (move_refusal (morning D) p lent.sets line device)
      (test_view (morning D) p lent.sets line device w own.own_table))
    where
      go : (x : Option Refusal) → TestView (morning D) p line device x
          → StepKept D p lent line device (tested D p lent (asked_at line) device x)
      go none (passes a b) =
          accepted
          (record {
            as_before = accepts (morning D) p lent.sets line device w small own.own_table a b;
            afresh = after_own a b;
          })
      go (some r) (refuses x y) =
          refused
          (record {
            as_before = record { refusal = x; reason = y; answer = refl; plan = refl; sets = refl };
            stays = refl;
          })

-- ---- the quick verdict

number_own : (D : ℕ) (p : List ℕ) → fault (morning D) p ≡ none → no_order D p ≡ none → held_number D p ≡ held_at_end D p
unfolding held_number lasts_in lasts_among
number_own D p f n =
    ap length (those_same (λ d. any (λ i. lasting p i d) (positions p)) (λ d. any (λ i. keeps p i d) (positions p))
    (up_from 0 D) (λ d m. any_same (λ i. lasting p i d) (λ i. keeps p i d) (positions p)
    (λ i. sym (keeps_is p (no_held_in_morning D p ((no_fault_exactly (morning D) p).0 f)) i d))))
    ∙ sym (held_number_lem D p (accepted_is_legal (morning D) p f n))

-- no more steps than lines
few_steps : (p : List ℕ) → length (steps p) ≤ length p
unfolding steps positions
few_steps p = omega (arith, those_length (λ i. not (held_at p i)) (up_from 0 (length p)), length_up_from 0 (length p))

-- by the four tests that both make, and one of the verdict's that refuses no plan without a fault
same_answer : {L : Type 0} (f x y z : Option Refusal) (m n : ℕ) (new lent : L) → (f ≡ none → z ≡ none)
    → (f ≡ none → first_refusal (x ∷ y ∷ z ∷ []) ≡ none → m ≡ n)
    → quick_by (first_refusal (f ∷ none ∷ x ∷ y ∷ [])) m
    ≡ (outcome Err (first_refusal (f ∷ none ∷ first_refusal (x ∷ y ∷ z ∷ []) ∷ []))
    (Ok n) new lent).answer
unfolding quick_by outcome first_refusal
same_answer (some r) x y z m n new lent k h = refl
same_answer none (some r) y z m n new lent k h = refl
same_answer none none (some r) z m n new lent k h = refl
same_answer none none none none m n new lent k h = ap Ok (h refl refl)
same_answer none none none (some r) m n new lent k h = absurd (none-ne-some r (sym (k refl)))

-- The theorem: by the plan's own rows the quick verdict is the verdict's answer, in number, place and count.
pub quick_agrees : (D : ℕ) (p rs order : List ℕ) → take D rs ≡ rows D p → length p ≤ length order
    → quick D p rs ≡ (ordering (morning D) p order).answer
unfolding quick quick_refusal ordering no_order circle too_short refuse_if
quick_agrees D p rs order mine long =
    rw (
      le-ltb (length rs) D (own_room D (rows D p) rs mine (length_rows D p)),
      le-ltb (length order) (length (steps p)) (omega (arith, few_steps p)),
      mine,
    )
    (same_answer (fault (morning D) p) (two_lasting D p) (circle_of D (rows D p)) (hindered D p) (held_number D p)
    (held_at_end D p) (over (map line_number (handed p)) order) order
    (λ f. none_hindered p (no_held_in_morning D p ((no_fault_exactly (morning D) p).0 f)) D)
    (number_own D p))

-- By any rows it is the statement about the rows as lent: 9 or 10 exactly for its reason, at the lowest device.
pub quick_exactly : (D : ℕ) (p rs : List ℕ) → fault (morning D) p ≡ none → D ≤ length rs → (r : Refusal)
    → (quick_refusal D p rs ≡ some r) ↔ NoOrderBy D p (take D rs) r
unfolding quick_refusal too_short refuse_if first_refusal
quick_exactly D p rs f long =
    rw (f, le-ltb (length rs) D long)
    (seen_exactly D p (take D rs) (first_refusal (two_lasting D p ∷ circle_of D (take D rs) ∷ []))
    (view_by D p (take D rs)))

-- ---- building, and any list of moves

-- What is built is the plan's own.
pub built_own : (D : ℕ) (p : List ℕ) (lent : Beside)
    → first_refusal (fault (morning D) p ∷ room_for D p lent ∷ []) ≡ none
    → Own D p (building D p lent).left
unfolding building outcome
built_own D p lent h = rw h (own_written D p lent)

module _ (D : ℕ) (small : D ≤ held_from) where
  still_own : (first s : LentBeside) → fault (morning D) s.plan ≡ none → length s.plan ≡ length first.plan
      → s.beside ≡ over_all (beside_of D s.plan) first.beside → StillOwn D first s
  still_own first s f n e = record {
    no_fault = f;
    long = n;
    afresh = e;
    next = λ a. kept_step D s.plan s.beside a.line a.device ((no_fault_exactly (morning D) s.plan).0 f)
        small own;
    verdict = λ order h. quick_agrees D s.plan s.beside.rows order own.own_rows h;
  }
    where
      own : Own D s.plan s.beside
      own = rw e (own_written D s.plan first.beside)

  own_moved : (first s : LentBeside) (a : Ask) → StillOwn D first s → StillOwn D first (moved_kept D s a)
  unfolding moved_kept without_rows less_rows
  own_moved first s a k = go (k.next a)
    where
      o : Outcome (Result ℕ Refusal) LentBeside
      o = moving_kept D s.plan s.beside a.line a.device

      go : StepKept D s.plan s.beside a.line a.device o → StillOwn D first (moved_kept D s a)
      go (refused u) =
          still_own first (moved_kept D s a) (rw u.as_before.plan k.no_fault) (rw u.as_before.plan k.long)
          (rw (u.as_before.plan, u.stays) k.afresh)
      go (accepted c) =
          still_own first (moved_kept D s a) c.as_before.no_fault (c.as_before.long ∙ k.long)
          (c.afresh ∙ ap (over_all (beside_of D o.left.plan)) k.afresh
          ∙ written_again D s.plan o.left.plan first.beside c.as_before.long)

  own_on : (first s : LentBeside) (asks : List Ask) → StillOwn D first s → StillOwn D first (moved_kept_by D s asks)
  unfolding moved_kept_by
  own_on first s [] k = k
  own_on first s (a ∷ asks) k = own_on first (moved_kept D s a) asks (own_moved first s a k)

  -- The theorem: over any list of moves, refused ones among them, table, rows and held set stay the plan's own.
  pub moves_keep_own : (s : LentBeside) (asks : List Ask) → fault (morning D) s.plan ≡ none
      → Own D s.plan s.beside → StillOwn D s (moved_kept_by D s asks)
  moves_keep_own s asks f own = own_on s s asks (still_own s s f refl (sym (own_stays D s.plan s.beside own)))

-- The theorem, from building on.
pub build_and_move : (D : ℕ) → D ≤ held_from → (p : List ℕ) (lent : Beside) (asks : List Ask)
    → first_refusal (fault (morning D) p ∷ room_for D p lent ∷ []) ≡ none
    → let s : LentBeside = record { plan = p; beside = (building D p lent).left } in
    StillOwn D s (moved_kept_by D s asks)
build_and_move D small p lent asks h =
    moves_keep_own D small (record { plan = p; beside = (building D p lent).left }) asks
    (none_refuses (fault (morning D) p ∷ room_for D p lent ∷ []) h 0) (built_own D p lent h)

-- Of any rows and held set that have room: over any list of moves plan and table are as without them.
pub moves_as_before : (D : ℕ) (s : LentBeside) (asks : List Ask) → D ≤ length s.beside.rows
    → 1 ≤ length s.beside.held → less_rows (moved_kept_by D s asks) ≡ moved_by (morning D) (less_rows s) asks
unfolding moved_kept_by moved_kept moved_by moved less_rows without_rows
moves_as_before D s [] a b = refl
moves_as_before D s (x ∷ asks) a b =
    let only = writes_only D s.plan s.beside x.line x.device in
    moves_as_before D (moved_kept D s x) asks (omega (arith, only.long_rows)) (omega (arith, only.long_held))
    ∙ ap (λ (o : Outcome (Result ℕ Refusal) Lent). moved_by (morning D) o.left asks)
    (as_before D s.plan s.beside x.line x.device a b)

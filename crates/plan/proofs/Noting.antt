-- The walk's notes tell which lines take again, or give such a take back (02, request 2): a line changes less than its
-- verb says exactly there; and what is noted of the devices held goes on from line to line.
use Rattle.std.proofs.Common.{◌≡◌, ℕ, suc, ◌^◌, ◌<◌, ◌≤◌, Bool, true, false, cond, not, ◌&&◌, ◌||◌, eqb, ltb, ◌⊎◌, List}
use Rattle.std.proofs.Common.{[], ◌∷◌, length, get_or, set, sym, refl, ap, ◌∙◌, inl, inr, arith, length-set}
use Rattle.std.proofs.Common.{get_or-set_other, get_or-set_same, eq-eqb, ne_eqb, eqb-true}
use mathlib.Core.List.{tail}
use mathlib.Core.Option.{Option, none, some}
use borrow.Author.Tests.{eqb-false}
use Rattle.model.specs.Board.{devices, board_at}
use Rattle.model.specs.Lists.{has}
use Rattle.model.specs.Line.{Settings, job, operand, opens, is_give, is_start, is_line, line_number, max_lines}
use Rattle.model.specs.Sets.{empty, union, member}
use Rattle.model.specs.WellFormed.{is_last}
use Rattle.model.specs.declared.Refusal.{Refusal}
use Rattle.model.specs.declared.Refusal.TheVariants.{BadStart, GiveWithoutTake}
use Rattle.line.specs.Device.{device_bits}
use Rattle.sets.specs.Both.{both, differ, without}
use Rattle.sets.specs.Only.{only_of}
use Rattle.sets.proofs.Members.{member_only_of, only_of_below, member_both, both_below, member_differ, member_without}
use Rattle.sets.proofs.Members.{without_below}
use Rattle.line.proofs.Ranges.{or_none}
use Rattle.theory.proofs.Line.{device_line, device_rest, opens_no_give}
use Rattle.theory.proofs.Sets.{member_empty, member_union, empty_below, union_below, same_members}
use Rattle.theory.proofs.Tests.{clash, test, or_left, or_right}
use Rattle.plan.specs.Walk.{place_fault, held_fault, Next, on, bad, rule_of, unless, step_of, given_by}
use Rattle.plan.specs.Noting.{taken_by, handled_by, change_of, added_by, Added, bare, more, Noted}

-- ---- a store above what is held

above : (added : List ℕ) (v m : ℕ) (ds : List ℕ) → length ds ≤ m → Added added ds → Added (set added (suc m) v) ds
above added v m [] h bare = bare
above added v m (d ∷ ds) h (more e es q a) =
    more d ds (get_or-set_other added (suc m) (suc (length ds)) v 0 (λ z. omega arith) ∙ q)
    (above added v m ds (omega arith) a)

-- ---- what a line changes, by its verb

-- by members
change_member : (t held g latest d : ℕ) → member (union (without t held) (both g latest)) d
    ≡ ((member t d && not (member held d)) || (member g d && member latest d))
change_member t held g latest d =
    member_union (without t held) (both g latest) d ∙ rw (member_without t held d, member_both g latest d)

change_below : (t held g latest : ℕ) → t < 2 ^ devices → g < 2 ^ devices
    → union (without t held) (both g latest) < 2 ^ devices
change_below t held g latest h k =
    union_below devices (without t held) (both g latest) (without_below devices t held h)
    (both_below devices g latest k)

-- whatever the latest take is said to have added
pub change_of_below : (n held latest : ℕ) → change_of n held latest < 2 ^ devices
unfolding change_of
change_of_below n held latest =
    change_below (taken_by n) held (given_by n) latest (go (opens n)) (go (is_give n))
  where
    go : (b : Bool) → cond b (only_of devices (device_bits n)) empty < 2 ^ devices
    go true = only_of_below devices (device_bits n)
    go false = empty_below devices

added_below : (b : Bool) (o : ℕ) → added_by b o < 2 ^ devices
added_below true o = empty_below devices
added_below false o = only_of_below devices o

added_member : (b : Bool) (o d : ℕ) → d < devices → member (added_by b o) d ≡ (not b && eqb o d)
added_member true o d h = member_empty d
added_member false o d h = member_only_of devices o d h

module _ (o held latest : ℕ) where
  of_take : (b : Bool) → member held o ≡ b
      → union (without (only_of devices o) held) (both empty latest) ≡ added_by b o
  of_take b e =
      same_members devices (union (without (only_of devices o) held) (both empty latest)) (added_by b o)
      (change_below (only_of devices o) held empty latest (only_of_below devices o) (empty_below devices))
      (added_below b o)
      (λ d h. change_member (only_of devices o) held empty latest d
      ∙ rw (member_only_of devices o d h, member_empty d, added_member b o d h) (go d (test (eqb o d))))
    where
      go : (d : ℕ) → (eqb o d ≡ true) ⊎ (eqb o d ≡ false)
          → ((eqb o d && not (member held d)) || false) ≡ (not b && eqb o d)
      go d (inl q) = rw (q, ← eqb-true o d q, e) (same b)
        where
          same : (b : Bool) → (not b || false) ≡ (not b && true)
          same true = refl
          same false = refl
      go d (inr q) = rw q (same b)
        where
          same : (b : Bool) → false ≡ (not b && false)
          same true = refl
          same false = refl

  of_give : (b : Bool) → latest ≡ added_by b o
      → union (without empty held) (both (only_of devices o) latest) ≡ added_by b o
  of_give b e =
      same_members devices (union (without empty held) (both (only_of devices o) latest)) (added_by b o)
      (change_below empty held (only_of devices o) latest (empty_below devices) (only_of_below devices o))
      (added_below b o)
      (λ d h. change_member empty held (only_of devices o) latest d
      ∙ rw (member_empty d, member_only_of devices o d h, e, added_member b o d h) (go b (eqb o d)))
    where
      go : (b x : Bool) → (x && (not b && x)) ≡ (not b && x)
      go true true = refl
      go true false = refl
      go false true = refl
      go false false = refl

of_other : (held latest : ℕ) → union (without empty held) (both empty latest) ≡ empty
of_other held latest =
    same_members devices (union (without empty held) (both empty latest)) empty
    (change_below empty held empty latest (empty_below devices) (empty_below devices)) (empty_below devices)
    (λ d h. change_member empty held empty latest d ∙ rw (member_empty d))

-- ---- less than the verb says

or_nothing : (s : ℕ) → s < 2 ^ devices → (union s empty ≡ s) × (union empty s ≡ s)
or_nothing s h = (
  same_members devices (union s empty) s (union_below devices s empty h (empty_below devices)) h
      (λ d l. member_union s empty d ∙ rw (member_empty d) (or_none (member s d))),
  same_members devices (union empty s) s (union_below devices empty s (empty_below devices) h) h
      (λ d l. member_union empty s d ∙ rw (member_empty d)),
)

told : (b : Bool) (o : ℕ) → o < devices → not (eqb (only_of devices o) (added_by b o)) ≡ b
told false o h = rw (eq-eqb (only_of devices o) (only_of devices o) refl)
told true o h =
    rw (ne_eqb (only_of devices o) empty (λ q. clash (member (only_of devices o) o)
    (member_only_of devices o o h ∙ eq-eqb o o refl) (ap (λ (x : ℕ). member x o) q ∙ member_empty o)))

-- ---- the devices held after it

held_then : (held o d : ℕ) (b : Bool) → d < devices
    → member (differ held (added_by b o)) d ≡ cond (not b && eqb o d) (not (member held d)) (member held d)
held_then held o d b h = member_differ held (added_by b o) d ∙ rw (added_member b o d h)

module _ (held o d : ℕ) (ds : List ℕ) (h : d < devices) where
  taken : member held d ≡ has d ds
      → member (differ held (added_by (has o ds) o)) d ≡ has d (o ∷ ds)
  unfolding has
  taken e = held_then held o d (has o ds) h ∙ rw e (go (test (eqb o d)))
    where
      go : (eqb o d ≡ true) ⊎ (eqb o d ≡ false)
          → cond (not (has o ds) && eqb o d) (not (has d ds)) (has d ds) ≡ (eqb d o || has d ds)
      go (inl q) = rw (← eqb-true o d q, eq-eqb o o refl) (same (has o ds))
        where
          same : (b : Bool) → cond (not b && true) (not b) b ≡ true
          same true = refl
          same false = refl
      go (inr q) = rw (q, ne_eqb d o (λ z. eqb-false o d q (sym z))) (same (has o ds))
        where
          same : (b : Bool) → cond (not b && false) (not (has d ds)) (has d ds) ≡ has d ds
          same true = refl
          same false = refl

  given : member held d ≡ has d (o ∷ ds) → member (differ held (added_by (has o ds) o)) d ≡ has d ds
  unfolding has
  given e = held_then held o d (has o ds) h ∙ rw e (go (test (eqb o d)))
    where
      go : (eqb o d ≡ true) ⊎ (eqb o d ≡ false)
          → cond (not (has o ds) && eqb o d) (not (eqb d o || has d ds)) (eqb d o || has d ds) ≡ has d ds
      go (inl q) = rw (← eqb-true o d q, eq-eqb o o refl) (same (has o ds))
        where
          same : (b : Bool) → cond (not b && true) false true ≡ b
          same true = refl
          same false = refl
      go (inr q) = rw (q, ne_eqb d o (λ z. eqb-false o d q (sym z))) (same (has o ds))
        where
          same : (b : Bool) → cond (not b && false) (not (has d ds)) (has d ds) ≡ has d ds
          same true = refl
          same false = refl

-- ---- the line as a whole

-- the devices held after a line
unfoldable pub held_next : ℕ → List ℕ → List ℕ
held_next n ds = cond (opens n) (device_bits n ∷ ds) (cond (is_give n) (tail ds) ds)

-- it takes again, or gives such a take back
unfoldable pub again_in : ℕ → List ℕ → Bool
again_in n ds = (opens n && has (device_bits n) ds) || (is_give n && has (device_bits n) (tail ds))

pub none_noted : (added : List ℕ) → length added ≡ suc max_lines → Noted [] empty added
unfolding has
none_noted added l = record { long = l; same = λ d h. member_empty d; adds = bare }

-- of the job before, or nothing: b says which
pub noted_or_none : (ds : List ℕ) (held : ℕ) (added : List ℕ) → Noted ds held added → (b : Bool)
    → Noted (cond b ds []) (cond b held empty) added
noted_or_none ds held added w true = w
noted_or_none ds held added w false = none_noted added w.long

module _ (midday : Bool) (n : ℕ) (ds : List ℕ) (held : ℕ) (added : List ℕ) (line : is_line (board_at midday) n ≡ true)
    (w : Noted ds held added) (room : length ds < max_lines)
    (last : is_give n ≡ true → opens n ≡ false → is_last (device_bits n) ds ≡ true) where
  abbrev c : ℕ
  c = change_of n held (get_or added (length ds) 0)

  -- what the notes say: of the line, and of the devices held after it
  abbrev Says : Type 0
  Says = (not (eqb (handled_by n) c) ≡ again_in n ds)
      × Noted (held_next n ds) (differ held c) (set added (suc (length ds)) c)

  -- the device is on the board
  small : (opens n || is_give n) ≡ true → device_bits n < devices
  small h = omega (arith, device_rest (board_at midday) (omega arith) n line h, device_line (board_at midday) n line h)

  kept_long : length (set added (suc (length ds)) c) ≡ suc max_lines
  kept_long = length-set added (suc (length ds)) c ∙ w.long

  takes : opens n ≡ true → Says
  unfolding change_of held_next again_in has
  takes t =
      let b = small (or_left (opens n) (is_give n) t) in
      let g = opens_no_give n t in
      let m = w.same (device_bits n) b in
      let e : c ≡ added_by (has (device_bits n) ds) (device_bits n) =
      rw (t, g) (of_take (device_bits n) held (get_or added (length ds) 0) (has (device_bits n) ds) m) in (
        rw (e, t, g, (or_nothing (only_of devices (device_bits n)) (only_of_below devices (device_bits n))).0)
            (told (has (device_bits n) ds) (device_bits n) b ∙ sym (or_none (has (device_bits n) ds))),
        rw (e, t) (record {
          long = rw e at kept_long;
          same = λ d h. taken held (device_bits n) d ds h (w.same d h);
          adds = more (device_bits n) ds
              (get_or-set_same added (suc (length ds)) (added_by (has (device_bits n) ds) (device_bits n)) 0
              (omega (arith, w.long)))
              (above added (added_by (has (device_bits n) ds) (device_bits n)) (length ds) ds (omega arith) w.adds);
        }),
      )

  others : opens n ≡ false → is_give n ≡ false → Says
  unfolding change_of held_next again_in
  others t g =
      let e : c ≡ empty = rw (t, g) (of_other held (get_or added (length ds) 0)) in (
        rw (e, t, g, (or_nothing empty (empty_below devices)).0) (rw (eq-eqb empty empty refl)),
        rw (e, t, g) (record {
          long = rw e at kept_long;
          same = λ d h. member_differ held empty d ∙ rw (member_empty d) (w.same d h);
          adds = above added empty (length ds) ds (omega arith) w.adds;
        }),
      )

  gives : opens n ≡ false → is_give n ≡ true → Says
  unfolding change_of held_next again_in is_last
  gives t g = go ds w.adds w.same room (last g t) refl
    where
      go : (xs : List ℕ) → Added added xs → ((d : ℕ) → d < devices → member held d ≡ has d xs) → length xs < max_lines
          → is_last (device_bits n) xs ≡ true → ds ≡ xs → Says
      go [] a same few e q = clash false e refl
      go (x ∷ xs) (more y ys z a) same few e q =
          let u : x ≡ device_bits n = sym (eqb-true (device_bits n) x e) in
          let b = small (or_right (opens n) (is_give n) g) in
          let f : c ≡ added_by (has (device_bits n) xs) (device_bits n) =
          rw (t, g, q) (of_give (device_bits n) held (get_or added (suc (length xs)) 0) (has (device_bits n) xs)
          (z ∙ rw u)) in (
            rw (f, t, g, q, (or_nothing (only_of devices (device_bits n)) (only_of_below devices (device_bits n))).1)
                (told (has (device_bits n) xs) (device_bits n) b),
            rw (f, t, g, q) (record {
              long = length-set added (suc (length (x ∷ xs))) (added_by (has (device_bits n) xs) (device_bits n))
                  ∙ w.long;
              same = λ d h. given held (device_bits n) d xs h (rw u at (same d h));
              adds = above added (added_by (has (device_bits n) xs) (device_bits n)) (suc (length xs)) xs (omega arith)
                  a;
            }),
          )

  -- The theorem: the notes tell of a line that breaks nothing whether it takes again, or gives such a take back, and
  -- after it they are those of the devices held then.
  pub says : Says
  says = go (test (opens n)) (test (is_give n))
    where
      go : (opens n ≡ true) ⊎ (opens n ≡ false) → (is_give n ≡ true) ⊎ (is_give n ≡ false) → Says
      go (inl t) g = takes t
      go (inr t) (inl g) = gives t g
      go (inr t) (inr g) = others t g

-- ---- a step of the walk that goes on

held_of : Next → List ℕ
held_of (on held first starter) = held
held_of (bad r) = []

goes_on : Next → Bool
goes_on (on held first starter) = true
goes_on (bad r) = false

-- the line is in its place, a give is of the device taken last, and the devices held are those after it
pub record Went (S : Settings) (n i prev : ℕ) (held held' : List ℕ) : Type 0 where
  pub placed : place_fault S n i prev ≡ none
  pub last : is_give n ≡ true → opens n ≡ false → is_last (device_bits n) (cond (eqb (job n) prev) held []) ≡ true
  pub next : held' ≡ held_next n (cond (eqb (job n) prev) held [])

rule_went : (i n : ℕ) (ds first starter ds' first' starter' : List ℕ)
    → on ds' first' starter' ≡ rule_of i n ds first starter
    → (is_give n ≡ true → opens n ≡ false → is_last (device_bits n) ds ≡ true) × (ds' ≡ held_next n ds)
unfolding rule_of held_next held_of goes_on
rule_went i n ds first starter ds' first' starter' e =
    go (opens n) (is_give n) (is_last (device_bits n) ds) (is_start n)
    (ltb (job n) (operand n) && eqb (get_or starter (operand n) 0) 0) refl refl refl (ap goes_on e) (ap held_of e)
  where
    By : Bool → Bool → Bool → Bool → Bool → Next
    By t g l s b =
        cond t (on (device_bits n ∷ ds) first starter)
        (cond g (cond l (on (tail ds) first starter) (bad (GiveWithoutTake (line_number i))))
        (cond s (cond b (on ds first (set starter (operand n) (line_number i))) (bad (BadStart (line_number i))))
        (on ds first starter)))

    go : (t g l s b : Bool) → opens n ≡ t → is_give n ≡ g → is_last (device_bits n) ds ≡ l
        → true ≡ goes_on (By t g l s b) → ds' ≡ held_of (By t g l s b)
        → (is_give n ≡ true → opens n ≡ false → is_last (device_bits n) ds ≡ true)
        × (ds' ≡ cond t (device_bits n ∷ ds) (cond g (tail ds) ds))
    go true g l s b p q r on-it is = (λ x y. clash (opens n) p y, is)
    go false true true s b p q r on-it is = (λ x y. r, is)
    go false true false s b p q r on-it is = clash true refl (on-it)
    go false false l true true p q r on-it is = (λ x y. clash (is_give n) x q, is)
    go false false l true false p q r on-it is = clash true refl (on-it)
    go false false l false b p q r on-it is = (λ x y. clash (is_give n) x q, is)

pub went : (S : Settings) (n i prev named : ℕ) (early : Bool) (held first starter held' first' starter' : List ℕ)
    → on held' first' starter' ≡ step_of S n i prev named early held first starter → Went S n i prev held held'
unfolding step_of goes_on
went S n i prev named early held first starter held' first' starter' e =
    go (place_fault S n i prev) (held_fault n i prev named early starter) refl e
  where
    go : (x y : Option Refusal) → place_fault S n i prev ≡ x
        → on held' first' starter'
        ≡ unless x
        (unless y
        (rule_of i n (cond (eqb (job n) prev) held [])
        (set first (job n) (cond (eqb (job n) prev) (get_or first (job n) 0) (line_number i))) starter))
        → Went S n i prev held held'
    go (some r) y q f = clash true refl (ap goes_on f)
    go none (some r) q f = clash true refl (ap goes_on f)
    go none none q f =
        let r = rule_went i n (cond (eqb (job n) prev) held [])
        (set first (job n) (cond (eqb (job n) prev) (get_or first (job n) 0) (line_number i))) starter held' first'
        starter' f in
        record { placed = q; last = r.0; next = r.1 }

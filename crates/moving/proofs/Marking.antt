-- The flags of the edited plan, from those of the plan (02, request 2): under the take line by line, at the take and
-- its give by what the job holds there, and elsewhere as they were.
use Prim.Native.Nat.{ℕ, suc, ◌+◌, ◌-◌, ◌^◌, ◌<◌, ◌≤◌}
use mathlib.Core.Bool.{Bool, true, false, cond, not, ◌&&◌}
use mathlib.Core.List.{List}
use mathlib.Core.Logic.{◌⊎◌, inl, inr, ◌≢◌}
use mathlib.Core.Option.{none, some, some-injective}
use mathlib.Core.Path.{◌≡◌, refl, sym, ◌∙◌, ap}
use native.Mathlib.Numerals.{add-one}
use native.Mathlib.Omega.{arith}
use lib.Dec.{eqb}
use lib.ListN.{length, get_or, set, length-set}
use lib.Seq.{get_or-set_same, get_or-set_other, ext_get_or}
use mir.Val.{bool_byte}
use borrow.Author.Tests.{eqb-true, eqb-false}
use Rattle.model.specs.Lists.{up_from, has}
use Rattle.model.specs.Line.{is_take, at, max_lines, held_from}
use Rattle.model.specs.WellFormed.{held_there, Rules}
use Rattle.model.specs.Mate.{device_at, mate}
use Rattle.model.specs.Move.{edited, under}
use Rattle.theory.specs.Outer.{again_at}
use Rattle.theory.specs.Remarked.{names, again_after, open_after}
use Rattle.theory.proofs.Tests.{no_some, test, falsely, le_or_lt}
use Rattle.theory.proofs.Lists.{has_up_from}
use Rattle.theory.proofs.Remarked.{Within, Opened, opened_none, opened_more, opened_some, again_under, again_at_take}
use Rattle.theory.proofs.Remarked.{again_at_mate, again_elsewhere}
use Rattle.mates.specs.Span.{span_of, stop_of}
use Rattle.mates.proofs.Spans.{Spans, spans}
use Rattle.plan.specs.Again.{again_flag, again_flags}
use Rattle.plan.proofs.Again.{length_again, again_flag_lem, again_is}
use Rattle.moving.specs.Tested.{Take}
use Rattle.moving.specs.Marked.{Marked}

-- a flag as the code stores it
byte : (b : Bool) → bool_byte b ≡ cond b 1 0
byte true = refl
byte false = refl

module _ (p : List ℕ) (i device : ℕ) (take : Take p i device) where
  abbrev rules : Rules p
  rules = take.line.well_formed.rules

  abbrev stop : ℕ
  stop = stop_of (span_of p i)

  abbrev q : List ℕ
  q = edited p i device

  small : device < held_from
  small = omega (arith, take.on_board)

  pub span_is : Spans p i (stop_of (span_of p i))
  span_is = spans p rules i take.line.in_plan

  -- the lines after the take and before the span's end are within it
  within : (n : ℕ) → suc i + n < stop → Within p i (suc n)
  within n h = record {
    same_job = λ k a b. span_is.same_job k a (omega arith);
    unmated = λ m e. omega (arith, span_is.mate_at m e);
  }

  -- ---- under the take

  abbrev is_fresh : Bool → Type 0
  is_fresh fresh = fresh ≡ (not (again_at p i) && not (eqb (device_at p i) device))

  -- where the loop stands at line k
  pub record Marks (fresh : Bool) (again : List ℕ) (deep k : ℕ) : Type 0 where
    pub low : suc i ≤ k
    pub high : k ≤ stop
    pub marked : Marked p i device k again
    pub opened : Opened p i fresh (k - suc i) deep

  pub marks_start : (fresh : Bool) (again : List ℕ) → again ≡ again_flags p → Marks fresh again 0 (i + 1)
  marks_start fresh again e =
      let z : suc i - suc i ≡ 0 = omega arith in
      rw add-one (record {
        low = omega arith;
        high = span_is.low;
        marked = record {
          long = ap length e ∙ length_again p;
          under = λ x a b. absurd (omega arith);
          up_to = λ x a. flag_of x (omega (arith, take.line.in_plan, take.line.well_formed.few));
          after = λ x a b. flag_of x b;
        };
        opened = rw z (opened_none p i fresh);
      })
    where
      flag_of : (x : ℕ) → x < max_lines → get_or again x 0 ≡ again_flag p x
      flag_of x h = rw e (again_flag_lem p x h)

  module _ (fresh : Bool) (again : List ℕ) (deep k : ℕ) (m : Marks fresh again deep k) (h : k < stop) where
    in_plan : k < max_lines
    in_plan = omega (arith, h, span_is.high, take.line.well_formed.few)

    here : suc i + (k - suc i) ≡ k
    here = omega (arith, m.low)

    at_line_lem : Within p i (suc (k - suc i))
    at_line_lem = within (k - suc i) (omega (arith, here))

    -- the flag that stands there
    pub was : eqb (get_or again k 0) 1 ≡ again_at p k
    was = rw (m.marked.after k (omega arith) in_plan, ← again_flag_lem p k in_plan)
        (again_is p (again_flags p) k refl in_plan)

    pub none_below : (old : ℕ) → old ≡ device_at p i → (fresh && names (at p k) old) ≡ true → is_take (at p k) ≡ false
        → 1 ≤ deep
    none_below old o =
        rw o (rw here at (opened_some p rules i (k - suc i) take.takes at_line_lem fresh deep m.opened))

    pub few : deep < 2 ^ 64 - 1
    few = omega (arith, m.opened.few, in_plan)

    marked_on : is_fresh fresh → (b : Bool)
        → b ≡ again_after (at p k) (again_at p k) (device_at p i) device fresh deep → (deep' : ℕ)
        → deep' ≡ open_after (at p k) (device_at p i) fresh deep
        → Marks fresh (set again k (bool_byte b)) deep' (k + 1)
    unfolding again_flag
    marked_on f b e deep' d =
        let z : suc k - suc i ≡ suc (k - suc i) = omega (arith, m.low) in
        rw add-one (record {
          low = omega (arith, m.low);
          high = h;
          marked = record {
            long = length-set again k (bool_byte b) ∙ m.marked.long;
            under = λ x a c. go x a c (test (eqb x k));
            up_to = λ x a. get_or-set_other again k x (bool_byte b) 0 (λ y. omega (arith, m.low)) ∙ m.marked.up_to x a;
            after = λ x a c. get_or-set_other again k x (bool_byte b) 0 (λ y. omega arith)
                ∙ m.marked.after x (omega arith) c;
          };
          opened = rw (z, d)
              (rw here at (opened_more p rules i (k - suc i) take.takes at_line_lem fresh deep m.opened));
        })
      where
        new : bool_byte b ≡ cond (again_at q k) 1 0
        new =
            byte b
            ∙ ap (λ (x : Bool). cond x 1 0)
            (e ∙ sym (rw here at (again_under p rules i device take.takes small fresh f (k - suc i) deep at_line_lem
            m.opened)))

        go : (x : ℕ) → i < x → x < suc k → (eqb x k ≡ true) ⊎ (eqb x k ≡ false)
            → get_or (set again k (bool_byte b)) x 0 ≡ cond (again_at q x) 1 0
        go x a c (inl y) =
            rw (eqb-true x k y) (get_or-set_same again k (bool_byte b) 0 (omega (arith, m.marked.long, in_plan)) ∙ new)
        go x a c (inr y) =
            let ne = eqb-false x k y in
            get_or-set_other again k x (bool_byte b) 0 ne ∙ m.marked.under x a (omega (arith, ne))

    -- one line further, with what the code made of it
    pub marks_on : is_fresh fresh → (old : ℕ) → old ≡ device_at p i → (b : Bool)
        → b ≡ again_after (at p k) (eqb (get_or again k 0) 1) old device fresh deep → (deep' : ℕ)
        → deep' ≡ open_after (at p k) old fresh deep → Marks fresh (set again k (bool_byte b)) deep' (k + 1)
    marks_on f old o b e deep' d = marked_on f b (e ∙ rw (o, was)) deep' (d ∙ rw o)

  -- ---- at the take and its give, and elsewhere

  module _ (again : List ℕ) (held : Bool) (e : held ≡ has device (held_there p i))
      (m : Marked p i device stop again) where
    inside : i < max_lines
    inside = omega (arith, take.line.in_plan, take.line.well_formed.few)

    abbrev bit : ℕ
    bit = bool_byte held

    -- a line that is neither the take nor its give nor under it
    elsewhere : (x : ℕ) → x ≢ i → has x (under p i) ≡ false → (mate p i ≡ some x → ⊥) → again_flag q x ≡ again_flag p x
    unfolding again_flag
    elsewhere x n u g = rw (again_elsewhere p i device take.takes small rules x n u g)

    at_take : bit ≡ again_flag q i
    unfolding again_flag
    at_take = byte held ∙ ap (λ (b : Bool). cond b 1 0) (e ∙ sym (again_at_take p i device take.takes small))

    at_mate_lem : (x : ℕ) → mate p i ≡ some x → bit ≡ again_flag q x
    unfolding again_flag
    at_mate_lem x g =
        byte held ∙ ap (λ (b : Bool). cond b 1 0) (e ∙ sym (again_at_mate p i device take.takes small x g))

    not_under : (x : ℕ) → (x ≤ i) ⊎ (stop ≤ x) → has x (under p i) ≡ false
    not_under x s = falsely (has x (under p i)) (λ u. no s (rw span_is.under_is at u))
      where
        no : (x ≤ i) ⊎ (stop ≤ x) → has x (up_from (suc i) (stop - suc i)) ≡ true → ⊥
        no (inl a) u = omega (arith, (has_up_from (suc i) (stop - suc i) x u).0)
        no (inr a) u = omega (arith, (has_up_from (suc i) (stop - suc i) x u).1, span_is.low)

    -- the flags once the take's is stored, line by line; the give's, if there is one, is still to come
    stored : (x : ℕ) → x < max_lines → (mate p i ≡ some x → ⊥) → get_or (set again i bit) x 0 ≡ again_flag q x
    stored x h g = go (test (eqb x i)) (le_or_lt x i) (le_or_lt stop x)
      where
        other : x ≢ i → get_or again x 0 ≡ again_flag q x → get_or (set again i bit) x 0 ≡ again_flag q x
        other n f = get_or-set_other again i x bit 0 n ∙ f

        go : (eqb x i ≡ true) ⊎ (eqb x i ≡ false) → (x ≤ i) ⊎ (i < x) → (stop ≤ x) ⊎ (x < stop)
            → get_or (set again i bit) x 0 ≡ again_flag q x
        go (inl y) a b =
            rw (eqb-true x i y) (get_or-set_same again i bit 0 (omega (arith, m.long, inside)) ∙ at_take)
        go (inr y) (inl a) b =
            let n = eqb-false x i y in other n (m.up_to x a ∙ sym (elsewhere x n (not_under x (inl a)) g))
        go (inr y) (inr a) (inl b) =
            let n = eqb-false x i y in other n (m.after x b h ∙ sym (elsewhere x n (not_under x (inr b)) g))
        go (inr y) (inr a) (inr b) = other (eqb-false x i y) (m.under x a b)

    long : (x y : ℕ) → length (set again x y) ≡ max_lines
    long x y = length-set again x y ∙ m.long

    -- the whole list, where the take lasts
    pub all_kept : mate p i ≡ none → set again i bit ≡ again_flags q
    all_kept g =
        ext_get_or 0 (set again i bit) (again_flags q) (long i bit ∙ sym (length_again q))
        (λ x h. let b : x < max_lines = omega (arith, long i bit) in
        stored x b (λ y. no_some (sym g ∙ y)) ∙ sym (again_flag_lem q x b))

    -- and where it is given back
    pub all_given : (n : ℕ) → mate p i ≡ some n → set (set again i bit) n bit ≡ again_flags q
    all_given n g =
        ext_get_or 0 (set (set again i bit) n bit) (again_flags q) (two ∙ sym (length_again q))
        (λ x h. let b : x < max_lines = omega (arith, two) in go x b (test (eqb x n)) ∙ sym (again_flag_lem q x b))
      where
        two : length (set (set again i bit) n bit) ≡ max_lines
        two = length-set (set again i bit) n bit ∙ long i bit

        go : (x : ℕ) → x < max_lines → (eqb x n ≡ true) ⊎ (eqb x n ≡ false)
            → get_or (set (set again i bit) n bit) x 0 ≡ again_flag q x
        go x h (inl y) =
            let z = eqb-true x n y in
            rw z (get_or-set_same (set again i bit) n bit 0 (omega (arith, long i bit)) ∙ at_mate_lem n g)
        go x h (inr y) =
            let ne = eqb-false x n y in
            get_or-set_other (set again i bit) n x bit 0 ne
            ∙ stored x h (λ f. ne (some-injective x n (sym f ∙ g)))

-- How many undone lines take a device: one less where such a line is done, and at most one exactly if a line that takes
-- it is the only one. The code's counts are these numbers, and its scarce devices those with at most one. The code
-- takes lines as they count, of which the takes are the outermost ones (02, request 2).
use Rattle.std.proofs.Common.{◌≡◌, ℕ, zero, suc, ◌+◌, ◌-◌, ◌<◌, ◌≤◌, Bool, true, false, cond, not, ◌||◌, ◌&&◌, List, []}
use Rattle.std.proofs.Common.{◌∷◌, ◌++◌, ◌⊎◌, inl, inr, refl, sym, ◌∙◌, ap, mod-eq_of_lt, arith, add-one, eqb, leb, ltb}
use Rattle.std.proofs.Common.{length, get_or, set, length-set, replicate, get_or-set_same, get_or-set_other, eqb-true}
use Rattle.std.proofs.Common.{eq-eqb, ne_eqb, le-leb, leb-true, lt-ltb, le-ltb}
use Rattle.std.proofs.Math.ListN.{get_or-replicate}
use borrow.Author.Tests.{eqb-false, lt-leb, not-true}
use Rattle.std.specs.Int.{from_bool}
use Rattle.model.specs.Lists.{any, has}
use Rattle.model.specs.Sets.{empty, union, member}
use Rattle.model.specs.Line.{at, is_take, operand, max_lines}
use Rattle.model.specs.Mate.{takes_at, device_at, takes}
use Rattle.model.specs.Handed.{undone, alone}
use Rattle.model.specs.WellFormed.{WellFormed}
use Rattle.model.specs.Board.{devices, board}
use Rattle.theory.specs.Outer.{again_at, plain_at}
use Rattle.theory.proofs.Tests.{clash, test, falsely, tests_agree, or_left, or_right, and_split, and_both, and_second}
use Rattle.theory.proofs.Tests.{and_right, and_true, le_or_lt}
use Rattle.theory.proofs.Lists.{any_none, none_any, left, left_zero, left_none, left_same, left_one, left_all}
use Rattle.theory.proofs.Sets.{member_union, member_empty}
use Rattle.theory.proofs.Outer.{plain_operand, plain_take}
use Rattle.theory.proofs.Claims.{outermost}
use Rattle.rows.proofs.Counted.{taken_operand}
use Rattle.theory.proofs.Progress.{has_undone, undone_has, device_below}
use Rattle.theory.proofs.LineByLine.{more_new, has_other, more_not, not_more}
use Rattle.line.proofs.Ranges.{or_none}
use Rattle.sets.specs.Only.{only_of}
use Rattle.sets.proofs.Members.{member_only_if}
use Rattle.verdict.specs.declared.waiting.Waiting.{Waiting}
use Rattle.verdict.specs.Waiting.{slot, takes_one, added, tallied, scarce_if, scarce_below, counted, settled}
use Rattle.verdict.specs.Waiting.{CanRise, CanFall}

-- ---- undone lines that take a device

-- line k does not want device d any more
unfoldable pub through : List ℕ → List ℕ → ℕ → ℕ → Bool
through p done d k = has k done || not (takes p k d)

unfoldable pub wanted : List ℕ → List ℕ → ℕ → ℕ
unfolding through
wanted p done d = left (through p done d) (length p)

-- a line is done: one less where it takes the device
wanted_step : (p done : List ℕ) (x d : ℕ) → x < length p → has x done ≡ false
    → wanted p done d ≡ from_bool (takes p x d) + wanted p (done ++ (x ∷ [])) d
unfolding wanted through
wanted_step p done x d h e = go (takes p x d) refl
  where
    next : List ℕ
    next = done ++ (x ∷ [])

    others : (k : ℕ) → (k ≡ x → ⊥) → through p done d k ≡ through p next d k
    others k n = ap (λ (b : Bool). b || not (takes p k d)) (has_other k x done n)

    kept : takes p x d ≡ false → (k : ℕ) → (eqb k x ≡ true) ⊎ (eqb k x ≡ false)
        → through p done d k ≡ through p next d k
    kept t k (inl q) = rw (eqb-true k x q, t, more_new x done) (or_right (has x done) true refl)
    kept t k (inr q) = others k (eqb-false k x q)

    go : (b : Bool) → takes p x d ≡ b
        → left (through p done d) (length p) ≡ from_bool b + left (through p next d) (length p)
    go true t = omega (
      arith,
      left_one (through p done d) (through p next d) x (rw (e, t)) (rw (more_new x done)) others (length p) h,
    )
    go false t = omega (
      arith,
      left_same (through p done d) (through p next d) (length p) (λ k l. kept t k (test (eqb k x))),
    )

-- a take is one of its own device
pub takes_own : (p : List ℕ) (i : ℕ) → takes_at p i ≡ true → takes p i (device_at p i) ≡ true
unfolding takes
takes_own p i t =
    and_both (takes_at p i) (eqb (device_at p i) (device_at p i)) t (eq-eqb (device_at p i) (device_at p i) refl)

module _ (p done : List ℕ) (i : ℕ) (line : i < length p) (un : has i done ≡ false) (take : takes_at p i ≡ true) where
  -- nobody else wants the device of an undone take exactly if at most one undone line takes it
  pub alone_wanted : alone p (undone p done) i ≡ leb (wanted p done (device_at p i)) 1
  unfolding alone wanted through
  alone_wanted =
      rw (wanted_step p done i d line un, takes_own p i take)
      (tests_agree (not (any wants (undone p done))) (leb (1 + wanted p next d) 1) no_other nobody)
    where
      d : ℕ
      d = device_at p i

      next : List ℕ
      next = done ++ (i ∷ [])

      wants : ℕ → Bool
      wants k = not (eqb k i) && takes p k d

      no_other : not (any wants (undone p done)) ≡ true → leb (1 + wanted p next d) 1 ≡ true
      no_other e =
          le-leb (1 + wanted p next d) 1
          (omega (arith, left_zero (through p next d) (length p) (λ k h. gone k h (test (has k next)))))
        where
          gone : (k : ℕ) → k < length p → (has k next ≡ true) ⊎ (has k next ≡ false) → through p next d k ≡ true
          gone k h (inl q) = or_left (has k next) (not (takes p k d)) q
          gone k h (inr q) =
              let m = more_not k i done q in
              or_right (has k next) (not (takes p k d))
              (rw (and_second (not (eqb k i)) (takes p k d) (rw (ne_eqb k i m.1))
              (any_none wants (undone p done) (not-true (any wants (undone p done)) e) k
              (undone_has p done k h m.0))))

      nobody : leb (1 + wanted p next d) 1 ≡ true → not (any wants (undone p done)) ≡ true
      nobody e = rw (none_any wants (undone p done) (λ k h. falsely (wants k) (λ a. other k (has_undone p done k h) a)))
        where
          other : (k : ℕ) → (k < length p) × (has k done ≡ false) → wants k ≡ true → ⊥
          other k u a =
              let s = and_split (not (eqb k i)) (takes p k d) a in
              clash (through p next d k)
              (left_none (through p next d) (length p) (omega (arith, leb-true (1 + wanted p next d) 1 e)) k u.0)
              (rw (not_more k i done u.1 (eqb-false k i (not-true (eqb k i) s.0)), s.1))

-- ---- a list of counts, of which one rises or falls by at most one

module _ (xs : List ℕ) (s : ℕ) (h : s < length xs) where
  at_set : (v d : ℕ) → get_or (set xs s v) d 0 ≡ cond (eqb s d) v (get_or xs d 0)
  at_set v d = go (test (eqb s d))
    where
      go : (eqb s d ≡ true) ⊎ (eqb s d ≡ false) → get_or (set xs s v) d 0 ≡ cond (eqb s d) v (get_or xs d 0)
      go (inl q) = let z = eqb-true s d q in rw (q, ← z) (get_or-set_same xs s v 0 h)
      go (inr q) = rw q (get_or-set_other xs s d v 0 (λ y. eqb-false s d q (sym y)))

  risen : (t : Bool) (d : ℕ)
      → get_or (set xs s (get_or xs s 0 + from_bool t)) d 0 ≡ from_bool (t && eqb s d) + get_or xs d 0
  risen t d = at_set (get_or xs s 0 + from_bool t) d ∙ go t (eqb s d) refl
    where
      go : (t b : Bool) → eqb s d ≡ b
          → cond b (get_or xs s 0 + from_bool t) (get_or xs d 0) ≡ from_bool (t && b) + get_or xs d 0
      go true true q = let z = eqb-true s d q in rw z (omega arith)
      go false true q = let z = eqb-true s d q in rw z (omega arith)
      go true false q = omega arith
      go false false q = omega arith

  fallen : (t : Bool) → from_bool t ≤ get_or xs s 0 → (d : ℕ)
      → from_bool (t && eqb s d) + get_or (set xs s (get_or xs s 0 - from_bool t)) d 0 ≡ get_or xs d 0
  fallen t f d =
      ap (λ (n : ℕ). from_bool (t && eqb s d) + n) (at_set (get_or xs s 0 - from_bool t) d)
      ∙ go t f (eqb s d) refl
    where
      go : (t : Bool) → from_bool t ≤ get_or xs s 0 → (b : Bool) → eqb s d ≡ b
          → from_bool (t && b) + cond b (get_or xs s 0 - from_bool t) (get_or xs d 0) ≡ get_or xs d 0
      go true f true q = let z = eqb-true s d q in rw (← z) (omega arith)
      go false f true q = let z = eqb-true s d q in rw (← z) (omega arith)
      go true f false q = omega arith
      go false f false q = omega arith

-- ---- the code's counts

pub tallied_length : (p : List ℕ) (n : ℕ) → length (tallied p n) ≡ devices
unfolding tallied added
tallied_length p zero = refl
tallied_length p (suc n) = length-set (tallied p n) (slot (plain_at p n)) _ ∙ tallied_length p n

module _ (p : List ℕ) (w : WellFormed board p) where
  -- an outermost take's entry is that of its device
  takes_slot : (k d : ℕ) → (is_take (plain_at p k) && eqb (slot (plain_at p k)) d) ≡ takes p k d
  unfolding takes
  takes_slot k d = rw (plain_take p k, plain_operand (again_at p k) (at p k)) (go (takes_at p k) refl)
    where
      go : (t : Bool) → takes_at p k ≡ t → (t && eqb (slot (at p k)) d) ≡ (t && eqb (device_at p k) d)
      go false t = refl
      go true t =
          let own = taken_operand p k (outermost p k t).0 in
          let h = rw own at (device_below board p w k (device_at p k) (takes_own p k t)) in
          let z : slot (at p k) ≡ operand (at p k) = mod-eq_of_lt h in rw (z, own)

  pub tallied_takes : (n d : ℕ) → d < devices → get_or (tallied p n) d 0 ≡ left (through p [] d) n
  unfolding tallied added left through has any
  tallied_takes zero d h = get_or-replicate devices d 0 0 h
  tallied_takes (suc n) d h =
      risen (tallied p n) (slot (plain_at p n)) (omega (arith, tallied_length p n)) (is_take (plain_at p n)) d
      ∙ rw (takes_slot n d, tallied_takes n d h) (go (takes p n d) (left (through p [] d) n))
    where
      go : (b : Bool) (l : ℕ) → from_bool b + l ≡ cond (not b) l (suc l)
      go true l = omega arith
      go false l = omega arith

  pub tallied_small : (n : ℕ) → n ≤ max_lines → CanRise (tallied p n) (plain_at p n)
  tallied_small n h =
      omega (
        arith,
        tallied_takes n (slot (plain_at p n)) (omega arith),
        left_all (through p [] (slot (plain_at p n))) n,
      )

-- ---- the scarce devices

member_scarce : (b : Bool) (d e : ℕ) → e < devices → member (scarce_if b d) e ≡ (b && eqb d e)
unfolding scarce_if
member_scarce b d e h = member_only_if devices b d e h

scarce_below_lem : (counts : List ℕ) (n d : ℕ) → d < devices
    → member (scarce_below counts n) d ≡ (ltb d n && leb (get_or counts d 0) 1)
unfolding scarce_below
scarce_below_lem counts zero d h = member_empty d ∙ sym (rw (le-ltb d 0 (omega arith)))
scarce_below_lem counts (suc n) d h =
    member_union (scarce_below counts n) (scarce_if (few n) n) d
    ∙ rw (scarce_below_lem counts n d h, member_scarce (few n) n d h) (go (test (eqb n d)) (le_or_lt d n))
  where
    few : ℕ → Bool
    few k = leb (get_or counts k 0) 1

    go : (eqb n d ≡ true) ⊎ (eqb n d ≡ false) → (d ≤ n) ⊎ (n < d)
        → ((ltb d n && few d) || (few n && eqb n d)) ≡ (ltb d (suc n) && few d)
    go (inl q) o =
        let z = eqb-true n d q in
        rw (z, le-ltb d d (omega arith), eq-eqb d d refl, lt-ltb d (suc d) (omega arith)) (and_true (few d))
    go (inr q) (inl l) =
        let z = eqb-false n d q in
        rw (q, lt-ltb d n (omega (arith, z)), lt-ltb d (suc n) (omega arith), and_right (few n) false refl)
        (or_none (few d))
    go (inr q) (inr l) = rw (q, le-ltb d n (omega arith), le-ltb d (suc n) (omega arith)) (and_right (few n) false refl)

-- a line is done: its device is scarce now if it was, or if it is a take and at most two lines took it
scarce_now : (t b : Bool) (c n : ℕ) → (b ≡ true → c ≡ from_bool (t && b) + n)
    → (leb (from_bool (t && b) + n) 1 || ((t && leb c 2) && b)) ≡ leb n 1
scarce_now false b c n e = let z : 0 + n ≡ n = omega arith in rw z (or_none (leb n 1))
scarce_now true false c n e =
    let z : 0 + n ≡ n = omega arith in rw (z, and_right (leb c 2) false refl) (or_none (leb n 1))
scarce_now true true c n e = rw (e refl) (go (le_or_lt n 1))
  where
    go : (n ≤ 1) ⊎ (1 < n) → (leb (1 + n) 1 || (leb (1 + n) 2 && true)) ≡ leb n 1
    go (inl h) =
        rw (le-leb (1 + n) 2 (omega arith), le-leb n 1 h) (or_right (leb (1 + n) 1) true refl)
    go (inr h) = rw (lt-leb (1 + n) 1 (omega arith), lt-leb (1 + n) 2 (omega arith), lt-leb n 1 h)

-- ---- what the counts and the scarce devices say after the lines done

pub record Counted (p done counts : List ℕ) (scarce : ℕ) : Type 0 where
  pub long : length counts ≡ devices
  pub counts_are : (d : ℕ) → d < devices → get_or counts d 0 ≡ wanted p done d
  pub scarce_are : (d : ℕ) → d < devices → member scarce d ≡ leb (wanted p done d) 1

module _ {p : List ℕ} (w : WellFormed board p) where
  pub none_counted : Counted p [] (tallied p (length p)) (scarce_below (tallied p (length p)) devices)
  unfolding wanted
  none_counted = record {
    long = tallied_length p (length p);
    counts_are = λ d h. tallied_takes p w (length p) d h;
    scarce_are = λ d h. scarce_below_lem (tallied p (length p)) devices d h
        ∙ rw (lt-ltb d devices h, tallied_takes p w (length p) d h);
  }

  module _ {done counts : List ℕ} {scarce : ℕ} (c : Counted p done counts scarce) {x : ℕ} (l : x < length p)
      (u : has x done ≡ false) where
    abbrev s : ℕ
    s = slot (plain_at p x)

    -- the count of a take that is to do is not nought
    pub can_fall : CanFall counts (plain_at p x)
    can_fall =
        omega (
          arith,
          c.counts_are s (omega arith),
          wanted_step p done x s l u,
          ap from_bool (takes_slot p w x s),
          ap (λ (b : Bool). from_bool (is_take (plain_at p x) && b)) (eq-eqb s s refl),
          ap from_bool (and_true (is_take (plain_at p x))),
        )

    before : (d : ℕ) → d < devices
        → get_or counts d 0 ≡ from_bool (is_take (plain_at p x) && eqb s d) + wanted p (done ++ (x ∷ [])) d
    before d h =
        c.counts_are d h ∙ wanted_step p done x d l u
        ∙ ap (λ (b : Bool). from_bool b + wanted p (done ++ (x ∷ [])) d) (sym (takes_slot p w x d))

    pub one_counted : (wa : Waiting) → wa.scarce ≡ scarce
        → Counted p (done ++ (x ∷ [])) (counted counts (plain_at p x)) (settled counts wa (plain_at p x)).scarce
    unfolding counted settled
    one_counted wa e = record {
      long = length-set counts s (get_or counts s 0 - takes_one (plain_at p x)) ∙ c.long;
      counts_are = λ d h. omega (
        arith,
        before d h,
        fallen counts s (omega (arith, c.long)) (is_take (plain_at p x)) can_fall d,
      );
      scarce_are = λ d h. member_union wa.scarce (scarce_if (is_take (plain_at p x) && leb (get_or counts s 0) 2) s) d
          ∙ rw (
            ap (λ (n : ℕ). member n d) e ∙ c.scarce_are d h
                ∙ ap (λ (n : ℕ). leb n 1) (sym (c.counts_are d h) ∙ before d h),
            member_scarce (is_take (plain_at p x) && leb (get_or counts s 0) 2) s d h,
          )
          (scarce_now (is_take (plain_at p x)) (eqb s d) (get_or counts s 0) (wanted p (done ++ (x ∷ [])) d)
          (λ q. ap (λ (n : ℕ). get_or counts n 0) (eqb-true s d q) ∙ before d h));
    }

-- ---- the loops that count, a step further

pub tallied_none : (p : List ℕ) → replicate devices 0 ≡ tallied p 0
unfolding tallied
tallied_none p = refl

pub tallied_more : (p : List ℕ) (n : ℕ) → tallied p (n + 1) ≡ added (tallied p n) (plain_at p n)
unfolding tallied
tallied_more p n = rw add-one

pub scarce_none : (counts : List ℕ) → 0 ≡ scarce_below counts 0
unfolding scarce_below empty
scarce_none counts = refl

pub scarce_more : (counts : List ℕ) (n : ℕ) → scarce_below counts (n + 1)
    ≡ union (scarce_below counts n) (cond (leb (get_or counts n 0) 1) (only_of devices n) empty)
unfolding scarce_below scarce_if
scarce_more counts n = rw add-one

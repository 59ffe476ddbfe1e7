-- An order from elsewhere (02, request 1): the test of a next step is the rule of 01, "Legal orders"; no entry strays
-- exactly if the entries are a legal order's line numbers, so that any legal order passes and not only the one handed
-- out; and the place found is that of the first entry that goes wrong, past as many entries as the plan has steps at
-- most. Held lines are done from the beginning (02, request 5). Last, what this refuses behind another test, whichever
-- it is.
use Prim.Native.Nat.{ℕ, zero, suc, ◌+◌, ◌<◌, ◌≤◌}
use mathlib.Core.Bool.{Bool, true, false, cond, not, ◌&&◌, ◌||◌}
use mathlib.Core.List.{List, [], ◌∷◌, ◌++◌, append-nil, append_assoc, map}
use mathlib.Core.Logic.{◌⊎◌, inl, inr, ◌↔◌}
use mathlib.Core.Option.{Option, none, some, some-injective, none-ne-some}
use mathlib.Core.Path.{◌≡◌, refl, sym, ◌∙◌, ap, ap₂, subst}
use native.Mathlib.Omega.{arith}
use lib.Dec.{eqb, ltb}
use lib.ListN.{length, length-append, length-map}
use borrow.Author.Tests.{ltb-true, lt-ltb, eq-eqb, not-true}
use Rattle.model.specs.Lists.{up_from, positions, all, has, those}
use Rattle.model.specs.Answers.{refuse_at, first_refusal}
use Rattle.model.specs.Line.{line_number}
use Rattle.model.specs.Mate.{takes_at, device_at, takes, held_at, held_lines, steps}
use Rattle.model.specs.Legal.{precedes, held, MayFollow, Follow, Legal}
use Rattle.model.specs.Judged.{may_follow, stray_after, stray}
use Rattle.model.specs.declared.Refusal.{Refusal}
use Rattle.model.specs.declared.Refusal.TheVariants.{IllegalStep}
use Rattle.theory.specs.Judged.{LegalEntries, Wrong, stops, strays, StrayAt}
use Rattle.theory.proofs.Tests.{clash, no_some, test, falsely, and_split, and_both, and_left, and_right}
use Rattle.theory.proofs.Tests.{and_second, only_if, if_only, tests_agree}
use Rattle.theory.proofs.Lists.{has_left, has_right, has_append, has_position, position_has, all_at, each_all}
use Rattle.theory.proofs.Lists.{not_all, left, left_one, left_all, left_same, among}
use Rattle.theory.proofs.Answers.{none_refuses, not_found}
use Rattle.theory.proofs.Progress.{device_is}
use Rattle.theory.proofs.LineByLine.{more_new, has_other}
use Rattle.theory.proofs.Grips.{has_held, held_has}

-- ---- a next step

module _ (p done : List ℕ) (i : ℕ) where
  -- it takes a device that is held
  abbrev barred : Bool
  barred = takes_at p i && held p done (device_at p i)

  not_barred : (barred ≡ false) ↔ ((d : ℕ) → takes p i d ≡ true → held p done d ≡ false)
  unfolding takes
  not_barred = (to, λ f. from f (test (takes_at p i)))
    where
      own : ℕ
      own = device_at p i

      to : barred ≡ false → (d : ℕ) → takes p i d ≡ true → held p done d ≡ false
      to h d t =
          rw (device_is p i d t) at
          (and_second (takes_at p i) (held p done own) (and_split (takes_at p i) (eqb own d) t).0 h)

      from : ((d : ℕ) → takes p i d ≡ true → held p done d ≡ false) → (takes_at p i ≡ true) ⊎ (takes_at p i ≡ false)
          → barred ≡ false
      from f (inr n) = and_left (takes_at p i) (held p done own) n
      from f (inl t) =
          and_right (takes_at p i) (held p done own)
          (f own (and_both (takes_at p i) (eqb own own) t (eq-eqb own own refl)))

  -- the test passes exactly if the line may follow
  pub may_follow_exactly : (may_follow p done i ≡ true) ↔ MayFollow p done i
  unfolding may_follow
  may_follow_exactly = (to, from)
    where
      ready : ℕ → Bool
      ready k = not (precedes p k i) || has k done

      to : may_follow p done i ≡ true → MayFollow p done i
      to h =
          let a = and_split (ltb i (length p) && not (has i done) && all ready (positions p)) (not barred) h in
          let b = and_split (ltb i (length p) && not (has i done)) (all ready (positions p)) a.0 in
          let c = and_split (ltb i (length p)) (not (has i done)) b.0 in
          record {
            line = ltb-true i (length p) c.0;
            once = not-true (has i done) c.1;
            after = λ k l e. only_if (precedes p k i) (has k done)
                (all_at ready (positions p) k b.1 (position_has p k l)) e;
            free = not_barred.0 (not-true barred a.1);
          }

      from : MayFollow p done i → may_follow p done i ≡ true
      from m = rw (lt-ltb i (length p) m.line, m.once, waited, not_barred.1 m.free)
        where
          waited : all ready (positions p) ≡ true
          waited =
              each_all ready (positions p)
              (λ k h. if_only (precedes p k i) (has k done) (m.after k (has_position p k h)))

-- ---- entry by entry

-- a next step is passed
pub step_passes : (p done : List ℕ) (n i : ℕ) (es : List ℕ) → may_follow p done i ≡ true
    → stray_after p done n (suc i ∷ es) ≡ stray_after p (done ++ (i ∷ [])) (suc n) es
unfolding stray_after
step_passes p done n i es e = rw (e, stray_after)

-- an entry that is no line's that may follow is refused, whatever comes after it
pub entry_refused : (p done : List ℕ) (n e : ℕ) (es : List ℕ)
    → ((i : ℕ) → e ≡ suc i → may_follow p done i ≡ true → ⊥) → stray_after p done n (e ∷ es) ≡ some (suc n)
unfolding stray_after
entry_refused p done n zero es f = refl
entry_refused p done n (suc i) es f = rw (falsely (may_follow p done i) (f i refl), stray_after)

-- what comes after an entry counts only where the entry is a line's that may follow
pub entry_goes_on : (p done : List ℕ) (n e : ℕ) (es fs : List ℕ)
    → ((i : ℕ) → e ≡ suc i → may_follow p done i ≡ true
    → stray_after p (done ++ (i ∷ [])) (suc n) es ≡ stray_after p (done ++ (i ∷ [])) (suc n) fs)
    → stray_after p done n (e ∷ es) ≡ stray_after p done n (e ∷ fs)
unfolding stray_after
entry_goes_on p done n zero es fs f = refl
entry_goes_on p done n (suc i) es fs f = go (test (may_follow p done i))
  where
    go : (may_follow p done i ≡ true) ⊎ (may_follow p done i ≡ false)
        → stray_after p done n (suc i ∷ es) ≡ stray_after p done n (suc i ∷ fs)
    go (inl e) = step_passes p done n i es e ∙ f i refl e ∙ sym (step_passes p done n i fs e)
    go (inr e) = rw (e, stray_after)

-- after the steps of an order what is left is judged on
steps_pass : (p done : List ℕ) (n : ℕ) (o es : List ℕ) → Follow p done o
    → stray_after p done n (map line_number o ++ es) ≡ stray_after p (done ++ o) (n + length o) es
unfolding line_number
steps_pass p done n [] es s = let z : n + 0 ≡ n = omega arith in rw (append-nil, z)
steps_pass p done n (i ∷ o) es s =
    let z : suc n + length o ≡ n + suc (length o) = omega arith in
    step_passes p done n i (map line_number o ++ es) ((may_follow_exactly p done i).1 s.0)
    ∙ steps_pass p (done ++ (i ∷ [])) (suc n) o es s.1
    ∙ ap₂ (λ (d : List ℕ) (k : ℕ). stray_after p d k es) (append_assoc done (i ∷ []) o) z

-- no line is undone: the list ends well
ends_well : (p done : List ℕ) (n : ℕ) → ((i : ℕ) → i < length p → has i done ≡ true) → stray_after p done n [] ≡ none
unfolding stray_after
ends_well p done n h = rw (each_all (among done) (positions p) (λ i m. h i (has_position p i m)))

-- entries that go wrong at once do so at the next position
wrong_next : (p done : List ℕ) (n : ℕ) (es : List ℕ) → Wrong p done es → stray_after p done n es ≡ some (suc n)
unfolding stray_after line_number
wrong_next p done n es (stops i l u) =
    rw (falsely (all (among done) (positions p))
    (λ e. clash (has i done) (all_at (among done) (positions p) i e (position_has p i l)) u))
wrong_next p done n es (strays e rest f) =
    entry_refused p done n e rest (λ i q t. f i q ((may_follow_exactly p done i).0 t))

-- how far the entries after the lines done may follow, and how they end: with every line done, or wrong
data Ends (p done : List ℕ) : List ℕ → Type 0 where
  whole : ((i : ℕ) → i < length p → has i done ≡ true) → Ends p done []
  wrong : (es : List ℕ) → Wrong p done es → Ends p done es

record Judged (p done es : List ℕ) : Type 0 where
  before : List ℕ
  rest : List ℕ
  entries : es ≡ map line_number before ++ rest
  follow : Follow p done before
  ends : Ends p (done ++ before) rest

at_once : (p done es : List ℕ) → Ends p done es → Judged p done es
at_once p done es h = record { before = []; rest = es; entries = refl; follow = tt; ends = rw append-nil h }

judged : (p done es : List ℕ) → Judged p done es
unfolding line_number
judged p done [] = at_once p done [] (go (test (all (among done) (positions p))))
  where
    go : (all (among done) (positions p) ≡ true) ⊎ (all (among done) (positions p) ≡ false) → Ends p done []
    go (inl e) = whole (λ i l. all_at (among done) (positions p) i e (position_has p i l))
    go (inr e) =
        let r = not_all (among done) (positions p) e in
        wrong [] (stops r.0 (has_position p r.0 r.1) r.2)
judged p done (zero ∷ es) = at_once p done (0 ∷ es) (wrong (0 ∷ es) (strays 0 es (λ i e m. omega arith)))
judged p done (suc i ∷ es) = go (test (may_follow p done i)) (judged p (done ++ (i ∷ [])) es)
  where
    go : (may_follow p done i ≡ true) ⊎ (may_follow p done i ≡ false) → Judged p (done ++ (i ∷ [])) es
        → Judged p done (suc i ∷ es)
    go (inl e) j =
        record {
          before = i ∷ j.before;
          rest = j.rest;
          entries = ap {B = List ℕ} (λ l. suc i ∷ l) j.entries;
          follow = ((may_follow_exactly p done i).0 e, j.follow);
          ends = rw append_assoc at j.ends;
        }
    go (inr e) j =
        at_once p done (suc i ∷ es)
        (wrong (suc i ∷ es) (strays (suc i) es (λ k q m. clash (may_follow p done i)
        ((may_follow_exactly p done i).1 (let z : k ≡ i = omega arith in rw z at m)) e)))

-- ---- how far a list can get

-- a step does one line that was undone
pub one_less : (p done : List ℕ) (i : ℕ) → MayFollow p done i
    → left (among done) (length p) ≡ suc (left (among (done ++ (i ∷ []))) (length p))
one_less p done i m =
    left_one (among done) (among (done ++ (i ∷ []))) i m.once (more_new i done) (λ k ne. has_other k i done ne)
    (length p) m.line

pub steps_counted : (p done o : List ℕ) → Follow p done o
    → length o + left (among (done ++ o)) (length p) ≡ left (among done) (length p)
steps_counted p done [] s = rw append-nil (omega arith)
steps_counted p done (i ∷ o) s =
    rw (sym (append_assoc done (i ∷ []) o))
    (omega (arith, one_less p done i s.0, steps_counted p (done ++ (i ∷ [])) o s.1))

-- what is left to do at the beginning are the steps
count_last : (f : ℕ → Bool) (i n : ℕ)
    → length (those f (up_from i (suc n)))
    ≡ cond (f (i + n)) (suc (length (those f (up_from i n)))) (length (those f (up_from i n)))
unfolding those up_from
count_last f i zero = let z : i + 0 ≡ i = omega arith in rw z (go (f i))
  where
    go : (b : Bool) → length {A = ℕ} (elim b [ true ↦ i ∷ [] | false ↦ [] ]) ≡ cond b 1 0
    go true = refl
    go false = refl
count_last f i (suc n) =
    let z : i + suc n ≡ suc i + n = omega arith in rw z (go (f i) (f (suc i + n)) (count_last f (suc i) n))
  where
    go : (a b : Bool)
        → length (those f (up_from (suc i) (suc n)))
        ≡ cond b (suc (length (those f (up_from (suc i) n)))) (length (those f (up_from (suc i) n)))
        → length {A = ℕ} (elim a [
          | true ↦ i ∷ those f (up_from (suc i) (suc n))
          | false ↦ those f (up_from (suc i) (suc n))
        ])
        ≡ cond b
        (suc (length {A = ℕ} (elim a [
          | true ↦ i ∷ those f (up_from (suc i) n)
          | false ↦ those f (up_from (suc i) n)
        ])))
        (length {A = ℕ} (elim a [ true ↦ i ∷ those f (up_from (suc i) n) | false ↦ those f (up_from (suc i) n) ]))
    go true true ih = ap suc ih
    go true false ih = ap suc ih
    go false b ih = ih

left_counted : (f : ℕ → Bool) (n : ℕ) → left f n ≡ length (those (λ k. not (f k)) (up_from 0 n))
unfolding left those up_from
left_counted f zero = refl
left_counted f (suc n) =
    let z : 0 + n ≡ n = omega arith in
    go (f n) (left_counted f n) (rw z at (count_last (λ k. not (f k)) 0 n))
  where
    rest : ℕ
    rest = length (those (λ k. not (f k)) (up_from 0 n))

    go : (b : Bool) → left f n ≡ rest
        → length (those (λ k. not (f k)) (up_from 0 (suc n))) ≡ cond (not b) (suc rest) rest
        → cond b (left f n) (suc (left f n)) ≡ length (those (λ k. not (f k)) (up_from 0 (suc n)))
    go true ih e = ih ∙ sym e
    go false ih e = ap suc ih ∙ sym e

pub steps_left : (p : List ℕ) → left (among (held_lines p)) (length p) ≡ length (steps p)
unfolding steps positions
steps_left p =
    left_same (among (held_lines p)) (held_at p) (length p)
    (λ k h. tests_agree (has k (held_lines p)) (held_at p k) (λ e. (has_held p k e).1) (held_has p k))
    ∙ left_counted (held_at p) (length p)

-- no more than lines
pub steps_few : (p : List ℕ) → length (steps p) ≤ length p
steps_few p = omega (arith, steps_left p, left_all (among (held_lines p)) (length p))

-- ---- the whole list

-- every line is done after an order exactly if every step is in it
module _ (p o : List ℕ) where
  steps_whole : ((i : ℕ) → i < length p → held_at p i ≡ false → has i o ≡ true)
      → (i : ℕ) → i < length p → has i (held_lines p ++ o) ≡ true
  steps_whole w i h = go (test (held_at p i))
    where
      go : (held_at p i ≡ true) ⊎ (held_at p i ≡ false) → has i (held_lines p ++ o) ≡ true
      go (inl e) = has_left i (held_lines p) o (held_has p i e)
      go (inr e) = has_right i (held_lines p) o (w i h e)

  whole_steps : ((i : ℕ) → i < length p → has i (held_lines p ++ o) ≡ true)
      → (i : ℕ) → i < length p → held_at p i ≡ false → has i o ≡ true
  whole_steps w i h n = go (has_append i (held_lines p) o (w i h))
    where
      go : (has i (held_lines p) ≡ true) ⊎ (has i o ≡ true) → has i o ≡ true
      go (inl e) = clash (held_at p i) (has_held p i e).1 n
      go (inr e) = e

-- after a legal order every line is done
pub legal_whole : (p o : List ℕ) → Legal p o → (i : ℕ) → i < length p → has i (held_lines p ++ o) ≡ true
legal_whole p o legal = steps_whole p o legal.whole

module _ (p es : List ℕ) where
  abbrev begun : List ℕ
  begun = held_lines p

  -- a legal order passes, and a first wrong entry is found
  passes : LegalEntries p es → stray p es ≡ none
  unfolding stray
  passes l =
      ap (stray_after p begun 0) (l.numbers ∙ sym (append-nil (map line_number l.order)))
      ∙ steps_pass p begun 0 l.order [] l.legal.steps
      ∙ ends_well p (begun ++ l.order) (0 + length l.order) (legal_whole p l.order l.legal)

  found : (q : ℕ) → StrayAt p es q → stray p es ≡ some q
  unfolding stray
  found q s =
      let z : suc (0 + length s.before) ≡ q = omega (arith, s.counted) in
      ap (stray_after p begun 0) s.entries ∙ steps_pass p begun 0 s.before s.rest s.follow
      ∙ wrong_next p (begun ++ s.before) (0 + length s.before) s.rest s.wrong ∙ ap {B = Option ℕ} some z

  -- entries are a legal order's, or go wrong somewhere
  legal_or_astray : LegalEntries p es ⊎ ((q : ℕ) × StrayAt p es q)
  legal_or_astray = let j = judged p begun es in go j.before j.rest j.entries j.follow j.ends
    where
      go : (before rest : List ℕ) → es ≡ map line_number before ++ rest → Follow p begun before
          → Ends p (begun ++ before) rest → LegalEntries p es ⊎ ((q : ℕ) × StrayAt p es q)
      go before rest e f (whole h) =
          inl (record {
            order = before;
            numbers = e ∙ append-nil (map line_number before);
            legal = record { steps = f; whole = whole_steps p before h };
          })
      go before rest e f (wrong tail h) =
          inr (
            suc (length before),
            record {
              before = before;
              rest = rest;
              entries = e;
              counted = refl;
              follow = f;
              wrong = h;
            },
          )

  -- a position exactly if the entry there is the first that goes wrong, or the list stops there
  pub stray_exactly : (q : ℕ) → (stray p es ≡ some q) ↔ StrayAt p es q
  stray_exactly q = (λ e. to e legal_or_astray, found q)
    where
      to : stray p es ≡ some q → LegalEntries p es ⊎ ((n : ℕ) × StrayAt p es n) → StrayAt p es q
      to e (inl l) = no_some (sym (passes l) ∙ e)
      to e (inr s) =
          subst (λ (n : ℕ). StrayAt p es n) (some-injective s.0 q (sym (found s.0 s.1) ∙ e)) s.1

  -- it is at most one past as many entries as there are steps, thus as there are lines, and at most one past the list
  pub stray_bounds : (q : ℕ) → stray p es ≡ some q → (q ≤ suc (length p)) × (q ≤ suc (length es))
  stray_bounds q e = (
    omega (arith, s.counted, steps_counted p begun s.before s.follow, left_all (among begun) (length p)),
    omega (arith, s.counted, simp (length-append, length-map) at (ap length s.entries)),
  )
    where
      s : StrayAt p es q
      s = (stray_exactly q).0 e

  -- no entry strays exactly if they are a legal order's line numbers
  pub legal_entries_exactly : (stray p es ≡ none) ↔ LegalEntries p es
  legal_entries_exactly = (λ e. to e legal_or_astray, passes)
    where
      to : stray p es ≡ none → LegalEntries p es ⊎ ((q : ℕ) × StrayAt p es q) → LegalEntries p es
      to e (inl l) = l
      to e (inr s) = no_some (sym e ∙ found s.0 s.1)

-- ---- the judge's two tests

-- what a first test and then 15 refuse: what the first refuses; where it passes, the place where the list goes wrong
pub data Reason (x : Option Refusal) (p es : List ℕ) : Refusal → Type 0 where
  first : (r : Refusal) → x ≡ some r → Reason x p es r
  second : (q : ℕ) → x ≡ none → StrayAt p es q → Reason x p es (IllegalStep q)

-- whatever the first test is
module _ (x : Option Refusal) (p es : List ℕ) where
  abbrev tests : List (Option Refusal)
  tests = x ∷ refuse_at IllegalStep (stray p es) ∷ []

  -- they refuse exactly for a reason of theirs
  pub tests_refuse_exactly : (r : Refusal) → (first_refusal tests ≡ some r) ↔ Reason x p es r
  unfolding first_refusal refuse_at
  tests_refuse_exactly r = (to x refl (stray p es) refl, from r)
    where
      to : (f : Option Refusal) → x ≡ f → (s : Option ℕ) → stray p es ≡ s
          → first_refusal (f ∷ refuse_at IllegalStep s ∷ []) ≡ some r → Reason x p es r
      to (some q) e s g h = first r (e ∙ h)
      to none e (some q) g h =
          let z : IllegalStep q ≡ r = some-injective (IllegalStep q) r h in
          subst (λ (t : Refusal). Reason x p es t) z (second q e ((stray_exactly p es q).0 g))
      to none e none g h = absurd (none-ne-some r h)

      from : (r : Refusal) → Reason x p es r → first_refusal tests ≡ some r
      from r (first q e) = rw e
      from r (second q e s) = rw (e, (stray_exactly p es q).1 s)

  -- and pass exactly if the first does and the entries are a legal order's
  pub tests_pass_exactly : (first_refusal tests ≡ none) ↔ ((x ≡ none) × LegalEntries p es)
  unfolding first_refusal refuse_at
  tests_pass_exactly = (
    λ e. (
      none_refuses tests e 0,
      (legal_entries_exactly p es).0 (not_found IllegalStep (stray p es) (none_refuses tests e 1)),
    ),
    λ h. rw (h.0, (legal_entries_exactly p es).1 h.1),
  )

-- A move from a plan without a fault and its own table gives the edited plan and the table that would be worked out
-- afresh, with the count of the places that changed; nothing changes but on the way and under the take, and 14 refuses
-- no such move. So over any list of moves, refused ones among them, plan and table stay right; else no table kept by
-- moves could be trusted. It is so for plans of the morning and for plans taken up at midday, with up to 128 devices; a
-- held line stays as it is, for it is no take. Of any plan and table: 9 and 10 refuse no move, and one to the device
-- that the take has changes nothing.
use Prim.Native.Nat.{ℕ, zero, suc, ◌+◌, ◌<◌, ◌≤◌}
use Rattle.std.specs.Prelude.{Result, Ok, Err}
use mathlib.Core.Bool.{Bool, true, false, cond, not}
use mathlib.Core.List.{List, [], ◌∷◌, ◌++◌}
use mathlib.Core.Logic.{◌⊎◌, inl, inr, ◌≢◌, ◌↔◌}
use mathlib.Core.Option.{Option, none, some, none-ne-some}
use mathlib.Core.Path.{◌≡◌, refl, sym, ◌∙◌, ap, subst}
use native.Mathlib.Omega.{arith}
use lib.Dec.{eqb, leb, ltb}
use lib.ListN.{length, get_or, take, drop, set, length-take, length-set, take-append-drop, get_or-append}
use lib.Seq.{length-take-le, get_or-take, get_or-drop, get_or-set_same, get_or-set_other, drop-set-lt, take_at, drop_at}
use lib.Seq.{ext_get_or, set-get_or}
use borrow.Author.Tests.{eqb-true, eq-eqb, eqb-false, leb-true, leb-false, le-ltb, not-false}
use Rattle.model.specs.Lists.{up_from, positions, has, those, first_of}
use Rattle.model.specs.Sets.{union, union_of}
use Rattle.model.specs.Answers.{number_of, refuse_if, refuse_at, first_refusal, too_short}
use Rattle.model.specs.Line.{Settings, opens, is_held, is_take, is_give, at, line_number, held_from}
use Rattle.model.specs.WellFormed.{Rules, WellFormed, fault}
use Rattle.model.specs.Mate.{device_at}
use Rattle.model.specs.Claims.{successors, own, joined, table, beyond}
use Rattle.model.specs.Move.{edited, may_change, from_last, rejoined, stale, rewritten, changed, asked_at}
use Rattle.model.specs.Move.{is_take_of, move_refusal}
use Rattle.model.specs.Entries.{Outcome, Lent, outcome, moving}
use Rattle.model.specs.declared.Refusal.{Refusal}
use Rattle.model.specs.declared.Refusal.TheVariants.{ListTooShort, NotATake, NoSuchDevice, StaleTable}
use Rattle.theory.specs.Move.{Refused, not_a_take, no_such_device, differing, Accepted, Step}
use Rattle.theory.specs.Move.{refused, accepted, Ask, moved, moved_by, Kept, NearestStale}
use Rattle.theory.proofs.Tests.{falsely, clash, test, or_left, or_neither}
use Rattle.theory.proofs.Lists.{has_none, has_head, has_tail, has_cases, none_exactly}
use Rattle.theory.proofs.Lists.{has_right, first_split, split_first}
use Rattle.theory.proofs.Answers.{all_tests, also, first_each, none_refuses, not_refused, not_found}
use Rattle.theory.proofs.Line.{device_line, take_opens, take_no_held}
use Rattle.theory.specs.Claims.{claim}
use Rattle.theory.proofs.Claims.{claim_is, length_table}
use Rattle.theory.proofs.Line.{take_line}
use Rattle.theory.proofs.WellFormed.{FaultView, broken, fault_view, broken_number, no_fault_exactly}
use Rattle.theory.proofs.Successors.{successor_after}
use Rattle.theory.proofs.Edited.{Alike, edit, edited_same, same_successors, own_elsewhere, edited_well_formed}
use Rattle.theory.specs.Move.{Falls, ends, falls}
use Rattle.theory.proofs.Way.{falls_below, may_change_line, off_take}
use Rattle.theory.proofs.Way.{from_last_falls, from_last_same, from_last_off}

-- ---- a table is determined by the joining

joined_same : (t u places : List ℕ) → ((o : ℕ) → has o places ≡ true → get_or t o 0 ≡ get_or u o 0)
    → joined t places ≡ joined u places
unfolding joined union_of
joined_same t u [] h = refl
joined_same t u (o ∷ os) h = cc (h o (has_head o os), joined_same t u os (λ x m. h x (has_tail x o os m)))

-- what lies beyond a line is the same of tables that have the same for its successors
pub beyond_same : (p t u : List ℕ) (k : ℕ)
    → ((o : ℕ) → has o (successors (at p k) (drop (suc k) p)) ≡ true → get_or t (suc k + o) 0 ≡ get_or u (suc k + o) 0)
    → beyond p t k ≡ beyond p u k
unfolding beyond
beyond_same p t u k h =
    joined_same (drop (suc k) t) (drop (suc k) u) (successors (at p k) (drop (suc k) p))
    (λ o m. get_or-drop (suc k) t o 0 ∙ h o m ∙ sym (get_or-drop (suc k) u o 0))

-- n lines at most are left from line k on
same_claims : (n : ℕ) (p t : List ℕ) → ((k : ℕ) → k < length p → get_or t k 0 ≡ union (own p k) (beyond p t k))
    → (k : ℕ) → length p ≤ k + n → k < length p → get_or t k 0 ≡ claim p k
same_claims zero p t h k le lt = absurd (omega arith)
same_claims (suc n) p t h k le lt =
    h k lt
    ∙ ap (union (own p k)) (beyond_same p t (table p) k
    (λ o m. same_claims n p t h (suc k + o) (omega arith) (successor_after p k o m).0))
    ∙ sym (claim_is p k lt)

-- a list whose sets are joined so is the table, and then a rest
pub table_by_joining : (p t : List ℕ) → length p ≤ length t
    → ((k : ℕ) → k < length p → get_or t k 0 ≡ union (own p k) (beyond p t k)) → take (length p) t ≡ table p
table_by_joining p t long h =
    ext_get_or 0 (take (length p) t) (table p) (length-take-le (length p) t long ∙ sym (length_table p)) entries
  where
    entries : (k : ℕ) → k < length (take (length p) t) → get_or (take (length p) t) k 0 ≡ claim p k
    entries k lt =
        let b : k < length p = omega (arith, length-take-le (length p) t long) in
        get_or-take (length p) t k 0 b ∙ same_claims (length p) p t h k (omega arith) b

-- ---- a plan's own table

module _ (p t : List ℕ) (mine : take (length p) t ≡ table p) where
  pub own_long : length p ≤ length t
  own_long = omega (arith, ap length mine, length-take (length p) t, length_table p)

  own_entry : (k : ℕ) → k < length p → get_or t k 0 ≡ claim p k
  own_entry k h = sym (get_or-take (length p) t k 0 h) ∙ ap (λ (xs : List ℕ). get_or xs k 0) mine

  own_joined : (k : ℕ) → k < length p → get_or t k 0 ≡ rejoined p t k
  unfolding rejoined
  own_joined k h =
      own_entry k h ∙ claim_is p k h
      ∙ ap (union (own p k))
      (beyond_same p (table p) t k (λ o m. sym (own_entry (suc k + o) (successor_after p k o m).0)))

  pub whole : t ≡ table p ++ drop (length p) t
  whole = sym (take-append-drop (length p) t) ∙ ap (λ (xs : List ℕ). xs ++ drop (length p) t) mine

  -- no line that a move may change is stale
  pub none_stale : (i : ℕ) → i < length p → first_of (stale p t) (may_change p i) ≡ none
  unfolding stale
  none_stale i h =
      (none_exactly (stale p t) (may_change p i)).1
      (λ k m. rw (eq-eqb (get_or t k 0) (rejoined p t k) (own_joined k (may_change_line p i h k m))))

-- ---- 14

-- The place of 14 is the nearest stale line of those that the move may change, in the order of the test, and there is
-- one wherever one of them is stale.
pub stale_exactly : (p t : List ℕ) (i k : ℕ)
    → (first_of (stale p t) (may_change p i) ≡ some k) ↔ NearestStale p t i k
stale_exactly p t i k = (to, from)
  where
    to : first_of (stale p t) (may_change p i) ≡ some k → NearestStale p t i k
    to e =
        let r = first_split (stale p t) (may_change p i) k e in
        record { nearer = r.0; others = r.1; split = r.2; is_stale = r.3; fresh = r.4 }

    from : NearestStale p t i k → first_of (stale p t) (may_change p i) ≡ some k
    from s = rw s.split (split_first (stale p t) s.nearer s.others k s.is_stale s.fresh)

-- it is one of those
pub nearest_may_change : (p t : List ℕ) (i k : ℕ) → NearestStale p t i k → has k (may_change p i) ≡ true
nearest_may_change p t i k s = rw s.split (has_right k s.nearer (k ∷ s.others) (has_head k s.others))

-- ---- the sets rewritten along numbers that fall

has_neither : (k x : ℕ) (xs : List ℕ) → has k (x ∷ xs) ≡ false → (k ≡ x → ⊥) × (has k xs ≡ false)
unfolding has
has_neither k x xs h = let r = or_neither (eqb k x) (has k xs) h in (eqb-false k x r.0, r.1)

falls_without : (n k : ℕ) (xs : List ℕ) → Falls n xs → n ≤ k → has k xs ≡ false
falls_without n k xs f h = go (test (has k xs))
  where
    go : (has k xs ≡ true) ⊎ (has k xs ≡ false) → has k xs ≡ false
    go (inl m) = absurd (omega (arith, falls_below n k xs f m))
    go (inr m) = m

module _ (p : List ℕ) where
  pub length_rewritten : (t is : List ℕ) → length (rewritten p t is) ≡ length t
  unfolding rewritten
  length_rewritten t [] = refl
  length_rewritten t (i ∷ is) = length_rewritten (set t i (rejoined p t i)) is ∙ length-set t i (rejoined p t i)

  -- elsewhere they stay
  pub rewritten_off : (t is : List ℕ) (k : ℕ) → has k is ≡ false → get_or (rewritten p t is) k 0 ≡ get_or t k 0
  unfolding rewritten
  rewritten_off t [] k h = refl
  rewritten_off t (i ∷ is) k h =
      let r = has_neither k i is h in
      rewritten_off (set t i (rejoined p t i)) is k r.1 ∙ get_or-set_other t i k (rejoined p t i) 0 r.0

  rewritten_rest : (t is : List ℕ) (b n : ℕ) → Falls b is → b ≤ n → drop n (rewritten p t is) ≡ drop n t
  unfolding rewritten
  rewritten_rest t is b n (ends c) h = refl
  rewritten_rest t is b n (falls c x xs lt f) h =
      rewritten_rest (set t x (rejoined p t x)) xs x n f (omega arith)
      ∙ drop-set-lt n t x (rejoined p t x) (omega arith)

  rejoined_same : (t u : List ℕ) (k : ℕ) → ((s : ℕ) → k < s → get_or t s 0 ≡ get_or u s 0)
      → rejoined p t k ≡ rejoined p u k
  unfolding rejoined
  rejoined_same t u k h = ap (union (own p k)) (beyond_same p t u k (λ o m. h (suc k + o) (omega arith)))

  -- there each is joined from what the list has in the end
  pub rewritten_on : (t is : List ℕ) (n k : ℕ) → Falls n is → n ≤ length t → has k is ≡ true
      → get_or (rewritten p t is) k 0 ≡ rejoined p (rewritten p t is) k
  unfolding rewritten
  rewritten_on t is n k (ends c) h m = has_none k m
  rewritten_on t is n k (falls c x xs lt f) h m =
      go (has_cases k x xs m) (rewritten_on (set t x v) xs x k f (omega (arith, length-set t x v)))
    where
      v : ℕ
      v = rejoined p t x

      above : (s : ℕ) → x < s → get_or t s 0 ≡ get_or (rewritten p (set t x v) xs) s 0
      above s g =
          sym
          (rewritten_off (set t x v) xs s (falls_without x s xs f (omega arith))
          ∙ get_or-set_other t x s v 0 (omega arith))

      go : (k ≡ x) ⊎ (has k xs ≡ true)
          → (has k xs ≡ true → get_or (rewritten p (set t x v) xs) k 0 ≡ rejoined p (rewritten p (set t x v) xs) k)
          → get_or (rewritten p (set t x v) xs) k 0 ≡ rejoined p (rewritten p (set t x v) xs) k
      go (inl z) ih =
          rw z
          (rewritten_off (set t x v) xs x (falls_without x x xs f (omega arith))
          ∙ get_or-set_same t x v 0 (omega arith)
          ∙ rejoined_same t (rewritten p (set t x v) xs) x above)
      go (inr z) ih = ih z

-- ---- the table of an edited plan

-- along the numbers of `is`, from a plan's own table: all lines whose own claims differ are among them, and with a line
-- all those that have it for a successor
module _ (p q t : List ℕ) (mine : take (length p) t ≡ table p) (alike : Alike p q) (is : List ℕ)
    (fall : Falls (length p) is)
    (off : (k o : ℕ) → has o (successors (at p k) (drop (suc k) p)) ≡ true → has k is ≡ false
    → has (suc k + o) is ≡ false)
    (owned : (k : ℕ) → has k is ≡ false → own q k ≡ own p k) where
  abbrev sets' : List ℕ
  sets' = rewritten q t is

  sets_joined : (k : ℕ) → k < length p → get_or sets' k 0 ≡ union (own q k) (beyond q sets' k)
  unfolding rejoined beyond
  sets_joined k h = go (test (has k is))
    where
      go : (has k is ≡ true) ⊎ (has k is ≡ false) → get_or sets' k 0 ≡ union (own q k) (beyond q sets' k)
      go (inl m) = rewritten_on q t is (length p) k fall (own_long p t mine) m
      go (inr m) =
          rewritten_off q t is k m ∙ own_joined p t mine k h
          ∙ rw (owned k m, same_successors p q alike k)
          (ap (union (own p k)) (beyond_same p t sets' k (λ o x. sym (rewritten_off q t is (suc k + o) (off k o x m)))))

  -- the sets rewritten are the table of the edited plan, and then the rest
  pub rewritten_is : rewritten q t is ≡ table q ++ drop (length p) t
  rewritten_is =
      sym (take-append-drop (length p) sets')
      ∙ ap (λ (xs : List ℕ). xs ++ drop (length p) sets') front
      ∙ ap (λ (xs : List ℕ). table q ++ xs) (rewritten_rest q t is (length p) (length p) fall (omega arith))
    where
      front : take (length p) sets' ≡ table q
      front =
          rw alike.long at
          (table_by_joining q sets' (omega (arith, alike.long, length_rewritten q t is, own_long p t mine))
          (λ k h. sets_joined k (omega (arith, alike.long))))

-- the sets that a move leaves
pub sets_are : (p t : List ℕ) (i e : ℕ) → Rules p → take (length p) t ≡ table p → is_take (at p i) ≡ true
    → e < held_from
    → rewritten (edited p i e) t (from_last p i) ≡ table (edited p i e) ++ drop (length p) t
sets_are p t i e rules mine taken small =
    rewritten_is p (edited p i e) t mine (edit p i e taken small).alike (from_last p i)
    (from_last_falls p rules i (take_line p i taken)) (from_last_off p rules i)
    (λ k m. let r = off_take p rules i k m in own_elsewhere p rules i e k taken small r.0 r.1)

-- ---- the tests of a move

pub data TestView (S : Settings) (p : List ℕ) (line device : ℕ) : Option Refusal → Type 0 where
  passes : is_take_of p line ≡ true → device < S.devices → TestView S p line device none
  refuses : (r : Refusal) → Refused S p line device r → TestView S p line device (some r)

pub asked_take : (p : List ℕ) (line : ℕ) → is_take_of p line ≡ true → is_take (at p (asked_at line)) ≡ true
unfolding is_take_of asked_at
asked_take p zero h = clash false h refl
asked_take p (suc i) h = h

-- the device of a take is one of the board's
pub taken_device : (S : Settings) (p : List ℕ) (i : ℕ) → WellFormed S p → is_take (at p i) ≡ true
    → device_at p i < S.devices
unfolding device_at
taken_device S p i w t =
    device_line S (at p i) (w.lines i (take_line p i t))
    (or_left (opens (at p i)) (is_give (at p i)) (take_opens (at p i) t))

-- the tests that are left, by their outcomes
refused_by : ℕ → ℕ → Bool → Bool → Option ℕ → Option Refusal
refused_by line device is_take' no_device old =
    first_refusal
    (refuse_if (not is_take') (NotATake line)
    ∷ refuse_if no_device (NoSuchDevice device)
    ∷ refuse_at (λ k. StaleTable (line_number k)) old
    ∷ [])

module _ (S : Settings) (p t : List ℕ) (line device : ℕ) (w : WellFormed S p) (mine : take (length p) t ≡ table p) where
  tests_left : move_refusal S p t line device
      ≡ refused_by line device (is_take_of p line) (leb S.devices device)
      (first_of (stale p t) (may_change p (asked_at line)))
  unfolding move_refusal refused_by first_refusal too_short refuse_if
  tests_left = rw ((no_fault_exactly S p).1 w, le-ltb (length t) (length p) (own_long p t mine))

  -- 14 refuses no such move, nor do 2 to 7, 11, 16 and 17
  pub test_view : TestView S p line device (move_refusal S p t line device)
  unfolding refused_by first_refusal refuse_if refuse_at
  test_view = rw tests_left (go (is_take_of p line) (leb S.devices device) refl refl)
    where
      i : ℕ
      i = asked_at line

      go : (x y : Bool) → is_take_of p line ≡ x → leb S.devices device ≡ y
          → TestView S p line device (refused_by line device x y (first_of (stale p t) (may_change p i)))
      go false y a b = refuses (NotATake line) (not_a_take a)
      go true true a b = refuses (NoSuchDevice device) (no_such_device a (leb-true S.devices device b))
      go true false a b =
          rw (none_stale p t mine i (take_line p i (asked_take p line a))) (passes a (leb-false S.devices device b))

-- a held line is not moved, whatever stands in the table: 12
pub held_refused : (S : Settings) (p t : List ℕ) (line device : ℕ) → WellFormed S p → length p ≤ length t
    → is_held (at p (asked_at line)) ≡ true → move_refusal S p t line device ≡ some (NotATake line)
unfolding move_refusal first_refusal too_short refuse_if
held_refused S p t line device w room h =
    rw (
      (no_fault_exactly S p).1 w,
      le-ltb (length t) (length p) room,
      falsely (is_take_of p line)
          (λ a. clash (is_held (at p (asked_at line))) h
          (take_no_held (at p (asked_at line)) (asked_take p line a))),
    )

-- ---- the tests of any move

abbrev pub tests : Settings → List ℕ → List ℕ → Option Refusal → ℕ → ℕ → List (Option Refusal)
tests S p t room line device =
    fault S p
    ∷ room
    ∷ refuse_if (not (is_take_of p line)) (NotATake line)
    ∷ refuse_if (leb S.devices device) (NoSuchDevice device)
    ∷ refuse_at (λ k. StaleTable (line_number k)) (first_of (stale p t) (may_change p (asked_at line)))
    ∷ []

-- a refusal, if there is one, is neither 9 nor 10
abbrev NoVerdict : Option Refusal → Type 0
NoVerdict none = Unit {0}
NoVerdict (some r) = (number_of r ≢ 9) × (number_of r ≢ 10)

if_no_verdict : (b : Bool) (r : Refusal) → NoVerdict (some r) → NoVerdict (refuse_if b r)
unfolding refuse_if
if_no_verdict true r v = v
if_no_verdict false r v = tt

stale_no_verdict : (o : Option ℕ) → NoVerdict (refuse_at (λ k. StaleTable (line_number k)) o)
unfolding refuse_at
stale_no_verdict none = tt
stale_no_verdict (some k) = (λ e. omega arith, λ e. omega arith)

fault_no_verdict : (S : Settings) (p : List ℕ) → NoVerdict (fault S p)
fault_no_verdict S p = go (fault S p) (fault_view S p)
  where
    go : (x : Option Refusal) → FaultView S p x → NoVerdict x
    go none v = tt
    go (some r) (broken s h) = either s (broken_number S p s h)
      where
        either : (s : Refusal) → (number_of s ≤ 7) ⊎ ((16 ≤ number_of s) × (number_of s ≤ 17))
            → (number_of s ≢ 9) × (number_of s ≢ 10)
        either s (inl n) = (λ e. omega arith, λ e. omega arith)
        either s (inr n) = (λ e. omega (arith, n.0), λ e. omega (arith, n.0))

module _ (S : Settings) (p t : List ℕ) (line device : ℕ) where
  -- 9 and 10 are verdicts, and refuse no move
  pub no_verdict_refuses : (r : Refusal) → move_refusal S p t line device ≡ some r
      → (number_of r ≢ 9) × (number_of r ≢ 10)
  unfolding move_refusal too_short
  no_verdict_refuses r h =
      subst NoVerdict h
      (first_each NoVerdict (tests S p t (too_short (length t) (length p)) line device) tt
      (also (fault_no_verdict S p)
      (also
      (if_no_verdict (ltb (length t) (length p)) (ListTooShort (length p)) (λ e. omega arith, λ e. omega arith))
      (also (if_no_verdict (not (is_take_of p line)) (NotATake line) (λ e. omega arith, λ e. omega arith))
      (also (if_no_verdict (leb S.devices device) (NoSuchDevice device) (λ e. omega arith, λ e. omega arith))
      (also (stale_no_verdict (first_of (stale p t) (may_change p (asked_at line)))) all_tests))))))

  -- where none refuses: the plan has no fault, the line is a take, no line that may change is stale
  pub tests_passed : move_refusal S p t line device ≡ none
      → (fault S p ≡ none) × (is_take_of p line ≡ true) × (first_of (stale p t) (may_change p (asked_at line)) ≡ none)
  unfolding move_refusal
  tests_passed h =
      let e = none_refuses (tests S p t (too_short (length t) (length p)) line device) h in (
        e 0,
        not_refused (is_take_of p line) (NotATake line) (e 2),
        not_found (λ k. StaleTable (line_number k)) (first_of (stale p t) (may_change p (asked_at line))) (e 4),
      )

-- ---- how many places changed

differing_self : (xs : List ℕ) → differing xs xs ≡ 0
unfolding differing
differing_self [] = refl
differing_self (x ∷ xs) = rw (eq-eqb x x refl) (differing_self xs)

-- lists that go on the same differ in front
differing_front : (xs ys rest : List ℕ) → length xs ≡ length ys → differing (xs ++ rest) (ys ++ rest) ≡ differing xs ys
unfolding differing
differing_front [] [] rest e = differing_self rest
differing_front [] (y ∷ ys) rest e = absurd (omega arith)
differing_front (x ∷ xs) [] rest e = absurd (omega arith)
differing_front (x ∷ xs) (y ∷ ys) rest e = cc (differing_front xs ys rest (omega arith))

-- the places counted, where a test from place a on says at which they differ
counted : (f : ℕ → Bool) (xs ys : List ℕ) (a : ℕ) → length xs ≡ length ys
    → ((k : ℕ) → k < length xs → f (a + k) ≡ not (eqb (get_or xs k 0) (get_or ys k 0)))
    → length (those f (up_from a (length xs))) ≡ differing xs ys
unfolding differing those up_from
counted f [] ys a e h = refl
counted f (x ∷ xs) [] a e h = absurd (omega arith)
counted f (x ∷ xs) (y ∷ ys) a e h = go (eqb x y) first (counted f xs ys (suc a) (omega arith) later)
  where
    first : f a ≡ not (eqb x y)
    first = let z : a + 0 ≡ a = omega arith in rw z at (h 0 (omega arith))

    later : (k : ℕ) → k < length xs → f (suc a + k) ≡ not (eqb (get_or xs k 0) (get_or ys k 0))
    later k lt = let z : a + suc k ≡ suc a + k = omega arith in rw z at (h (suc k) (omega arith))

    go : (b : Bool) → f a ≡ not b → length (those f (up_from (suc a) (length xs))) ≡ differing xs ys
        → length {A = ℕ}
        (elim (f a) [
          | true ↦ a ∷ those f (up_from (suc a) (length xs))
          | false ↦ those f (up_from (suc a) (length xs))
        ])
        ≡ cond b (differing xs ys) (suc (differing xs ys))
    go true z ih = rw z ih
    go false z ih = rw z (ap suc ih)

-- the count of a move is that of the whole lists
changed_is : (p t u old new rest : List ℕ) → t ≡ old ++ rest → u ≡ new ++ rest → length old ≡ length p
    → length new ≡ length p → changed p t u ≡ differing u t
unfolding changed positions
changed_is p t u old new rest x y e h =
    rw (x, y, ← h)
    (counted (λ k. not (eqb (get_or (new ++ rest) k 0) (get_or (old ++ rest) k 0))) new old 0 (h ∙ sym e) inside
    ∙ sym (differing_front new old rest (h ∙ sym e)))
  where
    inside : (k : ℕ) → k < length new
        → not (eqb (get_or (new ++ rest) (0 + k) 0) (get_or (old ++ rest) (0 + k) 0))
        ≡ not (eqb (get_or new k 0) (get_or old k 0))
    inside k lt =
        let z : 0 + k ≡ k = omega arith in
        rw (z, get_or-append new rest 0 k lt, get_or-append old rest 0 k (omega arith))

-- ---- a move

-- what a move answers and leaves, by what its tests answer
abbrev pub tested : List ℕ → List ℕ → ℕ → ℕ → Option Refusal → Outcome (Result ℕ Refusal) Lent
tested p t i device x =
    let plan : List ℕ = edited p i device in
    let sets : List ℕ = rewritten plan t (from_last p i) in
    outcome Err x (Ok (changed p t sets))
    (record { plan = plan; sets = sets }) (record { plan = p; sets = t })

module _ (S : Settings) (p t : List ℕ) (line device : ℕ) (w : WellFormed S p) (small : S.devices ≤ held_from)
    (mine : take (length p) t ≡ table p) where
  pub accepts : is_take_of p line ≡ true → device < S.devices
      → Accepted S p t line device (tested p t (asked_at line) device none)
  unfolding outcome
  accepts a b = record {
    plan = refl;
    long = n;
    no_fault = (no_fault_exactly S q).1 (edited_well_formed S p i device w taken b small);
    afresh = new;
    room = length_rewritten q t (from_last p i);
    elsewhere = λ k m. rewritten_off q t (from_last p i) k (from_last_same p w.rules i k ∙ m);
    count = ap Ok (changed_is p t (rewritten q t (from_last p i)) (table p) (table q)
        (drop (length p) t) (whole p t mine) new (length_table p) (length_table q ∙ n));
  }
    where
      i : ℕ
      i = asked_at line

      q : List ℕ
      q = edited p i device

      taken : is_take (at p i) ≡ true
      taken = asked_take p line a

      n : length q ≡ length p
      n = (edit p i device taken (omega arith)).alike.long

      new : rewritten q t (from_last p i) ≡ table q ++ drop (length p) t
      new = sets_are p t i device w.rules mine taken (omega arith)

  -- from a plan without a fault and its own table: a move that no test refuses
  pub move_accepted : move_refusal S p t line device ≡ none → Accepted S p t line device (moving S p t line device)
  unfolding moving
  move_accepted h = go (move_refusal S p t line device) h (test_view S p t line device w mine)
    where
      go : (x : Option Refusal) → x ≡ none → TestView S p line device x
          → Accepted S p t line device (tested p t (asked_at line) device x)
      go none e (passes a b) = accepts a b
      go (some r) e v = absurd (none-ne-some r (sym e))

  -- and any move
  pub move_step : Step S p t line device (moving S p t line device)
  unfolding moving outcome
  move_step = go (move_refusal S p t line device) (test_view S p t line device w mine)
    where
      go : (x : Option Refusal) → TestView S p line device x
          → Step S p t line device (tested p t (asked_at line) device x)
      go none (passes a b) = accepted (accepts a b)
      go (some r) (refuses x y) =
          refused (record { refusal = x; reason = y; answer = refl; plan = refl; sets = refl })

-- ---- a move to the device that the take has

-- sets are rewritten to what they are where none of them is stale
rewritten_same : (p t is : List ℕ) → ((k : ℕ) → has k is ≡ true → stale p t k ≡ false) → rewritten p t is ≡ t
unfolding rewritten stale
rewritten_same p t [] h = refl
rewritten_same p t (i ∷ is) h =
    ap (λ (u : List ℕ). rewritten p u is) (ap (set t i) (sym fresh) ∙ set-get_or t i 0)
    ∙ rewritten_same p t is (λ k m. h k (has_tail k i is m))
  where
    fresh : get_or t i 0 ≡ rejoined p t i
    fresh = eqb-true (get_or t i 0) (rejoined p t i)
        (not-false (eqb (get_or t i 0) (rejoined p t i)) (h i (has_head i is)))

none_changed : (p t : List ℕ) → changed p t t ≡ 0
unfolding changed those
none_changed p t = ap length (go (positions p))
  where
    go : (is : List ℕ) → those (λ i. not (eqb (get_or t i 0) (get_or t i 0))) is ≡ []
    go [] = refl
    go (i ∷ is) = rw (eq-eqb (get_or t i 0) (get_or t i 0) refl, those) (go is)

module _ (S : Settings) (p t : List ℕ) (line device : ℕ) (present : device_at p (asked_at line) ≡ device) where
  same_plan : Rules p → is_take_of p line ≡ true → edited p (asked_at line) device ≡ p
  same_plan rules a = rw (← present) (edited_same p rules (asked_at line) (asked_take p line a))

  -- where no test refuses, it changes nothing
  pub same_device_stays : move_refusal S p t line device ≡ none
      → moving S p t line device ≡ record { answer = Ok 0; left = record { plan = p; sets = t } }
  unfolding moving outcome
  same_device_stays h =
      let v = tests_passed S p t line device h in
      let rules = ((no_fault_exactly S p).0 v.0).rules in
      let f = (none_exactly (stale p t) (may_change p i)).0 v.2 in
      rw (
        h,
        same_plan rules v.1,
        rewritten_same p t (from_last p i)
            (λ k m. f k (sym (from_last_same p rules i k) ∙ m)),
        none_changed p t,
      )
    where
      i : ℕ
      i = asked_at line

  -- and none does, from a plan without a fault and its own table, where the line is a take
  pub same_device_passes : WellFormed S p → take (length p) t ≡ table p → is_take_of p line ≡ true
      → move_refusal S p t line device ≡ none
  same_device_passes w mine a = go (move_refusal S p t line device) (test_view S p t line device w mine)
    where
      taken : is_take (at p (asked_at line)) ≡ true
      taken = asked_take p line a

      on_board : device < S.devices
      on_board = rw (← present) (taken_device S p (asked_at line) w taken)

      go : (x : Option Refusal) → TestView S p line device x → x ≡ none
      go none v = refl
      go (some r) (refuses s (not_a_take b)) = clash (is_take_of p line) a b
      go (some r) (refuses s (no_such_device b h)) = absurd (omega (arith, on_board))

-- ---- a list of moves

pub moved_last : (S : Settings) (s : Lent) (asks : List Ask) (a : Ask)
    → moved_by S s (asks ++ (a ∷ [])) ≡ moved S (moved_by S s asks) a
unfolding moved_by
moved_last S s [] a = refl
moved_last S s (b ∷ asks) a = moved_last S (moved S s b) asks a

module _ (S : Settings) (small : S.devices ≤ held_from) where
  kept : (first s : Lent) → fault S s.plan ≡ none → length s.plan ≡ length first.plan
      → s.sets ≡ table s.plan ++ drop (length first.plan) first.sets → Kept S first s
  kept first s f n e = record {
    no_fault = f;
    long = n;
    afresh = e;
    next = λ a. move_step S s.plan s.sets a.line a.device ((no_fault_exactly S s.plan).0 f) small mine;
  }
    where
      mine : take (length s.plan) s.sets ≡ table s.plan
      mine =
          let n : ℕ = length s.plan in
          rw e (take_at (table s.plan) (drop (length first.plan) first.sets) n (length_table s.plan))

  kept_moved : (first s : Lent) (a : Ask) → Kept S first s → Kept S first (moved S s a)
  unfolding moved
  kept_moved first s a k = go (k.next a)
    where
      o : Outcome (Result ℕ Refusal) Lent
      o = moving S s.plan s.sets a.line a.device

      rest : drop (length s.plan) s.sets ≡ drop (length first.plan) first.sets
      rest =
          let n : ℕ = length s.plan in
          rw k.afresh
          (drop_at (table s.plan) (drop (length first.plan) first.sets) n (length_table s.plan))

      go : Step S s.plan s.sets a.line a.device o → Kept S first (moved S s a)
      go (refused u) =
          kept first (moved S s a) (rw u.plan k.no_fault) (rw u.plan k.long)
          (rw (u.plan, u.sets) k.afresh)
      go (accepted c) = kept first (moved S s a) c.no_fault (c.long ∙ k.long) (rw rest at c.afresh)

  keeps_on : (first s : Lent) (asks : List Ask) → Kept S first s → Kept S first (moved_by S s asks)
  unfolding moved_by
  keeps_on first s [] k = k
  keeps_on first s (a ∷ asks) k = keeps_on first (moved S s a) asks (kept_moved first s a k)

  -- The theorem: over any list of moves, refused ones among them, plan and table stay right.
  pub moves_keep : (s : Lent) (asks : List Ask) → fault S s.plan ≡ none
      → take (length s.plan) s.sets ≡ table s.plan → Kept S s (moved_by S s asks)
  moves_keep s asks f e = keeps_on s s asks (kept s s f refl (whole s.plan s.sets e))

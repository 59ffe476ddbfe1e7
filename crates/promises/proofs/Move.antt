-- What follows from what `move_claim` promises, `MovesAs` (01, "Moving a claim" and "How tight the statements are"): a
-- refusal exactly in a listed case, with nothing changed, nor does a move to the present device change anything; 9 and
-- 10 refuse none; a move changes sets on the way and under the take alone, and none before the way's end; from a plan
-- without a fault and its own table, an accepted move leaves what would be worked out afresh, with the count of the
-- sets that differ; and so on over any list of moves (demand 3).
use Prim.Native.Nat.{ℕ, ◌<◌, ◌≤◌}
use Rattle.std.specs.Prelude.{Result, Ok, Err}
use mathlib.Core.Bool.{Bool, true, false, not}
use mathlib.Core.List.{List, [], ◌∷◌}
use mathlib.Core.Logic.{◌≢◌, ◌↔◌}
use mathlib.Core.Option.{Option, none, some, none-ne-some}
use mathlib.Core.Path.{◌≡◌, refl, sym, ◌∙◌, ap, subst}
use native.Mathlib.Omega.{arith}
use lib.Dec.{leb}
use lib.ListN.{length, get_or, drop}
use lib.Seq.{take_at}
use borrow.Author.Tests.{leb-true, leb-false, le-leb, lt-leb}
use Rattle.model.specs.Lists.{has, over, first_of, last_or}
use Rattle.model.specs.Answers.{number_of, refuse_if, refuse_at, first_refusal}
use Rattle.model.specs.Line.{Settings, line_number, held_from}
use Rattle.model.specs.Mate.{device_at}
use Rattle.model.specs.WellFormed.{WellFormed, fault}
use Rattle.model.specs.Claims.{table}
use Rattle.model.specs.Move.{edited, way, may_change, from_last, stale, rewritten, changed, asked_at, is_take_of}
use Rattle.model.specs.Move.{move_refusal}
use Rattle.model.specs.Entries.{Outcome, Lent, moving}
use Rattle.model.specs.declared.Refusal.{Refusal}
use Rattle.model.specs.declared.Refusal.TheVariants.{NotATake, NoSuchDevice, StaleTable}
use Rattle.theory.specs.WellFormed.{Broken}
use Rattle.theory.specs.Move.{differing, Accepted, Step, refused, accepted, Ask, moved, moved_by, Kept}
use Rattle.theory.proofs.WellFormed.{fault_exactly, no_fault_exactly}
use Rattle.theory.proofs.Claims.{length_table}
use Rattle.theory.proofs.Answers.{one_answer}
use Rattle.theory.proofs.Line.{take_line}
use Rattle.theory.proofs.Way.{way_ends, before_last_kept, from_last_same}
use Rattle.theory.proofs.Move.{asked_take, stale_exactly, tests_passed, move_step, rewritten_off, length_rewritten}
use Rattle.theory.proofs.Move.{own_long, no_verdict_refuses, same_device_stays, same_device_passes, moves_keep}
use Rattle.promises.specs.Outcome.{Refuses}
use Rattle.promises.specs.Table.{OwnTable}
use Rattle.promises.specs.Verdict.{Decided}
use Rattle.promises.specs.Move.{MovesAs, NotMoved, not_a_take, no_such_device, stale_table, NoMove}
use Rattle.promises.specs.Move.{Afresh, Moved, not_moved, is_moved, Moves, none_asked, one_more, StaysRight}
use Rattle.promises.proofs.Tight.{the_outcome}
use Rattle.promises.proofs.Outcome as one
use Rattle.promises.proofs.Outcome.{Entry, counts, not_both, Came, kept, passed}
use Rattle.promises.proofs.Table.{tables_as}
use Rattle.promises.proofs.Verdict.{decided}

-- ---- the listed cases

module _ (S : Settings) (p t : List ℕ) (line device : ℕ) where
  abbrev pub rest : List (Option Refusal)
  rest =
      refuse_if (not (is_take_of p line)) (NotATake line) ∷ refuse_if (leb S.devices device) (NoSuchDevice device)
      ∷ refuse_at (λ k. StaleTable (line_number k)) (first_of (stale p t) (may_change p (asked_at line))) ∷ []

  -- the tests after that of the room, by their outcomes
  rest_by : Bool → Bool → Option ℕ → Option Refusal
  rest_by taken off old =
      first_refusal
      (refuse_if (not taken) (NotATake line) ∷ refuse_if off (NoSuchDevice device)
      ∷ refuse_at (λ k. StaleTable (line_number k)) old ∷ [])

  pub not_moved_exactly : (r : Refusal) → (first_refusal rest ≡ some r) ↔ NotMoved S p t line device r
  unfolding first_refusal refuse_if refuse_at rest_by
  not_moved_exactly r = (
    to (is_take_of p line) (leb S.devices device) (first_of (stale p t) (may_change p i)) refl refl refl,
    from r,
  )
    where
      i : ℕ
      i = asked_at line

      to : (b c : Bool) (o : Option ℕ) → is_take_of p line ≡ b → leb S.devices device ≡ c
          → first_of (stale p t) (may_change p i) ≡ o → rest_by b c o ≡ some r → NotMoved S p t line device r
      to false c o x y z e = let s : r ≡ NotATake line = cc in rw s (not_a_take x)
      to true true o x y z e =
          let s : r ≡ NoSuchDevice device = cc in rw s (no_such_device x (leb-true S.devices device y))
      to true false (some k) x y z e =
          let s : r ≡ StaleTable (line_number k) = cc in
          rw s (stale_table k x (leb-false S.devices device y) ((stale_exactly p t i k).0 z))
      to true false none x y z e = absurd (none-ne-some r e)

      from : (r : Refusal) → NotMoved S p t line device r → first_refusal rest ≡ some r
      from r (not_a_take x) = rw x
      from r (no_such_device x h) = rw (x, le-leb S.devices device h)
      from r (stale_table k x h s) = rw (x, lt-leb S.devices device h, (stale_exactly p t i k).1 s)

-- ---- for every plan, table, line and device

abbrev pub entry : (S : Settings) (p t : List ℕ) (line device : ℕ)
    → Entry (Result ℕ Refusal) Lent (WellFormed S p) (Broken S p) (NotMoved S p t line device)
entry S p t line device =
    let plan : List ℕ = edited p (asked_at line) device in
    let sets : List ℕ = rewritten plan t (from_last p (asked_at line)) in
    record {
      answers = counts;
      fault = fault S p;
      rest = rest S p t line device;
      sound = no_fault_exactly S p;
      broken = fault_exactly S p;
      beyond = λ w. not_moved_exactly S p t line device;
      room = length t;
      needed = length p;
      count = changed p t sets;
      new = record { plan = plan; sets = sets };
      lent = record { plan = p; sets = t };
    }

module _ (S : Settings) (p t : List ℕ) (line device : ℕ) where
  abbrev left : List ℕ → List ℕ → Lent
  left p' t' = record { plan = p'; sets = t' }

  -- a refusal exactly in a listed case; it changes nothing
  pub refused_exactly : (a : Result ℕ Refusal) (p' t' : List ℕ) → MovesAs S p t line device a p' t' → (r : Refusal)
      → (a ≡ Err r) ↔ NoMove S p t line device r
  unfolding moving move_refusal
  refused_exactly a p' t' = one.refused_exactly (entry S p t line device) a (left p' t')

  pub refused_leaves : (r : Refusal) (p' t' : List ℕ) → MovesAs S p t line device (Err r) p' t'
      → Refuses (NoMove S p t line device) (left p t) r (left p' t')
  unfolding moving move_refusal
  refused_leaves r p' t' m = one.refused_leaves (entry S p t line device) (Err r) (left p' t') m r refl

  -- a move is never refused by 9 or 10
  pub no_verdict_bars : (r : Refusal) (p' t' : List ℕ) → MovesAs S p t line device (Err r) p' t'
      → (number_of r ≢ 9) × (number_of r ≢ 10)
  unfolding move_refusal
  no_verdict_bars r p' t' m =
      no_verdict_refuses S p t line device r
      ((one.listed_exactly (entry S p t line device) r).1 (refused_leaves r p' t' m).listed)

  -- at lines that the move may not change sets stay what they were, and there are as many as before
  pub elsewhere_stays : (a : Result ℕ Refusal) (p' t' : List ℕ) → MovesAs S p t line device a p' t' → (k : ℕ)
      → has k (may_change p (asked_at line)) ≡ false → get_or t' k 0 ≡ get_or t k 0
  unfolding moving move_refusal
  elsewhere_stays a p' t' m k off = go (one.came (entry S p t line device) a (left p' t') m)
    where
      go : Came (entry S p t line device) a (left p' t') → get_or t' k 0 ≡ get_or t k 0
      go (kept r h e f) = ap (λ (l : Lent). get_or l.sets k 0) f
      go (passed h e f) =
          let rules = ((no_fault_exactly S p).0 (tests_passed S p t line device h).0).rules in
          ap (λ (l : Lent). get_or l.sets k 0) f
          ∙ rewritten_off (edited p (asked_at line) device) t (from_last p (asked_at line)) k
          (from_last_same p rules (asked_at line) k ∙ off)

  pub as_many_sets : (a : Result ℕ Refusal) (p' t' : List ℕ) → MovesAs S p t line device a p' t' → length t' ≡ length t
  unfolding moving move_refusal
  as_many_sets a p' t' m = go (one.came (entry S p t line device) a (left p' t') m)
    where
      go : Came (entry S p t line device) a (left p' t') → length t' ≡ length t
      go (kept r h e f) = ap (λ (l : Lent). length l.sets) f
      go (passed h e f) =
          ap (λ (l : Lent). length l.sets) f
          ∙ length_rewritten (edited p (asked_at line) device) t (from_last p (asked_at line))

  -- so it is at all lines before the way's end
  pub before_running : (a : Result ℕ Refusal) (p' t' : List ℕ) → MovesAs S p t line device a p' t' → (k : ℕ)
      → k < last_or (asked_at line) (way p (asked_at line)) → get_or t' k 0 ≡ get_or t k 0
  before_running a p' t' m k lt = elsewhere_stays a p' t' m k (before_last_kept p (asked_at line) k lt)

  -- a line whose claim is moved is one of the plan
  moved_line : (a : Result ℕ Refusal) (p' t' : List ℕ) → MovesAs S p t line device a p' t' → (n : ℕ)
      → a ≡ Ok n → asked_at line < length p
  unfolding moving move_refusal
  moved_line a p' t' m n q = go (one.came (entry S p t line device) a (left p' t') m)
    where
      go : Came (entry S p t line device) a (left p' t') → asked_at line < length p
      go (kept r h e f) = absurd (not_both counts n r (sym q ∙ e))
      go (passed h e f) =
          take_line p (asked_at line) (asked_take p line (tests_passed S p t line device h).1)

  -- unless a test refuses, a claim moved to where it is counts 0, and all stays
  pub unrefused_stays_put : move_refusal S p t line device ≡ none → device_at p (asked_at line) ≡ device
      → (a : Result ℕ Refusal) (p' t' : List ℕ) → MovesAs S p t line device a p' t'
      → (a ≡ Ok 0) × (p' ≡ p) × (t' ≡ t)
  unrefused_stays_put h present a p' t' m =
      let u = the_outcome one_answer a (left p' t') m in
      let e = same_device_stays S p t line device present h in
      let l = u.1 ∙ ap (λ (o : Outcome (Result ℕ Refusal) Lent). o.left) e in
      let b = u.0 ∙ ap (λ (o : Outcome (Result ℕ Refusal) Lent). o.answer) e in
      (b, ap (λ (x : Lent). x.plan) l, ap (λ (x : Lent). x.sets) l)

-- ---- from a plan without a fault and its own table

module _ (S : Settings) (small : S.devices ≤ held_from) (p t : List ℕ) (line device : ℕ)
    (own : OwnTable S p t) where
  -- a move is refused by 12 or 13 and changes nothing, or leaves what would be worked out afresh
  pub moves_right : (a : Result ℕ Refusal) (p' t' : List ℕ) → MovesAs S p t line device a p' t'
      → Moved S p t line device a p' t'
  unfolding over
  moves_right a p' t' m = go (move_step S p t line device own.sound small own.own)
    where
      o : Outcome (Result ℕ Refusal) Lent
      o = moving S p t line device

      same : (a ≡ o.answer) × (record { plan = p'; sets = t' } ≡ o.left)
      same = the_outcome one_answer a (record { plan = p'; sets = t' }) m

      plan_is : p' ≡ o.left.plan
      plan_is = ap (λ (l : Lent). l.plan) same.1

      sets_are : t' ≡ o.left.sets
      sets_are = ap (λ (l : Lent). l.sets) same.1

      afresh : Accepted S p t line device o → Afresh S p t line device (differing o.left.sets t) p' t'
      afresh c = record {
        plan = plan_is ∙ c.plan;
        sound = sound;
        tables = tables_as S p' t t' sound (omega (arith, long, own_long p t own.own))
            (sets_are ∙ c.afresh ∙ rw (← plan_is, length_table p', long));
        elsewhere = elsewhere_stays S p t line device a p' t' m;
        running = (
          last_or (asked_at line) (way p (asked_at line)),
          way_ends p own.sound.rules (asked_at line)
              (moved_line S p t line device a p' t' m (differing o.left.sets t) (same.0 ∙ c.count)),
          before_running S p t line device a p' t' m,
        );
        counts = ap (λ (s : List ℕ). differing s t) (sym sets_are);
        verdict = λ lent h b left j.
            subst (λ (q : List ℕ). Decided S q lent b left) (plan_is ∙ c.plan) (decided S p' lent b left j sound h);
      }
        where
          long : length p' ≡ length p
          long = ap length plan_is ∙ c.long

          sound : WellFormed S p'
          sound = rw plan_is ((no_fault_exactly S o.left.plan).0 c.no_fault)

      go : Step S p t line device o → Moved S p t line device a p' t'
      go (refused u) =
          rw (same.0 ∙ u.answer, plan_is ∙ u.plan, sets_are ∙ u.sets) (not_moved u.refusal u.reason)
      go (accepted c) = rw (same.0 ∙ c.count) (is_moved (differing o.left.sets t) p' t' (afresh c))

-- a take moved to the device that it has is never refused: 0, and nothing changes
pub stays_put : (S : Settings) (p t : List ℕ) (line device : ℕ) → OwnTable S p t → is_take_of p line ≡ true
    → device_at p (asked_at line) ≡ device → (a : Result ℕ Refusal) (p' t' : List ℕ) → MovesAs S p t line device a p' t'
    → (a ≡ Ok 0) × (p' ≡ p) × (t' ≡ t)
stays_put S p t line device own taken present =
    unrefused_stays_put S p t line device
    (same_device_passes S p t line device present own.sound own.own taken) present

-- ---- demand 3: any list of moves, refused ones among them

moves_are : (S : Settings) (s v : Lent) (asks : List Ask) → Moves S s asks v → v ≡ moved_by S s asks
unfolding moved_by moved
moves_are S s v asks (none_asked u) = refl
moves_are S s v asks (one_more s' u w a rest answer m ms) =
    moves_are S u w rest ms
    ∙ ap (λ (x : Lent). moved_by S x rest) (the_outcome one_answer answer u m).1

-- The theorem: from a plan without a fault and its own table, after any list of moves, refused ones among them, the
-- plan has no fault, the sets are its own table, and the next move is right.
pub moves_stay_right : (S : Settings) → S.devices ≤ held_from → (s v : Lent) (asks : List Ask)
    → OwnTable S s.plan s.sets → Moves S s asks v → StaysRight S s v
unfolding over
moves_stay_right S small s v asks own ms = record {
  lines = k.long;
  own = mine;
  tables = tables_as S v.plan s.sets v.sets mine.sound
      (omega (arith, k.long, own_long s.plan s.sets own.own))
      (k.afresh ∙ rw (length_table v.plan, k.long));
  next = λ a. moves_right S small v.plan v.sets a.line a.device mine;
}
  where
    k : Kept S s v
    k =
        rw (moves_are S s v asks ms)
        (moves_keep S small s asks ((no_fault_exactly S s.plan).1 own.sound) own.own)

    mine : OwnTable S v.plan v.sets
    mine = record {
      sound = (no_fault_exactly S v.plan).0 k.no_fault;
      own = rw k.afresh
          (take_at (table v.plan) (drop (length s.plan) s.sets) (length v.plan) (length_table v.plan));
    }

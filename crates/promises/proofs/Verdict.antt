-- What follows from what `verdict` promises, `OrdersAs` (01, "Legal orders" and "The order handed out"), of plans of
-- the morning and of those taken up at midday (02, request 5) alike: what an accepted plan's list is left with is a
-- legal order that has each step once; given room for the steps, a plan without a fault is accepted exactly if it has a
-- legal order; 9 and 10 say that it has none; a refusal is given exactly in a listed case, and leaves the list as it
-- was.
use Prim.Native.Nat.{ℕ, ◌≤◌}
use Rattle.std.specs.Prelude.{Result, Ok, Err}
use mathlib.Core.Bool.{Bool, true, false}
use mathlib.Core.List.{List, [], ◌∷◌, ◌++◌, map}
use mathlib.Core.Option.{Option, none, some, none-ne-some}
use mathlib.Core.Path.{◌≡◌, refl, sym, ◌∙◌}
use mathlib.Core.Logic.{◌⊎◌, inl, inr, ◌↔◌}
use native.Mathlib.Omega.{arith}
use lib.ListN.{length}
use Rattle.model.specs.Lists.{has, over}
use Rattle.model.specs.Answers.{number_of, first_refusal}
use Rattle.model.specs.Line.{Settings, line_number}
use Rattle.model.specs.Mate.{held_at, held_lines, steps}
use Rattle.model.specs.Legal.{Follow, Legal}
use Rattle.model.specs.WellFormed.{WellFormed, fault}
use Rattle.model.specs.Handed.{handed}
use Rattle.model.specs.Verdict.{no_order, held_at_end}
use Rattle.model.specs.Entries.{ordering}
use Rattle.model.specs.declared.Refusal.{Refusal}
use Rattle.theory.specs.WellFormed.{Broken}
use Rattle.theory.specs.Verdict.{NoOrder}
use Rattle.theory.proofs.Tests.{clash, falsely}
use Rattle.theory.proofs.Lists.{has_head, has_right}
use Rattle.theory.proofs.Grips.{held_has}
use Rattle.theory.proofs.Places.{When, when}
use Rattle.theory.proofs.WellFormed.{fault_exactly, no_fault_exactly, broken_number}
use Rattle.theory.proofs.Verdict as verdict
use Rattle.theory.proofs.Verdict.{accepted_is_legal, legal_order_exactly, no_legal_order}
use Rattle.promises.specs.Outcome.{faulty, short, further, Refuses}
use Rattle.promises.specs.Verdict.{OrdersAs, NoVerdict, Apart, StepsOnce}
use Rattle.promises.specs.Verdict.{Ordered, Decided, ordered, unordered}
use Rattle.promises.proofs.Outcome as one
use Rattle.promises.proofs.Outcome.{Entry, counts}

-- ---- a legal order has each step once

apart : (p done o : List ℕ) → Follow p done o → Apart o
apart p done [] s = tt
apart p done (x ∷ o) s = (not_again (has x o) refl, apart p (done ++ (x ∷ [])) o s.1)
  where
    not_again : (b : Bool) → has x o ≡ b → has x o ≡ false
    not_again false e = e
    not_again true e =
        let w = when p (done ++ (x ∷ [])) o x s.1 e in
        clash (has x w.then) (w.keeps x (has_right x done (x ∷ []) (has_head x []))) w.follows.once

pub legal_steps_once : (p o : List ℕ) → Legal p o → StepsOnce p o
legal_steps_once p o legal = record {
  below = λ i h. (then i h).follows.line;
  not_held = λ i h. falsely (held_at p i) (λ q. again i (then i h) q);
  each = legal.whole;
  once = apart p (held_lines p) o legal.steps;
}
  where
    then : (i : ℕ) → has i o ≡ true → When p (held_lines p) o i
    then i h = when p (held_lines p) o i legal.steps h

    -- a held line is done before the first step
    again : (i : ℕ) → When p (held_lines p) o i → held_at p i ≡ true → ⊥
    again i w q = clash (has i w.then) (w.keeps i (held_has p i q)) w.follows.once

-- ---- the promises

-- the last test is 9 and 10
sole : (x : Option Refusal) → first_refusal (x ∷ []) ≡ x
unfolding first_refusal
sole none = refl
sole (some r) = refl

-- each exactly for its reason, where the plan has no fault
pub order_refused : (S : Settings) (p : List ℕ) → WellFormed S p → (r : Refusal)
    → (first_refusal (no_order S.devices p ∷ []) ≡ some r) ↔ NoOrder S.devices p r
order_refused S p w r =
    rw (sole (no_order S.devices p)) (verdict.refused_exactly S p ((no_fault_exactly S p).1 w) r)

abbrev pub entry : (S : Settings) (p lent : List ℕ)
    → Entry (Result ℕ Refusal) (List ℕ) (WellFormed S p) (Broken S p) (NoOrder S.devices p)
entry S p lent = record {
  answers = counts;
  fault = fault S p;
  rest = no_order S.devices p ∷ [];
  sound = no_fault_exactly S p;
  broken = fault_exactly S p;
  beyond = order_refused S p;
  room = length lent;
  needed = length (steps p);
  count = held_at_end S.devices p;
  new = over (map line_number (handed p)) lent;
  lent = lent;
}

-- a number from 8 to 15 is not that of something broken in a plan
pub not_broken : (S : Settings) (p : List ℕ) (r : Refusal) → Broken S p r → 8 ≤ number_of r → number_of r ≤ 15 → ⊥
not_broken S p r b low high = go (broken_number S p r b)
  where
    go : (number_of r ≤ 7) ⊎ ((16 ≤ number_of r) × (number_of r ≤ 17)) → ⊥
    go (inl h) = omega arith
    go (inr h) = omega (arith, h.0)

module _ (S : Settings) (p lent : List ℕ) where
  -- a refusal exactly in a listed case; it leaves the list
  pub refused_exactly : (a : Result ℕ Refusal) (left : List ℕ) → OrdersAs S p lent a left → (r : Refusal)
      → (a ≡ Err r) ↔ NoVerdict S p lent r
  unfolding ordering
  refused_exactly = one.refused_exactly (entry S p lent)

  pub refused_leaves : (r : Refusal) (left : List ℕ) → OrdersAs S p lent (Err r) left
      → Refuses (NoVerdict S p lent) lent r left
  unfolding ordering
  refused_leaves r left m = one.refused_leaves (entry S p lent) (Err r) left m r refl

  -- what is handed out is a legal order of each step once
  pub order_is_legal : (n : ℕ) (left : List ℕ) → OrdersAs S p lent (Ok n) left → Ordered S p lent n left
  unfolding ordering held_at_end
  order_is_legal n left m =
      let d = one.done_leaves (entry S p lent) (Ok n) left m n refl in
      let e = sym (sole (no_order S.devices p)) ∙ d.0.2 in
      let legal = accepted_is_legal S p ((no_fault_exactly S p).1 d.0.0) e in
      record {
        order = handed p;
        legal = legal;
        steps_once = legal_steps_once p (handed p) legal;
        written = d.2;
        counted = d.1;
      }

  -- given room for the steps, a plan without a fault is accepted exactly if it has a legal order
  pub accepted_exactly : (a : Result ℕ Refusal) (left : List ℕ) → OrdersAs S p lent a left → fault S p ≡ none
      → length (steps p) ≤ length lent → ((o : List ℕ) × Legal p o) ↔ ((n : ℕ) × (a ≡ Ok n))
  unfolding ordering
  accepted_exactly a left m sound room = (to, from)
    where
      to : (o : List ℕ) × Legal p o → (n : ℕ) × (a ≡ Ok n)
      to l =
          (one.done_exactly (entry S p lent) a left m).1
          ((no_fault_exactly S p).0 sound, room, sole _ ∙ (legal_order_exactly S p sound).0 l)

      from : (n : ℕ) × (a ≡ Ok n) → (o : List ℕ) × Legal p o
      from h = let o = order_is_legal h.0 left (rw h.1 at m) in (o.order, o.legal)

  -- 9 and 10, exactly for their reasons: no order of the plan is legal
  pub no_order_exists : (r : Refusal) (left : List ℕ) → OrdersAs S p lent (Err r) left
      → 9 ≤ number_of r → number_of r ≤ 10 → NoOrder S.devices p r × ((o : List ℕ) → Legal p o → ⊥)
  no_order_exists r left m = go r (refused_leaves r left m).listed
    where
      go : (r : Refusal) → NoVerdict S p lent r → 9 ≤ number_of r → number_of r ≤ 10
          → NoOrder S.devices p r × ((o : List ℕ) → Legal p o → ⊥)
      go r (faulty s b) low high = absurd (not_broken S p s b (omega arith) (omega arith))
      go r (short s h) low high = absurd (omega arith)
      go r (further s w h n) low high = (n, no_legal_order S.devices p w.rules s n)

  -- The verdict on a plan without a fault, given room: a legal order, or 9 or 10 and there is none.
  pub decided : (a : Result ℕ Refusal) (left : List ℕ) → OrdersAs S p lent a left → WellFormed S p
      → length (steps p) ≤ length lent → Decided S p lent a left
  decided (Ok n) left m w room = ordered n left (order_is_legal n left m)
  decided (Err r) left m w room =
      let d = refused_leaves r left m in rw d.leaves (go r d.listed)
    where
      go : (r : Refusal) → NoVerdict S p lent r → Decided S p lent (Err r) lent
      go r (faulty s b) =
          absurd (none-ne-some s (sym ((no_fault_exactly S p).1 w) ∙ (fault_exactly S p s).1 b))
      go r (short s h) = absurd (omega arith)
      go r (further s v h n) = unordered s n (no_legal_order S.devices p v.rules s n)

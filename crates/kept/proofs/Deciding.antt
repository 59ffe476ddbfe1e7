-- The quick verdict by the sets that the code has of a plan (02, request 4): 9 and 10 by the lowest of each.
use Rattle.std.proofs.Common.{◌≡◌, ℕ, ◌<◌, ◌≤◌, Result, Ok, Err, Bool, true, false, List, [], ◌∷◌, refl, sym, ◌∙◌, ap}
use Rattle.std.proofs.Common.{ltb, length, take, length-take-le, ltb-false, lt-ltb, le-ltb}
use Rattle.std.proofs.Math.Option.{Option, none}
use Rattle.model.specs.Board.{devices, board}
use Rattle.model.specs.Answers.{answer_values, refuse_if, first_refusal, too_short}
use Rattle.model.specs.Lists.{up_from, those}
use Rattle.model.specs.Sets.{member, lowest_of}
use Rattle.model.specs.WellFormed.{fault}
use Rattle.model.specs.Verdict.{two_lasting, circle_of}
use Rattle.model.specs.Kept.{lasts_among, lasts_in, held_to_end, held_number, quick_refusal, quick_by, quick}
use Rattle.model.specs.declared.Refusal.{Refusal}
use Rattle.model.specs.declared.Refusal.TheVariants.{ListTooShort, TwoLasting, LeadsBack}
use Rattle.promises.specs.Kept.{QuickAs}
use Rattle.rows.specs.Lasting.{held_twice}
use Rattle.rows.specs.Where.{circles_of}
use Rattle.rows.specs.Holds.{holds_by}
use Rattle.rows.specs.declared.Held.{Held}
use Rattle.rows.proofs.Outcome.{told_fault, told_sets}
use Rattle.rows.proofs.Searched.{two_lasting_at, leads_back_at, held_those}
use Rattle.kept.specs.Keeping.{refuse_lowest, decided}

-- ---- as the code tests it

module _ (rs : List ℕ) (held twice : ℕ) where
  -- 11
  pub rows_short : length rs < devices → Err (ListTooShort devices) ≡ decided rs held twice
  unfolding decided
  rows_short h = rw (lt-ltb (length rs) devices h)

  module _ (room : devices ≤ length rs) {d : ℕ} (q : d ≡ lowest_of devices twice) where
    -- 9
    pub twice_lasting : d < devices → Err (TwoLasting d) ≡ decided rs held twice
    unfolding decided
    twice_lasting h = rw (le-ltb (length rs) devices room, ← q, lt-ltb d devices h)

    module _ (no_9 : devices ≤ d) {e : ℕ} (r : e ≡ lowest_of devices (circles_of (take devices rs))) where
      -- 10
      pub in_circle : e < devices → Err (LeadsBack e) ≡ decided rs held twice
      unfolding decided
      in_circle h =
          rw (le-ltb (length rs) devices room, ← q, le-ltb d devices no_9, ← r, lt-ltb e devices h)

      -- neither
      pub not_refused : devices ≤ e → {n : ℕ} → n ≡ length (those (member held) (up_from 0 devices))
          → Ok n ≡ decided rs held twice
      unfolding decided
      not_refused h m =
          rw (le-ltb (length rs) devices room, ← q, le-ltb d devices no_9, ← r, le-ltb e devices h)
          (ap Ok m)

-- ---- the sets are the plan's

-- what is tested after the room is the same, if it is where there is room
after_room : (lent needed : ℕ) {x y x' y' : Option Refusal} → x ≡ x' → (needed ≤ lent → y ≡ y')
    → first_refusal (too_short lent needed ∷ x ∷ y ∷ []) ≡ first_refusal (too_short lent needed ∷ x' ∷ y' ∷ [])
unfolding first_refusal too_short refuse_if
after_room lent needed {x} {y} {x'} {y'} e f = go (ltb lent needed) refl
  where
    go : (b : Bool) → ltb lent needed ≡ b
        → first_refusal (refuse_if b (ListTooShort needed) ∷ x ∷ y ∷ [])
        ≡ first_refusal (refuse_if b (ListTooShort needed) ∷ x' ∷ y' ∷ [])
    go true t = refl
    go false t =
        ap (λ (o : Option Refusal). first_refusal (o ∷ y ∷ [])) e
        ∙ ap (λ (o : Option Refusal). first_refusal (x' ∷ o ∷ [])) (f (ltb-false lent needed t))

module _ (p rs : List ℕ) where
  tests : first_refusal
      (too_short (length rs) devices ∷ two_lasting devices p ∷ circle_of devices (take devices rs) ∷ [])
      ≡ first_refusal
      (too_short (length rs) devices ∷ refuse_lowest TwoLasting (held_twice devices p)
      ∷ refuse_lowest LeadsBack (circles_of (take devices rs)) ∷ [])
  unfolding refuse_lowest
  tests =
      after_room (length rs) devices (two_lasting_at devices p)
      (λ room. leads_back_at devices (take devices rs) (length-take-le devices rs room))

  number : held_number devices p ≡ length (those (member (held_to_end devices p)) (up_from 0 devices))
  unfolding held_number lasts_in lasts_among
  number = ap length (sym (held_those devices p))

  by_sets : fault board p ≡ none → quick devices p rs ≡ decided rs (held_to_end devices p) (held_twice devices p)
  unfolding quick quick_refusal decided
  by_sets e = rw (e, tests, number)

  -- what the walk back over the plan found
  pub quick_refused : {r : Refusal} → Err r ≡ holds_by (fault board p) p
      → QuickAs p rs (Err r)
  unfolding quick quick_refusal quick_by first_refusal
  quick_refused e = record { answers = rw (told_fault p e) }

  pub quick_decided : {holds : Held} {a : Result ℕ Refusal} → Ok holds ≡ holds_by (fault board p) p
      → a ≡ decided rs holds.held holds.twice → QuickAs p rs a
  quick_decided {a = a} e d =
      let t = told_sets p e in
      let is : a ≡ quick devices p rs = d ∙ rw (t.1, t.2) (sym (by_sets t.0)) in
      record { answers = ap answer_values is }

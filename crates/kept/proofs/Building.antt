-- What `build` answers and leaves, by what its tests found (02, request 4): why lists that are too short are refused,
-- and that each of the three is written over with what is the plan's own.
use Rattle.std.proofs.Common.{◌≡◌, ℕ, ◌≤◌, Result, Ok, Err, Bool, true, false, cond, List, [], ◌∷◌, ◌++◌}
use Rattle.std.proofs.Common.{refl, sym, ◌∙◌, arith, ltb, length, set, drop}
use Rattle.std.proofs.Math.Option.{Option, none, some}
use Rattle.model.specs.Board.{devices, board}
use Rattle.model.specs.Lists.{over}
use Rattle.model.specs.Answers.{refuse_if, first_refusal, too_short}
use Rattle.model.specs.WellFormed.{fault}
use Rattle.model.specs.Rows.{rows}
use Rattle.model.specs.Kept.{Beside, beside_of, over_all, room_for, building}
use Rattle.model.specs.declared.Refusal.{Refusal}
use Rattle.model.specs.declared.Refusal.TheVariants.{ListTooShort}
use Rattle.theory.proofs.WellFormed.{no_fault_exactly}
use Rattle.theory.proofs.OnlyIf.{length_rows}
use Rattle.promises.specs.Kept.{beside, BuildsWith, HasRoom}
use Rattle.promises.proofs.Tight.{by_refusal}
use Rattle.promises.proofs.Kept.{builds_with}
use Rattle.claims.proofs.Written.{whole_table}
use Rattle.rows.specs.Holds.{TabledAs}
use Rattle.rows.specs.declared.Held.{Held}
use Rattle.rows.proofs.Outcome.{told_fault, told_sets}
use Rattle.kept.specs.Keeping.{refused_by}

-- ---- too little room

-- where the first two lists have room, the held set has none
refused_in : (o : Option Refusal) (n sets rs held : ℕ)
    → (ltb sets n ≡ false → ltb rs devices ≡ false → ltb held 1 ≡ true)
    → first_refusal (o ∷ first_refusal (too_short sets n ∷ too_short rs devices ∷ too_short held 1 ∷ []) ∷ [])
    ≡ some (refused_by o n sets rs)
unfolding first_refusal too_short refuse_if
refused_in (some r) n sets rs held h = refl
refused_in none n sets rs held h = go (ltb sets n) (ltb rs devices) (ltb held 1) h
  where
    go : (a b c : Bool) → (a ≡ false → b ≡ false → c ≡ true)
        → first_refusal
        (first_refusal
        (refuse_if a (ListTooShort n) ∷ refuse_if b (ListTooShort devices) ∷ refuse_if c (ListTooShort 1) ∷ []) ∷ [])
        ≡ some (cond a (ListTooShort n) (cond b (ListTooShort devices) (ListTooShort 1)))
    go true b c h = refl
    go false true c h = refl
    go false false c h = rw (h refl refl)

-- ---- each list written over

-- the held set
one_set : (held : List ℕ) (s : ℕ) → 1 ≤ length held → set held 0 s ≡ over (s ∷ []) held
unfolding over
one_set [] s h = absurd (omega arith)
one_set (x ∷ xs) s h = refl

-- ---- the outcomes

module _ (p : List ℕ) (lent : Beside) where
  pub no_room : (ltb (length lent.sets) (length p) ≡ false → ltb (length lent.rows) devices ≡ false
      → ltb (length lent.held) 1 ≡ true)
      → first_refusal (fault board p ∷ room_for devices p lent ∷ [])
      ≡ some (refused_by (fault board p) (length p) (length lent.sets) (length lent.rows))
  unfolding room_for
  no_room h =
      refused_in (fault board p) (length p) (length lent.sets) (length lent.rows) (length lent.held) h

  pub refused_as : {r : Refusal} → first_refusal (fault board p ∷ room_for devices p lent ∷ []) ≡ some r
      → BuildsWith p lent (Err r) lent
  unfolding building
  refused_as {r} e =
      by_refusal Err (Ok (length p)) (over_all (beside_of devices p) lent) lent
      (first_refusal (fault board p ∷ room_for devices p lent ∷ [])) r e

  module _ {rs rs' sets' : List ℕ} {a : Result Held Refusal} (t : TabledAs p rs lent.sets a rs' sets') where
    -- a fault
    pub not_built : {r : Refusal} → a ≡ Err r → BuildsWith p lent (Err r) (beside sets' lent.rows lent.held)
    unfolding first_refusal
    not_built {r} e =
        let f = told_fault p (sym e ∙ t.answers) in
        rw (rw f at t.table_is) (refused_as (rw f))

    -- none
    pub built : {holds : Held} → a ≡ Ok holds → HasRoom p lent
        → BuildsWith p lent (Ok (length p)) (beside sets' (rs' ++ drop devices lent.rows) (set lent.held 0 holds.held))
    unfolding over_all beside_of over
    built {holds} e room =
        let s = told_sets p (sym e ∙ t.answers) in
        let f = s.0 in
        let made : rs' ≡ rows devices p = rw f at t.rows_are in
        builds_with p lent _ ((no_fault_exactly board p).0 f) room
        (rw (
          (rw f at t.table_is) ∙ whole_table p lent.sets room.0,
          made,
          length_rows devices p,
          one_set lent.held holds.held room.2,
          s.1,
        ))

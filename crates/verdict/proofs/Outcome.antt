-- The outcomes of the verdict, by what its tests found (01, "Refusal numbers", and "The order handed out").
use Rattle.std.proofs.Common.{◌≡◌, ℕ, ◌<◌, ◌≤◌, Ok, Err, List, map, length, lt-ltb, le-ltb}
use Rattle.std.proofs.Math.Option.{none, some}
use Rattle.model.specs.Lists.{over}
use Rattle.model.specs.Answers.{refuse_if, first_refusal, too_short}
use Rattle.model.specs.Line.{line_number}
use Rattle.model.specs.WellFormed.{fault}
use Rattle.model.specs.Mate.{steps}
use Rattle.model.specs.Handed.{handed}
use Rattle.model.specs.Verdict.{no_order, held_at_end}
use Rattle.model.specs.Entries.{verdict_refusal, ordering}
use Rattle.model.specs.Board.{devices, board}
use Rattle.model.specs.declared.Refusal.{Refusal}
use Rattle.model.specs.declared.Refusal.TheVariants.{ListTooShort}
use Rattle.theory.proofs.WellFormed.{no_fault_exactly, no_held_in_morning}
use Rattle.theory.proofs.Morning.{all_steps}
use Rattle.promises.specs.Verdict.{OrdersAs}
use Rattle.promises.proofs.Tight.{by_refusal, by_none}

module _ (p lent : List ℕ) where
  refused : (r : Refusal) → verdict_refusal board p lent ≡ some r → OrdersAs board p lent (Err r) lent
  unfolding ordering
  refused r e =
      by_refusal Err (Ok (held_at_end devices p))
      (over (map line_number (handed p)) lent) lent (verdict_refusal board p lent) r e

  -- 2 to 7
  pub faulty : (r : Refusal) → fault board p ≡ some r → OrdersAs board p lent (Err r) lent
  unfolding first_refusal
  faulty r e = refused r (rw e)

  module _ (sound : fault board p ≡ none) where
    -- every line is a step
    lines : length (steps p) ≡ length p
    lines = all_steps p (no_held_in_morning devices p ((no_fault_exactly board p).0 sound))

    -- 11
    pub short : length lent < length p → OrdersAs board p lent (Err (ListTooShort (length p))) lent
    unfolding first_refusal too_short refuse_if
    short h = refused (ListTooShort (length p)) (rw (sound, lines, lt-ltb (length lent) (length p) h))

    module _ (room : length p ≤ length lent) where
      -- 9 and 10
      pub without_order : (r : Refusal) → no_order devices p ≡ some r → OrdersAs board p lent
          (Err r) lent
      unfolding first_refusal too_short refuse_if
      without_order r e = refused r (rw (sound, lines, le-ltb (length lent) (length p) room, e))

      -- the order
      pub ordered : (held : ℕ) (left : List ℕ) → no_order devices p ≡ none → held ≡ held_at_end devices p
          → left ≡ over (map line_number (handed p)) lent → OrdersAs board p lent (Ok held) left
      unfolding ordering first_refusal too_short refuse_if
      ordered held left e h l = rw h
          (by_none Err (Ok (held_at_end devices p))
          (over (map line_number (handed p)) lent) lent (verdict_refusal board p lent) left
          (rw (sound, lines, le-ltb (length lent) (length p) room, e)) l)

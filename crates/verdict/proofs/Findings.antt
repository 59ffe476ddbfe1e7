-- What the verdict is told of a plan, as the definitions say it: 9 and 10 by sets of devices, and how many devices stay
-- held.
use Rattle.std.proofs.Common.{◌≡◌, ℕ, ◌<◌, ◌≤◌, true, false, List, length, Ok, sym, ◌∙◌, ap, ltb, lt-ltb, le-ltb}
use Rattle.std.proofs.Math.Option.{none, some}
use Rattle.model.specs.Line.{max_lines}
use Rattle.model.specs.Lists.{up_from, positions, any, those}
use Rattle.model.specs.Line.{is_held, at}
use Rattle.model.specs.Mate.{lasting as lasts_of, keeps}
use Rattle.model.specs.Sets.{member, lowest_of}
use Rattle.model.specs.Answers.{refuse_if, first_refusal}
use Rattle.model.specs.WellFormed.{fault}
use Rattle.model.specs.Verdict.{no_order, two_lasting, circle, held_at_end}
use Rattle.model.specs.Board.{devices, board}
use Rattle.model.specs.declared.Refusal.TheVariants.{TwoLasting, LeadsBack}
use Rattle.theory.proofs.Lists.{those_same}
use Rattle.theory.proofs.WellFormed.{no_fault_exactly, no_held_in_morning}
use Rattle.theory.proofs.LastingKept.{any_same}
use Rattle.theory.proofs.Morning.{keeps_is, none_hindered}
use Rattle.theory.proofs.OnlyIf.{length_rows}
use Rattle.theory.proofs.Verdict.{held_number_lem, accepted_is_legal}
use Rattle.rows.specs.Where.{circles_of}
use Rattle.rows.specs.Holds.{HoldsAs, rows_of}
use Rattle.rows.specs.Lasting.{lasting_flags}
use Rattle.rows.specs.declared.Held.{Held}
use Rattle.rows.proofs.Outcome.{told_sets}
use Rattle.rows.proofs.Searched.{two_lasting_at, leads_back_at, held_those}
use Rattle.plan.specs.Again.{again_flags}
use Rattle.plan.specs.Jobs.{first_lines}
use Rattle.plan.specs.declared.Notes.{Notes}
use Rattle.verdict.specs.Findings.{Findings}
use Rattle.verdict.specs.Waiting.{is_sound}
use Rattle.verdict.proofs.Steps.{sound_of, sound_is, formed}

-- ---- 9 and 10 by the sets, and how many devices stay held

module _ {p rs : List ℕ} {holds : Held} (s : is_sound p ≡ true) (f : Findings p rs holds) where
  unheld : (i : ℕ) → is_held (at p i) ≡ false
  unheld = no_held_in_morning devices p (formed p s)

  nine : {d : ℕ} → d ≡ lowest_of devices holds.twice → two_lasting devices p ≡ refuse_if (ltb d devices) (TwoLasting d)
  nine e = rw (e, f.twice_are) (two_lasting_at devices p)

  ten : {d : ℕ} → d ≡ lowest_of devices (circles_of rs) → circle devices p ≡ refuse_if (ltb d devices) (LeadsBack d)
  unfolding circle
  ten e = rw (e, f.rows_are) (leads_back_at devices (rows_of p) (length_rows devices p))

  pub two_lasting_lem : {d : ℕ} → d ≡ lowest_of devices holds.twice → d < devices
      → no_order devices p ≡ some (TwoLasting d)
  unfolding no_order first_refusal refuse_if
  two_lasting_lem {d} e h = rw (nine e, lt-ltb d devices h)

  module _ {d e : ℕ} (q : d ≡ lowest_of devices holds.twice) (no_9 : devices ≤ d)
      (r : e ≡ lowest_of devices (circles_of rs)) where
    pub leads_back_lem : e < devices → no_order devices p ≡ some (LeadsBack e)
    unfolding no_order first_refusal refuse_if
    leads_back_lem h = rw (nine q, le-ltb d devices no_9, ten r, lt-ltb e devices h)

    pub has_order : devices ≤ e → no_order devices p ≡ none
    unfolding no_order first_refusal refuse_if
    has_order h =
        rw (nine q, le-ltb d devices no_9, ten r, le-ltb e devices h, none_hindered p unheld devices)

  pub count_held : no_order devices p ≡ none
      → length (those (member holds.held) (up_from 0 devices)) ≡ held_at_end devices p
  count_held e =
      ap (λ (s : ℕ). length (those (member s) (up_from 0 devices))) f.to_end
      ∙ ap length (held_those devices p ∙ those_same (λ d. any (λ i. lasts_of p i d) (positions p))
      (λ d. any (λ i. keeps p i d) (positions p)) (up_from 0 devices)
      (λ d h. any_same (λ i. lasts_of p i d) (λ i. keeps p i d) (positions p) (λ i. sym (keeps_is p unheld i d))))
      ∙ sym (held_number_lem devices p (accepted_is_legal board p (sound_of p s) e))

-- ---- what the search for the holds found

module _ {p rs lasting rs' lasting' : List ℕ} {lent left : Notes} {holds : Held}
    (h : HoldsAs p lent rs lasting (Ok holds) left rs' lasting') where
  sound : fault board p ≡ none
  sound = (told_sets p h.answers).0

  pub is_known : (is_sound p ≡ true) × (left.first ≡ first_lines p) × (left.again ≡ again_flags p)
      × (lasting' ≡ lasting_flags p) × (length p ≤ max_lines)
  is_known = (
    sound_is p sound,
    rw sound at h.firsts_are,
    rw sound at h.agains_are,
    rw sound at h.flags_are,
    ((no_fault_exactly board p).0 sound).few,
  )

  pub are_findings : Findings p rs' holds
  are_findings =
      let t = told_sets p h.answers in
      record { rows_are = rw sound at h.rows_are; to_end = t.1; twice_are = t.2 }

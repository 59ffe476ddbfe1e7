-- The outcome of a move with kept rows (02, request 4), by what the move without rows has left and what is then kept.
use Rattle.std.proofs.Common.{◌≡◌, ℕ, zero, suc, ◌-◌, ◌^◌, ◌<◌, ◌≤◌, Result, Ok, Err, true, false, List, [], ◌∷◌, ◌⊎◌}
use Rattle.std.proofs.Common.{inl, inr, ◌≢◌, refl, sym, ◌∙◌, ap, arith, eqb, length, get_or, eqb-true}
use Rattle.std.proofs.Math.Option.{Option, none, some}
use borrow.Author.Tests.{eqb-false}
use Rattle.model.specs.Board.{devices, board}
use Rattle.model.specs.Lists.{has, over}
use Rattle.model.specs.Line.{job, operand, at}
use Rattle.model.specs.Mate.{device_at, lasting}
use Rattle.model.specs.Sets.{member}
use Rattle.model.specs.WellFormed.{before, held_by, WellFormed, fault}
use Rattle.model.specs.Move.{edited, from_last, rewritten, changed, asked_at, move_refusal}
use Rattle.model.specs.Entries.{Lent, outcome, moving}
use Rattle.model.specs.Kept.{concerned, kept_rows, kept_held}
use Rattle.model.specs.declared.Refusal.{Refusal}
use Rattle.theory.proofs.WellFormed.{no_fault_exactly}
use Rattle.theory.proofs.Tests.{test}
use Rattle.theory.proofs.Line.{line_parts}
use Rattle.theory.proofs.Claims.{takes_line}
use Rattle.theory.proofs.Mate.{pair}
use Rattle.theory.proofs.Places.{lasting_parts}
use Rattle.theory.proofs.Progress.{device_below}
use Rattle.theory.proofs.JobEnds.{lasting_holds, held_alike}
use Rattle.theory.proofs.Edited.{EditOf, edit}
use Rattle.theory.proofs.Move.{length_rewritten, taken_device}
use Rattle.mates.specs.Span.{span_of, stop_of}
use Rattle.mates.proofs.Spans.{Spans, spans}
use Rattle.plan.specs.Again.{again_flags}
use Rattle.plan.specs.Ends.{left_by}
use Rattle.plan.specs.Holdings.{holdings}
use Rattle.plan.specs.Jobs.{first_lines, starters}
use Rattle.plan.proofs.Holdings.{holding_at}
use Rattle.rows.proofs.Counted.{taken_operand}
use Rattle.way.specs.Back.{way_by}
use Rattle.way.specs.Known.{Scanned}
use Rattle.moving.specs.Through.{MovesThrough}
use Rattle.moving.specs.declared.Moved.{Moved}
use Rattle.plan.specs.declared.Notes.{Notes}
use Rattle.moving.proofs.Answers.{told_moved}
use Rattle.moving.proofs.Refusing.{Passes, passes}
use Rattle.moving.proofs.SameScan.{same_firsts}
use Rattle.moving.proofs.Outcome.{last_way, plainly_moved}
use Rattle.promises.specs.Kept.{beside, MovesKeptAs}
use Rattle.promises.proofs.Kept.{met_accepted}
use Rattle.kept.specs.Gathered.{Prepared, Skips}
use Rattle.kept.specs.Keeping.{operand_of, KeepsAs}
use Rattle.kept.proofs.Moved.{rows_kept, held_kept}

-- what was accepted was refused by no test
accepted : (tests : Option Refusal) (a : Result ℕ Refusal) (new lent : Lent) (n : ℕ)
    → Ok n ≡ (outcome Err tests a new lent).answer → tests ≡ none
unfolding outcome
accepted none a new lent n e = refl
accepted (some r) a new lent n e = let z : ◌≡◌ {A = ℕ} 0 1 = cc in absurd (omega arith)

-- plan and table as it leaves them
left_by_lem : (p t : List ℕ) (line device : ℕ) → move_refusal board p t line device ≡ none
    → (moving board p t line device).left
    ≡ record {
      plan = edited p (asked_at line) device;
      sets = rewritten (edited p (asked_at line) device) t (from_last p (asked_at line));
    }
unfolding moving outcome
left_by_lem p t line device e = rw e

asked_operand : (p : List ℕ) (line : ℕ) → 1 ≤ line → operand_of p line ≡ operand (at p (asked_at line))
unfolding asked_at
asked_operand p zero h = absurd (omega arith)
asked_operand p (suc i) h = refl

module _ {p t : List ℕ} {line device : ℕ} {lent : Notes} {answer : Result Moved Refusal} {p' t' : List ℕ} {left : Notes}
    (m : MovesThrough board p t line device lent answer p' t' left) {moved : Moved} (told : answer ≡ Ok moved) where
  none_refuses : move_refusal board p t line device ≡ none
  unfolding moving
  none_refuses =
      let q : List ℕ = edited p (asked_at line) device in
      let u : List ℕ = rewritten q t (from_last p (asked_at line)) in
      accepted (move_refusal board p t line device) (Ok (changed p t u))
      (record { plan = q; sets = u }) (record { plan = p; sets = t }) moved.changed
      (told_moved _ _ moved (sym told ∙ m.answers)).0

  k : Passes false p t line device
  k = passes false p t line device none_refuses

  abbrev i : ℕ
  i = asked_at line

  plan_is : p' ≡ edited p i device
  plan_is = m.plan ∙ ap (λ (l : Lent). l.plan) (left_by_lem p t line device none_refuses)

  sets_are : t' ≡ rewritten (edited p i device) t (from_last p i)
  sets_are = m.sets ∙ ap (λ (l : Lent). l.sets) (left_by_lem p t line device none_refuses)

  stop_is : moved.stop ≡ stop_of (span_of p (line - 1))
  stop_is =
      (told_moved (moving board p t line device).answer (stop_of (span_of p i)) moved (sym told ∙ m.answers)).1
      ∙ ap (λ (x : ℕ). stop_of (span_of p x)) k.position

  no_fault_lem : fault board p ≡ none
  no_fault_lem = (no_fault_exactly board p).1 k.sound

  made_is : (made old : List ℕ) → left_by (fault board p) made old ≡ made
  made_is made old = ap (λ (o : Option Refusal). left_by o made old) no_fault_lem

  edit_is : EditOf p (line - 1) device p'
  edit_is =
      rw (plan_is, k.position)
      (edit p (line - 1) device k.asked.takes (omega (arith, k.asked.on_board)))

  room : length p ≤ length t'
  room =
      omega (
        arith,
        ap length sets_are,
        length_rewritten (edited p (asked_at line) device) t (from_last p (asked_at line)),
        k.room,
      )

  -- the lines under the take end past it
  pub stop_past : 1 ≤ moved.stop
  stop_past =
      omega (
        arith,
        stop_is,
        (spans p k.asked.line.well_formed.rules (line - 1) k.asked.line.in_plan).low,
      )

  pub is_edited : Prepared p' left.again t'
  is_edited = record {
    sound = (no_fault_exactly board p').1 (rw (plan_is, k.position) k.fine);
    agains = m.agains ∙ made_is (again_flags p') lent.again;
    room = omega (arith, edit_is.alike.long, room);
  }

  on_way : way_by p' t' left.starter (moved.stop - 1) ≡ from_last p (line - 1)
  on_way =
      rw (plan_is, k.position, stop_is)
      (last_way false p t line device none_refuses left.first left.starter (again_flags p) t' scanned room)
    where
      scanned : Scanned p left.first left.starter (again_flags p)
      scanned = record {
        well_formed = k.asked.line.well_formed;
        firsts = m.firsts ∙ made_is (first_lines p) lent.first;
        starts = m.starts ∙ made_is (starters p) lent.starter;
        agains = refl;
      }

  -- the last line under the take is of its job
  last_in_job : job (at p' (moved.stop - 1)) ≡ job (at p (line - 1))
  last_in_job = edit_is.alike.jobs (moved.stop - 1) ∙ go (test (eqb (moved.stop - 1) (line - 1)))
    where
      s : Spans p (line - 1) moved.stop
      s = rw stop_is (spans p k.asked.line.well_formed.rules (line - 1) k.asked.line.in_plan)

      go : (eqb (moved.stop - 1) (line - 1) ≡ true) ⊎ (eqb (moved.stop - 1) (line - 1) ≡ false)
          → job (at p (moved.stop - 1)) ≡ job (at p (line - 1))
      go (inl e) = ap (λ (x : ℕ). job (at p x)) (eqb-true (moved.stop - 1) (line - 1) e)
      go (inr e) =
          let n = eqb-false (moved.stop - 1) (line - 1) e in
          s.same_job (moved.stop - 1) (omega (arith, s.low)) (omega (arith, s.low))

  -- a line of another job is as it was
  other_line : (x : ℕ) → job (at p' x) ≢ job (at p' (moved.stop - 1)) → at p' x ≡ at p x
  other_line x n = edit_is.elsewhere x (λ e. n (taken x (ap (λ (y : ℕ). job (at p y)) e)))
      (λ e. n
      (taken x ((pair p (line - 1) x e).same_job x (omega (arith, (pair p (line - 1) x e).below)) (omega arith))))
    where
      taken : (x : ℕ) → job (at p x) ≡ job (at p (line - 1)) → job (at p' x) ≡ job (at p' (moved.stop - 1))
      taken x e = edit_is.alike.jobs x ∙ e ∙ sym last_in_job

  -- what the scan left of the jobs serves the edited plan, but for the take's job
  pub may_skip : Skips p' left.first left.holdings (job (at p' (moved.stop - 1)))
  may_skip = record {
    firsts = m.firsts ∙ made_is (first_lines p) lent.first ∙ sym (same_firsts p p' edit_is.alike);
    among = among';
  }
    where
      w : WellFormed board p'
      w = rw (plan_is, k.position) k.fine

      among' : (x d : ℕ) → lasting p' x d ≡ true → job (at p' x) ≢ job (at p' (moved.stop - 1))
          → member (get_or left.holdings (job (at p' x)) 0) d ≡ true
      among' x d l n =
          let j = job (at p' x) in
          let taken = (lasting_parts p' x d l).0 in
          let small = (line_parts board (at p' x) (w.lines x (takes_line p' x d taken))).1 in
          let same : held_by j (before p' (length p')) ≡ held_by j (before p (length p')) =
          held_alike p' p j (length p') (λ y h. edit_is.alike.jobs y)
          (λ y h e. other_line y (λ q. n (sym e ∙ q))) in
          ap (λ xs. member (get_or xs j 0) d) (m.holds ∙ made_is (holdings p) lent.holdings)
          ∙ holding_at p j d small (device_below board p' w x d taken)
          ∙ ap (λ (y : ℕ). has d (held_by j (before p y))) (sym edit_is.alike.long) ∙ sym (ap (has d) same)
          ∙ lasting_holds p' w.rules x d l

  pub moves_kept : (rs held : List ℕ) (old : ℕ) (rs' held' : List ℕ) → devices ≤ length rs → 1 ≤ length held
      → get_or held 0 0 < 2 ^ devices → old ≡ operand_of p line
      → KeepsAs p' left.starter t' (moved.stop - 1) old device rs held rs' held'
      → MovesKeptAs p t rs held line device (Ok moved.changed) p' t' rs' held'
  moves_kept rs held old rs' held' a b h o keeps =
      rw (rows_are, held_are)
      (met_accepted p (beside t rs held) line device a b moved.changed p' t'
      (plainly_moved false p t line device lent answer p' t' left m moved told))
    where
      old_is : old ≡ device_at p (line - 1)
      old_is =
          o ∙ asked_operand p line k.positive ∙ ap (λ (x : ℕ). operand (at p x)) k.position
          ∙ sym (taken_operand p (line - 1) k.asked.takes)

      old_on_board : old < devices
      old_on_board =
          omega (arith, old_is, taken_device board p (line - 1) k.sound k.asked.takes)

      rows_are : rs' ≡ over (kept_rows devices p' t' (concerned p (asked_at line) device) rs) rs
      rows_are =
          keeps.rows_are
          ∙ rows_kept p p' (line - 1) device k.sound k.asked.takes k.asked.line.in_plan
          edit_is left.starter t' (moved.stop - 1) old on_way old_is rs
          ∙ ap (λ (x : ℕ). over (kept_rows devices p' t' (concerned p x device) rs) rs) (sym k.position)

      held_are : held' ≡ over (kept_held p' (device_at p (asked_at line)) device (get_or held 0 0) ∷ []) held
      held_are =
          keeps.held_is
          ∙ held_kept p' old device old_on_board k.asked.on_board held b h
          ∙ ap (λ (x : ℕ). over (kept_held p' x device (get_or held 0 0) ∷ []) held)
          (old_is ∙ ap (device_at p) (sym k.position))

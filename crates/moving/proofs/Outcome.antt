-- The outcome of a move: refused by its tests, or by what the rewriting leaves.
use Prim.Native.Nat.{ℕ, suc, ◌-◌, ◌%◌, ◌<◌, ◌≤◌}
use Rattle.std.specs.Prelude.{Result, Ok, Err}
use mathlib.Core.Bool.{Bool, not}
use mathlib.Core.List.{List}
use mathlib.Core.Option.{Option, none, some}
use mathlib.Core.Path.{◌≡◌, refl, sym, ◌∙◌, ap}
use native.Mathlib.Omega.{arith}
use lib.Dec.{eqb}
use lib.ListN.{length, get_or}
use Rattle.model.specs.Lists.{positions, last_or}
use Rattle.model.specs.WellFormed.{fault}
use Rattle.model.specs.Move.{edited, way, under, from_last, rewritten, changed, asked_at, move_refusal}
use Rattle.model.specs.Entries.{Lent, outcome, moving}
use Rattle.model.specs.Board.{devices, board_at}
use Rattle.model.specs.declared.Refusal.{Refusal}
use Rattle.promises.specs.Move.{MovesAs}
use Rattle.promises.proofs.Tight.{meets}
use Rattle.theory.proofs.Lists.{those_length}
use Rattle.theory.proofs.Claims.{length_up_from}
use Rattle.theory.proofs.Edited.{Alike, edit}
use Rattle.theory.proofs.WellFormed.{no_fault_exactly}
use Rattle.mates.specs.Span.{span_of, stop_of}
use Rattle.mates.proofs.Spans.{Spans, spans, last_up}
use Rattle.plan.specs.Again.{again_flags}
use Rattle.plan.specs.Ends.{left_by}
use Rattle.plan.specs.Holdings.{holdings}
use Rattle.plan.specs.Jobs.{first_lines, starters}
use Rattle.way.specs.Back.{way_by}
use Rattle.way.specs.Join.{mended_by}
use Rattle.way.specs.Known.{Scanned, Known}
use Rattle.way.proofs.Kept.{way_known, mended_known}
use Rattle.moving.specs.Tested.{RewritesAs}
use Rattle.moving.specs.Through.{through_by, MovesThrough}
use Rattle.plan.specs.declared.Notes.{Notes}
use Rattle.moving.specs.declared.Moved.{Moved}
use Rattle.moving.proofs.Answers.{told_not, told_moved}
use Rattle.moving.proofs.Refusing.{Passes, passes}
use Rattle.moving.proofs.SameScan.{at_midday_lem, same_firsts, same_starters, same_way, same_changed}

-- no more sets change than there are lines
pub few_changed : (p old new : List ℕ) (count : ℕ) → count ≡ changed p old new → count ≤ length p
unfolding changed positions
few_changed p old new count e =
    let differs : (ℕ → Bool) = λ i. not (eqb (get_or new i 0) (get_or old i 0)) in
    omega (arith, those_length differs (positions p), length_up_from 0 (length p))

module _ (midday : Bool) (p t : List ℕ) (line device : ℕ) where
  pub refused : (r : Refusal) → move_refusal (board_at midday) p t line device ≡ some r
      → (Err r ≡ (moving (board_at midday) p t line device).answer)
      × (record { plan = p; sets = t } ≡ (moving (board_at midday) p t line device).left)
  unfolding moving outcome
  refused r e = rw e (refl, refl)

  module _ (none_refuses : move_refusal (board_at midday) p t line device ≡ none) where
    k : Passes midday p t line device
    k = passes midday p t line device none_refuses

    q : List ℕ
    q = edited p (line - 1) device

    alike : Alike p q
    unfolding q
    alike = (edit p (line - 1) device k.asked.takes (omega (arith, k.asked.on_board))).alike

    i : ℕ
    i = line - 1

    stop : ℕ
    stop = stop_of (span_of p i)

    span_is : Spans p i stop
    unfolding i stop
    span_is = spans p k.asked.line.well_formed.rules (line - 1) k.asked.line.in_plan

    -- the scan of the plan serves the edited one, with that one's flags
    known : (first starter again : List ℕ) → Scanned p first starter again → Known q t first starter (again_flags q)
    unfolding q
    known first starter again s = record {
      scan = record {
        well_formed = at_midday_lem midday q k.fine;
        firsts = s.firsts ∙ sym (same_firsts p q alike);
        starts = s.starts ∙ sym (same_starters p q alike);
        agains = refl;
      };
      room = omega (arith, alike.long, k.room);
    }

    -- the line from which the sets are joined is the last under the take
    from_last_lem : way p (stop - 1) ≡ from_last p i
    unfolding from_last i stop
    from_last_lem = ap (way p) (sym last)
      where
        last : last_or i (under p i) ≡ stop - 1
        last =
            ap (last_or i) span_is.under_is ∙ last_up i (suc i) (stop - suc i) refl
            ∙ omega (arith, span_is.low)

    -- the way that is walked for the edited plan, with any table, from there
    pub last_way : (first starter again t' : List ℕ) → Scanned p first starter again → length p ≤ length t'
        → way_by (edited p (line - 1) device) t' starter (stop_of (span_of p (line - 1)) - 1) ≡ from_last p (line - 1)
    unfolding q i stop
    last_way first starter again t' s room =
        let there : Known q t' first starter (again_flags q) =
        record { scan = (known first starter again s).scan; room = omega (arith, alike.long, room) } in
        way_known there (stop - 1) (omega (arith, alike.long, span_is.high, span_is.low))
        ∙ same_way p q alike (stop - 1) ∙ from_last_lem

    pub moved : (lent left : Notes) (count : ℕ) (p' t' : List ℕ) → Scanned p lent.first lent.starter lent.again
        → RewritesAs p t lent (line - 1) device count p' t' left
        → (Ok count ≡ (moving (board_at midday) p t line device).answer)
        × (record { plan = p'; sets = t' } ≡ (moving (board_at midday) p t line device).left)
    unfolding moving outcome q i stop
    moved lent left count p' t' s r =
        rw (none_refuses, k.position) (
          ap Ok
              (r.counts ∙ ap (λ (x : List ℕ). changed x t t') r.plan ∙ same_changed p q alike t t' ∙ ap
              (changed p t) sets),
          cc (r.plan, sets),
        )
      where
        sets : t' ≡ rewritten q t (from_last p (line - 1))
        sets =
            r.sets
            ∙ ap (λ (x : List ℕ). mended_by x (again_flags x) lent.first t (way_by x t lent.starter (stop - 1))) r.plan
            ∙ mended_known (known lent.first lent.starter lent.again s) (stop - 1)
            (omega (arith, alike.long, span_is.high, span_is.low))
            ∙ ap (rewritten q t) (same_way p q alike (stop - 1) ∙ from_last_lem)

-- the move for a caller that keeps more, refused and done
module _ (midday : Bool) (p t : List ℕ) (line device : ℕ) (lent scanned : Notes)
    (firsts : scanned.first ≡ left_by (fault (board_at midday) p) (first_lines p) lent.first)
    (starts : scanned.starter ≡ left_by (fault (board_at midday) p) (starters p) lent.starter)
    (agains : scanned.again ≡ left_by (fault (board_at midday) p) (again_flags p) lent.again)
    (holds : scanned.holdings ≡ left_by (fault (board_at midday) p) (holdings p) lent.holdings) where
  pub through_refused : (r : Refusal) → move_refusal (board_at midday) p t line device ≡ some r
      → MovesThrough (board_at midday) p t line device lent (Err r) p t scanned
  through_refused r e =
      let x = refused midday p t line device r e in record {
        answers = ap (λ (a : Result ℕ Refusal). through_by a (stop_of (span_of p (asked_at line)))) x.0;
        plan = ap (λ (l : Lent). l.plan) x.1;
        sets = ap (λ (l : Lent). l.sets) x.1;
        firsts = firsts;
        starts = starts;
        agains = agains;
        holds = holds;
      }

  module _ (none_refuses : move_refusal (board_at midday) p t line device ≡ none) where
    no_fault_lem : fault (board_at midday) p ≡ none
    no_fault_lem = (no_fault_exactly (board_at midday) p).1 (passes midday p t line device none_refuses).sound

    left_is : (made old : List ℕ) → left_by (fault (board_at midday) p) made old ≡ made
    left_is made old = ap (λ (o : Option Refusal). left_by o made old) no_fault_lem

    pub by_scan : Scanned p scanned.first scanned.starter scanned.again
    by_scan = record {
      well_formed = (passes midday p t line device none_refuses).asked.line.well_formed;
      firsts = firsts ∙ left_is (first_lines p) lent.first;
      starts = starts ∙ left_is (starters p) lent.starter;
      agains = agains ∙ left_is (again_flags p) lent.again;
    }

    pub through_moved : (left : Notes) (count stop : ℕ) (p' t' : List ℕ) → stop ≡ stop_of (span_of p (asked_at line))
        → RewritesAs p t scanned (line - 1) device count p' t' left
        → MovesThrough (board_at midday) p t line device lent (Ok (record { changed = count; stop = stop })) p' t' left
    through_moved left count _ p' t' e r =
        let x = moved midday p t line device none_refuses scanned left count p' t' by_scan r in
        record {
          answers =
              ap (through_by (Ok count)) e
              ∙ ap (λ (a : Result ℕ Refusal). through_by a (stop_of (span_of p (asked_at line)))) x.0;
          plan = ap (λ (l : Lent). l.plan) x.1;
          sets = ap (λ (l : Lent). l.sets) x.1;
          firsts = r.firsts ∙ firsts;
          starts = r.starts ∙ starts;
          agains = r.agains ∙ sym (left_is (again_flags p') lent.again);
          holds = r.holds ∙ holds;
        }

-- the plain move, by that
module _ (midday : Bool) (p t : List ℕ) (line device : ℕ) (lent : Notes) (answer : Result Moved Refusal)
    (p' t' : List ℕ) (left : Notes)
    (m : MovesThrough (board_at midday) p t line device lent answer p' t' left) where
  plainly : (a : Result ℕ Refusal) → a ≡ (moving (board_at midday) p t line device).answer
      → MovesAs (board_at midday) p t line device a p' t'
  plainly a e = meets e (rw (m.plan, m.sets))

  pub plainly_refused : (r : Refusal) → answer ≡ Err r → MovesAs (board_at midday) p t line device (Err r) p' t'
  plainly_refused r e = plainly (Err r) (told_not _ _ r (sym e ∙ m.answers))

  pub plainly_moved : (d : Moved) → answer ≡ Ok d → MovesAs (board_at midday) p t line device (Ok d.changed) p' t'
  plainly_moved d e = plainly (Ok d.changed) (told_moved _ _ d (sym e ∙ m.answers)).0

-- what the rewriting leaves, from what its parts do
pub rewrites : (p t : List ℕ) (lent : Notes) (i device count : ℕ) (p' t' : List ℕ) (left : Notes) (stop : ℕ)
    → device < devices → p' ≡ edited p i (device % 256) → left.again ≡ again_flags (edited p i device)
    → stop ≡ stop_of (span_of p i)
    → t' ≡ mended_by p' left.again lent.first t (way_by p' t lent.starter (stop - 1)) → count ≡ changed p' t t'
    → left.first ≡ lent.first → left.starter ≡ lent.starter → left.holdings ≡ lent.holdings
    → RewritesAs p t lent i device count p' t' left
rewrites p t lent i device count p' t' left stop b e f g m c firsts starts holds =
    let z : device % 256 ≡ device = omega (arith, b) in
    let plan : p' ≡ edited p i device = e ∙ ap (edited p i) z in record {
      counts = c;
      plan = plan;
      agains = f ∙ ap again_flags (sym plan);
      sets = m ∙ rw (g, f, ← plan);
      firsts = firsts;
      starts = starts;
      holds = holds;
    }

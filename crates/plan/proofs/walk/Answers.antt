-- `plan::walk` meets its contract, by the laws of `Walks` and of `NoteWalk`.
use Rattle.std.proofs.Common.{◌≡◌, ℕ, ◌<◌, ◌≤◌, false, min, List, length, get_or, take, refl, ap, arith}
use Rattle.std.proofs.lemmas.List.{length-take, get_or-take}
use Rattle.model.specs.Board.{board_at}
use Rattle.model.specs.Line.{max_lines}
use Rattle.model.specs.Sets.{empty}
use Rattle.theory.proofs.Tests.{clash}
use Rattle.plan.specs.declared.Notes.{Notes}
use Rattle.plan.proofs.Answers.{passed_up}
use Rattle.plan.proofs.Walks.{Start, at_start, at_end, at_limit, at_refusal, at_line_lem, at_next}
use Rattle.plan.proofs.NoteWalk.{notes_start, notes_next, notes_end}
use Rattle.plan.proofs.walk.Goals as goal
use Rattle.plan.proofs.walk.Goals.{then-this-ne0, else-this-ne0}

pub loop-n-init : goal.loop-n-init
unfolding empty
loop-n-init g c =
    let p = c.args.plan.now in
    let n = c.args.notes.now in
    let z = c.requires in
    let s : Start _ = record { lines = refl; job = refl; named = refl; early = refl; depth = refl; held = refl } in
    record {
      passed = refl;
      stands = at_start (board_at c.args.midday) p _ _ n.first n.starter s
          (ap (λ (m : Notes). m.first) z) (ap (λ (m : Notes). m.starter) z);
      noted = λ t. notes_start p _ _ _ n.again n.holdings s refl (ap (λ (m : Notes). m.again) z)
          (ap (λ (m : Notes). m.holdings) z);
    }

-- the walk's lines are the plan's, within the limit
line_read : (p : List ℕ) (stop i j : ℕ) → j ≡ i → i < length (take stop p) → get_or (take stop p) i 0 ≡ get_or p j 0
line_read p stop i j e h = rw e (get_or-take stop p i 0 (omega (arith, length-take stop p)))

inside : (p : List ℕ) (stop i j : ℕ) → stop ≡ min (length p) max_lines → j ≡ i → i < length (take stop p)
    → (j < length p) × (j < max_lines)
inside p stop i j q e h = (omega (arith, length-take stop p), omega (arith, length-take stop p))

pub checked_line-requires : goal.checked_line-requires
checked_line-requires g c =
    (inside c.args.plan.now _ _ _ c.min-stop.ensures c.loop-n.invariant.passed c.loop-n-test.true).1

-- a refusal
pub returns-in_err-depth-clause-walked : goal.returns-in_err-depth-clause-walked
returns-in_err-depth-clause-walked g c =
    let p = c.args.plan.now in
    let l = c.loop-n in
    let r = c.in_err-depth.field-0.0 in
    let i = inside p _ _ _ c.min-stop.ensures l.invariant.passed c.loop-n-test.true in
    let e = line_read p c.min-stop.result l.n-index l.at.lines l.invariant.passed c.loop-n-test.true in
    let led = rw e at c.in_err-depth.ensures.led in
    rw (passed_up c.from_residual.result r c.from_residual.ensures.1)
    (at_refusal c.args.midday p l.at l.takes.stack l.notes.first l.notes.starter l.invariant.stands i.0 r led _)

pub note-held-requires : goal.note-held-requires
note-held-requires g c =
    let p = c.args.plan.now in
    let l = c.loop-n in
    let i = inside p _ _ _ c.min-stop.ensures l.invariant.passed c.loop-n-test.true in
    let e = line_read p c.min-stop.result l.n-index l.at.lines l.invariant.passed c.loop-n-test.true in
    let led = rw e at c.in_ok-depth.ensures.led in
    let f = c.checked_line.new in record {
      few = i.1;
      its_job = rw e (at_line_lem c.args.midday p l.at l.takes.stack l.notes.first l.notes.starter l.invariant.stands
          i.0 c.in_ok-depth.depth f.takes.stack f.notes.first f.notes.starter led).1;
    }

pub pass-requires : goal.pass-requires
pass-requires g c = record {
  few = (inside c.args.plan.now _ _ _ c.min-stop.ensures c.loop-n.invariant.passed c.loop-n-test.true).1;
  deep = c.in_ok-depth.ensures.keeps;
}

pub loop-n-preserved : goal.loop-n-preserved
loop-n-preserved g c =
    let p = c.args.plan.now in
    let l = c.loop-n in
    let i = inside p _ _ _ c.min-stop.ensures l.invariant.passed c.loop-n-test.true in
    let e = line_read p c.min-stop.result l.n-index l.at.lines l.invariant.passed c.loop-n-test.true in
    let led = rw e at c.in_ok-depth.ensures.led in
    let after = rw e at c.pass.ensures in
    let f = c.checked_line.new in
    let on = at_next c.args.midday p l.at l.takes.stack l.notes.first l.notes.starter l.invariant.stands i.0
    c.in_ok-depth.depth f.takes.stack f.notes.first f.notes.starter led c.if-this-ne0.held c.pass.new.self after in
    elim c.if-this-ne0.branch [
      | then-this-ne0 w ↦ let k = w.note-held in
          rw (w.notes-is, w.added-is) (record {
            passed = omega (arith, c.pass.ensures.passed, l.invariant.passed);
            stands = rw (k.ensures.firsts, k.ensures.starters) on;
            noted = λ t. notes_next c.args.midday p l.at l.takes.stack l.notes.first l.notes.starter l.added
                l.notes.again
                l.notes.holdings l.invariant.stands (l.invariant.noted t) i.0 c.in_ok-depth.depth f.takes.stack
                f.notes.first f.notes.starter led k.result c.pass.new.self (rw w.held-is at after) k.new.added
                k.new.notes.again k.new.notes.holdings
                (rw (e, c.checked_line.ensures.flags, c.checked_line.ensures.holdings) at k.ensures.noted);
          })
      | else-this-ne0 w ↦ rw (w.notes-is, w.added-is) (record {
        passed = omega (arith, c.pass.ensures.passed, l.invariant.passed);
        stands = on;
        noted = λ t. clash false (rw w.if-this-ne0.false at t) refl;
      })
    ]

ended : (p : List ℕ) (stop i j : ℕ) → stop ≡ min (length p) max_lines → j ≡ i → length (take stop p) ≤ i
    → i ≤ length (take stop p) → j ≡ stop
ended p stop i j q e a b = omega (arith, length-take stop p)

-- too many lines
pub returns-then-stop-plan-clause-walked : goal.returns-then-stop-plan-clause-walked
returns-then-stop-plan-clause-walked g c =
    let p = c.args.plan.now in
    let l = c.loop-n in
    let e = ended p _ _ _ c.min-stop.ensures l.invariant.passed c.loop-n-test.false l.auto.n-index-end in
    at_limit c.args.midday p l.at l.takes.stack l.notes.first l.notes.starter l.invariant.stands
    (omega (arith, e, c.if-stop-plan.true)) (omega (arith, e, c.if-stop-plan.true, c.min-stop.ensures)) _

-- the end
pub returns-clause-walked : goal.returns-clause-walked
returns-clause-walked g c =
    let p = c.args.plan.now in
    let l = c.loop-n in
    let e = ended p _ _ _ c.min-stop.ensures l.invariant.passed c.loop-n-test.false l.auto.n-index-end in
    at_end c.args.midday p l.at l.takes.stack l.notes.first l.notes.starter l.invariant.stands
    (omega (arith, e, c.if-stop-plan.false)) _ refl refl

pub returns-clause-noted : goal.returns-clause-noted
returns-clause-noted g c =
    λ t z. let l = c.loop-n in
    let e = ended c.args.plan.now _ _ _ c.min-stop.ensures l.invariant.passed c.loop-n-test.false l.auto.n-index-end in
    notes_end c.args.plan.now l.at l.takes.stack l.added l.notes.again l.notes.holdings
    (omega (arith, e, c.if-stop-plan.false, c.min-stop.ensures)) (l.invariant.noted t)

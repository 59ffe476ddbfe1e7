-- `legal::do_held` meets its contract: with the lines before `i` looked at, the held ones of them are done.
use Rattle.std.proofs.Common.{List, ℕ, arith, sym, refl, true, ◌∙◌}
use Rattle.model.specs.Board.{board_at}
use Rattle.model.specs.Line.{at}
use Rattle.model.specs.WellFormed.{WellFormed}
use Rattle.theory.proofs.Line.{line_parts}
use Rattle.theory.proofs.WellFormed.{no_fault_exactly}
use Rattle.plan.specs.declared.Notes.{Notes}
use Rattle.legal.specs.Begun.{Tabled}
use Rattle.legal.proofs.Entries.{started_small}
use Rattle.legal.proofs.Begins.{does_first, step_over, some_left, held_on, all_done}
use Rattle.legal.proofs.do_held.Goals as goal
use Rattle.legal.proofs.do_held.Goals.{then-is_held, else-is_held}

pub loop-i-init : goal.loop-i-init
loop-i-init c = rw c.requires.held (does_first c.args.plan.now c.args.state.now.next c.requires.standing)

well : {p : List ℕ} {notes : Notes} → Tabled true p notes → WellFormed (board_at true) p
well {p} t = (no_fault_exactly (board_at true) p).0 t.sound

pub overflow_cast-i : goal.overflow_cast-i
overflow_cast-i c = omega (arith, (well c.requires.tabled).few, c.loop-i-test.true)

pub pass-requires : goal.pass-requires
pass-requires c =
    let w = well c.requires.tabled in
    let l = at c.args.plan.now c.loop-i.i in
    let line = w.lines c.loop-i.i c.loop-i-test.true in
    record {
      job = (line_parts (board_at true) l line).1;
      started = started_small (board_at true) l line;
      number = omega (arith, w.few, c.loop-i-test.true);
    }

-- it is held
pub overflow_sub-steps : goal.overflow_sub-steps
overflow_sub-steps c =
    some_left (well c.requires.tabled) c.loop-i.invariant c.loop-i-test.true (sym c.if-is_held.ensures)

pub loop-i-preserved : goal.loop-i-preserved
loop-i-preserved c =
    let w = well c.requires.tabled in
    elim c.if-is_held.branch [
      | then-is_held b ↦
          rw (b.state-is, b.steps-is)
          (held_on w c.loop-i.invariant c.loop-i-test.true (sym b.if-is_held.ensures) c.requires.tabled.firsts
          b.pass.ensures.next
          (b.union-state.ensures ∙ rw (b.pass.ensures.held, b.only.ensures, b.device.ensures)) refl)
      | else-is_held b ↦
          rw (b.state-is, b.steps-is)
          (step_over w c.loop-i.invariant c.loop-i-test.true (sym b.if-is_held.ensures))
    ]

pub returns : goal.returns
returns c = let r = all_done c.loop-i.invariant c.loop-i-test.false in record { begins = r.0; counted = r.1 }

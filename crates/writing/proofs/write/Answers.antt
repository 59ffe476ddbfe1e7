-- `writing::write` meets its contract: the fault of the plan, 11, or the text that was made.
use Rattle.std.proofs.Common.{ap, arith, sym, length, length-take-le, take, ◌≡◌, ◌∙◌, ◌≤◌}
use mathlib.Core.Option.{none}
use Rattle.model.specs.Board.{board}
use Rattle.model.specs.Line.{at, max_bytes}
use Rattle.model.specs.Lists.{over}
use Rattle.model.specs.Text.{text_of}
use Rattle.model.specs.WellFormed.{fault}
use Rattle.theory.proofs.Line.{line_parts}
use Rattle.theory.proofs.WellFormed.{no_fault_exactly}
use Rattle.plan.proofs.Answers.{told, untold, passed_up}
use Rattle.fields.proofs.Putting.{kept, moves, put_at_start, front_at_start}
use Rattle.writing.proofs.Outcome.{text_fits, faulty, short, written}
use Rattle.writing.proofs.write.Goals as goal
use Rattle.writing.proofs.write.Goals.{After-make-n}

-- 2 to 7
pub returns-in_err-fault : goal.returns-in_err-fault
returns-in_err-fault c =
    rw (passed_up _ _ c.from_residual.ensures.1)
    (faulty c.args.plan.now c.args.text.now _ (told _ _ c.in_err-fault.ensures))

pub make-n-requires : goal.make-n-requires
make-n-requires c =
    let p = c.args.plan.now in
    let e = untold (fault board p) c.in_ok-fault.ensures in
    let lines = ((no_fault_exactly board p).0 e).lines in
    (λ k h. omega (arith, (line_parts board (at p k) (lines k h)).1), text_fits p e)

-- where no test of the plan refused, it has no fault
no_fault : (c : After-make-n) → fault board c.args.plan.now ≡ none
no_fault c = untold (fault board c.args.plan.now) c.in_ok-fault.ensures

-- the text, in the front of the array
fits : (c : After-make-n) → c.make-n.result ≤ max_bytes
fits c =
    let t = text_fits c.args.plan.now (no_fault c) in
    omega (arith, t, moves c.make-n.ensures (omega (arith, t)))

front : (c : After-make-n) → take c.make-n.result c.make-n.new.made ≡ text_of c.args.plan.now
front c = front_at_start c.make-n.ensures (fits c)

long : (c : After-make-n) → c.make-n.result ≡ length (text_of c.args.plan.now)
long c = (put_at_start c.make-n.ensures (fits c)).0

-- 11
pub overflow_cast-result : goal.overflow_cast-result
overflow_cast-result c = omega (arith, fits (goal.at.overflow_cast-result c).After-make-n)

pub returns-then-text-n : goal.returns-then-text-n
returns-then-text-n c =
    let m = (goal.at.returns-then-text-n c).After-make-n in
    short _ _ (no_fault m) _ (long m) c.if-text-n.true

-- the text
pub slice_bounds-made-end : goal.slice_bounds-made-end
slice_bounds-made-end c =
    omega (arith, fits (goal.at.slice_bounds-made-end c).After-make-n, kept c.make-n.ensures)

pub slice_bounds-copy_from_slice-end-3 : goal.slice_bounds-copy_from_slice-end-3
slice_bounds-copy_from_slice-end-3 c =
    let m = (goal.at.slice_bounds-copy_from_slice-end-3 c).After-make-n in long m ∙ sym (ap length (front m))

pub copy_from_slice-requires : goal.copy_from_slice-requires
copy_from_slice-requires c =
    let m = (goal.at.copy_from_slice-requires c).After-make-n in
    length-take-le _ _ c.if-text-n.false ∙ (long m ∙ sym (ap length (front m)))

pub overflow_cast-result-2 : goal.overflow_cast-result-2
overflow_cast-result-2 c = omega (arith, fits (goal.at.overflow_cast-result-2 c).After-make-n)

pub returns : goal.returns
unfolding over
returns c =
    let m = (goal.at.returns c).After-make-n in
    written _ _ (no_fault m) _ (long m) c.if-text-n.false _ (rw (c.copy_from_slice.ensures.after, front m, long m))

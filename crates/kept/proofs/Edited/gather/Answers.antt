use Rattle.std.proofs.Common.{◌≡◌, ℕ, suc, ◌-◌, ◌<◌, not, eqb, List, length, get_or, eqb-true, sym, ◌∙◌, arith}
use borrow.Author.Tests.{eqb-false, not-true}
use Rattle.model.specs.Sets.{empty}
use Rattle.theory.proofs.Tests.{and_split}
use Rattle.rows.proofs.Counted.{counts_as}
use Rattle.rows.specs.declared.Passed.{Passed}
use Rattle.kept.proofs.Gathering.{Gathered, none_gathered, one_gathered, all_gathered, prepared, skips}
use Rattle.kept.proofs.Gathering.{in_range, has_first, goes_back, past_job}
use Rattle.kept.proofs.Edited.gather.Goals as goal

-- in a turn i is one more than the line at hand
back : {p t rs flags : List ℕ} {passed : Passed} {behind i : ℕ} → 0 < i → Gathered p t rs flags passed behind i
    → Gathered p t rs flags passed behind (suc (i - 1))
back {i = i} h m = let z : suc (i - 1) ≡ i = omega arith in rw z m

pub loop-i-init : goal.loop-i-init
loop-i-init c =
    let e = c.args.self.now in
    none_gathered e.plan.now e.notes.now.again e.sets.now (prepared e)

pub none_lasts-requires : goal.none_lasts-requires
none_lasts-requires c =
    let e = c.args.self.now in
    rw c.job-j.ensures
    (in_range (prepared e) (skips e)
    (back c.loop-i-test.true c.loop-i.invariant))

-- ---- past a job without lasting takes

pub bounds-self-j : goal.bounds-self-j
bounds-self-j c =
    let e = c.args.self.now in
    omega (
      arith,
      c.job-j.ensures,
      in_range (prepared e) (skips e)
          (back c.loop-i-test.true c.loop-i.invariant),
    )

pub overflow_sub-i : goal.overflow_sub-i
overflow_sub-i c =
    let e = c.args.self.now in
    rw c.job-j.ensures
    (has_first (prepared e) (skips e)
    (back c.loop-i-test.true c.loop-i.invariant))

pub loop-i-smaller-then-none_lasts : goal.loop-i-smaller-then-none_lasts
loop-i-smaller-then-none_lasts c =
    let e = c.args.self.now in
    rw c.job-j.ensures
    (omega (
      arith,
      c.loop-i-test.true,
      goes_back (prepared e) (skips e)
          (back c.loop-i-test.true c.loop-i.invariant),
    ))

pub loop-i-preserved-then-none_lasts : goal.loop-i-preserved-then-none_lasts
loop-i-preserved-then-none_lasts c =
    let e = c.args.self.now in
    let j = c.job-j.result in
    let moved = c.job-moved.result in
    let t = and_split (not (eqb j moved)) (eqb (get_or e.notes.now.holdings j 0) empty)
    (sym c.none_lasts.ensures ∙ c.if-none_lasts.true) in
    let other = eqb-false j moved (not-true (eqb j moved) t.0) in
    let nothing = eqb-true (get_or e.notes.now.holdings j 0) empty t.1 in
    rw c.job-j.ensures
    (past_job (prepared e) (skips e)
    (back c.loop-i-test.true c.loop-i.invariant)
    (rw (c.job-j.ensures, c.job-moved.ensures, c.line_at.ensures) at other) (rw c.job-j.ensures at nothing))

-- ---- one line further back

pub loop-i-preserved : goal.loop-i-preserved
unfolding empty
loop-i-preserved c =
    let e = c.args.self.now in
    let l = c.loop-i in
    let inside : l.i - 1 < length e.plan.now =
    omega (arith, l.invariant.found.counted.in_plan, c.loop-i-test.true) in
    let known = prepared e in
    let counts = c.plain.ensures
    ∙ counts_as e.plan.now e.notes.now.again (l.i - 1) (known.sound, known.agains) inside in
    rw c.from.ensures
    (one_gathered known (back c.loop-i-test.true l.invariant) (rw counts at c.pass_line-passed.ensures)
    c.choose-next.result (rw c.job-j.ensures at c.choose-next.ensures) _ c.join_row.ensures)

pub returns : goal.returns
returns c =
    let e = c.args.self.now in
    let front : c.loop-i.i ≡ 0 = omega (arith, c.loop-i-test.false) in
    all_gathered (prepared e) (rw front at c.loop-i.invariant)

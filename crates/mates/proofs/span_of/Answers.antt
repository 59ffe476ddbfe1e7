-- The search over the lines after the take, by the laws of `Mates`.
use Rattle.std.proofs.Common.{◌≡◌, ℕ, ◌+◌, ◌-◌, ◌<◌, List, length, take, drop, ap, ◌∙◌, sym, arith}
use Rattle.std.proofs.lemmas.List.{take_rest, length-drop, get_or-drop, get_or_read}
use borrow.Author.Tests.{ltb-true, ltb-false}
use Rattle.model.specs.Line.{job, at}
use Rattle.mates.specs.Found.{passed_by}
use Rattle.mates.proofs.Mates.{past, start, end, foreign, mate_here, on}
use Rattle.mates.proofs.span_of.Goals as goal

-- the line at place d of the lines from position a on, which the code passes
abbrev line_at : List ℕ → ℕ → ℕ → ℕ
line_at p a d = at (take (length p - a) (drop a p)) d

line_is : (p : List ℕ) (a d : ℕ) → line_at p a d ≡ at p (a + d)
line_is p a d = rw take_rest (get_or-drop a p d 0)

within : (p : List ℕ) (a d : ℕ) → d < length (take (length p - a) (drop a p)) → a + d < length p
within p a d h = let lt = rw take_rest at h in omega (arith, length-drop a p)

pub returns-in_default : goal.returns-in_default
returns-in_default c =
    let a = c.args in
    past a.plan.now a.i (ltb-false a.i (length a.plan.now) (sym c.in_default.ensures.lookup.0))

pub loop-past-init : goal.loop-past-init
loop-past-init c =
    let a = c.args in
    let s = c.in-Some.ensures.lookup in
    let lt = ltb-true a.i (length a.plan.now) (sym s.0) in
    start a.plan.now a.i c.job-j.result (a.i + 1 + 0) (omega arith) lt
    (c.job-j.ensures ∙ ap job (get_or_read a.plan.now a.i c.in-Some.field-0.now lt s.1 0))

pub returns-then-job-j : goal.returns-then-job-j
returns-then-job-j c =
    let p = c.args.plan.now in
    let a = c.args.i + 1 in
    let l = c.loop-past in
    foreign p c.args.i c.job-j.result l.depth (a + l.past) l.invariant (within p a l.past c.loop-past-test.true)
    c.job.result (c.job.ensures ∙ ap job (line_is p a l.past)) c.if-job-j.true

pub returns-in_default-passed : goal.returns-in_default-passed
returns-in_default-passed c =
    let p = c.args.plan.now in
    let a = c.args.i + 1 in
    let l = c.loop-past in
    mate_here p c.args.i c.job-j.result l.depth (a + l.past) l.invariant (within p a l.past c.loop-past-test.true)
    c.job.result (c.job.ensures ∙ ap job (line_is p a l.past)) c.if-job-j.false
    (c.in_default-passed.ensures ∙ ap (λ n. passed_by n l.depth) (line_is p a l.past))

pub loop-past-preserved : goal.loop-past-preserved
loop-past-preserved c =
    let p = c.args.plan.now in
    let a = c.args.i + 1 in
    let l = c.loop-past in
    on p c.args.i c.job-j.result l.depth (a + l.past) l.invariant (within p a l.past c.loop-past-test.true)
    c.job.result (c.job.ensures ∙ ap job (line_is p a l.past)) c.if-job-j.false c.in-Some-passed.d
    (a + (l.past + 1)) (omega arith) (c.in-Some-passed.ensures ∙ ap (λ n. passed_by n l.depth) (line_is p a l.past))

pub returns : goal.returns
returns c =
    let p = c.args.plan.now in
    let a = c.args.i + 1 in
    let l = c.loop-past in
    end p c.args.i c.job-j.result l.depth (a + l.past) l.invariant
    (let h = rw take_rest at c.loop-past-test.false in omega (arith, length-drop a p))

-- What the line at hand says of the device, by the laws of `Holding`.
use Rattle.std.proofs.Common.{◌≡◌, ◌-◌, sym, ◌∙◌, arith}
use Rattle.model.specs.Line.{job, at}
use Rattle.moving.proofs.Holding.{back_end, back_foreign, back_take, back_give, back_on}
use Rattle.moving.proofs.job_holds.Goals as goal
use Rattle.moving.proofs.job_holds.Goals.{Else-job-j, Else-opens-device}

-- the line at hand is of the job
own_line : (c : Else-job-j) → job c.plain-l.result ≡ job (at c.args.plan.now c.args.i)
own_line c = sym c.job.ensures ∙ c.if-job-j.false ∙ c.job-j.ensures

pub returns-then-job-j : goal.returns-then-job-j
returns-then-job-j c =
    let a = c.args in
    let l = c.loop-k in
    back_foreign a.plan.now a.again.now a.i a.device l.k c.requires.0 c.requires.1 l.invariant (l.k - 1)
    (omega (arith, c.loop-k-test.true)) c.plain-l.result c.plain-l.ensures
    (λ e. c.if-job-j.true (c.job.ensures ∙ e ∙ sym c.job-j.ensures))

pub returns-then-opens-device : goal.returns-then-opens-device
returns-then-opens-device c =
    let a = c.args in
    let l = c.loop-k in
    back_take a.plan.now a.again.now a.i a.device l.k c.requires.0 c.requires.1 l.invariant (l.k - 1)
    (omega (arith, c.loop-k-test.true)) c.plain-l.result c.plain-l.ensures
    (sym c.job.ensures ∙ c.if-job-j.false ∙ c.job-j.ensures)
    (rw (← c.opens.ensures, ← c.device.ensures) c.if-opens-device.true)

pub returns-then-is_give-operand : goal.returns-then-is_give-operand
returns-then-is_give-operand c =
    let a = c.args in
    let l = c.loop-k in
    back_give a.plan.now a.again.now a.i a.device l.k c.requires.0 c.requires.1 l.invariant (l.k - 1)
    (omega (arith, c.loop-k-test.true)) c.plain-l.result c.plain-l.ensures
    (sym c.job.ensures ∙ c.if-job-j.false ∙ c.job-j.ensures)
    (rw (← c.is_give.ensures, ← c.operand.ensures) c.if-is_give-operand.true)

pub loop-k-preserved : goal.loop-k-preserved
loop-k-preserved c =
    let a = c.args in
    let l = c.loop-k in
    back_on a.plan.now a.again.now a.i a.device l.k c.requires.0 c.requires.1 l.invariant (l.k - 1)
    (omega (arith, c.loop-k-test.true)) c.plain-l.result c.plain-l.ensures
    (sym c.job.ensures ∙ c.if-job-j.false ∙ c.job-j.ensures)
    (rw (← c.opens.ensures, ← c.device.ensures) c.if-opens-device.false)
    (rw (← c.is_give.ensures, ← c.operand.ensures) c.if-is_give-operand.false)

pub returns : goal.returns
returns c =
    let a = c.args in
    back_end a.plan.now a.i a.device c.loop-k.k c.loop-k.invariant c.loop-k-test.false

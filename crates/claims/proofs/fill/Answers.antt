-- With each turn one set more stands at its place.
use Rattle.std.proofs.Common.{◌≡◌, ℕ, suc, ◌-◌, ◌<◌, true, length, ap, ◌∙◌, arith}
use Rattle.model.specs.Board.{board}
use Rattle.model.specs.Line.{job, is_line, at}
use Rattle.model.specs.WellFormed.{WellFormed}
use Rattle.theory.specs.Outer.{again_at, plain_at}
use Rattle.theory.proofs.Outer.{plain_job}
use Rattle.theory.proofs.WellFormed.{no_fault_exactly}
use Rattle.plan.proofs.Again.{length_again, plain_is}
use Rattle.claims.specs.Claim.{operands}
use Rattle.claims.proofs.Claimed.{job_place}
use Rattle.claims.proofs.Written.{none_done, one_done, all_done}
use Rattle.claims.proofs.fill.Goals as goal
use Rattle.claims.proofs.fill.Goals.{After-job-j}

pub loop-i-init : goal.loop-i-init
loop-i-init c = none_done c.args.plan.now c.args.sets.now

pub bounds-again-i : goal.bounds-again-i
bounds-again-i c =
    omega (
      arith,
      c.loop-i.invariant.in_plan,
      ((no_fault_exactly board c.args.plan.now).0 c.requires.sound).few,
      ap length c.requires.flags ∙ length_again c.args.plan.now,
    )

-- the line at hand, as it counts
module _ (c : After-job-j) where
  abbrev k : ℕ
  k = c.loop-i.i - 1

  well_formed : WellFormed board c.args.plan.now
  well_formed = (no_fault_exactly board c.args.plan.now).0 c.requires.sound

  in_plan : k < length c.args.plan.now
  in_plan = omega (arith, c.loop-i.invariant.in_plan)

  line_at : is_line board (at c.args.plan.now k) ≡ true
  line_at = well_formed.lines k in_plan

  counts : c.plain-l.result ≡ plain_at c.args.plan.now k
  counts =
      c.plain-l.ensures
      ∙ plain_is c.args.plan.now c.args.again.now k c.requires.flags (omega (arith, in_plan, well_formed.few))

  job_is : c.job-j.result ≡ job (at c.args.plan.now k)
  job_is = c.job-j.ensures ∙ ap job counts ∙ plain_job (again_at c.args.plan.now k) (at c.args.plan.now k)

  job_at : c.job-j.result < operands
  job_at = rw job_is (job_place board _ line_at)

pub bounds-claimed-j : goal.bounds-claimed-j
bounds-claimed-j c = job_at (goal.at.bounds-claimed-j c).After-job-j

pub bounds-claimed-j-in-loop-i : goal.bounds-claimed-j-in-loop-i
bounds-claimed-j-in-loop-i c = job_at (goal.at.bounds-claimed-j-in-loop-i c).After-job-j

pub loop-i-preserved : goal.loop-i-preserved
loop-i-preserved c =
    let here = (goal.at.loop-i-preserved c).After-job-j in
    let l = c.loop-i in
    let back : l.i ≡ suc (l.i - 1) = omega arith in
    one_done c.args.plan.now c.args.sets.now l.sets l.claimed (l.i - 1) c.job-j.result c.claim-s.result
    (rw back at l.invariant) (line_at here) (job_is here) (rw (counts here) at c.claim-s.ensures)

pub returns : goal.returns
returns c =
    let l = c.loop-i in
    let front : l.i ≡ 0 = omega arith in
    all_done c.args.plan.now c.args.sets.now l.sets l.claimed c.requires.room (rw front at l.invariant)

-- The scan refuses, or the tests after it answer.
use Rattle.std.proofs.Common.{sym, ap}
use mathlib.Core.Option.{Option}
use Rattle.model.specs.Board.{board}
use Rattle.model.specs.Move.{asked_at}
use Rattle.model.specs.declared.Refusal.{Refusal}
use Rattle.mates.specs.Span.{span_of}
use Rattle.plan.proofs.Answers.{told, untold, passed_up}
use Rattle.moving.specs.Tested.{tested_by}
use Rattle.moving.proofs.Refusing.{by_fault, by_asked}
use Rattle.moving.proofs.SameScan.{is_scanned}
use Rattle.moving.proofs.tested.Goals as goal

pub returns-in_err-scan : goal.returns-in_err-scan
returns-in_err-scan c =
    let a = c.args in
    let r = c.in_err-scan.field-0.0 in
    let scan = c.in_err-scan.ensures in
    let e = by_fault board a.plan.now a.sets.now a.line a.device r (told _ r scan.answers) in
    rw (passed_up c.from_residual.result r c.from_residual.ensures.1) (record {
      answers = ap (λ (o : Option Refusal). tested_by o (span_of a.plan.now (asked_at a.line))) (sym e);
      firsts = scan.firsts;
      starts = scan.starts;
      agains = scan.agains;
      holds = scan.held;
    })

pub asked-requires : goal.asked-requires
asked-requires c =
    let scan = c.in_ok-scan.ensures in is_scanned c.args.plan.now _ _ _ scan (untold _ scan.answers)

pub returns : goal.returns
returns c =
    let a = c.args in
    let scan = c.in_ok-scan.ensures in
    record {
      answers = by_asked board a.plan.now a.sets.now a.line a.device (span_of a.plan.now (asked_at a.line))
          (untold _ scan.answers) _ c.asked.ensures;
      firsts = scan.firsts;
      starts = scan.starts;
      agains = scan.agains;
      holds = scan.held;
    }

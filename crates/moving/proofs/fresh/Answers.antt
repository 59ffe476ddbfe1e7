-- The search along the way, and then under the take.
use Rattle.std.proofs.Common.{◌≡◌, ap, ◌∙◌, arith}
use mathlib.Core.Option.{none}
use Rattle.model.specs.Lists.{first_of}
use Rattle.model.specs.Move.{way, under, stale}
use Rattle.mates.specs.Found.{found}
use Rattle.mates.specs.Span.{span_of, stop_of}
use Rattle.mates.proofs.Spans.{spans}
use Rattle.plan.specs.Checked.{checked}
use Rattle.plan.proofs.Answers.{passed_up}
use Rattle.way.proofs.Kept.{stale_known, under_known}
use Rattle.moving.specs.Tested.{stale_refusal}
use Rattle.moving.proofs.Refusing.{stale_inside, found_on_way, then_under, stale_refuses, none_stale}
use Rattle.moving.proofs.Refusing.{number_fits, found_stale, found_no_stale}
use Rattle.moving.proofs.fresh.Goals as goal
use Rattle.moving.proofs.fresh.Goals.{After-stale_line, After-stale_under}

-- ---- what the two searches found

on_way : (c : After-stale_line)
    → c.stale_line.result ≡ found (first_of (stale c.args.plan.now c.args.sets.now) (way c.args.plan.now c.args.i))
on_way c = stale_known c.requires.1 c.args.i c.requires.0.in_plan _ c.stale_line.ensures

under_take : (c : After-stale_under)
    → c.stale_under.result ≡ found (first_of (stale c.args.plan.now c.args.sets.now) (under c.args.plan.now c.args.i))
under_take c =
    let a = c.args in
    let stop = c.stop.ensures ∙ ap stop_of c.span_of-span.ensures in
    under_known c.requires.1 a.i (stop_of (span_of a.plan.now a.i))
    (spans a.plan.now c.requires.0.well_formed.rules a.i c.requires.0.in_plan) _
    (rw stop at c.stale_under.ensures)

none_on_way : (c : After-stale_under)
    → first_of (stale c.args.plan.now c.args.sets.now) (way c.args.plan.now c.args.i) ≡ none
none_on_way c =
    let way_told = stale_known c.requires.1 c.args.i c.requires.0.in_plan _ c.stale_line.ensures in
    found_no_stale _ (c.in_ok-none_stale.ensures ∙ ap (λ o. checked (stale_refusal o)) way_told)

pub none_stale-requires : goal.none_stale-requires
none_stale-requires c =
    let a = c.args in
    number_fits _ _ (on_way c)
    (λ k e. omega (
      arith,
      stale_inside a.plan.now a.sets.now a.i k c.requires.0.in_plan (found_on_way a.plan.now a.sets.now a.i k e),
      c.requires.0.well_formed.few,
    ))

pub returns-in_err-none_stale : goal.returns-in_err-none_stale
returns-in_err-none_stale c =
    let a = c.args in
    let r = c.in_err-none_stale.field-0.0 in
    let told = on_way (goal.at.returns-in_err-none_stale c).After-stale_line in
    let s = found_stale _ r (c.in_err-none_stale.ensures ∙ ap (λ o. checked (stale_refusal o)) told) in
    rw (passed_up c.from_residual.result r c.from_residual.ensures.1, s.2)
    (stale_refuses a.plan.now a.sets.now a.i (span_of a.plan.now a.i) s.0
    (found_on_way a.plan.now a.sets.now a.i s.0 s.1))

pub none_stale-requires-2 : goal.none_stale-requires-2
none_stale-requires-2 c =
    let a = c.args in
    number_fits _ _ (under_take c)
    (λ k e. omega (
      arith,
      stale_inside a.plan.now a.sets.now a.i k c.requires.0.in_plan
          (then_under a.plan.now a.sets.now a.i _ (none_on_way c) e),
      c.requires.0.well_formed.few,
    ))

pub returns-in_err-none_stale-2 : goal.returns-in_err-none_stale-2
returns-in_err-none_stale-2 c =
    let a = c.args in
    let r = c.in_err-none_stale-2.field-0.0 in
    let d = (goal.at.returns-in_err-none_stale-2 c).After-stale_under in
    let s = found_stale _ r (c.in_err-none_stale-2.ensures ∙ ap (λ o. checked (stale_refusal o)) (under_take d)) in
    let passed = passed_up c.from_residual-in_err-none_stale-2.result r
    c.from_residual-in_err-none_stale-2.ensures.1 in
    rw (passed, s.2)
    (stale_refuses a.plan.now a.sets.now a.i (span_of a.plan.now a.i) s.0
    (then_under a.plan.now a.sets.now a.i _ (none_on_way d) s.1))

pub returns : goal.returns
returns c =
    let a = c.args in
    let d = (goal.at.returns c).After-stale_under in
    none_stale a.plan.now a.sets.now a.i (span_of a.plan.now a.i) _ c.span_of-span.ensures
    (then_under a.plan.now a.sets.now a.i _ (none_on_way d)
    (found_no_stale _ (c.in_ok-none_stale-2.ensures ∙ ap (λ o. checked (stale_refusal o)) (under_take d))))

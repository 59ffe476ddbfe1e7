-- The flags and the edit, then the sets from the last line under the take back; no more change than there are lines.
use Rattle.std.proofs.Common.{◌≡◌, ◌%◌, length, refl, ap, ◌∙◌, arith}
use Rattle.mates.specs.Span.{span_of, stop_of}
use Rattle.mates.proofs.Spans.{spans}
use Rattle.theory.proofs.Edited.{edit}
use Rattle.moving.proofs.Outcome.{few_changed, rewrites}
use Rattle.moving.proofs.Move.rewrite.Goals as goal
use Rattle.moving.proofs.Move.rewrite.Goals.{After-stop}

-- where the lines under the take end
stop_is : (c : After-stop) → c.stop.result ≡ stop_of (span_of c.args.plan.now c.args.self.at)
stop_is c = c.stop.ensures ∙ ap stop_of c.requires.0.spans

pub overflow_sub-stop : goal.overflow_sub-stop
overflow_sub-stop c =
    let line = c.requires.0.take.line in
    omega (
      arith,
      stop_is c,
      (spans c.args.plan.now line.well_formed.rules c.args.self.at line.in_plan).low,
    )

pub overflow_cast-result : goal.overflow_cast-result
overflow_cast-result c =
    let a = c.args in
    let k = c.requires.0.take in
    record {
      fits = omega (
        arith,
        few_changed _ _ _ _ c.mend_way.ensures.counted,
        ap length c.edit.ensures,
        (edit a.plan.now a.self.at (a.self.device % 256) k.takes (omega arith)).alike.long,
        k.line.well_formed.few,
      );
    }

pub returns : goal.returns
returns c =
    let a = c.args in
    rewrites a.plan.now a.sets.now a.notes.now a.self.at a.self.device c.mend_way.result _ _ _ c.stop.result
    c.requires.0.take.on_board c.edit.ensures c.mark.ensures (stop_is (goal.at.returns c).After-stop)
    c.mend_way.ensures.mended c.mend_way.ensures.counted refl refl refl

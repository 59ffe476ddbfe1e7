-- `judged::in_two` meets its contract: the lines passed are the plan's, up to the one that parts or to the end.
use Rattle.std.proofs.Common.{◌≡◌, ◌∷◌, arith, eqb, rules, sym}
use Rattle.std.specs.Slice.Iter.{split_inclusive_rest}
use Rattle.std.proofs.lemmas.Fn.{always_returns_same}
use Rattle.model.specs.Text.{newline, lines_of}
use Rattle.judged.proofs.Parting.{first_line, planned_none, inside, to_end, none_parts, line_parts, planned_more}
use Rattle.judged.proofs.in_two.Goals as goal
use Rattle.judged.proofs.in_two.Goals.{In-Some}

pub loop-line-init : goal.loop-line-init
loop-line-init c =
    rw (c.into_iter-line-iterator.ensures.into_iter_gives, c.split_inclusive-line-items.ensures.rest)
    (planned_none c.args.text.now)

-- what the cut yields is the first line of what was left
first : (c : In-Some) → lines_of (split_inclusive_rest c.loop-line.line-iterator)
    ≡ c.in-Some.line.now ∷ lines_of (split_inclusive_rest c.next.new.self)
first c =
    let cut = c.in-Some.ensures.steps in
    first_line _ _ _ cut.1.0 cut.0 cut.1.1
    (cut.1.2 (λ b. eqb b newline) (always_returns_same _ _ _ (λ a r f k. search rules))).1 cut.2

pub overflow_add-end : goal.overflow_add-end
overflow_add-end c =
    omega (
      arith,
      inside c.loop-line.invariant _ _ c.in-Some.ensures.steps.0
          (first (goal.at.overflow_add-end c).In-Some),
    )

-- the line is one of the plan's
pub loop-line-preserved : goal.loop-line-preserved
loop-line-preserved c =
    planned_more c.loop-line.invariant _ _ c.in-Some.ensures.steps.0 (first (goal.at.loop-line-preserved c).In-Some)
    (sym c.if-parts.ensures)

-- no line parts
pub returns : goal.returns
returns c =
    let r = none_parts c.loop-line.invariant c.in-None.ensures.steps.0 in record { plan = sym r.0; entries = sym r.1 }

-- the line parts
pub returns-then-parts : goal.returns-then-parts
returns-then-parts c =
    let r = line_parts c.loop-line.invariant _ _ c.in-Some.ensures.steps.0
    (first (goal.at.returns-then-parts c).In-Some) (sym c.if-parts.ensures) in
    record { plan = sym r.0; entries = rw (to_end c.args.text.now _) (sym r.1) }

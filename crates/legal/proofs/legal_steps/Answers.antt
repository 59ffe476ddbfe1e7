-- `legal::legal_steps` meets its contract: with k entries passed, the list of next lines and the set tell of their
-- lines, and the whole answer is that of the entries left.
use Rattle.std.proofs.Common.{arith, sym, length, ◌≤◌, ◌≡◌}
use Rattle.std.proofs.lemmas.Grind.{common_steps}
use Rattle.model.specs.Line.{max_lines}
use Rattle.legal.proofs.Entries.{Names, named, counted_job, counted_start}
use Rattle.legal.proofs.Loop.{formed, follows_first, all_passed, no_number, no_step, follows_on_lem}
use Rattle.legal.proofs.legal_steps.Goals as goal
use Rattle.legal.proofs.legal_steps.Goals.{Else-not-contains, After-plain-l, After-from-n}

pub loop-k-init : goal.loop-k-init
loop-k-init c = follows_first c.args.order.now c.requires

-- it is no line's number
pub returns-then-not-contains : goal.returns-then-not-contains
returns-then-not-contains c = no_number c.loop-k.invariant c.loop-k-test.true (λ low high. grind (arith, common_steps))

-- it is one, and so at most 1,024
numbered : (c : Else-not-contains) → (1 ≤ c.from-place.result) × (c.from-place.result ≤ length c.args.plan.now)
numbered c = (grind (arith, common_steps), grind (arith, common_steps))

small : (c : Else-not-contains) → c.from-place.result ≤ max_lines
small c = omega (arith, (numbered c).1, (formed c.requires).few)

pub bounds-notes-place : goal.bounds-notes-place
bounds-notes-place c = omega (arith, small (goal.at.bounds-notes-place c).Else-not-contains)

-- what the line counts as
counted : (c : After-plain-l) → Names c.args.plan.now c.from-place.result c.plain-l.result
counted c =
    let n = numbered (goal.at.After-plain-l c).Else-not-contains in
    named (formed c.requires) c.from-place.result c.plain-l.result c.requires.tabled.agains n.0 n.1 c.plain-l.ensures

pub is_next-requires : goal.is_next-requires
is_next-requires c =
    counted_job (formed c.requires) c.from-place.result c.plain-l.result
    (counted (goal.at.is_next-requires c).After-plain-l)

-- it is no legal step
pub returns-then-not-is_next : goal.returns-then-not-is_next
returns-then-not-is_next c =
    no_step c.loop-k.invariant c.loop-k-test.true
    (rw c.from-place.ensures at (counted (goal.at.returns-then-not-is_next c).After-plain-l))
    (sym (rw c.from-n.ensures at c.if-not-is_next.ensures))

pub pass-requires : goal.pass-requires
pass-requires c =
    let n = c.from-place.result in
    let line = counted (goal.at.pass-requires c).After-plain-l in
    record {
      job = counted_job (formed c.requires) n c.plain-l.result line;
      started = counted_start (formed c.requires) n c.plain-l.result line;
      number = omega (arith, small (goal.at.pass-requires c).Else-not-contains);
    }

-- it is done
pub loop-k-preserved : goal.loop-k-preserved
loop-k-preserved c =
    follows_on_lem c.loop-k.invariant c.loop-k-test.true
    (rw c.from-place.ensures at (counted (goal.at.loop-k-preserved c).After-plain-l))
    (sym (rw c.from-n.ensures at c.if-not-is_next.ensures)) (rw c.from-n.ensures at c.pass.ensures.next)
    (rw c.pass.ensures.held at c.held_after-state.ensures)

-- no entry is left
pub returns : goal.returns
returns c =
    let z : c.loop-k.k ≡ length c.args.order.now = omega arith in
    rw (← z) (all_passed c.loop-k.invariant c.loop-k-test.false)

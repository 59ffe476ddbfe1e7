-- What `find` finds under the take.
use Rattle.std.proofs.Common.{◌≡◌, ◌+◌, ◌-◌, rules, refl, ◌∙◌, arith}
use Rattle.std.proofs.lemmas.Iterator.{YieldsList-from_range}
use Rattle.std.proofs.lemmas.Iterator.Search.{find_from_yields_List}
use Rattle.model.specs.Lists.{first_of}
use Rattle.mates.specs.Found.{found}
use Rattle.way.specs.Back.{under_by}
use Rattle.way.specs.Join.{stale_by}
use Rattle.way.proofs.Walks.{found_is, same_option}
use Rattle.way.proofs.Unders.{none_under, under_is}
use Rattle.way.proofs.stale_under.Goals as goal

pub returns-then-stop-i : goal.returns-then-stop-i
returns-then-stop-i c =
    let a = c.args in
    let n = a.tables.now in
    none_under a.plan.now a.sets.now a.i a.stop (stale_by a.plan.now n.again.now n.first.now a.sets.now)
    c.min-end.result c.min-end.ensures c.then-stop-i.either

pub returns : goal.returns
unfolding stale_by
returns c =
    let a = c.args in
    let n = a.tables.now in
    let test = stale_by a.plan.now n.again.now n.first.now a.sets.now in
    let told : c.find.result ≡ found (first_of test (under_by a.plan.now a.sets.now a.i a.stop)) = rw
    (found_is, under_is a.plan.now a.sets.now a.i a.stop (omega (arith, c.min-end.ensures)))
    (same_option c.find.result
    ∙ find_from_yields_List test c.find.new.self _ c.find.result c.find.ensures.ran
    (YieldsList-from_range (a.i + 1) a.stop (a.stop - (a.i + 1)) refl refl) (λ x b q h. search (rules, h))) in
    search (rules, told)

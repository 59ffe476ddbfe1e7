-- What `find` finds along the way.
use Rattle.std.proofs.Common.{◌≡◌, rules, ◌∙◌}
use Rattle.std.proofs.lemmas.Iterator.Search.{find_from_yields_List}
use Rattle.std.proofs.lemmas.Iterator.Consumers.{YieldsList-from_first}
use Rattle.std.proofs.lemmas.Iterator.Adapters.{serves_from_places}
use Rattle.model.specs.Lists.{first_of}
use Rattle.mates.specs.Found.{found}
use Rattle.way.specs.Back.{way_by}
use Rattle.way.specs.Join.{stale_by}
use Rattle.way.specs.Way.{lines_left}
use Rattle.way.proofs.Walks.{found_is, same_option, on_way_within}
use Rattle.way.proofs.stale_line.Goals as goal

pub find-requires-clause-callable : goal.find-requires-clause-callable
find-requires-clause-callable c =
    let a = c.args in
    let n = a.tables.now in
    serves_from_places
    (YieldsList-from_first (λ x. x) lines_left (way_by a.plan.now a.sets.now n.starter.now a.i) c.new.ensures)
    (λ x q h. search (rules, h))
    (λ x k lt e y f. let w = on_way_within a.plan.now a.sets.now n.starter.now a.i k x lt e in search (rules, w))

pub returns : goal.returns
unfolding stale_by
returns c =
    let a = c.args in
    let n = a.tables.now in
    let test = stale_by a.plan.now n.again.now n.first.now a.sets.now in
    let lines = way_by a.plan.now a.sets.now n.starter.now a.i in
    let told : c.find.result ≡ found (first_of test lines) = rw found_is
    (same_option c.find.result
    ∙ find_from_yields_List test c.find.new.self _ c.find.result c.find.ensures.ran
    (YieldsList-from_first (λ x. x) lines_left lines c.new.ensures) (λ x b q h. search (rules, h))) in
    search (rules, told)

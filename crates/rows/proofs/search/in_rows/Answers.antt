use Rattle.std.proofs.Common.{◌≡◌, rules, ◌∙◌}
use Rattle.std.specs.List.{fold}
use Rattle.model.specs.Sets.{empty, union}
use Rattle.rows.proofs.Looked.{rows_joined}
use Rattle.rows.proofs.search.in_rows.Goals as goal

pub returns : goal.returns
unfolding empty
returns c =
    let rs = c.args.rows.now in
    let e : c.fold.result ≡ fold (λ stand row. union row stand) empty rs = search rules in
    e ∙ rows_joined rs

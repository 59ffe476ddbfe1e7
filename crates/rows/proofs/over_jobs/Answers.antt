-- What is found is that of all sets.
use Rattle.std.proofs.Common.{◌≡◌, rules}
use Rattle.std.specs.List.{fold}
use Rattle.std.proofs.lemmas.Iterator.{YieldsList-from_slice}
use Rattle.std.proofs.lemmas.Iterator.Consumers.{fold_from_yields_List}
use Rattle.rows.specs.Holds.{held_with}
use Rattle.rows.proofs.Unions.{none_held, all_held}
use Rattle.rows.proofs.over_jobs.Goals as goal
use Rattle.rows.proofs.over_jobs.Goals.{After-fold}

is_fold : (c : After-fold) → c.fold.result ≡ fold held_with none_held c.args.holdings.now
is_fold c =
    fold_from_yields_List _ held_with none_held c.fold.result c.fold.ensures.ran
    (YieldsList-from_slice c.args.holdings.now cc) (λ a x b q k. search rules)

pub returns-clause-held : goal.returns-clause-held
returns-clause-held c = rw (is_fold c) (all_held c.args.holdings.now).0

pub returns-clause-twice : goal.returns-clause-twice
returns-clause-twice c = rw (is_fold c) (all_held c.args.holdings.now).1

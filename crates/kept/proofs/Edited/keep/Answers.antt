use Rattle.std.proofs.Common.{◌≡◌, ℕ, List, get_or, set, ap}
use Rattle.model.specs.Board.{devices}
use Rattle.model.specs.Sets.{empty, union}
use Rattle.sets.specs.Only.{only_of}
use Rattle.way.specs.Back.{way_by}
use Rattle.way.specs.Flagged.{flagged_by}
use Rattle.kept.specs.Gathered.{GathersAs}
use Rattle.kept.specs.Keeping.{rows_over, held_with, concerned_by, KeepsAs}
use Rattle.kept.proofs.Edited.keep.Goals as goal

-- the calls, one after the other
kept : (p starter t : List ℕ) (last old device : ℕ) (rs held : List ℕ) {to_end way one other both concerned : ℕ}
    {made flags rs' : List ℕ} {without with : ℕ} → GathersAs p t to_end made flags
    → way ≡ flagged_by p flags (way_by p t starter last) empty → one ≡ only_of devices old
    → other ≡ only_of devices device
    → both ≡ union other way → concerned ≡ union one both → rs' ≡ rows_over concerned made rs
    → without ≡ held_with (get_or held 0 0) to_end old → with ≡ held_with without to_end device
    → KeepsAs p starter t last old device rs held rs' (set held 0 with)
unfolding concerned_by
kept p starter t last old device rs held g e1 e2 e3 e4 e5 e6 e7 e8 = record {
  rows_are = cc (g.rows_are, g.flags_are);
  held_is = ap (set held 0) (cc g.held_is);
}

pub returns-clause-kept : goal.returns-clause-kept
returns-clause-kept c =
    let a = c.args in
    let e = a.self.now in
    kept e.plan.now e.notes.now.starter e.sets.now e.last a.old a.device a.rows.now a.held.now
    c.gather-to_end.ensures c.flagged_devices-on_way.ensures c.only.ensures c.only-2.ensures
    c.union.ensures c.union-concerned.ensures c.put_rows.ensures c.with_device.ensures
    c.with_device-2.ensures

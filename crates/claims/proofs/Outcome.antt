-- The three outcomes of `table`, by what its tests found (01, "Refusal numbers").
use Prim.Native.Nat.{ℕ, ◌<◌, ◌≤◌}
use Rattle.std.specs.Prelude.{Ok, Err}
use mathlib.Core.List.{List}
use mathlib.Core.Option.{none, some}
use mathlib.Core.Path.{◌≡◌, refl}
use lib.ListN.{length}
use borrow.Author.Tests.{lt-ltb, le-ltb}
use Rattle.model.specs.Lists.{over}
use Rattle.model.specs.Answers.{refuse_if, first_refusal, too_short}
use Rattle.model.specs.WellFormed.{fault}
use Rattle.model.specs.Claims.{table}
use Rattle.model.specs.Entries.{outcome, tabling}
use Rattle.model.specs.Board.{board}
use Rattle.model.specs.declared.Refusal.{Refusal}
use Rattle.model.specs.declared.Refusal.TheVariants.{ListTooShort}
use Rattle.promises.specs.Table.{TablesAs}
use Rattle.promises.proofs.Tight.{meets}

module _ (p lent : List ℕ) where
  -- 2 to 7
  pub faulty : (r : Refusal) → fault board p ≡ some r → TablesAs board p lent (Err r) lent
  unfolding tabling outcome first_refusal
  faulty r e = rw e (meets refl refl)

  -- 11
  pub short : fault board p ≡ none → length lent < length p
      → TablesAs board p lent (Err (ListTooShort (length p))) lent
  unfolding tabling outcome first_refusal too_short refuse_if
  short e h = rw (e, lt-ltb (length lent) (length p) h) (meets refl refl)

  -- the table
  pub tabled : (left : List ℕ) → fault board p ≡ none → length p ≤ length lent → left ≡ over (table p) lent
      → TablesAs board p lent (Ok (length p)) left
  unfolding tabling outcome first_refusal too_short refuse_if
  tabled left e h l = rw (e, le-ltb (length lent) (length p) h) (meets refl l)

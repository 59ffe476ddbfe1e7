-- The three outcomes of `write`, by what its tests found (01, "Refusal numbers").
use Prim.Native.Nat.{ℕ, ◌<◌, ◌≤◌}
use Rattle.std.specs.Prelude.{Ok, Err}
use mathlib.Core.List.{List, [], ◌∷◌}
use mathlib.Core.Option.{Option, none, some}
use mathlib.Core.Path.{◌≡◌}
use native.Mathlib.Omega.{arith}
use lib.ListN.{length}
use borrow.Author.Tests.{lt-ltb, le-ltb}
use Rattle.model.specs.Lists.{over}
use Rattle.model.specs.Answers.{refuse_if, first_refusal, too_short}
use Rattle.model.specs.Board.{board}
use Rattle.model.specs.Line.{max_bytes}
use Rattle.model.specs.Text.{text_of}
use Rattle.model.specs.WellFormed.{fault}
use Rattle.model.specs.Entries.{writing}
use Rattle.model.specs.declared.Refusal.{Refusal}
use Rattle.model.specs.declared.Refusal.TheVariants.{ListTooShort}
use Rattle.theory.proofs.Text.{text_length}
use Rattle.theory.proofs.WellFormed.{no_fault_exactly}
use Rattle.promises.specs.Text.{WritesAs}
use Rattle.promises.proofs.Tight.{by_refusal, by_none}

-- the text of a plan without a fault has at most so many bytes
pub text_fits : (p : List ℕ) → fault board p ≡ none → length (text_of p) ≤ max_bytes
text_fits p e =
    let w = (no_fault_exactly board p).0 e in omega (arith, text_length board p w.lines, w.few)

module _ (p lent : List ℕ) where
  tests : Option Refusal
  tests = first_refusal (fault board p ∷ too_short (length lent) (length (text_of p)) ∷ [])

  refused : (r : Refusal) → tests ≡ some r → WritesAs board p lent (Err r) lent
  unfolding writing tests
  refused r e =
      by_refusal Err (Ok (length (text_of p))) (over (text_of p) lent) lent tests r e

  -- 2 to 7
  pub faulty : (r : Refusal) → fault board p ≡ some r → WritesAs board p lent (Err r) lent
  unfolding tests first_refusal
  faulty r e = refused r (rw e)

  -- where no test of the plan refused
  module _ (e : fault board p ≡ none) (n : ℕ) (f : n ≡ length (text_of p)) where
    -- 11
    pub short : length lent < n → WritesAs board p lent (Err (ListTooShort n)) lent
    unfolding tests first_refusal too_short refuse_if
    short h = refused (ListTooShort n) (rw (e, ← f, lt-ltb (length lent) n h))

    -- the text
    pub written : n ≤ length lent → (left : List ℕ) → left ≡ over (text_of p) lent → WritesAs board p lent (Ok n) left
    unfolding writing tests first_refusal too_short refuse_if
    written h left l =
        rw f
        (by_none Err (Ok (length (text_of p))) (over (text_of p) lent) lent tests left
        (rw (e, ← f, le-ltb (length lent) n h)) l)

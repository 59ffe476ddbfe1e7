-- What was read from a text into a list of 1,024 (01, "The plan as text" and "Refusal numbers"), for those that read a
-- text and then go on with its plan: a refusal is the text's fault, since the list is long enough for every plan;
-- otherwise the text has no fault, and the plan that it spells stands in front of the list.
use Prim.Native.Nat.{ℕ, ◌≤◌}
use Rattle.std.specs.Prelude.{Result, Ok, Err}
use mathlib.Core.List.{List}
use mathlib.Core.Option.{none, some}
use mathlib.Core.Path.{◌≡◌}
use native.Mathlib.Omega.{arith}
use lib.ListN.{length, take}
use Rattle.model.specs.Line.{Settings, max_lines}
use Rattle.model.specs.Text.{spelt}
use Rattle.model.specs.WellFormed.{fault}
use Rattle.model.specs.Entries.{text_fault}
use Rattle.model.specs.declared.Refusal.{Refusal}
use Rattle.theory.proofs.Text.{text_fault_exactly}
use Rattle.theory.proofs.WellFormed.{no_fault_exactly}
use Rattle.promises.specs.Outcome.{faulty, short, further}
use Rattle.promises.specs.Text.{ReadsAs, NotRead, IsRead}
use Rattle.promises.proofs.Text.{read_entry, read_refused_exactly, read_leaves, front_of}

module _ (S : Settings) (text lent : List ℕ) {a : Result ℕ Refusal} {left : List ℕ}
    (m : ReadsAs S text lent a left) where
  pub read_fault : length lent ≡ max_lines → (r : Refusal) → a ≡ Err r → text_fault S text ≡ some r
  read_fault long r q = go r ((read_refused_exactly S text lent a left m r).0 q)
    where
      go : (r : Refusal) → NotRead S text lent r → text_fault S text ≡ some r
      go r (faulty s b) = (text_fault_exactly S text s).1 b
      go r (short s h) = absurd (omega (arith, s.1.few))
      go r (further s b h f) = absurd f

  module _ {n : ℕ} (q : a ≡ Ok n) where
    is_read : IsRead S text lent n left
    is_read = read_leaves S text lent n left (rw q at m)

    pub read_counts : n ≡ length (spelt S text)
    read_counts = is_read.counts

    pub read_few : n ≤ max_lines
    read_few = omega (arith, is_read.counts, is_read.sound.1.few)

    pub no_fault_read : text_fault S text ≡ none
    no_fault_read = (read_entry S text lent).sound.1 is_read.sound

    pub well_formed_read : fault S (spelt S text) ≡ none
    well_formed_read = (no_fault_exactly S (spelt S text)).1 is_read.sound.1

    pub front_read : take n left ≡ spelt S text
    front_read = front_of (spelt S text) lent left n is_read.counts is_read.leaves

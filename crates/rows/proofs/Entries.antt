-- The entries of a list made over places, by their places.
use Rattle.std.proofs.Common.{◌≡◌, ℕ, zero, suc, ◌+◌, ◌<◌, map, length, get_or, sym, ap, ◌∙◌, add-zero, zero-add, arith}
use lib.ListN.{length-map}
use Rattle.model.specs.Lists.{up_from}
use Rattle.theory.proofs.Claims.{length_up_from}

module _ {A : Type 0} (f : ℕ → A) (d : A) where
  pub entry_at : (a n i : ℕ) → i < n → get_or (map f (up_from a n)) i d ≡ f (a + i)
  unfolding up_from
  entry_at a zero i h = absurd (omega arith)
  entry_at a (suc n) zero h = ap f (sym (add-zero a))
  entry_at a (suc n) (suc i) h = entry_at (suc a) n i (omega arith) ∙ ap f (omega arith)

  pub entry_of : (n i : ℕ) → i < n → get_or (map f (up_from 0 n)) i d ≡ f i
  entry_of n i h = entry_at 0 n i h ∙ ap f (zero-add i)

  pub length_entries : (a n : ℕ) → length (map f (up_from a n)) ≡ n
  length_entries a n = length-map (up_from a n) f ∙ length_up_from a n

-- Unions over a list as code makes them, from the first element on. Sets with the same members are the same, whatever
-- the number of devices.
use Rattle.std.proofs.Common.{◌≡◌, ℕ, zero, suc, ◌+◌, ◌^◌, ◌<◌, Bool, true, false, ◌&&◌, ◌||◌, List, [], ◌∷◌, sym}
use Rattle.std.proofs.Common.{refl}
use Rattle.std.proofs.Common.{◌∙◌, arith}
use Rattle.std.specs.List.{fold}
use native.Mathlib.Nat.{pow-suc, lt_of_lt_of_le}
use lib.Pow.{pow_mono}
use lib.Bits.{and_zero_l, and_zero_r}
use Rattle.model.specs.Sets.{empty, union, union_of, member}
use Rattle.theory.proofs.Sets.{member_union, same_members}
use Rattle.sets.specs.Both.{both}
use Rattle.sets.proofs.Members.{member_both}
use Rattle.claims.proofs.Joining.{union_none, none_union}
use Rattle.rows.specs.Twice.{twice_in}
use Rattle.rows.specs.declared.Held.{Held}
use Rattle.rows.specs.Holds.{held_with}

none_both : (s : ℕ) → both empty s ≡ empty
unfolding both empty
none_both s = and_zero_l s

both_none : (s : ℕ) → both s empty ≡ empty
unfolding both empty
both_none s = and_zero_r s

under_power : (n : ℕ) → n < 2 ^ n
under_power zero = omega arith
under_power (suc n) = omega (arith, pow-suc 2 n, under_power n)

pub same_sets : (s t : ℕ) → ((d : ℕ) → member s d ≡ member t d) → s ≡ t
same_sets s t f =
    same_members (s + t) s t (lt_of_lt_of_le (under_power s) (pow_mono (omega arith)))
    (lt_of_lt_of_le (under_power t) (pow_mono (omega arith))) (λ d l. f d)

pub union_swap : (s t u : ℕ) → union s (union t u) ≡ union (union t s) u
union_swap s t u =
    same_sets (union s (union t u)) (union (union t s) u)
    (λ d. simp member_union (go (member s d) (member t d) (member u d)))
  where
    go : (a b c : Bool) → (a || (b || c)) ≡ ((b || a) || c)
    go true true c = refl
    go true false c = refl
    go false true c = refl
    go false false c = refl

-- each set is joined to those before it
pub folded : (ss : List ℕ) (s : ℕ) → fold (λ t u. union u t) s ss ≡ union (union_of ss) s
unfolding union_of
folded [] s = sym (none_union s)
folded (x ∷ ss) s = folded ss (union x s) ∙ union_swap (union_of ss) x s

pub all_joined : (ss : List ℕ) → fold (λ t u. union u t) empty ss ≡ union_of ss
all_joined ss = folded ss empty ∙ union_none (union_of ss)

-- ---- and the devices that are in two of them

module _ (h : Held) (s : ℕ) (ss : List ℕ) where
  held_swap : union (both (union s h.held) (union_of ss)) (union (union (both h.held s) h.twice) (twice_in ss))
      ≡ union (both h.held (union s (union_of ss))) (union h.twice (union (both s (union_of ss)) (twice_in ss)))
  held_swap =
      same_sets _ _
      (λ d. simp (member_union, member_both)
      (go (member h.held d) (member s d) (member (union_of ss) d) (member h.twice d) (member (twice_in ss) d)))
    where
      go : (h s u w t : Bool)
          → (((s || h) && u) || (((h && s) || w) || t)) ≡ ((h && (s || u)) || (w || ((s && u) || t)))
      go true true true w t = refl
      go true true false w t = refl
      go true false true w t = refl
      go true false false w t = refl
      go false true true true t = refl
      go false true true false t = refl
      go false true false w t = refl
      go false false u w t = refl

-- each set is joined to those before it, with what it shares with them
held_from : (ss : List ℕ) (h : Held) → (union (union_of ss) h.held ≡ (fold held_with h ss).held)
    × (union (both h.held (union_of ss)) (union h.twice (twice_in ss)) ≡ (fold held_with h ss).twice)
unfolding union_of twice_in
held_from [] h =
    (none_union h.held, rw (both_none h.held) (none_union (union h.twice empty) ∙ union_none h.twice))
held_from (s ∷ ss) h =
    let r = held_from ss (held_with h s) in
    (sym (union_swap (union_of ss) s h.held) ∙ r.0, sym (held_swap h s ss) ∙ r.1)

abbrev pub none_held : Held
none_held = record { held = 0; twice = 0 }

pub all_held : (ss : List ℕ) → ((fold held_with none_held ss).held ≡ union_of ss)
    × ((fold held_with none_held ss).twice ≡ twice_in ss)
unfolding empty
all_held ss =
    let r = held_from ss none_held in
    (sym r.0 ∙ union_none (union_of ss), sym r.1 ∙ rw (none_both (union_of ss)) (none_union _ ∙ none_union _))

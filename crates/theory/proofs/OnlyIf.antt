-- If some order is legal, no device is kept by two lines and no device leads back to itself. The argument: every
-- take of a device stands at or before its lasting take, so along rows the places of lasting takes grow, and round a
-- circle a place would come after itself.
use Prim.Native.Nat.{ℕ, suc, ◌+◌, ◌<◌, ◌≤◌}
use mathlib.Core.Bool.{true, false}
use mathlib.Core.List.{List}
use mathlib.Core.Logic.{◌⊎◌, inl, inr, ◌≢◌}
use mathlib.Core.Path.{◌≡◌, sym, ◌∙◌, ap, subst}
use native.Mathlib.Decide.{ℕ_discrete}
use native.Mathlib.Omega.{arith}
use lib.ListN.{length, get_or, length-map}
use Rattle.model.specs.Lists.{up_from, positions}
use Rattle.model.specs.Sets.{member}
use Rattle.model.specs.Line.{holds, at}
use Rattle.model.specs.Mate.{takes, lasting, held_at}
use Rattle.model.specs.WellFormed.{Rules}
use Rattle.model.specs.Legal.{Legal}
use Rattle.model.specs.Claims.{table, beyond}
use Rattle.model.specs.Rows.{lasting_takes, row_of, rows, Leads, once, more}
use Rattle.theory.specs.Verdict.{LastsTwice}
use Rattle.theory.proofs.Lists.{position_has, has_those, those_has}
use Rattle.theory.proofs.Sets.{in_union_of, union_of_in}
use Rattle.theory.specs.Claims.{Reach, here, step}
use Rattle.theory.proofs.Claims.{claims_are_reached, in_beyond, takes_line, length_up_from}
use Rattle.theory.proofs.Claims.{get_or_up_from}
use Rattle.theory.proofs.Successors.{successor_after}
use Rattle.theory.proofs.Rows.{row_below}
use Rattle.theory.proofs.Places.{place, stands_before, lasting_is_last, lasting_parts, keeps_parts}
use Rattle.theory.proofs.Places.{keeps_lasting}
use Rattle.theory.proofs.Places.{kept_untaken}
use Rattle.theory.proofs.Grips.{takes_no_held, after_step, Grips, by_take, by_held, gripping}
use Rattle.theory.proofs.Tests.{clash, le_or_lt}

-- ---- members of a row

pub record InRow (p : List ℕ) (d e : ℕ) : Type 0 where
  pub i : ℕ
  pub lasts : lasting p i d ≡ true
  pub claims : member (beyond p (table p) i) e ≡ true

pub row_is : (D : ℕ) (p : List ℕ) (d : ℕ) → d < D → get_or (rows D p) d 0 ≡ row_of p (table p) d
unfolding rows
row_is D p d h = get_or_up_from (row_of p (table p)) 0 D d h ∙ ap (row_of p (table p)) (omega arith)

pub length_rows : (D : ℕ) (p : List ℕ) → length (rows D p) ≡ D
unfolding rows
length_rows D p = length-map (up_from 0 D) (row_of p (table p)) ∙ length_up_from 0 D

pub row_device : (D : ℕ) (p : List ℕ) (d e : ℕ) → member (get_or (rows D p) d 0) e ≡ true → d < D
row_device D p d e m = rw (length_rows D p) at (row_below (rows D p) d e m)

pub in_row : (D : ℕ) (p : List ℕ) (d e : ℕ) → member (get_or (rows D p) d 0) e ≡ true → InRow p d e
unfolding row_of lasting_takes
in_row D p d e m =
    let r = in_union_of (beyond p (table p)) (lasting_takes p d) e (rw (row_is D p d (row_device D p d e m)) at m) in
    record { i = r.0; lasts = (has_those (λ i. lasting p i d) (positions p) r.0 r.1).1; claims = r.2 }

pub row_in_lem : (D : ℕ) (p : List ℕ) (d e i : ℕ) → d < D → lasting p i d ≡ true
    → member (beyond p (table p) i) e ≡ true
    → member (get_or (rows D p) d 0) e ≡ true
unfolding row_of lasting_takes
row_in_lem D p d e i h l m =
    rw (row_is D p d h)
    (union_of_in (beyond p (table p)) (lasting_takes p d) i e
    (those_has (λ i. lasting p i d) (positions p) i
    (position_has p i (takes_line p i d (lasting_parts p i d l).0)) l) m)

-- ---- places along successors and rows

module _ (D : ℕ) (p o : List ℕ) (rules : Rules p) (legal : Legal p o) where
  along : (i j : ℕ) → Reach p i j → i < length p → held_at p i ≡ false → place o i ≤ place o j
  along i j (here k) h n = omega arith
  along i j (step k a l s r) h n =
      let q = successor_after p k a s in
      let f = after_step p rules k (suc k + a) q.1 n in
      omega (arith, stands_before p o legal k (suc k + a) h q.0 n f q.1, along (suc k + a) l r q.0 f)

  -- what is claimed past a step is taken at a later place
  past : (i e : ℕ) → i < length p → held_at p i ≡ false → member (beyond p (table p) i) e ≡ true
      → (j : ℕ) × (takes p j e ≡ true) × (place o i < place o j)
  past i e h n m =
      let r = in_beyond p i e m in
      let q = successor_after p i r.0 r.1 in
      let g = after_step p rules i (suc i + r.0) q.1 n in
      let f = (claims_are_reached p (suc i + r.0) e).0 r.2 in
      let first = stands_before p o legal i (suc i + r.0) h q.0 n g q.1 in
      (f.j, f.taken, omega (arith, first, along (suc i + r.0) f.j f.way q.0 g))

  -- a lasting take of d stands before each lasting take of a device in the row of d
  one_step : (d e t : ℕ) → member (get_or (rows D p) d 0) e ≡ true → lasting p t e ≡ true
      → (s : ℕ) × (lasting p s d ≡ true) × (place o s < place o t)
  one_step d e t m l =
      let r = in_row D p d e m in
      let k = (lasting_parts p r.i d r.lasts).0 in
      let f = past r.i e (takes_line p r.i d k) (takes_no_held p r.i d k) r.claims in
      (r.i, r.lasts, at_or_before r.i f.0 f.1 f.2 (ℕ_discrete f.0 t))
    where
      at_or_before : (s j : ℕ) → takes p j e ≡ true → place o s < place o j → Dec (j ≡ t) → place o s < place o t
      at_or_before s j k b (yes q) = subst (λ (x : ℕ). place o s < place o x) q b
      at_or_before s j k b (no q) = omega (arith, lasting_is_last p o legal t j e l k q)

  leads_before : (d f t : ℕ) → Leads (rows D p) d f → lasting p t f ≡ true
      → (s : ℕ) × (lasting p s d ≡ true) × (place o s < place o t)
  leads_before d f t (once a b m) l = one_step a b t m l
  leads_before d f t (more a b c m r) l =
      let u = leads_before b c t r l in
      let v = one_step a b u.0 m u.1 in (v.0, v.1, omega (arith, u.2, v.2))

  has_lasting : (d f : ℕ) → Leads (rows D p) d f → (i : ℕ) × (lasting p i d ≡ true)
  has_lasting d f (once a b m) = let r = in_row D p a b m in (r.i, r.lasts)
  has_lasting d f (more a b c m l) = let r = in_row D p a b m in (r.i, r.lasts)

  two_takes : (i k d : ℕ) → i ≢ k → lasting p i d ≡ true → lasting p k d ≡ true → ⊥
  two_takes i k d n l m =
      omega (
        arith,
        lasting_is_last p o legal i k d l (lasting_parts p k d m).0 (λ e. n (sym e)),
        lasting_is_last p o legal k i d m (lasting_parts p i d l).0 n,
      )

  two_held : (i k d : ℕ) → i ≢ k → holds (at p i) d ≡ true → holds (at p k) d ≡ true → ⊥
  two_held i k d n h g = go (le_or_lt i k)
    where
      go : (i ≤ k) ⊎ (k < i) → ⊥
      go (inl a) = clash (holds (at p i) d) h (rules.held_once k i d (omega (arith, n)) g)
      go (inr a) = clash (holds (at p k) d) g (rules.held_once i k d a h)

  pub no_two_lasting : (d : ℕ) → LastsTwice p d → ⊥
  no_two_lasting d t =
      go (gripping p t.i d (keeps_parts p t.i d t.i_lasts).0)
      (gripping p t.k d (keeps_parts p t.k d t.k_lasts).0)
    where
      go : Grips p t.i d → Grips p t.k d → ⊥
      go (by_take a) (by_take b) =
          two_takes t.i t.k d t.apart (keeps_lasting p t.i d a t.i_lasts)
          (keeps_lasting p t.k d b t.k_lasts)
      go (by_take a) (by_held b e) = kept_untaken p o legal t.k t.i d b t.k_lasts a
      go (by_held a e) (by_take b) = kept_untaken p o legal t.i t.k d a t.i_lasts b
      go (by_held a e) (by_held b f) = two_held t.i t.k d t.apart e f

  pub no_circle : (d : ℕ) → Leads (rows D p) d d → ⊥
  no_circle d c =
      let t = has_lasting d d c in
      let s = leads_before d d t.0 c t.1 in
      two_takes s.0 t.0 d (λ e. omega (arith, s.2, ap (place o) e)) s.1 t.1

-- The theorem: a plan with a legal order has no device that two lines keep and none that leads back to itself. (What
-- else it has not: `Segments`.)
pub legal_excludes : (D : ℕ) (p o : List ℕ) → Rules p → Legal p o
    → (d : ℕ) → (LastsTwice p d → ⊥) × (Leads (rows D p) d d → ⊥)
legal_excludes D p o rules legal d = (no_two_lasting D p o rules legal d, no_circle D p o rules legal d)

-- What an edit keeps of lasting takes and rows. Of a device that is neither the old one nor the new one the edited plan
-- has the same takes, outermost and lasting ones. A device that the move does not concern has no lasting take among the
-- lines that may change, so none has a successor among them, and its row is joined from sets that stay: of any table,
-- own or not, the rewritten one gives the edited plan the row that the table gave the plan.
use Prim.Native.Nat.{ℕ, zero, suc, ◌+◌, ◌<◌}
use mathlib.Core.Bool.{Bool, true, false, ◌&&◌, ◌||◌}
use mathlib.Core.List.{List, [], ◌∷◌, map}
use mathlib.Core.Logic.{◌⊎◌, inl, inr}
use mathlib.Core.Option.{some}
use mathlib.Core.Path.{◌≡◌, refl, sym, ◌∙◌, ap}
use native.Mathlib.Omega.{arith}
use lib.Dec.{eqb}
use lib.ListN.{length, get_or, take, drop, get_elem?}
use lib.Seq.{get_or-take}
use borrow.Author.Tests.{eqb-true, eq-eqb, eqb-false}
use Rattle.model.specs.Lists.{up_from, positions, any, has}
use Rattle.model.specs.Sets.{union_of}
use Rattle.model.specs.Line.{job, opens, is_take, device_of, at}
use Rattle.model.specs.WellFormed.{held_there, Rules}
use Rattle.model.specs.Mate.{device_at, holds_already, takes, mate_in, mate, is_none, lasting}
use Rattle.model.specs.Claims.{table, beyond}
use Rattle.model.specs.Rows.{lasting_takes, row_of}
use Rattle.model.specs.Move.{may_change, from_last, rewritten}
use Rattle.model.specs.Kept.{lasts_among, lasts_in, concerned}
use Rattle.theory.proofs.Tests.{clash, test, or_neither, tests_agree}
use Rattle.theory.proofs.Lists.{has_head, has_tail, has_those, those_same, any_none}
use Rattle.theory.proofs.Line.{take_opens}
use Rattle.theory.proofs.Claims.{outermost, makes_take, takes_parts}
use Rattle.theory.proofs.Successors.{successor_after}
use Rattle.theory.proofs.Mate.{open_takes, open_is, held_open}
use Rattle.theory.proofs.Edited.{Alike, EditOf, alike_drop, alike_tail, same_opens, same_take}
use Rattle.theory.proofs.Edited.{same_give, same_open, same_successors, take_kept, new_device}
use Rattle.theory.proofs.Way.{from_last_same, from_last_off}
use Rattle.theory.proofs.Move.{beyond_same, rewritten_off}

-- ---- tests and lists

pub eqb_turned : (x y : ℕ) → eqb x y ≡ eqb y x
eqb_turned x y =
    tests_agree (eqb x y) (eqb y x) (λ h. eq-eqb y x (sym (eqb-true x y h))) (λ h. eq-eqb x y (sym (eqb-true y x h)))

pub map_same : (f g : ℕ → ℕ) (xs : List ℕ) → ((k : ℕ) → has k xs ≡ true → f k ≡ g k) → map f xs ≡ map g xs
map_same f g [] h = refl
map_same f g (x ∷ xs) h = cc (h x (has_head x xs), map_same f g xs (λ k m. h k (has_tail k x xs m)))

pub any_same : (f g : ℕ → Bool) (xs : List ℕ) → ((k : ℕ) → f k ≡ g k) → any f xs ≡ any g xs
unfolding any
any_same f g [] h = refl
any_same f g (x ∷ xs) h = rw (h x, any_same f g xs h)

has_mapped : (x : ℕ) (f g : ℕ → ℕ) (xs : List ℕ) → ((n u : ℕ) → get_elem? xs n ≡ some u → eqb x (f u) ≡ eqb x (g u))
    → has x (map f xs) ≡ has x (map g xs)
unfolding has
has_mapped x f g [] h = refl
has_mapped x f g (y ∷ ys) h = rw (h 0 y refl, has_mapped x f g ys (λ n. h (suc n)))

-- ---- mates

same_mate_in : (j d a : ℕ) (p q : List ℕ) → Alike p q → mate_in j d a q ≡ mate_in j d a p
unfolding mate_in
same_mate_in j d a [] [] al = refl
same_mate_in j d a [] (m ∷ ms) al = absurd (omega (arith, al.long))
same_mate_in j d a (l ∷ ls) [] al = absurd (omega (arith, al.long))
same_mate_in j zero a (l ∷ ls) (m ∷ ms) al =
    let rest = alike_tail l m ls ms al in
    cc (
      al.jobs 0,
      same_opens (l ∷ ls) (m ∷ ms) al 0,
      same_give (l ∷ ls) (m ∷ ms) al 0,
      same_mate_in j 1 (suc a) ls ms rest,
      same_mate_in j 0 (suc a) ls ms rest,
    )
same_mate_in j (suc d) a (l ∷ ls) (m ∷ ms) al =
    let rest = alike_tail l m ls ms al in
    cc (
      al.jobs 0,
      same_opens (l ∷ ls) (m ∷ ms) al 0,
      same_give (l ∷ ls) (m ∷ ms) al 0,
      same_mate_in j (suc (suc d)) (suc a) ls ms rest,
      same_mate_in j (suc d) (suc a) ls ms rest,
      same_mate_in j d (suc a) ls ms rest,
    )

pub same_mate : (p q : List ℕ) → Alike p q → (k : ℕ) → mate q k ≡ mate p k
unfolding mate
same_mate p q a k =
    rw (a.jobs k) (same_mate_in (job (at p k)) 0 (suc k) (drop (suc k) p) (drop (suc k) q) (alike_drop (suc k) p q a))

-- ---- a device that is neither the old one nor the new one

both_tests : (a b c d : Bool) → a ≡ b → c ≡ d → (a && c) ≡ (b && d)
both_tests a b c d e f = cc

-- whether its job holds the device that a line names
holds_device : (p : List ℕ) (k x : ℕ) → device_at p k ≡ x → holds_already p k ≡ has x (held_there p k)
unfolding holds_already
holds_device p k x e = ap (λ (y : ℕ). has y (held_there p k)) e

module _ (p q : List ℕ) (i e x : ℕ) (t : is_take (at p i) ≡ true) (d : EditOf p i e q)
    (not_old : eqb x (device_at p i) ≡ false) (not_new : eqb x e ≡ false) where
  -- a take or a held line names it in both plans or in neither
  named_same : (u : ℕ) → opens (at p u) ≡ true → eqb x (device_at q u) ≡ eqb x (device_at p u)
  unfolding device_at
  named_same u v = go (test (eqb u i))
    where
      go : (eqb u i ≡ true) ⊎ (eqb u i ≡ false) → eqb x (device_at q u) ≡ eqb x (device_at p u)
      go (inl z) =
          let w = eqb-true u i z in rw w (ap (eqb x) (new_device p q i e t d) ∙ not_new ∙ sym not_old)
      go (inr z) = ap (λ (l : ℕ). eqb x (device_of l)) (take_kept p q i e t d u (eqb-false u i z) v)

  held_same : (k : ℕ) → has x (held_there q k) ≡ has x (held_there p k)
  held_same k =
      rw (held_open q (job (at q k)) k, d.alike.jobs k, same_open p q d.alike (job (at p k)) k)
      (has_mapped x (device_at q) (device_at p) (open_takes p (job (at p k)) k)
      (λ n u o. named_same u (open_is p (job (at p k)) k n u o).opening)
      ∙ ap (has x) (sym (held_open p (job (at p k)) k)))

  -- the outermost takes of it are the same
  pub takes_same : (k : ℕ) → takes q k x ≡ takes p k x
  takes_same k = tests_agree (takes q k x) (takes p k x) to from
    where
      to : takes q k x ≡ true → takes p k x ≡ true
      to h =
          let a = takes_parts q k x h in
          let b = outermost q k a.0 in
          let v : is_take (at p k) ≡ true = sym (same_take p q d.alike k) ∙ b.0 in
          let n : device_at p k ≡ x =
          sym (eqb-true x (device_at p k)
          (sym (named_same k (take_opens (at p k) v)) ∙ eq-eqb x (device_at q k) (sym a.1))) in
          makes_take p k x v
          (holds_device p k x n ∙ sym (held_same k) ∙ sym (holds_device q k x a.1) ∙ b.1) n

      from : takes p k x ≡ true → takes q k x ≡ true
      from h =
          let a = takes_parts p k x h in
          let b = outermost p k a.0 in
          let n : device_at q k ≡ x =
          sym (eqb-true x (device_at q k)
          (named_same k (take_opens (at p k) b.0) ∙ eq-eqb x (device_at p k) (sym a.1))) in
          makes_take q k x (same_take p q d.alike k ∙ b.0)
          (holds_device q k x n ∙ held_same k ∙ sym (holds_device p k x a.1) ∙ b.1) n

  -- and so are the lasting ones
  pub lasting_same : (k : ℕ) → lasting q k x ≡ lasting p k x
  unfolding lasting
  lasting_same k =
      both_tests (takes q k x) (takes p k x) (is_none (mate q k)) (is_none (mate p k)) (takes_same k)
      (ap is_none (same_mate p q d.alike k))

  pub lasting_takes_same : lasting_takes q x ≡ lasting_takes p x
  unfolding lasting_takes positions
  lasting_takes_same =
      rw d.alike.long
      (those_same (λ k. lasting q k x) (λ k. lasting p k x) (up_from 0 (length p)) (λ k m. lasting_same k))

  pub lasts_among_same : (is : List ℕ) → lasts_among q is x ≡ lasts_among p is x
  unfolding lasts_among
  lasts_among_same is = any_same (λ k. lasting q k x) (λ k. lasting p k x) is lasting_same

  -- it is held to the end in both plans or in neither
  pub lasts_in_same : lasts_in q x ≡ lasts_in p x
  unfolding lasts_in positions
  lasts_in_same = rw d.alike.long (lasts_among_same (up_from 0 (length p)))

-- ---- rows

-- the row by a plan's own table, whatever follows it
pub row_own : (p t : List ℕ) → take (length p) t ≡ table p → (d : ℕ) → row_of p t d ≡ row_of p (table p) d
unfolding row_of
row_own p t mine d =
    ap union_of
    (map_same (beyond p t) (beyond p (table p)) (lasting_takes p d)
    (λ k m. beyond_same p t (table p) k (λ o h. same (suc k + o) (successor_after p k o h).0)))
  where
    same : (s : ℕ) → s < length p → get_or t s 0 ≡ get_or (table p) s 0
    same s h = sym (get_or-take (length p) t s 0 h) ∙ ap (λ (xs : List ℕ). get_or xs s 0) mine

pub not_concerned : (p : List ℕ) (i e x : ℕ) → concerned p i e x ≡ false
    → (eqb x (device_at p i) ≡ false) × (eqb x e ≡ false) × (lasts_among p (may_change p i) x ≡ false)
unfolding concerned
not_concerned p i e x h =
    let a = or_neither (eqb x (device_at p i)) (eqb x e || lasts_among p (may_change p i) x) h in
    let b = or_neither (eqb x e) (lasts_among p (may_change p i) x) a.1 in (a.0, b.0, b.1)

-- The theorem: of a device that is not concerned the row stays, by any table.
pub row_stays : (p q t : List ℕ) (i e x : ℕ) → Rules p → is_take (at p i) ≡ true → EditOf p i e q
    → concerned p i e x ≡ false → row_of q (rewritten q t (from_last p i)) x ≡ row_of p t x
unfolding row_of lasts_among beyond lasting_takes
row_stays p q t i e x rules taken d c =
    ap (λ (ks : List ℕ). union_of (map (beyond q u) ks)) (lasting_takes_same p q i e x taken d n.0 n.1)
    ∙ ap union_of (map_same (beyond q u) (beyond p t) (lasting_takes p x) stays)
  where
    u : List ℕ
    u = rewritten q t (from_last p i)

    n : (eqb x (device_at p i) ≡ false) × (eqb x e ≡ false) × (lasts_among p (may_change p i) x ≡ false)
    n = not_concerned p i e x c

    -- a lasting take of it is none of the lines that may change
    off : (k : ℕ) → lasting p k x ≡ true → has k (from_last p i) ≡ false
    off k l = from_last_same p rules i k ∙ go (test (has k (may_change p i)))
      where
        go : (has k (may_change p i) ≡ true) ⊎ (has k (may_change p i) ≡ false) → has k (may_change p i) ≡ false
        go (inl m) = clash (lasting p k x) l (any_none (λ k. lasting p k x) (may_change p i) n.2 k m)
        go (inr m) = m

    stays : (k : ℕ) → has k (lasting_takes p x) ≡ true → beyond q u k ≡ beyond p t k
    stays k m =
        let f = off k (has_those (λ k. lasting p k x) (positions p) k m).1 in
        rw (same_successors p q d.alike k)
        (beyond_same p u t k (λ o h. rewritten_off q t (from_last p i) (suc k + o) (from_last_off p rules i k o h f)))

-- ---- the devices concerned

-- to ask the edited plan as well adds none
pub concerned_either : (p q : List ℕ) (i e x : ℕ) → is_take (at p i) ≡ true → EditOf p i e q
    → lasts_among q (may_change p i) x ≡ true → concerned p i e x ≡ true
concerned_either p q i e x taken d h = go (test (concerned p i e x))
  where
    go : (concerned p i e x ≡ true) ⊎ (concerned p i e x ≡ false) → concerned p i e x ≡ true
    go (inl c) = c
    go (inr c) =
        let n = not_concerned p i e x c in
        clash (lasts_among p (may_change p i) x)
        (sym (lasts_among_same p q i e x taken d n.0 n.1 (may_change p i)) ∙ h) n.2

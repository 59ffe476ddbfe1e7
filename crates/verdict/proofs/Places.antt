-- Which lines wait, and at which places: what the sets and the list show when lines come and go, where no two of the
-- lines that wait have one place.
use Rattle.std.proofs.Common.{◌≡◌, ℕ, ◌-◌, ◌<◌, ◌≤◌, Bool, true, false, cond, not, List, ◌⊎◌, inl, inr, ◌≢◌, refl, sym}
use Rattle.std.proofs.Common.{◌∙◌, ap, arith, eqb, ltb, length, get_or, set, length-set, get_or-set_same}
use Rattle.std.proofs.Common.{get_or-set_other, eqb-true, ne_eqb, eq-eqb, ltb-true, ltb-false}
use borrow.Author.Tests.{eqb-false, not-true}
use Rattle.model.specs.Sets.{union}
use Rattle.model.specs.Line.{max_job}
use Rattle.model.specs.Board.{devices}
use Rattle.theory.proofs.Tests.{test, or_split, or_left, or_right, and_split, and_both}
use Rattle.sets.specs.Only.{only_of}
use Rattle.sets.specs.Both.{without}
use Rattle.verdict.specs.declared.waiting.Waiting.{Waiting}
use Rattle.verdict.specs.Waiting.{all_places, place_at, waits, with_set, taken, vacated, arrived, placed, settled}
use Rattle.verdict.proofs.Foremost.{waits_taken, waits_vacated}

-- the lines of which S holds wait at their places, and no place else is taken
pub record Shows (p : List ℕ) (S : ℕ → Type 0) (places : List ℕ) (w : Waiting) : Type 0 where
  pub long : length places ≡ all_places
  pub there : (i : ℕ) → S i → (waits w (place_at p i) ≡ true) × (get_or places (place_at p i) 0 ≡ i)
  pub only : (s : ℕ) → s < all_places → waits w s ≡ true → (i : ℕ) × S i × (place_at p i ≡ s)

-- line i is line t, and t is a line
abbrev pub Comes : List ℕ → ℕ → ℕ → Type 0
Comes p t i = (i ≡ t) × (t < length p)

pub shows_same : {p : List ℕ} {S T : ℕ → Type 0} {places : List ℕ} {w : Waiting} → Shows p S places w
    → ((i : ℕ) → T i → S i) → ((i : ℕ) → S i → T i) → Shows p T places w
shows_same h f g = record {
  long = h.long;
  there = λ i t. h.there i (f i t);
  only = λ s l e. (let r = h.only s l e in (r.0, g r.0 r.1, r.2));
}

module _ {p : List ℕ} {T : ℕ → Type 0} (below : (i : ℕ) → T i → place_at p i < all_places)
    (apart : (i k : ℕ) → T i → T k → place_at p i ≡ place_at p k → i ≡ k) where
  -- a line comes
  comes : {S : ℕ → Type 0} {places : List ℕ} {w : Waiting} (t : ℕ) → ((i : ℕ) → S i → T i) → T t → Shows p S places w
      → Shows p (λ i. S i ⊎ (i ≡ t)) (set places (place_at p t) t) (taken w (place_at p t))
  comes {S} {places} {w} t f at h = record {
    long = length-set places s t ∙ h.long;
    there = waiting;
    only = λ o l e. who o l (or_split (waits w o) (eqb s o) (sym (waits_taken w s o l) ∙ e));
  }
    where
      s : ℕ
      s = place_at p t

      here : s < length places
      here = omega (arith, below t at, h.long)

      old : (i : ℕ) → S i → (eqb s (place_at p i) ≡ true) ⊎ (eqb s (place_at p i) ≡ false)
          → get_or (set places s t) (place_at p i) 0 ≡ i
      old i m (inl q) =
          let z = eqb-true s (place_at p i) q in
          rw (← z) (get_or-set_same places s t 0 here ∙ apart t i at (f i m) z)
      old i m (inr q) =
          get_or-set_other places s (place_at p i) t 0 (λ y. eqb-false s (place_at p i) q (sym y)) ∙ (h.there i m).1

      waiting : (i : ℕ) → S i ⊎ (i ≡ t)
          → (waits (taken w s) (place_at p i) ≡ true) × (get_or (set places s t) (place_at p i) 0 ≡ i)
      waiting i (inl m) = (
        waits_taken w s (place_at p i) (below i (f i m))
            ∙ or_left (waits w (place_at p i)) (eqb s (place_at p i)) (h.there i m).0,
        old i m (test (eqb s (place_at p i))),
      )
      waiting i (inr q) = rw q (
        waits_taken w s s (below t at) ∙ or_right (waits w s) (eqb s s) (eq-eqb s s refl),
        get_or-set_same places s t 0 here,
      )

      who : (o : ℕ) → o < all_places → (waits w o ≡ true) ⊎ (eqb s o ≡ true)
          → (i : ℕ) × (S i ⊎ (i ≡ t)) × (place_at p i ≡ o)
      who o l (inl e) = let r = h.only o l e in (r.0, inl r.1, r.2)
      who o l (inr e) = (t, inr refl, eqb-true s o e)

  -- it comes if it is one of the plan
  pub comes_if : {S : ℕ → Type 0} {places : List ℕ} {w : Waiting} (t : ℕ) → ((i : ℕ) → S i → T i)
      → (t < length p → T t) → Shows p S places w
      → Shows p (λ i. S i ⊎ Comes p t i) (placed p places t) (arrived p w t)
  unfolding placed arrived
  comes_if {S} {places} {w} t f g h = go (ltb t (length p)) refl
    where
      into : (i : ℕ) → S i ⊎ Comes p t i → S i ⊎ (i ≡ t)
      into i (inl s) = inl s
      into i (inr c) = inr c.0

      from : t < length p → (i : ℕ) → S i ⊎ (i ≡ t) → S i ⊎ Comes p t i
      from l i (inl s) = inl s
      from l i (inr q) = inr (q, l)

      back : length p ≤ t → (i : ℕ) → S i ⊎ Comes p t i → S i
      back l i (inl s) = s
      back l i (inr c) = absurd (omega (arith, c.1))

      go : (b : Bool) → ltb t (length p) ≡ b
          → Shows p (λ i. S i ⊎ Comes p t i) (cond b (set places (place_at p t) t) places)
          (cond b (taken w (place_at p t)) w)
      go true q = let l = ltb-true t (length p) q in shows_same (comes t f (g l) h) into (from l)
      go false q = shows_same h (back (ltb-false t (length p) q)) (λ i s. inl s)

  -- a line goes
  pub goes_off : {places : List ℕ} {w : Waiting} (x : ℕ) → T x → Shows p T places w
      → Shows p (λ i. T i × (i ≢ x)) places (vacated w (place_at p x))
  goes_off {places} {w} x at h = record {
    long = h.long;
    there = λ i m. (
      waits_vacated w s (place_at p i) (below i m.0)
          ∙ and_both (waits w (place_at p i)) (not (eqb s (place_at p i))) (h.there i m.0).0
          (rw (ne_eqb s (place_at p i) (λ q. m.1 (apart i x m.0 at (sym q))))),
      (h.there i m.0).1,
    );
    only = λ o l e. stays o l (and_split (waits w o) (not (eqb s o)) (sym (waits_vacated w s o l) ∙ e));
  }
    where
      s : ℕ
      s = place_at p x

      stays : (o : ℕ) → o < all_places → (waits w o ≡ true) × (not (eqb s o) ≡ true)
          → (i : ℕ) × (T i × (i ≢ x)) × (place_at p i ≡ o)
      stays o l e =
          let r = h.only o l e.0 in
          let n = eqb-false s o (not-true (eqb s o) e.1) in
          (r.0, (r.1, λ q. n (ap (place_at p) (sym q) ∙ r.2)), r.2)

-- ---- the scarce devices are beside the places

scarce_changed : (f : ℕ → ℕ → ℕ) (w : Waiting) (s : ℕ) → (with_set f w s).scarce ≡ w.scarce
unfolding with_set
scarce_changed f w s = go (ltb s max_job)
  where
    go : (b : Bool)
        → (cond {A = Waiting} b
        (record { ready = f w.ready (only_of max_job s); awaited = w.awaited; scarce = w.scarce })
        (record { ready = w.ready; awaited = f w.awaited (only_of devices (s - max_job)); scarce = w.scarce })
        ).scarce
        ≡ w.scarce
    go true = refl
    go false = refl

pub scarce_vacated : (w : Waiting) (s : ℕ) → (vacated w s).scarce ≡ w.scarce
unfolding vacated
scarce_vacated w s = scarce_changed without w s

pub scarce_arrived : (p : List ℕ) (w : Waiting) (t : ℕ) → (arrived p w t).scarce ≡ w.scarce
unfolding arrived taken
scarce_arrived p w t = go (ltb t (length p))
  where
    go : (b : Bool) → (cond {A = Waiting} b (taken w (place_at p t)) w).scarce ≡ w.scarce
    go true = scarce_changed union w (place_at p t)
    go false = refl

pub shows_settled : (counts : List ℕ) (l : ℕ) {p : List ℕ} {S : ℕ → Type 0} {places : List ℕ} {w : Waiting}
    → Shows p S places w → Shows p S places (settled counts w l)
unfolding settled waits
shows_settled counts l h = record { long = h.long; there = h.there; only = h.only }

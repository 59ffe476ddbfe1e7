-- Taking away (02, request 3), over any number of devices: a device goes as long as its row has none of those left, or
-- it stands in no row of theirs. What leads back is linked and so does not go, and what stays, if anything does, has a
-- device that leads back.
use Rattle.std.proofs.Common.{◌≡◌, ℕ, zero, suc, ◌+◌, ◌*◌, ◌^◌, ◌<◌, ◌≤◌, Bool, true, false, cond, not, ◌&&◌, eqb, ◌⊎◌}
use Rattle.std.proofs.Common.{List, length, refl, inl, inr, arith}
use borrow.Author.Tests.{not-true}
use Rattle.model.specs.Sets.{empty, member, lowest_of}
use Rattle.model.specs.Rows.{Leads, once, more, leads_back, onward}
use Rattle.theory.proofs.Tests.{clash, test, and_split, and_both, falsely}
use Rattle.theory.proofs.Sets.{member_empty}
use Rattle.theory.proofs.Rows.{leads_back_exactly}
use Rattle.sets.specs.Only.{only_of}
use Rattle.sets.specs.Both.{both, without}
use Rattle.sets.proofs.Members.{both_below}
use Rattle.rows.specs.Search.{row_at, lead_into, Linked, Trimmed, WholeIn}
use Rattle.rows.proofs.Smaller.{differs, falls, within_le}
use Rattle.rows.proofs.Reaching.{leads_join}
use Rattle.rows.proofs.CameBack.{Walking, walking_begins, walking_on, walking_less}
use Rattle.rows.proofs.Looked.{in_both, both_in, in_into, into_in, into_below, in_onward, onward_in}

module _ (rs : List ℕ) where
  -- what stays when those are taken away once
  abbrev pub once_trimmed : ℕ → ℕ
  once_trimmed s = both (lead_into rs s s) (onward rs s)

  -- On the way: what stays, and what stayed before the last look. When the two are the same, the work is done.
  pub record Taking (left stays before : ℕ) : Type 0 where
    pub below : stays < 2 ^ length rs
    pub in_left : (d : ℕ) → member stays d ≡ true → member left d ≡ true
    pub keeps : (these : ℕ → Bool) → Linked rs these → ((d : ℕ) → these d ≡ true → member left d ≡ true)
        → (d : ℕ) → these d ≡ true → member stays d ≡ true
    pub linked : stays ≡ before → Linked rs (member stays)

  none_linked : (s : ℕ) → s ≡ 0 → Linked rs (member s)
  unfolding empty
  none_linked s e = record {
    leads = λ d m. clash (member 0 d) (rw e at m) (member_empty d);
    led = λ d m. clash (member 0 d) (rw e at m) (member_empty d);
  }

  pub taking_begins : (left : ℕ) → left < 2 ^ length rs → Taking left left 0
  taking_begins left h = record {
    below = h;
    in_left = λ d m. m;
    keeps = λ these l h. h;
    linked = none_linked left;
  }

  -- linked devices stay
  linked_stay : (s : ℕ) (these : ℕ → Bool) → Linked rs these → ((d : ℕ) → these d ≡ true → member s d ≡ true)
      → (d : ℕ) → these d ≡ true → member (once_trimmed s) d ≡ true
  linked_stay s these l h d k =
      let a = l.leads d k in
      let b = l.led d k in
      both_in (lead_into rs s s) (onward rs s) d (into_in rs s s d a.0 (h d k) a.1 (h a.0 a.2))
      (onward_in rs s b.0 d (h b.0 b.2) b.1)

  pub taking_on : (left stays before : ℕ) → Taking left stays before → Taking left (once_trimmed stays) stays
  taking_on left stays before t = record {
    below = both_below (length rs) (lead_into rs stays stays) (onward rs stays) (into_below rs stays stays);
    in_left = λ d m. t.in_left d (look d m).0;
    keeps = λ these l h. linked_stay stays these l (t.keeps these l h);
    linked = λ e. record {
      leads = λ d m. let r = (look d m).1 in (r.0, r.1, rw e r.2);
      led = λ d m.
          let r = in_onward rs stays d (in_both (lead_into rs stays stays) (onward rs stays) d m).1 in
          (r.0, r.1, rw e r.2);
    };
  }
    where
      look : (d : ℕ) → member (once_trimmed stays) d ≡ true
          → (member stays d ≡ true) × ((e : ℕ) × (member (row_at rs d) e ≡ true) × (member stays e ≡ true))
      look d m = in_into rs stays stays d t.below (in_both (lead_into rs stays stays) (onward rs stays) d m).0

  pub all_taken : (left stays before : ℕ) → Taking left stays before → (stays ≡ before) ⊎ (stays ≡ 0)
      → Trimmed rs left stays
  all_taken left stays before t e = record {
    below = t.below;
    in_left = t.in_left;
    linked = done e;
    keeps = t.keeps;
  }
    where
      done : (stays ≡ before) ⊎ (stays ≡ 0) → Linked rs (member stays)
      done (inl q) = t.linked q
      done (inr q) = none_linked stays q

  no_more : (s : ℕ) → s < 2 ^ length rs → once_trimmed s ≤ s
  no_more s h =
      within_le (length rs) (once_trimmed s) s
      (both_below (length rs) (lead_into rs s s) (onward rs s) (into_below rs s s)) h
      (λ d m. (in_into rs s s d h (in_both (lead_into rs s s) (onward rs s) d m).0).0)

  -- a look that takes something away leaves less, and one that takes nothing away is the last
  pub taking_less : (left stays before : ℕ) → Taking left stays before
      → (not (eqb stays before) && not (eqb stays 0)) ≡ true
      → 2 * once_trimmed stays + cond (eqb (once_trimmed stays) stays) 0 1 < 2 * stays + cond (eqb stays before) 0 1
  taking_less left stays before t q =
      rw (differs stays before 0 q) (falls (once_trimmed stays) stays (no_more stays t.below))

  -- the last step of a way
  pub last_step : (d f : ℕ) → Leads rs d f → (e : ℕ) × (member (row_at rs e) f ≡ true) × ((e ≡ d) ⊎ Leads rs d e)
  last_step d f (once a b m) = (a, m, inl refl)
  last_step d f (more a b c m l) = let r = last_step b c l in (r.0, r.1, inr (from r.2))
    where
      from : {e : ℕ} → (e ≡ b) ⊎ Leads rs b e → Leads rs a e
      from {e} (inl q) = rw q (once a b m)
      from {e} (inr k) = more a b e m k

  -- ---- what leads back is linked, and what of it is still to be found

  module _ (found : ℕ) (whole : (d : ℕ) → member found d ≡ true → WholeIn rs d found) where
    -- a device that leads back and is not found
    abbrev pub sought : ℕ → Bool
    sought d = leads_back rs d && not (member found d)

    pub is_sought : (d : ℕ) → Leads rs d d → member found d ≡ false → sought d ≡ true
    is_sought d l q = and_both (leads_back rs d) (not (member found d)) ((leads_back_exactly rs d).1 l) (rw q)

    pub was_sought : (d : ℕ) → sought d ≡ true → Leads rs d d × (member found d ≡ false)
    was_sought d k =
        let s = and_split (leads_back rs d) (not (member found d)) k in
        ((leads_back_exactly rs d).0 s.0, not-true (member found d) s.1)

    -- and so is what is on a circle with it
    fellow_sought : (d e : ℕ) → sought d ≡ true → Leads rs d e → Leads rs e d → sought e ≡ true
    fellow_sought d e k l j =
        is_sought e (leads_join rs e d e j l)
        (falsely (member found e) (λ m. clash (member found d) (whole e m d j l) (was_sought d k).1))

    pub sought_linked : Linked rs sought
    sought_linked = record {
      leads = λ d k. on d k (was_sought d k).0;
      led = λ d k. back d k (last_step d d (was_sought d k).0);
    }
      where
        on : (d : ℕ) → sought d ≡ true → Leads rs d d → (e : ℕ) × (member (row_at rs d) e ≡ true) × (sought e ≡ true)
        on d k l = first d d l k refl
          where
            first : (a b : ℕ) → Leads rs a b → sought a ≡ true → b ≡ a
                → (e : ℕ) × (member (row_at rs a) e ≡ true) × (sought e ≡ true)
            first a b (once x y m) q z = (y, m, rw z q)
            first a b (more x y c m j) q z = (y, m, fellow_sought x y q (once x y m) (rw z at j))

        back : (d : ℕ) → sought d ≡ true → (e : ℕ) × (member (row_at rs e) d ≡ true) × ((e ≡ d) ⊎ Leads rs d e)
            → (e : ℕ) × (member (row_at rs e) d ≡ true) × (sought e ≡ true)
        back d k r = (r.0, r.1, go r.2)
          where
            go : (r.0 ≡ d) ⊎ Leads rs d r.0 → sought r.0 ≡ true
            go (inl q) = rw q k
            go (inr l) = fellow_sought d r.0 k l (once r.0 d r.1)

  -- ---- what stays

  -- where something stays, something that stays leads back: a walk through it comes back
  pub stays_back : (left r : ℕ) → Trimmed rs left r → 0 < r → (d : ℕ) × (member r d ≡ true) × (leads_back rs d ≡ true)
  stays_back left r t h = go (suc r) r (lowest_of (length rs) r) (omega arith) (walking_begins rs r t.below h)
    where
      at_end : (at rest : ℕ) → Walking rs r at rest → member rest at ≡ false
          → (member r at ≡ true) ⊎ (member r at ≡ false)
          → (d : ℕ) × (member r d ≡ true) × (leads_back rs d ≡ true)
      at_end at rest w q (inl m) = (at, m, (leads_back_exactly rs at).1 (w.lead m at m q))
      at_end at rest w q (inr m) =
          let s = w.stuck m in
          let n = t.linked.leads s.0 s.1 in clash (member r n.0) n.2 (s.2 n.0 n.1)

      go : (n rest at : ℕ) → rest < n → Walking rs r at rest → (d : ℕ) × (member r d ≡ true) × (leads_back rs d ≡ true)
      go zero rest at l w = absurd (omega arith)
      go (suc n) rest at l w = by (test (member rest at)) (go n)
        where
          by : (member rest at ≡ true) ⊎ (member rest at ≡ false)
              → ((rest at : ℕ) → rest < n → Walking rs r at rest
              → (d : ℕ) × (member r d ≡ true) × (leads_back rs d ≡ true))
              → (d : ℕ) × (member r d ≡ true) × (leads_back rs d ≡ true)
          by (inl m) ih =
              ih (without rest (only_of (length rs) at)) (lowest_of (length rs) (both (row_at rs at) r))
              (omega (arith, walking_less rs r at rest w m)) (walking_on rs r at rest w m)
          by (inr m) ih = at_end at rest w m (test (member r at))

-- The search under way (02, request 3): what it takes away leads nowhere back, what it takes out is found with its
-- circle, and when nothing is left what is found are the devices that lead back. Over any number of devices.
use Rattle.std.proofs.Common.{◌≡◌, ℕ, ◌^◌, ◌<◌, true, false, not, eqb, ◌⊎◌, List, length, sym, ◌∙◌, inl, inr, arith}
use Rattle.std.proofs.Common.{eqb-true}
use borrow.Author.Tests.{eqb-false, not-true}
use Rattle.model.specs.Sets.{empty, union, member}
use Rattle.model.specs.Rows.{Leads, leads_back}
use Rattle.theory.proofs.Tests.{clash, test, tests_agree, and_split, falsely}
use Rattle.theory.proofs.Sets.{member_empty, member_union, in_union, in_left_lem, in_right, empty_below, union_below}
use Rattle.theory.proofs.Rows.{leads_back_exactly}
use Rattle.sets.specs.Both.{without}
use Rattle.sets.proofs.Members.{member_without}
use Rattle.rows.specs.declared.search.Ended.{Ended}
use Rattle.rows.specs.Where.{circles_of}
use Rattle.rows.specs.Search.{row_at, in_rows, Trimmed, WalkEnds, WholeIn, CircleOf, Searching}
use Rattle.theory.proofs.Where.{is_where}
use Rattle.rows.proofs.Smaller.{within_le, taken_out_less}
use Rattle.rows.proofs.Looked.{stands}
use Rattle.rows.proofs.Reaching.{leads_join}
use Rattle.rows.proofs.TakenAway.{last_step, sought, is_sought, was_sought, sought_linked}
use Rattle.rows.proofs.TakenAway.{stays_back}

module _ (rs : List ℕ) where
  -- what is taken away was not to be found
  pub searching_trimmed : (left found r : ℕ) → Searching rs left found → Trimmed rs left r → Searching rs r found
  searching_trimmed left found r s t = record {
    below = s.below;
    back = s.back;
    whole = s.whole;
    kept = λ d l. keep d l (test (member found d));
    apart = λ d m. s.apart d (t.in_left d m);
  }
    where
      is_left : (d : ℕ) → (member found d ≡ false) → (member found d ≡ true) ⊎ (member left d ≡ true)
          → member left d ≡ true
      is_left d q (inl m) = clash (member found d) m q
      is_left d q (inr m) = m

      keep : (d : ℕ) → Leads rs d d → (member found d ≡ true) ⊎ (member found d ≡ false)
          → (member found d ≡ true) ⊎ (member r d ≡ true)
      keep d l (inl m) = inl m
      keep d l (inr m) =
          inr
          (t.keeps (sought rs found s.whole) (sought_linked rs found s.whole)
          (λ e k. let o = was_sought rs found s.whole e k in is_left e o.1 (s.kept e o.0))
          d (is_sought rs found s.whole d l m))

  -- at first all that stand in rows are left
  searching_first : Searching rs (in_rows rs) 0
  unfolding empty
  searching_first = record {
    below = empty_below (length rs);
    back = λ d m. clash (member 0 d) m (member_empty d);
    whole = λ d m. clash (member 0 d) m (member_empty d);
    kept = λ d l. let r = last_step rs d d l in inr (stands rs r.0 d r.1);
    apart = λ d m. member_empty d;
  }

  pub searching_begins : (r : ℕ) → Trimmed rs (in_rows rs) r → Searching rs r 0
  searching_begins r t = searching_trimmed (in_rows rs) 0 r searching_first t

  -- what is left has the circles of what is left
  pub left_whole : (left found d : ℕ) → Searching rs left found → member left d ≡ true → WholeIn rs d left
  left_whole left found d s m e l k = go (s.kept e (leads_join rs e d e k l))
    where
      go : (member found e ≡ true) ⊎ (member left e ≡ true) → member left e ≡ true
      go (inl f) = clash (member found d) (s.whole e f d k l) (s.apart d m)
      go (inr f) = f

  -- a circle is taken out
  module _ (left found at r : ℕ) (s : Searching rs left found) (m : CircleOf rs at r) (there : member left at ≡ true)
      (again : Leads rs at at) where
    still_whole : (d : ℕ) → (member r d ≡ true) ⊎ (member found d ≡ true) → WholeIn rs d (union r found)
    still_whole d (inl k) e l j =
        let a = m.are d k in
        in_left_lem r found e (m.whole e (leads_join rs at d e a.0 l) (leads_join rs e d at j a.1))
    still_whole d (inr k) e l j = in_right r found e (s.whole d k e l j)

    leads_back_lem : (d : ℕ) → (member r d ≡ true) ⊎ (member found d ≡ true) → Leads rs d d
    leads_back_lem d (inl k) = let a = m.are d k in leads_join rs d at d a.1 a.0
    leads_back_lem d (inr k) = s.back d k

    still_kept : (d : ℕ) → (member found d ≡ true) ⊎ (member left d ≡ true) → (member r d ≡ true) ⊎ (member r d ≡ false)
        → (member (union r found) d ≡ true) ⊎ (member (without left r) d ≡ true)
    still_kept d (inl k) t = inl (in_right r found d k)
    still_kept d (inr k) (inl t) = inl (in_left_lem r found d t)
    still_kept d (inr k) (inr t) = inr (member_without left r d ∙ rw (k, t))

    still_apart : (d : ℕ) → member (without left r) d ≡ true → member (union r found) d ≡ false
    still_apart d k =
        let a = and_split (member left d) (not (member r d)) (sym (member_without left r d) ∙ k) in
        member_union r found d ∙ rw (not-true (member r d) a.1, s.apart d a.0)

    pub searching_found : Searching rs (without left r) (union r found)
    searching_found = record {
      below = union_below (length rs) r found m.below s.below;
      back = λ d k. leads_back_lem d (in_union r found d k);
      whole = λ d k. still_whole d (in_union r found d k);
      kept = λ d l. still_kept d (s.kept d l) (test (member r d));
      apart = still_apart;
    }

    pub found_less : left < 2 ^ length rs → without left r < left
    found_less h = taken_out_less (length rs) left r at h there (m.whole at again again)

  -- where a walk is stuck, something is taken away
  pub stuck_less : (left r : ℕ) (w : Ended) → left < 2 ^ length rs → WalkEnds rs left w
      → member left w.at ≡ false → Trimmed rs left r → r < left
  stuck_less left r w h walked q t = go (test (eqb r left))
    where
      stuck : (d : ℕ) × (member left d ≡ true) × ((e : ℕ) → member (row_at rs d) e ≡ true → member left e ≡ false)
      stuck = walked.stuck q

      go : (eqb r left ≡ true) ⊎ (eqb r left ≡ false) → r < left
      go (inl e) =
          let n = t.linked.leads stuck.0 (rw (eqb-true r left e) stuck.1) in
          clash (member left n.0) (t.in_left n.0 n.2) (stuck.2 n.0 n.1)
      go (inr e) = let n = eqb-false r left e in omega (arith, within_le (length rs) r left t.below h t.in_left)

  -- The law of taking away: what is taken away, and was not found before, leads nowhere back; and where something
  -- stays, something that stays leads back.
  pub taking_away : (left found r : ℕ) → Searching rs left found → Trimmed rs left r
      → ((d : ℕ) → member found d ≡ false → member r d ≡ false → leads_back rs d ≡ false)
      × (0 < r → (d : ℕ) × (member r d ≡ true) × (leads_back rs d ≡ true))
  taking_away left found r s t =
      (λ d f q. falsely (leads_back rs d) (λ b. none d f q (kept d b)), stays_back rs left r t)
    where
      kept : (d : ℕ) → leads_back rs d ≡ true → (member found d ≡ true) ⊎ (member r d ≡ true)
      kept d b = (searching_trimmed left found r s t).kept d ((leads_back_exactly rs d).0 b)

      none : (d : ℕ) → member found d ≡ false → member r d ≡ false → (member found d ≡ true) ⊎ (member r d ≡ true) → ⊥
      none d f q (inl m) = clash (member found d) m f
      none d f q (inr m) = clash (member r d) m q

  -- of the first taking away, with nothing found: whatever stays or not, all that leads back stays
  pub first_taking_away : (r : ℕ) → Trimmed rs (in_rows rs) r
      → ((d : ℕ) → member r d ≡ false → leads_back rs d ≡ false)
      × (0 < r → (d : ℕ) × (member r d ≡ true) × (leads_back rs d ≡ true))
  unfolding empty
  first_taking_away r t =
      let l = taking_away (in_rows rs) 0 r searching_first t in (λ d q. l.0 d (member_empty d) q, l.1)

  -- The theorem: with nothing left, what is found are the devices that lead back.
  pub all_found : (found : ℕ) → Searching rs 0 found → found ≡ circles_of rs
  unfolding circles_of empty
  all_found found s =
      is_where (leads_back rs) (length rs) found s.below
      (λ d h. tests_agree (member found d) (leads_back rs d) (λ m. (leads_back_exactly rs d).1 (s.back d m))
      (λ l. go d (s.kept d ((leads_back_exactly rs d).0 l))))
    where
      go : (d : ℕ) → (member found d ≡ true) ⊎ (member 0 d ≡ true) → member found d ≡ true
      go d (inl m) = m
      go d (inr m) = clash (member 0 d) m (member_empty d)

-- The circle of a device that a walk came back to (02, request 3): what it leads to and what leads to it, found from
-- either end. Over any number of devices.
use Rattle.std.proofs.Common.{◌≡◌, ℕ, true, false, not, ◌⊎◌, List, sym, refl, ap, ◌∙◌, inl, inr}
use borrow.Author.Tests.{not-true}
use Rattle.model.specs.Sets.{empty, member}
use Rattle.model.specs.Rows.{Leads, once, more}
use Rattle.theory.proofs.Tests.{clash, and_split, falsely}
use Rattle.theory.proofs.Sets.{member_empty}
use Rattle.sets.specs.Both.{both, without}
use Rattle.sets.proofs.Members.{member_without}
use Rattle.rows.specs.declared.search.Ended.{Ended}
use Rattle.rows.specs.Search.{row_at, WalkEnds, Reached, LeadTo, WholeIn, CircleOf}
use Rattle.rows.proofs.Looked.{both_in}
use Rattle.rows.proofs.Reaching.{leads_join, leads_on}

-- What a device leads to by way of a set that has its circle has it too.
module _ (rs : List ℕ) (within stop at r : ℕ) (a : Reached rs within stop at r)
    (free : (e : ℕ) → member r e ≡ true → member stop e ≡ false) (whole : WholeIn rs at within) where
  -- one step on
  step : (d e : ℕ) → (d ≡ at) ⊎ Leads rs at d → member (row_at rs d) e ≡ true → Leads rs at e
  step d e (inl q) k = let o : Leads rs d e = once d e k in rw q at o
  step d e (inr l) k = leads_on rs at d e l k

  -- from one that is reached, along rows
  along : (d e : ℕ) → member r d ≡ true → (d ≡ at) ⊎ Leads rs at d → Leads rs d e → Leads rs e at → member r e ≡ true
  along d e m from (once x y k) back = a.closed free x y m k (whole y (step x y from k) back)
  along d e m from (more x y z k l) back =
      along y z (a.closed free x y m k (whole y (step x y from k) (leads_join rs y z at l back)))
      (inr (step x y from k)) l back

  pub reached_whole : WholeIn rs at r
  reached_whole e l back = along at e a.self (inl refl) l back

module _ (rs : List ℕ) (left : ℕ) (w : Ended) (walked : WalkEnds rs left w) (there : member left w.at ≡ true)
    (whole : WholeIn rs w.at left) where
  -- the device that came again leads back
  pub leads_back_lem : Leads rs w.at w.at
  leads_back_lem = walked.lead there w.at there (walked.again there)

  -- where it leads to nothing but what the walk passed
  pub circle_passed : (r : ℕ) → Reached rs left w.rest w.at r → both r w.rest ≡ 0 → CircleOf rs w.at r
  unfolding empty
  circle_passed r a z = record {
    below = a.below;
    are = λ e m. by e m (a.led e m);
    whole = reached_whole rs left w.rest w.at r a free whole;
  }
    where
      free : (e : ℕ) → member r e ≡ true → member w.rest e ≡ false
      free e m =
          falsely (member w.rest e)
          (λ k. clash (member (both r w.rest) e) (both_in r w.rest e m k)
          (ap (λ (x : ℕ). member x e) z ∙ member_empty e))

      by : (e : ℕ) → member r e ≡ true → (e ≡ w.at) ⊎ (Leads rs w.at e × (member left e ≡ true))
          → Leads rs w.at e × Leads rs e w.at
      by e m (inl q) = rw q (leads_back_lem, leads_back_lem)
      by e m (inr l) = (l.0, walked.lead there e l.1 (free e m))

  -- or by way of all that lead to it
  module _ (lead : ℕ) (b : LeadTo rs left (without left w.rest) lead) where
    was_passed : (d : ℕ) → member (without left w.rest) d ≡ true → Leads rs d w.at
    was_passed d m =
        let s = and_split (member left d) (not (member w.rest d)) (sym (member_without left w.rest d) ∙ m) in
        walked.lead there d s.0 (not-true (member w.rest d) s.1)

    lead_there : (d : ℕ) → member lead d ≡ true → Leads rs d w.at
    lead_there d m = go (b.lead d m)
      where
        go : (member (without left w.rest) d ≡ true)
            ⊎ ((e : ℕ) × (member (without left w.rest) e ≡ true) × Leads rs d e) → Leads rs d w.at
        go (inl k) = was_passed d k
        go (inr k) = leads_join rs d k.0 w.at k.2 (was_passed k.0 k.1)

    self : member lead w.at ≡ true
    self = b.selves w.at (member_without left w.rest w.at ∙ rw (there, walked.again there))

    back : (d e : ℕ) → Leads rs d e → e ≡ w.at → Leads rs w.at d → member lead d ≡ true
    back d e (once x y k) q l =
        let o : Leads rs x y = once x y k in
        b.closed x y (whole x l (rw q at o)) k (rw q self)
    back d e (more x y z k j) q l =
        let o : Leads rs x z = more x y z k j in
        b.closed x y (whole x l (rw q at o)) k (back y z j q (leads_on rs w.at x y l k))

    pub circle_behind : (r : ℕ) → Reached rs lead 0 w.at r → CircleOf rs w.at r
    unfolding empty
    circle_behind r a = record {
      below = a.below;
      are = λ e m. by e (a.led e m);
      whole = reached_whole rs lead 0 w.at r a (λ e m. member_empty e) (λ e l k. back e w.at k refl l);
    }
      where
        by : (e : ℕ) → (e ≡ w.at) ⊎ (Leads rs w.at e × (member lead e ≡ true))
            → Leads rs w.at e × Leads rs e w.at
        by e (inl q) = rw q (leads_back_lem, leads_back_lem)
        by e (inr l) = (l.0, lead_there e l.1)

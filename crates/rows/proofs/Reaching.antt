-- What leads to a set of devices, and what a device leads to (02, request 3): sets that grow along the rows until
-- nothing is new. Over any number of devices.
use Rattle.std.proofs.Common.{◌≡◌, ℕ, ◌+◌, ◌-◌, ◌*◌, ◌^◌, ◌<◌, Bool, true, false, cond, not, ◌&&◌, eqb, ◌⊎◌, List}
use Rattle.std.proofs.Common.{length, sym, refl, ◌∙◌, subst, inl, inr, arith, eq-eqb, eqb-true}
use borrow.Author.Tests.{eqb-false, not-true}
use Rattle.model.specs.Sets.{empty, union, member, lowest_of}
use Rattle.model.specs.Rows.{Leads, once, more}
use Rattle.theory.proofs.Tests.{clash, test, and_split}
use Rattle.theory.proofs.Sets.{member_empty, in_union, in_left_lem, in_right, empty_below, union_below}
use Rattle.theory.proofs.Sets.{same_members}
use Rattle.sets.specs.Only.{only_of}
use Rattle.sets.specs.Both.{both, without}
use Rattle.sets.proofs.Members.{Lowest, found, nothing, lowest, member_without, member_only_of, only_of_below}
use Rattle.sets.proofs.Members.{both_below}
use Rattle.rows.specs.Search.{row_at, lead_into, Reached, LeadTo}
use Rattle.rows.proofs.Smaller.{differs, rises, union_more, put_in_more}
use Rattle.rows.proofs.Looked.{no_other, some_device, in_both, both_in, both_within, in_into, into_in}
use Rattle.rows.proofs.Looked.{into_below}

module _ (rs : List ℕ) where
  pub leads_join : (d x e : ℕ) → Leads rs d x → Leads rs x e → Leads rs d e
  leads_join d x e (once a b m) l = more a b e m l
  leads_join d x e (more a b c m k) l = more a b e m (leads_join b c e k l)

  pub leads_on : (d x e : ℕ) → Leads rs d x → member (row_at rs x) e ≡ true → Leads rs d e
  leads_on d x e l m = leads_join d x e l (once x e m)

  -- ---- what leads to these devices

  module _ (within these : ℕ) where
    -- those that lead to one of them in one step and are new, and with them
    abbrev new_behind : ℕ → ℕ
    new_behind lead = lead_into rs (without within lead) lead

    abbrev pub joined_behind : ℕ → ℕ
    joined_behind lead = union (new_behind lead) lead

    -- On the way: what leads to them, and what was known to before the last look.
    pub record Gathering (lead before : ℕ) : Type 0 where
      pub below : lead < 2 ^ length rs
      pub selves : (d : ℕ) → member these d ≡ true → member lead d ≡ true
      pub leads : (d : ℕ) → member lead d ≡ true
          → (member these d ≡ true) ⊎ ((e : ℕ) × (member these e ≡ true) × Leads rs d e)
      pub closed : lead ≡ before → (d e : ℕ) → member within d ≡ true → member (row_at rs d) e ≡ true
          → member lead e ≡ true → member lead d ≡ true

    pub gathering_begins : these < 2 ^ length rs → Gathering these 0
    unfolding empty
    gathering_begins h = record {
      below = h;
      selves = λ d m. m;
      leads = λ d m. inl m;
      closed = λ q d e w m k. clash (member 0 e) (rw q at k) (member_empty e);
    }

    module _ (lead before : ℕ) (g : Gathering lead before) where
      still_below : joined_behind lead < 2 ^ length rs
      still_below =
          union_below (length rs) (new_behind lead) lead (into_below rs (without within lead) lead) g.below

      still_lead : (d : ℕ) → (member (new_behind lead) d ≡ true) ⊎ (member lead d ≡ true)
          → (member these d ≡ true) ⊎ ((e : ℕ) × (member these e ≡ true) × Leads rs d e)
      still_lead d (inl k) =
          let r = (in_into rs (without within lead) lead d g.below k).1 in
          inr (by r.0 r.1 (g.leads r.0 r.2))
        where
          by : (e : ℕ) → member (row_at rs d) e ≡ true
              → (member these e ≡ true) ⊎ ((f : ℕ) × (member these f ≡ true) × Leads rs e f)
              → (f : ℕ) × (member these f ≡ true) × Leads rs d f
          by e q (inl k) = (e, k, once d e q)
          by e q (inr k) = (k.0, k.1, more d e k.0 q k.2)
      still_lead d (inr k) = g.leads d k

      -- a device that leads to one of them is known, or found now
      all_new : (d e : ℕ) → member within d ≡ true → member (row_at rs d) e ≡ true → member lead e ≡ true
          → member (joined_behind lead) d ≡ true
      all_new d e w m k = go (test (member lead d))
        where
          go : (member lead d ≡ true) ⊎ (member lead d ≡ false) → member (joined_behind lead) d ≡ true
          go (inl q) = in_right (new_behind lead) lead d q
          go (inr q) =
              in_left_lem (new_behind lead) lead d
              (into_in rs (without within lead) lead d e (member_without within lead d ∙ rw (w, q)) m k)

      pub gathering_on : Gathering (joined_behind lead) lead
      gathering_on = record {
        below = still_below;
        selves = λ d m. in_right (new_behind lead) lead d (g.selves d m);
        leads = λ d m. still_lead d (in_union (new_behind lead) lead d m);
        closed = λ q d e w m k. all_new d e w m (rw q at k);
      }

      pub gathering_less : (not (eqb lead before) && not (eqb lead within)) ≡ true
          → 2 * (2 ^ length rs - joined_behind lead) + cond (eqb (joined_behind lead) lead) 0 1
          < 2 * (2 ^ length rs - lead) + cond (eqb lead before) 0 1
      gathering_less t =
          rw (differs lead before within t)
          (rises (2 ^ length rs) (joined_behind lead) lead still_below (union_more (new_behind lead) lead))

    pub all_gathered : (lead before : ℕ) → Gathering lead before → (lead ≡ before) ⊎ (lead ≡ within)
        → LeadTo rs within these lead
    all_gathered lead before g (inl q) = record { selves = g.selves; lead = g.leads; closed = g.closed q }
    all_gathered lead before g (inr q) = record {
      selves = g.selves;
      lead = g.leads;
      closed = λ d e w m k. rw q w;
    }

  -- ---- what a device leads to

  module _ (within from : ℕ) where
    -- On the way: what it leads to, and those of them whose rows were looked at.
    pub record Following (reached done : ℕ) : Type 0 where
      pub below : reached < 2 ^ length rs
      pub done_below : done < 2 ^ length rs
      pub done_in : (d : ℕ) → member done d ≡ true → member reached d ≡ true
      pub self : member reached from ≡ true
      pub led : (e : ℕ) → member reached e ≡ true → (e ≡ from) ⊎ (Leads rs from e × (member within e ≡ true))
      pub closed : (d e : ℕ) → member done d ≡ true → member (row_at rs d) e ≡ true → member within e ≡ true
          → member reached e ≡ true

    pub following_begins : from < length rs → Following (only_of (length rs) from) 0
    unfolding empty
    following_begins h = record {
      below = only_of_below (length rs) from;
      done_below = empty_below (length rs);
      done_in = λ d m. clash (member 0 d) m (member_empty d);
      self = member_only_of (length rs) from from h ∙ eq-eqb from from refl;
      led = λ e m. inl (no_other (length rs) from e m);
      closed = λ d e m. clash (member 0 d) m (member_empty d);
    }

    module _ (reached done : ℕ) (g : Following reached done) where
      -- one that is reached and was not looked at
      pub record Next (d : ℕ) : Type 0 where
        pub on_board : d < length rs
        pub is_reached : member reached d ≡ true
        pub not_done : member done d ≡ false

      pub next : (stop : ℕ) → (not (eqb reached done) && eqb (both reached stop) 0) ≡ true
          → (d : ℕ) → d ≡ lowest_of (length rs) (without reached done) → Next d
      next stop t d e =
          rw e (go (lowest_of (length rs) (without reached done)) (lowest (length rs) (without reached done)))
        where
          q : eqb reached done ≡ false
          q = not-true (eqb reached done) (and_split (not (eqb reached done)) (eqb (both reached stop) 0) t).0

          same : (a b : Bool) → (b ≡ true → a ≡ true) → (a && not b) ≡ false → a ≡ b
          same true true f e = refl
          same true false f e = e
          same false true f e = f refl
          same false false f e = refl

          go : (d : ℕ) → Lowest (length rs) (without reached done) d → Next d
          go d (found m l e low) =
              let s = and_split (member reached m) (not (member done m)) (sym (member_without reached done m) ∙ e) in
              record { on_board = l; is_reached = s.0; not_done = not-true (member done m) s.1 }
          go d (nothing f) =
              absurd
              (eqb-false reached done q
              (same_members (length rs) reached done g.below g.done_below
              (λ e l. same (member reached e) (member done e) (g.done_in e)
              (sym (member_without reached done e) ∙ f e l))))

      module _ (d : ℕ) (n : Next d) where
        abbrev done_with : ℕ
        done_with = union (only_of (length rs) d) done

        abbrev reached_with : ℕ
        reached_with = union (both (row_at rs d) within) reached

        is_done_lem : (x : ℕ) → member done_with x ≡ true → (x ≡ d) ⊎ (member done x ≡ true)
        is_done_lem x m = go (in_union (only_of (length rs) d) done x m)
          where
            go : (member (only_of (length rs) d) x ≡ true) ⊎ (member done x ≡ true) → (x ≡ d) ⊎ (member done x ≡ true)
            go (inl k) = inl (no_other (length rs) d x k)
            go (inr k) = inr k

        led_on : (e : ℕ) → member reached_with e ≡ true → (e ≡ from) ⊎ (Leads rs from e × (member within e ≡ true))
        led_on e m = go (in_union (both (row_at rs d) within) reached e m)
          where
            by : member (row_at rs d) e ≡ true → (d ≡ from) ⊎ (Leads rs from d × (member within d ≡ true))
                → Leads rs from e
            by k (inl q) = let o : Leads rs d e = once d e k in rw q at o
            by k (inr q) = leads_on from d e q.0 k

            go : (member (both (row_at rs d) within) e ≡ true) ⊎ (member reached e ≡ true)
                → (e ≡ from) ⊎ (Leads rs from e × (member within e ≡ true))
            go (inl k) =
                let b = in_both (row_at rs d) within e k in inr (by b.0 (g.led d n.is_reached), b.1)
            go (inr k) = g.led e k

        pub following_on : within < 2 ^ length rs → Following reached_with done_with
        following_on inside = record {
          below =
              union_below (length rs) (both (row_at rs d) within) reached
              (both_within (length rs) (row_at rs d) within inside) g.below;
          done_below =
              union_below (length rs) (only_of (length rs) d) done (only_of_below (length rs) d) g.done_below;
          done_in = λ x m. in_right (both (row_at rs d) within) reached x (was x (is_done_lem x m));
          self = in_right (both (row_at rs d) within) reached from g.self;
          led = led_on;
          closed = λ x e m. closes x e (is_done_lem x m);
        }
          where
            was : (x : ℕ) → (x ≡ d) ⊎ (member done x ≡ true) → member reached x ≡ true
            was x (inl q) = rw q n.is_reached
            was x (inr m) = g.done_in x m

            closes : (x e : ℕ) → (x ≡ d) ⊎ (member done x ≡ true) → member (row_at rs x) e ≡ true
                → member within e ≡ true → member reached_with e ≡ true
            closes x e (inl q) k w =
                in_left_lem (both (row_at rs d) within) reached e (both_in (row_at rs d) within e (rw q at k) w)
            closes x e (inr m) k w = in_right (both (row_at rs d) within) reached e (g.closed x e m k w)

        pub following_less : 2 ^ length rs - done_with < 2 ^ length rs - done
        following_less =
            omega (arith, g.done_below, put_in_more (length rs) done d n.on_board n.not_done)

      -- done, or stopped
      pub all_followed : (stop : ℕ) → (not (eqb reached done) && eqb (both reached stop) 0) ≡ false
          → Reached rs within stop from reached
      all_followed stop t = record {
        below = g.below;
        self = g.self;
        led = g.led;
        closed = ends (test (eqb reached done));
      }
        where
          some : false ≡ eqb (both reached stop) 0 → 0 < both reached stop
          some z = let n = eqb-false (both reached stop) 0 (sym z) in omega arith

          ends : (eqb reached done ≡ true) ⊎ (eqb reached done ≡ false)
              → ((e : ℕ) → member reached e ≡ true → member stop e ≡ false) → (d e : ℕ) → member reached d ≡ true
              → member (row_at rs d) e ≡ true → member within e ≡ true → member reached e ≡ true
          ends (inl q) f d e m =
              g.closed d e (subst (λ (x : ℕ). member x d ≡ true) (eqb-true reached done q) m)
          ends (inr q) f d e m =
              let z = sym (rw q at t) in
              let below = both_below (length rs) reached stop g.below in
              let r = some_device (length rs) (both reached stop) below (some z) in
              let k = in_both reached stop r.0 r.1 in
              clash (member stop r.0) k.1 (f r.0 k.0)

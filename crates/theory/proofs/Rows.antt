-- Leading back is decided by going at most as many steps as there are devices, for any rows: the test `leads_back`
-- passes exactly if the device leads to itself. A search for circles is proved against this. The sets of what is led
-- to in more and more steps grow; each of them has a device more than the one before or is the last.
use Prim.Native.Nat.{ℕ, zero, suc, ◌+◌, ◌<◌, ◌≤◌}
use mathlib.Core.Bool.{Bool, true, false, cond, not, ◌&&◌}
use mathlib.Core.List.{List}
use mathlib.Core.Logic.{◌⊎◌, inl, inr, ◌↔◌}
use mathlib.Core.Path.{◌≡◌, refl}
use native.Mathlib.Omega.{arith}
use lib.ListN.{length, get_or, get_or-eq_default}
use borrow.Author.Tests.{not-true}
use Rattle.model.specs.Lists.{up_from, any}
use Rattle.model.specs.Sets.{empty, union, member}
use Rattle.model.specs.Rows.{Leads, once, more, onward, led_to, leads_back}
use Rattle.theory.proofs.Tests.{clash, test, and_split, and_both, le_or_lt}
use Rattle.theory.proofs.Lists.{has_up_from, up_from_has, any_found, any_at, left, left_lt, left_none}
use Rattle.theory.proofs.Lists.{left_all}
use Rattle.theory.proofs.Sets.{member_empty, in_union, in_left_lem, in_right, in_union_of, union_of_in}

module _ (rs : List ℕ) where
  -- the row of a device
  abbrev row : ℕ → ℕ
  row d = get_or rs d 0

  -- a device with a member in its row is one of the board
  pub row_below : (d e : ℕ) → member (row d) e ≡ true → d < length rs
  unfolding empty
  row_below d e m = go (le_or_lt (length rs) d)
    where
      go : (length rs ≤ d) ⊎ (d < length rs) → d < length rs
      go (inl h) = clash (member 0 e) (rw (get_or-eq_default rs 0 {n = d} h) at m) (member_empty e)
      go (inr h) = h

  in_onward : (s e : ℕ) → member (onward rs s) e ≡ true → (d : ℕ) × (member s d ≡ true) × (member (row d) e ≡ true)
  unfolding onward
  in_onward s e m =
      let r = in_union_of (λ d. cond (member s d) (row d) empty) (up_from 0 (length rs)) e m in
      let q = go r.0 (member s r.0) refl r.2 in (r.0, q.0, q.1)
    where
      go : (d : ℕ) (b : Bool) → member s d ≡ b → member (cond b (row d) empty) e ≡ true
          → (member s d ≡ true) × (member (row d) e ≡ true)
      go d true q m = (q, m)
      go d false q m = clash (member empty e) m (member_empty e)

  onward_in : (s d e : ℕ) → member s d ≡ true → member (row d) e ≡ true → member (onward rs s) e ≡ true
  unfolding onward
  onward_in s d e h m =
      union_of_in (λ d. cond (member s d) (row d) empty) (up_from 0 (length rs)) d e
      (up_from_has 0 (length rs) d (omega arith) (omega (arith, row_below d e m))) (rw h m)

  leads_on : (d x e : ℕ) → Leads rs d x → member (row x) e ≡ true → Leads rs d e
  leads_on d x e (once a b h) m = more a b e h (once b e m)
  leads_on d x e (more a b c h l) m = more a b e h (leads_on b c e l m)

  -- ---- what is led to in so many steps is led to

  led_leads : (n d e : ℕ) → member (led_to n rs d) e ≡ true → Leads rs d e
  unfolding led_to
  led_leads zero d e m = clash (member empty e) m (member_empty e)
  led_leads (suc n) d e m = go (in_union (row d) (onward rs (led_to n rs d)) e m) (led_leads n d)
    where
      go : (member (row d) e ≡ true) ⊎ (member (onward rs (led_to n rs d)) e ≡ true)
          → ((x : ℕ) → member (led_to n rs d) x ≡ true → Leads rs d x) → Leads rs d e
      go (inl h) ih = once d e h
      go (inr h) ih = let r = in_onward (led_to n rs d) e h in leads_on d r.0 e (ih r.0 r.1) r.2

  -- ---- what is led to is led to in as many steps as there are devices

  -- the sets grow
  grows : (n d e : ℕ) → member (led_to n rs d) e ≡ true → member (led_to (suc n) rs d) e ≡ true
  unfolding led_to
  grows zero d e m = clash (member empty e) m (member_empty e)
  grows (suc n) d e m = go (in_union (row d) (onward rs (led_to n rs d)) e m) (grows n d)
    where
      go : (member (row d) e ≡ true) ⊎ (member (onward rs (led_to n rs d)) e ≡ true)
          → ((x : ℕ) → member (led_to n rs d) x ≡ true → member (led_to (suc n) rs d) x ≡ true)
          → member (union (row d) (onward rs (led_to (suc n) rs d))) e ≡ true
      go (inl h) ih = in_left_lem (row d) (onward rs (led_to (suc n) rs d)) e h
      go (inr h) ih =
          let r = in_onward (led_to n rs d) e h in
          in_right (row d) (onward rs (led_to (suc n) rs d)) e
          (onward_in (led_to (suc n) rs d) r.0 e (ih r.0 r.1) r.2)

  -- one step on from what is led to
  one_on : (n d x e : ℕ) → member (led_to n rs d) x ≡ true → member (row x) e ≡ true
      → member (led_to (suc n) rs d) e ≡ true
  unfolding led_to
  one_on n d x e h m = in_right (row d) (onward rs (led_to n rs d)) e (onward_in (led_to n rs d) x e h m)

  -- a device of the board that is led to in one step more is led to already
  abbrev Stable : ℕ → ℕ → Type 0
  Stable n d = (e : ℕ) → e < length rs → member (led_to (suc n) rs d) e ≡ true → member (led_to n rs d) e ≡ true

  stays : (n d : ℕ) → Stable n d → Stable (suc n) d
  unfolding led_to
  stays n d s e h m = go (in_union (row d) (onward rs (led_to (suc n) rs d)) e m)
    where
      go : (member (row d) e ≡ true) ⊎ (member (onward rs (led_to (suc n) rs d)) e ≡ true)
          → member (led_to (suc n) rs d) e ≡ true
      go (inl q) = in_left_lem (row d) (onward rs (led_to n rs d)) e q
      go (inr q) =
          let r = in_onward (led_to (suc n) rs d) e q in
          one_on n d r.0 e (s r.0 (row_below r.0 e r.2) r.1) r.2

  -- stable after n steps, or n devices fewer are left
  settles : (n d : ℕ) → Stable n d ⊎ (left (member (led_to n rs d)) (length rs) + n ≤ length rs)
  settles zero d = inr (omega (arith, left_all (member (led_to 0 rs d)) (length rs)))
  settles (suc n) d = go (settles n d) (test (any new (up_from 0 (length rs))))
    where
      new : ℕ → Bool
      new e = member (led_to (suc n) rs d) e && not (member (led_to n rs d) e)

      stable : any new (up_from 0 (length rs)) ≡ false → Stable n d
      stable q e h m = split (test (member (led_to n rs d) e))
        where
          split : (member (led_to n rs d) e ≡ true) ⊎ (member (led_to n rs d) e ≡ false)
              → member (led_to n rs d) e ≡ true
          split (inl y) = y
          split (inr y) =
              clash (any new (up_from 0 (length rs)))
              (any_at new (up_from 0 (length rs)) e (up_from_has 0 (length rs) e (omega arith) (omega arith))
              (and_both (member (led_to (suc n) rs d) e) (not (member (led_to n rs d) e)) m (rw y))) q

      fewer : any new (up_from 0 (length rs)) ≡ true
          → left (member (led_to (suc n) rs d)) (length rs) < left (member (led_to n rs d)) (length rs)
      fewer q =
          let r = any_found new (up_from 0 (length rs)) q in
          let s = and_split (member (led_to (suc n) rs d) r.0) (not (member (led_to n rs d) r.0)) r.2 in
          left_lt (member (led_to n rs d)) (member (led_to (suc n) rs d)) (grows n d) r.0
          (not-true (member (led_to n rs d) r.0) s.1) s.0 (length rs)
          (omega (arith, (has_up_from 0 (length rs) r.0 r.1).1))

      go : Stable n d ⊎ (left (member (led_to n rs d)) (length rs) + n ≤ length rs)
          → (any new (up_from 0 (length rs)) ≡ true) ⊎ (any new (up_from 0 (length rs)) ≡ false)
          → Stable (suc n) d ⊎ (left (member (led_to (suc n) rs d)) (length rs) + suc n ≤ length rs)
      go (inl s) q = inl (stays n d s)
      go (inr h) (inl q) = inr (omega (arith, fewer q))
      go (inr h) (inr q) = inl (stays n d (stable q))

  stable_at_end : (d : ℕ) → Stable (length rs) d
  stable_at_end d = go (settles (length rs) d)
    where
      go : Stable (length rs) d ⊎ (left (member (led_to (length rs) rs d)) (length rs) + length rs ≤ length rs)
          → Stable (length rs) d
      go (inl s) = s
      go (inr h) = λ e b m. left_none (member (led_to (length rs) rs d)) (length rs) (omega arith) e b

  pub leads_below : (d e : ℕ) → Leads rs d e → d < length rs
  leads_below d e (once a b m) = row_below a b m
  leads_below d e (more a b c m l) = row_below a b m

  -- from a device that is led to, along rows
  leads_led : (d x e : ℕ) → e < length rs → member (led_to (length rs) rs d) x ≡ true → Leads rs x e
      → member (led_to (length rs) rs d) e ≡ true
  leads_led d x e b h (once a c m) = stable_at_end d c b (one_on (length rs) d a c h m)
  leads_led d x e b h (more a c f m l) =
      leads_led d c f b (stable_at_end d c (leads_below c f l) (one_on (length rs) d a c h m)) l

  first_step : (n d e : ℕ) → d < n → member (row d) e ≡ true → member (led_to n rs d) e ≡ true
  unfolding led_to
  first_step zero d e h m = absurd (omega arith)
  first_step (suc n) d e h m = in_left_lem (row d) (onward rs (led_to n rs d)) e m

  pub leads_is_led : (d e : ℕ) → e < length rs → Leads rs d e → member (led_to (length rs) rs d) e ≡ true
  leads_is_led d e b (once a c m) = first_step (length rs) a c (row_below a c m) m
  leads_is_led d e b (more a c f m l) = leads_led a c f b (first_step (length rs) a c (row_below a c m) m) l

-- The theorem.
pub leads_back_exactly : (rs : List ℕ) (d : ℕ) → (leads_back rs d ≡ true) ↔ Leads rs d d
unfolding leads_back
leads_back_exactly rs d = (led_leads rs (length rs) d d, λ l. leads_is_led rs d d (leads_below rs d d l) l)

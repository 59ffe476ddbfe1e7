-- The existence theorem. A plan without a fault has a legal order exactly if the verdict refuses it neither by 9 nor
-- by 10, and then the order handed out is legal; 9 and 10 come with the lowest such device. After the last step of a
-- legal order the devices held are exactly those that a line keeps: by a lasting take, or held without a give. A plan
-- may be taken up at midday; 01's is the case without held lines.
use Prim.Native.Nat.{ℕ, zero, suc, ◌<◌, ◌≤◌}
use mathlib.Core.Bool.{Bool, true, false, cond, not, ◌&&◌, ◌||◌}
use mathlib.Core.List.{List, [], ◌∷◌, ◌++◌}
use mathlib.Core.Logic.{◌⊎◌, inl, inr, ◌≢◌, ◌↔◌}
use mathlib.Core.Option.{Option, none, some, none-ne-some, some-injective}
use mathlib.Core.Path.{◌≡◌, refl, sym, ◌∙◌, ap, subst}
use native.Mathlib.Omega.{arith}
use lib.Dec.{eqb, leb}
use lib.ListN.{length}
use borrow.Author.Tests.{eqb-true, eq-eqb, leb-true, le-leb, not-true}
use Rattle.model.specs.Lists.{up_from, positions, any, has, those, first_of}
use Rattle.model.specs.Answers.{refuse_at, first_refusal}
use Rattle.model.specs.Line.{Settings, opens, is_held, is_give, device_of, holds, at}
use Rattle.model.specs.Mate.{held_at, held_lines, grips, mate, is_none, keeps}
use Rattle.model.specs.WellFormed.{Rules, WellFormed, fault}
use Rattle.model.specs.Legal.{given_back, held, Legal}
use Rattle.model.specs.Rows.{rows, Leads, leads_back}
use Rattle.model.specs.Handed.{undone, closes_held, segments, handed_after, handed}
use Rattle.model.specs.Verdict.{keepers, two_lasting, circle_of, circle, takes_kept, stays_open, hindered, no_order}
use Rattle.model.specs.Verdict.{held_at_end}
use Rattle.model.specs.declared.Refusal.{Refusal}
use Rattle.model.specs.declared.Refusal.TheVariants.{TwoLasting, LeadsBack}
use Rattle.theory.specs.Verdict.{LastsTwice, NoOrderBy, twice, back, Hindered, HeldDevice, NoOrder, by_rows}
use Rattle.theory.specs.Verdict.{by_held}
use Rattle.theory.proofs.Tests.{clash, test, tests_agree, or_split, or_left, or_neither, and_split, and_both}
use Rattle.theory.proofs.Tests.{le_or_lt}
use Rattle.theory.proofs.Lists.{has_none, has_head, has_tail, has_cases, has_left, has_right, has_append}
use Rattle.theory.proofs.Lists.{has_up_from}
use Rattle.theory.proofs.Lists.{up_from_has, position_has, has_those, those_has, those_same, any_found, any_at}
use Rattle.theory.proofs.Lists.{Answer, first_answer, first_lowest}
use Rattle.theory.proofs.Line.{held_line, held_opens, device_line}
use Rattle.theory.proofs.WellFormed.{no_fault_exactly, line_any, any_line}
use Rattle.theory.proofs.Mate.{pair}
use Rattle.theory.proofs.Grips.{has_held, held_has, holds_line}
use Rattle.theory.proofs.Places.{kept_untaken, keeps_parts, keeps_line, still_held_lem}
use Rattle.theory.proofs.OnlyIf.{length_rows, legal_excludes}
use Rattle.theory.proofs.Turns.{given_back_lem}
use Rattle.theory.proofs.Progress.{grips_below}
use Rattle.theory.proofs.Handed.{follow_append, Finishes, turns_finish}
use Rattle.theory.proofs.Segments.{legal_closes, segments_close, segments_between, closed_held}
use Rattle.theory.proofs.Segments.{takes_kept_lem, kept_takes}
use Rattle.theory.proofs.Rows.{leads_back_exactly, leads_below}

-- ---- two keepers, counted

-- those of ascending numbers that pass ascend
ascending : (f : ℕ → Bool) (a n x : ℕ) (ys : List ℕ) → those f (up_from a n) ≡ x ∷ ys → (y : ℕ) → has y ys ≡ true
    → x < y
unfolding those up_from
ascending f a zero x ys e y h = let z : ◌≡◌ {A = ℕ} 0 (suc (length ys)) = ap length e in absurd (omega arith)
ascending f a (suc n) x ys e y h = go (f a) e (λ q. ascending f (suc a) n x ys q y h)
  where
    go : (b : Bool) → elim b [ true ↦ a ∷ those f (up_from (suc a) n) | false ↦ those f (up_from (suc a) n) ] ≡ x ∷ ys
        → (those f (up_from (suc a) n) ≡ x ∷ ys → x < y) → x < y
    go false q ih = ih q
    go true q ih =
        let z : a ≡ x = cc in
        let t : those f (up_from (suc a) n) ≡ ys = cc in
        let r = has_those f (up_from (suc a) n) y (rw t h) in
        omega (arith, (has_up_from (suc a) n y r.0).0)

-- two of a list are counted
counted_two : (xs : List ℕ) (i k : ℕ) → i ≢ k → has i xs ≡ true → has k xs ≡ true → 2 ≤ length xs
counted_two [] i k n h g = has_none i h
counted_two (x ∷ []) i k n h g = go (has_cases i x [] h) (has_cases k x [] g)
  where
    go : (i ≡ x) ⊎ (has i [] ≡ true) → (k ≡ x) ⊎ (has k [] ≡ true) → 2 ≤ 1
    go (inl a) (inl b) = absurd (n (a ∙ sym b))
    go (inl a) (inr b) = has_none k b
    go (inr a) b = has_none i a
counted_two (x ∷ y ∷ xs) i k n h g = omega arith

two_counted : (p : List ℕ) (d : ℕ) (xs : List ℕ) → keepers p d ≡ xs → 2 ≤ length xs → LastsTwice p d
unfolding keepers positions
two_counted p d [] e h = absurd (omega arith)
two_counted p d (x ∷ []) e h = absurd (omega arith)
two_counted p d (x ∷ y ∷ xs) e h =
    let later : x < y = ascending (λ i. keeps p i d) 0 (length p) x (y ∷ xs) e y (has_head y xs) in
    record {
      i = x;
      k = y;
      apart = λ q. omega arith;
      i_lasts = lasts x (has_head x (y ∷ xs));
      k_lasts =
          lasts y (has_tail y x (y ∷ xs) (has_head y xs));
    }
  where
    lasts : (z : ℕ) → has z (x ∷ y ∷ xs) ≡ true → keeps p z d ≡ true
    lasts z m = (has_those (λ i. keeps p i d) (up_from 0 (length p)) z (rw e m)).1

pub lasts_twice_exactly : (p : List ℕ) (d : ℕ) → (leb 2 (length (keepers p d)) ≡ true) ↔ LastsTwice p d
unfolding keepers
lasts_twice_exactly p d =
    (λ h. two_counted p d (keepers p d) refl (leb-true 2 (length (keepers p d)) h), from)
  where
    listed : (i : ℕ) → keeps p i d ≡ true → has i (keepers p d) ≡ true
    listed i l =
        those_has (λ i. keeps p i d) (positions p) i
        (position_has p i (keeps_line p i d l)) l

    from : LastsTwice p d → leb 2 (length (keepers p d)) ≡ true
    from t =
        le-leb 2 (length (keepers p d))
        (counted_two (keepers p d) t.i t.k t.apart (listed t.i t.i_lasts)
        (listed t.k t.k_lasts))

-- ---- the verdict's refusals

-- by any rows
pub data ViewBy (D : ℕ) (p rs : List ℕ) : Option Refusal → Type 0 where
  passes : ((e : ℕ) → e < D → LastsTwice p e → ⊥) → ((e : ℕ) → e < D → Leads rs e e → ⊥) → ViewBy D p rs none
  fails : (r : Refusal) → NoOrderBy D p rs r → ViewBy D p rs (some r)

pub view_by : (D : ℕ) (p rs : List ℕ) → ViewBy D p rs (first_refusal (two_lasting D p ∷ circle_of D rs ∷ []))
unfolding first_refusal two_lasting circle_of refuse_at
view_by D p rs =
    go (first_of two (up_from 0 D)) refl (first_answer two (up_from 0 D)) (first_of leads (up_from 0 D)) refl
    (first_answer leads (up_from 0 D))
  where
    two : ℕ → Bool
    two d = leb 2 (length (keepers p d))

    leads : ℕ → Bool
    leads = leads_back rs

    not_two : (e : ℕ) → two e ≡ false → LastsTwice p e → ⊥
    not_two e q t = clash (two e) ((lasts_twice_exactly p e).1 t) q

    not_back : (e : ℕ) → leads e ≡ false → Leads rs e e → ⊥
    not_back e q l = clash (leads e) ((leads_back_exactly rs e).1 l) q

    below : (d : ℕ) → has d (up_from 0 D) ≡ true → d < D
    below d h = omega (arith, (has_up_from 0 D d h).1)

    go : (x : Option ℕ) → first_of two (up_from 0 D) ≡ x → Answer two (up_from 0 D) x
        → (y : Option ℕ) → first_of leads (up_from 0 D) ≡ y → Answer leads (up_from 0 D) y
        → ViewBy D p rs (first_refusal (refuse_at TwoLasting x ∷ refuse_at LeadsBack y ∷ []))
    go (some d) xe xa y ye ya =
        fails (TwoLasting d)
        (twice d (below d xa.0) ((lasts_twice_exactly p d).0 xa.1)
        (λ e h. not_two e (first_lowest two 0 D d xe e (omega arith) h)))
    go none xe xa (some d) ye ya =
        fails (LeadsBack d)
        (back d (λ e h. not_two e (xa e (up_from_has 0 D e (omega arith) (omega arith)))) (below d ya.0)
        ((leads_back_exactly rs d).0 ya.1)
        (λ e h. not_back e (first_lowest leads 0 D d ye e (omega arith) h)))
    go none xe xa none ye ya =
        passes (λ e h. not_two e (xa e (up_from_has 0 D e (omega arith) (omega arith))))
        (λ e h. not_back e (ya e (up_from_has 0 D e (omega arith) (omega arith))))

-- the device of a held line is one of the board
held_below_lem : (S : Settings) (p : List ℕ) → WellFormed S p → (d : ℕ) → HeldDevice p d → d < S.devices
unfolding holds
held_below_lem S p w d n =
    let l = at p n.0 in
    let s = and_split (is_held l) (eqb (device_of l) d) n.1 in
    subst (λ (x : ℕ). x < S.devices) (eqb-true (device_of l) d s.1)
    (device_line S l (w.lines n.0 (held_line p n.0 s.0)) (or_left (opens l) (is_give l) (held_opens l s.0)))

-- a held line names its device
own_device_held : (p : List ℕ) (h : ℕ) → held_at p h ≡ true → HeldDevice p (device_of (at p h))
unfolding held_at holds
own_device_held p h e = (
  h,
  and_both (is_held (at p h)) (eqb (device_of (at p h)) (device_of (at p h))) e
      (eq-eqb (device_of (at p h)) (device_of (at p h)) refl),
)

-- where held lines hinder there is a held line
some_held : (p : List ℕ) → Hindered p → (d : ℕ) × HeldDevice p d
unfolding stays_open
some_held p (inl t) = (device_of (at p t.h), own_device_held p t.h t.is_held)
some_held p (inr e) =
    let m = any_found (closes_held p) (undone p (held_lines p ++ segments p)) e in
    let h = closed_held p m.0 m.2 in (device_of (at p h.0), own_device_held p h.0 h.1)

-- by held lines: hindered at the lowest device that one names, or not
data HeldView (D : ℕ) (p : List ℕ) : Option Refusal → Type 0 where
  free : takes_kept p ≡ false → stays_open p ≡ false → HeldView D p none
  caught : (d : ℕ) → Hindered p → d < D → HeldDevice p d → ((e : ℕ) → e < d → HeldDevice p e → ⊥)
      → HeldView D p (some (LeadsBack d))

held_view : (S : Settings) (p : List ℕ) → WellFormed S p → HeldView S.devices p (hindered S.devices p)
unfolding hindered refuse_at
held_view S p w = go (takes_kept p || stays_open p) refl (first_of names (up_from 0 D)) refl
    (first_answer names (up_from 0 D))
  where
    D : ℕ
    D = S.devices

    names : ℕ → Bool
    names d = any (λ l. holds l d) p

    not_named : (e : ℕ) → names e ≡ false → HeldDevice p e → ⊥
    not_named e q n =
        clash (names e) (line_any (λ l. holds l e) p n.0 (holds_line p n.0 e n.1) n.1) q

    named : (e : ℕ) → names e ≡ true → HeldDevice p e
    named e q = let r = any_line (λ l. holds l e) p q in (r.0, r.2)

    hinders : (takes_kept p || stays_open p) ≡ true → Hindered p
    hinders q = split (or_split (takes_kept p) (stays_open p) q)
      where
        split : (takes_kept p ≡ true) ⊎ (stays_open p ≡ true) → Hindered p
        split (inl e) = inl (takes_kept_lem p e)
        split (inr e) = inr e

    go : (b : Bool) → (takes_kept p || stays_open p) ≡ b → (z : Option ℕ) → first_of names (up_from 0 D) ≡ z
        → Answer names (up_from 0 D) z → HeldView D p (cond b (refuse_at LeadsBack z) none)
    go true be (some d) ze za =
        caught d (hinders be) (omega (arith, (has_up_from 0 D d za.0).1)) (named d za.1)
        (λ e h. not_named e (first_lowest names 0 D d ze e (omega arith) h))
    go true be none ze za =
        let n = some_held p (hinders be) in
        let low = held_below_lem S p w n.0 n.1 in
        absurd (not_named n.0 (za n.0 (up_from_has 0 D n.0 (omega arith) (omega arith))) n.1)
    go false be z ze za = let f = or_neither (takes_kept p) (stays_open p) be in free f.0 f.1

-- all of it, by the plan's own rows
pub data OrderView (D : ℕ) (p : List ℕ) : Option Refusal → Type 0 where
  accepted : ((e : ℕ) → e < D → LastsTwice p e → ⊥) → ((e : ℕ) → e < D → Leads (rows D p) e e → ⊥)
      → takes_kept p ≡ false → stays_open p ≡ false → OrderView D p none
  refused : (r : Refusal) → NoOrder D p r → OrderView D p (some r)

-- the third test counts where the first two refuse nothing
two_first : (a b c : Option Refusal)
    → first_refusal (a ∷ b ∷ c ∷ []) ≡ elim (first_refusal (a ∷ b ∷ [])) [ some r ↦ some r | none ↦ c ]
unfolding first_refusal
two_first (some r) b c = refl
two_first none (some r) c = refl
two_first none none none = refl
two_first none none (some r) = refl

pub order_view : (S : Settings) (p : List ℕ) → WellFormed S p → OrderView S.devices p (no_order S.devices p)
unfolding no_order circle
order_view S p w =
    rw (two_first (two_lasting D p) (circle_of D (rows D p)) (hindered D p))
    (go (first_refusal (two_lasting D p ∷ circle_of D (rows D p) ∷ [])) (view_by D p (rows D p)) (hindered D p)
    (held_view S p w))
  where
    D : ℕ
    D = S.devices

    go : (x : Option Refusal) → ViewBy D p (rows D p) x → (y : Option Refusal) → HeldView D p y
        → OrderView D p (elim x [ some r ↦ some r | none ↦ y ])
    go x (fails r n) y h = refused r (by_rows r n)
    go x (passes f g) y (free k o) = accepted f g k o
    go x (passes f g) y (caught d h l n low) = refused (LeadsBack d) (by_held d f g h l n low)

-- a reason why there is no order excludes every legal one
pub no_legal_order : (D : ℕ) (p : List ℕ) → Rules p → (r : Refusal) → NoOrder D p r → (o : List ℕ) → Legal p o → ⊥
no_legal_order D p rules r (by_rows s (twice d h t low)) o legal = (legal_excludes D p o rules legal d).0 t
no_legal_order D p rules r (by_rows s (back d f h l low)) o legal = (legal_excludes D p o rules legal d).1 l
no_legal_order D p rules r (by_held d f g (inl t) h n low) o legal =
    kept_untaken p o legal t.h t.i t.d t.is_held t.stays t.taken
no_legal_order D p rules r (by_held d f g (inr e) h n low) o legal =
    clash (stays_open p) e (legal_closes p o rules legal)

-- ---- the devices held at the end

-- after the last step of a legal order exactly the devices that a line keeps are held
pub held_at_end_exactly : (p o : List ℕ) → Legal p o → (d : ℕ)
    → (held p (held_lines p ++ o) d ≡ true) ↔ ((i : ℕ) × (keeps p i d ≡ true))
unfolding held keeps is_none
held_at_end_exactly p o legal d = (to, from)
  where
    all : List ℕ
    all = held_lines p ++ o

    every : (i : ℕ) → i < length p → has i all ≡ true
    every i h = go (test (held_at p i))
      where
        go : (held_at p i ≡ true) ⊎ (held_at p i ≡ false) → has i all ≡ true
        go (inl e) = has_left i (held_lines p) o (held_has p i e)
        go (inr e) = has_right i (held_lines p) o (legal.whole i h e)

    never_given : (k : ℕ) → given_back p all k ≡ false → (m : Option ℕ) → mate p k ≡ m → is_none m ≡ true
    never_given k n none e = refl
    never_given k n (some m) e =
        clash (given_back p all k) (given_back_lem p all k m e (every m (pair p k m e).in_plan)) n

    to : held p all d ≡ true → (i : ℕ) × (keeps p i d ≡ true)
    to h =
        let r = any_found (λ k. grips p k d && not (given_back p all k)) all h in
        let s = and_split (grips p r.0 d) (not (given_back p all r.0)) r.2 in (
          r.0,
          and_both (grips p r.0 d) (is_none (mate p r.0)) s.0
              (never_given r.0 (not-true (given_back p all r.0) s.1) (mate p r.0) refl),
        )

    from : (i : ℕ) × (keeps p i d ≡ true) → held p all d ≡ true
    from l =
        let s = keeps_parts p l.0 d l.1 in
        still_held_lem p all l.0 d s.0 s.1 (every l.0 (keeps_line p l.0 d l.1))

-- and their number is what an accepted verdict carries
pub held_number_lem : (D : ℕ) (p : List ℕ) → Legal p (handed p)
    → held_at_end D p ≡ length (those (λ d. any (λ i. keeps p i d) (positions p)) (up_from 0 D))
unfolding held_at_end
held_number_lem D p legal =
    ap length
    (those_same (held p end) (λ d. any (λ i. keeps p i d) (positions p)) (up_from 0 D)
    (λ d h. tests_agree (held p end d) (any (λ i. keeps p i d) (positions p)) (some_keeps d) (is_held_lem d)))
  where
    end : List ℕ
    end = held_lines p ++ handed p

    some_keeps : (d : ℕ) → held p end d ≡ true → any (λ i. keeps p i d) (positions p) ≡ true
    some_keeps d h =
        let l = (held_at_end_exactly p (handed p) legal d).0 h in
        any_at (λ i. keeps p i d) (positions p) l.0 (position_has p l.0 (keeps_line p l.0 d l.1)) l.1

    is_held_lem : (d : ℕ) → any (λ i. keeps p i d) (positions p) ≡ true → held p end d ≡ true
    is_held_lem d h =
        let r = any_found (λ i. keeps p i d) (positions p) h in
        (held_at_end_exactly p (handed p) legal d).1 (r.0, r.2)

-- ---- the theorem

-- two numbers that are both the lowest of which something holds are one
lowest_one : (P : ℕ → Type 0) (d e : ℕ) → P d → P e → ((n : ℕ) → n < d → P n → ⊥) → ((n : ℕ) → n < e → P n → ⊥)
    → d ≡ e
lowest_one P d e x y low under = go (le_or_lt d e) (le_or_lt e d)
  where
    go : (d ≤ e) ⊎ (e < d) → (e ≤ d) ⊎ (d < e) → d ≡ e
    go (inl a) (inl b) = omega (arith, a, b)
    go (inl a) (inr b) = absurd (under d b x)
    go (inr a) b = absurd (low e a y)

-- there is one such reason at most: the lowest device of the twice held, otherwise the lowest that leads back
one_reason : (D : ℕ) (p rs : List ℕ) (r s : Refusal) → NoOrderBy D p rs r → NoOrderBy D p rs s → r ≡ s
one_reason D p rs r s (twice d l t low) (twice e m u under) =
    ap {B = Refusal} TwoLasting (lowest_one (LastsTwice p) d e t u low under)
one_reason D p rs r s (twice d l t low) (back e n m c under) = absurd (n d l t)
one_reason D p rs r s (back d n l c low) (twice e m u under) = absurd (n e m u)
one_reason D p rs r s (back d n l c low) (back e o m x under) =
    ap {B = Refusal} LeadsBack (lowest_one (λ g. Leads rs g g) d e c x low under)

-- what is seen by some rows is refused exactly for its reason
pub seen_exactly : (D : ℕ) (p rs : List ℕ) (x : Option Refusal) → ViewBy D p rs x → (r : Refusal)
    → (x ≡ some r) ↔ NoOrderBy D p rs r
seen_exactly D p rs x v r = (λ e. to x e v, λ h. from x refl v h)
  where
    to : (x : Option Refusal) → x ≡ some r → ViewBy D p rs x → NoOrderBy D p rs r
    to none q v = absurd (none-ne-some r q)
    to (some s) q (fails t h) = subst (λ (y : Refusal). NoOrderBy D p rs y) (some-injective s r q) h

    none_left : ((e : ℕ) → e < D → LastsTwice p e → ⊥) → ((e : ℕ) → e < D → Leads rs e e → ⊥)
        → (t : Refusal) → NoOrderBy D p rs t → ⊥
    none_left f g t (twice d l u low) = f d l u
    none_left f g t (back d n l c low) = g d l c

    from : (y : Option Refusal) → x ≡ y → ViewBy D p rs y → NoOrderBy D p rs r → x ≡ some r
    from none q (passes f g) h = absurd (none_left f g r h)
    from (some s) q (fails t k) h = q ∙ ap {B = Option Refusal} some (one_reason D p rs s r k h)

-- The order handed out is legal: the segments, then the turns.
pub handed_is_legal : (S : Settings) (p : List ℕ) → WellFormed S p → ((d : ℕ) → LastsTwice p d → ⊥)
    → ((d : ℕ) → Leads (rows S.devices p) d d → ⊥) → takes_kept p ≡ false → stays_open p ≡ false → Legal p (handed p)
unfolding handed
handed_is_legal S p w no_two no_circle kept open' = record {
  steps = follow_append p (held_lines p) (segments p) rest (segments_close p w.rules).steps f.0;
  whole = λ i h n. whole' i n (f.1 i h);
}
  where
    rest : List ℕ
    rest = handed_after (length p) p (held_lines p ++ segments p)

    f : Finishes S p w no_two no_circle (held_lines p ++ segments p) rest
    f = turns_finish S p w no_two no_circle (held_lines p ++ segments p) (segments_between p w.rules open' kept)

    early : (i : ℕ) → held_at p i ≡ false → (has i (held_lines p) ≡ true) ⊎ (has i (segments p) ≡ true)
        → has i (segments p ++ rest) ≡ true
    early i n (inl e) = clash (held_at p i) (has_held p i e).1 n
    early i n (inr e) = has_left i (segments p) rest e

    whole' : (i : ℕ) → held_at p i ≡ false → (has i (held_lines p ++ segments p) ≡ true) ⊎ (has i rest ≡ true)
        → has i (segments p ++ rest) ≡ true
    whole' i n (inl e) = early i n (has_append i (held_lines p) (segments p) e)
    whole' i n (inr e) = has_right i (segments p) rest e

-- and so there is one reason at most for a plan
one_reason_in : (D : ℕ) (p : List ℕ) (r s : Refusal) → NoOrder D p r → NoOrder D p s → r ≡ s
one_reason_in D p r s (by_rows t x) (by_rows u y) = one_reason D p (rows D p) r s x y
one_reason_in D p r s (by_held d n f h l c low) (by_held e o g k m x under) =
    ap {B = Refusal} LeadsBack (lowest_one (HeldDevice p) d e c x low under)
one_reason_in D p r s (by_rows t (twice d l u low)) (by_held e n o h m c under) = absurd (n d l u)
one_reason_in D p r s (by_rows t (back d f l u low)) (by_held e n o h m c under) = absurd (o d l u)
one_reason_in D p r s (by_held e n o h m c under) (by_rows t (twice d l u low)) = absurd (n d l u)
one_reason_in D p r s (by_held e n o h m c under) (by_rows t (back d f l u low)) = absurd (o d l u)

module _ (S : Settings) (p : List ℕ) (sound : fault S p ≡ none) where
  abbrev D : ℕ
  D = S.devices

  well_formed_lem : WellFormed S p
  well_formed_lem = (no_fault_exactly S p).0 sound

  view : OrderView D p (no_order D p)
  view = order_view S p well_formed_lem

  -- where 9 and 10 are not given, the order handed out is legal
  pub accepted_is_legal : no_order D p ≡ none → Legal p (handed p)
  accepted_is_legal e = go (no_order D p) e view
    where
      go : (x : Option Refusal) → x ≡ none → OrderView D p x → Legal p (handed p)
      go none q (accepted f g k o) =
          handed_is_legal S p well_formed_lem
          (λ d t. f d (grips_below S p well_formed_lem t.i d (keeps_parts p t.i d t.i_lasts).0) t)
          (λ d l. g d (rw (length_rows D p) at (leads_below (rows D p) d d l)) l) k o
      go (some r) q v = absurd (none-ne-some r (sym q))

  -- 9 or 10 exactly for its reason
  pub refused_exactly : (r : Refusal) → (no_order D p ≡ some r) ↔ NoOrder D p r
  refused_exactly r = (λ e. to (no_order D p) e view, λ h. from (no_order D p) refl view h)
    where
      to : (x : Option Refusal) → x ≡ some r → OrderView D p x → NoOrder D p r
      to none q v = absurd (none-ne-some r q)
      to (some s) q (refused t h) = subst (λ (y : Refusal). NoOrder D p y) (some-injective s r q) h

      none_left : ((e : ℕ) → e < D → LastsTwice p e → ⊥) → ((e : ℕ) → e < D → Leads (rows D p) e e → ⊥)
          → takes_kept p ≡ false → stays_open p ≡ false → (t : Refusal) → NoOrder D p t → ⊥
      none_left f g k o t (by_rows s (twice d l u low)) = f d l u
      none_left f g k o t (by_rows s (back d n l c low)) = g d l c
      none_left f g k o t (by_held d n m (inl x) l c low) = clash (takes_kept p) (kept_takes p x) k
      none_left f g k o t (by_held d n m (inr x) l c low) = clash (stays_open p) x o

      from : (x : Option Refusal) → no_order D p ≡ x → OrderView D p x → NoOrder D p r → no_order D p ≡ some r
      from none q (accepted f g k o) h = absurd (none_left f g k o r h)
      from (some s) q (refused t k) h = q ∙ ap {B = Option Refusal} some (one_reason_in D p s r k h)

  -- The theorem: a legal order exists exactly if the verdict refuses by neither 9 nor 10.
  pub legal_order_exactly : ((o : List ℕ) × Legal p o) ↔ (no_order D p ≡ none)
  legal_order_exactly = (λ l. to l (no_order D p) refl, λ e. (handed p, accepted_is_legal e))
    where
      to : (o : List ℕ) × Legal p o → (x : Option Refusal) → no_order D p ≡ x → no_order D p ≡ none
      to l none e = e
      to l (some r) e =
          absurd (no_legal_order D p well_formed_lem.rules r ((refused_exactly r).0 e) l.0 l.1)

  -- Where no device is kept twice and none leads back, 10 comes exactly where there is no legal order, and with the
  -- lowest device that a held line names.
  pub else_exactly : ((e : ℕ) → e < D → LastsTwice p e → ⊥) → ((e : ℕ) → e < D → Leads (rows D p) e e → ⊥) → (d : ℕ)
      → (no_order D p ≡ some (LeadsBack d))
      ↔ (((o : List ℕ) → Legal p o → ⊥) × HeldDevice p d × ((e : ℕ) → e < d → HeldDevice p e → ⊥))
  else_exactly no_two no_circle d = (λ e. to ((refused_exactly (LeadsBack d)).0 e), from)
    where
      to : NoOrder D p (LeadsBack d)
          → ((o : List ℕ) → Legal p o → ⊥) × HeldDevice p d × ((e : ℕ) → e < d → HeldDevice p e → ⊥)
      to (by_rows r (back x f l c low)) = absurd (no_circle x l c)
      to (by_held x f g h l n low) =
          (no_legal_order D p well_formed_lem.rules (LeadsBack x) (by_held x f g h l n low), n, low)

      same : (r : Refusal) → NoOrder D p r → HeldDevice p d → ((e : ℕ) → e < d → HeldDevice p e → ⊥)
          → r ≡ LeadsBack d
      same r (by_rows s (twice x l u low)) h under = absurd (no_two x l u)
      same r (by_rows s (back x f l c low)) h under = absurd (no_circle x l c)
      same r (by_held x f g k l n low) h under =
          ap {B = Refusal} LeadsBack (lowest_one (HeldDevice p) x d n h low under)

      from : ((o : List ℕ) → Legal p o → ⊥) × HeldDevice p d × ((e : ℕ) → e < d → HeldDevice p e → ⊥)
          → no_order D p ≡ some (LeadsBack d)
      from h = go (no_order D p) refl
        where
          go : (x : Option Refusal) → no_order D p ≡ x → no_order D p ≡ some (LeadsBack d)
          go none e = absurd (h.0 (handed p) (accepted_is_legal e))
          go (some r) e =
              e ∙ ap {B = Option Refusal} some (same r ((refused_exactly r).0 e) h.1 h.2)

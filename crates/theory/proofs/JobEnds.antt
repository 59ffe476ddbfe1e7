-- What a job holds after the plan's last line (02, request 4). The quick verdict and the kept rows find lasting takes
-- by what each job holds at its end: those are the devices that a line of it keeps, a lasting take or a held line
-- without a give (02, request 5), of which a job has one for a device. So two lines keep a device exactly if two jobs
-- hold it at the end.
use Prim.Native.Nat.{ℕ, zero, suc, ◌-◌, ◌<◌, ◌≤◌}
use mathlib.Core.Bool.{true, false}
use mathlib.Core.List.{List, ◌∷◌, map, tail}
use mathlib.Core.Logic.{◌⊎◌, inl, inr, ◌≢◌, ◌↔◌}
use mathlib.Core.Option.{Option, none, some, some-injective}
use mathlib.Core.Path.{◌≡◌, refl, sym, ◌∙◌, ap}
use native.Mathlib.Omega.{arith}
use lib.Dec.{eqb}
use lib.ListN.{length, drop, get_elem?}
use borrow.Author.Tests.{eqb-true, eqb-false}
use Rattle.model.specs.Lists.{has}
use Rattle.model.specs.Line.{job, opens, is_held, is_give, device_of, holds, at}
use Rattle.model.specs.Mate.{device_at, held_at, holds_already, grips, mate, lasting, keeps}
use Rattle.model.specs.WellFormed.{before, held_by, Rules}
use Rattle.theory.specs.Verdict.{LastsTwice}
use Rattle.theory.proofs.Tests.{clash, no_some, falsely, test, le_or_lt}
use Rattle.theory.proofs.Line.{opens_no_give}
use Rattle.theory.proofs.Held.{held_foreign}
use Rattle.theory.proofs.Grips.{Grips, by_take, by_held, gripping, grips_parts, grips_line}
use Rattle.theory.proofs.Grips.{grips_takes, takes_no_held}
use Rattle.theory.proofs.Mate.{Pair, pair, open_takes, held_open}
use Rattle.theory.proofs.Mate.{open_give, Stacked, pushes, pops, stays, stacked}
use Rattle.theory.proofs.Mate.{nth_tail, drop_tail, Open, open_is, take_open_at_mate, mapped_has}
use Rattle.theory.proofs.Mate.{mated_or_open, given_between}
use Rattle.theory.proofs.Around.{deepest, opens_grips}
use Rattle.theory.proofs.Places.{keeps_parts, keeps_lasting, mateless_keeps, lasting_keeps}

-- ---- a take is open until its mate

-- just after its mate a take is not open: what is open there was open before the take
shut : (p : List ℕ) (j n t m : ℕ) → get_elem? (open_takes p j (suc m)) n ≡ some t → mate p t ≡ some m → ⊥
shut p j n t m o h = omega (arith, (open_is p j t n t (rw again at o)).above)
  where
    s : Open p j (suc m) n t
    s = open_is p j (suc m) n t o

    r : Pair p t m
    r = pair p t m h

    same : job (at p m) ≡ j
    same = r.same_job m (omega (arith, r.below)) (omega arith) ∙ s.of_job

    no_take : opens (at p m) ≡ false
    no_take = falsely (opens (at p m)) (λ u. clash (is_give (at p m)) r.gives (opens_no_give (at p m) u))

    first : get_elem? (open_takes p j m) 0 ≡ some t
    first = rw s.of_job at (take_open_at_mate p t m s.opening h)

    again : open_takes p j (suc m) ≡ open_takes p j t
    again =
        open_give p j m same no_take r.gives ∙ drop_tail (open_takes p j m) 0 ∙ sym (open_is p j m 0 t first).below

-- an open take has its mate further down, if it has one
mate_later : (p : List ℕ) (j i n t m : ℕ) → get_elem? (open_takes p j i) n ≡ some t → mate p t ≡ some m → i ≤ m
mate_later p j zero n t m o h = omega arith
mate_later p j (suc i) n t m o h = go n o (stacked p j i) (λ k q. mate_later p j i k t m q h)
  where
    past : (n : ℕ) → get_elem? (open_takes p j (suc i)) n ≡ some t → i ≤ m → suc i ≤ m
    past n o le = split (test (eqb i m))
      where
        split : (eqb i m ≡ true) ⊎ (eqb i m ≡ false) → suc i ≤ m
        split (inl e) = absurd (shut p j n t m (rw (eqb-true i m e) at o) h)
        split (inr e) = let ne = eqb-false i m e in omega arith

    go : (n : ℕ) → get_elem? (open_takes p j (suc i)) n ≡ some t → Stacked p j i
        → ((k : ℕ) → get_elem? (open_takes p j i) k ≡ some t → i ≤ m) → suc i ≤ m
    go n o (stays q) ih = past n o (ih n (rw q at o))
    go n o (pops q) ih = past n o (ih (suc n) (sym (nth_tail (open_takes p j i) n) ∙ (rw q at o)))
    go (suc n) o (pushes e u q) ih = past (suc n) o (ih n (rw q at o))
    go zero o (pushes e u q) ih =
        let z : i ≡ t = some-injective i t (rw q at o) in omega (arith, (pair p t m h).below)

-- what is open after the last line has no mate
unmated : (p : List ℕ) (j n t : ℕ) → get_elem? (open_takes p j (length p)) n ≡ some t → mate p t ≡ none
unmated p j n t o = go (mate p t) refl
  where
    go : (x : Option ℕ) → mate p t ≡ x → x ≡ none
    go none e = refl
    go (some m) e = absurd (omega (arith, mate_later p j (length p) n t m o e, (pair p t m e).in_plan))

module _ (p : List ℕ) (rules : Rules p) where
  -- ---- what a job holds at the end

  -- what a job holds after the last line, a line of the job keeps
  pub holds_kept : (j d : ℕ) → has d (held_by j (before p (length p))) ≡ true
      → (k : ℕ) × (keeps p k d ≡ true) × (job (at p k) ≡ j)
  unfolding holds_already
  holds_kept j d h = (t, mateless_keeps p t d gripped (unmated p j r.0 t r.2), o.of_job)
    where
      r : (n : ℕ) × (t : ℕ) × (get_elem? (open_takes p j (length p)) n ≡ some t) × (device_at p t ≡ d)
          × (has d (map (device_at p) (drop (suc n) (open_takes p j (length p)))) ≡ false)
      r = deepest (device_at p) (open_takes p j (length p)) d (rw (held_open p j (length p)) at h)

      t : ℕ
      t = r.1

      o : Open p j (length p) r.0 t
      o = open_is p j (length p) r.0 t r.2

      new : holds_already p t ≡ false
      new = rw (o.of_job, held_open p j t, o.below, r.3) r.4

      gripped : grips p t d ≡ true
      gripped = opens_grips p t d o.opening new r.3

  -- which is a lasting take where no line is held
  pub holds_lasting : ((i : ℕ) → is_held (at p i) ≡ false) → (j d : ℕ)
      → has d (held_by j (before p (length p))) ≡ true → (k : ℕ) × (lasting p k d ≡ true) × (job (at p k) ≡ j)
  unfolding held_at
  holds_lasting unheld j d h =
      let r = holds_kept j d h in
      let k = r.0 in
      (k, keeps_lasting p k d (grips_takes p k d (unheld k) (keeps_parts p k d r.1).0) r.1, r.2)

  -- the device that a line keeps is held by its job after the last line
  pub kept_holds : (k d : ℕ) → keeps p k d ≡ true → has d (held_by (job (at p k)) (before p (length p))) ≡ true
  kept_holds k d l =
      rw (held_open p j (length p), ← (grips_parts p k d s.0).1)
      (mapped_has (device_at p) (open_takes p j (length p)) r.0 k r.1)
    where
      j : ℕ
      j = job (at p k)

      s : (grips p k d ≡ true) × (mate p k ≡ none)
      s = keeps_parts p k d l

      -- what has no mate is open to the end
      stays_open : ((m : ℕ) × (mate p k ≡ some m) × (m < length p))
          ⊎ ((o : ℕ) × (get_elem? (open_takes p j (length p)) o ≡ some k))
          → (o : ℕ) × (get_elem? (open_takes p j (length p)) o ≡ some k)
      stays_open (inl m) = no_some (sym s.1 ∙ m.1)
      stays_open (inr o) = o

      r : (o : ℕ) × (get_elem? (open_takes p j (length p)) o ≡ some k)
      r = stays_open
          (mated_or_open p rules (length p - suc k) k (length p) j (omega (arith, grips_line p k d s.0))
          (omega arith) (grips_parts p k d s.0).0 refl)

  -- so is the device of a lasting take
  pub lasting_holds : (k d : ℕ) → lasting p k d ≡ true → has d (held_by (job (at p k)) (before p (length p))) ≡ true
  lasting_holds k d l = kept_holds k d (lasting_keeps p k d l)

  -- Of two lines of one job that keep a device the later would be a take, before which the earlier is given back, or a
  -- held line, before which stand only held lines of other devices.
  not_twice : (i k d : ℕ) → keeps p i d ≡ true → keeps p k d ≡ true → job (at p i) ≡ job (at p k) → i < k → ⊥
  unfolding held_at
  not_twice i k d a b e lt = go (gripping p k d (keeps_parts p k d b).0)
    where
      s : (grips p i d ≡ true) × (mate p i ≡ none)
      s = keeps_parts p i d a

      both : is_held (at p k) ≡ true → holds (at p k) d ≡ true → Grips p i d → ⊥
      both h x (by_held f y) = clash (holds (at p i) d) y (rules.held_once k i d lt x)
      both h x (by_take y) =
          clash (is_held (at p i)) (rules.held_first k i lt h e) (takes_no_held p i d y)

      go : Grips p k d → ⊥
      go (by_take t) = let g = given_between p rules i k d s.0 t e lt in no_some (sym s.1 ∙ g.1)
      go (by_held h x) = both h x (gripping p i d s.0)

  -- one line of a job at most keeps a device
  one_a_job : (i k d : ℕ) → keeps p i d ≡ true → keeps p k d ≡ true → job (at p i) ≡ job (at p k) → i ≡ k
  one_a_job i k d a b e = go (le_or_lt i k) (le_or_lt k i)
    where
      go : (i ≤ k) ⊎ (k < i) → (k ≤ i) ⊎ (i < k) → i ≡ k
      go (inr lt) y = absurd (not_twice k i d b a (sym e) lt)
      go (inl le) (inr lt) = absurd (not_twice i k d a b e lt)
      go (inl le) (inl ge) = omega arith

-- where a job holds alike, it does after one line more
line_more : (j l : ℕ) (b c : List ℕ) → held_by j b ≡ held_by j c → held_by j (l ∷ b) ≡ held_by j (l ∷ c)
unfolding held_by
line_more j l b c e = ap after e
  where
    after : List ℕ → List ℕ
    after h =
        elim (eqb (job l) j) [
          | false ↦ h
          | true ↦ elim (opens l) [
            | true ↦ device_of l ∷ h
            | false ↦ elim (is_give l) [ true ↦ tail h | false ↦ h ]
          ]
        ]

-- what a job holds goes by its own lines
pub held_alike : (p q : List ℕ) (j n : ℕ) → ((k : ℕ) → k < n → job (at p k) ≡ job (at q k))
    → ((k : ℕ) → k < n → job (at p k) ≡ j → at p k ≡ at q k) → held_by j (before p n) ≡ held_by j (before q n)
unfolding before
held_alike p q j zero f g = refl
held_alike p q j (suc n) f g =
    go (test (eqb (job (at p n)) j)) (held_alike p q j n (λ k h. f k (omega arith)) (λ k h. g k (omega arith)))
  where
    go : (eqb (job (at p n)) j ≡ true) ⊎ (eqb (job (at p n)) j ≡ false)
        → held_by j (before p n) ≡ held_by j (before q n)
        → held_by j (at p n ∷ before p n) ≡ held_by j (at q n ∷ before q n)
    go (inl e) ih =
        line_more j (at p n) (before p n) (before q n) ih
        ∙ ap (λ (l : ℕ). held_by j (l ∷ before q n)) (g n (omega arith) (eqb-true (job (at p n)) j e))
    go (inr e) ih =
        let ne = eqb-false (job (at p n)) j e in
        held_foreign j (at p n) (before p n) ne ∙ ih
        ∙ sym (held_foreign j (at q n) (before q n) (λ x. ne (f n (omega arith) ∙ x)))

-- The theorem: two lines keep a device exactly if two jobs hold it after the last line.
pub two_jobs : (p : List ℕ) → Rules p → (d : ℕ)
    → LastsTwice p d ↔ ((i : ℕ) × (k : ℕ) × (i ≢ k) × (has d (held_by i (before p (length p))) ≡ true)
    × (has d (held_by k (before p (length p))) ≡ true))
two_jobs p rules d = (to, from)
  where
    Two : Type 0
    Two = (i : ℕ) × (k : ℕ) × (i ≢ k) × (has d (held_by i (before p (length p))) ≡ true)
        × (has d (held_by k (before p (length p))) ≡ true)

    to : LastsTwice p d → Two
    to r = (
      job (at p r.i),
      job (at p r.k),
      λ e. r.apart (one_a_job p rules r.i r.k d r.i_lasts r.k_lasts e),
      kept_holds p rules r.i d r.i_lasts,
      kept_holds p rules r.k d r.k_lasts,
    )

    from : Two → LastsTwice p d
    from r =
        let a = holds_kept p rules r.0 d r.3 in
        let b = holds_kept p rules r.1 d r.4 in
        record {
          i = a.0;
          k = b.0;
          apart = λ e. r.2 (sym a.2 ∙ ap (λ (x : ℕ). job (at p x)) e ∙ b.2);
          i_lasts = a.1;
          k_lasts = b.1;
        }

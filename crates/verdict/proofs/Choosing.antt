-- Where no job goes on, the foremost place has the line that (a), otherwise (b), chooses (01, "The order handed
-- out"): the lowest job that can go on, or of the lasting takes that stand next the lowest device that nobody else
-- still wants.
use Rattle.std.proofs.Common.{◌≡◌, ℕ, ◌+◌, ◌<◌, ◌≤◌, true, false, not, ◌&&◌, List, ◌⊎◌, inl, inr, refl, sym, ◌∙◌, ap}
use Rattle.std.proofs.Common.{arith, length, get_or}
use Rattle.std.proofs.Math.Option.{Option, none, some}
use borrow.Author.Tests.{not-true}
use Rattle.model.specs.Lists.{has, those, first_of, least_by, or_else}
use Rattle.model.specs.Sets.{member}
use Rattle.model.specs.Line.{max_job}
use Rattle.model.specs.Mate.{takes_at, device_at, mate, is_none, lasting_at}
use Rattle.model.specs.WellFormed.{WellFormed}
use Rattle.model.specs.Rows.{rows, Leads}
use Rattle.model.specs.Handed.{undone, standing, going_on, alone, lasting_next}
use Rattle.model.specs.Board.{devices, board}
use Rattle.theory.specs.Verdict.{LastsTwice}
use Rattle.theory.proofs.Tests.{clash, test, and_split, and_both, le_or_lt}
use Rattle.theory.proofs.Lists.{has_none, has_those, those_has, Answer, first_answer, Least, least_answer, left}
use Rattle.theory.proofs.Lists.{left_zero}
use Rattle.theory.proofs.Lists.{among}
use Rattle.theory.proofs.Successors.{jobs_grow}
use Rattle.theory.proofs.Progress.{undone_has, never_stuck}
use Rattle.theory.proofs.LineByLine.{chosen, Stands, stands_has, has_stands, LowestIs, goes_on_lem}
use Rattle.verdict.specs.declared.waiting.Waiting.{Waiting}
use Rattle.verdict.specs.Waiting.{all_places, place_at, waits, foremost}
use Rattle.verdict.proofs.Foremost.{Foremost, of_job, of_device, of_none, the_foremost}
use Rattle.verdict.proofs.Counts.{alone_wanted, Counted}
use Rattle.verdict.proofs.Places.{Shows}
use Rattle.verdict.proofs.Standing.{not_above, job_fits, lasting_below, place_lasting, place_job, apart}

-- a plan that has an order: no device has two lasting takes, and none leads back to itself
pub record Accepted (p : List ℕ) : Type 0 where
  pub formed : WellFormed board p
  pub no_two : (d : ℕ) → LastsTwice p d → ⊥
  pub no_circle : (d : ℕ) → Leads (rows devices p) d d → ⊥

-- line i goes next: it stands next, (a), otherwise (b), chooses it, and no line above it can go on
pub record Going (p done : List ℕ) (i : ℕ) : Type 0 where
  pub stands : Stands p done i
  pub choice : chosen p (undone p done) ≡ some i
  pub low : LowestIs p done i

-- the line at a place goes next
pub record GoesNext (p done places : List ℕ) (s : ℕ) : Type 0 where
  pub place : s < all_places
  pub going : Going p done (get_or places s 0)
  pub its : place_at p (get_or places s 0) ≡ s

lasting_take : (p : List ℕ) (i : ℕ) → lasting_at p i ≡ true → takes_at p i ≡ true
unfolding lasting_at
lasting_take p i h = (and_split (takes_at p i) (is_none (mate p i)) h).0

module _ {p done places counts : List ℕ} {wa : Waiting} (ok : Accepted p) (shows : Shows p (Stands p done) places wa)
    (all : Counted p done counts wa.scarce) where
  abbrev w : WellFormed board p
  w = ok.formed

  abbrev u : List ℕ
  u = undone p done

  -- the line that waits at a place
  record At (s : ℕ) : Type 0 where
    line : ℕ
    stands : Stands p done line
    its : place_at p line ≡ s
    listed : get_or places s 0 ≡ line

  at_place : (s : ℕ) → s < all_places → waits wa s ≡ true → At s
  at_place s l e =
      let r = shows.only s l e in record {
        line = r.0;
        stands = r.1;
        its = r.2;
        listed = ap (λ (n : ℕ). get_or places n 0) (sym r.2) ∙ (shows.there r.0 r.1).1;
      }

  goes_next : {s : ℕ} → s < all_places → (a : At s) → chosen p u ≡ some a.line → LowestIs p done a.line
      → GoesNext p done places s
  goes_next l a c low = record {
    place = l;
    going = rw a.listed (record { stands = a.stands; choice = c; low = low });
    its = rw a.listed a.its;
  }

  -- (a): the lowest job that can go on
  by_job : {s : ℕ} → s < max_job → ((n : ℕ) → n < s → waits wa n ≡ false) → (a : At s)
      → (going_on p u ≡ some a.line) × LowestIs p done a.line
  by_job {s} l low a = (goes_on_lem p done i a.stands (no_take_lem (test (lasting_at p i))) lowest, lowest)
    where
      i : ℕ
      i = a.line

      no_take_lem : (lasting_at p i ≡ true) ⊎ (lasting_at p i ≡ false) → lasting_at p i ≡ false
      no_take_lem (inl e) = absurd (omega (arith, a.its, place_lasting p i e))
      no_take_lem (inr e) = e

      lowest : LowestIs p done i
      lowest n t e = go (le_or_lt i n) (le_or_lt s (place_at p n))
        where
          go : (i ≤ n) ⊎ (n < i) → (s ≤ place_at p n) ⊎ (place_at p n < s) → i ≤ n
          go (inl h) b = h
          go (inr h) (inr b) = clash (waits wa (place_at p n)) (shows.there n t).0 (low (place_at p n) b)
          go (inr h) (inl b) =
              absurd
              (not_above t a.stands
              (omega (
                arith,
                jobs_grow p w.rules n i (omega (arith, h)) a.stands.line,
                b,
                a.its,
                place_job p n e,
                place_job p i (no_take_lem (test (lasting_at p i))),
                (job_fits w n t.line).0,
                (job_fits w i a.stands.line).0,
              ))
              h)

  module _ (jobless : (n : ℕ) → n < max_job → waits wa n ≡ false) where
    -- every line that stands next is a lasting take
    all_last : (i : ℕ) → Stands p done i → lasting_at p i ≡ true
    all_last i s = go (test (lasting_at p i))
      where
        go : (lasting_at p i ≡ true) ⊎ (lasting_at p i ≡ false) → lasting_at p i ≡ true
        go (inl e) = e
        go (inr e) =
            let f = job_fits w i s.line in
            clash (waits wa (place_at p i)) (shows.there i s).0
            (jobless (place_at p i) (omega (arith, place_job p i e)))

    none_goes_on : going_on p u ≡ none
    unfolding going_on
    none_goes_on =
        go (first_of (λ i. not (lasting_at p i)) (standing p u))
        (first_answer (λ i. not (lasting_at p i)) (standing p u))
      where
        go : (o : Option ℕ) → Answer (λ i. not (lasting_at p i)) (standing p u) o → o ≡ none
        go none a = refl
        go (some i) a =
            clash (lasting_at p i) (all_last i (has_stands p done i a.0)) (not-true (lasting_at p i) a.1)

    -- nobody else still wants its device exactly if the device is scarce
    alone_scarce : (i : ℕ) → Stands p done i → alone p u i ≡ member wa.scarce (device_at p i)
    alone_scarce i s =
        alone_wanted p done i s.line s.waiting (lasting_take p i (all_last i s))
        ∙ sym (all.scarce_are (device_at p i) (lasting_below w i (all_last i s)))

    waits_at : (i : ℕ) → Stands p done i → waits wa (max_job + device_at p i) ≡ true
    waits_at i s = rw (place_lasting p i (all_last i s)) at (shows.there i s).0

    -- (b): the lowest device of a lasting take that nobody else still wants
    by_device : {d : ℕ} → member wa.scarce d ≡ true
        → ((e : ℕ) → e < d → waits wa (max_job + e) ≡ true → member wa.scarce e ≡ false)
        → (a : At (max_job + d)) → lasting_next p u ≡ some a.line
    unfolding lasting_next
    by_device {d} sc low a = go (least_by (device_at p) those_free) (least_answer (device_at p) those_free)
      where
        i : ℕ
        i = a.line

        those_free : List ℕ
        those_free = those (λ i. lasting_at p i && alone p u i) (standing p u)

        own : device_at p i ≡ d
        own = omega (arith, a.its, place_lasting p i (all_last i a.stands))

        found : has i those_free ≡ true
        found =
            those_has (λ i. lasting_at p i && alone p u i) (standing p u) i (stands_has p done i a.stands)
            (and_both (lasting_at p i) (alone p u i) (all_last i a.stands)
            (alone_scarce i a.stands ∙ ap (member wa.scarce) own ∙ sc))

        same : (n : ℕ) → Stands p done n → device_at p n ≡ d → n ≡ i
        same n t e =
            apart w ok.no_two n i t a.stands
            (place_lasting p n (all_last n t) ∙ ap (λ (x : ℕ). max_job + x) e ∙ sym a.its)

        go : (o : Option ℕ) → Least (device_at p) those_free o → o ≡ some i
        go none e = has_none i (rw e at found)
        go (some n) h =
            let r = has_those (λ i. lasting_at p i && alone p u i) (standing p u) n h.0 in
            pick (has_stands p done n r.0) (and_split (lasting_at p n) (alone p u n) r.1).1
            (le_or_lt d (device_at p n))
          where
            pick : Stands p done n → alone p u n ≡ true → (d ≤ device_at p n) ⊎ (device_at p n < d) → some n ≡ some i
            pick t f (inl b) = ap {B = Option ℕ} some (same n t (omega (arith, h.1 i found, own, b)))
            pick t f (inr b) =
                clash (member wa.scarce (device_at p n)) (sym (alone_scarce n t) ∙ f)
                (low (device_at p n) b (waits_at n t))

    -- where no device does either, no line is undone
    all_done : ((e : ℕ) → e < devices → waits wa (max_job + e) ≡ true → member wa.scarce e ≡ false)
        → left (among done) (length p) ≤ 0
    all_done f = left_zero (among done) (length p) (λ n h. go n h (test (has n done)))
      where
        none_goes : (i : ℕ) → has i (standing p u) ≡ true → (lasting_at p i ≡ true) × (alone p u i ≡ false)
        none_goes i h =
            let t = has_stands p done i h in (
              all_last i t,
              alone_scarce i t ∙ f (device_at p i) (lasting_below w i (all_last i t)) (waits_at i t),
            )

        go : (n : ℕ) → n < length p → (has n done ≡ true) ⊎ (has n done ≡ false) → has n done ≡ true
        go n h (inl e) = e
        go n h (inr e) =
            absurd (never_stuck board p w ok.no_two ok.no_circle done none_goes n (undone_has p done n h e))

  -- The place is that of the line chosen, while a line is undone.
  pub foremost_next : 1 ≤ left (among done) (length p) → GoesNext p done places (foremost wa)
  unfolding chosen or_else
  foremost_next more = go (foremost wa) (the_foremost wa)
    where
      go : (s : ℕ) → Foremost wa s → GoesNext p done places s
      go s (of_job t l e low) =
          let h : s < all_places = omega (arith, l) in
          let a = at_place s h e in
          let b = by_job l low a in
          goes_next h a (ap (λ (o : Option ℕ). or_else o (lasting_next p u)) b.0) b.1
      go s (of_device jobless d l e sc low) =
          let h : max_job + d < all_places = omega (arith, l) in
          let a = at_place (max_job + d) h e in
          goes_next h a
          (ap (λ (o : Option ℕ). or_else o (lasting_next p u)) (none_goes_on jobless) ∙ by_device jobless sc low a)
          (λ n t q. clash (lasting_at p n) (all_last jobless n t) q)
      go s (of_none jobless f) = absurd (omega (arith, more, all_done jobless f))

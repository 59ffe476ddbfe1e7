-- What a span tells of a plan that obeys the rules (02, request 2): the lines after the take and before the span's end
-- are the lines under the take, all of its job.
use Prim.Native.Nat.{ℕ, zero, suc, ◌+◌, ◌-◌, ◌<◌, ◌≤◌}
use mathlib.Core.Bool.{Bool, true, false, not}
use mathlib.Core.List.{List, ◌∷◌}
use mathlib.Core.Logic.{◌⊎◌, inl, inr}
use mathlib.Core.Option.{Option, none, some, get_or, some-injective}
use mathlib.Core.Path.{◌≡◌, refl, sym, ◌∙◌, ap}
use native.Mathlib.Omega.{arith}
use lib.Dec.{eqb}
use lib.ListN.{length}
use borrow.Author.Tests.{eqb-true, eq-eqb, eqb-false, ne_eqb, not-false, not-true}
use Rattle.model.specs.Lists.{up_from, those, first_of, last_or}
use Rattle.model.specs.Line.{job, at}
use Rattle.model.specs.WellFormed.{Rules}
use Rattle.model.specs.Mate.{mate}
use Rattle.model.specs.Move.{until, under}
use Rattle.theory.proofs.Tests.{no_some, le_or_lt}
use Rattle.theory.proofs.Lists.{Answer, first_answer, first_lowest, has_up_from, up_from_has}
use Rattle.theory.proofs.Successors.{jobs_grow}
use Rattle.theory.proofs.Mate.{Pair, pair}
use Rattle.mates.specs.Span.{end_from, span_by, span_of, stop_of}

-- of numbers that follow on, those below some number pass, and no other
those_up_to : (f : ℕ → Bool) (a n e : ℕ) → a ≤ e → e ≤ a + n → ((k : ℕ) → a ≤ k → k < e → f k ≡ true)
    → ((k : ℕ) → e ≤ k → k < a + n → f k ≡ false) → those f (up_from a n) ≡ up_from a (e - a)
unfolding those up_from
those_up_to f a zero e h g low high = let z : e - a ≡ 0 = omega arith in rw z
those_up_to f a (suc n) e h g low high =
    go (le_or_lt e a)
    (λ e' x y. those_up_to f (suc a) n e' x y)
  where
    go : (e ≤ a) ⊎ (a < e)
        → ((e' : ℕ) → suc a ≤ e' → e' ≤ suc a + n → ((k : ℕ) → suc a ≤ k → k < e' → f k ≡ true)
        → ((k : ℕ) → e' ≤ k → k < suc a + n → f k ≡ false) → those f (up_from (suc a) n) ≡ up_from (suc a) (e' - suc a))
        → those f (up_from a (suc n)) ≡ up_from a (e - a)
    go (inl le) ih =
        let z : e - a ≡ 0 = omega arith in
        let y : suc a - suc a ≡ 0 = omega arith in
        rw (z, high a le (omega arith), those)
        (rw y at (ih (suc a) (omega arith) (omega arith) (λ k x y. absurd (omega arith))
        (λ k x y. high k (omega arith) (omega arith))))
    go (inr lt) ih =
        let z : e - a ≡ suc (e - suc a) = omega arith in
        rw (z, low a (omega arith) lt, those)
        (ap (λ (xs : List ℕ). a ∷ xs)
        (ih e lt (omega arith) (λ k x y. low k (omega arith) y) (λ k x y. high k x (omega arith))))

-- the last of numbers that follow on
pub last_up : (i a n : ℕ) → suc i ≡ a → last_or i (up_from a n) ≡ i + n
unfolding last_or up_from
last_up i a zero e = omega arith
last_up i a (suc n) e = last_up a (suc a) n refl ∙ omega arith

-- the lines under the take at i end before position stop
pub record Spans (p : List ℕ) (i stop : ℕ) : Type 0 where
  pub low : i < stop
  pub high : stop ≤ length p
  pub same_job : (k : ℕ) → i < k → k < stop → job (at p k) ≡ job (at p i)
  pub mate_at : (m : ℕ) → mate p i ≡ some m → m ≡ stop
  pub under_is : under p i ≡ up_from (suc i) (stop - suc i)

module _ (p : List ℕ) (rules : Rules p) (i : ℕ) (h : i < length p) where
  abbrev j : ℕ
  j = job (at p i)

  abbrev ours : ℕ → Bool
  ours k = eqb (job (at p k)) j

  given : (m : ℕ) → mate p i ≡ some m → Spans p i m
  unfolding under until
  given m e = record {
    low = r.below;
    high = omega (arith, r.in_plan);
    same_job = λ k a b. r.same_job k (omega arith) (omega arith);
    mate_at = λ n q. some-injective n m (sym q ∙ e);
    under_is = rw e
        (those_up_to ours (suc i) (m - suc i) m r.below (omega (arith, r.below))
        (λ k a b. eq-eqb (job (at p k)) j (r.same_job k (omega arith) (omega arith)))
        (λ k a b. absurd (omega (arith, r.below))));
  }
    where
      r : Pair p i m
      r = pair p i m e

  -- the end of the job's lines
  record Ended (e : ℕ) : Type 0 where
    pub low : i < e
    pub high : e ≤ length p
    pub same_job : (k : ℕ) → i < k → k < e → job (at p k) ≡ j
    pub foreign : (k : ℕ) → e ≤ k → k < length p → ours k ≡ false

  ended : Ended (end_from p j (suc i))
  unfolding end_from
  ended = go (first_of (λ k. not (ours k)) (up_from (suc i) (length p - suc i))) refl
      (first_answer (λ k. not (ours k)) (up_from (suc i) (length p - suc i)))
    where
      go : (o : Option ℕ) → first_of (λ k. not (ours k)) (up_from (suc i) (length p - suc i)) ≡ o
          → Answer (λ k. not (ours k)) (up_from (suc i) (length p - suc i)) o → Ended (get_or o (length p))
      go none q a = record {
        low = h;
        high = omega arith;
        same_job = λ k x y. eqb-true (job (at p k)) j
            (not-false (ours k) (a k (up_from_has (suc i) (length p - suc i) k x (omega arith))));
        foreign = λ k x y. absurd (omega arith);
      }
      go (some e) q a =
          let r = has_up_from (suc i) (length p - suc i) e a.0 in
          let n = eqb-false (job (at p e)) j (not-true (ours e) a.1) in record {
            low = r.0;
            high = omega (arith, r.1);
            same_job = λ k x y. eqb-true (job (at p k)) j
                (not-false (ours k) (first_lowest (λ k. not (ours k)) (suc i) (length p - suc i) e q k x y));
            foreign = λ k x y. ne_eqb (job (at p k)) j
                (λ z. n
                (omega (
                  arith,
                  z,
                  jobs_grow p rules i e (omega arith) (omega (arith, r.1)),
                  jobs_grow p rules e k x y,
                )));
          }

  kept : mate p i ≡ none → Spans p i (end_from p j (suc i))
  unfolding under until
  kept e = record {
    low = r.low;
    high = r.high;
    same_job = r.same_job;
    mate_at = λ m q. no_some (sym e ∙ q);
    under_is = rw e
        (those_up_to ours (suc i) (length p - suc i) (end_from p j (suc i)) r.low (omega (arith, r.high, r.low))
        (λ k a b. eq-eqb (job (at p k)) j (r.same_job k a b)) (λ k a b. r.foreign k a (omega (arith, h))));
  }
    where
      r : Ended (end_from p j (suc i))
      r = ended

  -- The theorem: a span's end is where the lines under the take end.
  pub spans : Spans p i (stop_of (span_of p i))
  unfolding span_of
  spans = go (mate p i) refl
    where
      go : (o : Option ℕ) → mate p i ≡ o → Spans p i (stop_of (span_by (end_from p j (suc i)) o))
      go none e = kept e
      go (some m) e = given m e

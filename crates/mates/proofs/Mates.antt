-- The search for a mate and for the end of its job's lines, line by line.
use mathlib.Core.Path.{◌≡◌, refl, ap, sym, ◌∙◌}
use mathlib.Core.Bool.{Bool, true, false, cond}
use mathlib.Core.List.{List, ◌∷◌}
use mathlib.Core.Option.{Option, none, some}
use Rattle.std.specs.Prelude.{Some, None}
use Rattle.std.specs.Prelude as code
use Prim.Native.Nat.{ℕ, zero, suc, ◌+◌, ◌-◌, ◌≤◌, ◌<◌}
use native.Mathlib.Numerals.{add-one}
use native.Mathlib.Omega.{arith}
use lib.Dec.{eqb}
use lib.ListN.{length, drop, drop_of_length-le}
use lib.Seq.{drop-cons}
use borrow.Author.Tests.{eq-eqb, ne_eqb}
use Rattle.model.specs.Line.{job, opens, is_give, at}
use Rattle.model.specs.Mate.{mate_in, mate}
use Rattle.model.specs.Lists.{up_from, first_of}
use Rattle.mates.specs.Found.{passed_by}
use Rattle.mates.specs.Span.{end_from, span_of}
use Rattle.mates.specs.declared.Span.{Span}

-- ---- where the job's lines end

none_left : (p : List ℕ) (j k : ℕ) → length p ≤ k → end_from p j k ≡ length p
unfolding end_from first_of up_from
none_left p j k h = let z : length p - k ≡ 0 = omega arith in rw z

module _ (p : List ℕ) (j k : ℕ) (h : k < length p) where
  longer : length p - k ≡ suc (length p - suc k)
  longer = omega arith

  end_here : (job (at p k) ≡ j → ⊥) → end_from p j k ≡ k
  unfolding end_from first_of up_from
  end_here n = rw (longer, ne_eqb (job (at p k)) j n, first_of)

  end_on : job (at p k) ≡ j → end_from p j k ≡ end_from p j (suc k)
  unfolding end_from first_of up_from
  end_on e = rw (longer, eq-eqb (job (at p k)) j e, first_of)

-- ---- the search

-- past the end there is no mate
pub past : (p : List ℕ) (i : ℕ) → length p ≤ i → Span.Kept (length p) ≡ span_of p i
unfolding span_of mate mate_in
past p i h =
    let z : length p ≤ suc i = omega arith in
    rw (drop_of_length-le p {i = suc i} z, none_left p (job (at p i)) (suc i) z)

-- the search stands at position k, this deep: the mate is the one that it finds from there
pub record Sought (p : List ℕ) (i j depth k : ℕ) : Type 0 where
  pub at_most_lem : k ≤ length p
  pub shallow : depth < k
  pub ahead : mate p i ≡ mate_in j depth k (drop k p)
  pub onward : end_from p (job (at p i)) (suc i) ≡ end_from p j k

pub start : (p : List ℕ) (i j k : ℕ) → k ≡ i + 1 → i < length p → j ≡ job (at p i) → Sought p i j 0 k
unfolding mate
start p i j k z h e = rw z (record {
  at_most_lem = omega arith;
  shallow = omega arith;
  ahead = rw (e, add-one);
  onward = rw (e, add-one);
})

-- the depth grows by one at most
near : (l d n : ℕ) → Some n ≡ passed_by l d → n ≤ suc d
near l d n = go (opens l) (is_give l) (eqb d 0)
  where
    deep : code.Option ℕ → ℕ
    deep None = 0
    deep (Some d) = d

    go : (t g z : Bool)
        → Some n
        ≡ cond t (Some (suc d)) (cond g (cond z None (Some (d - 1))) (Some d))
        → n ≤ suc d
    go true g z e = let q : n ≡ suc d = ap deep e in omega arith
    go false true true e = let q : n ≡ 0 = ap deep e in omega arith
    go false true false e = let q : n ≡ d - 1 = ap deep e in omega arith
    go false false z e = let q : n ≡ d = ap deep e in omega arith

module _ (p : List ℕ) (i j d k : ℕ) (s : Sought p i j d k) where
  -- nothing is found: what is taken is kept to the end
  kept : (end : ℕ) → mate_in j d k (drop k p) ≡ none → end_from p j k ≡ end → Span.Kept end ≡ span_of p i
  unfolding span_of
  kept end n e = rw (s.ahead ∙ n, s.onward ∙ e)

  pub end : length p ≤ k → Span.Kept (length p) ≡ span_of p i
  unfolding mate_in
  end h = kept (length p) (rw (drop_of_length-le p {i = k} h)) (none_left p j k h)

  -- at a line of job x
  module _ (h : k < length p) (x : ℕ) (e : x ≡ job (at p k)) where
    pub foreign : (x ≡ j → ⊥) → Span.Kept k ≡ span_of p i
    unfolding mate_in
    foreign n = kept k nothing (end_here p j k h (λ q. n (e ∙ q)))
      where
        nothing : mate_in j d k (drop k p) ≡ none
        nothing = rw (drop-cons p k 0 h) (rw (ne_eqb (job (at p k)) j (λ q. n (e ∙ q)), mate_in))

    -- where the search stands after a line of its job
    after : code.Option ℕ → Option ℕ
    after None = some k
    after (Some e) = mate_in j e (suc k) (drop (suc k) p)

    module _ (same : x ≡ j) where
      passed : mate p i ≡ after (passed_by (at p k) d)
      unfolding mate_in after
      passed = s.ahead ∙ rw (drop-cons p k 0 h) (go d (opens (at p k)) (is_give (at p k)) refl refl)
        where
          here : eqb (job (at p k)) j ≡ true
          here = eq-eqb (job (at p k)) j (sym e ∙ same)

          go : (d : ℕ) (t g : Bool) → opens (at p k) ≡ t → is_give (at p k) ≡ g
              → mate_in j d k (at p k ∷ drop (suc k) p)
              ≡ after
              (cond t (Some (suc d))
              (cond g (cond (eqb d 0) None (Some (d - 1))) (Some d)))
          go d true g et eg = rw (here, et, mate_in)
          go d false false et eg = rw (here, et, eg, mate_in)
          go zero false true et eg = rw (here, et, eg, mate_in)
          go (suc d) false true et eg = let q : suc d - 1 ≡ d = omega arith in
              rw (here, et, eg, ne_eqb (suc d) 0 (λ z. omega arith), q, mate_in)

      pub mate_here : None ≡ passed_by (at p k) d → Span.Given k ≡ span_of p i
      unfolding after span_of
      mate_here q = rw (passed ∙ ap after (sym q))

      pub on : (n next : ℕ) → next ≡ k + 1 → Some n ≡ passed_by (at p k) d → Sought p i j n next
      unfolding after
      on n next z q = rw z (record {
        at_most_lem = omega arith;
        shallow = omega (arith, near (at p k) d n q, s.shallow);
        ahead = rw add-one (passed ∙ ap after (sym q));
        onward = s.onward ∙ rw add-one (end_on p j k h (sym e ∙ same));
      })

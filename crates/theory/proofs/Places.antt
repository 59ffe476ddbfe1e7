-- In a legal order each step has one place. What has to come before a line stands before it, and every other take of
-- a device stands before its lasting take.
use Prim.Native.Nat.{ℕ, suc, ◌<◌, ◌≤◌}
use mathlib.Core.Bool.{Bool, true, false, not, ◌&&◌}
use mathlib.Core.List.{List, [], ◌∷◌, ◌++◌}
use mathlib.Core.Logic.{◌⊎◌, inl, inr, ◌≢◌}
use mathlib.Core.Option.{Option, none, some}
use mathlib.Core.Path.{◌≡◌, refl, sym, ◌∙◌, ap}
use native.Mathlib.Omega.{arith}
use lib.Dec.{eqb}
use lib.ListN.{length}
use borrow.Author.Tests.{eqb-true, eqb-false}
use Rattle.model.specs.Lists.{has}
use Rattle.model.specs.Mate.{takes, mate, is_none, lasting, held_at, held_lines, grips, keeps}
use Rattle.model.specs.Legal.{precedes, done_at, given_back, held, MayFollow, Follow, Legal}
use Rattle.theory.proofs.Tests.{clash, test, and_split, and_both, le_or_lt}
use Rattle.theory.proofs.Lists.{has_none, has_head, has_cases, has_left, has_right, has_append, any_at}
use Rattle.theory.proofs.Claims.{takes_line}
use Rattle.theory.proofs.Grips.{grips_line, takes_grips, takes_no_held, has_held, held_has}

-- the place of line i in an order
pub place : List ℕ → ℕ → ℕ
place [] i = 0
place (x ∷ o) i = elim (eqb i x) [ true ↦ 0 | false ↦ suc (place o i) ]

-- line i is the first of the order, or has its place in the rest
pub data Placed (x : ℕ) (o : List ℕ) (i : ℕ) : Type 0 where
  first : i ≡ x → place (x ∷ o) i ≡ 0 → Placed x o i
  later : (i ≡ x → ⊥) → place (x ∷ o) i ≡ suc (place o i) → Placed x o i

pub placed : (x : ℕ) (o : List ℕ) (i : ℕ) → Placed x o i
unfolding place
placed x o i = go (eqb i x) refl
  where
    go : (b : Bool) → eqb i x ≡ b → Placed x o i
    go true e = first (eqb-true i x e) (rw (e, place))
    go false e = later (eqb-false i x e) (rw (e, place))

-- what was done when line i came
pub record When (p done o : List ℕ) (i : ℕ) : Type 0 where
  pub then : List ℕ
  pub follows : MayFollow p then i
  pub keeps : (k : ℕ) → has k done ≡ true → has k then ≡ true
  pub into : (k : ℕ) → place o k < place o i → has k then ≡ true
  pub from : (k : ℕ) → has k then ≡ true → (has k done ≡ true) ⊎ (place o k < place o i)

pub when : (p done o : List ℕ) (i : ℕ) → Follow p done o → has i o ≡ true → When p done o i
when p done [] i s h = has_none i h
when p done (x ∷ o) i s h = go (placed x o i) (has_cases i x o h) (when p (done ++ (x ∷ [])) o i s.1)
  where
    go : Placed x o i → (i ≡ x) ⊎ (has i o ≡ true) → (has i o ≡ true → When p (done ++ (x ∷ [])) o i)
        → When p done (x ∷ o) i
    go (first e z) c ih = record {
      then = done;
      follows = rw e s.0;
      keeps = λ k m. m;
      into = λ k m. absurd (omega (arith, z));
      from = λ k m. inl m;
    }
    go (later n z) (inl c) ih = absurd (n c)
    go (later n z) (inr c) ih =
        let w = ih c in record {
          then = w.then;
          follows = w.follows;
          keeps = λ k m. w.keeps k (has_left k done (x ∷ []) m);
          into = λ k m. into' k w m (placed x o k);
          from = λ k m. from' k (w.from k m) (placed x o k);
        }
      where
        into' : (k : ℕ) (w : When p (done ++ (x ∷ [])) o i) → place (x ∷ o) k < place (x ∷ o) i → Placed x o k
            → has k w.then ≡ true
        into' k w m (first q y) = w.keeps k (rw q (has_right x done (x ∷ []) (has_head x [])))
        into' k w m (later q y) = w.into k (omega (arith, z, y))

        old : (k : ℕ) → (k ≡ x → ⊥) → (has k done ≡ true) ⊎ (has k (x ∷ []) ≡ true) → has k done ≡ true
        old k q (inl r) = r
        old k q (inr r) = only (has_cases k x [] r)
          where
            only : (k ≡ x) ⊎ (has k [] ≡ true) → has k done ≡ true
            only (inl e) = absurd (q e)
            only (inr e) = has_none k e

        from' : (k : ℕ) → (has k (done ++ (x ∷ [])) ≡ true) ⊎ (place o k < place o i) → Placed x o k
            → (has k done ≡ true) ⊎ (place (x ∷ o) k < place (x ∷ o) i)
        from' k r (first q y) = inr (omega (arith, z, y))
        from' k (inr r) (later q y) = inr (omega (arith, z, y))
        from' k (inl r) (later q y) = inl (old k q (has_append k done (x ∷ []) r))

-- two lines have two places
pub one_place : (o : List ℕ) (i k : ℕ) → has i o ≡ true → has k o ≡ true → place o i ≡ place o k → i ≡ k
one_place [] i k h g e = has_none i h
one_place (x ∷ o) i k h g e =
    go (placed x o i) (placed x o k) (has_cases i x o h) (has_cases k x o g) (λ a b. one_place o i k a b)
  where
    go : Placed x o i → Placed x o k → (i ≡ x) ⊎ (has i o ≡ true) → (k ≡ x) ⊎ (has k o ≡ true)
        → (has i o ≡ true → has k o ≡ true → place o i ≡ place o k → i ≡ k) → i ≡ k
    go (first a y) (first b z) c d ih = a ∙ sym b
    go (first a y) (later b z) c d ih = absurd (omega (arith, y, z))
    go (later a y) (first b z) c d ih = absurd (omega (arith, y, z))
    go (later a y) (later b z) (inl c) d ih = absurd (a c)
    go (later a y) (later b z) (inr c) (inl d) ih = absurd (b d)
    go (later a y) (later b z) (inr c) (inr d) ih = ih c d (omega (arith, y, z))

-- a lasting take has no mate, so it is not given back
pub lasting_parts : (p : List ℕ) (i d : ℕ) → lasting p i d ≡ true → (takes p i d ≡ true) × (mate p i ≡ none)
unfolding lasting is_none
lasting_parts p i d l = let s = and_split (takes p i d) (is_none (mate p i)) l in (s.0, go (mate p i) s.1)
  where
    go : (o : Option ℕ) → is_none o ≡ true → o ≡ none
    go none e = refl
    go (some m) e = clash false e refl

pub keeps_parts : (p : List ℕ) (i d : ℕ) → keeps p i d ≡ true → (grips p i d ≡ true) × (mate p i ≡ none)
unfolding keeps is_none
keeps_parts p i d l = let s = and_split (grips p i d) (is_none (mate p i)) l in (s.0, go (mate p i) s.1)
  where
    go : (o : Option ℕ) → is_none o ≡ true → o ≡ none
    go none e = refl
    go (some m) e = clash false e refl

pub keeps_lasting : (p : List ℕ) (i d : ℕ) → takes p i d ≡ true → keeps p i d ≡ true → lasting p i d ≡ true
unfolding keeps lasting
keeps_lasting p i d t k =
    and_both (takes p i d) (is_none (mate p i)) t (and_split (grips p i d) (is_none (mate p i)) k).1

pub keeps_line : (p : List ℕ) (i d : ℕ) → keeps p i d ≡ true → i < length p
keeps_line p i d l = grips_line p i d (keeps_parts p i d l).0

-- what has no mate keeps its device
pub mateless_keeps : (p : List ℕ) (i d : ℕ) → grips p i d ≡ true → mate p i ≡ none → keeps p i d ≡ true
unfolding keeps is_none
mateless_keeps p i d g e = and_both (grips p i d) (is_none (mate p i)) g (ap is_none e)

-- a lasting take keeps its device
pub lasting_keeps : (p : List ℕ) (i d : ℕ) → lasting p i d ≡ true → keeps p i d ≡ true
unfolding keeps lasting
lasting_keeps p i d l =
    let s = and_split (takes p i d) (is_none (mate p i)) l in
    and_both (grips p i d) (is_none (mate p i)) (takes_grips p i d s.0) s.1

pub still_held_lem : (p done : List ℕ) (i d : ℕ) → grips p i d ≡ true → mate p i ≡ none → has i done ≡ true
    → held p done d ≡ true
unfolding held given_back done_at
still_held_lem p done i d t m h =
    any_at (λ k. grips p k d && not (given_back p done k)) done i h
    (and_both (grips p i d) (not (given_back p done i)) t (ap (λ (o : Option ℕ). not (done_at done o)) m))

-- a held line is done from the beginning; a step has a place
module _ (p o : List ℕ) (legal : Legal p o) where
  pub at_time : (i : ℕ) → i < length p → held_at p i ≡ false → When p (held_lines p) o i
  at_time i h n = when p (held_lines p) o i legal.steps (legal.whole i h n)

  -- what is done when step i comes is held, or came before
  pub earlier : (k i : ℕ) (hi : i < length p) (n : held_at p i ≡ false) → held_at p k ≡ false
      → has k (at_time i hi n).then ≡ true → place o k < place o i
  earlier k i hi n f h = go ((at_time i hi n).from k h)
    where
      go : (has k (held_lines p) ≡ true) ⊎ (place o k < place o i) → place o k < place o i
      go (inl e) = clash (held_at p k) (has_held p k e).1 f
      go (inr e) = e

  pub stands_before : (k i : ℕ) → k < length p → i < length p → held_at p k ≡ false → held_at p i ≡ false
      → precedes p k i ≡ true → place o k < place o i
  stands_before k i hk hi f n b = earlier k i hi n f ((at_time i hi n).follows.after k hk b)

  pub lasting_is_last : (i k d : ℕ) → lasting p i d ≡ true → takes p k d ≡ true → k ≢ i → place o k < place o i
  lasting_is_last i k d l t n = go (le_or_lt (place o i) (place o k))
    where
      s : (takes p i d ≡ true) × (mate p i ≡ none)
      s = lasting_parts p i d l

      hi : i < length p
      hi = takes_line p i d s.0

      hk : k < length p
      hk = takes_line p k d t

      w : When p (held_lines p) o k
      w = at_time k hk (takes_no_held p k d t)

      apart : place o i ≡ place o k → ⊥
      apart e = n (sym (one_place o i k (legal.whole i hi (takes_no_held p i d s.0))
          (legal.whole k hk (takes_no_held p k d t)) e))

      go : (place o i ≤ place o k) ⊎ (place o k < place o i) → place o k < place o i
      go (inr e) = e
      go (inl e) =
          clash (held p w.then d)
          (still_held_lem p w.then i d (takes_grips p i d s.0) s.1 (w.into i (omega (arith, apart))))
          (w.follows.free d t)

  -- nobody takes what a held line keeps
  pub kept_untaken : (h k d : ℕ) → held_at p h ≡ true → keeps p h d ≡ true → takes p k d ≡ true → ⊥
  kept_untaken h k d a l t =
      let w = at_time k (takes_line p k d t) (takes_no_held p k d t) in
      let s = keeps_parts p h d l in
      clash (held p w.then d)
      (still_held_lem p w.then h d s.0 s.1 (w.keeps h (held_has p h a))) (w.follows.free d t)

-- no held line is in a legal order
pub steps_only : (p o : List ℕ) → Legal p o → (i : ℕ) → has i o ≡ true → held_at p i ≡ false
steps_only p o legal i h = go (test (held_at p i))
  where
    w : When p (held_lines p) o i
    w = when p (held_lines p) o i legal.steps h

    go : (held_at p i ≡ true) ⊎ (held_at p i ≡ false) → held_at p i ≡ false
    go (inl e) = clash (has i w.then) (w.keeps i (held_has p i e)) w.follows.once
    go (inr e) = e

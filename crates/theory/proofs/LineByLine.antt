-- The order may be handed out line by line: the line that (a), otherwise (b), chooses goes alone, and the rest of its
-- run is chosen by (a) one line after the other. For no lasting take stands inside a pair, and what a line lets stand
-- next stands below it, so the job of a run stays the lowest that can go on until its give.
use Prim.Native.Nat.{ℕ, zero, suc, ◌+◌, ◌-◌, ◌<◌, ◌≤◌}
use mathlib.Core.Bool.{Bool, true, false, cond, not, ◌&&◌}
use mathlib.Core.List.{List, [], ◌∷◌, ◌++◌, append-nil, append_assoc}
use mathlib.Core.Logic.{◌⊎◌, inl, inr, ◌≢◌}
use mathlib.Core.Option.{Option, none, some, get_or, some-injective}
use mathlib.Core.Path.{◌≡◌, refl, sym, ◌∙◌, ap}
use native.Mathlib.Omega.{arith}
use lib.Dec.{eqb}
use lib.ListN.{length}
use borrow.Author.Tests.{eqb-true, eqb-false, not-true}
use Rattle.model.specs.Lists.{up_from, positions, any, has, those, first_of, or_else}
use Rattle.model.specs.Mate.{takes_at, device_at, mate, is_none, lasting_at}
use Rattle.model.specs.WellFormed.{Rules}
use Rattle.model.specs.Legal.{precedes, MayFollow, Follow}
use Rattle.model.specs.Handed.{undone, standing, going_on, alone, lasting_next, last_of, run, run_from, turn}
use Rattle.model.specs.Handed.{handed_after}
use Rattle.theory.proofs.Tests.{clash, no_some, test, and_split, le_or_lt}
use Rattle.theory.proofs.Lists.{has_none, has_head, has_cases, has_left, has_right, has_append, any_none}
use Rattle.theory.proofs.Lists.{none_any, has_those, Answer, first_answer, first_lowest, first_is_lowest, Least}
use Rattle.theory.proofs.Lists.{first_those, least_answer, left, left_lt, left_none, left_all, among}
use Rattle.theory.proofs.Successors.{precedes_reaches}
use Rattle.theory.proofs.Mate.{none_lasts_between}
use Rattle.theory.proofs.Turns.{Between, Going, going, turn_follows, turn_between, after_new}
use Rattle.theory.proofs.Progress.{has_undone, undone_has, has_standing, standing_has, Picked, stuck, goes}
use Rattle.theory.proofs.Progress.{picked}
use Rattle.theory.proofs.Handed.{closes, undone_takes}

-- the line that (a), otherwise (b), chooses, with u undone
unfoldable pub chosen : List ℕ → List ℕ → Option ℕ
unfolding or_else going_on lasting_next
chosen p u = or_else (going_on p u) (lasting_next p u)

-- a line, if there is one, and what comes after it
unfoldable pub line_then : Option ℕ → (ℕ → List ℕ) → List ℕ
line_then none rest = []
line_then (some i) rest = i ∷ rest i

-- the rest of the order after the lines done, one line a turn, in at most some turns
unfoldable pub lines_after : ℕ → List ℕ → List ℕ → List ℕ
unfolding line_then chosen undone
lines_after zero p done = []
lines_after (suc n) p done = line_then (chosen p (undone p done)) (λ i. lines_after n p (done ++ (i ∷ [])))

pub lines_step : (n : ℕ) (p done : List ℕ) (i : ℕ) → chosen p (undone p done) ≡ some i
    → lines_after (suc n) p done ≡ i ∷ lines_after n p (done ++ (i ∷ []))
unfolding lines_after line_then
lines_step n p done i e = ap (λ (o : Option ℕ). line_then o (λ i. lines_after n p (done ++ (i ∷ [])))) e

lines_stuck : (n : ℕ) (p done : List ℕ) → chosen p (undone p done) ≡ none → lines_after n p done ≡ []
unfolding lines_after line_then
lines_stuck zero p done e = refl
lines_stuck (suc n) p done e = ap (λ (o : Option ℕ). line_then o (λ i. lines_after n p (done ++ (i ∷ [])))) e

-- ---- one line more is done

pub more_old : (k x : ℕ) (done : List ℕ) → has k done ≡ true → has k (done ++ (x ∷ [])) ≡ true
more_old k x done h = has_left k done (x ∷ []) h

pub more_new : (x : ℕ) (done : List ℕ) → has x (done ++ (x ∷ [])) ≡ true
more_new x done = has_right x done (x ∷ []) (has_head x [])

pub more_only : (k x : ℕ) (done : List ℕ) → has k (done ++ (x ∷ [])) ≡ true → (has k done ≡ true) ⊎ (k ≡ x)
more_only k x done h = go (has_append k done (x ∷ []) h)
  where
    one : (k ≡ x) ⊎ (has k [] ≡ true) → (has k done ≡ true) ⊎ (k ≡ x)
    one (inl e) = inr e
    one (inr m) = has_none k m

    go : (has k done ≡ true) ⊎ (has k (x ∷ []) ≡ true) → (has k done ≡ true) ⊎ (k ≡ x)
    go (inl m) = inl m
    go (inr m) = one (has_cases k x [] m)

-- still undone, and undone still
pub more_not : (k x : ℕ) (done : List ℕ) → has k (done ++ (x ∷ [])) ≡ false → (has k done ≡ false) × (k ≢ x)
more_not k x done h = (go (test (has k done)), λ e. clash (has k (done ++ (x ∷ []))) (rw e (more_new x done)) h)
  where
    go : (has k done ≡ true) ⊎ (has k done ≡ false) → has k done ≡ false
    go (inl m) = clash (has k (done ++ (x ∷ []))) (more_old k x done m) h
    go (inr m) = m

pub not_more : (k x : ℕ) (done : List ℕ) → has k done ≡ false → k ≢ x → has k (done ++ (x ∷ [])) ≡ false
not_more k x done h n = go (test (has k (done ++ (x ∷ []))))
  where
    which : (has k done ≡ true) ⊎ (k ≡ x) → has k (done ++ (x ∷ [])) ≡ false
    which (inl m) = clash (has k done) m h
    which (inr e) = absurd (n e)

    go : (has k (done ++ (x ∷ [])) ≡ true) ⊎ (has k (done ++ (x ∷ [])) ≡ false) → has k (done ++ (x ∷ [])) ≡ false
    go (inl m) = which (more_only k x done m)
    go (inr m) = m

-- another line is done or not as before
pub has_other : (k x : ℕ) (done : List ℕ) → k ≢ x → has k done ≡ has k (done ++ (x ∷ []))
has_other k x done n = go (test (has k done))
  where
    go : (has k done ≡ true) ⊎ (has k done ≡ false) → has k done ≡ has k (done ++ (x ∷ []))
    go (inl e) = e ∙ sym (more_old k x done e)
    go (inr e) = e ∙ sym (not_more k x done e n)

-- ---- the lines that stand next

pub record Stands (p done : List ℕ) (i : ℕ) : Type 0 where
  pub line : i < length p
  pub waiting : has i done ≡ false
  pub first : (k : ℕ) → k < length p → has k done ≡ false → precedes p k i ≡ false

pub stands_has : (p done : List ℕ) (i : ℕ) → Stands p done i → has i (standing p (undone p done)) ≡ true
stands_has p done i s =
    standing_has p (undone p done) i (undone_has p done i s.line s.waiting)
    (none_any (λ k. precedes p k i) (undone p done) (λ k h. let r = has_undone p done k h in s.first k r.0 r.1))

pub has_stands : (p done : List ℕ) (i : ℕ) → has i (standing p (undone p done)) ≡ true → Stands p done i
has_stands p done i h =
    let s = has_standing p (undone p done) i h in
    let r = has_undone p done i s.0 in record {
      line = r.0;
      waiting = r.1;
      first = λ k l e. any_none (λ k. precedes p k i) (undone p done) s.1 k (undone_has p done k l e);
    }

pub follows_stands : (p done : List ℕ) (i : ℕ) → MayFollow p done i → Stands p done i
follows_stands p done i m =
    record { line = m.line; waiting = m.once; first = λ k l e. go k l e (test (precedes p k i)) }
  where
    go : (k : ℕ) → k < length p → has k done ≡ false → (precedes p k i ≡ true) ⊎ (precedes p k i ≡ false)
        → precedes p k i ≡ false
    go k l e (inl h) = clash (has k done) (m.after k l h) e
    go k l e (inr h) = h

-- what stands after a line that does not precede it stood before
pub stood : (p done : List ℕ) (x k : ℕ) → Stands p (done ++ (x ∷ [])) k → precedes p x k ≡ false → Stands p done k
stood p done x k s n =
    record { line = s.line; waiting = (more_not k x done s.waiting).0; first = λ b l e. go b l e (test (eqb b x)) }
  where
    go : (b : ℕ) → b < length p → has b done ≡ false → (eqb b x ≡ true) ⊎ (eqb b x ≡ false) → precedes p b k ≡ false
    go b l e (inl q) = rw (eqb-true b x q) n
    go b l e (inr q) = s.first b l (not_more b x done e (eqb-false b x q))

-- ---- rule (a) by lines that stand next

-- line k stands next and is no lasting take, as one test
can_go : List ℕ → List ℕ → ℕ → Bool
can_go p done k = not (has k done) && (not (any (λ b. precedes p b k) (undone p done)) && not (lasting_at p k))

going_first : (p done : List ℕ) → going_on p (undone p done) ≡ first_of (can_go p done) (up_from 0 (length p))
unfolding going_on standing undone positions can_go
going_first p done =
    first_those (λ i. not (lasting_at p i)) (λ i. not (any (λ k. precedes p k i) (undone p done))) (undone p done)
    ∙ first_those (λ i. not (any (λ k. precedes p k i) (undone p done)) && not (lasting_at p i)) (λ i. not (has i done))
    (up_from 0 (length p))

can_go_lem : (p done : List ℕ) (k : ℕ) → Stands p done k → lasting_at p k ≡ false → can_go p done k ≡ true
unfolding can_go
can_go_lem p done k s l = rw (s.waiting, l, (has_standing p (undone p done) k (stands_has p done k s)).1)

goes_stands : (p done : List ℕ) (k : ℕ) → k < length p → can_go p done k ≡ true
    → Stands p done k × (lasting_at p k ≡ false)
unfolding can_go
goes_stands p done k l h =
    let a = and_split (not (has k done)) (not (any (λ b. precedes p b k) (undone p done)) && not (lasting_at p k)) h in
    let b = and_split (not (any (λ b. precedes p b k) (undone p done))) (not (lasting_at p k)) a.1 in (
      has_stands p done k
          (standing_has p (undone p done) k (undone_has p done k l (not-true (has k done) a.0))
          (not-true (any (λ b. precedes p b k) (undone p done)) b.0)),
      not-true (lasting_at p k) b.1,
    )

-- nothing that can go on by (a) stands above line x
abbrev pub LowestIs : List ℕ → List ℕ → ℕ → Type 0
LowestIs p done x = (k : ℕ) → Stands p done k → lasting_at p k ≡ false → x ≤ k

-- (a) chooses line x: exactly if it is the lowest that can go on
pub goes_on_lem : (p done : List ℕ) (x : ℕ) → Stands p done x → lasting_at p x ≡ false → LowestIs p done x
    → going_on p (undone p done) ≡ some x
goes_on_lem p done x s l low =
    going_first p done
    ∙ first_is_lowest (can_go p done) 0 (length p) x (omega arith) (omega (arith, s.line)) (can_go_lem p done x s l)
    (λ k z h. above k h (test (can_go p done k)))
  where
    above : (k : ℕ) → k < x → (can_go p done k ≡ true) ⊎ (can_go p done k ≡ false) → can_go p done k ≡ false
    above k h (inr e) = e
    above k h (inl e) =
        let r = goes_stands p done k (omega (arith, s.line)) e in absurd (omega (arith, low k r.0 r.1))

pub going_lowest : (p done : List ℕ) (x : ℕ) → going_on p (undone p done) ≡ some x → LowestIs p done x
going_lowest p done x e k s l = go (le_or_lt x k)
  where
    go : (x ≤ k) ⊎ (k < x) → x ≤ k
    go (inl h) = h
    go (inr h) =
        clash (can_go p done k) (can_go_lem p done k s l)
        (first_lowest (can_go p done) 0 (length p) x (sym (going_first p done) ∙ e) k (omega arith) h)

-- by which rule a line is chosen
pub data ByRule (p u : List ℕ) (i : ℕ) : Type 0 where
  by_a : going_on p u ≡ some i → lasting_at p i ≡ false → ByRule p u i
  by_b : lasting_at p i ≡ true → ByRule p u i

by_rule : (p u : List ℕ) (i : ℕ) → chosen p u ≡ some i → ByRule p u i
unfolding chosen going_on lasting_next or_else
by_rule p u i e =
    go (going_on p u) (first_answer (λ i. not (lasting_at p i)) (standing p u)) refl
    (lasting_next p u) (least_answer (device_at p) (those (λ i. lasting_at p i && alone p u i) (standing p u))) e
  where
    go : (a : Option ℕ) → Answer (λ i. not (lasting_at p i)) (standing p u) a → going_on p u ≡ a
        → (b : Option ℕ) → Least (device_at p) (those (λ i. lasting_at p i && alone p u i) (standing p u)) b
        → or_else a b ≡ some i → ByRule p u i
    go (some k) h q b g e =
        let z : k ≡ i = some-injective k i e in by_a (rw z at q) (rw z at (not-true (lasting_at p k) h.1))
    go none h q none g e = no_some e
    go none h q (some k) g e =
        let z : k ≡ i = some-injective k i e in
        let r = has_those (λ i. lasting_at p i && alone p u i) (standing p u) k g.0 in
        by_b (rw z at (and_split (lasting_at p k) (alone p u k) r.1).0)

-- ---- the turns, line by line

-- the first line, where one is chosen; and turns enough are left
record FirstLine (p done : List ℕ) (m x : ℕ) : Type 0 where
  turns : ℕ
  first : lines_after m p done ≡ x ∷ lines_after turns p (done ++ (x ∷ []))
  enough : left (among (done ++ (x ∷ []))) (length p) ≤ turns

one_line : (p done : List ℕ) (m x : ℕ) → Stands p done x → chosen p (undone p done) ≡ some x
    → left (among done) (length p) ≤ m → FirstLine p done m x
one_line p done m x s e le = go m le
  where
    fewer : left (among (done ++ (x ∷ []))) (length p) < left (among done) (length p)
    fewer =
        left_lt (among done) (among (done ++ (x ∷ []))) (λ k h. more_old k x done h) x s.waiting (more_new x done)
        (length p) s.line

    go : (m : ℕ) → left (among done) (length p) ≤ m → FirstLine p done m x
    go zero le = absurd (omega (arith, fewer))
    go (suc m) le = record { turns = m; first = lines_step m p done x e; enough = omega (arith, fewer) }

-- the lines of a run, and what comes after it
record RunOf (p done : List ℕ) (m x n : ℕ) : Type 0 where
  turns : ℕ
  lines : lines_after m p done ≡ up_from x n ++ lines_after turns p (done ++ up_from x n)
  enough : left (among (done ++ up_from x n)) (length p) ≤ turns

-- (a) goes on within a run that has no lasting take
run_lines : (p : List ℕ) → Rules p → (n x m : ℕ) (done : List ℕ) → Follow p done (up_from x n) → LowestIs p done x
    → ((y : ℕ) → x ≤ y → y < x + n → lasting_at p y ≡ false) → left (among done) (length p) ≤ m → RunOf p done m x n
unfolding up_from chosen or_else
run_lines p rules zero x m done s low f le =
    record { turns = m; lines = rw (append-nil done); enough = rw (append-nil done) le }
run_lines p rules (suc n) x m done s low f le =
    go (one_line p done m x here (ap (λ (o : Option ℕ). or_else o (lasting_next p (undone p done))) on) le)
    (λ t e. run_lines p rules n (suc x) t (done ++ (x ∷ [])) s.1 later (λ y a b. f y (omega arith) (omega arith)) e)
  where
    here : Stands p done x
    here = follows_stands p done x s.0

    on : going_on p (undone p done) ≡ some x
    on = goes_on_lem p done x here (f x (omega arith) (omega arith)) low

    -- a line that stands above the next one stood already
    later : LowestIs p (done ++ (x ∷ [])) (suc x)
    later k t l = split (le_or_lt (suc x) k) (test (precedes p x k))
      where
        split : (suc x ≤ k) ⊎ (k < suc x) → (precedes p x k ≡ true) ⊎ (precedes p x k ≡ false) → suc x ≤ k
        split (inl h) b = h
        split (inr h) (inl b) = absurd (omega (arith, (precedes_reaches p rules x k here.line t.line b).0))
        split (inr h) (inr b) =
            let ne = (more_not k x done t.waiting).1 in
            absurd (omega (arith, ne, low k (stood p done x k t b) l))

    joined : done ++ (x ∷ []) ++ up_from (suc x) n ≡ done ++ (x ∷ up_from (suc x) n)
    joined = append_assoc done (x ∷ []) (up_from (suc x) n)

    go : FirstLine p done m x
        → ((t : ℕ) → left (among (done ++ (x ∷ []))) (length p) ≤ t → RunOf p (done ++ (x ∷ [])) t (suc x) n)
        → RunOf p done m x (suc n)
    go a ih = let r = ih a.turns a.enough in record {
      turns = r.turns;
      lines = a.first ∙ ap {B = List ℕ} (λ ys. x ∷ ys) (r.lines ∙ rw joined);
      enough = rw joined at r.enough;
    }

-- where no line is chosen, nothing more is handed out
handed_stuck : (n : ℕ) (p done : List ℕ) → chosen p (undone p done) ≡ none → handed_after n p done ≡ []
unfolding handed_after turn run_from chosen
handed_stuck zero p done e = refl
handed_stuck (suc n) p done e =
    ap (λ (o : Option ℕ). run_from p o ++ handed_after n p (done ++ run_from p o)) e
    ∙ ap (handed_after n p) (append-nil done)
    ∙ handed_stuck n p done e

-- the last line of a run: a lasting take is a run by itself, and no line of another is one
alone_lasts : (p : List ℕ) (i : ℕ) → lasting_at p i ≡ true → last_of p i ≡ i
unfolding lasting_at last_of
alone_lasts p i h = go (mate p i) refl (and_split (takes_at p i) (is_none (mate p i)) h)
  where
    go : (o : Option ℕ) → mate p i ≡ o → (takes_at p i ≡ true) × (is_none (mate p i) ≡ true)
        → cond (takes_at p i) (get_or (mate p i) i) i ≡ i
    go none e s = rw (s.0, e)
    go (some m) e s = clash (is_none (mate p i)) s.1 (ap is_none e)

none_lasts_in : (p : List ℕ) (i : ℕ) → lasting_at p i ≡ false → (y : ℕ) → i ≤ y → y ≤ last_of p i
    → lasting_at p y ≡ false
unfolding last_of
none_lasts_in p i l y a b = go (takes_at p i) (mate p i) refl b (test (eqb y i))
  where
    same : eqb y i ≡ true → lasting_at p y ≡ false
    same q = rw (eqb-true y i q) l

    go : (t : Bool) (o : Option ℕ) → mate p i ≡ o → y ≤ cond t (get_or o i) i
        → (eqb y i ≡ true) ⊎ (eqb y i ≡ false) → lasting_at p y ≡ false
    go t o e b (inl q) = same q
    go true (some m) e b (inr q) = let n = eqb-false y i q in none_lasts_between p i m y e (omega arith) b
    go true none e b (inr q) = let n = eqb-false y i q in absurd (omega arith)
    go false o e b (inr q) = let n = eqb-false y i q in absurd (omega arith)

module _ (p : List ℕ) (rules : Rules p) where
  same_lines : (n m : ℕ) (done : List ℕ) → Between p done → left (among done) (length p) ≤ n
      → left (among done) (length p) ≤ m
      → handed_after n p done ≡ lines_after m p done
  unfolding handed_after turn run_from run chosen
  same_lines zero m done inv a b = sym (lines_stuck m p done (go (chosen p (undone p done)) (picked p (undone p done))))
    where
      go : (o : Option ℕ) → Picked p (undone p done) o → o ≡ none
      go none (stuck c) = refl
      go (some i) (goes j s c) =
          let t = has_stands p done i s in
          clash (has i done) (left_none (among done) (length p) a i t.line) t.waiting
  same_lines (suc n) m done inv a b =
      go (chosen p (undone p done)) refl (picked p (undone p done)) (same_lines n)
    where
      go : (o : Option ℕ) → chosen p (undone p done) ≡ o → Picked p (undone p done) o
          → ((m : ℕ) (done : List ℕ) → Between p done → left (among done) (length p) ≤ n
          → left (among done) (length p) ≤ m
          → handed_after n p done ≡ lines_after m p done)
          → run_from p o ++ handed_after n p (done ++ run_from p o) ≡ lines_after m p done
      go none e (stuck c) ih =
          ap (handed_after n p) (append-nil done) ∙ handed_stuck n p done e ∙ sym (lines_stuck m p done e)
      go (some i) e (goes j s c) ih = close (by_rule p (undone p done) i e)
        where
          last : ℕ
          last = last_of p i

          here : Stands p done i
          here = has_stands p done i s

          g : Going p i last
          g = going p i here.line

          between : Between p (done ++ up_from i (suc last - i))
          between = turn_between p rules done inv i last here.waiting here.first g
              (λ d t. closes p done i d (undone_takes p done inv i d here.waiting t) c)

          less : left (among (done ++ up_from i (suc last - i))) (length p) < left (among done) (length p)
          less =
              left_lt (among done) (among (done ++ up_from i (suc last - i)))
              (λ k h. has_left k done (up_from i (suc last - i)) h) i here.waiting
              (after_new p rules done inv.closed i last here.waiting here.first g i (omega arith) g.le)
              (length p)
              here.line

          rest : RunOf p done m i (suc last - i) → run p i ++ handed_after n p (done ++ run p i) ≡ lines_after m p done
          rest r =
              ap (λ (ys : List ℕ). run p i ++ ys)
              (ih r.turns (done ++ run p i) between (omega (arith, less)) r.enough)
              ∙ sym r.lines

          close : ByRule p (undone p done) i → run p i ++ handed_after n p (done ++ run p i) ≡ lines_after m p done
          close (by_a q l) =
              rest
              (run_lines p rules (suc last - i) i m done
              (turn_follows p rules done inv i last here.waiting here.first g) (going_lowest p done i q)
              (λ y x z. none_lasts_in p i l y x (omega arith)) b)
          close (by_b l) =
              let z : suc last - i ≡ 1 = omega (arith, alone_lasts p i l) in
              rest
              (rw z (let f = one_line p done m i here e b in
              record { turns = f.turns; lines = f.first; enough = f.enough }))

  -- The theorem: so from any state as it is between turns.
  pub turns_line_by_line : (done : List ℕ) → Between p done
      → handed_after (length p) p done ≡ lines_after (length p) p done
  turns_line_by_line done inv =
      same_lines (length p) (length p) done inv (left_all (among done) (length p)) (left_all (among done) (length p))

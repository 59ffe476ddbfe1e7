-- From any state as it is between turns the turns of the order go through to the end, in a well-formed plan with no
-- device that two lines keep and none that leads back to itself. Turn by turn: the lines of a turn may follow, what
-- holds between turns holds again, and each turn does a line, so the turns that the definition allows are enough.
use Prim.Native.Nat.{ℕ, zero, suc, ◌-◌, ◌<◌, ◌≤◌}
use mathlib.Core.Bool.{true, false, cond, not, ◌&&◌}
use mathlib.Core.List.{List, [], ◌∷◌, ◌++◌, append-nil, append_assoc}
use mathlib.Core.Logic.{◌⊎◌, inl, inr, ◌≢◌}
use mathlib.Core.Option.{Option, none, some, get_or}
use mathlib.Core.Path.{◌≡◌, refl, sym, subst}
use native.Mathlib.Omega.{arith}
use lib.Dec.{eqb}
use lib.ListN.{length}
use borrow.Author.Tests.{ne_eqb, not-true}
use Rattle.model.specs.Lists.{up_from, any, has, or_else}
use Rattle.model.specs.Line.{Settings}
use Rattle.model.specs.Mate.{takes_at, held_at, device_at, takes, grips, mate, is_none, lasting_at}
use Rattle.model.specs.WellFormed.{WellFormed}
use Rattle.model.specs.Legal.{precedes, Follow}
use Rattle.model.specs.Rows.{rows, Leads}
use Rattle.model.specs.Handed.{undone, going_on, alone, lasting_next, last_of, run, run_from, turn, handed_after}
use Rattle.theory.specs.Verdict.{LastsTwice}
use Rattle.theory.proofs.Tests.{clash, test, and_second}
use Rattle.theory.proofs.Lists.{has_left, has_right, has_append, any_none}
use Rattle.theory.proofs.Lists.{left, left_lt, left_none, left_zero, left_all, among}
use Rattle.theory.proofs.Claims.{takes_parts}
use Rattle.theory.proofs.Grips.{grips_takes}
use Rattle.theory.proofs.Turns.{Between, Going, going, turn_follows, turn_between, after_new}
use Rattle.theory.proofs.Progress.{has_undone, undone_has, has_standing, Picked, stuck, goes, picked, device_is}
use Rattle.theory.proofs.Progress.{never_stuck}

pub follow_append : (p done x y : List ℕ) → Follow p done x → Follow p (done ++ x) y → Follow p done (x ++ y)
follow_append p done [] y s t = subst (λ (d : List ℕ). Follow p d y) (append-nil done) t
follow_append p done (i ∷ x) y s t = (
  s.0,
  follow_append p (done ++ (i ∷ [])) x y s.1
      (subst (λ (d : List ℕ). Follow p d y) (sym (append_assoc done (i ∷ []) x)) t),
)

-- what an undone line grips it takes
pub undone_takes : (p done : List ℕ) → Between p done → (i d : ℕ) → has i done ≡ false → grips p i d ≡ true
    → takes p i d ≡ true
undone_takes p done inv i d un g = grips_takes p i d (go (test (held_at p i))) g
  where
    go : (held_at p i ≡ true) ⊎ (held_at p i ≡ false) → held_at p i ≡ false
    go (inl h) = clash (has i done) (inv.begun i h) un
    go (inr h) = h

-- after a line chosen: its mate ends the run, or nobody else still wants its device
pub closes : (p done : List ℕ) (i d : ℕ) → takes p i d ≡ true
    → (lasting_at p i ≡ false) ⊎ (alone p (undone p done) i ≡ true)
    → (mate p i ≡ some (last_of p i)) ⊎ ((x : ℕ) → x < length p → has x done ≡ false → x ≢ i → takes p x d ≡ false)
unfolding lasting_at is_none alone last_of
closes p done i d t c = go c
  where
    take : takes_at p i ≡ true
    take = (takes_parts p i d t).0

    mated : (o : Option ℕ) → mate p i ≡ o → is_none o ≡ false
        → mate p i ≡ some (cond (takes_at p i) (get_or (mate p i) i) i)
    mated none e h = clash true refl h
    mated (some m) e h = rw (take, e)

    go : (lasting_at p i ≡ false) ⊎ (alone p (undone p done) i ≡ true)
        → (mate p i ≡ some (last_of p i)) ⊎ ((x : ℕ) → x < length p → has x done ≡ false → x ≢ i → takes p x d ≡ false)
    go (inl l) = inl (mated (mate p i) refl (and_second (takes_at p i) (is_none (mate p i)) take l))
    go (inr a) = inr λ x xn e n.
        and_second (not (eqb x i)) (takes p x d) (rw (ne_eqb x i n))
        (rw (device_is p i d t) at
        (any_none (λ k. not (eqb k i) && takes p k (device_at p i)) (undone p done)
        (not-true (any (λ k. not (eqb k i) && takes p k (device_at p i)) (undone p done)) a) x
        (undone_has p done x xn e)))

module _ (S : Settings) (p : List ℕ) (w : WellFormed S p) (no_two : (d : ℕ) → LastsTwice p d → ⊥)
    (no_circle : (d : ℕ) → Leads (rows S.devices p) d d → ⊥) where
  -- the rest of an order follows what is done, and with it every line is done
  abbrev pub Finishes : List ℕ → List ℕ → Type 0
  Finishes done o = Follow p done o × ((k : ℕ) → k < length p → (has k done ≡ true) ⊎ (has k o ≡ true))

  finishes : (n : ℕ) (done : List ℕ) → Between p done → left (among done) (length p) ≤ n
      → Finishes done (handed_after n p done)
  unfolding handed_after turn run_from run
  finishes zero done inv le = (tt, λ k h. inl (left_none (among done) (length p) le k h))
  finishes (suc n) done inv le =
      go (or_else (going_on p (undone p done)) (lasting_next p (undone p done))) (picked p (undone p done)) (finishes n)
    where
      go : (o : Option ℕ) → Picked p (undone p done) o
          → ((done : List ℕ) → Between p done → left (among done) (length p) ≤ n
          → Finishes done (handed_after n p done))
          → Finishes done (run_from p o ++ handed_after n p (done ++ run_from p o))
      go none (stuck c) ih =
          subst (λ (d : List ℕ). Finishes done (handed_after n p d)) (sym (append-nil done))
          (ih done inv (omega (arith, left_zero (among done) (length p) all)))
        where
          all : (k : ℕ) → k < length p → has k done ≡ true
          all k h = split (test (has k done))
            where
              split : (has k done ≡ true) ⊎ (has k done ≡ false) → has k done ≡ true
              split (inl e) = e
              split (inr e) = absurd (never_stuck S p w no_two no_circle done c k (undone_has p done k h e))
      go (some i) (goes j s c) ih = (
        follow_append p done x rest (turn_follows p w.rules done inv i m un ready g) later.0,
        λ k h. whole k
            (later.1 k h),
      )
        where
          m : ℕ
          m = last_of p i

          x : List ℕ
          x = up_from i (suc m - i)

          next : List ℕ
          next = done ++ x

          rest : List ℕ
          rest = handed_after n p next

          stands : (has i (undone p done) ≡ true) × (any (λ k. precedes p k i) (undone p done) ≡ false)
          stands = has_standing p (undone p done) i s

          here : (i < length p) × (has i done ≡ false)
          here = has_undone p done i stands.0

          un : has i done ≡ false
          un = here.1

          g : Going p i m
          g = going p i here.0

          ready : (k : ℕ) → k < length p → has k done ≡ false → precedes p k i ≡ false
          ready k h e = any_none (λ k. precedes p k i) (undone p done) stands.1 k (undone_has p done k h e)

          less : left (among next) (length p) < left (among done) (length p)
          less =
              left_lt (among done) (among next) (λ k h. has_left k done x h) i un
              (after_new p w.rules done inv.closed i m un ready g i (omega arith) g.le) (length p) here.0

          later : Finishes next rest
          later = ih next (turn_between p w.rules done inv i m un ready g
              (λ d t. closes p done i d (undone_takes p done inv i d un t) c))
              (omega (arith, less))

          old : (k : ℕ) → (has k done ≡ true) ⊎ (has k x ≡ true) → (has k done ≡ true) ⊎ (has k (x ++ rest) ≡ true)
          old k (inl a) = inl a
          old k (inr a) = inr (has_left k x rest a)

          whole : (k : ℕ) → (has k next ≡ true) ⊎ (has k rest ≡ true)
              → (has k done ≡ true) ⊎ (has k (x ++ rest) ≡ true)
          whole k (inl a) = old k (has_append k done x a)
          whole k (inr a) = inr (has_right k x rest a)

  -- The theorem: from any state as it is between turns, the turns go through.
  pub turns_finish : (done : List ℕ) → Between p done → Finishes done (handed_after (length p) p done)
  turns_finish done inv = finishes (length p) done inv (left_all (among done) (length p))

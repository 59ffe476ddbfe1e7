-- Outermost takes and gives (02, request 2). A take and the give that matches it are outermost together: before the
-- give its job holds what it held before the take, with the take's device in front. A held line (02, request 5) is
-- always outermost, and so is its give. And lines as they count: of these the takes are the outermost ones, and so are
-- the gives; held lines and starts are what they were.
use Prim.Native.Nat.{ℕ, suc, ◌<◌, ◌≤◌}
use mathlib.Core.Bool.{Bool, true, false, cond, not, ◌&&◌, ◌||◌}
use mathlib.Core.List.{List, [], ◌∷◌, map, tail}
use mathlib.Core.Logic.{◌⊎◌, inl, inr}
use mathlib.Core.Option.{some}
use mathlib.Core.Path.{◌≡◌, refl, sym, ◌∙◌, ap}
use native.Mathlib.Omega.{arith}
use lib.ListN.{length, drop, get_elem?}
use lib.Dec.{eqb}
use borrow.Author.Tests.{eq-eqb}
use Rattle.model.specs.Lists.{has}
use Rattle.model.specs.Line.{Settings, pack, job, operand, opens, is_held, is_take, is_give, is_start, device_of}
use Rattle.model.specs.Line.{holds, verb_of, is_line, at, max_job}
use Rattle.model.specs.WellFormed.{held_there, Rules}
use Rattle.model.specs.Mate.{device_at, holds_already, takes_at, held_at, mate}
use Rattle.theory.specs.Outer.{holds_beneath, frees_at, again_at, plain, plain_at}
use Rattle.theory.specs.Line.{Fits, of_do}
use Rattle.theory.proofs.Tests.{clash, falsely, and_split, and_both, or_false}
use Rattle.theory.proofs.Lists.{has_none, has_cases}
use Rattle.theory.proofs.Line.{job_pack, kind_pack, operand_pack, operand_small, line_parts, line_exactly}
use Rattle.theory.proofs.Line.{inside, pack_no_held, own_device, verb_kind, take_no_held, held_no_take}
use Rattle.theory.proofs.Line.{opens_either, take_no_give, take_no_start, give_no_start, give_no_held}
use Rattle.theory.proofs.Mate.{pair, open_takes, open_is, held_open, take_open_at_mate, mate_names_device}
use Rattle.theory.proofs.Mate.{give_has_take}

-- ---- a take or a held line, and its give

-- they are lines of the plan
pub opens_line : (p : List ℕ) (i : ℕ) → opens (at p i) ≡ true → i < length p
unfolding opens
opens_line p i h = inside opens p i refl h

drop_one : (xs : List ℕ) → drop 1 xs ≡ tail xs
drop_one [] = refl
drop_one (x ∷ xs) = refl

map_tail : (f : ℕ → ℕ) (xs : List ℕ) → tail (map f xs) ≡ map f (tail xs)
map_tail f [] = refl
map_tail f (x ∷ xs) = refl

-- after the give its job holds what it held before the take
pub held_after_mate : (p : List ℕ) (t m : ℕ) → opens (at p t) ≡ true → mate p t ≡ some m
    → tail (held_there p m) ≡ held_there p t
held_after_mate p t m u e =
    let r = pair p t m e in
    rw (r.same_job m (omega (arith, r.below)) (omega arith), held_open p j m, held_open p j t)
    (map_tail (device_at p) (open_takes p j m)
    ∙ ap (map (device_at p))
    (sym (drop_one (open_takes p j m)) ∙ sym (open_is p j m 0 t (take_open_at_mate p t m u e)).below))
  where
    j : ℕ
    j = job (at p t)

-- what a mapped list has comes from one of its places
mapped_from : (f : ℕ → ℕ) (xs : List ℕ) (d : ℕ) → has d (map f xs) ≡ true
    → (n : ℕ) × (x : ℕ) × (get_elem? xs n ≡ some x) × (f x ≡ d)
mapped_from f [] d h = has_none d h
mapped_from f (x ∷ xs) d h = go (has_cases d (f x) (map f xs) h) (mapped_from f xs d)
  where
    go : (d ≡ f x) ⊎ (has d (map f xs) ≡ true)
        → (has d (map f xs) ≡ true → (n : ℕ) × (y : ℕ) × (get_elem? xs n ≡ some y) × (f y ≡ d))
        → (n : ℕ) × (y : ℕ) × (get_elem? (x ∷ xs) n ≡ some y) × (f y ≡ d)
    go (inl e) ih = (0, x, refl, sym e)
    go (inr e) ih = let r = ih e in (suc r.0, r.1, r.2, r.3)

by_take_lem : (a b c : Bool) → a ≡ true → b ≡ false → ((a && not c) || b) ≡ not c
by_take_lem a b c e f = rw (e, f) (or_false (not c))

by_held_lem : (a b c : Bool) → a ≡ false → b ≡ true → c ≡ false → ((a && not c) || b) ≡ not c
by_held_lem a b c e f g = rw (e, f, g)

module _ (p : List ℕ) (rules : Rules p) where
  -- a held line is of a device that its job does not hold there: what stands before it in its job is held, and no
  -- device is held twice
  pub held_new : (t : ℕ) → is_held (at p t) ≡ true → holds_already p t ≡ false
  unfolding holds_already holds device_at
  held_new t h = falsely (holds_already p t) again
    where
      j : ℕ
      j = job (at p t)

      again : holds_already p t ≡ true → ⊥
      again a =
          let r = mapped_from (device_at p) (open_takes p j t) (device_at p t) (rw (held_open p j t) at a) in
          let o = open_is p j t r.0 r.1 r.2 in
          let d = device_at p t in
          clash (holds (at p r.1) d)
          (and_both (is_held (at p r.1)) (eqb (device_of (at p r.1)) d)
          (rules.held_first t r.1 o.above h o.of_job) (eq-eqb (device_of (at p r.1)) d r.3))
          (rules.held_once t r.1 d o.above
          (and_both (is_held (at p t)) (eqb (device_of (at p t)) d) h (eq-eqb (device_of (at p t)) d refl)))

  -- what opens is outermost exactly if its job does not hold its device already
  pub outer_opens : (t : ℕ) → opens (at p t) ≡ true → (takes_at p t || held_at p t) ≡ not (holds_already p t)
  unfolding takes_at held_at
  outer_opens t u = go (opens_either (at p t) u)
    where
      go : (is_take (at p t) ≡ true) ⊎ (is_held (at p t) ≡ true)
          → ((is_take (at p t) && not (holds_already p t)) || is_held (at p t)) ≡ not (holds_already p t)
      go (inl k) = by_take_lem (is_take (at p t)) (is_held (at p t)) (holds_already p t) k (take_no_held (at p t) k)
      go (inr h) =
          by_held_lem (is_take (at p t)) (is_held (at p t)) (holds_already p t) (held_no_take (at p t) h) h
          (held_new t h)

  -- The theorem: a give is outermost exactly if its take is, and always if it is the give of a held line.
  pub outer_together : (t m : ℕ) → opens (at p t) ≡ true → mate p t ≡ some m
      → frees_at p m ≡ (takes_at p t || held_at p t)
  unfolding frees_at holds_beneath holds_already
  outer_together t m u e =
      rw ((pair p t m e).gives, held_after_mate p t m u e, mate_names_device p rules t m u e) (sym (outer_opens t u))

-- a line that frees a device is a give
pub frees_gives : (p : List ℕ) (i : ℕ) → frees_at p i ≡ true → is_give (at p i) ≡ true
unfolding frees_at
frees_gives p i h = (and_split (is_give (at p i)) (not (holds_beneath p i)) h).0

-- the take or held line of an outermost give, which is outermost
pub freed_take : (p : List ℕ) → Rules p → (m : ℕ) → frees_at p m ≡ true
    → (t : ℕ) × ((takes_at p t || held_at p t) ≡ true) × (opens (at p t) ≡ true) × (mate p t ≡ some m)
freed_take p rules m h =
    let r = give_has_take p rules m (frees_gives p m h) in
    let u = (open_is p (job (at p m)) m 0 r.0 r.1).opening in
    (r.0, sym (outer_together p rules r.0 m u r.2) ∙ h, u, r.2)

-- ---- what a line counts as

module _ (b : Bool) (l : ℕ) where
  pub plain_job : job (plain b l) ≡ job l
  unfolding plain
  plain_job = go b
    where
      go : (b : Bool) → job (cond b (pack (job l) 0 (operand l)) l) ≡ job l
      go true = job_pack (job l) 0 (operand l) (omega arith) (operand_small l)
      go false = refl

  pub plain_operand : operand (plain b l) ≡ operand l
  unfolding plain
  plain_operand = go b
    where
      go : (b : Bool) → operand (cond b (pack (job l) 0 (operand l)) l) ≡ operand l
      go true = operand_pack (job l) 0 (operand l) (operand_small l)
      go false = refl

  -- it is a line, if the line is
  pub plain_line : (S : Settings) → is_line S l ≡ true → is_line S (plain b l) ≡ true
  unfolding plain
  plain_line S h = go b
    where
      z : ℕ
      z = pack (job l) 0 (operand l)

      n : is_held z ≡ false
      n = pack_no_held (job l) 0 (operand l) (omega arith) (operand_small l) (λ q. absurd (omega arith))

      made : (1 ≤ job z) × (job z ≤ max_job) × Fits S (verb_of z) (device_of z)
      made =
          let s = operand_small l in
          let r = line_parts S l h in
          rw (
            verb_kind z n,
            own_device z n,
            job_pack (job l) 0 (operand l) (omega arith) s,
            kind_pack (job l) 0 (operand l) (omega arith) s,
            operand_pack (job l) 0 (operand l) s,
          )
          (r.0, r.1, of_do refl (omega arith))

      go : (b : Bool) → is_line S (cond b (pack (job l) 0 (operand l)) l) ≡ true
      go false = h
      go true = (line_exactly S z).1 made

-- no test but that for a do passes a do
no_verb : (l : ℕ) → (is_take (pack (job l) 0 (operand l)) ≡ false) × (is_give (pack (job l) 0 (operand l)) ≡ false)
    × (is_start (pack (job l) 0 (operand l)) ≡ false) × (is_held (pack (job l) 0 (operand l)) ≡ false)
unfolding opens is_take is_give is_start is_held
no_verb l = let k = kind_pack (job l) 0 (operand l) (omega arith) (operand_small l) in (rw k, rw k, rw k, rw k)

module _ (p : List ℕ) (i : ℕ) where
  abbrev l : ℕ
  l = at p i

  -- the line as it counts, by its verb and by what its job holds
  abbrev seen : Bool → Bool → Bool → Bool → ℕ
  seen t g h b = cond ((t && h) || (g && b)) (pack (job l) 0 (operand l)) l

  -- The theorem: of the lines as they count, the takes are the outermost takes,
  pub plain_take : is_take (plain_at p i) ≡ takes_at p i
  unfolding plain again_at takes_at
  plain_take = go (is_take l) (is_give l) (holds_already p i) (holds_beneath p i) refl refl
    where
      go : (t g h b : Bool) → is_take l ≡ t → is_give l ≡ g → is_take (seen t g h b) ≡ (t && not h)
      go true true h b e q = clash (is_give l) q (take_no_give l e)
      go true false true b e q = (no_verb l).0
      go true false false b e q = e
      go false true h true e q = (no_verb l).0
      go false true h false e q = e
      go false false h b e q = e

  -- the gives the outermost gives,
  pub plain_give : is_give (plain_at p i) ≡ frees_at p i
  unfolding plain again_at frees_at
  plain_give = go (is_take l) (is_give l) (holds_already p i) (holds_beneath p i) refl refl
    where
      go : (t g h b : Bool) → is_take l ≡ t → is_give l ≡ g → is_give (seen t g h b) ≡ (g && not b)
      go true true h b e q = clash (is_give l) q (take_no_give l e)
      go true false true b e q = (no_verb l).1
      go true false false b e q = q
      go false true h true e q = (no_verb l).1
      go false true h false e q = q
      go false false h b e q = q

  -- the starts the starts,
  pub plain_start : is_start (plain_at p i) ≡ is_start (at p i)
  unfolding plain again_at
  plain_start = go (is_take l) (is_give l) (holds_already p i) (holds_beneath p i) refl refl
    where
      go : (t g h b : Bool) → is_take l ≡ t → is_give l ≡ g → is_start (seen t g h b) ≡ is_start l
      go true g true b e q = (no_verb l).2 ∙ sym (take_no_start l e)
      go true true false true e q = (no_verb l).2 ∙ sym (take_no_start l e)
      go true true false false e q = refl
      go true false false b e q = refl
      go false true h true e q = (no_verb l).2 ∙ sym (give_no_start l q)
      go false true h false e q = refl
      go false false h b e q = refl

  -- and the held lines the held lines.
  pub plain_held : is_held (plain_at p i) ≡ is_held (at p i)
  unfolding plain again_at
  plain_held = go (is_take l) (is_give l) (holds_already p i) (holds_beneath p i) refl refl
    where
      go : (t g h b : Bool) → is_take l ≡ t → is_give l ≡ g → is_held (seen t g h b) ≡ is_held l
      go true g true b e q = (no_verb l).3 ∙ sym (take_no_held l e)
      go true true false true e q = (no_verb l).3 ∙ sym (take_no_held l e)
      go true true false false e q = refl
      go true false false b e q = refl
      go false true h true e q = (no_verb l).3 ∙ sym (give_no_held l q)
      go false true h false e q = refl
      go false false h b e q = refl

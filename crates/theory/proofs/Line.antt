-- One packed line: job, kind and operand are given back by what packs them, a line is of one kind, and each verb has
-- its range of operands. Faults, texts and moves read lines through these. An operand has eight bits, the highest of
-- which tells a held line from a take, so that a number packed from job, verb and device gives them back with at most
-- 128 devices. Where numbers are packed, from a text or by a move, that is a premise; where they are given, nothing in
-- this room asks it.
use Prim.Native.Nat.{ℕ, ◌+◌, ◌-◌, ◌%◌, ◌≤◌, ◌<◌}
use mathlib.Core.Bool.{Bool, true, false, cond, not, ◌&&◌, ◌||◌}
use mathlib.Core.List.{List}
use mathlib.Core.Logic.{◌⊎◌, inl, inr, ◌↔◌}
use mathlib.Core.Path.{◌≡◌, refl, sym, ◌∙◌}
use native.Mathlib.Omega.{arith}
use lib.Dec.{eqb, leb, ltb}
use lib.ListN.{length, get_or-eq_default}
use borrow.Author.Tests.{eqb-true, eq-eqb, ne_eqb, leb-true, le-leb, lt-leb, ltb-true, lt-ltb, not-true}
use Rattle.model.specs.Line.{Settings, pack, job, kind, operand, opens, is_held, is_take, is_give, is_start, device_of}
use Rattle.model.specs.Line.{morning, starts, pack_verb, verb_of, operand_fits, line_fits, is_line, at, max_job}
use Rattle.model.specs.Line.{held_from}
use Rattle.model.specs.Line.{held_verb}
use Rattle.theory.specs.Line.{Fits, of_do, of_device, of_held, of_start}
use Rattle.theory.proofs.Tests.{clash, test, or_split, or_left, or_right, and_split, and_both, and_left}
use Rattle.theory.proofs.Tests.{and_right}
use Rattle.theory.proofs.Tests.{le_or_lt}

-- what a number that is no line has not, a line of the plan has: past the end stands 0
pub inside : (f : ℕ → Bool) (p : List ℕ) (i : ℕ) → f 0 ≡ false → f (at p i) ≡ true → i < length p
inside f p i z h = go (le_or_lt (length p) i)
  where
    go : (length p ≤ i) ⊎ (i < length p) → i < length p
    go (inl k) = clash (f 0) (rw (get_or-eq_default p 0 k) at h) z
    go (inr k) = k

-- ---- job, kind and operand

pub job_pack : (j k o : ℕ) → k < 4 → o < 256 → job (pack j k o) ≡ j
unfolding job pack
job_pack j k o h g = omega arith

pub kind_pack : (j k o : ℕ) → k < 4 → o < 256 → kind (pack j k o) ≡ k
unfolding kind pack
kind_pack j k o h g = omega arith

pub operand_pack : (j k o : ℕ) → o < 256 → operand (pack j k o) ≡ o
unfolding operand pack
operand_pack j k o g = omega arith

pub pack_parts : (l : ℕ) → pack (job l) (kind l) (operand l) ≡ l
unfolding pack job kind operand
pack_parts l = omega arith

pub kind_small : (l : ℕ) → kind l < 4
unfolding kind
kind_small l = omega arith

pub operand_small : (l : ℕ) → operand l < 256
unfolding operand
operand_small l = omega arith

-- ---- kinds

-- a start of job j is a start, and j is its operand
pub start_parts : (l j : ℕ) → starts l j ≡ true → (is_start l ≡ true) × (operand l ≡ j)
unfolding starts
start_parts l j h = let s = and_split (is_start l) (eqb (operand l) j) h in (s.0, eqb-true (operand l) j s.1)

pub start_of : (l : ℕ) → is_start l ≡ true → starts l (operand l) ≡ true
unfolding starts
start_of l h = and_both (is_start l) (eqb (operand l) (operand l)) h (eq-eqb (operand l) (operand l) refl)

-- a line is of one kind
one_kind : (n a b : ℕ) → (a ≡ b → ⊥) → eqb n a ≡ true → eqb n b ≡ false
one_kind n a b ne e = ne_eqb n b (λ q. ne (sym (eqb-true n a e) ∙ q))

pub give_no_start : (l : ℕ) → is_give l ≡ true → is_start l ≡ false
unfolding is_give is_start
give_no_start l h = one_kind (kind l) 2 3 (λ q. omega arith) h

-- takes and held lines open, and what opens is one of them
pub take_opens : (l : ℕ) → is_take l ≡ true → opens l ≡ true
unfolding is_take
take_opens l h = (and_split (opens l) (not (leb held_from (operand l))) h).0

pub held_opens : (l : ℕ) → is_held l ≡ true → opens l ≡ true
unfolding is_held
held_opens l h = (and_split (opens l) (leb held_from (operand l)) h).0

pub take_no_held : (l : ℕ) → is_take l ≡ true → is_held l ≡ false
unfolding is_take is_held
take_no_held l h =
    and_right (opens l) (leb held_from (operand l))
    (not-true (leb held_from (operand l)) (and_split (opens l) (not (leb held_from (operand l))) h).1)

pub held_no_take : (l : ℕ) → is_held l ≡ true → is_take l ≡ false
unfolding is_take is_held
held_no_take l h =
    and_right (opens l) (not (leb held_from (operand l))) (rw (and_split (opens l) (leb held_from (operand l)) h).1)

pub take_is : (l : ℕ) → is_take l ≡ (opens l && not (is_held l))
unfolding is_take is_held
take_is l = go (opens l) (leb held_from (operand l))
  where
    go : (a b : Bool) → (a && not b) ≡ (a && not (a && b))
    go true b = refl
    go false b = refl

pub opens_either : (l : ℕ) → opens l ≡ true → (is_take l ≡ true) ⊎ (is_held l ≡ true)
unfolding is_take is_held
opens_either l h = go (test (leb held_from (operand l)))
  where
    go : (leb held_from (operand l) ≡ true) ⊎ (leb held_from (operand l) ≡ false)
        → ((opens l && not (leb held_from (operand l))) ≡ true) ⊎ ((opens l && leb held_from (operand l)) ≡ true)
    go (inl e) = inr (and_both (opens l) (leb held_from (operand l)) h e)
    go (inr e) = inl (rw (h, e))

pub opens_no_give : (l : ℕ) → opens l ≡ true → is_give l ≡ false
unfolding opens is_give
opens_no_give l h = one_kind (kind l) 1 2 (λ q. omega arith) h

pub opens_no_start : (l : ℕ) → opens l ≡ true → is_start l ≡ false
unfolding opens is_start
opens_no_start l h = one_kind (kind l) 1 3 (λ q. omega arith) h

pub take_no_start : (l : ℕ) → is_take l ≡ true → is_start l ≡ false
take_no_start l h = opens_no_start l (take_opens l h)

pub take_no_give : (l : ℕ) → is_take l ≡ true → is_give l ≡ false
take_no_give l h = opens_no_give l (take_opens l h)

-- a line that is not held has its operand for its device
pub own_device : (l : ℕ) → is_held l ≡ false → device_of l ≡ operand l
unfolding device_of
own_device l h = rw h

pub give_no_held : (l : ℕ) → is_give l ≡ true → is_held l ≡ false
give_no_held l g = go (test (is_held l))
  where
    go : (is_held l ≡ true) ⊎ (is_held l ≡ false) → is_held l ≡ false
    go (inl h) = clash (is_give l) g (opens_no_give l (held_opens l h))
    go (inr h) = h

-- they are lines of the plan
pub give_line : (p : List ℕ) (i : ℕ) → is_give (at p i) ≡ true → i < length p
unfolding is_give
give_line p i h = inside is_give p i refl h

pub take_line : (p : List ℕ) (i : ℕ) → is_take (at p i) ≡ true → i < length p
unfolding is_take
take_line p i h = inside is_take p i refl h

pub held_line : (p : List ℕ) (i : ℕ) → is_held (at p i) ≡ true → i < length p
unfolding is_held
held_line p i h = inside is_held p i refl h

-- what a held line holds, and what is packed of it
pub held_operand : (l : ℕ) → is_held l ≡ true → (kind l ≡ 1) × (operand l ≡ held_from + device_of l)
unfolding is_held opens device_of
held_operand l h =
    let r = and_split (eqb (kind l) 1) (leb held_from (operand l)) h in
    let low = leb-true held_from (operand l) r.1 in
    (eqb-true (kind l) 1 r.0, rw h (omega arith))

-- ---- the verb and what the operand names

-- a line is held, or its verb is its kind and its operand names what it is
pub data Verbed (l : ℕ) : Type 0 where
  as_held : is_held l ≡ true → verb_of l ≡ held_verb → kind l ≡ 1 → operand l ≡ held_from + device_of l → Verbed l
  as_kind : is_held l ≡ false → verb_of l ≡ kind l → device_of l ≡ operand l → Verbed l

pub verb_held : (l : ℕ) → is_held l ≡ true → verb_of l ≡ held_verb
unfolding verb_of
verb_held l h = rw h

pub verb_kind : (l : ℕ) → is_held l ≡ false → verb_of l ≡ kind l
unfolding verb_of
verb_kind l h = rw h

pub verbed : (l : ℕ) → Verbed l
verbed l = go (test (is_held l))
  where
    go : (is_held l ≡ true) ⊎ (is_held l ≡ false) → Verbed l
    go (inl h) = let r = held_operand l h in as_held h (verb_held l h) r.0 r.1
    go (inr h) = as_kind h (verb_kind l h) (own_device l h)

pub verb_small : (l : ℕ) → verb_of l < 5
unfolding verb_of
verb_small l = go (is_held l)
  where
    go : (b : Bool) → cond b held_verb (kind l) < 5
    go true = omega arith
    go false = omega (arith, kind_small l)

pub device_small_lem : (l : ℕ) → device_of l < 256
unfolding device_of
device_small_lem l = go (is_held l)
  where
    go : (b : Bool) → cond b (operand l - held_from) (operand l) < 256
    go true = omega (arith, operand_small l)
    go false = operand_small l

-- the parts give the line back
pub verb_parts : (l : ℕ) → pack_verb (job l) (verb_of l) (device_of l) ≡ l
unfolding pack_verb
verb_parts l = go (verbed l)
  where
    parts : {k o : ℕ} → kind l ≡ k → operand l ≡ o → pack (job l) k o ≡ l
    parts k o = rw (← k, ← o) (pack_parts l)

    go : Verbed l → pack_verb (job l) (verb_of l) (device_of l) ≡ l
    go (as_held h v k o) = rw v (parts k o)
    go (as_kind h v o) =
        rw (v, ne_eqb (kind l) held_verb (λ q. omega (arith, kind_small l))) (parts refl (sym o))

-- ---- the ranges of a line's parts

module _ (S : Settings) (v o : ℕ) where
  abbrev does : Bool
  does = eqb v 0 && leb o 255

  abbrev holding : Bool
  holding = eqb v held_verb && S.midday

  abbrev handles : Bool
  handles = (eqb v 1 || eqb v 2 || holding) && ltb o S.devices

  abbrev starting : Bool
  starting = eqb v 3 && (leb 2 o && leb o max_job)

  pub operand_fits_lem : operand_fits S v o ≡ true → Fits S v o
  unfolding operand_fits
  operand_fits_lem h = go (or_split (does || handles) starting h)
    where
      device : o < S.devices → ((eqb v 1 || eqb v 2) ≡ true) ⊎ (holding ≡ true) → Fits S v o
      device b (inr e) =
          let r = and_split (eqb v held_verb) S.midday e in of_held (eqb-true v held_verb r.0) r.1 b
      device b (inl e) = either (or_split (eqb v 1) (eqb v 2) e)
        where
          either : (eqb v 1 ≡ true) ⊎ (eqb v 2 ≡ true) → Fits S v o
          either (inl q) = of_device (inl (eqb-true v 1 q)) b
          either (inr q) = of_device (inr (eqb-true v 2 q)) b

      low : (does ≡ true) ⊎ (handles ≡ true) → Fits S v o
      low (inl e) = let r = and_split (eqb v 0) (leb o 255) e in of_do (eqb-true v 0 r.0) (leb-true o 255 r.1)
      low (inr e) =
          let r = and_split (eqb v 1 || eqb v 2 || holding) (ltb o S.devices) e in
          device (ltb-true o S.devices r.1) (or_split (eqb v 1 || eqb v 2) holding r.0)

      go : ((does || handles) ≡ true) ⊎ (starting ≡ true) → Fits S v o
      go (inl e) = low (or_split does handles e)
      go (inr e) =
          let r = and_split (eqb v 3) (leb 2 o && leb o max_job) e in
          let s = and_split (leb 2 o) (leb o max_job) r.1 in
          of_start (eqb-true v 3 r.0) (leb-true 2 o s.0) (leb-true o max_job s.1)

  on_board_lem : (eqb v 1 || eqb v 2 || holding) ≡ true → o < S.devices → operand_fits S v o ≡ true
  unfolding operand_fits
  on_board_lem e h =
      or_left (does || handles) starting
      (or_right does handles
      (and_both (eqb v 1 || eqb v 2 || holding) (ltb o S.devices) e (lt-ltb o S.devices h)))

  fits_operand : Fits S v o → operand_fits S v o ≡ true
  unfolding operand_fits
  fits_operand (of_do e h) =
      or_left (does || handles) starting
      (or_left does handles (and_both (eqb v 0) (leb o 255) (eq-eqb v 0 e) (le-leb o 255 h)))
  fits_operand (of_device e h) = on_board_lem (or_left (eqb v 1 || eqb v 2) holding (either e)) h
    where
      either : (v ≡ 1) ⊎ (v ≡ 2) → (eqb v 1 || eqb v 2) ≡ true
      either (inl q) = or_left (eqb v 1) (eqb v 2) (eq-eqb v 1 q)
      either (inr q) = or_right (eqb v 1) (eqb v 2) (eq-eqb v 2 q)
  fits_operand (of_held e m h) =
      on_board_lem
      (or_right (eqb v 1 || eqb v 2) holding (and_both (eqb v held_verb) S.midday (eq-eqb v held_verb e) m)) h
  fits_operand (of_start e h g) =
      or_right (does || handles) starting
      (and_both (eqb v 3) (leb 2 o && leb o max_job) (eq-eqb v 3 e)
      (and_both (leb 2 o) (leb o max_job) (le-leb 2 o h) (le-leb o max_job g)))

  -- each verb has its range, exactly
  pub operand_exactly : (operand_fits S v o ≡ true) ↔ Fits S v o
  operand_exactly = (operand_fits_lem, fits_operand)

pub fits_parts : (S : Settings) (j v o : ℕ) → line_fits S j v o ≡ true → (1 ≤ j) × (j ≤ max_job) × Fits S v o
unfolding line_fits
fits_parts S j v o h =
    let r = and_split (leb 1 j && leb j max_job) (operand_fits S v o) h in
    let s = and_split (leb 1 j) (leb j max_job) r.0 in
    (leb-true 1 j s.0, leb-true j max_job s.1, operand_fits_lem S v o r.1)

-- job, verb and operand are a line's exactly if job and operand are in their ranges
pub fits_exactly : (S : Settings) (j v o : ℕ) → (line_fits S j v o ≡ true) ↔ ((1 ≤ j) × (j ≤ max_job) × Fits S v o)
unfolding line_fits
fits_exactly S j v o = (fits_parts S j v o, from)
  where
    from : (1 ≤ j) × (j ≤ max_job) × Fits S v o → (leb 1 j && leb j max_job && operand_fits S v o) ≡ true
    from h =
        and_both (leb 1 j && leb j max_job) (operand_fits S v o)
        (and_both (leb 1 j) (leb j max_job) (le-leb 1 j h.0) (le-leb j max_job h.1)) (fits_operand S v o h.2)

-- a packed number that is a line's has a job
pub zero_no_line : (S : Settings) → is_line S 0 ≡ false
unfolding is_line
zero_no_line S = refl

pub line_parts : (S : Settings) (l : ℕ) → is_line S l ≡ true
    → (1 ≤ job l) × (job l ≤ max_job) × Fits S (verb_of l) (device_of l)
unfolding is_line
line_parts S l h = fits_parts S (job l) (verb_of l) (device_of l) h

-- and a packed number is a line's exactly if its parts are
pub line_exactly : (S : Settings) (l : ℕ)
    → (is_line S l ≡ true) ↔ ((1 ≤ job l) × (job l ≤ max_job) × Fits S (verb_of l) (device_of l))
unfolding is_line
line_exactly S l = fits_exactly S (job l) (verb_of l) (device_of l)

-- ---- what parts of a line make is that line

-- a number packed of a take or a give, of a device below 128, or of another kind, is not held
pub pack_no_held : (j k o : ℕ) → k < 4 → o < 256 → (k ≡ 1 → o < held_from) → is_held (pack j k o) ≡ false
unfolding is_held opens
pack_no_held j k o h g low = rw (kind_pack j k o h g, operand_pack j k o g) (go (test (eqb k 1)))
  where
    go : (eqb k 1 ≡ true) ⊎ (eqb k 1 ≡ false) → (eqb k 1 && leb held_from o) ≡ false
    go (inl e) = and_right (eqb k 1) (leb held_from o) (lt-leb held_from o (low (eqb-true k 1 e)))
    go (inr e) = and_left (eqb k 1) (leb held_from o) e

-- it gives job, verb and operand back
pub record Given (j v o l : ℕ) : Type 0 where
  pub of_job : job l ≡ j
  pub of_verb : verb_of l ≡ v
  pub named : device_of l ≡ o

given_kind : (j k o : ℕ) → k < 4 → o < 256 → (k ≡ 1 → o < held_from) → Given j k o (pack_verb j k o)
unfolding pack_verb
given_kind j k o h g low =
    let n = pack_no_held j k o h g low in
    rw (ne_eqb k held_verb (λ q. omega arith))
    (record {
      of_job = job_pack j k o h g;
      of_verb = verb_kind (pack j k o) n ∙ kind_pack j k o h g;
      named = own_device (pack j k o) n ∙ operand_pack j k o g;
    })

given_held : (j o : ℕ) → o < held_from → Given j held_verb o (pack_verb j held_verb o)
unfolding pack_verb is_held opens verb_of device_of
given_held j o g =
    let k = kind_pack j 1 (held_from + o) (omega arith) (omega arith) in
    let q = operand_pack j 1 (held_from + o) (omega arith) in
    let low = le-leb held_from (held_from + o) (omega arith) in
    record {
      of_job = job_pack j 1 (held_from + o) (omega arith) (omega arith);
      of_verb = rw (k, q, low);
      named = rw
          (k, q, low) (omega arith);
    }

pub pack_line : (S : Settings) → S.devices ≤ held_from → (j v o : ℕ) → line_fits S j v o ≡ true
    → Given j v o (pack_verb j v o) × (is_line S (pack_verb j v o) ≡ true)
unfolding is_line
pack_line S d j v o h =
    let g = go (fits_parts S j v o h).2 in
    (g, rw (g.of_job, g.of_verb, g.named) h)
  where
    go : Fits S v o → Given j v o (pack_verb j v o)
    go (of_do e b) = given_kind j v o (omega arith) (omega arith) (λ q. absurd (omega arith))
    go (of_device (inl e) b) = given_kind j v o (omega arith) (omega arith) (λ q. omega arith)
    go (of_device (inr e) b) = given_kind j v o (omega arith) (omega arith) (λ q. absurd (omega arith))
    go (of_held e m b) = rw e (given_held j o (omega arith))
    go (of_start e a b) = given_kind j v o (omega arith) (omega arith) (λ q. absurd (omega arith))

-- ---- what a line of a kind has

-- the device of a take, a held line or a give is on the board
pub device_line : (S : Settings) (l : ℕ) → is_line S l ≡ true → (opens l || is_give l) ≡ true → device_of l < S.devices
unfolding opens is_give
device_line S l h t = go (verbed l) (line_parts S l h).2 (or_split (eqb (kind l) 1) (eqb (kind l) 2) t)
  where
    of_kind : (kind l ≡ 1) ⊎ (kind l ≡ 2) → {v d : ℕ} → v ≡ kind l → Fits S v d → d < S.devices
    of_kind k q (of_device e b) = b
    of_kind (inl k) q (of_do e b) = absurd (omega arith)
    of_kind (inr k) q (of_do e b) = absurd (omega arith)
    of_kind k q (of_held e m b) = b
    of_kind (inl k) q (of_start e b c) = absurd (omega arith)
    of_kind (inr k) q (of_start e b c) = absurd (omega arith)

    of_held_lem : {v d : ℕ} → v ≡ held_verb → Fits S v d → d < S.devices
    of_held_lem q (of_do e b) = absurd (omega arith)
    of_held_lem q (of_device e b) = b
    of_held_lem q (of_held e m b) = b
    of_held_lem q (of_start e b c) = absurd (omega arith)

    kinds : (eqb (kind l) 1 ≡ true) ⊎ (eqb (kind l) 2 ≡ true) → (kind l ≡ 1) ⊎ (kind l ≡ 2)
    kinds (inl e) = inl (eqb-true (kind l) 1 e)
    kinds (inr e) = inr (eqb-true (kind l) 2 e)

    go : Verbed l → Fits S (verb_of l) (device_of l) → (eqb (kind l) 1 ≡ true) ⊎ (eqb (kind l) 2 ≡ true)
        → device_of l < S.devices
    go (as_held a v b c) f e = of_held_lem v f
    go (as_kind a v c) f e = of_kind (kinds e) v f

-- the operand of a start that is a line's is the number of a job that can be started
pub start_range : (S : Settings) (n : ℕ) → is_line S n ≡ true → kind n ≡ 3 → (2 ≤ operand n) × (operand n ≤ max_job)
start_range S n h e = go (verbed n) (line_parts S n h).2
  where
    job_number : {v o : ℕ} → v ≡ 3 → Fits S v o → (2 ≤ o) × (o ≤ max_job)
    job_number q (of_do k b) = absurd (omega arith)
    job_number q (of_device (inl k) b) = absurd (omega arith)
    job_number q (of_device (inr k) b) = absurd (omega arith)
    job_number q (of_held k m b) = absurd (omega arith)
    job_number q (of_start k a b) = (a, b)

    go : Verbed n → Fits S (verb_of n) (device_of n) → (2 ≤ operand n) × (operand n ≤ max_job)
    go (as_held a v b c) f = absurd (omega arith)
    go (as_kind a v c) f = rw (← c) (job_number (v ∙ e) f)

pub start_operand : (S : Settings) (n : ℕ) → is_line S n ≡ true → kind n ≡ 3 → operand n ≤ max_job
start_operand S n h e = (start_range S n h e).1

-- ---- plans of the morning

-- they have no held line
pub morning_line : (D l : ℕ) → is_line (morning D) l ≡ true → is_held l ≡ false
morning_line D l h = go (verbed l) (line_parts (morning D) l h).2
  where
    none_held : {v o : ℕ} → v ≡ held_verb → Fits (morning D) v o → is_held l ≡ false
    none_held q (of_do k b) = absurd (omega arith)
    none_held q (of_device (inl k) b) = absurd (omega arith)
    none_held q (of_device (inr k) b) = absurd (omega arith)
    none_held q (of_held k m b) = clash true refl (sym m)
    none_held q (of_start k a b) = absurd (omega arith)

    go : Verbed l → Fits (morning D) (verb_of l) (device_of l) → is_held l ≡ false
    go (as_held a v b c) f = none_held v f
    go (as_kind a v c) f = a

-- a line that is not held is one for either reader
pub line_either : (S T : Settings) → S.devices ≡ T.devices → (l : ℕ) → is_held l ≡ false → is_line S l ≡ true
    → is_line T l ≡ true
line_either S T e l n h =
    let r = line_parts S l h in (line_exactly T l).1 (r.0, r.1, go (verbed l) r.2)
  where
    of_kind : {v o : ℕ} → v < 4 → Fits S v o → Fits T v o
    of_kind q (of_do k b) = of_do k b
    of_kind q (of_device k b) = of_device k (rw (← e) b)
    of_kind q (of_held k m b) = absurd (omega arith)
    of_kind q (of_start k a b) = of_start k a b

    go : Verbed l → Fits S (verb_of l) (device_of l) → Fits T (verb_of l) (device_of l)
    go (as_held a v b c) f = clash (is_held l) a n
    go (as_kind a v c) f = of_kind (omega (arith, kind_small l)) f

-- ---- devices by the number alone

-- the device of a line that opens or gives is what its number leaves below 128
pub device_rest : (S : Settings) → S.devices ≤ held_from → (l : ℕ) → is_line S l ≡ true → (opens l || is_give l) ≡ true
    → l % held_from ≡ device_of l
unfolding operand
device_rest S d l h o = go (verbed l) (device_line S l h o)
  where
    go : Verbed l → device_of l < S.devices → l % held_from ≡ device_of l
    go (as_held a v b c) e = omega (arith, c)
    go (as_kind a v c) e = omega (arith, c)

-- 01, "The plan as text": the pieces of a line and of a plan, one behind another.
use Prim.Native.Nat.{ℕ, suc, ◌+◌, ◌-◌, ◌/◌, ◌%◌, ◌^◌, ◌≤◌, ◌<◌}
use mathlib.Core.Bool.{true, false}
use mathlib.Core.List.{List, [], ◌∷◌, ◌++◌, append_assoc}
use mathlib.Core.Logic.{◌⊎◌, inl, inr}
use mathlib.Core.Path.{◌≡◌, refl, sym, ◌∙◌, ap}
use native.Mathlib.Numerals.{add-one}
use native.Mathlib.Omega.{arith}
use mir.Val.{bool_byte}
use lib.Dec.{ltb}
use lib.ListN.{length, set, length-append, length-replicate}
use lib.Seq.{set-set}
use borrow.Author.Tests.{lt-ltb, le-ltb}
use Rattle.model.specs.Line.{job, verb_of, device_of}
use Rattle.model.specs.Text.{tab, newline, decimal, verb, tabbed, line_text}
use Rattle.theory.proofs.Line.{verb_small, device_small_lem}
use Rattle.theory.proofs.Numbers.{decimal_small, decimal_step}
use Rattle.theory.proofs.Tests.{le_or_lt}
use Rattle.fields.specs.Puts.{PutsAs, place_after}
use Rattle.fields.proofs.Putting.{kept, moves, put_run, put_one, put_over, put_both}
use Rattle.writing.specs.Verbs.{spare, Lays}
use Rattle.writing.proofs.Verbs.{row_of}

-- ---- a number of at most three digits

-- how many digits it has, as the code asks it, and which
data Small (n : ℕ) : Type 0 where
  one : ltb 99 n ≡ false → ltb 9 n ≡ false → decimal n ≡ (48 + n % 10) ∷ [] → Small n
  two : ltb 99 n ≡ false → ltb 9 n ≡ true → decimal n ≡ (48 + n / 10 % 10) ∷ (48 + n % 10) ∷ [] → Small n
  three : ltb 99 n ≡ true → ltb 9 n ≡ true
      → decimal n ≡ (48 + n / 100) ∷ (48 + n / 10 % 10) ∷ (48 + n % 10) ∷ [] → Small n

one_digit : (n : ℕ) → n < 10 → decimal n ≡ (48 + n % 10) ∷ []
one_digit n h = decimal_small n h ∙ ap (λ (x : ℕ). x ∷ []) (omega arith)

two_digits : (n : ℕ) → 10 ≤ n → n < 100 → decimal n ≡ (48 + n / 10 % 10) ∷ (48 + n % 10) ∷ []
two_digits n h g = decimal_step n h ∙ rw (one_digit (n / 10) (omega arith))

three_digits : (n : ℕ) → 100 ≤ n → n ≤ 255 → decimal n ≡ (48 + n / 100) ∷ (48 + n / 10 % 10) ∷ (48 + n % 10) ∷ []
three_digits n h g =
    decimal_step n (omega arith)
    ∙ rw (two_digits (n / 10) (omega arith) (omega arith))
    (ap (λ (x : ℕ). (48 + x) ∷ (48 + n / 10 % 10) ∷ (48 + n % 10) ∷ []) (omega arith))

small : (n : ℕ) → n ≤ 255 → Small n
small n h = go (le_or_lt 10 n) (le_or_lt 100 n)
  where
    go : (10 ≤ n) ⊎ (n < 10) → (100 ≤ n) ⊎ (n < 100) → Small n
    go (inr k) g = one (le-ltb 99 n (omega arith)) (le-ltb 9 n (omega arith)) (one_digit n k)
    go (inl k) (inr g) = two (le-ltb 99 n (omega arith)) (lt-ltb 9 n (omega arith)) (two_digits n k g)
    go (inl k) (inl g) = three (lt-ltb 99 n (omega arith)) (lt-ltb 9 n (omega arith)) (three_digits n g h)

pub digits_asked : (n : ℕ) → n ≤ 255 → bool_byte (ltb 99 n) + bool_byte (ltb 9 n) + 1 ≡ length (decimal n)
digits_asked n h = go (small n h)
  where
    go : Small n → bool_byte (ltb 99 n) + bool_byte (ltb 9 n) + 1 ≡ length (decimal n)
    go (one a b e) = rw (a, b, e)
    go (two a b e) = rw (a, b, e)
    go (three a b e) = rw (a, b, e)

-- the three stores: a nought in front is written over
module _ (n at : ℕ) (old : List ℕ) (h : n ≤ 255) (room : at + length (decimal n) ≤ length old) where
  pub put_three : PutsAs (decimal n) at old (at + bool_byte (ltb 99 n) + bool_byte (ltb 9 n) + 1)
      (set (set (set old at (48 + n / 100)) (at + bool_byte (ltb 99 n)) (48 + n / 10 % 10))
      (at + bool_byte (ltb 99 n) + bool_byte (ltb 9 n)) (48 + n % 10))
  put_three = go (small n h)
    where
      go : Small n → PutsAs (decimal n) at old (at + bool_byte (ltb 99 n) + bool_byte (ltb 9 n) + 1)
          (set (set (set old at (48 + n / 100)) (at + bool_byte (ltb 99 n)) (48 + n / 10 % 10))
          (at + bool_byte (ltb 99 n) + bool_byte (ltb 9 n)) (48 + n % 10))
      go (one a b e) =
          let p : at + bool_byte (ltb 99 n) ≡ at = rw a (omega arith) in
          let q : at + bool_byte (ltb 9 n) ≡ at = rw b (omega arith) in
          rw (e, p, q, set-set old at (48 + n / 100), set-set old at (48 + n / 10 % 10))
          (put_run ((48 + n % 10) ∷ []) at (at + 1) old (omega (arith, ap length e)) (omega arith))
      go (two a b e) =
          let p : at + bool_byte (ltb 99 n) ≡ at = rw a (omega arith) in
          rw (e, p, b, set-set old at (48 + n / 100), add-one at)
          (put_run ((48 + n / 10 % 10) ∷ (48 + n % 10) ∷ []) at (suc at + 1) old (omega (arith, ap length e))
          (omega arith))
      go (three a b e) =
          rw (e, a, b, add-one at, add-one (suc at))
          (put_run ((48 + n / 100) ∷ (48 + n / 10 % 10) ∷ (48 + n % 10) ∷ []) at (suc (suc at) + 1) old
          (omega (arith, ap length e)) (omega arith))

-- ---- a line

-- a line and its three parts, and room for it at a place
pub record Asked (l at : ℕ) (old : List ℕ) (j k o : ℕ) : Type 0 where
  pub short : job l ≤ 255
  pub bound : length old < 2 ^ 63
  pub room : at + length (line_text l) ≤ length old
  pub is_job : j ≡ job l
  pub is_verb : k ≡ verb_of l
  pub is_named : o ≡ device_of l

-- there is room for one byte more
abbrev pub More : ℕ → List ℕ → Type 0
More place made = (place < length made) × (place + 1 < 2 ^ 63)

-- how long the parts are
record Lengths (at : ℕ) (old : List ℕ) (j k o : ℕ) : Type 0 where
  pub all : at + length (decimal j) + length (verb k) + length (decimal o) + 3 ≤ length old
  pub low : 2 ≤ length (verb k)
  pub high : length (verb k) ≤ 5
  pub digit : 1 ≤ length (decimal o)

module _ {l at : ℕ} {old : List ℕ} {j k o : ℕ} (q : Asked l at old j k o) where
  pub verb_fits : k < 5
  verb_fits = rw q.is_verb (verb_small l)

  operand_short : o ≤ 255
  operand_short = omega (arith, q.is_named, device_small_lem l)

  whole : line_text l ≡ decimal j ++ (tab ∷ (verb k ++ (tab ∷ (decimal o ++ (newline ∷ [])))))
  unfolding line_text tabbed
  whole = rw (q.is_job, q.is_verb, q.is_named)

  lengths : Lengths at old j k o
  lengths =
      let n : length (line_text l) ≡ length (decimal j) + length (verb k) + length (decimal o) + 3 =
      ap length whole ∙ simp length-append (omega arith) in
      record {
        all = omega (arith, n, q.room);
        low = (row_of k verb_fits).low;
        high = (row_of k verb_fits).high;
        digit = omega (arith, digits_asked o operand_short);
      }

  pub job_asked : (j ≤ 255) × (at + length (decimal j) ≤ length old)
  job_asked = (omega (arith, q.short, q.is_job), omega (arith, lengths))

  -- the job
  module _ {a : ℕ} {m1 : List ℕ} (x : PutsAs (decimal j) at old a m1) where
    job_past : a ≡ at + length (decimal j)
    job_past = moves x job_asked.1

    pub tab_room : More a m1
    tab_room = omega (arith, lengths, job_past, kept x, q.bound)

    job_put : PutsAs (decimal j ++ (tab ∷ [])) at old (a + 1) (set m1 a tab)
    job_put =
        put_both x (put_one a tab m1 tab_room.0) (omega (arith, lengths, length-append (decimal j) (tab ∷ [])))

    pub verb_room : a + 1 + 5 ≤ length (set m1 a tab)
    verb_room = omega (arith, lengths, job_past, kept job_put)

    -- the verb, behind the job and its tab
    module _ {b : ℕ} {m3 : List ℕ} (z : Lays k (a + 1) (set m1 a tab) b m3) where
      row_put : PutsAs (verb k ++ spare (verb k)) (a + 1) (set m1 a tab)
          (place_after (length (set m1 a tab)) (a + 1) (length (verb k ++ spare (verb k)))) m3
      row_put = record { answers = refl; leaves = z.leaves }

      verb_past : (b ≡ at + length (decimal j) + 1 + length (verb k)) × (length m3 ≡ length old)
      verb_past = (omega (arith, z.answers, job_past), kept row_put ∙ kept job_put)

      pub tab2_room : More b m3
      tab2_room = omega (arith, lengths, verb_past, q.bound)

      tab2_put : PutsAs (tab ∷ []) b m3 (b + 1) (set m3 b tab)
      tab2_put = put_one b tab m3 tab2_room.0

      pub operand_asked : (o ≤ 255) × (b + 1 + length (decimal o) ≤ length (set m3 b tab))
      operand_asked = (operand_short, omega (arith, lengths, verb_past, kept tab2_put))

      -- the operand, behind the verb and its tab
      module _ {c : ℕ} {m5 : List ℕ} (v : PutsAs (decimal o) (b + 1) (set m3 b tab) c m5) where
        pub newline_room : More c m5
        newline_room = omega (arith, lengths, verb_past, kept tab2_put, kept v, moves v operand_asked.1, q.bound)

        -- all that is behind the verb
        abbrev rest : List ℕ
        rest = tab ∷ (decimal o ++ (newline ∷ []))

        rest_length : length rest ≡ length (decimal o) + 2
        rest_length = ap suc (length-append (decimal o) (newline ∷ [])) ∙ omega arith

        rest_put : PutsAs rest (a + 1 + length (verb k)) m3 (c + 1) (set m5 c newline)
        rest_put =
            let tail = put_both v (put_one c newline m5 newline_room.0)
            (omega (arith, lengths, verb_past, rest_length, kept tab2_put)) in
            rw z.answers at (put_both tab2_put tail (omega (arith, lengths, verb_past, rest_length)))

        verb_put : PutsAs (verb k ++ rest) (a + 1) (set m1 a tab) (c + 1) (set m5 c newline)
        verb_put =
            put_over (verb k) (spare (verb k)) row_put rest_put
            (omega (arith, lengths, rest_length, length-replicate {A = ℕ} (5 - length (verb k)) 0))
            (omega (arith, lengths, job_past, rest_length, kept job_put, length-append (verb k) rest))

        pub line_put : PutsAs (line_text l) at old (c + 1) (set m5 c newline)
        line_put =
            let e = append_assoc (decimal j) (tab ∷ []) (verb k ++ rest) ∙ sym whole in
            rw e at (put_both job_put verb_put (rw e q.room))

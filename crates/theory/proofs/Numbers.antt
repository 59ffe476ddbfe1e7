-- Decimal numbers: the text of a number reads as that number, and a text that reads as a number is that number's text.
-- So the job and the operand of a line have one spelling each, on which the round trips of `Text` rest. Also how many
-- digits a number has, and that a byte that is no digit, such as a tab or a newline, stands nowhere in its text.
use Prim.Native.Nat.{ℕ, zero, suc, ◌+◌, ◌-◌, ◌*◌, ◌/◌, ◌%◌, ◌≤◌, ◌<◌}
use mathlib.Core.Bool.{Bool, true, false, cond, not, ◌||◌}
use mathlib.Core.List.{List, [], ◌∷◌, ◌++◌, append-nil, append_assoc}
use mathlib.Core.Logic.{◌⊎◌, inl, inr}
use mathlib.Core.Option.{none, some, some-injective}
use mathlib.Core.Path.{◌≡◌, refl, sym, ◌∙◌, ap}
use native.Mathlib.Omega.{arith}
use lib.Dec.{eqb, leb}
use lib.ListN.{length, length-append}
use borrow.Author.Tests.{leb-true, le-leb, lt-ltb, le-ltb, eqb-true, eqb-false, ne_eqb, not-true}
use Rattle.model.specs.Lists.{all, has}
use Rattle.model.specs.Text.{is_digit, is_number, value_after, number, decimal_in, decimal}
use Rattle.theory.proofs.Tests.{clash, no_some, and_split, and_both, le_or_lt}

-- ---- digits

digit_range : (b : ℕ) → is_digit b ≡ true → (48 ≤ b) × (b ≤ 57)
unfolding is_digit
digit_range b h = let s = and_split (leb 48 b) (leb b 57) h in (leb-true 48 b s.0, leb-true b 57 s.1)

range_digit : (d : ℕ) → d < 10 → is_digit (48 + d) ≡ true
unfolding is_digit
range_digit d h = rw (le-leb 48 (48 + d) (omega arith), le-leb (48 + d) 57 (omega arith))

all_append : (f : ℕ → Bool) (xs ys : List ℕ) → all f xs ≡ true → all f ys ≡ true → all f (xs ++ ys) ≡ true
unfolding all
all_append f [] ys h g = g
all_append f (x ∷ xs) ys h g =
    let s = and_split (f x) (all f xs) h in and_both (f x) (all f (xs ++ ys)) s.0 (all_append f xs ys s.1 g)

-- ---- the text of a number, from its first digits and its last

-- one digit, or the digits of a tenth and one more
decimal_in_small : (f n : ℕ) → n < 10 → n ≤ f → decimal_in f n ≡ (48 + n) ∷ []
unfolding decimal_in
decimal_in_small zero n h g = ap (λ (x : ℕ). x ∷ []) (omega arith)
decimal_in_small (suc f) n h g = rw (lt-ltb n 10 h, decimal_in)

decimal_in_step : (f n : ℕ) → 10 ≤ n → decimal_in (suc f) n ≡ decimal_in f (n / 10) ++ ((48 + n % 10) ∷ [])
unfolding decimal_in
decimal_in_step f n h = rw (le-ltb n 10 h, decimal_in)

-- more steps change nothing
decimal_in_enough : (f g n : ℕ) → n ≤ f → n ≤ g → decimal_in f n ≡ decimal_in g n
decimal_in_enough zero g n h k = decimal_in_small 0 n (omega arith) h ∙ sym (decimal_in_small g n (omega arith) k)
decimal_in_enough (suc f) g n h k = go g k (le_or_lt 10 n) (λ g l. decimal_in_enough f g (n / 10) (omega arith) l)
  where
    go : (g : ℕ) → n ≤ g → (10 ≤ n) ⊎ (n < 10) → ((g : ℕ) → n / 10 ≤ g → decimal_in f (n / 10) ≡ decimal_in g (n / 10))
        → decimal_in (suc f) n ≡ decimal_in g n
    go g k (inr l) ih = decimal_in_small (suc f) n l h ∙ sym (decimal_in_small g n l k)
    go zero k (inl l) ih = absurd (omega arith)
    go (suc g) k (inl l) ih =
        decimal_in_step f n l ∙ (rw (ih g (omega arith)) (sym (decimal_in_step g n l)))

pub decimal_small : (n : ℕ) → n < 10 → decimal n ≡ (48 + n) ∷ []
unfolding decimal
decimal_small n h = decimal_in_small n n h (omega arith)

pub decimal_step : (n : ℕ) → 10 ≤ n → decimal n ≡ decimal (n / 10) ++ ((48 + n % 10) ∷ [])
unfolding decimal
decimal_step zero h = absurd (omega arith)
decimal_step (suc n) h =
    decimal_in_step n (suc n) h
    ∙ rw (decimal_in_enough n (suc n / 10) (suc n / 10) (omega arith) (omega arith))

-- what holds of the numbers below 10, and of a number where it holds of its tenth, holds of all
by_tenths : (P : ℕ → Type 0) → ((n : ℕ) → n < 10 → P n) → ((n : ℕ) → 10 ≤ n → P (n / 10) → P n) → (n : ℕ) → P n
by_tenths P small step n = below n n (omega arith)
  where
    below : (f n : ℕ) → n ≤ f → P n
    below zero n h = small n (omega arith)
    below (suc f) n h = go (le_or_lt 10 n) (λ l. below f (n / 10) (omega arith))
      where
        go : (10 ≤ n) ⊎ (n < 10) → (10 ≤ n → P (n / 10)) → P n
        go (inl l) ih = step n l (ih l)
        go (inr l) ih = small n l

-- ---- digits alone, and how many

pub decimal_digits : (n : ℕ) → all is_digit (decimal n) ≡ true
unfolding all
decimal_digits = by_tenths (λ n. all is_digit (decimal n) ≡ true) small step
  where
    small : (n : ℕ) → n < 10 → all is_digit (decimal n) ≡ true
    small n h = rw (decimal_small n h, range_digit n h)

    step : (n : ℕ) → 10 ≤ n → all is_digit (decimal (n / 10)) ≡ true → all is_digit (decimal n) ≡ true
    step n h ih =
        rw (decimal_step n h)
        (all_append is_digit (decimal (n / 10)) ((48 + n % 10) ∷ []) ih (rw (range_digit (n % 10) (omega arith))))

pub digits_one : (n : ℕ) → n < 10 → length (decimal n) ≡ 1
digits_one n h = rw (decimal_small n h)

-- at most one digit more than a tenth
digits_more : (n k : ℕ) → length (decimal (n / 10)) ≤ k → length (decimal n) ≤ suc k
digits_more n k h = go (le_or_lt 10 n)
  where
    go : (10 ≤ n) ⊎ (n < 10) → length (decimal n) ≤ suc k
    go (inl l) = rw (decimal_step n l, length-append) (omega arith)
    go (inr l) = omega (arith, digits_one n l)

pub digits_two : (n : ℕ) → n < 100 → length (decimal n) ≤ 2
digits_two n h = digits_more n 1 (omega (arith, digits_one (n / 10) (omega arith)))

pub digits_three : (n : ℕ) → n < 1000 → length (decimal n) ≤ 3
digits_three n h = digits_more n 2 (digits_two (n / 10) (omega arith))

pub digits_four : (n : ℕ) → n < 10000 → length (decimal n) ≤ 4
digits_four n h = digits_more n 3 (digits_three (n / 10) (omega arith))

-- a byte that is no digit stands nowhere in a number
pub no_digit : (b : ℕ) → is_digit b ≡ false → (s : List ℕ) → all is_digit s ≡ true → has b s ≡ false
unfolding has all
no_digit b h [] g = refl
no_digit b h (x ∷ s) g =
    let r = and_split (is_digit x) (all is_digit s) g in go (eqb b x) refl r.0 (no_digit b h s r.1)
  where
    go : (t : Bool) → eqb b x ≡ t → is_digit x ≡ true → has b s ≡ false → (t || has b s) ≡ false
    go true e d ih = clash (is_digit b) (rw (eqb-true b x e) d) h
    go false e d ih = ih

-- ---- the value of a text, and that it is a number

-- a text that begins, and not with the digit 0, as the text of a number other than 0 does
unpadded : List ℕ → Bool
unpadded [] = false
unpadded (b ∷ s) = not (eqb b 48)

value_snoc : (v b : ℕ) (s : List ℕ) → value_after v (s ++ (b ∷ [])) ≡ value_after v s * 10 + (b - 48)
unfolding value_after
value_snoc v b [] = refl
value_snoc v b (x ∷ s) = value_snoc (v * 10 + (x - 48)) b s

decimal_value : (n : ℕ) → value_after 0 (decimal n) ≡ n
unfolding value_after
decimal_value = by_tenths (λ n. value_after 0 (decimal n) ≡ n) small step
  where
    small : (n : ℕ) → n < 10 → value_after 0 (decimal n) ≡ n
    small n h = rw (decimal_small n h) (omega arith)

    step : (n : ℕ) → 10 ≤ n → value_after 0 (decimal (n / 10)) ≡ n / 10 → value_after 0 (decimal n) ≡ n
    step n h ih = rw (decimal_step n h, value_snoc, ih) (omega arith)

unpadded_append : (s t : List ℕ) → unpadded s ≡ true → unpadded (s ++ t) ≡ true
unfolding unpadded
unpadded_append [] t h = clash false h refl
unpadded_append (x ∷ s) t h = h

decimal_unpadded : (n : ℕ) → 1 ≤ n → unpadded (decimal n) ≡ true
unfolding unpadded
decimal_unpadded = by_tenths (λ n. 1 ≤ n → unpadded (decimal n) ≡ true) small step
  where
    small : (n : ℕ) → n < 10 → 1 ≤ n → unpadded (decimal n) ≡ true
    small n h l = rw (decimal_small n h, ne_eqb (48 + n) 48 (λ e. omega arith))

    step : (n : ℕ) → 10 ≤ n → (1 ≤ n / 10 → unpadded (decimal (n / 10)) ≡ true) → 1 ≤ n → unpadded (decimal n) ≡ true
    step n h ih l = rw (decimal_step n h) (unpadded_append (decimal (n / 10)) ((48 + n % 10) ∷ []) (ih (omega arith)))

unpadded_number : (s : List ℕ) → unpadded s ≡ true → all is_digit s ≡ true → is_number s ≡ true
unfolding unpadded is_number all
unpadded_number [] f h = clash false f refl
unpadded_number (b ∷ []) f h = (and_split (is_digit b) true h).0
unpadded_number (b ∷ c ∷ s) f h = and_both (not (eqb b 48)) (all is_digit (b ∷ c ∷ s)) f h

-- ---- the text of a value

decimal_after : (v : ℕ) (s : List ℕ) → 1 ≤ v → all is_digit s ≡ true → decimal (value_after v s) ≡ decimal v ++ s
unfolding value_after all
decimal_after v [] h d = sym (append-nil (decimal v))
decimal_after v (b ∷ s) h d =
    let r = and_split (is_digit b) (all is_digit s) d in
    decimal_after (v * 10 + (b - 48)) s (omega arith) r.1 ∙ step (digit_range b r.0)
  where
    step : (48 ≤ b) × (b ≤ 57) → decimal (v * 10 + (b - 48)) ++ s ≡ decimal v ++ (b ∷ s)
    step l =
        let w : ℕ = v * 10 + (b - 48) in
        let tenth : w / 10 ≡ v = omega arith in
        let last : 48 + w % 10 ≡ b = omega arith in
        rw (decimal_step w (omega arith), tenth, last, append_assoc)

decimal_whole : (s : List ℕ) → is_number s ≡ true → decimal (value_after 0 s) ≡ s
unfolding is_number value_after all
decimal_whole [] h = clash false h refl
decimal_whole (b ∷ []) h = one (digit_range b h)
  where
    one : (48 ≤ b) × (b ≤ 57) → decimal (0 * 10 + (b - 48)) ≡ b ∷ []
    one r = decimal_small (0 * 10 + (b - 48)) (omega arith) ∙ ap (λ (x : ℕ). x ∷ []) (omega arith)
decimal_whole (b ∷ c ∷ s) h =
    let t = and_split (not (eqb b 48)) (all is_digit (b ∷ c ∷ s)) h in
    let u = and_split (is_digit b) (all is_digit (c ∷ s)) t.1 in
    more (eqb-false b 48 (not-true (eqb b 48) t.0)) (digit_range b u.0) u.1
  where
    more : (b ≡ 48 → ⊥) → (48 ≤ b) × (b ≤ 57) → all is_digit (c ∷ s) ≡ true
        → decimal (value_after (0 * 10 + (b - 48)) (c ∷ s)) ≡ b ∷ c ∷ s
    more ne r d =
        decimal_after (0 * 10 + (b - 48)) (c ∷ s) (omega (arith, ne)) d
        ∙ (rw (decimal_small (0 * 10 + (b - 48)) (omega arith)) (ap (λ (x : ℕ). x ∷ c ∷ s) (omega arith)))

-- ---- the two ways round

pub number_decimal : (n : ℕ) → number (decimal n) ≡ some n
unfolding number
number_decimal n = rw (is_number_lem n, decimal_value n)
  where
    is_number_lem : (n : ℕ) → is_number (decimal n) ≡ true
    is_number_lem zero = rw (decimal_small 0 (omega arith))
    is_number_lem (suc n) =
        unpadded_number (decimal (suc n)) (decimal_unpadded (suc n) (omega arith)) (decimal_digits (suc n))

pub decimal_number : (s : List ℕ) (n : ℕ) → number s ≡ some n → decimal n ≡ s
unfolding number
decimal_number s n e = go (is_number s) refl e
  where
    go : (t : Bool) → is_number s ≡ t → cond t (some (value_after 0 s)) none ≡ some n → decimal n ≡ s
    go true h e = ap decimal (sym (some-injective (value_after 0 s) n e)) ∙ decimal_whole s h
    go false h e = no_some e

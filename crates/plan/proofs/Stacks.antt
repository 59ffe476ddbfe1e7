-- The stack of the devices held: what a do, a take and a give leave of it, and which case of `rule_of` the code's one
-- test picks.
use Rattle.std.proofs.Common.{◌≡◌, ℕ, zero, suc, ◌+◌, ◌-◌, ◌^◌, ◌<◌, ◌≤◌, Bool, true, false, cond, not, ◌&&◌, eqb, ◌⊎◌}
use Rattle.std.proofs.Common.{List, ◌∷◌, length, get_or, set, sym, refl, ap, ◌∙◌, inl, inr, add-one, arith}
use Rattle.std.proofs.Common.{get_or-set_other, get_or-set_same, eq-eqb, ne_eqb, eqb-true}
use mathlib.Core.List.{tail}
use borrow.Author.Tests.{not-true, not-false}
use Rattle.model.specs.Board.{devices, board_at}
use Rattle.model.specs.Line.{opens, is_give, is_start, is_line, line_number, max_lines}
use Rattle.model.specs.Sets.{empty, member}
use Rattle.model.specs.WellFormed.{is_last}
use Rattle.model.specs.declared.Refusal.TheVariants.{GiveWithoutTake}
use Rattle.line.specs.Device.{device_bits}
use Rattle.sets.specs.Both.{without}
use Rattle.sets.specs.Only.{only_of}
use Rattle.sets.proofs.Members.{member_only_of, only_of_below, member_without, without_below}
use Rattle.theory.proofs.Line.{device_line, device_rest, opens_no_give}
use Rattle.theory.proofs.Sets.{member_empty, empty_below, same_members}
use Rattle.theory.proofs.Tests.{clash, test, falsely, tests_agree, or_right, and_split, and_second}
use Rattle.plan.specs.Walk.{misgiven, on, bad, rule_of, held_in, Stack, depth_after}

-- ---- a store above what is held

pub length_held : (depth : ℕ) (stack : List ℕ) → length (held_in depth stack) ≡ depth
unfolding held_in
length_held zero stack = refl
length_held (suc depth) stack = ap suc (length_held depth stack)

module _ (stack : List ℕ) (v : ℕ) where
  below : (e depth : ℕ) → e ≤ depth → held_in e (set stack (suc depth) v) ≡ held_in e stack
  unfolding held_in
  below zero depth k = refl
  below (suc e) depth k =
      rw (get_or-set_other stack (suc depth) (suc e) v 0 (λ q. omega arith), below e depth (omega arith))

  pushed : (depth : ℕ) → suc depth < length stack → held_in (suc depth) (set stack (suc depth) v) ≡ v ∷ held_in depth
      stack
  unfolding held_in
  pushed depth h = rw (get_or-set_same stack (suc depth) v 0 h, below depth depth (omega arith))

  -- a give of the device on top
  popped : (depth o : ℕ) → is_last o (held_in depth stack) ≡ true
      → held_in (depth - 1) (set stack (suc depth) v) ≡ tail (held_in depth stack)
  unfolding held_in is_last
  popped zero o e = clash false e refl
  popped (suc depth) o e =
      let q : suc depth - 1 ≡ depth = omega arith in rw q (below depth (suc depth) (omega arith))

-- ---- the code's test

-- the latest, at the top of the stack; place 0 has no device's number
is_latest : (depth o : ℕ) (stack : List ℕ) → Stack stack → o < devices
    → eqb (get_or stack depth 0) o ≡ is_last o (held_in depth stack)
unfolding is_last held_in
is_latest zero o stack h b = ne_eqb (get_or stack 0 0) o (λ q. omega (arith, h.floor))
is_latest (suc depth) o stack h b =
    let x = get_or stack (suc depth) 0 in
    tests_agree (eqb x o) (eqb o x) (λ e. eq-eqb o x (sym (eqb-true x o e))) (λ e. eq-eqb x o (sym (eqb-true o x e)))

-- a set without another is empty, if the other has all its devices
all_out : (s t : ℕ) → s < 2 ^ devices → ((d : ℕ) → d < devices → (member s d && not (member t d)) ≡ false)
    → without s t ≡ empty
all_out s t h f =
    same_members devices (without s t) empty (without_below devices s t h) (empty_below devices)
    (λ d l. member_without s t d ∙ f d l ∙ sym (member_empty d))

-- a device is in the set of itself, and of no other
given_known : (g : Bool) (o latest : ℕ) → (g ≡ true → o < devices)
    → not (eqb (without (cond g (only_of devices o) empty) (only_of devices latest)) empty)
    ≡ (g && not (eqb latest o))
given_known false o latest h =
    rw (eq-eqb (without empty (only_of devices latest)) empty
    (all_out empty (only_of devices latest) (empty_below devices) (λ d l. rw (member_empty d))))
given_known true o latest h = go (test (eqb latest o))
  where
    go : (eqb latest o ≡ true) ⊎ (eqb latest o ≡ false)
        → not (eqb (without (only_of devices o) (only_of devices latest)) empty) ≡ not (eqb latest o)
    go (inl e) =
        rw (
          e,
          eqb-true latest o e,
          eq-eqb (without (only_of devices o) (only_of devices o)) empty
              (all_out (only_of devices o) (only_of devices o) (only_of_below devices o)
              (λ d l. none (member (only_of devices o) d))),
        )
      where
        none : (b : Bool) → (b && not b) ≡ false
        none true = refl
        none false = refl
    go (inr e) =
        let there : member (without (only_of devices o) (only_of devices latest)) o ≡ true =
        member_without (only_of devices o) (only_of devices latest) o
        ∙ rw (member_only_of devices o o (h refl), member_only_of devices latest o (h refl), eq-eqb o o refl, e) in
        rw (
          e,
          ne_eqb (without (only_of devices o) (only_of devices latest)) empty
              (λ q. clash (member (without (only_of devices o) (only_of devices latest)) o) there
              (ap (λ (x : ℕ). member x o) q ∙ member_empty o)),
        )

module _ (n depth : ℕ) (stack : List ℕ) (h : Stack stack) (line : is_line (board_at true) n ≡ true) where
  device : is_give n ≡ true → device_bits n < devices
  device e =
      let g = or_right (opens n) (is_give n) e in
      omega (arith, device_rest (board_at true) (omega arith) n line g, device_line (board_at true) n line g)

  abbrev wrong : Bool
  wrong = misgiven n (get_or stack depth 0)

  wrong_is : wrong ≡ (is_give n && not (eqb (get_or stack depth 0) (device_bits n)))
  wrong_is = given_known (is_give n) (device_bits n) (get_or stack depth 0) device

  pub wrongly_given : (i : ℕ) → wrong ≡ true → (first starter : List ℕ)
      → bad (GiveWithoutTake (i + 1)) ≡ rule_of i n (held_in depth stack) first starter
  unfolding rule_of line_number
  wrongly_given i t first starter =
      let s = and_split (is_give n) (not (eqb (get_or stack depth 0) (device_bits n))) (sym wrong_is ∙ t) in
      let e = falsely (opens n) (λ e. clash (is_give n) s.0 (opens_no_give n e)) in
      let m = sym (is_latest depth (device_bits n) stack h (device s.0))
      ∙ not-true (eqb (get_or stack depth 0) (device_bits n)) s.1 in
      rw (e, s.0, m, add-one)

  module _ (room : depth < max_lines) (t : wrong ≡ false) where
    given : is_give n ≡ true → is_last (device_bits n) (held_in depth stack) ≡ true
    given g =
        sym (is_latest depth (device_bits n) stack h (device g))
        ∙ not-false (eqb (get_or stack depth 0) (device_bits n))
        (and_second (is_give n) (not (eqb (get_or stack depth 0) (device_bits n))) g (sym wrong_is ∙ t))

    pub given_deep : is_give n ≡ true → 1 ≤ depth
    unfolding is_last held_in
    given_deep g = go depth (given g)
      where
        go : (depth : ℕ) → is_last (device_bits n) (held_in depth stack) ≡ true → 1 ≤ depth
        go zero e = clash false e refl
        go (suc depth) e = omega arith

    -- what a line that breaks nothing leaves
    pub left_held : (i : ℕ) → is_start n ≡ false → (first starter : List ℕ)
        → on (held_in (depth_after n depth) (set stack (depth + 1) (device_bits n))) first starter
        ≡ rule_of i n (held_in depth stack) first starter
    unfolding rule_of
    left_held i s first starter = go (test (opens n)) (test (is_give n))
      where
        go : (opens n ≡ true) ⊎ (opens n ≡ false) → (is_give n ≡ true) ⊎ (is_give n ≡ false)
            → on (held_in (depth_after n depth) (set stack (depth + 1) (device_bits n))) first starter
            ≡ rule_of i n (held_in depth stack) first starter
        go (inl e) g = rw (e, add-one, pushed stack (device_bits n) depth (omega (arith, h.long)))
        go (inr e) (inl g) = rw (e, g, given g, add-one, popped stack (device_bits n) depth (device_bits n) (given g))
        go (inr e) (inr g) = rw (e, g, s, add-one, below stack (device_bits n) depth depth (omega arith))

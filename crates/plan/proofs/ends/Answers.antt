-- `plan::ends` meets its contract: job by job, by the laws of `LastTests`.
use Rattle.std.proofs.Common.{◌≡◌, ℕ, suc, ◌+◌, ◌<◌, min, List, length, drop, get_or, take, ◌∙◌, ap, rules, arith}
use Rattle.std.proofs.lemmas.List.{length-take, length-drop, get_or-take, get_or-drop, length_push}
use Rattle.std.proofs.lemmas.Slice.Zip.{zip_turn, zip_end}
use borrow.Rule.Slice.PartMut.{mid_of}
use Rattle.model.specs.Line.{max_job}
use Rattle.plan.specs.Ends.{lower_of, earlier_of}
use Rattle.plan.proofs.LastTests.{Low, Never, low_start, never_start, low_on, never_on, told_5, told_6, told_none}
use Rattle.plan.proofs.ends.Goals as goal

-- the entries from job 2 on
part : (xs : List ℕ) → mid_of 2 63 xs ≡ take 63 (drop 2 xs)
part xs = search rules

part_long : (xs : List ℕ) → length xs ≡ suc max_job → length (mid_of 2 63 xs) ≡ 63
part_long xs l =
    let e = length-take 63 (drop 2 xs) in
    let d = length-drop 2 xs in
    rw part (omega arith)

entry : (xs : List ℕ) (k x : ℕ) → length xs ≡ suc max_job → k < length (mid_of 2 63 xs)
    → x ≡ get_or (mid_of 2 63 xs) k 0 → x ≡ get_or xs (k + 2) 0
entry xs k x l h e =
    e ∙ rw (part xs, get_or-take 63 (drop 2 xs) k 0 (omega (arith, part_long xs l)), get_or-drop 2 xs k 0)
    (ap (λ (i : ℕ). get_or xs i 0) (omega arith))

-- job k + 2 comes up
module _ (first starter : List ℕ) (k : ℕ) (h : k < 63) where
  one_more : k + 1 + 2 ≡ k + 2 + 1
  one_more = omega arith

  next_low : (m : ℕ) → Low first starter (k + 2) m
      → Low first starter (k + 1 + 2) (lower_of m (get_or first (k + 2) 0) (get_or starter (k + 2) 0))
  next_low m x = rw one_more (low_on first starter (k + 2) (omega arith) (omega arith) m x)

  next_never : (m : ℕ) → Never first starter (k + 2) m
      → Never first starter (k + 1 + 2) (earlier_of m (get_or first (k + 2) 0) (get_or starter (k + 2) 0))
  next_never m x = rw one_more (never_on first starter (k + 2) (omega arith) (omega arith) m x)

pub loop-first-init : goal.loop-first-init
loop-first-init c = (low_start _ _, never_start _ _)

pub loop-first-preserved : goal.loop-first-preserved
loop-first-preserved c =
    let n = c.args.notes.now in
    let l = c.loop-first in
    let t = zip_turn (mid_of 2 63 n.first) (mid_of 2 63 n.starter) l.yielded _ l.first-iterator c.next.new.self
    c.next.result (cc) (cc) l.yielded_by _ c.in-Some.is c.next.ensures.steps in
    let f = entry n.first (length l.yielded) _ (search rules) t.0 (t.2 0) in
    let s = entry n.starter (length l.yielded) _ (search rules) t.1 (t.3 0) in
    let b : length l.yielded < 63 = omega (arith, t.0, part_long n.first (search rules)) in
    rw (length_push, c.lower-empty.ensures, c.earlier-never.ensures, f, s) (
      next_low n.first n.starter (length l.yielded) b l.empty l.invariant.0,
      next_never n.first n.starter (length l.yielded) b l.never l.invariant.1,
    )

-- past the last job
passed : (xs ys : List ℕ) (k : ℕ) → length xs ≡ suc max_job → length ys ≡ suc max_job
    → k ≡ min (length (mid_of 2 63 xs)) (length (mid_of 2 63 ys)) → k + 2 ≡ suc max_job
passed xs ys k a b e = omega (arith, part_long xs a, part_long ys b)

-- 5
pub returns-then-empty-ne0 : goal.returns-then-empty-ne0
returns-then-empty-ne0 c =
    let n = c.args.notes.now in
    let l = c.loop-first in
    let t = zip_end (mid_of 2 63 n.first) (mid_of 2 63 n.starter) l.yielded _ l.first-iterator c.next.new.self
    c.next.result (cc) (cc) l.yielded_by c.in-None.is c.next.ensures.steps in
    let p = passed n.first n.starter (length l.yielded) (search rules) (search rules) t in
    told_5 c.args.midday n.first n.starter l.empty (rw p at l.invariant.0) c.if-empty-ne0.true

-- 6
pub returns-then-never-midday : goal.returns-then-never-midday
returns-then-never-midday c =
    let n = c.args.notes.now in
    let l = c.loop-first in
    let t = zip_end (mid_of 2 63 n.first) (mid_of 2 63 n.starter) l.yielded _ l.first-iterator c.next.new.self
    c.next.result (cc) (cc) l.yielded_by c.in-None.is c.next.ensures.steps in
    let p = passed n.first n.starter (length l.yielded) (search rules) (search rules) t in
    told_6 c.args.midday n.first n.starter l.empty l.never (rw p at l.invariant.0) c.if-empty-ne0.false
    (rw p at l.invariant.1) c.if-never-midday.true

-- neither
pub returns : goal.returns
returns c =
    let n = c.args.notes.now in
    let l = c.loop-first in
    let t = zip_end (mid_of 2 63 n.first) (mid_of 2 63 n.starter) l.yielded _ l.first-iterator c.next.new.self
    c.next.result (cc) (cc) l.yielded_by c.in-None.is c.next.ensures.steps in
    let p = passed n.first n.starter (length l.yielded) (search rules) (search rules) t in
    told_none c.args.midday n.first n.starter l.empty l.never (rw p at l.invariant.0) c.if-empty-ne0.false
    (rw p at l.invariant.1) c.if-never-midday.false

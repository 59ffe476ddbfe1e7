-- `fields::put_word` meets its contract: where the word fits, its bytes stand at the place.
use Rattle.std.proofs.Common.{length, length-drop, length-take, take, drop, arith, ◌≤◌, ◌≡◌, ◌+◌, ◌-◌, List, ℕ}
use borrow.Author.Rules.{rules}
use Rattle.std.proofs.lemmas.Slice.{overwrites}
use Rattle.fields.proofs.Putting.{fits, put, unput}
use Rattle.fields.proofs.put_word.Goals as goal

pub slice_bounds-copy_from_slice-count : goal.slice_bounds-copy_from_slice-count
slice_bounds-copy_from_slice-count c =
    let f = fits _ _ _ _ c.place_after-past.ensures c.if-past-out.true in omega arith

pub slice_bounds-copy_from_slice-start : goal.slice_bounds-copy_from_slice-start
slice_bounds-copy_from_slice-start c =
    let f = fits _ _ _ _ c.place_after-past.ensures c.if-past-out.true in omega arith

part : (s : List ℕ) (at count past : ℕ) → at + count ≤ length s → past ≡ at + count
    → length (take (past - at) (drop at s)) ≡ count
part s at count past h e = omega (arith, length-take {A = ℕ}, length-drop {A = ℕ})

pub copy_from_slice-requires : goal.copy_from_slice-requires
copy_from_slice-requires c =
    let f = fits _ _ _ _ c.place_after-past.ensures c.if-past-out.true in part _ _ _ _ f.0 f.1

pub returns-then-past-out : goal.returns-then-past-out
returns-then-past-out c =
    let f = fits _ _ _ _ c.place_after-past.ensures c.if-past-out.true in
    put (record { room = f.0; moved = f.1; leaves = search (rules, overwrites) })

pub returns-else-past-out : goal.returns-else-past-out
returns-else-past-out c = unput c.place_after-past.ensures c.if-past-out.false

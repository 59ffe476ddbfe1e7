-- `sets::one_if` meets its contract: by the laws of a word, the flag is shifted.
use mathlib.Core.Path.{◌∙◌, ap}
use Prim.Native.Nat.{ℕ, ◌*◌, ◌%◌, ◌^◌}
use Rattle.sets.proofs.Members.{shifted_flag}
use Rattle.sets.proofs.one_if.Goals as goal

pub returns : goal.returns
returns g c =
    let a = c.args in
    let D = g.W.Word.BITS in
    (rw c.BITS-2.ensures at (g.met.W.Word.shift_law _ _ _ c.shl.ensures))
    ∙ ap (λ (x : ℕ). x * 2 ^ (a.d % D) % 2 ^ D) (rw c.BITS.ensures at (g.met.W.Word.flag_law _ _ c.from.ensures))
    ∙ shifted_flag D a.put a.d

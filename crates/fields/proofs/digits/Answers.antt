-- `fields::digits` meets its contract: a number has one digit more than its logarithm, and nought, which has none, one.
use Rattle.std.proofs.Common.{ℕ, ◌+◌, ◌*◌, ◌^◌, ◌≤◌, ◌<◌, ◌≡◌, Option, Some, None, IfNone, IfSome, length, sym, arith}
use Rattle.std.specs.Option.{unwrap_or}
use Rattle.model.specs.Text.{decimal}
use Rattle.theory.proofs.Numbers.{digits_one}
use Rattle.fields.proofs.LastDigits.{digits_log}
use Rattle.fields.proofs.digits.Goals as goal

counted : (n : ℕ) (log : Option ℕ) → IfNone log (n ≡ 0) → IfSome log (λ k. 10 ^ k ≤ n)
    → IfSome log (λ k. n < 10 * 10 ^ k) → unwrap_or log 0 + 1 ≡ length (decimal n)
counted n None nought low high = omega (arith, digits_one n (omega arith))
counted n (Some k) nought low high = sym (digits_log k n low high)

pub returns-clause-count : goal.returns-clause-count
returns-clause-count c =
    rw c.unwrap_or.ensures
    (counted _ _ c.checked_ilog10.ensures.none c.checked_ilog10.ensures.power_le
    c.checked_ilog10.ensures.next_power_gt)

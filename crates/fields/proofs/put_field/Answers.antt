-- `fields::put_field` meets its contract: the digits and the byte behind them, where there is room for both.
use Rattle.std.proofs.Common.{◌≡◌, ◌∙◌, ℕ, [], ◌∷◌, ◌++◌, ◌+◌, ap, length, length-append, arith}
use Rattle.model.specs.Text.{decimal}
use Rattle.fields.specs.Puts.{place_after}
use Rattle.fields.proofs.Putting.{fits, unput, put_both}
use Rattle.fields.proofs.put_field.Goals as goal

-- the place past both
both : (room at n end digits past : ℕ) → digits ≡ length (decimal n) → past ≡ place_after room at (digits + 1)
    → past ≡ place_after room at (length (decimal n ++ (end ∷ [])))
both room at n end digits past d p = p ∙ ap (place_after room at) (omega (arith, length-append (decimal n) (end ∷ [])))

pub returns-then-out-past : goal.returns-then-out-past
returns-then-out-past c =
    unput (both _ _ _ _ _ _ c.digits.ensures.count c.place_after-past.ensures) c.if-out-past.true

pub returns : goal.returns
returns c =
    put_both c.put_number-b.ensures c.put_byte.ensures
    (fits _ _ _ _ (both _ _ _ _ _ _ c.digits.ensures.count c.place_after-past.ensures) c.if-out-past.false).0

-- How tight a contract is that is an equation, r ≡ what the inputs make of it (01, "How tight the statements are"): it
-- leaves one outcome. One law for every such function, whatever it returns or leaves in a list.
use mathlib.Core.Path.{◌≡◌, sym, ◌∙◌}

pub one_value : {A : Type 0} (value r s : A) → r ≡ value → s ≡ value → r ≡ s
one_value value r s p q = p ∙ sym q

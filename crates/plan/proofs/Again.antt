-- What the flags tell of a line (02, request 2): the line as it counts, as the code makes it of its number and its
-- flag.
use Rattle.std.proofs.Common.{◌≡◌, ℕ, ◌<◌, Bool, true, false, cond, eqb, List, length, get_or, refl, ap, ◌∙◌, arith}
use lib.ListN.{length-map}
use Rattle.model.specs.Lists.{up_from}
use Rattle.model.specs.Line.{at, max_lines}
use Rattle.theory.specs.Outer.{again_at, plain, plain_at}
use Rattle.theory.proofs.Claims.{length_up_from, get_or_up_from}
use Rattle.plan.specs.Again.{again_flag, again_flags}

pub length_again : (p : List ℕ) → length (again_flags p) ≡ max_lines
unfolding again_flags
length_again p = length-map (up_from 0 max_lines) (again_flag p) ∙ length_up_from 0 max_lines

pub again_flag_lem : (p : List ℕ) (k : ℕ) → k < max_lines → get_or (again_flags p) k 0 ≡ again_flag p k
unfolding again_flags
again_flag_lem p k h = get_or_up_from (again_flag p) 0 max_lines k h ∙ ap (again_flag p) (omega arith)

-- a flag is 1 exactly at a line that takes again or gives such a take back
pub again_is : (p again : List ℕ) (k : ℕ) → again ≡ again_flags p → k < max_lines
    → eqb (get_or again k 0) 1 ≡ again_at p k
unfolding again_flag
again_is p again k e h = rw (e, again_flag_lem p k h) (go (again_at p k))
  where
    go : (b : Bool) → eqb (cond b 1 0) 1 ≡ b
    go true = refl
    go false = refl

pub plain_is : (p again : List ℕ) (k : ℕ) → again ≡ again_flags p → k < max_lines
    → plain (eqb (get_or again k 0) 1) (at p k) ≡ plain_at p k
plain_is p again k e h = ap (λ (b : Bool). plain b (at p k)) (again_is p again k e h)

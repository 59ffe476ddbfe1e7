-- What the sets of `rows` are for (01, "Refusal numbers", 9 and 10, and "The order handed out"): each refusal is at the
-- lowest device of a set, by the number that stands for it, and as many devices are held as the set has members.
use Rattle.std.proofs.Common.{◌≡◌, ℕ, ltb, leb, List, length, sym, ap, ◌∙◌, arith, le-ltb, lt-ltb}
use mathlib.Core.Option.{Option, none, some, get_or}
use Rattle.model.specs.Lists.{up_from, positions, any, those, first_of}
use Rattle.model.specs.Mate.{lasting}
use Rattle.model.specs.Sets.{member, lowest_of}
use Rattle.model.specs.Answers.{refuse_if, refuse_at}
use Rattle.model.specs.Rows.{leads_back}
use Rattle.model.specs.Verdict.{keepers, two_lasting, circle_of}
use Rattle.model.specs.declared.Refusal.{Refusal}
use Rattle.model.specs.declared.Refusal.TheVariants.{TwoLasting, LeadsBack}
use Rattle.rows.specs.Where.{circles_of}
use Rattle.model.specs.Kept.{lasts_among, lasts_in, held_to_end}
use Rattle.rows.specs.Lasting.{held_twice}
use Rattle.theory.proofs.Lists.{has_up_from, first_answer, Answer}
use Rattle.theory.proofs.Where.{where_first, where_those}

-- where the set has no device, the number is none of a device
at_lowest : (D s : ℕ) (r : ℕ → Refusal)
    → refuse_at r (first_of (member s) (up_from 0 D)) ≡ refuse_if (ltb (lowest_of D s) D) (r (lowest_of D s))
unfolding lowest_of refuse_at refuse_if
at_lowest D s r = go (first_of (member s) (up_from 0 D)) (first_answer (member s) (up_from 0 D))
  where
    go : (o : Option ℕ) → Answer (member s) (up_from 0 D) o
        → refuse_at r o ≡ refuse_if (ltb (get_or o D) D) (r (get_or o D))
    go none a = rw (le-ltb D D (omega arith))
    go (some d) a = rw (lt-ltb d D (omega (arith, (has_up_from 0 D d a.0).1)))

-- 10, by rows as many as the devices
pub leads_back_at : (D : ℕ) (rs : List ℕ) → length rs ≡ D
    → circle_of D rs ≡ refuse_if (ltb (lowest_of D (circles_of rs)) D) (LeadsBack (lowest_of D (circles_of rs)))
unfolding circle_of circles_of
leads_back_at D rs e =
    rw (← e)
    (ap (refuse_at LeadsBack) (sym (where_first (length rs) (leads_back rs)))
    ∙ at_lowest (length rs) (circles_of rs) LeadsBack)

module _ (D : ℕ) (p : List ℕ) where
  -- 9
  pub two_lasting_at : two_lasting D p
      ≡ refuse_if (ltb (lowest_of D (held_twice D p)) D) (TwoLasting (lowest_of D (held_twice D p)))
  unfolding two_lasting held_twice
  two_lasting_at =
      ap (refuse_at TwoLasting) (sym (where_first D (λ d. leb 2 (length (keepers p d)))))
      ∙ at_lowest D (held_twice D p) TwoLasting

  -- the devices still held after the last step
  pub held_those : those (member (held_to_end D p)) (up_from 0 D)
      ≡ those (λ d. any (λ i. lasting p i d) (positions p)) (up_from 0 D)
  unfolding held_to_end lasts_in lasts_among
  held_those = where_those D (λ d. any (λ i. lasting p i d) (positions p))

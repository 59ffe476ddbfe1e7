-- 01, "Legal orders", by positions. An order is built step by step: `done` are the lines that went before a step, of
-- which a held line is one that was done before the first step (02, request 5). A take of a device that its own job
-- holds needs no free device, and frees none when it is given back (02, request 2).
use Rattle.std.specs.Prelude.{ℕ, ◌<◌, Bool, true, false, not, ◌&&◌, ◌||◌, List, [], ◌∷◌, ◌++◌, ◌≡◌, eqb, ltb, length}
use Rattle.std.proofs.Math.Option.{Option, none, some}
use Rattle.model.specs.Lists.{any, has}
use Rattle.model.specs.Line.{job, starts, at}
use Rattle.model.specs.Mate.{takes, mate, held_at, held_lines, grips}

-- line k has to come before line i: it is an earlier line of the same job, or starts that job
unfoldable pub precedes : List ℕ → ℕ → ℕ → Bool
unfolding job starts
precedes p k i = (ltb k i && eqb (job (at p k)) (job (at p i))) || starts (at p k) (job (at p i))

-- a position, if there is one, is done
unfoldable pub done_at : List ℕ → Option ℕ → Bool
unfolding has
done_at done none = false
done_at done (some m) = has m done

-- what line k took or held was given back: its mate is done
unfoldable pub given_back : List ℕ → List ℕ → ℕ → Bool
unfolding done_at mate
given_back p done k = done_at done (mate p k)

-- device d is held: an outermost take of it, or a held line of it, is done and was not given back
unfoldable pub held : List ℕ → List ℕ → ℕ → Bool
unfolding any grips given_back
held p done d = any (λ k. grips p k d && not (given_back p done k)) done

-- line i may follow the lines done
pub record MayFollow (p done : List ℕ) (i : ℕ) : Type 0 where
  pub line : i < length p
  pub once : has i done ≡ false
  pub after : (k : ℕ) → k < length p → precedes p k i ≡ true → has k done ≡ true
  pub free : (d : ℕ) → takes p i d ≡ true → held p done d ≡ false

-- after the lines done, each line of an order may follow those before it
abbrev pub Follow : List ℕ → List ℕ → List ℕ → Type 0
Follow p done [] = Unit {0}
Follow p done (i ∷ o) = MayFollow p done i × Follow p (done ++ (i ∷ [])) o

-- A legal order: its steps follow each other, from the state in which the held lines are done and nothing else is, and
-- every other line is in it. (So no held line is in it, and no line twice. In a plan of 01 no line is held, and the
-- state is that of nothing done.)
pub record Legal (p o : List ℕ) : Type 0 where
  pub steps : Follow p (held_lines p) o
  pub whole : (i : ℕ) → i < length p → held_at p i ≡ false → has i o ≡ true

-- 01, "Rules of a well-formed plan", and 02, requests 2 and 5: takes, held lines, the give that matches each, and the
-- lasting takes. A job may take again what it holds; what is said of takes (claims, rows, who may follow, who waits) is
-- said of the outermost ones. Gives match the device taken or held last, so the mate of a line is found by depth: a
-- take or a held line goes one deeper, a give comes one back, and the give at depth 0 is the mate.
use Rattle.std.specs.Prelude.{ℕ, zero, suc, Bool, true, false, not, ◌&&◌, ◌||◌, List, [], ◌∷◌, eqb, drop}
use Rattle.std.proofs.Math.Option.{Option, none, some}
use Rattle.model.specs.Lists.{positions, has, those}
use Rattle.model.specs.Line.{job, opens, is_held, is_take, is_give, device_of, at}
use Rattle.model.specs.WellFormed.{before, held_by, held_there}

-- Takes are asked of a plan and a position. The device of the line there; its job holds that device already; the line
-- is an outermost take, of a device that its job does not hold there; it is one of device d.
unfoldable pub device_at : List ℕ → ℕ → ℕ
unfolding device_of
device_at p i = device_of (at p i)

unfoldable pub holds_already : List ℕ → ℕ → Bool
unfolding has device_at job before held_by
holds_already p i = has (device_at p i) (held_there p i)

unfoldable pub takes_at : List ℕ → ℕ → Bool
unfolding is_take holds_already
takes_at p i = is_take (at p i) && not (holds_already p i)

unfoldable pub takes : List ℕ → ℕ → ℕ → Bool
unfolding takes_at device_at
takes p i d = takes_at p i && eqb (device_at p i) d

-- the line at i is a held line; the held lines of a plan, which are done before the first step
unfoldable pub held_at : List ℕ → ℕ → Bool
unfolding is_held
held_at p i = is_held (at p i)

unfoldable pub held_lines : List ℕ → List ℕ
unfolding those held_at positions
held_lines p = those (held_at p) (positions p)

-- the steps of a plan, in line order: its other lines
unfoldable pub steps : List ℕ → List ℕ
unfolding those held_at positions
steps p = those (λ i. not (held_at p i)) (positions p)

-- the line at i makes its job hold device d: an outermost take of it, or a held line of it
unfoldable pub grips : List ℕ → ℕ → ℕ → Bool
unfolding takes_at held_at device_at
grips p i d = (takes_at p i || held_at p i) && eqb (device_at p i) d

-- the mate, looked for among the lines from position i on, at some depth; the search ends where the lines of job j
-- end, which stand together
unfoldable pub mate_in : ℕ → ℕ → ℕ → List ℕ → Option ℕ
unfolding job opens is_give
mate_in j depth i [] = none
mate_in j depth i (l ∷ ls) =
    elim (eqb (job l) j) [
      | false ↦ none
      | true ↦ elim (opens l) [
        | true ↦ mate_in j (suc depth) (suc i) ls
        | false ↦ elim (is_give l) [
          | true ↦ elim depth [ zero ↦ some i | suc less ↦ mate_in j less (suc i) ls ]
          | false ↦ mate_in j depth (suc i) ls
        ]
      ]
    ]

-- the position of the give that matches the take or the held line at position i
unfoldable pub mate : List ℕ → ℕ → Option ℕ
unfolding mate_in job
mate p i = mate_in (job (at p i)) 0 (suc i) (drop (suc i) p)

unfoldable pub is_none : Option ℕ → Bool
is_none none = true
is_none (some m) = false

-- the line at i is a lasting take; it is a lasting take of device d
unfoldable pub lasting_at : List ℕ → ℕ → Bool
unfolding takes_at mate is_none
lasting_at p i = takes_at p i && is_none (mate p i)

unfoldable pub lasting : List ℕ → ℕ → ℕ → Bool
unfolding takes mate is_none
lasting p i d = takes p i d && is_none (mate p i)

-- the line at i makes its job hold device d to the end: a lasting take of it, or a held line of it without a give
unfoldable pub keeps : List ℕ → ℕ → ℕ → Bool
unfolding grips mate is_none
keeps p i d = grips p i d && is_none (mate p i)

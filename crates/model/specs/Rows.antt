-- 01, "Claims and rows": the row of each device, and what a device leads to. Rows are a list of sets, one a device.
use Rattle.std.specs.Prelude.{ℕ, zero, suc, Bool, true, cond, List, map, ◌≡◌, length, get_or}
use Rattle.model.specs.Lists.{up_from, positions, those}
use Rattle.model.specs.Sets.{empty, union, union_of, member}
use Rattle.model.specs.Mate.{lasting}
use Rattle.model.specs.Claims.{table, beyond}

-- the lasting takes of device d; a held line is no take, and has no row (02, request 5)
unfoldable pub lasting_takes : List ℕ → ℕ → List ℕ
unfolding those lasting positions
lasting_takes p d = those (λ i. lasting p i d) (positions p)

-- the row of device d, with the plan's table t
unfoldable pub row_of : List ℕ → List ℕ → ℕ → ℕ
unfolding union_of beyond lasting_takes
row_of p t d = union_of (map (beyond p t) (lasting_takes p d))

unfoldable pub rows : ℕ → List ℕ → List ℕ
unfolding row_of table up_from
rows D p = let t : List ℕ = table p in map (row_of p t) (up_from 0 D)

-- d leads to e: e is in d's row, or a member of d's row leads to e
pub data Leads (rs : List ℕ) : ℕ → ℕ → Type 0 where
  once : (d e : ℕ) → member (get_or rs d 0) e ≡ true → Leads rs d e
  more : (d e f : ℕ) → member (get_or rs d 0) e ≡ true → Leads rs e f → Leads rs d f

-- The same as a test. A device that is led to at all is led to in at most as many steps as there are devices.

-- the members of the rows of the devices of s
unfoldable pub onward : List ℕ → ℕ → ℕ
unfolding union_of up_from member empty
onward rs s = union_of (map (λ d. cond (member s d) (get_or rs d 0) empty) (up_from 0 (length rs)))

-- the devices that d leads to in at least one and at most some steps
unfoldable pub led_to : ℕ → List ℕ → ℕ → ℕ
unfolding union onward empty
led_to zero rs d = empty
led_to (suc steps) rs d = union (get_or rs d 0) (onward rs (led_to steps rs d))

unfoldable pub leads_back : List ℕ → ℕ → Bool
unfolding member led_to
leads_back rs d = member (led_to (length rs) rs d) d

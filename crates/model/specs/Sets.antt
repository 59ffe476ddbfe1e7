-- A set of devices as a number, device d being bit d (01, "Claims and rows").
use Rattle.std.specs.Prelude.{ℕ, ◌/◌, ◌%◌, ◌^◌, Bool, true, false, cond, List, [], ◌∷◌, map, eqb}
use Rattle.std.proofs.Math.Option.{get_or}
use Rattle.std.specs.Int.Bits.{bit_or, bit_xor}
use Rattle.model.specs.Lists.{up_from, first_of}

-- the set with no device, and the set of one
unfoldable pub empty : ℕ
empty = 0

unfoldable pub only : ℕ → ℕ
only d = 2 ^ d

-- the union of two sets
unfoldable pub union : ℕ → ℕ → ℕ
union s t = bit_or s t

-- the union of all sets of a list
unfoldable pub union_of : List ℕ → ℕ
unfolding empty union
union_of [] = empty
union_of (s ∷ ss) = union s (union_of ss)

-- device d is in the set s
unfoldable pub member : ℕ → ℕ → Bool
member s d = eqb (s / 2 ^ d % 2) 1

-- the set of one device, where a test passes; else no device
unfoldable pub only_if : Bool → ℕ → ℕ
unfolding only empty
only_if b d = cond b (only d) empty

-- the set s with device d put in, or left out: the device's bit is turned where it is not so already
unfoldable pub put : Bool → ℕ → ℕ → ℕ
unfolding member only
put true d s = cond (member s d) s (bit_xor s (only d))
put false d s = cond (member s d) (bit_xor s (only d)) s

-- the devices below D that pass a test
unfoldable pub devices_where : ℕ → (ℕ → Bool) → ℕ
unfolding union_of only_if up_from
devices_where D f = union_of (map (λ d. only_if (f d) d) (up_from 0 D))

-- the lowest of D devices that is in the set s; D where none is
unfoldable pub lowest_of : ℕ → ℕ → ℕ
unfolding first_of member up_from
lowest_of D s = get_or (first_of (member s) (up_from 0 D)) D

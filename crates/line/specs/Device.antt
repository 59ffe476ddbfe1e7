-- Lines by their numbers alone, for every number (01, "Packed", and 02, request 5). The device of a line that takes,
-- holds or gives one is what the number leaves below 128; of such a line it is what the operand names (theory, Line:
-- `device_rest`). The number packed of a job, a verb and what the operand names, each of as many bits as it has room
-- for: of the parts of a line it is that line's (proofs, Ranges: `packed_verb`).
use Rattle.std.specs.Prelude.{ℕ, ◌+◌, ◌*◌, ◌/◌, ◌%◌, ◌^◌}
use Rattle.model.specs.Line.{held_from, pack}

abbrev pub device_bits : ℕ → ℕ
device_bits l = l % held_from

abbrev pub packed_bits : ℕ → ℕ → ℕ → ℕ
packed_bits j v o = pack (j % 2 ^ 22) ((v % 4 + v / 4 % 2) % 4) ((v / 4 % 2 * held_from + o % 256) % 256)

-- The numbers that the formats fix. Definitions take them from here and not from the code, whose constants are held
-- against them: a wrong constant is an open goal of a contract.
use Rattle.std.specs.Prelude.{ℕ}

-- ---- a volume: cylinders, each with so many heads, and a track a head
abbrev pub volume_cylinders : ℕ
volume_cylinders = 404

abbrev pub cylinder_heads : ℕ
cylinder_heads = 19

-- ---- a block: so many bytes, and what an open gate holds, of a record, of a row and of a slot
abbrev pub block_bytes : ℕ
block_bytes = 16384

abbrev pub open_gate : ℕ
open_gate = 193

-- ---- a track in its block: the gate of record k stands k behind the first place, and there are so many; the records
-- begin at the second one; they cost so much together at most
abbrev pub track_gates_at : ℕ
track_gates_at = 128

abbrev pub track_gates : ℕ
track_gates = 98

abbrev pub track_records_at : ℕ
track_records_at = 256

abbrev pub track_cost : ℕ
track_cost = 13165

-- how many items of the log an update of a record makes at most, one write and its sync, and a format, four writes and
-- three syncs
abbrev pub update_items : ℕ
update_items = 2

abbrev pub format_items : ℕ
format_items = 7

-- ---- a row in its block: its gate, its body, and its made mark, which is 00 until the volume is created
abbrev pub row_gate_at : ℕ
row_gate_at = 0

abbrev pub row_body_at : ℕ
row_body_at = 1

abbrev pub row_body_bytes : ℕ
row_body_bytes = 510

abbrev pub made_mark_at : ℕ
made_mark_at = 511

abbrev pub made_mark : ℕ
made_mark = 77

-- the versions of a body: the one that is written, and the one before it, which is read as well
abbrev pub row_version : ℕ
row_version = 2

abbrev pub old_row_version : ℕ
old_row_version = 1

-- the places of its parts, counted from its first byte
abbrev pub row_version_at : ℕ
row_version_at = 0

abbrev pub row_serial_at : ℕ
row_serial_at = 1

abbrev pub row_first_at : ℕ
row_first_at = 7

abbrev pub row_second_at : ℕ
row_second_at = 9

abbrev pub row_pages_at : ℕ
row_pages_at = 11

abbrev pub row_mark_at : ℕ
row_mark_at = 62

abbrev pub row_states_at : ℕ
row_states_at = 63

abbrev pub row_spares_at : ℕ
row_spares_at = 467

-- how many pages a volume has, and how many spare bytes stand at the end of a body
abbrev pub volume_pages : ℕ
volume_pages = 51

abbrev pub row_spares : ℕ
row_spares = 43

-- ---- the slots behind a row: a gate and a body each. A change of a copy makes so many items where a slot is free
abbrev pub slots_at : ℕ
slots_at = 512

abbrev pub slot_count : ℕ
slot_count = 1984

abbrev pub slot_bytes : ℕ
slot_bytes = 8

abbrev pub slot_body_bytes : ℕ
slot_body_bytes = 7

abbrev pub slot_items : ℕ
slot_items = 4

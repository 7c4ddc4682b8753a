-- What updating a record makes of a track.
use Rattle.std.specs.Prelude.{◌≡◌, ◌≤◌, ℕ, ◌+◌, ◌-◌, Bool, true, false, List, length, take, drop}
use Rattle.std.specs.Prelude.{slice_set, slice_index_or}
use Rattle.ckd_track.specs.Data.{RecordData, blank_record}
use Rattle.ckd_track.specs.Track.{Reading, reading, key_length, BeginsAt}

-- how many bytes an update of a record writes: its data, or its key and data
abbrev pub updated_length : Bool → RecordData → ℕ
updated_length false r = length r.body
updated_length true r = length r.key + length r.body

-- a record with these bytes in their place
abbrev pub with_bytes : Bool → List ℕ → RecordData → RecordData
with_bytes false bytes r = record r { body = bytes }
with_bytes true bytes r = record r { key = take (length r.key) bytes; body = drop (length r.key) bytes }

-- the record behind the first n
abbrev pub record_behind : ℕ → List RecordData → RecordData
record_behind n records = slice_index_or records n blank_record

-- the record of this number begins at this place, and is as long as these bytes for its data, or its key and data
pub record MayUpdate (number place : ℕ) (key_too : Bool) (bytes block : List ℕ) : Type 0 where
  pub first : 1 ≤ number
  pub there : number ≤ length (reading block).records
  pub found : BeginsAt number place block
  pub long : length bytes ≡ updated_length key_too (record_behind (number - 1) (reading block).records)

-- the same records, but the one behind the first n has these bytes
abbrev pub updated_records : Bool → ℕ → List ℕ → List RecordData → List RecordData
updated_records key_too n bytes records = slice_set records n (with_bytes key_too bytes (record_behind n records))

-- what a block reads as while the record behind the first n is updated: with some bytes of the same lengths in it
pub record IsUpdating (key_too : Bool) (n : ℕ) (old now : Reading) : Type 0 where
  pub bytes : List ℕ
  pub long : length bytes ≡ updated_length key_too (record_behind n old.records)
  pub reading : now ≡ record old { records = updated_records key_too n bytes old.records }

-- where the bytes of an update go, in a block where the record has this place
abbrev pub bytes_place : Bool → ℕ → List ℕ → ℕ
bytes_place false place block = place + 8 + key_length place block
bytes_place true place block = place + 8

-- The track of a block: the records from byte 256 on, record k while the gate at byte 128 + k is open.
use Rattle.std.specs.Prelude.{◌≡◌, ℕ, zero, suc, ◌+◌, ◌-◌, ◌*◌, ◌≤◌, ◌<◌, ◌==◌, nat_lt, Bool, true, false}
use Rattle.std.specs.Prelude.{List, [], ◌∷◌, length, take, drop, slice_index, slice_get, Option, Some, None}
use Rattle.mss_base.specs.Geometry.{open_gate, track_gates_at, track_gates, track_records_at, track_cost}
use Rattle.ckd_track.specs.Data.{RecordData, cost_of_lengths}
use Rattle.ckd_track.specs.declared.track.BadRecord.{BadRecord}
use Rattle.ckd_track.specs.declared.track.TrackCause.TheVariants.{RunsPast, Overfull}

-- the records of a block before the first that is no part of a track, and that one
pub record Reading : Type 0 where
  pub records : List RecordData
  pub bad : Option BadRecord

-- what reads as a track of these records
abbrev pub reading_of : List RecordData → Reading
reading_of rs = record { records = rs; bad = None }

-- the key's length, in the count of the record at a place
abbrev pub key_length : ℕ → List ℕ → ℕ
key_length place block = slice_index block (place + 5)

-- the data's length there
abbrev pub data_length : ℕ → List ℕ → ℕ
data_length place block = 256 * slice_index block (place + 6) + slice_index block (place + 7)

-- the bytes of a record: a count of eight, its key and its data
abbrev pub record_length : ℕ → List ℕ → ℕ
record_length place block = 8 + key_length place block + data_length place block

-- the record whose bytes begin at a place
abbrev pub record_at : ℕ → List ℕ → RecordData
record_at place block = record {
  id = take 5 (drop place block);
  key = take (key_length place block) (drop (place + 8) block);
  body = take (data_length place block) (drop (place + 8 + key_length place block) block);
}

-- what its count says that it takes of its track
abbrev pub cost_at : ℕ → List ℕ → ℕ
cost_at place block = cost_of_lengths (key_length place block) (data_length place block)

-- the gate of a record
abbrev pub gate_at : ℕ → List ℕ → ℕ
gate_at number block = slice_index block (track_gates_at + number)

-- whether it is open
abbrev pub is_open : ℕ → List ℕ → Bool
is_open number block = gate_at number block == open_gate

-- a record before others
abbrev pub before : RecordData → Reading → Reading
before r rest = record { records = r ∷ rest.records; bad = rest.bad }

-- no record, since this one is bad
abbrev pub stopped_at : BadRecord → Reading
stopped_at b = record { records = []; bad = Some b }

-- by whether its gate is open, it runs past the block, it costs too much
abbrev pub reading_by_gate : Bool → Bool → Bool → ℕ → RecordData → Reading → Reading
reading_by_gate false runs_past overfull number r rest = reading_of []
reading_by_gate true true overfull number r rest = stopped_at (record { number = number; cause = RunsPast })
reading_by_gate true false true number r rest = stopped_at (record { number = number; cause = Overfull })
reading_by_gate true false false number r rest = before r rest

-- the records from this number on, at most so many, where the first has this place and those before it this cost
unfoldable pub reading_from : ℕ → ℕ → ℕ → ℕ → List ℕ → Reading
reading_from zero number place spent block = reading_of []
reading_from (suc most) number place spent block =
    reading_by_gate (is_open number block) (nat_lt (length block) (place + record_length place block))
    (nat_lt track_cost (spent + cost_at place block)) number (record_at place block)
    (reading_from most (number + 1) (place + record_length place block) (spent + cost_at place block) block)

-- the reading of a block
unfoldable pub reading : List ℕ → Reading
reading block = reading_from track_gates 1 track_records_at 0 block

-- the place of the record after n records, the first of which has this place
unfoldable pub place_after : ℕ → ℕ → List ℕ → ℕ
place_after zero place block = place
place_after (suc n) place block = place_after n (place + record_length place block) block

-- record k of a block's track begins at this place
pub record BeginsAt (k place : ℕ) (block : List ℕ) : Type 0 where
  pub item : slice_get (reading block).records (k - 1) ≡ Some (record_at place block)
  pub inside : place + record_length place block ≤ length block
  pub behind : place ≡ place_after (k - 1) track_records_at block

-- each number is a byte
abbrev pub AreBytes : List ℕ → Type 0
AreBytes block = (i : ℕ) → slice_index block i < 256

-- Records and tracks as plain data, and volumes of them.
use Rattle.std.specs.Prelude.{◌≡◌, ℕ, Bool, ◌+◌, ◌<◌, ◌≤◌, ◌==◌, List, [], length, Option, sum_by, if◌then◌else◌}
use Rattle.std.specs.List.{AllByRecursion}
use Rattle.mss_base.specs.Geometry.{track_cost}

-- a record: its ID of five bytes, its key and its data
pub record RecordData : Type 0 where
  pub id : List ℕ
  pub key : List ℕ
  pub body : List ℕ

-- a record of nothing
abbrev pub blank_record : RecordData
blank_record = record { id = []; key = []; body = [] }

-- what a record with a key and data of these lengths takes of its track
abbrev pub cost_of_lengths : ℕ → ℕ → ℕ
cost_of_lengths key_bytes data_bytes = if key_bytes == 0 then 135 + data_bytes else 191 + key_bytes + data_bytes

-- what it takes of its track
abbrev pub cost_of : RecordData → ℕ
cost_of r = cost_of_lengths (length r.key) (length r.body)

-- what records take together
abbrev pub cost : List RecordData → ℕ
cost rs = sum_by cost_of rs

-- a count can tell the record's lengths
pub record HasCount (r : RecordData) : Type 0 where
  pub id : length r.id ≡ 5
  pub key : length r.key < 256
  pub body : length r.body < 65536

-- records that may stand on a track together
pub record IsTrack (rs : List RecordData) : Type 0 where
  pub cost_ : cost rs ≤ track_cost
  pub each : AllByRecursion HasCount rs

-- volumes: by number a serial where there is one, and whether no host may write there; and the records of each track by
-- volume, cylinder and head
pub record Volumes : Type 0 where
  pub serial : ℕ → Option (List ℕ)
  pub read_only : ℕ → Bool
  pub track : ℕ → ℕ → ℕ → List RecordData

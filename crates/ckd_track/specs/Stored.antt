-- Records where they stand in a block, and a walk over them.
use Rattle.std.specs.Prelude.{◌≡◌, ◌≤◌, ◌+◌, ◌-◌, ◌*◌, ℕ, List, length}
use Rattle.ckd_track.specs.Data.{RecordData, HasCount}
use Rattle.ckd_track.specs.Track.{Reading, record_length, record_at, cost_at, before, reading_from}
use Rattle.mss_base.specs.Geometry.{block_bytes, track_cost, track_records_at}
use Rattle.ckd_track.specs.declared.stored.StoredRecord.TheInside.{Inside as Record}
use Rattle.ckd_track.specs.declared.stored.StoredRecords.TheInside.{Inside as Walk}

-- the record that is lent
abbrev pub stored_data : Record → RecordData
stored_data r = record { id = r.id; key = r.key.now; body = r.body.now }

-- a count can tell its lengths
abbrev pub stored_holds : Record → Type 0
stored_holds r = HasCount (stored_data r)

-- what is left to read
abbrev pub rest_of : Walk → Reading
rest_of w = reading_from (99 - w.number) w.number w.place w.spent w.block.now

-- the next record's number, its place, and the cost of those before it
pub record walk_holds (w : Walk) : Type 0 where
  pub whole : length w.block.now ≡ block_bytes
  pub first : 1 ≤ w.number
  pub few : 135 * w.number ≤ w.spent + 135
  pub cheap : w.spent ≤ track_cost
  pub near : w.place ≤ track_records_at + w.spent

-- a walk goes on behind a record of the track, which with those before it costs this
pub record GoesOn (number place cost_before : ℕ) (block : List ℕ) (cost_with : ℕ) : Type 0 where
  pub cost_ : cost_with ≡ cost_before + cost_at place block
  pub cheap : cost_with ≤ track_cost
  pub rest : reading_from (99 - number) number place cost_before block
      ≡ before (record_at place block)
      (reading_from (99 - (number + 1)) (number + 1) (place + record_length place block) cost_with block)

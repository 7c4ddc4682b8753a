-- Where a record was found, and how what a function returned compares with what the definition gives.
use Rattle.std.specs.Prelude.{◌≡◌, ◌≤◌, ℕ, List, length, slice_index_or, Option, Result, Ok, Err, Bool}
use Rattle.ckd_track.specs.Data.{blank_record}
use Rattle.ckd_track.specs.Track.{reading, BeginsAt}
use Rattle.ckd_plain.specs.declared.host.HostState.{HostState}
use Rattle.ckd_plain.specs.declared.unit_check.Refusal.{Refusal}
use Rattle.ckd_plain.specs.Data.{records_of}
use Rattle.ckd_plain.specs.Index.{Found}
use Rattle.track_engine.specs.declared.find.RecordPlace.{RecordPlace}
use Rattle.track_engine.specs.declared.place.NotDone.{NotDone}
use Rattle.track_engine.specs.declared.place.NotDone.TheVariants.{Refused, Fault}

-- the record at a place, in the block that has it
abbrev pub found_at : List ℕ → RecordPlace → Found
found_at block at = record {
  number = at.number;
  item = slice_index_or (records_of at.host (reading block).records) at.number blank_record;
  host = at.host;
}

-- there is such a record on the block's track, and it begins there in the block, unless it is R0
pub record StandsIn (block : List ℕ) (at : RecordPlace) : Type 0 where
  pub there : at.number ≤ length (reading block).records
  pub begins : 1 ≤ at.number → BeginsAt at.number at.begins_at block

-- it is record k of the host's track, which is the block's
pub record IsPlaceOf (k : ℕ) (host : HostState) (block : List ℕ) (at : RecordPlace) : Type 0 where
  pub number_ : at.number ≡ k
  pub host_ : at.host ≡ host
  pub stands : StandsIn block at

-- what a function returned is what the definition gives, but where a device or memory failed it
abbrev pub GivesBut : {X Y : Type 0} → (X → Y) → Result X NotDone → Result Y Refusal → Type 0
GivesBut view (Ok x) given = given ≡ Ok (view x)
GivesBut view (Err (Refused refusal)) given = given ≡ Err refusal
GivesBut view (Err (Fault fault)) given = Unit {0}

-- the host that is left has this volume mounted, or this none
abbrev pub KeepsVolume : {X : Type 0} → (X → HostState) → Option (ℕ × Bool) → Result X NotDone → Type 0
KeepsVolume host_of volume (Ok x) = (host_of x).mounted ≡ volume
KeepsVolume host_of volume (Err (Refused refusal)) = refusal.host.mounted ≡ volume
KeepsVolume host_of volume (Err (Fault fault)) = Unit {0}

-- What formatting a record makes of a track.
use Rattle.std.specs.Prelude.{◌≡◌, ◌≤◌, ◌<◌, ◌↔◌, nat_lt, ℕ, ◌+◌, ◌-◌, Bool, true, false, IsTrue, not, ◌&&◌, ◌||◌}
use Rattle.std.specs.Prelude.{List, [], ◌∷◌, ◌++◌, length, take, slice_index, None}
use Rattle.mss_base.specs.Geometry.{block_bytes, track_gates, track_records_at, track_cost}
use Rattle.mss_base.specs.declared.place.BlockPlace.{BlockPlace}
use Rattle.mss_base.specs.Content.{SiteLog, Item, Got, AreWithin}
use Rattle.ckd_track.specs.Data.{RecordData, cost, cost_of}
use Rattle.ckd_track.specs.Track.{Reading, reading, reading_of, record_length, record_at, gate_at, is_open, place_after}
use Rattle.ckd_track.specs.declared.format.FormatPlace.{FormatPlace}

-- a count of eight bytes, and then as many bytes as its lengths say
pub record IsRecord (bytes : List ℕ) : Type 0 where
  pub count : 8 ≤ length bytes
  pub whole : record_length 0 bytes ≡ length bytes

-- a record of these bytes has room as the one of this number, behind those before it
pub record MayFormat (number : ℕ) (bytes block : List ℕ) : Type 0 where
  pub first : 1 ≤ number
  pub there : number ≤ length (reading block).records + 1
  pub whole : IsRecord bytes
  pub fits : cost (take (number - 1) (reading block).records) + cost_of (record_at 0 bytes) ≤ track_cost

-- the gate of a record behind this one is open
abbrev pub HasLaterOpen : ℕ → List ℕ → Type 0
HasLaterOpen number block = (k : ℕ) × (number < k) × (k ≤ track_gates) × (is_open k block ≡ true)

-- the gates behind this record's: none is open, all are 0 where one of them was open, and else they are as they were
pub record LaterGates (number : ℕ) (old new : List ℕ) : Type 0 where
  pub shut : HasLaterOpen number new → ⊥
  pub closed : HasLaterOpen number old → (k : ℕ) → number < k → k ≤ track_gates → gate_at k new ≡ 0
  pub kept : (HasLaterOpen number old → ⊥) → (k : ℕ) → number < k → k ≤ track_gates → gate_at k new ≡ gate_at k old

-- a look at a block gave this place: it is the one behind so many of its records, and its gates are as they are there
pub record IsPlaceIn (block : List ℕ) (place : FormatPlace) : Type 0 where
  pub whole : length block ≡ block_bytes
  pub few : place.before ≤ 96
  pub begins : place.begins_at ≡ place_after place.before track_records_at block
  pub gate : is_open (place.before + 1) block ≡ place.gate_open
  pub later : IsTrue place.later_open ↔ HasLaterOpen (place.before + 1) block

-- a record of these bytes has room behind the first n, which are there
pub record FitsBehind (n : ℕ) (bytes block : List ℕ) : Type 0 where
  pub there : n ≤ length (reading block).records
  pub whole : IsRecord bytes
  pub fits : cost (take n (reading block).records) + cost_of (record_at 0 bytes) ≤ track_cost

-- the first n records, and this one as the last
abbrev pub formatted_records : ℕ → RecordData → List RecordData → List RecordData
formatted_records n r old = take n old ++ r ∷ []

-- a stop leaves the old one, that one ended before the record, or the new one
pub data OldEndedOrNew {A : Type 0} (old ended new now : A) : Type 0 where
  as_it_was : now ≡ old → OldEndedOrNew old ended new now
  cut_short : now ≡ ended → OldEndedOrNew old ended new now
  completed : now ≡ new → OldEndedOrNew old ended new now

-- what a block reads as while the record after the first n is formatted
pub record IsFormatting (n : ℕ) (r : RecordData) (old now : Reading) : Type 0 where
  pub reading : OldEndedOrNew old (reading_of (take n old.records)) (reading_of (formatted_records n r old.records)) now
  -- a track stays a track
  pub track : old.bad ≡ None → now.bad ≡ None
  pub records : OldEndedOrNew old.records (take n old.records) (formatted_records n r old.records) now.records

-- b has the bytes of a in this range
abbrev pub SameBytes : ℕ → ℕ → List ℕ → List ℕ → Type 0
SameBytes from to a b = (i : ℕ) → from ≤ i → i < to → slice_index b i ≡ slice_index a i

-- b has the first n records of a, as far as their gates are open
pub record Front (n : ℕ) (a b : List ℕ) : Type 0 where
  pub long : length b ≡ length a
  pub gates : SameBytes 129 (129 + n) a b
  pub places : SameBytes 256 (place_after n 256 a) a b

-- and the gate behind them is closed
pub record EndsAfter (n : ℕ) (a b : List ℕ) : Type 0 where
  pub front : Front n a b
  pub closed : is_open (n + 1) b ≡ false

-- these bytes stand at a place
abbrev pub Holds : ℕ → List ℕ → List ℕ → Type 0
Holds place bytes b = (j : ℕ) → j < length bytes → slice_index b (place + j) ≡ slice_index bytes j

-- and the later gates are as they were
pub record EndsBefore (n : ℕ) (a b : List ℕ) : Type 0 where
  pub ends : EndsAfter n a b
  pub later : SameBytes (130 + n) 227 a b

-- the record of these bytes stands in its place behind the closed gate, and no later gate is open
pub record StandsShut (n : ℕ) (bytes a b : List ℕ) : Type 0 where
  pub ends : EndsAfter n a b
  pub later : LaterGates (n + 1) a b
  pub holds : Holds (place_after n 256 a) bytes b

-- the places behind the gate after n records: the later gates, and all from the next record's place on
abbrev pub is_behind : ℕ → List ℕ → ℕ → Bool
is_behind n a i = nat_lt (129 + n) i && (nat_lt i 256 || not (nat_lt i (place_after n 256 a)))

-- the log got items that write behind that gate alone, if they write
pub record WritesBehind (n : ℕ) (a : List ℕ) (at : BlockPlace) (old new : SiteLog) : Type 0 where
  pub items : List Item
  pub grown : Got items old new
  pub within : AreWithin at.unit at.block (is_behind n a) items

-- Where a command finds its record: the next one, past the index where need be.
use Rattle.std.specs.Prelude.{ℕ, zero, suc, ◌+◌, ◌==◌, Bool, true, false, List, bit_and, slice_get, Option, Some, None, Result, Ok, Err, if◌then◌else◌}
use Rattle.mss_base.specs.Geometry.{cylinder_heads}
use Rattle.ckd_track.specs.Data.{RecordData}
use Rattle.ckd_plain.specs.declared.host.HostState.{HostState}
use Rattle.ckd_plain.specs.declared.host.Position.{Position}
use Rattle.ckd_plain.specs.declared.host.Position.TheVariants as position
use Rattle.ckd_plain.specs.declared.unit_check.UnitCheck.TheVariants as check
use Rattle.ckd_plain.specs.declared.unit_check.Refusal.{Refusal}
use Rattle.ckd_plain.specs.Data.{records_of}
use Rattle.ckd_plain.specs.Checks.{◌>>=◌}

-- the tracks of a cylinder, by head
abbrev pub Tracks : Type 0
Tracks = ℕ → List RecordData

-- a record that was found, and the host as it is then
pub record Found : Type 0 where
  pub number : ℕ
  pub item : RecordData
  pub host : HostState

-- the record that comes next, where m is the first that counts
abbrev pub candidate : Position → ℕ → ℕ
candidate position.Start m = m
candidate position.Home m = m
candidate (position.Count k) m = k + 1
candidate (position.Key k) m = k + 1
candidate (position.Done k) m = k + 1

-- Multi-track: on to the next head. Else: to the start of the same track; the pass that would be the second ends the
-- command. A chain begins with 0 passes, so in a chain they are 0 or 1.
unfoldable pub pass_index : HostState → Bool → Result HostState Refusal
pass_index host true =
    if bit_and host.mask 0x18 == 0x18 then Err (record { check = check.FileProtected; host = host })
    else if host.head + 1 == cylinder_heads then Err (record { check = check.EndOfCylinder; host = host })
    else Ok (record host { head = host.head + 1; position = position.Start; passes = 0 })
pass_index host false =
    if host.passes == 0 then Ok (record host { passes = 1; position = position.Start })
    else Err (record { check = check.NoRecordFound; host = record host { passes = 2; position = position.Start } })

-- record k of the host's track, where it is there
abbrev pub record_at : List RecordData → HostState → ℕ → Option RecordData
record_at track host k = slice_get (records_of host track) k

-- a look at a track: the record, or what the looks past the index find
abbrev pub look_or_past : ℕ → HostState → Bool → Option RecordData
    → (HostState → Result Found Refusal) → Result Found Refusal
look_or_past k host multi (Some r) past = Ok (record { number = k; item = r; host = host })
look_or_past k host multi None past = pass_index host multi >>= past

-- the next record from m, where so many tracks may be looked at
unfoldable pub next_within : ℕ → Tracks → HostState → ℕ → Bool → Result Found Refusal
next_within zero tracks host m multi = Err (record { check = check.NoRecordFound; host = host })
next_within (suc looks) tracks host m multi =
    let k = candidate host.position m in
    look_or_past k host multi (record_at (tracks host.head) host k) (λ passed. next_within looks tracks passed m multi)

-- 20 looks are as good as any number: a cylinder has a track a head, and one track is looked at twice at most
unfoldable pub next_record : Tracks → HostState → ℕ → Bool → Result Found Refusal
next_record tracks host m multi = next_within 20 tracks host m multi

abbrev pub itself : ℕ → HostState → Option RecordData → Result Found Refusal
itself k host (Some r) = Ok (record { number = k; item = r; host = host })
itself k host None = Err (record { check = check.NoRecordFound; host = host })

-- record k, which the host's position or prior names
unfoldable pub same_record : List RecordData → HostState → ℕ → Result Found Refusal
same_record track host k = itself k host (record_at track host k)

abbrev pub home_from : Position → HostState → Bool → Result HostState Refusal
home_from position.Start host multi = Ok host
home_from _ host true = pass_index host true
home_from _ host false = Ok (record host { position = position.Start })

-- to the home address; without multi-track this counts as no pass
unfoldable pub to_home : HostState → Bool → Result HostState Refusal
to_home host multi = home_from host.position host multi

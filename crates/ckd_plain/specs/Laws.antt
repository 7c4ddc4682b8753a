-- The words of the laws of the plain machine.
use Rattle.std.specs.Prelude.{◌≡◌, ◌≢◌, ℕ, ◌<◌, ◌≤◌, Bool, true, false, List, [], Option, Some, None, Result, Ok, Err, All, IsSome, take, ◌∷◌, ◌++◌, length, map, replicate}
use Rattle.channel_commands.specs.declared.command.Command.{Command}
use Rattle.channel_commands.specs.Data.{CallData, command as ask, ReplyData, done}
use Rattle.ckd_track.specs.Data.{RecordData, cost, IsTrack, Volumes}
use Rattle.mss_base.specs.Geometry.{track_cost}
use Rattle.ckd_plain.specs.declared.host.HostState.{HostState}
use Rattle.ckd_plain.specs.declared.host.Position.TheVariants as position
use Rattle.ckd_plain.specs.declared.unit_check.UnitCheck.{UnitCheck}
use Rattle.ckd_plain.specs.Data.{State}
use Rattle.ckd_plain.specs.Checks.{admitted_command}
use Rattle.ckd_plain.specs.Index.{Tracks, record_at}
use Rattle.ckd_plain.specs.Effects.{Outcome, DONE, MET, status_of, prior_number, effect}
use Rattle.ckd_plain.specs.Plain.{Replied, replies_of, UNIT_CHECK, sense_of, with_open_chain, host_for_command, tracks_under}

-- ---- hosts and volumes

-- both states have the same volumes and the same host h
pub record IsSameFor (h : ℕ) (s t : State) : Type 0 where
  pub volumes : s.volumes ≡ t.volumes
  pub host : s.host h ≡ t.host h

-- the track is the one under the host's head
pub record IsUnderHead (host : HostState) (v c head : ℕ) : Type 0 where
  pub volume : (bind : Bool) × (host.mounted ≡ Some (v, bind))
  pub cylinder_ : host.cylinder ≡ c
  pub head_ : host.head ≡ head

-- no track costs more than a track can
abbrev pub IsWithinCost : Volumes → Type 0
IsWithinCost volumes = (v c head : ℕ) → cost (volumes.track v c head) ≤ track_cost

-- the records of each track may stand together
abbrev pub HasTracks : Volumes → Type 0
HasTracks volumes = (v c head : ℕ) → IsTrack (volumes.track v c head)

-- a command's argument is bytes
abbrev pub HasBytes : CallData → Type 0
HasBytes (ask code argument chained) = All (λ b. b < 256) argument
HasBytes _ = Unit {0}

-- a reply with a status and no bytes
abbrev pub HasNoBytes : ReplyData → Type 0
HasNoBytes (done status bytes) = bytes ≡ []
HasNoBytes _ = ⊥

-- ---- read-only volumes

-- the host knows whether the volume that it has mounted is read-only
abbrev pub KnowsMark : Volumes → HostState → Type 0
KnowsMark volumes host = (v : ℕ) (bind : Bool) → host.mounted ≡ Some (v, bind) → host.protected ≡ volumes.read_only v

-- each host does
abbrev pub KnowMarks : State → Type 0
KnowMarks s = (h : ℕ) → KnowsMark s.volumes (s.host h)

-- ---- sense

abbrev pub refusal_in : Outcome → Option UnitCheck
refusal_in (Ok e) = None
refusal_in (Err r) = Some r.check

abbrev pub check_of : Tracks → HostState → List ℕ → Result Command UnitCheck → Option UnitCheck
check_of tracks host argument (Ok command) = refusal_in (effect tracks (host_for_command command host) host.prior command argument)
check_of tracks host argument (Err check) = Some check

-- the unit check that a host's command ends with, where it ends with one
abbrev pub unit_check_of : State → ℕ → ℕ → List ℕ → Option UnitCheck
unit_check_of s h code argument =
    let host = with_open_chain (s.host h) in check_of (tracks_under s.volumes (s.host h)) host argument (admitted_command host code argument)

-- host h was told of a unit check: its chain has ended, and its sense says which
pub record IsChecked (check : UnitCheck) (h : ℕ) (replied : Replied) : Type 0 where
  pub reply_ : replied.0 ≡ done UNIT_CHECK []
  pub sense_ : (replied.1.host h).sense ≡ sense_of check
  pub chain_ : (replied.1.host h).chain_open ≡ false

-- ---- records searched for and read

-- the records of the track under host h
abbrev pub track_under : State → ℕ → List RecordData
track_under s h = tracks_under s.volumes (s.host h) (s.host h).head

-- record k of it, where R0 is record 0
abbrev pub record_under : State → ℕ → ℕ → Option RecordData
record_under s h k = record_at (track_under s h) (s.host h) k

-- record k of the track under host h is r, and none before it has its ID
pub record IsFirst (s : State) (h k : ℕ) (r : RecordData) : Type 0 where
  pub there : record_under s h k ≡ Some r
  pub long : length r.id ≡ 5
  pub earlier : (j : ℕ) (other : RecordData) → j < k → record_under s h j ≡ Some other → other.id ≢ r.id

-- host h has a volume, and its next command begins at the index
pub record IsAtIndex (s : State) (h : ℕ) : Type 0 where
  pub mounted_ : IsSome (s.host h).mounted
  pub index_ : (with_open_chain (s.host h)).position ≡ position.Start

-- host h searches so often for an ID, once more, and reads data, in one chain
abbrev pub search_and_read : ℕ → ℕ → List ℕ → List (ℕ × CallData)
search_and_read h times id = map (λ (call : CallData). (h, call)) (replicate times (ask 0x31 id true) ++ ask 0x31 id true ∷ ask 0x06 [] false ∷ [])

-- so many searches aren't met, and the next is; then the data of the record
abbrev pub met_and_read : ℕ → RecordData → List ReplyData
met_and_read times r = replicate times (done DONE []) ++ done MET [] ∷ done (status_of r) r.body ∷ []

-- a chain that searches for the record from the index on, and reads its data, gets them
abbrev pub IsReadBack : State → ℕ → ℕ → RecordData → Type 0
IsReadBack s h k r = replies_of s (search_and_read h k r.id) ≡ met_and_read k r

-- host h has a volume, and it is there
pub record HasVolume (s : State) (h : ℕ) : Type 0 where
  pub number : ℕ
  pub bind : Bool
  pub mounted_ : (s.host h).mounted ≡ Some (number, bind)
  pub there : IsSome (s.volumes.serial number)

-- the record behind which host h's next write count key data puts its own
abbrev pub met_by : State → ℕ → ℕ
met_by s h = prior_number (with_open_chain (s.host h)).prior

-- between s and t the track under host h got this record behind record k, and ends with it
pub record IsPutBehind (h k : ℕ) (new : RecordData) (s t : State) : Type 0 where
  pub inside : k ≤ length (track_under s h)
  pub track_ : track_under t h ≡ take k (track_under s h) ++ new ∷ []

-- none of the records 0 to k of the track under host h has this ID
abbrev pub IsNewId : State → ℕ → ℕ → List ℕ → Type 0
IsNewId s h k id = (j : ℕ) (other : RecordData) → j ≤ k → record_under s h j ≡ Some other → other.id ≢ id

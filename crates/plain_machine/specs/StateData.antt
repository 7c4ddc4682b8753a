-- What a plain state keeps, and the state that it stands for.
use Rattle.std.specs.Prelude.{◌≡◌, ℕ, Bool, false, List, [], length, slice_index_or, Option, Some, None, option_map}
use Rattle.channel_commands.specs.declared.call.Reply.{Reply}
use Rattle.channel_commands.specs.Views.{reply_of}
use Rattle.mss_base.specs.Geometry.{volume_cylinders}
use Rattle.ckd_track.specs.Data.{RecordData, Volumes}
use Rattle.ckd_plain.specs.declared.host.HostState.{HostState}
use Rattle.ckd_plain.specs.Data.{State}
use Rattle.ckd_plain.specs.Plain.{Answer, fresh_host, written_to}

-- a volume: its serial, whether it is read-only, and its tracks by cylinder and head
pub record VolumeData : Type 0 where
  pub serial : List ℕ
  pub read_only : Bool
  pub cylinders : List (List (List RecordData))

-- hosts and volumes, each at the place of its number
pub record StateData : Type 0 where
  pub hosts : List HostState
  pub volumes : List (Option VolumeData)

abbrev pub volume_at : List (Option VolumeData) → ℕ → Option VolumeData
volume_at volumes v = slice_index_or volumes v None

-- whether a volume is there that is read-only
abbrev pub is_read_only : Option VolumeData → Bool
is_read_only None = false
is_read_only (Some volume) = volume.read_only

abbrev pub track_of : Option VolumeData → ℕ → ℕ → List RecordData
track_of None c h = []
track_of (Some volume) c h = slice_index_or (slice_index_or volume.cylinders c []) h []

abbrev pub volumes_of : List (Option VolumeData) → Volumes
volumes_of volumes = record {
  serial = λ v. option_map (λ (x : VolumeData). x.serial) (volume_at volumes v);
  read_only = λ v. is_read_only (volume_at volumes v);
  track = λ v c h. track_of (volume_at volumes v) c h;
}

abbrev pub hosts_of : List HostState → ℕ → HostState
hosts_of hosts h = slice_index_or hosts h fresh_host

abbrev pub state_of : StateData → State
state_of s = record { volumes = volumes_of s.volumes; host = hosts_of s.hosts }

-- there are places for the hosts 1 to 8 and the volumes 0 to 31
pub record IsFull (s : StateData) : Type 0 where
  pub hosts : length s.hosts ≡ 9
  pub volumes : length s.volumes ≡ 32

-- there are places for the cylinders 0 to 403
pub record HasCylinders (v : VolumeData) : Type 0 where
  pub cylinders_ : length v.cylinders ≡ volume_cylinders

-- the answer to a host, and the volumes as it leaves them
pub record AnswersOn (a : Answer) (from : HostState) (old new : List (Option VolumeData)) (host : HostState) (reply : Reply) : Type 0 where
  pub reply_ : reply_of reply ≡ a.reply
  pub host_ : host ≡ a.host
  pub volumes : volumes_of new ≡ written_to (volumes_of old) from a.written
  pub length_ : length new ≡ length old

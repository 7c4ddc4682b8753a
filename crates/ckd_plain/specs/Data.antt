-- What a host sees of its track beside the records on it, and the state of the plain machine.
use Rattle.std.specs.Prelude.{ℕ, ◌-◌, ◌/◌, ◌%◌, List, [], ◌∷◌, ◌++◌, length, take, replicate}
use Rattle.ckd_track.specs.Data.{RecordData, Volumes}
use Rattle.ckd_plain.specs.declared.host.HostState.{HostState}

-- the two bytes of a number
abbrev pub two_bytes : ℕ → List ℕ
two_bytes n = n / 256 ∷ n % 256 ∷ []

-- CC HH R KL DL DL
abbrev pub count_of : RecordData → List ℕ
count_of r = r.id ++ length r.key ∷ two_bytes (length r.body)

-- the home address of the host's track, 00 CC HH
abbrev pub home_of : HostState → List ℕ
home_of host = 0 ∷ two_bytes host.cylinder ++ two_bytes host.head

-- R0 of the host's track, which stands on no list: its ID is CC HH 00, its data are eight zeros
abbrev pub record_zero : HostState → RecordData
record_zero host = record { id = two_bytes host.cylinder ++ two_bytes host.head ++ 0 ∷ []; key = []; body = replicate 8 0 }

-- the records of the host's track, R0 first, so that record k has place k
abbrev pub records_of : HostState → List RecordData → List RecordData
records_of host track = record_zero host ∷ track

-- bytes cut, or padded with zeros, to n
abbrev pub padded_bytes : ℕ → List ℕ → List ℕ
padded_bytes n bytes = take n bytes ++ replicate (n - length bytes) 0

-- the state of the plain machine: the volumes, and each host by its number
pub record State : Type 0 where
  pub volumes : Volumes
  pub host : ℕ → HostState

-- Faults of reading a track.
use Rattle.std.specs.Prelude.{◌≡◌, Some}
use Rattle.ckd_track.specs.Track.{Reading}
use Rattle.ckd_track.specs.declared.read.ReadTrackFault.{ReadTrackFault}
use Rattle.ckd_track.specs.declared.read.ReadTrackFault.TheVariants.{Bad, Memory}

-- the fault names the reading's bad record
abbrev pub IsFault : ReadTrackFault → Reading → Type 0
IsFault (Bad number cause) r = r.bad ≡ Some (record { number = number; cause = cause })
IsFault Memory r = Unit {0}

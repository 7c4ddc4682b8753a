-- A track has at most 97 records.
use Rattle.std.proofs.Common.{arith}
use Rattle.std.proofs.lemmas.Option.{slice_get_past}
use Rattle.ckd_track.specs.Track.{reading}
use Rattle.ckd_track.proofs.TrackFacts.{reading_length}
use Rattle.ckd_plain.specs.Data.{records_of}
use Rattle.track_engine.proofs.find.place_in.Goals as goal

pub returns-then-number-gt97 : goal.returns-then-number-gt97
returns-then-number-gt97 c =
    slice_get_past (records_of c.args.host.now (reading c.args.block.now).records) c.args.number (omega (arith, reading_length c.args.block.now))

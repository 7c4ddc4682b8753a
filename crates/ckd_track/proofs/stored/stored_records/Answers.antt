use Rattle.std.proofs.Common.{arith}
use Rattle.ckd_track.proofs.TrackFacts.{reading_track}
use Rattle.ckd_track.proofs.stored.stored_records.Goals as goal

pub returns-clause-track : goal.returns-clause-track
returns-clause-track c = reading_track c.args.block.now (λ i. omega (arith, c.type_inv.block i))

use Rattle.std.proofs.Common.{false, refl}
use Rattle.mss_audit.proofs.tracks.track_fault.Goals as goal

pub returns-clause-inspects : goal.returns-clause-inspects
returns-clause-inspects g c = record {
  devices = c.check_track_of.ensures.devices;
  counts = c.fault_found.ensures.counts _ _ c.check_track_of.ensures.counts;
  works = λ never. c.fault_found.ensures.works (c.check_track_of.ensures.works (λ cylinder head place on. ((λ _. false), never, refl)));
}

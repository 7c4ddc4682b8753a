use Rattle.std.proofs.Common.{◌≡◌, ◌<◌, ℕ, false}
use Rattle.core_state.specs.CoreValue.{seen_core}
use Rattle.core_state.specs.HostEvents.{IsSame}
use Rattle.quiet_events.specs.Quiet.{HasNoWork}
use Rattle.mss_run.specs.Sleep.{has_worker}
use Rattle.mss_run.proofs.held.Held.help.Given as goal

abbrev pub invariant-loop-number : goal.invariant-loop-number
invariant-loop-number g l = record {
  present : l.self.present ≡ l.initial.self.present;
  sleeps : l.self.sleeps ≡ l.initial.self.sleeps;
  chooser : l.self.session.core.chooser ≡ l.initial.self.session.core.chooser;
  same : IsSame g.S.Site.tells (seen_core g.S.Site l.initial.self.session.core) (seen_core g.S.Site l.self.session.core);
  nothing : (recorder : ℕ) → has_worker recorder l.self.present ≡ false → recorder < l.number → HasNoWork (seen_core g.S.Site l.self.session.core) recorder;
}

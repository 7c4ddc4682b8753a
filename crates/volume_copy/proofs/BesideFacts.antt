-- What events leave of a copier beside a core.
use Rattle.std.proofs.Common.{◌≤◌, ◌≡◌, ℕ, true, List, Option, Some, None, refl, sym, subst, arith}
use Rattle.std.specs.Prelude.{IfSome}
use Rattle.mss_base.specs.declared.site.Site.{Ghosts}
use Rattle.channel_commands.specs.Data.{CallData}
use Rattle.ckd_plain.specs.History.{EntryData}
use Rattle.core_state.specs.CoreValue.{CoreValue, seen_core, seen_site}
use Rattle.core_state.specs.HostEvents.{HostEvent, HostTold}
use Rattle.volume_copy.specs.Beside.{HostEventBeside, StandsBeside}
use Rattle.volume_copy.specs.Copies.{CopyData, FailedIn, IsInTime, IsOnTime, StandsFor}
use Rattle.volume_copy.proofs.FaultFacts.{FaultsFrom, failed_event}
use Rattle.volume_copy.specs.Steps.{KeepsStanding, LeavesCopy}

module _ {S C : Type 0} (g : Ghosts S) where
  -- behind no read
  pub event_unread : (old mid new : CoreValue S C) (h : ℕ) (call : CallData) (told : HostTold) → mid ≡ old → HostEvent g.tells (seen_core g mid) h call told (seen_core g new)
      → HostEventBeside g true old h call told new
  event_unread old mid new h call told same event =
      (seen_site g old.site, record { told = λ _. refl; unwritten = refl; later = omega arith }, subst (λ (v : CoreValue S C). HostEvent g.tells (seen_core g v) h call told (seen_core g new)) same event)

  module _ (v m w : CoreValue S C) (old mid new : CopyData) (before : KeepsStanding g v m old mid) (event : LeavesCopy g.tells mid (seen_core g m) (seen_core g w))
      (faults : FaultsFrom (seen_core g m) (seen_core g w)) (first : w.first_faults ≡ m.first_faults) (later : g.faults m.site ≤ g.faults w.site) (failed_on : FailedIn w (g.faults w.site) mid.state → FailedIn w (g.faults w.site) new.state)
      (stands_on : g.tells → StandsFor (g.told w.site) mid w → StandsFor (g.told w.site) new w) (on_time : IsInTime mid w.history → IsOnTime new w.history) where
    pub event_beside : StandsBeside g v old → StandsBeside g w new
    event_beside is = record {
      stands = λ tl. stands_on tl (event.stands tl (before.stands tl (is.stands tl)));
      time = on_time (event.time (before.time is.time));
      failed = failed_on (failed_event (seen_core g m) (seen_core g w) faults first later mid.state (before.failed is.failed));
    }

  -- an event that adds no entry
  pub work_beside : (v w : CoreValue S C) → ((c : CopyData) → LeavesCopy g.tells c (seen_core g v) (seen_core g w)) → w.history ≡ v.history → FaultsFrom (seen_core g v) (seen_core g w) → w.first_faults ≡ v.first_faults → g.faults v.site ≤ g.faults w.site
      → (copier : Option CopyData) → IfSome copier (StandsBeside g v) → IfSome copier (StandsBeside g w)
  work_beside v w event same faults first later None is = tt
  work_beside v w event same faults first later (Some c) is = record {
    stands = λ tl. (event c).stands tl (is.stands tl);
    time = subst (λ (history : List EntryData). IsOnTime c history) (sym same) is.time;
    failed = failed_event (seen_core g v) (seen_core g w) faults first later c.state is.failed;
  }

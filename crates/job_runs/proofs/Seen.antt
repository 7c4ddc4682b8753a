-- A core, where only so much of its devices is seen.
use Rattle.std.proofs.Common.{refl}
use Rattle.mss_base.specs.Configs.{ConfigData}
use Rattle.mss_base.specs.declared.site.Site.{Ghosts}
use Rattle.ckd_track.specs.Data.{Volumes}
use Rattle.core_state.specs.CoreValue.{CoreValue, CoreData, seen_core}
use Rattle.core_restart.specs.Begins.{Begins}
use Rattle.core_restart.specs.TakingUp.{BeginsWith}

module _ {S C : Type 0} (g : Ghosts S) (v : CoreValue S C) where
  abbrev there : CoreData
  there = seen_core g v

  pub begins_seen : (config : ConfigData) (chooser : C) → Begins config chooser (g.writes v.site) (g.faults v.site) v → Begins config tt (g.writes v.site) (g.faults v.site) there
  begins_seen config chooser is = record {
    config_ = is.config_;
    chooser_ = refl;
    used_ = is.used_;
    owners_ = is.owners_;
    moving_ = is.moving_;
    recency_ = is.recency_;
    no_requests = is.no_requests;
    no_tasks = is.no_tasks;
    empty = is.empty;
    at_home = is.at_home;
    rail_ = is.rail_;
    fresh = is.fresh;
    no_entries = is.no_entries;
    no_marks = is.no_marks;
    freed_none = is.freed_none;
    no_events = is.no_events;
    first_write_ = is.first_write_;
    first_faults_ = is.first_faults_;
    going = is.going;
  }

  pub with_seen : (config : ConfigData) (volumes : Volumes) → BeginsWith config volumes (g.told v.site) v → BeginsWith config volumes (g.told v.site) there
  with_seen config volumes is = record { opening_ = is.opening_; shows = is.shows; there = is.there; rising = is.rising; no_entries = is.no_entries }

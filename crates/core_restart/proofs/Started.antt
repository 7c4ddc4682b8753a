-- What a stop within a start leaves, however the start ends.
use Rattle.std.proofs.Common.{inl, inr, Result, Ok, Err, sym, subst}
use Rattle.mss_base.specs.Configs.{ConfigData, IsConfig}
use Rattle.shown_volumes.specs.declared.refused.Refused.{Refused}
use Rattle.shown_volumes.specs.declared.refused.Refused.TheVariants.{Stopped, Memory}
use Rattle.mss_restart.specs.declared.opening.Opened.{Opened}
use Rattle.core_state.specs.CoreValue.{DevicesSeen}
use Rattle.core_restart.specs.Opening.{IsUnsynced, OpensSynced, not_opened, opened}
use Rattle.core_restart.specs.TakingUp.{StartsOver, StopsStart, StopsSynced}
use Rattle.core_restart.proofs.Stopping.{leaves_same, leaves_unwritten, unchanged_image, unsynced_image}
use Rattle.core_restart.proofs.TakenUp.{Decides, leaves_front}

unsynced_stops : (config : ConfigData) (old new : DevicesSeen) (why : Refused) → IsUnsynced (Unit {0}) old new why → StopsStart config old.told new.told (Err why)
unsynced_stops config old new why (inl stays) =
    subst (λ (e : Refused). StopsStart config old.told new.told (Err e)) (sym stays.1)
    (inl (λ stop. unchanged_image old.told new.told (stays.0.told tt) stop.moment stop.since stop.until stop.tear))
unsynced_stops config old new why (inr failed) =
    subst (λ (e : Refused). StopsStart config old.told new.told (Err e)) (sym failed.1)
    (inl (λ stop. unsynced_image old.told new.told (failed.0.told tt) stop.moment stop.since stop.until stop.tear))

module _ (decides : Decides) (config : ConfigData) (whole : IsConfig config) (old new : DevicesSeen) where
  synced_stops : (answer : Result Opened Refused) → OpensSynced (Unit {0}) config old new answer → StopsSynced config old.told new.told
  synced_stops answer opens stop = record {
    faultless = λ none. leaves_front decides config old new answer (record { whole = whole; faultless = none; opens = opens }) stop;
    faulty = leaves_same config old new answer opens stop;
  }

  opened_stops : (answer : Result Opened Refused) → OpensSynced (Unit {0}) config old new answer → StopsStart config old.told new.told answer
  opened_stops (Ok rows) opens = synced_stops (Ok rows) opens
  opened_stops (Err (Stopped fault)) opens = inr (synced_stops (Err (Stopped fault)) opens)
  opened_stops (Err Memory) opens = inr (synced_stops (Err Memory) opens)
  opened_stops (Err e) opens = λ stop. leaves_unwritten config old new (Err e) opens stop (opens.told tt).opens.0

pub stops_start : Decides → (config : ConfigData) (old new : DevicesSeen) (answer : Result Opened Refused) → StartsOver config old new answer → StopsStart config old.told new.told answer
stops_start decides config old new answer is = elim is.restarts [
  | not_opened why refused stays ↦ subst (StopsStart config old.told new.told) (sym refused) (unsynced_stops config old new why stays)
  | opened opens ↦ opened_stops decides config is.whole old new answer opens
]

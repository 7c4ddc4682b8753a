-- What comes of a command that is run keeps all that a core keeps.
use Rattle.std.proofs.Common.{◌≡◌, inl, ℕ, ◌/◌, ◌≤◌, [], ◌∷◌, ◌++◌, length, Option, Some, None, refl, sym, subst}
use Rattle.std.specs.Prelude.{◌↔◌, IsSome, IsTrue}
use Rattle.mss_base.specs.Content.{SiteLog}
use Rattle.mss_base.specs.Places.{frame_block}
use Rattle.channel_commands.specs.declared.command.Command.{Command}
use Rattle.channel_commands.specs.Data.{CallData, command as ask, ReplyData, done, mounted, demounted, already_mounted, not_mounted, no_volume, in_chain, program_check, chain_limit, equipment_check, no_space, stopped}
use Rattle.ckd_plain.specs.declared.host.HostState.{HostState}
use Rattle.ckd_plain.specs.declared.unit_check.UnitCheck.TheVariants as check
use Rattle.ckd_plain.specs.Plain.{IsDone, host_after_check}
use Rattle.ckd_plain.specs.History.{keeps_fault}
use Rattle.fault_queue.specs.Requests.{put_request}
use Rattle.victim_choice.specs.Order.{order_after}
use Rattle.core_state.specs.declared.session.Event.TheVariants.{Host}
use Rattle.core_state.specs.CoreValue.{CoreValue, DevicesSeen}
use Rattle.core_state.specs.Counted.{IsEntryBehind}
use Rattle.core_state.specs.Devices.{FailRead, RunOn, FailOn}
use Rattle.core_state.specs.Entered.{core_with_entry}
use Rattle.core_state.specs.IsCore.{IsCore}
use Rattle.core_state.specs.Pins.{host_at, put_host}
use Rattle.core_state.specs.SessionData.{data_of}
use Rattle.core_state.specs.Steps.{entry_of}
use Rattle.core_state.specs.Tasks.{tasks_after}
use Rattle.core_state.specs.TheCore.{IsWhole}
use Rattle.core_state.proofs.BesideFacts.{beside_touched, whole_beside, whole_noted, counted_noted}
use Rattle.core_state.proofs.CountedFacts.{counted_entry, counted_halt}
use Rattle.core_state.proofs.HostFacts.{IsHost}
use Rattle.core_state.proofs.Moved.{whole_moved, counted_moved}
use Rattle.core_state.proofs.RuleWalks.{none_some, some_is}
use Rattle.host_events.specs.Replies.{after_answer, IsUpheld}
use Rattle.host_events.proofs.RuleFacts.{OnRun}
use Rattle.host_events.proofs.WholeRun.{done_goes_on, whole_run, whole_stopped, whole_check}

-- ---- entries

-- a reply of a command that was carried out keeps no fault
keeps_none : (r : ReplyData) → IsDone r → let none : Option ℕ = None in IsSome none ↔ IsTrue (keeps_fault r)
keeps_none (done status bytes) is = ((λ some_. some_), (λ keeps. keeps))
keeps_none mounted is = absurd is
keeps_none demounted is = absurd is
keeps_none already_mounted is = absurd is
keeps_none not_mounted is = absurd is
keeps_none no_volume is = absurd is
keeps_none in_chain is = absurd is
keeps_none program_check is = absurd is
keeps_none chain_limit is = absurd is
keeps_none equipment_check is = absurd is
keeps_none no_space is = absurd is
keeps_none stopped is = absurd is

-- ---- a site on which nothing was written

pub upheld_moved : (S : Type 0) {C : Type 0} (tells : Type 0) (v : CoreValue S C) (s t : SiteLog) (writes faults writes' faults' : ℕ) (x : S) → IsUpheld tells s writes faults v
    → (tells → t ≡ s) → writes' ≡ writes → faults' ≡ faults → IsUpheld tells t writes' faults' (record v { site = x })
upheld_moved S tells v s t writes faults writes' faults' x up same unwritten sound = record {
  whole = whole_moved S tells s t v x up.whole same;
  counted = counted_moved S v writes faults writes' faults' x unwritten sound up.counted;
}

-- ---- a command on its frame

module _ (S : Type 0) {C : Type 0} (tells : Type 0) (v : CoreValue S C) (old new : DevicesSeen) (up : IsUpheld tells old.told old.writes old.faults v) (h : ℕ) (low : IsHost h) (call : CallData)
    (c : Command) (volume frame : ℕ) (on : OnRun v h call c volume frame) (x : S) (more : old.writes ≤ new.writes) (later : old.faults ≤ new.faults)
    (counts : tells → new.writes ≡ length new.told.log) where
  core : IsCore v
  core = up.whole.kept on.goes.going

  abbrev asked : CallData
  asked = ask on.asks.code on.asks.argument on.asks.chained

  -- the core with the entry
  abbrev run_entered : ReplyData → HostState → CallData → CoreValue S C
  run_entered reply now k = core_with_entry v x (entry_of v.history h k reply None) new.writes (put_host v.hosts h now) (put_request v.requests h None) (tasks_after c volume ((host_at v.hosts h).cylinder / 8) v.tasks) v.stopped

  abbrev check_entered : CallData → CoreValue S C
  check_entered k = core_with_entry v x (entry_of v.history h k equipment_check (Some new.faults)) new.writes (put_host v.hosts h (host_after_check check.EquipmentCheck (host_at v.hosts h))) (put_request v.requests h None) v.tasks v.stopped

  abbrev stop_entered : CallData → CoreValue S C
  stop_entered k = core_with_entry v x (entry_of v.history h k stopped (Some new.faults)) new.writes v.hosts v.requests v.tasks (Some new.faults)

  behind : (reply : ReplyData) (fault : Option ℕ) → IsSome fault ↔ IsTrue (keeps_fault reply) → IsEntryBehind v.history (entry_of v.history h call reply fault)
  behind reply fault keeps = record { number = refl; fault = keeps }

  -- it is replied
  pub upheld_run : (reply : ReplyData) (now : HostState)
      → RunOn tells (record {
        host = host_at v.hosts h;
        at = frame_block frame (host_at v.hosts h).cylinder 0;
        command = c;
        argument = on.asks.argument;
        chained = on.asks.chained;
      }) old new (reply, now)
      → IsUpheld tells new.told new.writes new.faults
      (after_answer (record v { site = x; recency = order_after frame v.recency; tasks = tasks_after c volume ((host_at v.hosts h).cylinder / 8) v.tasks }) new.writes h call None (reply, now))
  upheld_run reply now ran = record {
    whole = whole_beside (run_entered reply now call) (order_after frame v.recency) v.recorders v.store v.rail (v.events ++ Host h ∷ []) tells new.told whole_ whole_.shaped.recorders_
        (λ none. beside_touched v.config.frames v.config.recorders v.recency v.recorders v.store frame on.below core.beside);
    counted = counted_noted new.writes new.faults _ _ (v.events ++ Host h ∷ [])
        (counted_entry old.writes old.faults new.writes new.faults v.requests (data_of v) up.counted more later on.goes.going (entry_of v.history h call reply None) h None core.requests_
        (behind reply None (keeps_none reply ran.done_)) (done_goes_on reply ran.done_) (λ fault is. absurd (none_some fault is)) refl);
  }
    where
      whole_ : IsWhole tells new.told (run_entered reply now call)
      whole_ = subst (λ (k : CallData). IsWhole tells new.told (run_entered reply now k)) (sym on.asks.is)
          (whole_run S tells old.told v up.whole h low call c volume frame on new.told x new.writes counts reply now ran.mounted_ ran.done_ ran.reply_ ran.host_ ran.moments ran.exact ran.firm)

  -- a read failed
  pub upheld_check : FailRead tells old new
      → IsUpheld tells new.told new.writes new.faults (after_answer (record v { site = x }) new.writes h call (Some new.faults) (equipment_check, host_after_check check.EquipmentCheck (host_at v.hosts h)))
  upheld_check failed = record {
    whole = whole_noted tells new.told (check_entered call) (v.events ++ Host h ∷ []) whole_;
    counted = counted_noted new.writes new.faults _ _ (v.events ++ Host h ∷ [])
        (counted_entry old.writes old.faults new.writes new.faults v.requests (data_of v) up.counted more later on.goes.going (entry_of v.history h call equipment_check (Some new.faults)) h None core.requests_
        (behind equipment_check (Some new.faults) ((λ some_. refl), (λ keeps. refl))) (λ stops. stops)
        (λ fault is. inl (record { count = sym (some_is new.faults fault is); rises = failed.failed })) refl);
  }
    where
      whole_ : IsWhole tells new.told (check_entered call)
      whole_ = subst (λ (k : CallData). IsWhole tells new.told (check_entered k)) (sym on.asks.is)
          (whole_check S tells old.told v up.whole h low call c volume frame on new.told x new.writes counts new.faults failed.told)

  -- a write of the devices failed
  pub upheld_stop : (fault : ℕ)
      → FailOn tells (record {
        host = host_at v.hosts h;
        at = frame_block frame (host_at v.hosts h).cylinder 0;
        command = c;
        argument = on.asks.argument;
        chained = on.asks.chained;
      }) fault old new
      → IsUpheld tells new.told new.writes new.faults
      (record (core_with_entry v x (entry_of v.history h call stopped (Some new.faults)) new.writes v.hosts v.requests v.tasks (Some new.faults)) { events = v.events ++ Host h ∷ [] })
  upheld_stop fault failed = record {
    whole = whole_noted tells new.told (stop_entered call) (v.events ++ Host h ∷ []) whole_;
    counted = counted_noted new.writes new.faults _ _ (v.events ++ Host h ∷ [])
        (counted_halt old.writes old.faults new.writes new.faults v.requests (data_of v) up.counted more later on.goes.going (record { count = refl; rises = failed.cause.rises })
        (entry_of v.history h call stopped (Some new.faults)) (behind stopped (Some new.faults) ((λ some_. refl), (λ keeps. refl))) tt refl);
  }
    where
      whole_ : IsWhole tells new.told (stop_entered call)
      whole_ = subst (λ (k : CallData). IsWhole tells new.told (stop_entered k)) (sym on.asks.is)
          (whole_stopped S tells old.told v up.whole h low call c volume frame on new.told x new.writes counts new.faults failed.write failed.moments)

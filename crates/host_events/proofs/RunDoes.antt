-- What comes of a command that is run is what the event of its rule says.
use Rattle.std.proofs.Common.{◌≡◌, ℕ, ◌+◌, ◌≤◌, Bool, false, List, length, Option, None, sym, ◌∙◌, subst}
use Rattle.mss_base.specs.Content.{SiteLog, Settles, content}
use Rattle.mss_base.specs.Counts.{Rises}
use Rattle.channel_commands.specs.Codes.{is_write}
use Rattle.channel_commands.specs.Data.{CallData, command as ask, ReplyData, done, mounted, demounted, already_mounted, not_mounted, no_volume, in_chain, program_check, chain_limit, equipment_check, no_space, stopped}
use Rattle.channel_commands.specs.declared.command.Command.{Command}
use Rattle.ckd_track.specs.Data.{RecordData}
use Rattle.ckd_track.specs.Track.{reading}
use Rattle.ckd_plain.specs.declared.host.HostState.{HostState}
use Rattle.ckd_plain.specs.Plain.{IsDone, with_open_chain}
use Rattle.ckd_plain.proofs.CommandFacts.{only_writes}
use Rattle.track_engine.specs.Tracks.{tracks_at}
use Rattle.track_engine.specs.Writing.{WritesTrack, HoldsWritten, most_writes}
use Rattle.core_state.specs.CoreValue.{CoreData, DevicesSeen}
use Rattle.core_state.specs.Devices.{StillHold, FailRead, Run, RunOn, FailOn, WritesFor, UpdatesNothing, answer_on, track_under}
use Rattle.core_state.specs.HostEvents.{run_of, page_under, replied, halts, FrameUse, RunsIt}
use Rattle.host_events.specs.Parts.{IsUnfailed}
use Rattle.core_state.specs.Steps.{after_reply, after_stop, after_use}

-- ---- the devices before room was made on them

module _ (tells : Type 0) (old mid new : DevicesSeen) (told : tells → mid.told ≡ old.told) (unwritten : mid.writes ≡ old.writes) (sound : mid.faults ≡ old.faults) where
  seen_from : (F : DevicesSeen → Type 0) → tells → F mid → F old
  seen_from F tl f = subst F (λ i. record { told = told tl i; writes = unwritten i; faults = sound i }) f

  pub still_from : StillHold tells mid new → StillHold tells old new
  still_from still = record {
    told = λ tl. still.told tl ∙ told tl;
    unwritten = still.unwritten ∙ unwritten;
    sound = still.sound ∙ sound;
  }

  pub read_from : FailRead tells mid new → FailRead tells old new
  read_from failed = record {
    told = λ tl. failed.told tl ∙ told tl;
    unwritten = failed.unwritten ∙ unwritten;
    failed = subst (λ (n : ℕ). Rises n new.faults) sound failed.failed;
  }

  pub run_from : (r : Run) (answer : ReplyData × HostState) → RunOn tells r mid new answer → RunOn tells r old new answer
  run_from r answer ran = record {
    done_ = ran.done_;
    mounted_ = ran.mounted_;
    chain = ran.chain;
    reply_ = λ tl. seen_from (λ d. answer.0 ≡ (answer_on r (content d.told)).reply) tl (ran.reply_ tl);
    host_ = λ tl. seen_from (λ d. answer.1 ≡ (answer_on r (content d.told)).host) tl (ran.host_ tl);
    moments = λ tl. seen_from (λ d. WritesFor r d.told new.told) tl (ran.moments tl);
    exact = λ tl. seen_from (λ d. HoldsWritten (answer_on r (content d.told)).written (reading (track_under r (content new.told)))) tl (ran.exact tl);
    firm = λ tl. seen_from (λ d. Settles d.told new.told) tl (ran.firm tl);
    later = subst (λ (n : ℕ). n ≤ new.writes) unwritten ran.later;
    few = λ tl. seen_from (λ d. length new.told.log ≤ length d.told.log + most_writes r.command) tl (ran.few tl);
    looks = λ reads. ran.looks reads ∙ unwritten;
    refused = λ checks. ran.refused checks ∙ unwritten;
    untouched = λ tl nothing. ran.untouched tl (subst (λ (s : SiteLog). UpdatesNothing r (content s)) (sym (told tl)) nothing) ∙ unwritten;
    sound = ran.sound ∙ sound;
  }

  pub stop_from : (r : Run) (fault : ℕ) → FailOn tells r fault mid new → FailOn tells r fault old new
  stop_from r fault failed = record {
    write = failed.write;
    moments = λ tl. seen_from (λ d. WritesFor r d.told new.told) tl (failed.moments tl);
    few = λ tl. seen_from (λ d. length new.told.log ≤ length d.told.log + most_writes r.command) tl (failed.few tl);
    wrote = subst (λ (n : ℕ). Rises n new.writes) unwritten failed.wrote;
    cause = record { count = failed.cause.count; rises = subst (λ (n : ℕ). Rises n new.faults) sound failed.cause.rises };
  }

-- a search or read has written nothing
pub look_is_still : (tells : Type 0) (r : Run) (old new : DevicesSeen) (answer : ReplyData × HostState) → is_write r.command ≡ false → RunOn tells r old new answer → StillHold tells old new
look_is_still tells r old new answer reads ran = record {
  told = λ tl.
      subst (λ (w : Option (List RecordData)). WritesTrack r.command (with_open_chain r.host) r.at.unit r.at.block old.told new.told w)
      (only_writes (tracks_at (content old.told) r.at.unit r.at.block) (with_open_chain r.host) r.command r.argument r.chained reads) (ran.moments tl);
  unwritten = ran.looks reads;
  sound = ran.sound;
}

-- ---- the events

module _ (tells : Type 0) (core core' : CoreData) (h : ℕ) (call : CallData) (c : Command) (volume frame code : ℕ) (argument : List ℕ) (chained : Bool) (is : call ≡ ask code argument chained) where
  abbrev at : FrameUse
  at = record { command = c; volume = volume; frame = frame }

  -- the command is replied
  pub run_does : (index : ℕ) (reply : ReplyData) (host : HostState) → RunOn tells (run_of core h frame c argument chained) core.site core'.site (reply, host) → index ≡ length core.history
      → core' ≡ after_reply core'.site h call None (reply, host) (after_use c (page_under core h volume) frame core) → RunsIt tells core h call at (replied index reply) core'
  run_does index reply host ran place after =
      subst (λ (k : CallData). RunsIt tells core h k at (replied index reply) core') (sym is)
      (by reply ran ran.done_ (subst (λ (k : CallData). core' ≡ after_reply core'.site h k None (reply, host) (after_use c (page_under core h volume) frame core)) is after))
    where
      by : (r : ReplyData) → RunOn tells (run_of core h frame c argument chained) core.site core'.site (r, host) → IsDone r
          → core' ≡ after_reply core'.site h (ask code argument chained) None (r, host) (after_use c (page_under core h volume) frame core) → RunsIt tells core h (ask code argument chained) at (replied index r) core'
      by (done status bytes) on is_done leaves = (host, on, place, leaves)
      by mounted on is_done leaves = absurd is_done
      by demounted on is_done leaves = absurd is_done
      by already_mounted on is_done leaves = absurd is_done
      by not_mounted on is_done leaves = absurd is_done
      by no_volume on is_done leaves = absurd is_done
      by in_chain on is_done leaves = absurd is_done
      by program_check on is_done leaves = absurd is_done
      by chain_limit on is_done leaves = absurd is_done
      by equipment_check on is_done leaves = absurd is_done
      by no_space on is_done leaves = absurd is_done
      by stopped on is_done leaves = absurd is_done

  -- a write of the devices failed
  pub stop_does : (fault : ℕ) → FailOn tells (run_of core h frame c argument chained) fault core.site core'.site → core' ≡ after_stop core'.site h call core → RunsIt tells core h call at (halts fault) core'
  stop_does fault failed after =
      subst (λ (k : CallData). RunsIt tells core h k at (halts fault) core') (sym is) (failed, subst (λ (k : CallData). core' ≡ after_stop core'.site h k core) is after)

-- a reply of a command that was done is none of a failed call
pub done_is_unfailed : (index : ℕ) (reply : ReplyData) → IsDone reply → IsUnfailed (replied index reply)
done_is_unfailed index equipment_check is_done = absurd is_done
done_is_unfailed index reply is_done = tt

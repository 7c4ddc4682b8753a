-- A core is whole after a search, read or write on its frame.
use Rattle.std.proofs.Common.{◌≡◌, inl, inr, ℕ, ◌+◌, ◌/◌, Bool, true, false, cond, ◌&&◌, ◌||◌, List, length, Option, Some, None, Ok, refl, sym, ◌∙◌, ap, subst}
use Rattle.std.specs.Prelude.{IsTrue}
use Rattle.std.proofs.lemmas.Bool.{and_parts, and_from, eq-eqb, cases_Bool, cond-true, cond-false}
use Rattle.mss_base.specs.Content.{SiteLog, Settles, content}
use Rattle.mss_base.specs.Places.{frame_block}
use Rattle.ckd_track.specs.Data.{RecordData}
use Rattle.ckd_track.specs.Track.{reading, reading_of}
use Rattle.channel_commands.specs.declared.command.Command.{Command}
use Rattle.channel_commands.specs.Codes.{is_write}
use Rattle.channel_commands.specs.Data.{CallData, command as ask, ReplyData, done, mounted, demounted, already_mounted, not_mounted, no_volume, in_chain, program_check, chain_limit, equipment_check, no_space, stopped}
use Rattle.ckd_plain.specs.declared.host.HostState.{HostState}
use Rattle.ckd_plain.specs.Checks.{admitted_command, Passes}
use Rattle.ckd_plain.specs.Effects.{is_data}
use Rattle.ckd_plain.specs.Plain.{Answer, IsDone, with_open_chain, host_after_check}
use Rattle.ckd_plain.specs.declared.unit_check.UnitCheck.TheVariants as check
use Rattle.ckd_plain.specs.History.{IsAlone, IsStopped}
use Rattle.volume_table.specs.Listed.{row_in_list}
use Rattle.track_engine.specs.Tracks.{AreTracks}
use Rattle.track_engine.specs.Answers.{ran}
use Rattle.track_engine.specs.Writing.{WritesTrack, HoldsWritten}
use Rattle.fault_queue.specs.declared.queue.Request.{Request}
use Rattle.fault_queue.specs.Requests.{request_of, put_request}
use Rattle.core_state.specs.CoreValue.{CoreValue}
use Rattle.core_state.specs.Pins.{host_at, put_host, is_on, asks_for, owns}
use Rattle.core_state.specs.Tasks.{AreTasks, tasks_after, touched_all}
use Rattle.core_state.specs.IsCore.{IsCore}
use Rattle.core_state.specs.TheCore.{IsWhole}
use Rattle.core_state.specs.Entered.{core_with_entry, plain_of, Enters}
use Rattle.core_state.specs.Fitting.{IsReadyOn}
use Rattle.core_state.specs.Steps.{entry_of}
use Rattle.core_state.proofs.CoreFacts.{sound_of}
use Rattle.core_state.proofs.Fitting.{ready_touched, length_touched}
use Rattle.core_state.proofs.HostFacts.{host_fits, IsHost}
use Rattle.core_state.proofs.HostRequests.{is_on-some}
use Rattle.core_state.proofs.HostTasks.{tasks_with_host, tasks_touched}
use Rattle.core_state.proofs.RuleWalks.{some_is, none_some}
use Rattle.core_state.proofs.WholeEvents.{whole_entry, whole_halt}
use Rattle.host_events.proofs.RuleFacts.{OnRun}
use Rattle.host_events.proofs.RunEvents.{run_enters, stop_enters, check_enters}
use Rattle.host_events.proofs.Staged.{unit_of, first_of, first_is, are_tracks}

-- what comes of a command on some blocks
abbrev both : Answer → ReplyData × HostState
both a = (a.reply, a.host)

pub done_goes_on : (r : ReplyData) → IsDone r → IsStopped r → ⊥
done_goes_on (done status bytes) is stops = stops
done_goes_on mounted is stops = is
done_goes_on demounted is stops = is
done_goes_on already_mounted is stops = is
done_goes_on not_mounted is stops = is
done_goes_on no_volume is stops = is
done_goes_on in_chain is stops = is
done_goes_on program_check is stops = is
done_goes_on chain_limit is stops = is
done_goes_on equipment_check is stops = is
done_goes_on no_space is stops = is
done_goes_on stopped is stops = is

-- the new track is the one that the block holds
holds_all : (w : Option (List RecordData)) (block : List ℕ) → HoldsWritten w (reading block) → (track : List RecordData) → w ≡ Some track → reading block ≡ reading_of track
holds_all None block holds track is = absurd (none_some track is)
holds_all (Some old) block holds track is = holds ∙ ap reading_of (some_is old track is)

module _ (S : Type 0) {C : Type 0} (tells : Type 0) (s : SiteLog) (v : CoreValue S C) (whole : IsWhole tells s v) (h : ℕ) (low : IsHost h) (call : CallData)
    (c : Command) (volume frame : ℕ) (on : OnRun v h call c volume frame) where
  abbrev host : HostState
  host = host_at v.hosts h

  abbrev code : ℕ
  code = on.asks.code

  abbrev argument : List ℕ
  argument = on.asks.argument

  abbrev chained : Bool
  chained = on.asks.chained

  core : IsCore v
  core = whole.kept on.goes.going

  admits : admitted_command (with_open_chain (host_at v.hosts h)) on.asks.code on.asks.argument ≡ Ok c
  admits = on.asks.admits ∙ ap Ok on.same

  pub passes : Passes (with_open_chain (host_at v.hosts h)) c on.asks.argument
  passes = subst (λ (k : Command). Passes (with_open_chain (host_at v.hosts h)) k on.asks.argument) on.same on.asks.passes

  pub data_ : is_data c ≡ true
  data_ = ap is_data (sym on.same) ∙ on.asks.data_

  alone : tells → IsAlone (plain_of s v) h (ask on.asks.code on.asks.argument on.asks.chained)
  alone t other volume bind bind' mine theirs chain =
      let hosts = ((whole.told t).going on.goes.going).hosts_ in
      let own : (host_at v.hosts h).mounted ≡ Some (volume, bind) = (λ i. (sym hosts i h).mounted) ∙ mine in
      let its : (host_at v.hosts other).mounted ≡ Some (volume, bind') = (λ i. (sym hosts i other).mounted) ∙ theirs in
      let chained_ : (host_at v.hosts other).chain_open ≡ true = (λ i. (sym hosts i other).chain_open) ∙ chain in
      on.asks.free volume bind own other (and_from _ _ (ap (is_on volume) its ∙ eq-eqb volume volume refl) (ap (λ (b : Bool). b || asks_for volume (request_of v.requests other)) chained_))

  mine : (now : HostState) → now.mounted ≡ host.mounted → (request : Option Request) → (volume : ℕ) → (is_on volume now.mounted && (now.chain_open || asks_for volume request)) ≡ true
      → (other : ℕ) → owns v.hosts v.requests other volume ≡ true → other ≡ h
  mine now same request volume is other theirs =
      let parts = and_parts (is_on volume now.mounted) (now.chain_open || asks_for volume request) is in
      let there = is_on-some volume host.mounted (ap (is_on volume) (sym same) ∙ parts.0) in
      on.asks.free volume there.0 there.1 other theirs

  -- the tasks with the host as it is then, and no request
  tasks_with : (now : HostState) → now.mounted ≡ host.mounted → AreTasks v.config.frames (row_in_list v.rows) v.moving (put_request v.requests h None) (put_host v.hosts h now) v.tasks
  tasks_with now same =
      tasks_with_host v.config.frames (row_in_list v.rows) v.moving v.requests v.hosts v.tasks core.tasks_ h now None (host_fits v.hosts h low core.hosts_) core.requests_ on.quiet (λ q none. absurd cc)
      (λ volume is. inl (sym same ∙ is))

  tasks_run : (now : HostState) → now.mounted ≡ host.mounted → AreTasks v.config.frames (row_in_list v.rows) v.moving (put_request v.requests h None) (put_host v.hosts h now) (tasks_after c volume (host.cylinder / 8) v.tasks)
  tasks_run now same = elim (cases_Bool (is_write c)) [
    | inl w ↦ subst (AreTasks v.config.frames (row_in_list v.rows) v.moving (put_request v.requests h None) (put_host v.hosts h now)) (sym (cond-true (is_write c) _ _ w))
        (tasks_touched v.config.frames (row_in_list v.rows) v.moving (put_request v.requests h None) (put_host v.hosts h now) v.tasks (tasks_with now same) volume (host.cylinder / 8))
    | inr none ↦ subst (AreTasks v.config.frames (row_in_list v.rows) v.moving (put_request v.requests h None) (put_host v.hosts h now)) (sym (cond-false (is_write c) _ _ none)) (tasks_with now same)
  ]

  after_long : length (tasks_after c volume (host.cylinder / 8) v.tasks) ≡ length v.tasks
  after_long = by_write (is_write c)
    where
      by_write : (b : Bool) → length (cond b (touched_all volume (host.cylinder / 8) v.tasks) v.tasks) ≡ length v.tasks
      by_write true = length_touched volume (host.cylinder / 8) v.tasks
      by_write false = refl

  after_kept : (q : Request) → IsReadyOn (row_in_list v.rows) v.tasks q → IsReadyOn (row_in_list v.rows) (tasks_after c volume (host.cylinder / 8) v.tasks) q
  after_kept q is = by_write (is_write c)
    where
      by_write : (b : Bool) → IsReadyOn (row_in_list v.rows) (cond b (touched_all volume (host.cylinder / 8) v.tasks) v.tasks) q
      by_write true = ready_touched (row_in_list v.rows) v.tasks q volume (host.cylinder / 8) is
      by_write false = is

  -- the blocks are tracks
  pub runs_on_tracks : tells → AreTracks (content s) (frame_block frame (host_at v.hosts h).cylinder 0).unit (frame_block frame (host_at v.hosts h).cylinder 0).block
  runs_on_tracks t =
      let told = whole.told t in
      let row = ap (λ rows. rows volume) (told.going on.goes.going).rows_ ∙ on.at.row in
      subst (AreTracks (content s) (unit_of frame)) (sym (first_is frame host.cylinder))
      (are_tracks v.config.frames (content s) (sound_of S s v told) volume host.cylinder frame on.r row on.at.frame_ on.at.staged on.at.at_most on.at.low)

  abbrev first : ℕ
  first = (frame_block frame (host_at v.hosts h).cylinder 0).block

  -- a command was run on these blocks
  module _ (t : SiteLog) (x : S) (m : ℕ) (mark : tells → m ≡ length t.log) where
    pub whole_run : (reply : ReplyData) (now : HostState) → now.mounted ≡ (host_at v.hosts h).mounted → IsDone reply
        → (tells → reply ≡ (ran (content s) (unit_of frame) (frame_block frame (host_at v.hosts h).cylinder 0).block (host_at v.hosts h) c on.asks.argument on.asks.chained).reply)
        → (tells → now ≡ (ran (content s) (unit_of frame) (frame_block frame (host_at v.hosts h).cylinder 0).block (host_at v.hosts h) c on.asks.argument on.asks.chained).host)
        → (tells → WritesTrack c (with_open_chain (host_at v.hosts h)) (unit_of frame) (frame_block frame (host_at v.hosts h).cylinder 0).block s t
        (ran (content s) (unit_of frame) (frame_block frame (host_at v.hosts h).cylinder 0).block (host_at v.hosts h) c on.asks.argument on.asks.chained).written)
        → (tells → HoldsWritten (ran (content s) (unit_of frame) (frame_block frame (host_at v.hosts h).cylinder 0).block (host_at v.hosts h) c on.asks.argument on.asks.chained).written
        (reading (content t (unit_of frame) ((frame_block frame (host_at v.hosts h).cylinder 0).block + (host_at v.hosts h).head))))
        → (tells → Settles s t)
        → IsWhole tells t (core_with_entry v x (entry_of v.history h (ask on.asks.code on.asks.argument on.asks.chained) reply None) m (put_host v.hosts h now) (put_request v.requests h None)
        (tasks_after c volume ((host_at v.hosts h).cylinder / 8) v.tasks) v.stopped)
    whole_run reply now same is_done answer left writes exact firm =
        whole_entry S v core h low now None (λ q none. absurd cc) (λ q none queued. absurd cc) (mine now same None) tells s t x _ m (tasks_after c volume (host.cylinder / 8) v.tasks) whole on.goes.going on.goes.few
        (tasks_run now same) after_long after_kept (λ w is. core.fit.mounted_ h w (ap (is_on w) (sym same) ∙ is)) (λ q none. absurd cc) enters mark (done_goes_on reply is_done)
      where
        enters : tells → Enters v.config.frames v.rows (plain_of s v) v.history (entry_of v.history h (ask on.asks.code on.asks.argument on.asks.chained) reply None) (put_host v.hosts h now)
            (tasks_after c volume ((host_at v.hosts h).cylinder / 8) v.tasks) s t
        enters tl =
            let place : first ≡ first_of frame host.cylinder = first_is frame host.cylinder in
            let w = subst (λ (n : ℕ). WritesTrack c (with_open_chain host) (unit_of frame) n s t (ran (content s) (unit_of frame) n host c argument chained).written) place (writes tl) in
            let ex = subst (λ (n : ℕ). HoldsWritten (ran (content s) (unit_of frame) n host c argument chained).written (reading (content t (unit_of frame) (n + host.head)))) place (exact tl) in
            let an : ◌≡◌ {A = ReplyData × HostState} (reply, now) _ = (λ i. (answer tl i, left tl i)) ∙ ap (λ (n : ℕ). both (ran (content s) (unit_of frame) n host c argument chained)) place in
            subst (λ (p : ReplyData × HostState). Enters v.config.frames v.rows (plain_of s v) v.history (entry_of v.history h (ask code argument chained) p.0 None) (put_host v.hosts h p.1) (tasks_after c volume (host.cylinder / 8) v.tasks) s t) (sym an)
            (run_enters S s t v (whole.told tl) core on.goes.going h low code argument chained c admits passes (alone tl) volume frame on.bind on.r on.at on.changed w (holds_all _ _ ex) (firm tl))

    -- a failed write stops the core
    pub whole_stopped : (fault : ℕ) → IsTrue (is_write c)
        → (tells → WritesTrack c (with_open_chain (host_at v.hosts h)) (unit_of frame) (frame_block frame (host_at v.hosts h).cylinder 0).block s t
        (ran (content s) (unit_of frame) (frame_block frame (host_at v.hosts h).cylinder 0).block (host_at v.hosts h) c on.asks.argument on.asks.chained).written)
        → IsWhole tells t (core_with_entry v x (entry_of v.history h (ask on.asks.code on.asks.argument on.asks.chained) stopped (Some fault)) m v.hosts v.requests v.tasks (Some fault))
    whole_stopped fault write_ writes = whole_halt S tells s t v x _ m fault whole on.goes.going on.goes.few
        (λ tl.
        let w = subst (λ (n : ℕ). WritesTrack c (with_open_chain host) (unit_of frame) n s t (ran (content s) (unit_of frame) n host c argument chained).written) (first_is frame host.cylinder) (writes tl) in
        stop_enters S s t v (whole.told tl) core on.goes.going h low code argument chained c admits passes (alone tl) volume frame on.bind on.r on.at on.changed write_ w fault v.hosts v.tasks)
        mark

    -- a failed read is an equipment check
    pub whole_check : (fault : ℕ) → (tells → t ≡ s)
        → IsWhole tells t (core_with_entry v x (entry_of v.history h (ask on.asks.code on.asks.argument on.asks.chained) equipment_check (Some fault)) m
        (put_host v.hosts h (host_after_check check.EquipmentCheck (host_at v.hosts h))) (put_request v.requests h None) v.tasks v.stopped)
    whole_check fault same =
        let now : HostState = host_after_check check.EquipmentCheck (host_at v.hosts h) in
        whole_entry S v core h low now None (λ q none. absurd cc) (λ q none queued. absurd cc) (mine now refl None) tells s t x _ m v.tasks whole on.goes.going on.goes.few
        (tasks_with now refl) refl (λ q is. is) (core.fit.mounted_ h) (λ q none. absurd cc)
        (λ tl. check_enters S s t v (whole.told tl) core on.goes.going h low code argument chained c admits passes (alone tl) volume frame on.bind on.r on.at on.changed data_ (same tl) fault)
        mark (λ stops. stops)

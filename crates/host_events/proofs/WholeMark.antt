-- A core is whole after a staged cylinder became changed for a write.
use Rattle.std.proofs.Common.{◌≡◌, ◌≢◌, ◌⊎◌, inl, inr, ℕ, ◌/◌, ◌≤◌, ◌<◌, Bool, true, ◌||◌, ◌==◌, List, [], ◌∷◌, ◌++◌, length, Option, Some, None, Ok, refl, sym, ◌∙◌, ap, subst, arith}
use Rattle.std.specs.Prelude.{slice_set, is_some, IsSome}
use Rattle.std.proofs.lemmas.Bool.{eq-eqb, and_from, false≢true, cond-true}
use Rattle.mss_base.specs.Content.{SiteLog, content, Writes}
use Rattle.mss_base.proofs.Moments.{weaker}
use Rattle.channel_commands.specs.declared.command.Command.{Command}
use Rattle.channel_commands.specs.Codes.{is_write}
use Rattle.channel_commands.specs.Data.{CallData, command as ask, stopped}
use Rattle.ckd_plain.specs.declared.host.HostState.{HostState}
use Rattle.ckd_plain.specs.Checks.{admitted_command}
use Rattle.ckd_plain.specs.Plain.{with_open_chain}
use Rattle.ckd_plain.specs.History.{EntryData}
use Rattle.ckd_plain.specs.Near.{unchanged}
use Rattle.volume_table.specs.Listed.{row_in_list}
use Rattle.core_state.specs.Agrees.{UnderHost}
use Rattle.core_state.specs.Steps.{entry_of}
use Rattle.core_state.proofs.WholeEvents.{whole_halt}
use Rattle.host_events.specs.Parts.{ready_for}
use Rattle.volume_table.specs.Row.{RowValue, IsRow, frame_of, state_of}
use Rattle.volume_table.specs.Changes.{with_state}
use Rattle.volume_table.specs.declared.changes.Change.TheVariants.{Changed}
use Rattle.volume_table.proofs.RowLemmas.{row-with_state}
use Rattle.table_pair.specs.Pair.{ChangesRow, OldOrNew}
use Rattle.table_pair.specs.Slots.{IsChanged, used_after, used_at, with_used_after}
use Rattle.shown_volumes.specs.Shown.{RowsOf, volumes_shown}
use Rattle.shown_volumes.specs.Changing.{MayWriteRow, StillShows}
use Rattle.shown_volumes.proofs.QuietFacts.{row_moments}
use Rattle.shown_volumes.proofs.UnderFacts.{allowed_write}
use Rattle.fault_queue.specs.declared.queue.Request.{Request}
use Rattle.fault_queue.specs.declared.queue.RequestState.TheVariants.{Queued, Moving, Ready}
use Rattle.core_state.specs.declared.task.Task.{Task}
use Rattle.transfers.specs.declared.transfer.Transfer.{Transfer}
use Rattle.transfers.specs.declared.transfer.TransferKind.{TransferKind}
use Rattle.transfers.specs.declared.transfer.TransferKind.TheVariants.{StageBlank, StageCartridge, Destage}
use Rattle.core_state.specs.CoreValue.{CoreValue}
use Rattle.core_state.specs.Pins.{host_at, task_at, is_on, asks_for}
use Rattle.fault_queue.specs.Requests.{request_of}
use Rattle.transfers.specs.Dues.{due_state}
use Rattle.core_state.specs.Tasks.{AreTasks, AreWaiting, takes, touched_all}
use Rattle.core_state.specs.Running.{IsNotBusy, IsNotAwaited}
use Rattle.core_state.specs.IsCore.{IsCore, IsPlaced}
use Rattle.core_state.specs.TheCore.{IsWhole}
use Rattle.core_state.proofs.Making.{make_whole}
use Rattle.core_state.specs.Entered.{with_used, core_after_work, core_with_entry, StaysNear, Enters, plain_of}
use Rattle.std.proofs.lemmas.List.{length-set}
use Rattle.core_state.proofs.RuleWalks.{some_is, none_some}
use Rattle.core_state.proofs.HostTasks.{tasks_touched, was_touched}
use Rattle.host_events.proofs.HostServed.{served_touched}
use Rattle.core_state.proofs.HostRequests.{asked_own, waiting_put, tasks_with_request}
use Rattle.core_state.proofs.CoreFacts.{sound_of}
use Rattle.core_state.proofs.CoreWork.{core_used, core_work}
use Rattle.core_state.proofs.RowEvents.{told_by_change, blocks_stay, row_put}
use Rattle.core_state.proofs.Others.{or_true, state_task, state_served, state_waiting}
use Rattle.core_state.proofs.RowOwners.{owned_states, listed_low}
use Rattle.fault_queue.specs.Requests.{RequestsData, put_request}
use Rattle.core_state.proofs.HostFacts.{IsHost}
use Rattle.core_state.specs.Fitting.{IsReadyOn, IsFit}
use Rattle.core_state.proofs.Fitting.{ready_touched, length_touched, ready_row, row_still, staged_still, fit_put}
use Rattle.volume_table.proofs.RowFacts.{state-with_state}

abbrev volume_in : Option (ℕ × Bool) → ℕ
volume_in None = 0
volume_in (Some m) = m.0

-- a transfer is of a cylinder that is blank, on its cartridge, or changed
no_staged : (kind : TransferKind) (state : ℕ) → state ≡ due_state kind → (state ≡ 2) ⊎ (state ≡ 3) → ⊥
no_staged StageBlank state is staged = elim staged [ inl two ↦ omega (arith, is, two) | inr three ↦ omega (arith, is, three) ]
no_staged StageCartridge state is staged = elim staged [ inl two ↦ omega (arith, is, two) | inr three ↦ omega (arith, is, three) ]
no_staged Destage state is staged = elim staged [ inl two ↦ omega (arith, is, two) | inr three ↦ omega (arith, is, three) ]

module _ (S : Type 0) {C : Type 0} (tells : Type 0) (s : SiteLog) (v : CoreValue S C) (whole : IsWhole tells s v) (open_ : v.stopped ≡ None) (h : ℕ) (low : IsHost h)
    (volume cylinder : ℕ) (bind : Bool) (mounted : (host_at v.hosts h).mounted ≡ Some (volume, bind)) (r : RowValue) (there : row_in_list v.rows volume ≡ Some r) (low_cylinder : cylinder < 404)
    (staged : (state_of r cylinder ≡ 2) ⊎ (state_of r cylinder ≡ 3)) (free : IsNotBusy v h) (quiet : IsNotAwaited v h) where
  core : IsCore v
  core = whole.kept open_

  pub low_volume : volume < 32
  low_volume = listed_low S v core volume r there

  abbrev new : RowValue
  new = with_state cylinder 4 r

  abbrev rows : List (Option RowValue)
  rows = slice_set v.rows volume (Some (with_state cylinder 4 r))

  abbrev requests : RequestsData
  requests = put_request v.requests h (Some (ready_for volume cylinder))

  not_waiting : (y : ℕ) → state_of r y < 2 → y ≢ cylinder
  not_waiting y waits same =
      let e : state_of r y ≡ state_of r cylinder = ap (state_of r) same in
      elim staged [ inl two ↦ omega (arith, waits, e, two) | inr three ↦ omega (arith, waits, e, three) ]

  not_copied : (m : ℕ) (task : Task) → task_at v.tasks m ≡ Some task → (t : Transfer) → task.transfer ≡ Some t → t.volume ≡ volume → t.cylinder ≢ cylinder
  not_copied m task is t copies same at =
      let its = (core.tasks_.each m task is).transfer_ t copies in
      let row_is : its.row ≡ r = some_is its.row r (sym its.there ∙ ap (row_in_list v.rows) same ∙ there) in
      no_staged t.kind (state_of r cylinder) ((λ i. state_of (sym row_is i) (sym at i)) ∙ its.due.state) staged

  row : IsRow (with_state cylinder 4 r)
  row = row-with_state cylinder 4 r (core.are_rows volume r there) low_cylinder (omega arith) (λ _. (core.are_rows volume r there).staged cylinder (elim staged [ inl two ↦ omega (arith, two) | inr three ↦ omega (arith, three) ]))

  waiting : AreWaiting (row_in_list rows) requests
  waiting = waiting_put (row_in_list rows) v.requests h (Some (ready_for volume cylinder)) core.requests_
      (state_waiting S v core volume cylinder 4 r there low_volume (λ k q asked queued same waits. not_waiting q.cylinder waits))
      (λ q is queued. absurd (let a : Ready ≡ q.state = ap (λ (x : Request). x.state) (some_is _ q is) in let b : Ready ≡ Queued = a ∙ queued in cc))

  tasks_now : AreTasks v.config.frames (row_in_list (slice_set v.rows volume (Some (with_state cylinder 4 r)))) v.moving v.requests v.hosts v.tasks
  tasks_now = record {
    each = λ m task is.
        let its = core.tasks_.each m task is in
        state_task S v core volume cylinder 4 r there low_volume v.moving v.moving v.requests v.requests task its its.moves refl (λ same waits. not_waiting its.request.cylinder waits) (not_copied m task is);
    frames_once = core.tasks_.frames_once;
    hosts_once = core.tasks_.hosts_once;
    moved = core.tasks_.moved;
    awaited = core.tasks_.awaited;
  }

  not_ready : (q : Request) → Some (ready_for volume cylinder) ≡ Some q → q.state ≡ Moving → ⊥
  not_ready q is moves = let a : Ready ≡ q.state = ap (λ (x : Request). x.state) (some_is _ q is) in let b : Ready ≡ Moving = a ∙ moves in cc

  places_ : volume < length v.rows
  places_ = let p = core.places in omega (arith, p, low_volume)

  in_states : cylinder < length r.states
  in_states = let l = (core.are_rows volume r there).states in omega (arith, l, low_cylinder)

  mark_keeps : (tasks : List (Option Task)) (q : Request) → IsReadyOn (row_in_list v.rows) tasks q → IsReadyOn (row_in_list rows) tasks q
  mark_keeps tasks q is = ready_row v.rows volume r new there places_ tasks q (λ same two. staged_still cylinder 4 r q.cylinder in_states (omega arith) two) is

  fit_marked : IsFit v.config.recorders rows requests v.hosts (touched_all volume (cylinder / 8) v.tasks)
  fit_marked = fit_put v.config.recorders v.rows rows v.requests v.hosts v.tasks (touched_all volume (cylinder / 8) v.tasks) core.fit (length_touched volume (cylinder / 8) v.tasks) (row_still v.rows volume r new there places_)
      (λ k q asked ready is. ready_touched (row_in_list rows) v.tasks q volume (cylinder / 8) (mark_keeps v.tasks q is)) h (Some (ready_for volume cylinder)) core.requests_
      (λ q is ready. subst (IsReadyOn (row_in_list rows) (touched_all volume (cylinder / 8) v.tasks)) (some_is _ q is) (record {
        staged = λ k at.
            let o : Some new ≡ Some k = sym (row_put v.rows volume new places_) ∙ at in
            subst (λ (z : RowValue). 2 ≤ state_of z cylinder) (some_is new k o) (let a = state-with_state cylinder 4 r cylinder in_states ∙ cond-true (cylinder == cylinder) 4 (state_of r cylinder) (eq-eqb cylinder cylinder refl) in omega (arith, a));
        touched_ = λ n task at victim.
            let w = was_touched volume (cylinder / 8) v.tasks n task at in
            ap (λ (t : Task). t.touched) w.is
            ∙ or_true w.task.touched (takes volume (cylinder / 8) w.task.victim)
            (ap (takes volume (cylinder / 8)) (ap (λ (t : Task). t.victim) (sym w.is) ∙ victim) ∙ and_from (volume == volume) (cylinder / 8 == cylinder / 8) (eq-eqb volume volume refl) (eq-eqb (cylinder / 8) (cylinder / 8) refl));
      }))

  pub mark_may : tells → MayWriteRow v.config.frames volume (with_state cylinder 4 r) s
  mark_may tl =
      let told = whole.told tl in
      let going = told.going open_ in
      allowed_write v.config.frames volume (Changed cylinder) r s (sound_of S s v told) going.quiet (ap (λ (k : RowsOf). k volume) going.rows_ ∙ there) (core.are_rows volume r there) staged tt tt

  used_long : length (with_used_after volume v.used) ≡ 32
  used_long = length-set v.used volume (used_after (used_at v.used volume)) ∙ core.used_

  pub whole_marked : cylinder ≡ (host_at v.hosts h).cylinder → (t : SiteLog) (x : S) (mark : ℕ)
      → (tells → Writes (ChangesRow volume (OldOrNew volume (with_state cylinder 4 r) (content s)) (content s)) s t) → (tells → IsChanged (with_state cylinder 4 r) (used_after (used_at v.used volume)) volume s t)
      → (tells → mark ≡ length t.log) → (tells → length s.log < length t.log)
      → IsWhole tells t (core_after_work (with_used (with_used_after volume v.used) v) x (slice_set v.rows volume (Some (with_state cylinder 4 r))) (v.console ++ (record { mark = mark; volume = volume; change = Changed cylinder; freed = None }) ∷ [])
      v.owners v.moving (put_request v.requests h (Some (ready_for volume cylinder))) (touched_all volume (cylinder / 8) v.tasks))
  whole_marked under t x mark writes changed at_end grows = make_whole (core_work S (with_used (with_used_after volume v.used) v) (core_used S v core (with_used_after volume v.used) used_long) x rows _ v.owners v.moving requests _ (owned_states S v core volume cylinder 4 r there low_volume row) core.moving_
      (asked_own S v core h low (Some (ready_for volume cylinder)) free (λ q is. subst (IsPlaced (host_at v.hosts h)) (some_is _ q is) (ap (is_on volume) mounted ∙ eq-eqb volume volume refl, sym under)))
      waiting
      (tasks_touched v.config.frames (row_in_list rows) v.moving requests v.hosts v.tasks
      (tasks_with_request v.config.frames (row_in_list rows) v.moving v.requests v.hosts v.tasks tasks_now h (Some (ready_for volume cylinder)) core.requests_ quiet not_ready) volume (cylinder / 8))
      fit_marked)
      (λ tl.
      told_by_change S s t v x core (whole.told tl) open_ volume mark (Changed cylinder) r there low_volume (λ o. refl) refl (staged, tt) (mark_may tl) (writes tl) (changed tl) (at_end tl) (grows tl) v.owners v.moving requests _
      (served_touched (row_in_list rows) (content t) v.tasks volume (cylinder / 8)
      (λ m task is. state_served S v core volume cylinder 4 r there low_volume (content s) (content t)
      (λ unit block none. blocks_stay S s t v x core (whole.told tl) open_ volume mark (Changed cylinder) r there low_volume (λ o. refl) refl (staged, tt) (mark_may tl) (writes tl) (changed tl) (at_end tl) (grows tl) v.owners v.moving v.requests []
      (λ k z zz. absurd (no_task z zz)) unit block none)
      v.moving v.requests task (core.tasks_.each m task is) (not_copied m task is) (((whole.told tl).going open_).served m task is))))
    where
      no_task : (task : Task) → ◌≡◌ {A = Option Task} None (Some task) → ⊥
      no_task task e = cc

  -- where the change failed, the write is the last entry; the list has the new row
  module _ (code : ℕ) (argument : List ℕ) (chained : Bool) (c : Command) (admits : admitted_command (with_open_chain (host_at v.hosts h)) code argument ≡ Ok c) (write_ : is_write c ≡ true) (under : cylinder ≡ (host_at v.hosts h).cylinder)
      (t : SiteLog) (x : S) (few : length v.history < 4096) (fault mark : ℕ) (writes : tells → Writes (ChangesRow volume (OldOrNew volume (with_state cylinder 4 r) (content s)) (content s)) s t) (at_end : tells → mark ≡ length t.log) where
    abbrev call : CallData
    call = ask code argument chained

    abbrev e : EntryData
    e = entry_of v.history h (ask code argument chained) stopped (Some fault)

    has_frame : IsSome (frame_of r (cylinder / 8))
    has_frame = (core.are_rows volume r there).staged cylinder (elim staged [ inl two ↦ omega (arith, two) | inr three ↦ omega (arith, three) ])

    enters : (tl : tells) → Enters v.config.frames v.rows (plain_of s v) v.history e v.hosts v.tasks s t
    enters tl =
        let told = whole.told tl in
        let going = told.going open_ in
        let here : (plain_of s v).host h ≡ host_at v.hosts h = ap (λ (f : ℕ → HostState). f h) going.hosts_ in
        record {
          may = record {
            number = refl;
            answered = (c, ap (λ (y : HostState). admitted_command (with_open_chain y) code argument) here ∙ admits, write_);
            fault = ((λ some_. refl), (λ kept. refl));
            alone = λ other w b b' mine theirs chain.
                let own : (host_at v.hosts h).mounted ≡ Some (w, b) = (λ i. (sym going.hosts_ i h).mounted) ∙ mine in
                let its : (host_at v.hosts other).mounted ≡ Some (w, b') = (λ i. (sym going.hosts_ i other).mounted) ∙ theirs in
                let chained_ : (host_at v.hosts other).chain_open ≡ true = (λ i. (sym going.hosts_ i other).chain_open) ∙ chain in
                free w b own other (and_from _ _ (ap (is_on w) its ∙ eq-eqb w w refl) (ap (λ (z : Bool). z || asks_for w (request_of v.requests other)) chained_));
          };
          writes = weaker (StillShows v.config.frames (volumes_shown (content s)) s) (StaysNear v.config.frames (plain_of s v) e s) (λ d still. (still.0.sound, unchanged (still.0.same ∙ going.shows), still.1)) s t
              (row_moments v.config.frames volume (with_state cylinder 4 r) s t (mark_may tl) (writes tl));
          agrees = λ none. no_space here none.0;
          leaves = λ is. absurd (false≢true is);
        }
      where
        no_space : (plain_of s v).host h ≡ host_at v.hosts h → UnderHost (row_in_list v.rows) ((plain_of s v).host h) (λ q y. frame_of q (y / 8) ≡ None) → ⊥
        no_space here u =
            let m : Some (volume, bind) ≡ Some (u.0, u.1) = sym mounted ∙ ap (λ (y : HostState). y.mounted) (sym here) ∙ u.3 in
            let n : volume ≡ u.0 = ap volume_in m in
            let q_is : u.2 ≡ r = some_is u.2 r (sym u.4 ∙ ap (row_in_list v.rows) (sym n) ∙ there) in
            let none : frame_of r (cylinder / 8) ≡ None = (λ i. frame_of (sym q_is i) ((under ∙ ap (λ (y : HostState). y.cylinder) (sym here)) i / 8)) ∙ u.5 in
            false≢true (sym (ap is_some none) ∙ has_frame)

    pub whole_mark_failed : IsWhole tells t (record (core_with_entry v x (entry_of v.history h (ask code argument chained) stopped (Some fault)) mark v.hosts v.requests v.tasks (Some fault)) { rows = slice_set v.rows volume (Some (with_state cylinder 4 r)) })
    whole_mark_failed =
        let w = whole_halt S tells s t v x e mark fault whole open_ few enters at_end in
        record {
          shaped = let k = w.shaped in record {
            rows_ = length-set v.rows volume (Some (with_state cylinder 4 r)) ∙ k.rows_;
            used_ = k.used_;
            hosts_ = k.hosts_;
            owners_ = k.owners_;
            moving_ = k.moving_;
            tasks_ = k.tasks_;
            recorders_ = k.recorders_;
            few = k.few;
            marked = k.marked;
          };
          kept = λ none. absurd (none_some fault (sym none));
          told = λ tl.
              let d = w.told tl in
              record { began = d.began; entries = d.entries; messages = d.messages; legal = d.legal; stops = d.stops; agrees = d.agrees; going = λ none. absurd (none_some fault (sym none)) };
        }

-- An event of a recorder that is noted changed the core: a task, a cartridge in a recorder, the console, or that it stopped.
use Rattle.std.proofs.Common.{◌≡◌, ◌≢◌, ◌⊎◌, inl, inr, false, ℕ, ◌+◌, ◌<◌, List, [], ◌∷◌, ◌++◌, length, Option, Some, None, refl, sym, ◌∙◌, ap, arith, length-append, get_or-set_same}
use Rattle.std.specs.Prelude.{slice_set}
use Rattle.mss_base.specs.Firsts.{◌or◌}
use Rattle.volume_table.specs.Listed.{row_in_list}
use Rattle.volume_table.specs.declared.changes.Change.{Change}
use Rattle.volume_table.specs.declared.changes.Change.TheVariants as change
use Rattle.fault_queue.specs.declared.queue.Request.{Request}
use Rattle.fault_queue.specs.declared.queue.RequestState.TheVariants as request
use Rattle.transfers.specs.Copies.{moved_on}
use Rattle.transfers.specs.declared.transfer.Transfer.{Transfer}
use Rattle.transfers.specs.declared.transfer.TransferKind.{TransferKind}
use Rattle.transfers.specs.declared.transfer.TransferKind.TheVariants.{StageBlank, StageCartridge, Destage}
use Rattle.victim_choice.specs.declared.choose.Candidate.{Candidate}
use Rattle.core_state.specs.declared.task.Task.{Task}
use Rattle.core_state.specs.declared.session.Event.{Event}
use Rattle.core_state.specs.declared.session.Event.TheVariants.{Work}
use Rattle.core_state.specs.declared.session.Message.{Message}
use Rattle.core_state.specs.declared.rule.WorkKind.{WorkKind}
use Rattle.core_state.specs.declared.rule.WorkKind.TheVariants as kind
use Rattle.core_state.specs.declared.rule.WorkAnswer.{WorkAnswer}
use Rattle.core_state.specs.declared.rule.WorkAnswer.TheVariants.{Did, Idle, Stopped, Memory}
use Rattle.core_state.specs.declared.rule.WorkRule.{WorkRule}
use Rattle.core_state.specs.declared.rule.WorkRule.TheVariants.{IsStopped, IsIdle, GivesBack, Picks, PicksVictim, Abandons, Fetches, Copies, Ends, Frees, Assigns}
use Rattle.core_state.specs.Agrees.{message_of}
use Rattle.core_state.specs.Beside.{held_at}
use Rattle.core_state.specs.CoreValue.{CoreData, DevicesSeen}
use Rattle.core_state.specs.HostEvents.{IsSame}
use Rattle.core_state.specs.Pins.{task_at}
use Rattle.core_state.specs.Steps.{with_event, with_row, with_change, most_recent, with_owner, with_task, with_picked_request, task_ended, given_back, with_fetched_cartridge}
use Rattle.core_state.specs.WorkEvents.{ChangesThen, CopiesIt, EndsIt, TellsEnd, WithTask, WorkDoes, WorkEvent}
use Rattle.core_state.specs.WorkRules.{task_of, next_transfer, work_rule}
use Rattle.core_state.proofs.RuleWalks.{some_is, none_some}
use Rattle.core_state.proofs.TaskLists.{task_put, task_fits}
use Rattle.work_events.specs.WorkLaws.{IsRecorder, NotesChange}
use Rattle.work_events.proofs.RuleFacts.{OfTask, rule_returns, rule_fetches, rule_picks, rule_picks_victim, rule_abandons, rule_transfer, rule_ends, rule_frees, rule_assigns}

-- a task is never at the transfer behind the one that it is at
moved_apart : (t : Transfer) (has next : Option Transfer) → (has or next) ≡ Some t → has ≢ Some (moved_on t)
moved_apart t has next at moved =
    let same : Some (moved_on t) ≡ Some t = sym (ap (λ (o : Option Transfer). o or next) moved) ∙ at in
    let count : t.next + 1 ≡ t.next = ap (λ (x : Transfer). x.next) (some_is (moved_on t) t same) in
    omega (arith, count)

the_task : (o : Option Task) (P : Task → Type 0) → WithTask o P → (task : Task) × P task
the_task None P has = absurd has
the_task (Some task) P has = (task, has)

module _ (core left : CoreData) (n : ℕ) where
  abbrev before : CoreData
  before = record core { site = left.site }

  module _ (after : CoreData) (path : left ≡ with_event (Work n) after) (quiet : after.events ≡ core.events) where
    -- a part of the core has another value than before
    changed_in : {A : Type 0} (part : CoreData → A) (was now : A) → ((site : DevicesSeen) (events : List Event) → part (record core { site = site; events = events }) ≡ was) → part (with_event (Work n) after) ≡ now → now ≢ was → NotesChange core n left
    changed_in part was now stood stands apart = record {
      noted = ap (λ (c : CoreData). c.events) path ∙ ap (λ (es : List Event). es ++ Work n ∷ []) quiet;
      changed = λ same. apart (sym stands ∙ sym (ap part path) ∙ ap part same ∙ stood left.site left.events);
    }

    task_changed : (was now : Option Task) → task_at core.tasks n ≡ was → task_at after.tasks n ≡ now → now ≢ was → NotesChange core n left
    task_changed was now stood stands apart = changed_in (λ c. task_at c.tasks n) was now (λ _ _. stood) stands apart

    -- the task has ended
    ended : (task : Task) → task_at core.tasks n ≡ Some task → task_at after.tasks n ≡ None → NotesChange core n left
    ended task stood stands = task_changed (Some task) None stood stands (none_some task)

    -- a cartridge was taken, or given back
    held_changed : (was now : Option ℕ) → held_at core.recorders n ≡ was → held_at after.recorders n ≡ now → now ≢ was → NotesChange core n left
    held_changed was now stood stands apart = changed_in (λ c. held_at c.recorders n) was now (λ _ _. stood) stands apart

    -- the console told one change more
    told_more : (m : Message) → after.console ≡ core.console ++ m ∷ [] → NotesChange core n left
    told_more m more = changed_in (λ c. length c.console) (length core.console) (length after.console) (λ _ _. refl) refl (λ same.
        let long = ap (λ (ms : List Message). length ms) more in
        let one = length-append core.console (m ∷ []) in
        omega (arith, long, one, same))

  module _ (tells : Type 0) (what : WorkKind) (from : DevicesSeen) (volume : ℕ) (change : Change) (step : CoreData → CoreData) (quiet : (c : CoreData) → (step c).events ≡ c.events) (same_console : (c : CoreData) → (step c).console ≡ c.console) (going : core.stopped ≡ None) where
    -- a row was changed, behind a sync or at once, or the core stopped
    of_changes : (told : WorkAnswer) → ChangesThen tells (record core { site = from }) what n volume change step told left → NotesChange core n left
    of_changes (Did did) does =
        told_more (step (with_change volume change before)) does.2 (quiet (with_change volume change before)) (message_of left.site.writes volume change (row_in_list core.rows)) (same_console (with_change volume change before))
    of_changes (Stopped fault) does =
        changed_in (record (with_row volume change core) { site = left.site; stopped = Some fault }) does.1 refl (λ c. c.stopped) None (Some fault) (λ _ _. going) refl (λ same. none_some fault (sym same))
    of_changes Idle does = absurd does
    of_changes Memory does = absurd does

module _ (tells : Type 0) (may : List Candidate → ℕ → Type 0) (core : CoreData) (n : ℕ) (left : CoreData) (is : IsRecorder core n) where
  abbrev Notes : Type 0
  Notes = IsSame tells core left ⊎ NotesChange core n left

  there : core.stopped ≡ None → n < length core.recorders
  there going = let long = (is.kept going).beside.long in let fits = is.there in omega (arith, long, fits)

  -- the recorder's task, and what became of it
  of_task : {P : Task → Request → Type 0} → OfTask core n P → (o : Option Task) → task_at (slice_set core.tasks n o) n ≡ o
  of_task says o = task_put core.tasks n o (task_fits core.tasks n says.task says.serves.at)

  of_ends : (t : Transfer) (task : Task) (told : WorkAnswer) → work_rule core n ≡ Ends t → EndsIt tells core n task t told left → Notes
  of_ends t task told rule (inl (firm, sync, does)) = by t.kind does
    where
      going : core.stopped ≡ None
      going = (rule_ends core n is.there is.kept t rule).going

      by : (kind_ : TransferKind) → TellsEnd tells (record core { site = firm }) n task kind_ t told left → Notes
      by Destage done_ = inr (of_changes core left n tells kind.End firm t.volume (change.Destaged t.cylinder) (with_task n (Some (record task { transfer = None }))) (λ _. refl) (λ _. refl) going told done_)
      by StageBlank done_ = inr (of_changes core left n tells kind.End firm t.volume (change.Staged t.cylinder) (task_ended n task request.Ready) (λ _. refl) (λ _. refl) going told done_)
      by StageCartridge done_ = inr (of_changes core left n tells kind.End firm t.volume (change.Staged t.cylinder) (task_ended n task request.Ready) (λ _. refl) (λ _. refl) going told done_)
  of_ends t task told rule (inr failed) =
      let says = rule_ends core n is.there is.kept t rule in
      inr (ended core left n (task_ended n task (request.Failed left.site.faults) (record core { site = left.site })) failed.2 refl says.task says.serves.at (of_task says None))

  of_copies : (t : Transfer) (task : Task) → work_rule core n ≡ Copies t → CopiesIt tells core n task t left → Notes
  of_copies t task rule (inl copied) =
      let says = rule_transfer core n is.there is.kept t rule in
      let next : Task = record task { transfer = Some (moved_on t) } in
      inr (task_changed core left n (with_task n (Some next) (record core { site = left.site })) copied.1 refl (Some says.task) (Some next) says.serves.at (of_task says (Some next)) (λ same.
      let goes_on : says.task.transfer ≡ Some (moved_on t) = sym (ap (λ (k : Task). k.transfer) (some_is next says.task same)) in
      moved_apart t says.task.transfer (next_transfer core.rows core.requests says.task) (says.may says.task says.request says.serves) goes_on))
  of_copies t task rule (inr failed) =
      let says = rule_transfer core n is.there is.kept t rule in
      inr (ended core left n (task_ended n task (request.Failed left.site.faults) (record core { site = left.site })) failed.1 refl says.task says.serves.at (of_task says None))

  notes : (rule : WorkRule) (told : WorkAnswer) → work_rule core n ≡ rule → WorkDoes tells may core n rule told left → Notes
  notes (IsStopped fault) told rule does = inl does.1
  notes _ Memory rule does = inl does
  notes IsIdle told rule does = inl does.1
  notes (GivesBack cartridge) told rule does =
      let holds = rule_returns core n is.there is.kept cartridge rule in
      inr (held_changed core left n (given_back n cartridge (record core { site = left.site })) does.2 refl (Some cartridge) None holds.held (get_or-set_same core.recorders n None None (there holds.going)) (none_some cartridge))
  notes (Fetches cartridge) told rule does =
      let takes = rule_fetches core n is.there is.kept cartridge rule in
      inr (held_changed core left n (with_fetched_cartridge n cartridge (record core { site = left.site })) does.2 refl None (Some cartridge) takes.empty (get_or-set_same core.recorders n (Some cartridge) None (there takes.going)) (λ same. none_some cartridge (sym same)))
  notes (Picks h frame) told rule does =
      let takes = rule_picks core n is.there is.kept h frame rule in
      let task : Task = record { host = h; frame = frame; victim = None; touched = false; transfer = None } in
      inr (task_changed core left n (with_picked_request n h frame None (record core { site = left.site })) does.2 refl None (Some task) takes.may.idle (task_put core.tasks n (Some task) takes.may.fits) (λ same. none_some task (sym same)))
  notes (PicksVictim h) told rule does =
      let takes = rule_picks_victim core n is.there is.kept h rule in
      let pick = takes.may does.0 does.1 does.3 in
      let task : Task = record { host = h; frame = does.1.frame; victim = Some (does.1.volume, does.1.page); touched = false; transfer = None } in
      inr (task_changed core left n (with_picked_request n h does.1.frame (Some (does.1.volume, does.1.page)) (record core { site = left.site })) does.4.2 refl None (Some task) pick.idle (task_put core.tasks n (Some task) pick.fits) (λ same. none_some task (sym same)))
  notes Abandons told rule does =
      let says = rule_abandons core n is.there is.kept rule in
      let it = the_task (task_of core n) _ does in
      inr (ended core left n (task_ended n it.0 request.Queued (record core { site = left.site })) it.1.2 refl says.task says.serves.at (of_task says None))
  notes (Copies t) told rule does = let it = the_task (task_of core n) _ does in of_copies t it.0 rule it.1.1
  notes (Ends t) told rule does =
      let it = the_task (task_of core n) _ does in
      of_ends t it.0 told rule it.1
  notes (Frees volume page) told rule does =
      let it = the_task (task_of core n) _ does in
      inr (of_changes core left n tells kind.Free core.site volume (change.Free page) (λ now. with_task n (Some (record it.0 { victim = None })) (with_owner it.0.frame None now)) (λ _. refl) (λ _. refl) (rule_frees core n is.there is.kept volume page rule).going told it.1)
  notes (Assigns volume page) told rule does =
      let it = the_task (task_of core n) _ does in
      inr (of_changes core left n tells kind.Assign core.site volume (change.Assign page it.0.frame) (λ now. most_recent it.0.frame (with_owner it.0.frame (Some (volume, page)) now)) (λ _. refl) (λ _. refl) (rule_assigns core n is.there is.kept volume page rule).going told it.1)

pub notes_changes : (tells : Type 0) (may : List Candidate → ℕ → Type 0) (core : CoreData) (n : ℕ) (told : WorkAnswer) (left : CoreData) → IsRecorder core n → WorkEvent tells may core n told left → IsSame tells core left ⊎ NotesChange core n left
notes_changes tells may core n told left is event = notes tells may core n left is (work_rule core n) told refl event

-- The end of a transfer, whatever it copied: the change of the row that is due, and the core that is left.
use Rattle.std.proofs.Common.{◌≡◌, ◌≢◌, ℕ, List, [], ◌∷◌, ◌++◌, Option, None, refl, sym, ◌∙◌, ap, subst}
use Rattle.mss_base.specs.declared.site.Site.{Ghosts}
use Rattle.volume_table.specs.Row.{RowValue}
use Rattle.volume_table.specs.Listed.{row_in_list, with_changed}
use Rattle.volume_table.specs.declared.changes.Change.{Change}
use Rattle.table_pair.specs.declared.copy.SlotsUsed.{SlotsUsed}
use Rattle.table_pair.specs.Slots.{with_used_after}
use Rattle.fault_queue.specs.declared.queue.Request.{Request}
use Rattle.fault_queue.specs.Requests.{RequestsData, request_of}
use Rattle.transfers.specs.declared.transfer.Transfer.{Transfer}
use Rattle.transfers.specs.declared.transfer.TransferKind.{TransferKind}
use Rattle.transfers.specs.declared.transfer.TransferKind.TheVariants.{StageBlank, StageCartridge, Destage}
use Rattle.transfers.specs.Dues.{change_by, change_of}
use Rattle.victim_choice.specs.declared.choose.Candidate.{Candidate}
use Rattle.core_state.specs.declared.task.Task.{Task}
use Rattle.core_state.specs.declared.rule.WorkAnswer.{WorkAnswer}
use Rattle.core_state.specs.declared.rule.WorkAnswer.TheVariants.{Did, Stopped}
use Rattle.core_state.specs.declared.rule.WorkKind.TheVariants as work
use Rattle.core_state.specs.declared.rule.WorkRule.TheVariants.{Ends}
use Rattle.core_state.specs.declared.session.Event.TheVariants.{Work}
use Rattle.core_state.specs.Agrees.{message_of}
use Rattle.core_state.specs.CoreValue.{CoreValue, seen_core}
use Rattle.core_state.specs.SessionData.{SessionData, data_of, of_parts, with_last_event, with_last_message}
use Rattle.core_state.specs.WorkEvents.{WorkDoes}
use Rattle.work_events.specs.Leaving.{TaskParts, left_by}
use Rattle.work_events.specs.Steps.{FailsNone}
use Rattle.work_events.proofs.ChangedRows.{FailsChange, HaveChanged, IsDone, IsDueChange, with_row_stopped}
use Rattle.work_events.proofs.DestageWhole.{destaged_does, due_destaged, kept_destaged, undestaged_does}
use Rattle.work_events.proofs.EndSteps.{IsSynced, destages_on, stages_on}
use Rattle.work_events.proofs.RestatedFacts.{ready_fails_none}
use Rattle.work_events.proofs.RowSteps.{Changes, HasRoom, IsKeptOn, kept_as}
use Rattle.work_events.proofs.RuleFacts.{MayEnd}
use Rattle.work_events.proofs.StageWhole.{due_staged, kept_staged, staged_does, unstaged_does}

abbrev pub parts_of : {S C : Type 0} → CoreValue S C → TaskParts
parts_of v = record { frames = record { owners = v.owners; moving = v.moving }; requests = v.requests; tasks = v.tasks }

-- the core that is left once the row is changed
abbrev pub ended : {S C : Type 0} → CoreValue S C → ℕ → Task → Transfer → TransferKind → S → ℕ → CoreValue S C
ended v n old t kind x mark = record v {
  site = x;
  rows = with_changed t.volume (change_by kind t.cylinder) v.rows;
  used = with_used_after t.volume v.used;
  console = v.console ++ message_of mark t.volume (change_by kind t.cylinder) (row_in_list v.rows) ∷ [];
  owners = (left_by kind n old (parts_of v)).frames.owners;
  moving = (left_by kind n old (parts_of v)).frames.moving;
  requests = (left_by kind n old (parts_of v)).requests;
  tasks = (left_by kind n old (parts_of v)).tasks;
  events = v.events ++ Work n ∷ [];
}

-- where it leaves its task no request fails that hadn't
pub left_fails_none : {S C : Type 0} (g : Ghosts S) {inside v : CoreValue S C} {site : S} {session : SessionData} → HasRoom g inside v site session → v.stopped ≡ None
    → (n : ℕ) (old : Task) (kind : TransferKind) (parts : TaskParts) → left_by kind n old (parts_of inside) ≡ parts → FailsNone v.requests parts.requests
left_fails_none {S} {C} g {inside} {v} has open_ n old kind parts leaves = fails_none kind (ap (λ (p : TaskParts). p.requests) (sym leaves) ∙ ap (λ (z : CoreValue S C). (left_by kind n old (parts_of z)).requests) has.is)
  where
    fails_none : (k : TransferKind) → parts.requests ≡ (left_by k n old (parts_of v)).requests → FailsNone v.requests parts.requests
    fails_none StageBlank same = ready_fails_none v.requests parts.requests old.host (has.kept.whole.kept open_).requests_ same
    fails_none StageCartridge same = ready_fails_none v.requests parts.requests old.host (has.kept.whole.kept open_).requests_ same
    fails_none Destage same = λ h fault asked at failed. sym (ap (λ (r : RequestsData). request_of r h) same) ∙ at

-- what stages doesn't destage
blank_stages : (t : Transfer) → t.kind ≡ StageBlank → t.kind ≢ Destage
blank_stages t is = λ other. let e : StageBlank ≡ Destage = sym is ∙ other in absurd cc

cartridge_stages : (t : Transfer) → t.kind ≡ StageCartridge → t.kind ≢ Destage
cartridge_stages t is = λ other. let e : StageCartridge ≡ Destage = sym is ∙ other in absurd cc

module _ {S C : Type 0} (g : Ghosts S) {inside v : CoreValue S C} {session : SessionData} (y : S) (n : ℕ) (old : Task) (q : Request) (t : Transfer)
    (behind : IsSynced g inside v y session n old q t) (open_ : v.stopped ≡ None) (may : MayEnd v t.kind old t) (change : Change) (is : change ≡ change_of t) where
  due_by : (k : TransferKind) → MayEnd v k old t → IsDueChange g.tells (g.told y) (record v { site = y }) t.volume (change_by k t.cylinder)
  due_by StageBlank m = due_staged S g.tells (g.told y) (record v { site = y }) behind.has.kept.whole open_ n old q behind.serves t (stages_on v y old t m) behind.firm
  due_by StageCartridge m = due_staged S g.tells (g.told y) (record v { site = y }) behind.has.kept.whole open_ n old q behind.serves t (stages_on v y old t m) behind.firm
  due_by Destage m = due_destaged S g.tells (g.told y) (record v { site = y }) behind.has.kept.whole open_ n old q behind.serves t (destages_on v y old t m) behind.firm

  pub due_end : IsDueChange g.tells (g.told y) (record v { site = y }) t.volume change
  due_end = subst (λ (ch : Change). IsDueChange g.tells (g.told y) (record v { site = y }) t.volume ch) (sym is) (due_by t.kind may)

  -- ---- it is done

  module _ (x : S) {rows : List (Option RowValue)} {used : List SlotsUsed} {told : SessionData} (changes : Changes g (record v { site = y }) t.volume change x rows used told)
      (parts : TaskParts) (leaves : left_by t.kind n old (parts_of inside) ≡ parts) {after : SessionData} (noted : after ≡ with_last_event (Work n) told) where
    abbrev left : CoreValue S C
    left = record (of_parts inside x rows parts.frames.owners parts.frames.moving parts.requests parts.tasks inside.hosts after) { used = used }

    changed : Changes g (record v { site = y }) t.volume (change_of t) x rows used told
    changed = subst (λ (ch : Change). Changes g (record v { site = y }) t.volume ch x rows used told) is changes

    parts_ : parts ≡ left_by t.kind n old (parts_of v)
    parts_ = sym leaves ∙ ap (λ (z : CoreValue S C). left_by t.kind n old (parts_of z)) behind.has.is

    left_is : left ≡ ended v n old t t.kind x (g.writes x)
    left_is =
        let now_told : after ≡ with_last_event (Work n) (with_last_message (message_of (g.writes x) t.volume (change_of t) (row_in_list v.rows)) (data_of v)) = noted ∙ ap (with_last_event (Work n)) changed.told in
        λ i. record (of_parts (behind.has.is i) x (changed.rows_ i) (parts_ i).frames.owners (parts_ i).frames.moving (parts_ i).requests (parts_ i).tasks (behind.has.is i).hosts (now_told i)) { used = changed.used_ i }

    kept_by : (k : TransferKind) → MayEnd v k old t → IsDone g.tells (g.told y) (record v { site = y }) t.volume (change_by k t.cylinder) (g.told x) (g.writes x)
        → IsKeptOn g x (ended v n old t k x (g.writes x))
    kept_by StageBlank m done_ =
        kept_staged S g.tells (g.told y) (g.told x) (g.writes y) (g.faults y) (g.writes x) (g.faults x) (record v { site = y }) behind.has.kept open_ n old q behind.serves x changed.more changed.le t (stages_on v y old t m) behind.firm done_
    kept_by StageCartridge m done_ =
        kept_staged S g.tells (g.told y) (g.told x) (g.writes y) (g.faults y) (g.writes x) (g.faults x) (record v { site = y }) behind.has.kept open_ n old q behind.serves x changed.more changed.le t (stages_on v y old t m) behind.firm done_
    kept_by Destage m done_ =
        kept_destaged S g.tells (g.told y) (g.told x) (g.writes y) (g.faults y) (g.writes x) (g.faults x) (record v { site = y }) behind.has.kept open_ n old q behind.serves x changed.more changed.le t (destages_on v y old t m) behind.firm done_

    pub kept_end : IsKeptOn g x left
    kept_end = kept_as g x (ended v n old t t.kind x (g.writes x)) left (kept_by t.kind may changed.done_) left_is

    does_by : (choices : List Candidate → ℕ → Type 0) (answer : WorkAnswer) → answer ≡ Did work.End → (k : TransferKind) → t.kind ≡ k → HaveChanged g (record v { site = y }) t.volume (change_by k t.cylinder) x
        → left ≡ ended v n old t k x (g.writes x) → WorkDoes g.tells choices (seen_core g v) n (Ends t) answer (seen_core g left)
    does_by choices answer told_ StageBlank kind have path = staged_does g choices v left n old t answer (blank_stages t kind) told_ behind.serves.at y behind.since have path
    does_by choices answer told_ StageCartridge kind have path = staged_does g choices v left n old t answer (cartridge_stages t kind) told_ behind.serves.at y behind.since have path
    does_by choices answer told_ Destage kind have path = destaged_does g choices v left n old t answer kind told_ behind.serves.at y behind.since have path

    pub end_does : (choices : List Candidate → ℕ → Type 0) (answer : WorkAnswer) → answer ≡ Did work.End → WorkDoes g.tells choices (seen_core g v) n (Ends t) answer (seen_core g left)
    end_does choices answer told_ = does_by choices answer told_ t.kind refl changed.have left_is

  -- ---- the row isn't written

  stops_by : (choices : List Candidate → ℕ → Type 0) (w : CoreValue S C) (answer : WorkAnswer) → answer ≡ Stopped (g.faults w.site) → (k : TransferKind) → t.kind ≡ k
      → FailsChange g (record v { site = y }) t.volume (change_by k t.cylinder) w.site → w ≡ with_row_stopped v n t.volume (change_by k t.cylinder) w.site (g.faults w.site)
      → WorkDoes g.tells choices (seen_core g v) n (Ends t) answer (seen_core g w)
  stops_by choices w answer told_ StageBlank kind fails path = unstaged_does g choices v w n old t answer (blank_stages t kind) told_ behind.serves.at y behind.since fails path
  stops_by choices w answer told_ StageCartridge kind fails path = unstaged_does g choices v w n old t answer (cartridge_stages t kind) told_ behind.serves.at y behind.since fails path
  stops_by choices w answer told_ Destage kind fails path = undestaged_does g choices v w n old t answer kind told_ behind.serves.at y behind.since fails path

  pub end_stops : (choices : List Candidate → ℕ → Type 0) (w : CoreValue S C) (answer : WorkAnswer) → answer ≡ Stopped (g.faults w.site)
      → FailsChange g (record v { site = y }) t.volume change w.site → w ≡ with_row_stopped v n t.volume change w.site (g.faults w.site) → WorkDoes g.tells choices (seen_core g v) n (Ends t) answer (seen_core g w)
  end_stops choices w answer told_ fails path =
      stops_by choices w answer told_ t.kind refl (subst (λ (ch : Change). FailsChange g (record v { site = y }) t.volume ch w.site) is fails)
      (path ∙ ap (λ (ch : Change). with_row_stopped v n t.volume ch w.site (g.faults w.site)) is)

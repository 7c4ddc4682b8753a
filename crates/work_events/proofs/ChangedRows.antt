-- A core whose row changes: what it keeps where the change is done, and where a write of it failed.
use Rattle.std.proofs.Common.{◌≡◌, ℕ, ◌≤◌, ◌<◌, Bool, List, [], ◌∷◌, ◌++◌, length, Option, Some, None, sym, ◌∙◌, ap, subst}
use Rattle.std.specs.Prelude.{slice_set}
use Rattle.std.specs.Option.{option_map, ForSome}
use Rattle.std.proofs.lemmas.List.{length-set}
use Rattle.mss_base.specs.Content.{SiteLog, content}
use Rattle.mss_base.specs.Counts.{IsFaultSince}
use Rattle.mss_base.specs.declared.site.Site.{Ghosts}
use Rattle.volume_table.specs.Row.{RowValue}
use Rattle.volume_table.specs.Listed.{row_in_list, with_changed}
use Rattle.volume_table.specs.Changes.{IsAllowed, effect}
use Rattle.volume_table.specs.declared.changes.Change.{Change}
use Rattle.table_pair.specs.declared.copy.SlotsUsed.{SlotsUsed}
use Rattle.table_pair.specs.Slots.{IsChanged, used_after, used_at, with_used_after}
use Rattle.shown_volumes.specs.Shown.{RowsOf}
use Rattle.shown_volumes.specs.Changing.{IsFirmFor, IsReady, MayWriteRow}
use Rattle.shown_volumes.proofs.QuietFacts.{row_moments}
use Rattle.shown_volumes.proofs.UnderFacts.{allowed_write}
use Rattle.fault_queue.specs.Requests.{RequestsData}
use Rattle.core_state.specs.declared.task.Task.{Task}
use Rattle.core_state.specs.declared.session.Event.TheVariants.{Work}
use Rattle.core_state.specs.Agrees.{message_of}
use Rattle.core_state.specs.CoreValue.{CoreValue, seen_site}
use Rattle.core_state.specs.Devices.{FailRow, HaveRow}
use Rattle.core_state.specs.Counted.{IsCounted}
use Rattle.core_state.specs.SessionData.{data_of, with_last_message}
use Rattle.core_state.specs.Rows.{Rewrites}
use Rattle.core_state.specs.IsCore.{IsCore}
use Rattle.core_state.specs.TheCore.{IsWhole, IsKept}
use Rattle.core_state.specs.Entered.{with_used, core_after_work}
use Rattle.core_state.proofs.CoreWork.{core_used}
use Rattle.core_state.proofs.WholeEvents.{whole_change_failed}
use Rattle.core_state.proofs.CountedFacts.{counted_stop}
use Rattle.work_events.proofs.KeptFacts.{kept_noted}
use Rattle.work_events.proofs.OwnTask.{sound_now, quiet_now, rows_now}

-- what the devices hold once a row is changed
pub record IsRewritten (s : SiteLog) (volume : ℕ) (row : RowValue) (used : SlotsUsed) (t : SiteLog) (mark : ℕ) : Type 0 where
  pub writes : Rewrites volume row s t
  pub changed : IsChanged row used volume s t
  pub at_end : mark ≡ length t.log
  pub grows : length s.log < length t.log

-- the row that a change leaves of this one, from a core that has so many slots in use
abbrev pub HasRewritten : {S C : Type 0} → SiteLog → CoreValue S C → ℕ → Change → SiteLog → ℕ → RowValue → Type 0
HasRewritten s v volume change t mark r = IsRewritten s volume (effect change r) (used_after (used_at v.used volume)) t mark

-- the change is done of the volume's row, whichever it is
abbrev pub IsDone : {S C : Type 0} → Type 0 → SiteLog → CoreValue S C → ℕ → Change → SiteLog → ℕ → Type 0
IsDone tells s v volume change t mark = tells → ForSome (row_in_list v.rows volume) (HasRewritten s v volume change t mark)

-- the devices have the change, as they are seen
abbrev pub HaveChanged : {S C : Type 0} → Ghosts S → CoreValue S C → ℕ → Change → S → Type 0
HaveChanged g v volume change x =
    ForSome (row_in_list v.rows volume) (λ r. HaveRow g.tells volume (effect change r) (used_after (used_at v.used volume)) (seen_site g v.site) (seen_site g x))

-- a write of the change failed
abbrev pub FailsChange : {S C : Type 0} → Ghosts S → CoreValue S C → ℕ → Change → S → Type 0
FailsChange g v volume change x =
    ForSome (row_in_list v.rows volume) (λ r. FailRow g.tells volume (effect change r) (g.faults x) (seen_site g v.site) (seen_site g x))

-- a core that stopped in a recorder's event, as the change of a row failed
abbrev pub with_row_stopped : {S C : Type 0} → CoreValue S C → ℕ → ℕ → Change → S → ℕ → CoreValue S C
with_row_stopped v n volume change x fault = record v {
  site = x;
  rows = with_changed volume change v.rows;
  stopped = Some fault;
  events = v.events ++ Work n ∷ [];
}

-- a core with the slots that are in use after a change
abbrev pub with_slot : {S C : Type 0} → ℕ → CoreValue S C → CoreValue S C
with_slot volume v = with_used (with_used_after volume v.used) v

pub core_slot : (S : Type 0) {C : Type 0} (v : CoreValue S C) → IsCore v → (volume : ℕ) → IsCore (with_slot volume v)
core_slot S v core volume = core_used S v core (with_used_after volume v.used) (length-set v.used volume (used_after (used_at v.used volume)) ∙ core.used_)

-- a change that a volume's row may have, and for which the devices are ready: what the new row stands on is firm
pub record IsDueChange {S C : Type 0} (tells : Type 0) (s : SiteLog) (v : CoreValue S C) (volume : ℕ) (change : Change) : Type 0 where
  pub r : RowValue
  pub there : row_in_list v.rows volume ≡ Some r
  pub allowed : IsAllowed change r
  pub ready : tells → IsReady v.config.frames change r (content s)
  pub firm : tells → IsFirmFor change r s

-- then the row may be written: it shows the same, and stands on nothing loose
pub may_now : (S : Type 0) {C : Type 0} (tells : Type 0) (s : SiteLog) (v : CoreValue S C) (whole : IsWhole tells s v) (open_ : v.stopped ≡ None) (volume : ℕ) (change : Change) (r : RowValue) → row_in_list v.rows volume ≡ Some r → IsAllowed change r
    → (tells → IsReady v.config.frames change r (content s)) → (tells → IsFirmFor change r s) → tells → MayWriteRow v.config.frames volume (effect change r) s
may_now S tells s v whole open_ volume change r there allowed ready firm tl =
    allowed_write v.config.frames volume change r s (sound_now S tells s v whole open_ tl) (quiet_now S tells s v whole open_ tl) (ap (λ (rows : RowsOf). rows volume) (rows_now S tells s v whole open_ tl) ∙ there)
    ((whole.kept open_).are_rows volume r there) allowed (ready tl) (firm tl)

-- the list of rows then
pub rows_changed : (rows : List (Option RowValue)) (volume : ℕ) (change : Change) (r : RowValue) → row_in_list rows volume ≡ Some r → with_changed volume change rows ≡ slice_set rows volume (Some (effect change r))
rows_changed rows volume change r there = ap (λ (o : Option RowValue). slice_set rows volume (option_map (effect change) o)) there

module _ (S : Type 0) {C : Type 0} (tells : Type 0) (s t : SiteLog) (writes faults later_writes later : ℕ) (v : CoreValue S C) (kept : IsKept tells s writes faults v) (open_ : v.stopped ≡ None)
    (n : ℕ) (x : S) (volume : ℕ) (change : Change) (more : writes ≤ later_writes) (le : faults ≤ later) where
  -- a write of it failed: the core stops
  pub kept_unchanged : IsDueChange tells s v volume change → (tells → ForSome (row_in_list v.rows volume) (λ r. Rewrites volume (effect change r) s t)) → IsFaultSince faults later later
      → IsKept tells t later_writes later (with_row_stopped v n volume change x later)
  kept_unchanged due rewrites failed =
      kept_noted tells t later_writes later (record v { site = x; rows = with_changed volume change v.rows; stopped = Some later }) (v.events ++ Work n ∷ [])
      (whole_change_failed S tells s t v x later (with_changed volume change v.rows) kept.whole open_ (length-set v.rows volume (option_map (effect change) (row_in_list v.rows volume)) ∙ (kept.whole.kept open_).places)
      (λ tl. row_moments v.config.frames volume (effect change due.r) s t (may_now S tells s v kept.whole open_ volume change due.r due.there due.allowed due.ready due.firm tl) (rewrites tl due.r due.there)))
      (counted_stop writes faults later_writes later v.requests (data_of v) kept.counted more le open_ failed)

  -- it is done: the message is told
  pub kept_changed : (r : RowValue) → row_in_list v.rows volume ≡ Some r → (owners : List (Option (ℕ × ℕ))) (moving : List Bool) (requests : RequestsData) (tasks : List (Option Task))
      → IsWhole tells t (core_after_work (with_slot volume v) x (slice_set v.rows volume (Some (effect change r))) (v.console ++ message_of later_writes volume change (row_in_list v.rows) ∷ []) owners moving requests tasks)
      → IsCounted later_writes later requests (with_last_message (message_of later_writes volume change (row_in_list v.rows)) (data_of v))
      → IsKept tells t later_writes later (record (core_after_work (with_slot volume v) x (with_changed volume change v.rows) (v.console ++ message_of later_writes volume change (row_in_list v.rows) ∷ []) owners moving requests tasks) { events = v.events ++ Work n ∷ [] })
  kept_changed r there owners moving requests tasks whole counted =
      subst (λ (rows : List (Option RowValue)). IsKept tells t later_writes later (record (core_after_work (with_slot volume v) x rows (v.console ++ message_of later_writes volume change (row_in_list v.rows) ∷ []) owners moving requests tasks) { events = v.events ++ Work n ∷ [] }))
      (sym (rows_changed v.rows volume change r there))
      (kept_noted tells t later_writes later (core_after_work (with_slot volume v) x (slice_set v.rows volume (Some (effect change r))) (v.console ++ message_of later_writes volume change (row_in_list v.rows) ∷ []) owners moving requests tasks) (v.events ++ Work n ∷ []) whole counted)

-- The invariant of a core.
use Rattle.std.specs.Prelude.{◌≡◌, ◌↔◌, ◌≤◌, ◌<◌, ℕ, true, List, [], ◌∷◌, length, take, Some, None}
use Rattle.mss_base.specs.Content.{Content, SiteLog, content, after as written_after}
use Rattle.mss_base.specs.declared.place.UnitNo.{UnitNo}
use Rattle.ckd_plain.specs.Data.{State}
use Rattle.ckd_plain.specs.History.{after, IsLegal, HasNoStop}
use Rattle.volume_table.specs.Row.{RowValue, IsRow}
use Rattle.table_pair.specs.Pair.{HoldsRow, is_table}
use Rattle.table_pair.specs.Slots.{AreUsed}
use Rattle.shown_volumes.specs.Shown.{RowsOf, rows_of, volumes_shown}
use Rattle.shown_volumes.specs.Sound.{frame_in}
use Rattle.shown_volumes.specs.Changing.{IsQuiet}
use Rattle.core_state.specs.declared.session.Message.{Message}
use Rattle.core_state.specs.declared.session.TheConstants.{ENTRY_LIMIT}
use Rattle.fault_queue.specs.declared.queue.Request.{Request}
use Rattle.core_state.specs.StopRule.{opening, StopsWell}
use Rattle.core_state.specs.Agrees.{Agrees, handed_rows, rows_after}
use Rattle.core_state.specs.CoreValue.{CoreValue}
use Rattle.core_state.specs.Beside.{IsBeside}
use Rattle.core_state.specs.Fitting.{IsFit}
use Rattle.ckd_plain.specs.declared.host.HostState.{HostState}
use Rattle.core_state.specs.Pins.{host_at, owner_at, is_on, owns}
use Rattle.volume_table.specs.Listed.{row_in_list}
use Rattle.fault_queue.specs.Requests.{request_of, IsOnce}
use Rattle.core_state.specs.Tasks.{AreTasks, AreWaiting}
use Rattle.core_state.specs.Served.{AreServed}

abbrev pub AllUpTo : ℕ → List ℕ → Type 0
AllUpTo n [] = Unit {0}
AllUpTo n (m ∷ ms) = (m ≤ n) × AllUpTo n ms

abbrev pub AllDone : ℕ → List Message → Type 0
AllDone n [] = Unit {0}
AllDone n (m ∷ ms) = (m.mark ≤ n) × AllDone n ms

-- a request is on the volume that its host has mounted, and on the cylinder where it stands
abbrev pub IsPlaced : HostState → Request → Type 0
IsPlaced host q = (is_on q.volume host.mounted ≡ true) × (host.cylinder ≡ q.cylinder)

-- what a core keeps while it isn't stopped, whatever its devices tell
pub record IsCore {S C : Type 0} (v : CoreValue S C) : Type 0 where
  pub places : length v.rows ≡ 32
  pub are_rows : (volume : ℕ) (r : RowValue) → row_in_list v.rows volume ≡ Some r → IsRow r
  pub used_ : length v.used ≡ 32
  pub hosts_ : length v.hosts ≡ 8
  pub requests_ : IsOnce v.requests
  pub owners_ : length v.owners ≡ v.config.frames
  pub moving_ : length v.moving ≡ v.config.frames
  pub few : length v.history ≤ ENTRY_LIMIT
  pub marked : length v.marks ≡ length v.history
  pub alone : (volume h other : ℕ) → owns v.hosts v.requests h volume ≡ true
      → owns v.hosts v.requests other volume ≡ true → h ≡ other
  pub on_mounted : (h : ℕ) (q : Request) → request_of v.requests h ≡ Some q
      → IsPlaced (host_at v.hosts h) q
  pub framed : (volume page frame : ℕ) → frame_in (row_in_list v.rows) volume page ≡ Some frame
      → frame < v.config.frames
  pub owned : (frame volume page : ℕ) → frame < v.config.frames
      → (owner_at v.owners frame ≡ Some (volume, page))
      ↔ (frame_in (row_in_list v.rows) volume page ≡ Some frame)
  pub waiting : AreWaiting (row_in_list v.rows) v.requests
  pub fit : IsFit v.config.recorders v.rows v.requests v.hosts v.tasks
  pub beside : IsBeside v.config.frames v.config.recorders v.recency v.recorders v.store
  pub tasks_ : AreTasks v.config.frames (row_in_list v.rows) v.moving v.requests v.hosts v.tasks

abbrev pub opening_of : {S C : Type 0} → SiteLog → CoreValue S C → State
opening_of site v = opening v.first_write site

-- what the devices held when the session began
abbrev pub beginning_of : {S C : Type 0} → SiteLog → CoreValue S C → Content
beginning_of site v = written_after site.start (take v.first_write site.log)

abbrev pub handed_to : {S C : Type 0} → SiteLog → CoreValue S C → RowsOf
handed_to site v = handed_rows (rows_of (beginning_of site v)) v.console

-- both copies of a volume's row are as they were
abbrev pub KeepsCopies : ℕ → Content → Content → Type 0
KeepsCopies volume old new = (unit : UnitNo) → is_table unit ≡ true → new unit volume ≡ old unit volume

-- what a core that isn't stopped keeps of what its devices hold: its host states and the volumes
-- that they show are those after the history, its rows are theirs, with their slots, what is half
-- copied stands there, nothing that is shown or staged is loose, and a volume without a row has both
-- copies as they were when the session began
pub record IsGoing {S C : Type 0} (site : SiteLog) (v : CoreValue S C) : Type 0 where
  pub no_stop : HasNoStop v.history
  pub hosts_ : (after (opening_of site v) v.history).host ≡ host_at v.hosts
  pub shows : volumes_shown (content site) ≡ (after (opening_of site v) v.history).volumes
  pub rows_ : rows_of (content site) ≡ row_in_list v.rows
  pub copies : (volume : ℕ) (r : RowValue) → row_in_list v.rows volume ≡ Some r
      → HoldsRow r volume (content site)
  pub slots_ : AreUsed v.used (content site)
  pub told : rows_after (handed_to site v) v.console ≡ row_in_list v.rows
  pub served : AreServed (content site) (row_in_list v.rows) v.tasks
  pub quiet : IsQuiet site
  pub without : (volume : ℕ) → row_in_list v.rows volume ≡ None
      → KeepsCopies volume (beginning_of site v) (content site)

-- what a core keeps of what its devices hold
pub record IsTold {S C : Type 0} (site : SiteLog) (v : CoreValue S C) : Type 0 where
  pub began : v.first_write ≤ length site.log
  pub entries : AllUpTo (length site.log) v.marks
  pub messages : AllDone (length site.log) v.console
  pub legal : IsLegal (opening_of site v) v.history
  pub stops : StopsWell v.config.frames v.first_write (opening_of site v) v.history v.marks site
  pub agrees : Agrees v.config.frames v.first_write (handed_to site v)
      (opening_of site v) v.history v.marks v.console
  pub going : v.stopped ≡ None → IsGoing site v

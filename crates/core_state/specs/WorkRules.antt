-- Which rule a recorder meets.
use Rattle.std.specs.Prelude.{ℕ, ◌==◌, nat_lt, Bool, true, false, not, ◌&&◌, if◌then◌else◌, List}
use Rattle.std.specs.Prelude.{[], ◌∷◌, length, slice_get, Option, Some, None, is_some}
use Rattle.std.specs.Option.{option_map, option_and_then, unwrap_or}
use Rattle.volume_table.specs.Row.{RowValue, cartridge_with}
use Rattle.mss_base.specs.Firsts.{where_so, ◌or◌}
use Rattle.fault_queue.specs.declared.queue.Request.{Request}
use Rattle.fault_queue.specs.declared.queue.RequestState.{RequestState}
use Rattle.fault_queue.specs.declared.queue.RequestState.TheVariants as request
use Rattle.fault_queue.specs.Requests.{RequestsData, request_of}
use Rattle.transfers.specs.declared.transfer.Transfer.{Transfer}
use Rattle.transfers.specs.declared.transfer.TransferKind.{TransferKind}
use Rattle.transfers.specs.declared.transfer.TransferKind.TheVariants.{StageBlank, StageCartridge}
use Rattle.transfers.specs.declared.transfer.TransferKind.TheVariants.{Destage}
use Rattle.cartridge_store.specs.declared.store.Place.{Place}
use Rattle.cartridge_store.specs.declared.store.Place.TheVariants.{Cell}
use Rattle.cartridge_store.specs.Places.{place_of}
use Rattle.core_state.specs.declared.task.Task.{Task}
use Rattle.core_state.specs.declared.rule.WorkRule.{WorkRule}
use Rattle.core_state.specs.declared.rule.WorkRule.TheVariants.{IsStopped, IsIdle, GivesBack, Picks}
use Rattle.core_state.specs.declared.rule.WorkRule.TheVariants.{PicksVictim, Abandons, Fetches}
use Rattle.core_state.specs.declared.rule.WorkRule.TheVariants.{Copies, Ends, Frees, Assigns}
use Rattle.core_state.specs.CoreValue.{CoreValue}
use Rattle.core_state.specs.Beside.{held_at}
use Rattle.core_state.specs.Pins.{task_at, state_in, page_of, is_moving}
use Rattle.core_state.specs.Pins.{free_frame, changed_in, candidates}
use Rattle.volume_table.specs.Listed.{row_in_list}
use Rattle.shown_volumes.specs.Sound.{frame_in}

abbrev pub task_of : {S C : Type 0} → CoreValue S C → ℕ → Option Task
task_of core recorder = task_at core.tasks recorder

abbrev pub held_in : {S C : Type 0} → CoreValue S C → ℕ → Option ℕ
held_in core recorder = held_at core.recorders recorder

-- ---- the transfer that a task is at

-- the cartridge of a cylinder
abbrev pub cartridge_of : List (Option RowValue) → ℕ → ℕ → ℕ
cartridge_of rows volume cylinder =
    unwrap_or (option_map (λ r. cartridge_with r cylinder) (row_in_list rows volume)) 0

abbrev pub transfer : List (Option RowValue) → TransferKind → ℕ → ℕ → ℕ → Transfer
transfer rows kind volume cylinder frame = record {
  kind = kind;
  volume = volume;
  cylinder = cylinder;
  frame = frame;
  cartridge = cartridge_of rows volume cylinder;
  next = 0;
}

-- the lowest changed cylinder of the victim is destaged
abbrev pub destaging : List (Option RowValue) → ℕ → ℕ × ℕ → Option Transfer
destaging rows frame page =
    option_map (λ cylinder. transfer rows Destage page.0 cylinder frame)
    (slice_get (changed_in rows page) 0)

-- a cylinder that was never written is staged blank
abbrev pub staging_kind : ℕ → TransferKind
staging_kind state = if state == 0 then StageBlank else StageCartridge

-- the asked cylinder is staged, once its page has the frame
abbrev pub staging : List (Option RowValue) → ℕ → Request → Option Transfer
staging rows frame r =
    option_map (λ _. transfer rows (staging_kind (state_in rows r.volume r.cylinder)) r.volume
    r.cylinder frame)
    (frame_in (row_in_list rows) r.volume (page_of r.cylinder))

-- what is to be copied next, where no transfer is under way
abbrev pub next_transfer : List (Option RowValue) → RequestsData → Task → Option Transfer
next_transfer rows requests task =
    elim task.victim [
      | Some page ↦ destaging rows task.frame page
      | None ↦ option_and_then (staging rows task.frame) (request_of requests task.host)
    ]

abbrev pub transfer_of : {S C : Type 0} → CoreValue S C → Task → Option Transfer
transfer_of core task = task.transfer or next_transfer core.rows core.requests task

-- ---- the rules, in order

-- the core is stopped
abbrev pub stopped_rule : {S C : Type 0} → CoreValue S C → Option WorkRule
stopped_rule core = option_map IsStopped core.stopped

-- no task, and a cartridge in the recorder
abbrev pub return_rule : {S C : Type 0} → CoreValue S C → ℕ → Option WorkRule
return_rule core recorder =
    option_and_then
    (λ cartridge. where_so (not (is_some (task_of core recorder))) (GivesBack cartridge))
    (held_in core recorder)

-- a request whose page has a frame takes that one, unless a task uses it; another one the lowest
-- free frame, or the chooser's, where there are candidates
abbrev pub pick_on : {S C : Type 0} → CoreValue S C → ℕ → Option ℕ → Option WorkRule
pick_on core h (Some frame) = where_so (not (is_moving core frame)) (Picks h frame)
pick_on core h None =
    option_map (Picks h) (free_frame core)
    or where_so (nat_lt 0 (length (candidates core))) (PicksVictim h)

abbrev pub pick_for : {S C : Type 0} → CoreValue S C → ℕ → Request → RequestState → Option WorkRule
pick_for core h r request.Queued =
    pick_on core h (frame_in (row_in_list core.rows) r.volume (page_of r.cylinder))
pick_for core h r _ = None

abbrev pub first_pick : {S C : Type 0} → CoreValue S C → RequestsData → Option WorkRule
first_pick core [] = None
first_pick core (asked ∷ more) = pick_for core asked.0 asked.1 asked.1.state or first_pick core more

-- no task: the first Queued request, in order of asking, that can be picked
abbrev pub pick_rule : {S C : Type 0} → CoreValue S C → ℕ → Option WorkRule
pick_rule core recorder =
    if is_some (task_of core recorder) then None else first_pick core core.requests

-- some tracks of the cylinder are copied, but not all
abbrev pub is_within : Option Transfer → Bool
is_within None = false
is_within (Some t) = nat_lt 0 t.next && nat_lt t.next 19

-- the victim was used since the pick, and no cylinder is copied in part
abbrev pub abandon_rule : Task → Option WorkRule
abandon_rule task =
    where_so (is_some task.victim && task.touched && not (is_within task.transfer)) Abandons

abbrev pub needs_cartridge : TransferKind → Bool
needs_cartridge StageBlank = false
needs_cartridge _ = true

abbrev pub is_in_cell : Place → Bool
is_in_cell (Cell number) = true
is_in_cell _ = false

-- the cartridge of the next copy isn't in this recorder, which holds another, or none
abbrev pub carry_for : {S C : Type 0} → CoreValue S C → ℕ → Option ℕ → Option WorkRule
carry_for core cartridge (Some other) = where_so (not (other == cartridge)) (GivesBack other)
carry_for core cartridge None =
    Some (if is_in_cell (place_of core.store cartridge) then Fetches cartridge else IsIdle)

abbrev pub carry_rule : {S C : Type 0} → CoreValue S C → ℕ → Transfer → Option WorkRule
carry_rule core recorder t =
    if nat_lt t.next 19 && needs_cartridge t.kind
    then carry_for core t.cartridge (held_in core recorder)
    else None

-- a track is to be copied, or all are
abbrev pub copy_rule : Transfer → Option WorkRule
copy_rule t = where_so (nat_lt t.next 19) (Copies t)

abbrev pub end_rule : Transfer → Option WorkRule
end_rule t = Some (Ends t)

-- the victim has no changed cylinder
abbrev pub free_rule : Task → Option WorkRule
free_rule task = option_map (λ page. Frees page.0 page.1) task.victim

-- the asked page has no frame
abbrev pub assign_rule : {S C : Type 0} → CoreValue S C → Task → Option WorkRule
assign_rule core task =
    option_map (λ r. Assigns r.volume (page_of r.cylinder)) (request_of core.requests task.host)

abbrev pub task_rule : {S C : Type 0} → CoreValue S C → ℕ → Task → Option WorkRule
task_rule core recorder task =
    abandon_rule task
    or option_and_then (λ t. carry_rule core recorder t or copy_rule t or end_rule t)
    (transfer_of core task)
    or free_rule task
    or assign_rule core task

-- the first rule that applies
unfoldable pub work_rule : {S C : Type 0} → CoreValue S C → ℕ → WorkRule
work_rule core recorder =
    unwrap_or (
    stopped_rule core
    or return_rule core recorder
    or pick_rule core recorder
    or option_and_then (task_rule core recorder) (task_of core recorder)
    ) IsIdle

-- How much the recorders have left to do, and the hosts of a run: numbers that fall.
use Rattle.std.specs.Prelude.{ℕ, zero, suc, ◌+◌, ◌-◌, ◌*◌, ◌==◌, nat_lt, Bool, true, false, ◌&&◌}
use Rattle.std.specs.Prelude.{if◌then◌else◌, List, length, Option, Some, None, is_some}
use Rattle.std.specs.Option.{option_and_then}
use Rattle.std.specs.List.{sum_by}
use Rattle.std.specs.Map.{values_of}
use Rattle.mss_base.specs.Firsts.{where_so}
use Rattle.volume_table.specs.Row.{RowValue}
use Rattle.fault_queue.specs.declared.queue.Request.{Request}
use Rattle.fault_queue.specs.declared.queue.RequestState.{RequestState}
use Rattle.fault_queue.specs.declared.queue.RequestState.TheVariants.{Queued, Moving}
use Rattle.fault_queue.specs.Requests.{request_of}
use Rattle.transfers.specs.declared.transfer.Transfer.{Transfer}
use Rattle.core_state.specs.declared.task.Task.{Task}
use Rattle.core_state.specs.CoreValue.{CoreData}
use Rattle.core_state.specs.Pins.{state_in, is_ready}
use Rattle.core_state.specs.WorkRules.{task_of, held_in, transfer_of, needs_cartridge}

-- ---- what isn't a carry

-- one that waits has a pick, and more than all that its task can have left before it; one that is
-- served is to end
abbrev pub state_left : RequestState → ℕ
state_left Queued = 23
state_left Moving = 1
state_left _ = 0

abbrev pub request_left : Request → ℕ
request_left r = state_left r.state

-- a victim has to be freed; where it was touched, the request is picked again
abbrev pub victim_left : Bool → Option (ℕ × ℕ) → ℕ
victim_left touched None = 0
victim_left true (Some page) = 23
victim_left false (Some page) = 2

-- the tracks of its next transfer
abbrev pub copies_left : Option Transfer → ℕ
copies_left None = 19
copies_left (Some t) = 19 - t.next

abbrev pub task_left : Option Task → ℕ
task_left None = 0
task_left (Some task) = victim_left task.touched task.victim + copies_left task.transfer

abbrev pub changed_one : ℕ → ℕ
changed_one state = if state == 4 then 1 else 0

-- the changed cylinders of a volume
abbrev pub row_left : Option RowValue → ℕ
row_left None = 0
row_left (Some r) = sum_by changed_one r.states

-- a frame that no page has can be given to one
abbrev pub frame_left : Option (ℕ × ℕ) → ℕ
frame_left None = 1
frame_left (Some page) = 0

-- a changed cylinder outweighs the tracks of the transfer that ends with it
abbrev pub work_left : CoreData → ℕ
work_left core =
    sum_by request_left (values_of core.requests)
    + sum_by task_left core.tasks
    + 20 * sum_by row_left core.rows
    + sum_by frame_left core.owners

-- ---- carries

-- the cartridge of a task's next copy
abbrev pub needed_cartridge : CoreData → Task → Option ℕ
needed_cartridge core task =
    option_and_then (λ t. where_so (nat_lt t.next 19 && needs_cartridge t.kind) t.cartridge)
    (transfer_of core task)

-- it is fetched, where need be after another one was given back
abbrev pub carry_left : Option ℕ → Option ℕ → ℕ
carry_left None held = 0
carry_left (Some cartridge) None = 1
carry_left (Some cartridge) (Some other) = if other == cartridge then 0 else 2

-- a recorder without a task gives back what it holds
abbrev pub recorder_left : CoreData → Option Task → Option ℕ → ℕ
recorder_left core None None = 0
recorder_left core None (Some cartridge) = 1
recorder_left core (Some task) held = carry_left (needed_cartridge core task) held

abbrev pub sum_below : ℕ → (ℕ → ℕ) → ℕ
sum_below zero f = 0
sum_below (suc n) f = sum_below n f + f n

abbrev pub carries_left : CoreData → ℕ
carries_left core =
    sum_below core.config.recorders
    (λ i. recorder_left core (task_of core i) (held_in core i))

-- ---- the recorders

-- it falls at each event of a recorder that isn't idle: what isn't a carry outweighs all carries,
-- of which a recorder has two at most
abbrev pub settle_left : CoreData → ℕ
settle_left core = (core.config.recorders * 2 + 1) * work_left core + carries_left core

-- ---- a run

-- a request whose cylinder is staged, and changed, so that the host's write may be carried out
abbrev pub is_ready_to_write : List (Option RowValue) → Option Request → Bool
is_ready_to_write rows None = false
is_ready_to_write rows (Some r) = is_ready r.state && (state_in rows r.volume r.cylinder == 4)

-- the host was told that its write may go on, and hasn't been replied since
abbrev pub is_marked : CoreData → ℕ → Bool
is_marked core h = is_ready_to_write core.rows (request_of core.requests h)

abbrev pub has_request : CoreData → ℕ → Bool
has_request core h = is_some (request_of core.requests h)

-- how many of the eight hosts a test is false of
abbrev pub one_unless : Bool → ℕ
one_unless true = 0
one_unless false = 1

abbrev pub hosts_without : (ℕ → Bool) → ℕ
hosts_without test = sum_below 8 (λ i. one_unless (test (suc i)))

-- it falls at each reply, each mark and each request that a host makes, and stays else: an entry
-- outweighs what becomes of the eight hosts, a mark what becomes of their requests
abbrev pub run_left : CoreData → ℕ
run_left core =
    81 * (4096 - length core.history)
    + 9 * hosts_without (is_marked core)
    + hosts_without (has_request core)

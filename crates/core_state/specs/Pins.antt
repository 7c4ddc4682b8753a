-- Which frames may be taken, and who owns a volume.
use Rattle.volume_table.specs.Listed.{row_in_list}
use Rattle.std.specs.Prelude.{ℕ, ◌*◌, ◌/◌, ◌-◌, ◌==◌, nat_lt, Bool, true, false, not, ◌&&◌, ◌||◌}
use Rattle.std.specs.Prelude.{if◌then◌else◌, List, ◌∷◌, length, filter, filter_map, slice_index_or}
use Rattle.std.specs.Prelude.{slice_set, Option, Some, None, is_some}
use Rattle.std.specs.Option.{option_map}
use Rattle.std.specs.List.{list_any, range_with_len}
use Rattle.volume_table.specs.Row.{RowValue, state_of}
use Rattle.ckd_plain.specs.declared.host.HostState.{HostState}
use Rattle.ckd_plain.specs.Plain.{fresh_host}
use Rattle.mss_base.specs.Firsts.{where_so, first_below}
use Rattle.fault_queue.specs.declared.queue.Request.{Request}
use Rattle.fault_queue.specs.declared.queue.RequestState.{RequestState}
use Rattle.fault_queue.specs.declared.queue.RequestState.TheVariants as request
use Rattle.fault_queue.specs.Requests.{RequestsData, request_of}
use Rattle.victim_choice.specs.declared.choose.Candidate.{Candidate}
use Rattle.core_state.specs.declared.task.Task.{Task}
use Rattle.core_state.specs.CoreValue.{CoreValue}

-- ---- by number

abbrev pub host_at : List HostState → ℕ → HostState
host_at hosts h = slice_index_or (fresh_host ∷ hosts) h fresh_host

-- with another state of one host
abbrev pub put_host : List HostState → ℕ → HostState → List HostState
put_host hosts h host = slice_set hosts (h - 1) host

abbrev pub owner_at : List (Option (ℕ × ℕ)) → ℕ → Option (ℕ × ℕ)
owner_at owners frame = slice_index_or owners frame None

abbrev pub task_at : List (Option Task) → ℕ → Option Task
task_at tasks recorder = slice_index_or tasks recorder None

abbrev pub moves_at : List Bool → ℕ → Bool
moves_at moving frame = slice_index_or moving frame false

abbrev pub volume_under : HostState → Option ℕ
volume_under host = option_map (λ m. m.0) host.mounted

-- whether a page is this one
abbrev pub is_page : ℕ × ℕ → ℕ × ℕ → Bool
is_page p q = (p.0 == q.0) && (p.1 == q.1)

-- the page of a cylinder
abbrev pub page_of : ℕ → ℕ
page_of cylinder = cylinder / 8

-- the page that a request is on
abbrev pub asked_page : Request → ℕ × ℕ
asked_page r = (r.volume, page_of r.cylinder)

-- a test of a page, where there is one
abbrev pub on_page : (ℕ × ℕ → Bool) → Option (ℕ × ℕ) → Bool
on_page test None = false
on_page test (Some page) = test page

-- the state of a cylinder
abbrev pub state_of_row : Option RowValue → ℕ → ℕ
state_of_row None cylinder = 0
state_of_row (Some r) cylinder = state_of r cylinder

abbrev pub state_in : List (Option RowValue) → ℕ → ℕ → ℕ
state_in rows volume cylinder = state_of_row (row_in_list rows volume) cylinder

-- ---- the frames

-- the volume is mounted with bind
abbrev pub binds : ℕ → Option (ℕ × Bool) → Bool
binds volume None = false
binds volume (Some m) = (m.0 == volume) && m.1

-- some host has it so
abbrev pub is_volume_bound : List HostState → ℕ → Bool
is_volume_bound hosts volume = list_any (λ host. binds volume host.mounted) hosts

abbrev pub is_ready : RequestState → Bool
is_ready request.Ready = true
is_ready _ = false

abbrev pub is_ready_on : ℕ × ℕ → Request → Bool
is_ready_on page r = is_ready r.state && is_page (asked_page r) page

-- some host has the page's volume mounted with bind
abbrev pub is_frame_bound : List HostState → List (Option (ℕ × ℕ)) → ℕ → Bool
is_frame_bound hosts owners frame =
    on_page (λ page. is_volume_bound hosts page.0) (owner_at owners frame)

abbrev pub is_bound : {S C : Type 0} → CoreValue S C → ℕ → Bool
is_bound core frame = is_frame_bound core.hosts core.owners frame

-- so have some hosts the pages of the first so many frames
abbrev pub are_frames_bound : List HostState → List (Option (ℕ × ℕ)) → ℕ → Bool
are_frames_bound hosts owners count =
    not (is_some
    (first_below count (λ frame. where_so (not (is_frame_bound hosts owners frame)) frame)))

-- a recorder's task uses it
abbrev pub is_moving : {S C : Type 0} → CoreValue S C → ℕ → Bool
is_moving core frame = moves_at core.moving frame

-- a Ready request is on its page
abbrev pub is_held : {S C : Type 0} → CoreValue S C → ℕ → Bool
is_held core frame =
    on_page (λ page. list_any (λ asked. is_ready_on page asked.1) core.requests)
    (owner_at core.owners frame)

abbrev pub are_all_bound : {S C : Type 0} → CoreValue S C → Bool
are_all_bound core = are_frames_bound core.hosts core.owners core.config.frames

-- no page has it and no task uses it
abbrev pub is_free : {S C : Type 0} → CoreValue S C → ℕ → Bool
is_free core frame = not (is_some (owner_at core.owners frame)) && not (is_moving core frame)

-- the lowest such frame
abbrev pub free_frame : {S C : Type 0} → CoreValue S C → Option ℕ
free_frame core =
    first_below core.config.frames (λ frame. where_so (is_free core frame) frame)

-- ---- the pages whose frames may be taken

-- a page has eight cylinders, the last page four
abbrev pub is_changed : List (Option RowValue) → ℕ → ℕ → Bool
is_changed rows volume cylinder = nat_lt cylinder 404 && (state_in rows volume cylinder == 4)

-- the changed cylinders of a page, in order
abbrev pub changed_in : List (Option RowValue) → ℕ × ℕ → List ℕ
changed_in rows page = filter (is_changed rows page.0) (range_with_len (page.1 * 8) 8)

abbrev pub candidate_on : {S C : Type 0} → CoreValue S C → ℕ → ℕ × ℕ → Candidate
candidate_on core frame page =
    record {
      frame = frame;
      volume = page.0;
      page = page.1;
      changed = length
          (changed_in core.rows page);
    }

-- the frame, where a page has it and it is neither bound nor moving nor held
abbrev pub candidate : {S C : Type 0} → CoreValue S C → ℕ → Option Candidate
candidate core frame =
    if is_bound core frame || is_moving core frame || is_held core frame then None
    else option_map (candidate_on core frame) (owner_at core.owners frame)

-- the least recently touched first
abbrev pub candidates : {S C : Type 0} → CoreValue S C → List Candidate
candidates core = filter_map (candidate core) core.recency

-- ---- the owner of a volume

abbrev pub is_on : ℕ → Option (ℕ × Bool) → Bool
is_on volume None = false
is_on volume (Some m) = m.0 == volume

abbrev pub asks_for : ℕ → Option Request → Bool
asks_for volume None = false
asks_for volume (Some r) = r.volume == volume

-- a host owns its mounted volume while its chain is open, and while it has a request on it
abbrev pub owns : List HostState → RequestsData → ℕ → ℕ → Bool
owns hosts requests h volume =
    is_on volume (host_at hosts h).mounted
    && ((host_at hosts h).chain_open || asks_for volume (request_of requests h))

-- the host that owns a volume
abbrev pub owner_among : List HostState → RequestsData → ℕ → Option ℕ
owner_among hosts requests volume =
    first_below 9 (λ h. where_so (owns hosts requests h volume) h)

abbrev pub owner_of : {S C : Type 0} → CoreValue S C → ℕ → Option ℕ
owner_of core volume = owner_among core.hosts core.requests volume

-- ---- tasks that take a page

-- the tasks that take a page from its frame are touched
abbrev pub takes_page : ℕ × ℕ → Task → Bool
takes_page page task = on_page (λ p. is_page p page) task.victim

abbrev pub touch : ℕ × ℕ → Task → Task
touch page task = record task { touched = task.touched || takes_page page task }

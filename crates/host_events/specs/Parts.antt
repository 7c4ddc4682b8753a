-- Steps and answers of the events that need a track.
use Rattle.std.specs.Prelude.{ℕ, Bool, [], ◌∷◌, ◌++◌, if◌then◌else◌}
use Rattle.channel_commands.specs.Data.{equipment_check}
use Rattle.fault_queue.specs.declared.queue.Request.{Request}
use Rattle.fault_queue.specs.declared.queue.RequestState.TheVariants as request
use Rattle.fault_queue.specs.Requests.{RequestsData, with_state, without_request}
use Rattle.core_state.specs.HostEvents.{HostTold, replied, waits, halts, at_limit, no_memory}

-- ---- the request that is ready once a cylinder is marked; had: whether the host has one

abbrev pub ready_for : ℕ → ℕ → Request
ready_for volume cylinder =
    record { volume = volume; cylinder = cylinder; state = request.Ready }

-- there is one, before the change is written
abbrev pub asked_for : ℕ → Request → Bool → RequestsData → RequestsData
asked_for h r had requests = if had then requests else (requests ++ (h, r) ∷ [])

-- it is ready, once the change is written
abbrev pub made_ready : ℕ → Bool → RequestsData → RequestsData
made_ready h had requests = if had then with_state h request.Ready requests else requests

-- it is gone, where the change wasn't written
abbrev pub given_up : ℕ → Bool → RequestsData → RequestsData
given_up h had requests = if had then requests else without_request h requests

-- ---- answers by which the history doesn't grow

-- the call waits, or is one too many, or memory was refused
abbrev pub IsUntold : HostTold → Type 0
IsUntold (waits waiting) = Unit {0}
IsUntold at_limit = Unit {0}
IsUntold no_memory = Unit {0}
IsUntold _ = ⊥

-- ---- answers of a core no device of which failed

-- no write failed
abbrev pub GoesOn : HostTold → Type 0
GoesOn (halts fault) = ⊥
GoesOn _ = Unit {0}

-- nor a read
abbrev pub IsUnfailed : HostTold → Type 0
IsUnfailed (replied index equipment_check) = ⊥
IsUnfailed (halts fault) = ⊥
IsUnfailed _ = Unit {0}

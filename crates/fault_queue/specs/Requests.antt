-- Requests of hosts, in order of asking.
use Rattle.std.specs.Prelude.{ℕ, nat_eq, Bool, true, false, List, [], ◌∷◌, ◌++◌, Option, Some, None, is_some}
use Rattle.std.specs.List.{IsDistinct}
use Rattle.std.specs.Option.{option_map}
use Rattle.std.specs.Map.{keys_of, lookup, remove_entry, set_value}
use Rattle.fault_queue.specs.declared.queue.Request.{Request}
use Rattle.fault_queue.specs.declared.queue.RequestState.{RequestState}

-- each with its host
abbrev pub RequestsData : Type 0
RequestsData = List (ℕ × Request)

-- the request of a host
abbrev pub request_of : RequestsData → ℕ → Option Request
request_of requests h = lookup (nat_eq h) requests

-- the others close up
abbrev pub without_request : ℕ → RequestsData → RequestsData
without_request h requests = remove_entry (nat_eq h) requests

-- in another state, at its place
abbrev pub in_state : RequestState → Request → Request
in_state state r = record r { state = state }

abbrev pub with_request_at : ℕ → Option Request → RequestsData → RequestsData
with_request_at h None requests = requests
with_request_at h (Some r) requests = set_value (nat_eq h) requests r

abbrev pub with_state : ℕ → RequestState → RequestsData → RequestsData
with_state h state requests = with_request_at h (option_map (in_state state) (request_of requests h)) requests

-- ---- what is kept of them

-- no host has two
abbrev pub IsOnce : RequestsData → Type 0
IsOnce requests = IsDistinct nat_eq (keys_of requests)

-- a host's request is this one: in its place, or the last where the host has none
abbrev pub asked_as : ℕ → Request → Bool → RequestsData → RequestsData
asked_as h r true requests = set_value (nat_eq h) requests r
asked_as h r false requests = requests ++ (h, r) ∷ []

abbrev pub put_request : RequestsData → ℕ → Option Request → RequestsData
put_request requests h None = without_request h requests
put_request requests h (Some r) = asked_as h r (is_some (request_of requests h)) requests

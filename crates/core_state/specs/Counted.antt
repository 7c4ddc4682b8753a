-- What a core keeps of its counts, whatever its devices tell.
use Rattle.std.specs.Prelude.{◌≡◌, ◌⊎◌, ◌↔◌, ◌≤◌, ℕ, ◌+◌, List, [], ◌∷◌, ◌++◌, slice_get, Option}
use Rattle.std.specs.Prelude.{Some, None, IsSome, IsTrue}
use Rattle.std.specs.Option.{option_and_then}
use Rattle.mss_base.specs.Counts.{Rises, IsFaultWithin}
use Rattle.ckd_plain.specs.History.{EntryData, IsStopped, HasNoStop, count_of_host, keeps_fault}
use Rattle.fault_queue.specs.Requests.{RequestsData, request_of}
use Rattle.core_state.specs.HostRules.{fault_of}
use Rattle.core_state.specs.IsCore.{AllDone}
use Rattle.core_state.specs.SessionData.{SessionData}

-- ---- marks

-- they never fall, from the first write on, and none is above the count of writes
abbrev pub AreMarks : ℕ → List ℕ → ℕ → Type 0
AreMarks since [] writes = since ≤ writes
AreMarks since (mark ∷ marks) writes = (since ≤ mark) × AreMarks mark marks writes

-- ---- entries

-- an entry behind others: its number counts its host's, and it keeps a fault with an equipment
-- check and with a stop; no entry is behind a stop
pub record IsEntryBehind (before : List EntryData) (e : EntryData) : Type 0 where
  pub number : e.number ≡ count_of_host e.host before + 1
  pub fault : IsSome e.fault ↔ IsTrue (keeps_fault e.reply)

abbrev pub AreEntriesBehind : List EntryData → List EntryData → Type 0
AreEntriesBehind before [] = Unit {0}
AreEntriesBehind before (e ∷ es) =
    IsEntryBehind before e
    × (IsStopped e.reply → es ≡ [])
    × AreEntriesBehind (before ++ e ∷ []) es

abbrev pub AreEntries : List EntryData → Type 0
AreEntries entries = AreEntriesBehind [] entries

-- ---- faults

-- the fault that an entry keeps, and that of a request
abbrev pub fault_at : List EntryData → ℕ → Option ℕ
fault_at history place = option_and_then (λ e. e.fault) (slice_get history place)

abbrev pub fault_asked : RequestsData → ℕ → Option ℕ
fault_asked requests h = option_and_then (λ r. fault_of r.state) (request_of requests h)

-- the count stands at its last value, and tells nothing more
abbrev pub IsLast : ℕ → Type 0
IsLast count = 18446744073709551615 ≤ count

-- The faults that are kept are of calls that failed since the session began, each of another one:
-- a fault allows one equipment check.
pub record AreFaults (first now : ℕ) (history : List EntryData) (requests : RequestsData) : Type 0
  where
    pub in_entry : (place fault : ℕ) → fault_at history place ≡ Some fault
        → IsFaultWithin first now fault
    pub in_request : (h fault : ℕ) → fault_asked requests h ≡ Some fault
        → IsFaultWithin first now fault
    pub entries_apart : (place other fault : ℕ) → fault_at history place ≡ Some fault
        → fault_at history other ≡ Some fault → (place ≡ other) ⊎ IsLast fault
    pub requests_apart : (h other fault : ℕ) → fault_asked requests h ≡ Some fault
        → fault_asked requests other ≡ Some fault → (h ≡ other) ⊎ IsLast fault
    pub apart : (place h fault : ℕ) → fault_at history place ≡ Some fault
        → fault_asked requests h ≡ Some fault → IsLast fault

-- the fault that stopped the session: an entry of a stop keeps it, and the call failed behind those
-- of all other entries
pub record IsStop (first now : ℕ) (history : List EntryData) (fault : ℕ) : Type 0 where
  pub within : IsFaultWithin first now fault
  pub own : (place : ℕ) (e : EntryData) → slice_get history place ≡ Some e → IsStopped e.reply
      → e.fault ≡ Some fault
  pub last : (place : ℕ) (e : EntryData) (kept : ℕ) → slice_get history place ≡ Some e
      → (IsStopped e.reply → ⊥) → e.fault ≡ Some kept → Rises kept fault

-- ---- all of it

-- writes, faults: the counts of the site now
pub record IsCounted (writes faults : ℕ) (requests : RequestsData) (d : SessionData) : Type 0 where
  pub marks_ : AreMarks d.first_write d.marks writes
  pub messages : AllDone writes d.console
  pub entries : AreEntries d.history
  pub began : d.first_faults ≤ faults
  pub faults_ : AreFaults d.first_faults faults d.history requests
  pub going : d.stopped ≡ None → HasNoStop d.history
  pub stop : (fault : ℕ) → d.stopped ≡ Some fault → IsStop d.first_faults faults d.history fault

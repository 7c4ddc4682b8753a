-- What an actor finds to do, and what an event leaves the others to find.
use Rattle.std.specs.Prelude.{◌≡◌, ◌≢◌, ℕ, Bool, true, false, not, ◌&&◌, slice_get, is_some}
use Rattle.std.specs.List.{list_any}
use Rattle.channel_commands.specs.Data.{CallData}
use Rattle.core_state.specs.declared.rule.HostRule.{HostRule}
use Rattle.core_state.specs.declared.rule.HostRule.TheVariants.{IsBusy, IsMoving, IsHeld, Faults}
use Rattle.core_state.specs.declared.rule.WorkAnswer.{WorkAnswer}
use Rattle.core_state.specs.declared.rule.WorkAnswer.TheVariants.{Did}
use Rattle.core_state.specs.declared.rule.WorkKind.{WorkKind}
use Rattle.core_state.specs.declared.rule.WorkKind.TheVariants.{Pick, Fetch, Copy}
use Rattle.core_state.specs.declared.rule.WorkRule.TheVariants.{IsIdle}
use Rattle.core_state.specs.CoreValue.{CoreData}
use Rattle.core_state.specs.HostEvents.{HostTold, replied}
use Rattle.core_state.specs.HostRules.{request_for, host_rule}
use Rattle.core_state.specs.Steps.{ends_request}
use Rattle.core_state.specs.WorkRules.{task_of, work_rule}

-- ---- who finds nothing

-- a recorder has nothing to do
abbrev pub HasNoWork : CoreData → ℕ → Type 0
HasNoWork core recorder = work_rule core recorder ≡ IsIdle

-- by this rule a host waits, and nothing changes; asked: its cylinder was asked for before; ends:
-- its request ends, since the call isn't for it
abbrev pub is_wait_in_vain : Bool → Bool → HostRule → Bool
is_wait_in_vain asked ends (IsBusy owner) = true
is_wait_in_vain asked ends (IsMoving cylinder) = true
is_wait_in_vain asked ends (IsHeld frame) = not ends
is_wait_in_vain asked ends (Faults volume cylinder) = asked
is_wait_in_vain asked ends _ = false

-- a host can but wait with this call
abbrev pub WaitsInVain : CoreData → ℕ → CallData → Type 0
WaitsInVain core h call =
    is_wait_in_vain (is_some (request_for core h call)) (ends_request core h call)
    (host_rule core h call) ≡ true

-- ---- what an event leaves the others

-- a recorder that has nothing to do still has nothing
abbrev pub LeavesNoWork : CoreData → CoreData → ℕ → Type 0
LeavesNoWork core left recorder = HasNoWork core recorder → HasNoWork left recorder

-- an event of a recorder gives no other recorder anything to do, and no host that waits
pub record GivesOthersNothing (recorder : ℕ) (core left : CoreData) : Type 0 where
  pub recorders : (other : ℕ) → other ≢ recorder → LeavesNoWork core left other
  pub hosts : (h : ℕ) (call : CallData) → WaitsInVain core h call → WaitsInVain left h call

-- none has anything that it hadn't
abbrev pub GivesNoWork : CoreData → CoreData → Type 0
GivesNoWork core left = (recorder : ℕ) → LeavesNoWork core left recorder

-- no host has a request, and no recorder a task
abbrev pub is_at_rest : CoreData → Bool
is_at_rest core =
    not (is_some (slice_get core.requests 0)) && not (list_any (λ task. is_some task) core.tasks)

-- a host was replied, and the core is at rest
abbrev pub RestsBehind : HostTold → CoreData → Type 0
RestsBehind (replied index reply) left = is_at_rest left ≡ true
RestsBehind _ left = ⊥

-- what a recorder does for its own task alone
abbrev pub is_own : WorkKind → Bool
is_own Pick = true
is_own Fetch = true
is_own Copy = true
is_own _ = false

-- it did such a thing, and its task goes on
abbrev pub GoesOnAlone : CoreData → ℕ → WorkAnswer → Type 0
GoesOnAlone left recorder (Did kind) =
    (is_own kind ≡ true) × (is_some (task_of left recorder) ≡ true)
GoesOnAlone left recorder _ = ⊥

-- What a recorder's event does by a rule.
use Rattle.std.specs.Prelude.{◌≡◌, ℕ, Option, Some, None}
use Rattle.mss_base.specs.declared.site.Site.{Ghosts}
use Rattle.victim_choice.specs.declared.choose.Choose as choose
use Rattle.fault_queue.specs.Requests.{RequestsData, request_of}
use Rattle.fault_queue.specs.declared.queue.Request.{Request}
use Rattle.fault_queue.specs.declared.queue.RequestState.TheVariants.{Failed}
use Rattle.core_state.specs.declared.rule.WorkAnswer.{WorkAnswer}
use Rattle.core_state.specs.declared.rule.WorkAnswer.TheVariants.{Did, Stopped}
use Rattle.core_state.specs.declared.rule.WorkRule.{WorkRule}
use Rattle.core_state.specs.CoreValue.{CoreValue, seen_core}
use Rattle.core_state.specs.WorkEvents.{WorkDoes}

-- the answer, and the core after it, of whose site only so much is seen
abbrev pub WorkStep : {S C : Type 0} → Ghosts S → choose.Ghosts C → CoreValue S C → ℕ → WorkRule
    → WorkAnswer → CoreValue S C → Type 0
WorkStep g c old recorder rule answer new =
    WorkDoes g.tells (c.may old.chooser) (seen_core g old) recorder rule answer (seen_core g new)

-- an event that has told nothing: nothing was to be done, or memory was wanting
abbrev pub IsUntold : WorkAnswer → Type 0
IsUntold (Did what) = ⊥
IsUntold (Stopped fault) = ⊥
IsUntold _ = Unit {0}

-- an event that did nothing: it has told nothing, or the core had stopped before it
abbrev pub DidNothing : Option ℕ → WorkAnswer → Type 0
DidNothing None answer = IsUntold answer
DidNothing (Some before) answer = Unit {0}

-- no request has failed that hadn't
abbrev pub FailsNone : RequestsData → RequestsData → Type 0
FailsNone old new =
    (h fault : ℕ) (q : Request) → request_of new h ≡ Some q → q.state ≡ Failed fault
    → request_of old h ≡ Some q

-- Rounds: of a core in which nothing is left to do, one event of each host that has a call.
use Rattle.std.specs.Prelude.{◌≡◌, ◌≢◌, ◌≤◌, ◌<◌, ℕ, ◌+◌, ◌==◌, Bool, true, false, if◌then◌else◌}
use Rattle.std.specs.Prelude.{List, [], ◌∷◌, Contains, None, IsSome}
use Rattle.channel_commands.specs.Data.{CallData}
use Rattle.ckd_plain.specs.History.{EntryData}
use Rattle.fault_queue.specs.Requests.{request_of}
use Rattle.victim_choice.specs.declared.choose.Candidate.{Candidate}
use Rattle.core_state.specs.CoreValue.{CoreData}
use Rattle.core_state.specs.declared.rule.WorkAnswer.TheVariants.{Did}
use Rattle.core_state.specs.Chains.{Step, called, worked, is_end, OneOf, IsEvent, HostTurn, Ended, without_copy}
use Rattle.core_state.specs.Chains.{IsSettled}
use Rattle.core_state.specs.HostEvents.{HostTold, replied, marked, waits}
use Rattle.core_state.specs.IsCore.{IsCore}
use Rattle.core_state.specs.WorkEvents.{WorkEvent}
use Rattle.core_progress.specs.Progress.{NextCalls, HasCall, SomeoneCalls, OwnersCall}

-- ---- answers

abbrev pub is_wait : HostTold → Bool
is_wait (waits w) = true
is_wait _ = false

-- some host is told something else than to wait
pub record HasAnswer (steps : List Step) : Type 0 where
  pub host : ℕ
  pub call : CallData
  pub told : HostTold
  pub among : Contains steps (called host call told)
  pub answers : is_wait told ≡ false

-- some host has a request that had none
pub record HasAsked (core left : CoreData) : Type 0 where
  pub host : ℕ
  pub before : request_of core.requests host ≡ None
  pub after : IsSome (request_of left.requests host)

-- ---- rounds

-- a host's next call after a history, if it has one
abbrev pub CallsAfter : Type 0
CallsAfter = List EntryData → NextCalls

-- the core between two rounds: nothing is left to do, hosts go on with what they began, and some
-- host has a call; each that has one is among these
pub record IsBetweenRounds (calls : CallsAfter) (hosts : List ℕ) (core : CoreData) : Type 0 where
  pub kept : IsCore core
  pub settled : IsSettled core
  pub owners_call : OwnersCall core (calls core.history)
  pub someone_calls : SomeoneCalls (calls core.history)
  pub all_call : (h : ℕ) → HasCall (calls core.history) h → Contains hosts h

module _ (tells : Type 0) (may : List Candidate → ℕ → Type 0) where
  -- these are all events of a round
  abbrev pub IsRound : CallsAfter → List ℕ → CoreData → List Step → CoreData → Type 0
  IsRound calls hosts core steps left = HostTurn (without_copy tells may) calls hosts core steps left (Ended left)

  -- events of recorders alone, of which none is an end, each on a core that keeps what cores keep
  abbrev pub AreWork : CoreData → List Step → CoreData → Type 0
  AreWork core [] left = left ≡ core
  AreWork core (called h call told ∷ steps) left = ⊥
  AreWork core (worked recorder told ∷ steps) left =
      IsCore core × (recorder < core.config.recorders) × (is_end (worked recorder told) ≡ false)
      × (next : CoreData) × WorkEvent tells may core recorder told next × AreWork next steps left

  -- two rounds, and the work between them
  pub record AreTwoRounds (calls : CallsAfter) (hosts : List ℕ) (first second : List Step) : Type 0
    where
      pub core : CoreData
      pub begins : IsBetweenRounds calls hosts core
      pub worked_on : CoreData
      pub first_round : IsRound calls hosts core first worked_on
      pub work : List Step
      pub settled_core : CoreData
      pub between : AreWork worked_on work settled_core
      pub begins_again : IsBetweenRounds calls hosts settled_core
      pub left : CoreData
      pub second_round : IsRound calls hosts settled_core second left

-- ---- how many there are

-- events of recorders that did something
abbrev pub deeds_done : List Step → ℕ
deeds_done [] = 0
deeds_done (worked recorder (Did what) ∷ steps) = 1 + deeds_done steps
deeds_done (step ∷ steps) = deeds_done steps

-- calls that were replied, or whose write may go on
abbrev pub answers_given : List Step → ℕ
answers_given [] = 0
answers_given (called h call (replied index reply) ∷ steps) = 1 + answers_given steps
answers_given (called h call marked ∷ steps) = 1 + answers_given steps
answers_given (step ∷ steps) = answers_given steps

-- each call is one of the eight hosts'
abbrev pub AreOfHosts : List Step → Type 0
AreOfHosts [] = Unit {0}
AreOfHosts (called h call told ∷ steps) = (1 ≤ h) × (h ≤ 8) × AreOfHosts steps
AreOfHosts (worked recorder told ∷ steps) = AreOfHosts steps

-- ---- what a host is told until it is replied

-- none of the events is a reply to the host
abbrev pub NoReply : ℕ → List Step → Type 0
NoReply h [] = Unit {0}
NoReply h (called h' call (replied index reply) ∷ steps) = (h' ≢ h) × NoReply h steps
NoReply h (step ∷ steps) = NoReply h steps

-- how many of the events tell the host that its write may go on
abbrev pub marks_told : ℕ → List Step → ℕ
marks_told h [] = 0
marks_told h (called h' call marked ∷ steps) = (if h' == h then 1 else 0) + marks_told h steps
marks_told h (step ∷ steps) = marks_told h steps

module _ (tells : Type 0) (may : List Candidate → ℕ → Type 0) where
  -- events one after the other, each on a core that keeps what cores keep while they aren't
  -- stopped; none follows an end
  abbrev pub AreEvents : CoreData → List Step → CoreData → Type 0
  AreEvents core [] left = left ≡ core
  AreEvents core (step ∷ steps) left =
      IsCore core × (next : CoreData) × IsEvent (without_copy tells may) core step next
      × OneOf (is_end step) ((steps ≡ []) × (left ≡ next)) (AreEvents next steps left)

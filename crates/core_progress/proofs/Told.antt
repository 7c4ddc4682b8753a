-- What a call is told that isn't kept waiting.
use Rattle.std.proofs.Common.{◌≡◌, ℕ, Bool, true, false, not, ◌&&◌, [], ◌∷◌, ◌++◌, Option, Some, None, is_some, refl, sym, ◌∙◌, ap}
use Rattle.std.specs.Prelude.{if◌then◌else◌}
use Rattle.std.proofs.lemmas.Bool.{false≢true}
use Rattle.channel_commands.specs.declared.command.Command.{Command}
use Rattle.channel_commands.specs.Data.{CallData, mount, demount, command as ask, break}
use Rattle.mss_base.proofs.FirstFacts.{none_is}
use Rattle.fault_queue.specs.declared.queue.Request.{Request}
use Rattle.fault_queue.specs.declared.queue.RequestState.TheVariants as request
use Rattle.fault_queue.specs.Requests.{RequestsData, request_of, without_request, with_state, asked_as, IsOnce}
use Rattle.fault_queue.proofs.RequestFacts.{request_same, once_put}
use Rattle.core_state.specs.declared.session.Event.TheVariants.{Host}
use Rattle.core_state.specs.declared.rule.Waiting.{Waiting}
use Rattle.core_state.specs.declared.rule.Waiting.TheVariants.{Fault}
use Rattle.core_state.specs.declared.rule.HostRule.{HostRule}
use Rattle.core_state.specs.declared.rule.HostRule.TheVariants.{IsStopped, IsFull, IsBusy, IsMoving, IsHeld, Responds, HasFailed, HasNoSpace, Faults, Marks, Runs}
use Rattle.core_state.specs.CoreValue.{CoreData}
use Rattle.core_state.specs.HostRules.{request_for, host_rule}
use Rattle.core_state.specs.HostEvents.{HostTold, replied, marked, waits, halts, at_limit, no_memory, RunsIt, HostDoes, HostEvent}
use Rattle.core_state.specs.Steps.{with_event, ends_request, going_on, with_request}
use Rattle.core_progress.specs.Progress.{keeps_waiting, is_kept_waiting, AsksFirst, GoesOn}

-- a command that runs is told neither to wait nor to go on
module _ (tells : Type 0) (core : CoreData) (h : ℕ) (core' : CoreData) (c : Command) (volume frame : ℕ) where
  pub run_never_waits : (call : CallData) (w : Waiting) → RunsIt tells core h call (record { command = c; volume = volume; frame = frame }) (waits w) core' → ⊥
  run_never_waits (mount v b) w is = is
  run_never_waits demount w is = is
  run_never_waits (ask code argument chained) w is = is
  run_never_waits (break cause) w is = is

  pub run_never_marks : (call : CallData) → RunsIt tells core h call (record { command = c; volume = volume; frame = frame }) marked core' → ⊥
  run_never_marks (mount v b) is = is
  run_never_marks demount is = is
  run_never_marks (ask code argument chained) is = is
  run_never_marks (break cause) is = is

-- with its request, where it has none
made_in : (requests : RequestsData) (h : ℕ) (r : Request) → IsOnce requests → request_of requests h ≡ None
    → request_of (if is_some (request_of requests h) then with_state h r.state requests else (requests ++ (h, r) ∷ [])) h ≡ Some r
made_in requests h r once none = by_test (is_some (request_of requests h)) (ap is_some none) (request_same requests h (Some r) once) where
  by_test : (b : Bool) → b ≡ false → request_of (asked_as h r b requests) h ≡ Some r
      → request_of (if b then with_state h r.state requests else (requests ++ (h, r) ∷ [])) h ≡ Some r
  by_test true fresh put = absurd (false≢true (sym fresh))
  by_test false fresh put = put

module _ (core : CoreData) (once : IsOnce core.requests) (h : ℕ) (call : CallData) (new : request_for core h call ≡ None) where
  abbrev left : Bool → CoreData
  left ends = if ends then record core { requests = without_request h core.requests } else core

  -- a request that the call isn't for is ended, so none is left
  none_left : (o : Option Request) → request_of core.requests h ≡ o → (ends : Bool) → ends ≡ is_some o
      → IsOnce (left ends).requests × (request_of (left ends).requests h ≡ None)
  none_left None none true ends = absurd (false≢true (sym ends))
  none_left None none false ends = (once, none)
  none_left (Some q) is true ends = (once_put core.requests h None once, request_same core.requests h None once)
  none_left (Some q) is false ends = absurd (false≢true ends)

  ends_it : ends_request core h call ≡ is_some (request_of core.requests h)
  ends_it = ap (λ (o : Option Request). is_some (request_of core.requests h) && not (is_some o)) new ∙ and_so (is_some (request_of core.requests h)) where
    and_so : (b : Bool) → (b && true) ≡ b
    and_so true = refl
    and_so false = refl

  made : (volume cylinder : ℕ) → request_of (with_request h volume cylinder request.Queued (going_on core h call)).requests h ≡ Some (record { volume = volume; cylinder = cylinder; state = request.Queued })
  made volume cylinder =
      let none = none_left (request_of core.requests h) refl (ends_request core h call) ends_it in
      made_in (left (ends_request core h call)).requests h (record { volume = volume; cylinder = cylinder; state = request.Queued }) none.0 none.1

module _ (tells : Type 0) (core : CoreData) (once : IsOnce core.requests) (h : ℕ) (call : CallData) (w : Waiting) (core' : CoreData) where
  asks_first : (volume cylinder : ℕ) → request_for core h call ≡ None → HostDoes tells core h call (Faults volume cylinder) (waits w) core' → AsksFirst core h call w core'
  asks_first volume cylinder new does = record {
    new = new;
    request = record { volume = volume; cylinder = cylinder; state = request.Queued };
    made = by_test (is_some (request_for core h call)) (ap is_some new) does.1.1;
    queued = refl;
    told = told_is does.0;
  } where
    by_test : (b : Bool) → b ≡ false
        → core' ≡ record (if b then core else with_event (Host h) (with_request h volume cylinder request.Queued (going_on core h call))) { site = core'.site }
        → request_of core'.requests h ≡ Some (record { volume = volume; cylinder = cylinder; state = request.Queued })
    by_test true fresh is = absurd (false≢true (sym fresh))
    by_test false fresh is = ap (λ (c : CoreData). request_of c.requests h) is ∙ made core once h call new volume cylinder

    wait_in : HostTold → Waiting
    wait_in (waits v) = v
    wait_in _ = w

    told_is : waits w ≡ waits (Fault cylinder) → w ≡ Fault cylinder
    told_is e = ap wait_in e

  -- a wait of a rule that doesn't keep its call waiting
  by_rule : (rule : HostRule) → keeps_waiting (is_some (request_for core h call)) rule ≡ false → HostDoes tells core h call rule (waits w) core' → AsksFirst core h call w core'
  by_rule (Faults volume cylinder) goes does = asks_first volume cylinder (none_is (request_for core h call) goes) does
  by_rule (IsStopped fault) goes does = absurd (let e = does.0 in cc)
  by_rule IsFull goes does = absurd (let e = does.0 in cc)
  by_rule (IsBusy owner) goes does = absurd (false≢true (sym goes))
  by_rule (IsMoving cylinder) goes does = absurd (false≢true (sym goes))
  by_rule (IsHeld frame) goes does = absurd (false≢true (sym goes))
  by_rule Responds goes does = absurd (let e = does.1 in cc)
  by_rule (HasFailed fault) goes does = absurd (let e = does.1 in cc)
  by_rule HasNoSpace goes does = absurd (let e = does.1 in cc)
  by_rule (Marks volume cylinder) goes does = absurd does
  by_rule (Runs c volume frame) goes does = absurd (run_never_waits tells core h core' c volume frame call w does)

pub goes_on : (tells : Type 0) (core : CoreData) → IsOnce core.requests → (h : ℕ) (call : CallData) (told : HostTold) (core' : CoreData) → HostEvent tells core h call told core'
    → is_kept_waiting core h call ≡ false → GoesOn core h call told core'
goes_on tells core once h call (replied index reply) core' event goes = tt
goes_on tells core once h call marked core' event goes = tt
goes_on tells core once h call (halts fault) core' event goes = tt
goes_on tells core once h call at_limit core' event goes = tt
goes_on tells core once h call no_memory core' event goes = tt
goes_on tells core once h call (waits w) core' event goes = by_rule tells core once h call w core' (host_rule core h call) goes event

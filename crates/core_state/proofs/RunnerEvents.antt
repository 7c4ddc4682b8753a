-- What the runner does are events, of devices that tell nothing and a chooser of the first place.
use Rattle.std.proofs.Common.{◌≡◌, ℕ, Bool, true, false, List, length, None, refl, sym, subst, arith}
use Rattle.std.specs.Prelude.{not, ◌&&◌, if◌then◌else◌, is_some, Result, Ok, Err, ◌==◌}
use Rattle.std.specs.Option.{ForSome, option_and_then}
use Rattle.channel_commands.specs.declared.command.Command.{Command}
use Rattle.channel_commands.specs.Data.{is_command, CallData, mount, demount, command as ask, break, ReplyData, done}
use Rattle.ckd_plain.specs.declared.host.HostState.{HostState}
use Rattle.ckd_plain.specs.declared.unit_check.UnitCheck.{UnitCheck}
use Rattle.ckd_plain.specs.Index.{Tracks}
use Rattle.ckd_plain.specs.Effects.{Outcome, effect}
use Rattle.ckd_plain.specs.Checks.{admitted_command}
use Rattle.ckd_plain.specs.Plain.{answer_on_tracks, command_answer, answer_by_checks, outcome_answer, with_open_chain, host_for_command, tracks_under, IsDone, KeepsChain}
use Rattle.ckd_plain.proofs.CommandFacts.{volume_stays}
use Rattle.mss_base.specs.Firsts.{where_so}
use Rattle.fault_queue.specs.declared.queue.Request.{Request}
use Rattle.fault_queue.specs.declared.queue.RequestState.TheVariants as request
use Rattle.fault_queue.specs.Requests.{without_request}
use Rattle.core_state.specs.declared.session.Event.TheVariants.{Host}
use Rattle.core_state.specs.declared.rule.HostRule.{HostRule}
use Rattle.core_state.specs.declared.rule.HostRule.TheVariants as host
use Rattle.core_state.specs.CoreValue.{CoreData, DevicesSeen}
use Rattle.core_state.specs.Pins.{host_at}
use Rattle.core_state.specs.HostRules.{host_rule, request_for, is_moving_request, is_for, data_command, data_rule, stopped_rule, full_rule, busy_rule, moving_rule, held_rule, failed_rule}
use Rattle.core_state.specs.HostEvents.{replied, HostDoes, HostEvent, RunsIt, IsSame, page_under}
use Rattle.core_state.specs.Devices.{StillHold, HaveRow}
use Rattle.core_state.specs.Steps.{after_use, after_reply, with_event, going_on, ends_request, with_request}
use Rattle.core_state.proofs.Runner.{World, host_step}
use Rattle.core_state.proofs.ChainKept.{run_keeps}
use Rattle.core_state.proofs.RuleWalks.{nothing, either, where_test, mapped, chained, found}

pub still : (d : DevicesSeen) → StillHold ⊥ d d
still d = record { told = λ tl. absurd tl; unwritten = refl; sound = refl }

pub same : (core : CoreData) → IsSame ⊥ core core
same core = (still core.site, refl)

-- ---- a command's reply

answered_done : (c : Command) (chained : Bool) (o : Outcome) → IsDone (outcome_answer c chained o).reply
answered_done c chained (Ok e) = tt
answered_done c chained (Err r) = tt

judged_done : (tracks : Tracks) (host : HostState) (argument : List ℕ) (chained : Bool) (r : Result Command UnitCheck) → IsDone (answer_by_checks tracks host argument chained r).reply
unfolding command_answer
judged_done tracks host argument chained (Ok c) = answered_done c chained (effect tracks (host_for_command c host) host.prior c argument)
judged_done tracks host argument chained (Err e) = tt

run_done : (tracks : Tracks) (host : HostState) (code : ℕ) (argument : List ℕ) (chained : Bool) → IsDone (answer_on_tracks tracks host code argument chained).reply
unfolding answer_on_tracks
run_done tracks host code argument chained = judged_done tracks (with_open_chain host) argument chained (admitted_command (with_open_chain host) code argument)

-- ---- hosts

-- a command runs where the call is one
abbrev Fits : CallData → HostRule → Type 0
Fits call (host.Runs c volume frame) = is_command call ≡ true
Fits call _ = Unit {0}

command_fits : (call : CallData) → is_command call ≡ true → (rule : HostRule) → Fits call rule
command_fits call is (host.Runs c volume frame) = is
command_fits call is (host.IsStopped fault) = tt
command_fits call is host.IsFull = tt
command_fits call is (host.IsBusy owner) = tt
command_fits call is (host.IsMoving cylinder) = tt
command_fits call is (host.IsHeld frame) = tt
command_fits call is host.Responds = tt
command_fits call is (host.HasFailed fault) = tt
command_fits call is host.HasNoSpace = tt
command_fits call is (host.Faults volume cylinder) = tt
command_fits call is (host.Marks volume cylinder) = tt

module _ (core : CoreData) (h : ℕ) (call : CallData) where
  busy_fits : ForSome (busy_rule core h call) (Fits call)
  busy_fits = chained (Fits call) (λ (owner : ℕ). where_so (is_command call && not (owner == h)) (host.IsBusy owner)) _
      (λ owner. where_test (Fits call) (is_command call && not (owner == h)) (host.IsBusy owner) (λ _. tt))

  moving_fits : ForSome (moving_rule core h call) (Fits call)
  moving_fits = chained (Fits call) (λ (r : Request). where_so (is_moving_request r.state && not (is_for (host_at core.hosts h) call r)) (host.IsMoving r.cylinder)) _
      (λ r. where_test (Fits call) (is_moving_request r.state && not (is_for (host_at core.hosts h) call r)) (host.IsMoving r.cylinder) (λ _. tt))

  -- a call that is no data command runs nothing
  other_fits : option_and_then (data_rule core (host_at core.hosts h)) (data_command (host_at core.hosts h) call) ≡ None → Fits call (host_rule core h call)
  unfolding host_rule
  other_fits none =
      found (Fits call) _ host.Responds (
      either (Fits call) (stopped_rule core) _ (mapped (Fits call) (λ (fault : ℕ). host.IsStopped fault) core.stopped (λ _. tt))
      (either (Fits call) (full_rule core) _ (where_test (Fits call) _ host.IsFull (λ _. tt))
      (either (Fits call) (busy_rule core h call) _ busy_fits
      (either (Fits call) (moving_rule core h call) _ moving_fits
      (either (Fits call) (held_rule core h call) _ (mapped (Fits call) (λ (frame : ℕ). host.IsHeld frame) _ (λ _. tt))
      (either (Fits call) (failed_rule core h call) _ (mapped (Fits call) (λ (fault : ℕ). host.HasFailed fault) _ (λ _. tt))
      (nothing (Fits call) _ none))))))) tt

rule_fits : (core : CoreData) (h : ℕ) (call : CallData) → Fits call (host_rule core h call)
rule_fits core h (ask code argument chained) = command_fits (ask code argument chained) refl (host_rule core h (ask code argument chained))
rule_fits core h (mount volume bind) = other_fits core h (mount volume bind) refl
rule_fits core h demount = other_fits core h demount refl
rule_fits core h (break cause) = other_fits core h (break cause) refl

-- the row's change over devices that tell nothing
pub rows : (d : DevicesSeen) (volume : ℕ) (row : _) (used : _) → HaveRow ⊥ volume row used d d
rows d volume row used = record { write = record { moments = λ tl. absurd tl; later = omega arith }; changed = λ tl. absurd tl; grown = λ tl. absurd tl; sound = refl }

-- ---- a choice of two cores over the same devices

site_either : (b : Bool) (x y : CoreData) (d : DevicesSeen) → x.site ≡ d → y.site ≡ d → (if b then x else y).site ≡ d
site_either true x y d ex ey = ex
site_either false x y d ex ey = ey

still_at : (d d' : DevicesSeen) → d' ≡ d → StillHold ⊥ d d'
still_at d d' e = subst (λ (x : DevicesSeen). StillHold ⊥ d x) (sym e) (still d)

going_site : (core : CoreData) (h : ℕ) (call : CallData) → (going_on core h call).site ≡ core.site
going_site core h call = site_either (ends_request core h call) (record core { requests = without_request h core.requests }) core core.site refl refl

-- ---- a command that runs

ran_on : (core : CoreData) (h : ℕ) (code : ℕ) (argument : List ℕ) (chained : Bool) (c : Command) (volume frame : ℕ) (host' : HostState) → host'.mounted ≡ (host_at core.hosts h).mounted
    → (reply : ReplyData) → IsDone reply → KeepsChain chained reply host'
    → RunsIt ⊥ core h (ask code argument chained) (record { command = c; volume = volume; frame = frame }) (replied (length core.history) reply)
    (after_reply core.site h (ask code argument chained) None (reply, host') (after_use c (page_under core h volume) frame core))
ran_on core h code argument chained c volume frame host' mounted (done status bytes) is_done kept = (
  host',
  record {
    done_ = tt;
    mounted_ = mounted;
    chain = kept;
    reply_ = λ tl. absurd tl;
    host_ = λ tl. absurd tl;
    moments = λ tl. absurd tl;
    exact = λ tl. absurd tl;
    later = omega arith;
    few = λ tl. absurd tl;
    looks = λ _. refl;
    refused = λ _. refl;
    untouched = λ tl. absurd tl;
    firm = λ tl. absurd tl;
    sound = refl;
  },
  refl,
  refl,
)
ran_on core h code argument chained c volume frame host' mounted _ is_done kept = absurd is_done

runs_does : (w : World) (h : ℕ) (call : CallData) (c : Command) (volume frame : ℕ) → is_command call ≡ true → HostDoes ⊥ w.core h call (host.Runs c volume frame) (host_step w h call (host.Runs c volume frame)).0 (host_step w h call (host.Runs c volume frame)).1
runs_does w h (ask code argument chained) c volume frame is =
    let from = host_at w.core.hosts h in
    ran_on w.core h code argument chained c volume frame (answer_on_tracks (tracks_under w.volumes from) from code argument chained).host (volume_stays (tracks_under w.volumes from) from code argument chained)
    (answer_on_tracks (tracks_under w.volumes from) from code argument chained).reply (run_done (tracks_under w.volumes from) from code argument chained)
    (run_keeps (tracks_under w.volumes from) from code argument chained)
runs_does w h (mount volume' bind) c volume frame is = absurd cc
runs_does w h demount c volume frame is = absurd cc
runs_does w h (break cause) c volume frame is = absurd cc

host_does : (w : World) (h : ℕ) (call : CallData) (rule : HostRule) → Fits call rule → HostDoes ⊥ w.core h call rule (host_step w h call rule).0 (host_step w h call rule).1
host_does w h call (host.IsStopped fault) f = (refl, same w.core)
host_does w h call host.IsFull f = (refl, same w.core)
host_does w h call (host.IsBusy owner) f = (refl, same w.core)
host_does w h call (host.IsMoving cylinder) f = (refl, same w.core)
host_does w h call (host.IsHeld frame) f =
    (refl, (still_at w.core.site _ (site_either (ends_request w.core h call) (with_event (Host h) (going_on w.core h call)) w.core w.core.site (going_site w.core h call) refl), refl))
host_does w h call host.Responds f = (still w.core.site, refl, refl)
host_does w h call (host.HasFailed fault) f = (still w.core.site, refl, refl)
host_does w h call host.HasNoSpace f = (still w.core.site, refl, refl)
host_does w h call (host.Faults volume cylinder) f =
    (refl, (still_at w.core.site _ (site_either (is_some (request_for w.core h call)) w.core (with_event (Host h) (with_request h volume cylinder request.Queued (going_on w.core h call))) w.core.site refl (going_site w.core h call)), refl))
host_does w h call (host.Marks volume cylinder) f = (λ r is. rows w.core.site volume _ _, refl)
host_does w h call (host.Runs c volume frame) f = runs_does w h call c volume frame f

-- each call of the runner is an event
pub call_is_event : (w : World) (h : ℕ) (call : CallData) → HostEvent ⊥ w.core h call (host_step w h call (host_rule w.core h call)).0 (host_step w h call (host_rule w.core h call)).1
call_is_event w h call = host_does w h call (host_rule w.core h call) (rule_fits w.core h call)

-- A core that isn't stopped meets another rule than that it is.
use Rattle.std.proofs.Common.{◌≡◌, ℕ, Bool, true, false, Option, Some, None, refl, sym, ◌∙◌, ap}
use Rattle.std.specs.Prelude.{not, ◌&&◌, ◌==◌, is_some, if◌then◌else◌}
use Rattle.std.specs.Option.{ForSome, option_map}
use Rattle.mss_base.specs.Firsts.{where_so}
use Rattle.channel_commands.specs.declared.command.Command.{Command}
use Rattle.channel_commands.specs.Data.{CallData, is_command}
use Rattle.ckd_plain.specs.declared.host.HostState.{HostState}
use Rattle.fault_queue.specs.declared.queue.Request.{Request}
use Rattle.core_state.specs.declared.rule.HostRule.{HostRule}
use Rattle.core_state.specs.declared.rule.HostRule.TheVariants.{IsStopped, IsFull, IsBusy, IsMoving, IsHeld, Responds, HasFailed, HasNoSpace, Faults, Marks, Runs}
use Rattle.core_state.specs.CoreValue.{CoreValue}
use Rattle.core_state.specs.HostRules.{host_rule, data_command, data_rule, fault_rule, mark_rule, frame_under, volume_of, is_moving_request, is_for, stopped_rule, full_rule, busy_rule, moving_rule, held_rule, failed_rule}
use Rattle.core_state.specs.Pins.{host_at, are_all_bound}
use Rattle.core_state.proofs.RuleWalks.{none_some, nothing, either, where_test, mapped, chained, found}

abbrev stop_in : HostRule → Option ℕ
stop_in (IsStopped fault) = Some fault
stop_in _ = None

abbrev Goes : HostRule → Type 0
Goes r = stop_in r ≡ None

module _ {S C : Type 0} (v : CoreValue S C) (h : ℕ) (call : CallData) where
  host : HostState
  host = host_at v.hosts h

  either_fault : (full : Bool) (volume cylinder : ℕ) → Goes (if full then HasNoSpace else Faults volume cylinder)
  either_fault true volume cylinder = refl
  either_fault false volume cylinder = refl

  data_goes : (at : HostState) (c : Command) → ForSome (data_rule v at c) Goes
  data_goes at c =
      either Goes (fault_rule v at c) _ (where_test Goes _ _ (λ _. either_fault (not (is_some (frame_under v at)) && are_all_bound v) (volume_of at) at.cylinder))
      (either Goes (mark_rule v at c) _ (where_test Goes _ (Marks (volume_of at) at.cylinder) (λ _. refl)) (mapped Goes (Runs c (volume_of at)) (frame_under v at) (λ _. refl)))

  busy_goes : ForSome (busy_rule v h call) Goes
  busy_goes = chained Goes (λ (owner : ℕ). where_so (is_command call && not (owner == h)) (IsBusy owner)) _ (λ owner. where_test Goes (is_command call && not (owner == h)) (IsBusy owner) (λ _. refl))

  moving_goes : ForSome (moving_rule v h call) Goes
  moving_goes = chained Goes (λ (r : Request). where_so (is_moving_request r.state && not (is_for (host_at v.hosts h) call r)) (IsMoving r.cylinder)) _
      (λ r. where_test Goes (is_moving_request r.state && not (is_for (host_at v.hosts h) call r)) (IsMoving r.cylinder) (λ _. refl))

  rule_goes : v.stopped ≡ None → Goes (host_rule v h call)
  unfolding host_rule
  rule_goes going =
      found Goes _ Responds (
      either Goes (stopped_rule v) _ (nothing Goes _ (ap (option_map IsStopped) going))
      (either Goes (full_rule v) _ (where_test Goes _ IsFull (λ _. refl))
      (either Goes (busy_rule v h call) _ busy_goes
      (either Goes (moving_rule v h call) _ moving_goes
      (either Goes (held_rule v h call) _ (mapped Goes (λ (frame : ℕ). IsHeld frame) _ (λ _. refl))
      (either Goes (failed_rule v h call) _ (mapped Goes (λ (fault : ℕ). HasFailed fault) _ (λ _. refl))
      (chained Goes (data_rule v (host_at v.hosts h)) (data_command (host_at v.hosts h) call) (data_goes (host_at v.hosts h))))))))) refl

  pub goes_by : v.stopped ≡ None → (fault : ℕ) → host_rule v h call ≡ IsStopped fault → ⊥
  goes_by going fault is = none_some fault (sym (rule_goes going) ∙ ap stop_in is)

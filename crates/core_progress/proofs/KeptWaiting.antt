-- A call that is kept waiting changes nothing.
use Rattle.std.proofs.Common.{◌≡◌, ℕ, Bool, true, false, is_some, sym, subst}
use Rattle.std.specs.Prelude.{if◌then◌else◌}
use Rattle.std.proofs.lemmas.Bool.{false≢true}
use Rattle.channel_commands.specs.Data.{CallData}
use Rattle.core_state.specs.declared.session.Event.TheVariants.{Host}
use Rattle.core_state.specs.declared.rule.HostRule.{HostRule}
use Rattle.core_state.specs.declared.rule.HostRule.TheVariants.{IsStopped, IsFull, IsBusy, IsMoving, IsHeld, Responds, HasFailed, HasNoSpace, Faults, Marks, Runs}
use Rattle.core_state.specs.CoreValue.{CoreData}
use Rattle.core_state.specs.HostRules.{request_for, host_rule}
use Rattle.core_state.specs.HostEvents.{HostTold, no_memory, IsSame, HostDoes, HostEvent}
use Rattle.core_state.specs.Steps.{with_event, ends_request, going_on}
use Rattle.core_progress.specs.Progress.{keeps_waiting, is_kept_waiting, IsKeptOff}
use Rattle.core_progress.proofs.RuleSays.{Says, rule_says, ArePlaced, binder_ends_none}

module _ (tells : Type 0) (core core' : CoreData) (h : ℕ) (call : CallData) (placed : ArePlaced core) where
  unless : (b : Bool) (other : CoreData) → b ≡ false → core' ≡ record (if b then other else core) { site = core'.site } → core' ≡ record core { site = core'.site }
  unless true other not_so is = absurd (false≢true (sym not_so))
  unless false other not_so is = is

  whenever : (b : Bool) (other : CoreData) → b ≡ true → core' ≡ record (if b then core else other) { site = core'.site } → core' ≡ record core { site = core'.site }
  whenever true other so is = is
  whenever false other so is = absurd (false≢true so)

  by_rule : (rule : HostRule) (told : HostTold) → HostDoes tells core h call rule told core' → Says core h call rule → keeps_waiting (is_some (request_for core h call)) rule ≡ true → IsKeptOff told × IsSame tells core core'
  by_rule (IsStopped fault) told does says kept = absurd (false≢true kept)
  by_rule IsFull told does says kept = absurd (false≢true kept)
  by_rule rule no_memory does says kept = (tt, does)
  by_rule (IsBusy owner) told does says kept = (subst IsKeptOff (sym does.0) tt, does.1)
  by_rule (IsMoving cylinder) told does says kept = (subst IsKeptOff (sym does.0) tt, does.1)
  by_rule (IsHeld frame) told does says kept =
      (subst IsKeptOff (sym does.0) tt, (does.1.0, unless (ends_request core h call) (with_event (Host h) (going_on core h call)) (binder_ends_none core h call placed says.0 says.1) does.1.1))
  by_rule (Faults volume cylinder) told does says kept = (subst IsKeptOff (sym does.0) tt, (does.1.0, whenever (is_some (request_for core h call)) _ kept does.1.1))
  by_rule Responds told does says kept = absurd (false≢true kept)
  by_rule (HasFailed fault) told does says kept = absurd (false≢true kept)
  by_rule HasNoSpace told does says kept = absurd (false≢true kept)
  by_rule (Marks volume cylinder) told does says kept = absurd (false≢true kept)
  by_rule (Runs c volume frame) told does says kept = absurd (false≢true kept)

  pub kept_same : (told : HostTold) → HostEvent tells core h call told core' → is_kept_waiting core h call ≡ true → IsKeptOff told × IsSame tells core core'
  kept_same told event kept = by_rule (host_rule core h call) told event (rule_says core h call) kept

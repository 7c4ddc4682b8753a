-- A host's call for which memory is wanting.
use Rattle.std.proofs.Common.{◌≡◌, ◌<◌, ◌≤◌, ℕ, length, Some, None, refl, sym, ◌∙◌, subst, arith}
use Rattle.mss_base.specs.Content.{SiteLog}
use Rattle.mss_base.specs.declared.site.Site.{Ghosts}
use Rattle.channel_commands.specs.Data.{CallData}
use Rattle.core_state.specs.declared.rule.HostRule.{HostRule}
use Rattle.core_state.specs.declared.rule.HostRule.TheVariants.{IsStopped, IsFull, IsBusy, IsMoving, IsHeld, Responds, HasFailed, HasNoSpace, Faults, Marks, Runs}
use Rattle.core_state.specs.CoreValue.{CoreValue, seen_core}
use Rattle.core_state.specs.HostEvents.{halts, at_limit, no_memory, IsSame, HostDoes, HostEvent}
use Rattle.core_state.specs.HostRules.{host_rule}
use Rattle.core_state.specs.IsCore.{IsCore}
use Rattle.core_state.specs.TheCore.{IsKept}
use Rattle.core_state.proofs.Limits.{host_stopped}
use Rattle.host_events.proofs.RuleFacts.{IsLate, rule_seen, rule_stopped, rule_full}
use Rattle.host_events.proofs.RuleOf.{at_limit as full_rule_met}

pub kept_by : {S C : Type 0} (tells : Type 0) (site : SiteLog) (writes faults : ℕ) (u v : CoreValue S C) → u ≡ v → IsKept tells site writes faults u → v.stopped ≡ None → IsCore v
kept_by tells site writes faults u v view kept going = subst (λ c. IsCore c) view (kept.whole.kept (subst (λ c. c.stopped ≡ None) (sym view) going))

module _ {S C : Type 0} (g : Ghosts S) (v : CoreValue S C) where
  same : IsSame g.tells (seen_core g v) (seen_core g v)
  same = (record { told = λ _. refl; unwritten = refl; sound = refl }, refl)

  pub refused_stopped : (fault : ℕ) → v.stopped ≡ Some fault → (h : ℕ) (call : CallData) → HostEvent g.tells (seen_core g v) h call (halts fault) (seen_core g v)
  refused_stopped fault is h call =
      subst (λ (r : HostRule). HostDoes g.tells (seen_core g v) h call r (halts fault) (seen_core g v)) (sym (host_stopped (seen_core g v) fault h call is)) (refl, same)

  pub refused_full : v.stopped ≡ None → 4096 ≤ length v.history → (h : ℕ) (call : CallData) → HostEvent g.tells (seen_core g v) h call at_limit (seen_core g v)
  refused_full none long h call =
      subst (λ (r : HostRule). HostDoes g.tells (seen_core g v) h call r at_limit (seen_core g v)) (sym (full_rule_met (seen_core g v) h call (none, long))) (refl, same)

  module _ (kept : v.stopped ≡ None → IsCore v) (none : v.stopped ≡ None) (few : length v.history < 4096) (h : ℕ) (call : CallData) where
    late : (rule : HostRule) → host_rule v h call ≡ rule → IsLate rule
    late (IsStopped fault) is = absurd (let e : None ≡ Some fault = sym none ∙ rule_stopped v h call kept fault is in cc)
    late IsFull is = absurd (let long = (rule_full v h call kept is).1 in omega (arith, long, few))
    late (IsBusy owner) is = tt
    late (IsMoving cylinder) is = tt
    late (IsHeld frame) is = tt
    late Responds is = tt
    late (HasFailed fault) is = tt
    late HasNoSpace is = tt
    late (Faults volume cylinder) is = tt
    late (Marks volume cylinder) is = tt
    late (Runs c volume frame) is = tt

    lacks : (rule : HostRule) → IsLate rule → HostDoes g.tells (seen_core g v) h call rule no_memory (seen_core g v)
    lacks (IsStopped fault) l = absurd l
    lacks IsFull l = absurd l
    lacks (IsBusy owner) l = same
    lacks (IsMoving cylinder) l = same
    lacks (IsHeld frame) l = same
    lacks Responds l = same
    lacks (HasFailed fault) l = same
    lacks HasNoSpace l = same
    lacks (Faults volume cylinder) l = same
    lacks (Marks volume cylinder) l = same
    lacks (Runs c volume frame) l = same

    pub refused_memory : HostEvent g.tells (seen_core g v) h call no_memory (seen_core g v)
    refused_memory =
        subst (λ (r : HostRule). HostDoes g.tells (seen_core g v) h call r no_memory (seen_core g v)) (sym (rule_seen g v h call)) (lacks (host_rule v h call) (late (host_rule v h call) refl))

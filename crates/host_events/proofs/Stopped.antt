-- A stopped core answers its fault from then on.
use Rattle.std.proofs.Common.{◌≡◌, ℕ, List, [], ◌∷◌, Some, None, refl, sym, ◌∙◌, ap, subst}
use Rattle.channel_commands.specs.Data.{CallData}
use Rattle.victim_choice.specs.declared.choose.Candidate.{Candidate}
use Rattle.core_state.specs.declared.rule.HostRule.{HostRule}
use Rattle.core_state.specs.declared.rule.WorkAnswer.TheVariants.{Stopped}
use Rattle.core_state.specs.declared.rule.WorkRule.{WorkRule}
use Rattle.core_state.specs.Chains.{Step, called, worked, IsEvent, IsChain, without_copy}
use Rattle.core_state.specs.CoreValue.{CoreData}
use Rattle.core_state.specs.HostEvents.{HostTold, halts, IsSame, HostDoes, HostEvent}
use Rattle.core_state.specs.HostRules.{host_rule}
use Rattle.core_state.specs.IsCore.{IsCore}
use Rattle.core_state.specs.WorkEvents.{WorkDoes}
use Rattle.core_state.proofs.Limits.{host_stopped, work_stopped}
use Rattle.host_events.specs.Leaves.{AllHalt}
use Rattle.host_events.proofs.Outcomes.{EachOutcome, outcome}
use Rattle.host_events.proofs.RuleFacts.{rule_stopped, rule_marks}

-- ---- the event that stops the core

-- where it is told that the core is stopped, this holds of the fault
abbrev OnHalt : (ℕ → Type 0) → HostTold → Type 0
OnHalt P (halts fault) = P fault
OnHalt P _ = Unit {0}

module _ (tells : Type 0) (core : CoreData) (kept : core.stopped ≡ None → IsCore core) (h : ℕ) (core' : CoreData) where
  abbrev KeepsFault : CallData → HostRule → HostTold → Type 0
  KeepsFault call rule told = host_rule core h call ≡ rule → OnHalt (λ fault. core'.stopped ≡ Some fault) told

  keeps_each : (call : CallData) → EachOutcome tells core h call core' (KeepsFault call)
  keeps_each call = record {
    stops = λ fault same is. ap (λ (c : CoreData). c.stopped) same.1 ∙ rule_stopped core h call kept fault is;
    fills = λ same is. tt;
    lacks = λ rule late same is. tt;
    is_busy = λ owner same is. tt;
    moves = λ cylinder same is. tt;
    holds = λ frame held is. tt;
    responds = λ done is. tt;
    fails = λ fault done is. tt;
    is_full = λ done is. tt;
    asks = λ volume cylinder asks is. tt;
    marks = λ volume cylinder marks is. tt;
    unmarked = λ volume cylinder fault un is.
        let on = rule_marks core h call kept volume cylinder is in
        ap (λ (c : CoreData). c.stopped) un.1 ∙ ap (λ (n : ℕ). Some n) (sym (un.0 on.r on.there).cause.count);
    unread = λ c volume frame un is. tt;
    runs = λ c volume frame code argument chained status bytes ran is. tt;
    unwritten = λ c volume frame code argument chained fault un is. ap (λ (k : CoreData). k.stopped) un.2 ∙ ap (λ (n : ℕ). Some n) (sym un.1.cause.count);
  }

  pub keeps_fault : (call : CallData) (fault : ℕ) → HostEvent tells core h call (halts fault) core' → core'.stopped ≡ Some fault
  keeps_fault call fault event = outcome tells core h core' KeepsFault call (keeps_each call) (host_rule core h call) (halts fault) event refl

-- ---- the events behind it

module _ (tells : Type 0) (may : List Candidate → ℕ → Type 0) (fault : ℕ) where
  same_then : (core next left : CoreData) → IsSame tells core next → IsSame tells next left → IsSame tells core left
  same_then core next left first then = (
    record {
      told = λ t. then.0.told t ∙ first.0.told t;
      unwritten = then.0.unwritten ∙ first.0.unwritten;
      sound = then.0.sound ∙ first.0.sound;
    },
    then.1 ∙ (λ i. record (first.1 i) { site = left.site }),
  )

  -- a step's answer
  abbrev Halts : Step → Type 0
  Halts (called h call told) = told ≡ halts fault
  Halts (worked recorder told) = told ≡ Stopped fault

  step_halts : (core : CoreData) (step : Step) (next : CoreData) → core.stopped ≡ Some fault → IsEvent (without_copy tells may) core step next → Halts step × IsSame tells core next
  step_halts core (called h call told) next is event =
      subst (λ (r : HostRule). HostDoes tells core h call r told next) (host_stopped core fault h call is) event
  step_halts core (worked recorder told) next is event =
      subst (λ (r : WorkRule). WorkDoes tells may core recorder r told next) (work_stopped core fault recorder is) event

  all_halts : (step : Step) (steps : List Step) → Halts step → AllHalt fault steps → AllHalt fault (step ∷ steps)
  all_halts (called h call told) steps one more = (one, more)
  all_halts (worked recorder told) steps one more = (one, more)

  pub stays_stopped : (steps : List Step) (core left : CoreData) → core.stopped ≡ Some fault → IsChain (without_copy tells may) core steps left → AllHalt fault steps × IsSame tells core left
  stays_stopped [] core left is chain =
      (tt, (record { told = λ t. ap (λ (c : CoreData). c.site.told) chain; unwritten = ap (λ (c : CoreData). c.site.writes) chain; sound = ap (λ (c : CoreData). c.site.faults) chain }, chain ∙ (λ i. record core { site = (sym chain i).site })))
  stays_stopped (step ∷ steps) core left is chain =
      let here = step_halts core step chain.0 is chain.1 in
      let more = stays_stopped steps chain.0 left (ap (λ (c : CoreData). c.stopped) here.1.1 ∙ is) chain.2 in
      (all_halts step steps here.0 more.0, same_then core chain.0 left here.1 more.1)

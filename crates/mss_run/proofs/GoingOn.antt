-- An event of a host that isn't told as a stop doesn't stop the core.
use Rattle.std.proofs.Common.{◌≡◌, ℕ, Option, inl, inr, refl, ◌∙◌, ap}
use Rattle.channel_commands.specs.Data.{CallData}
use Rattle.core_state.specs.CoreValue.{CoreData}
use Rattle.core_state.specs.HostEvents.{HostTold, HostEvent, waits, halts}
use Rattle.core_state.specs.HostRules.{host_rule}
use Rattle.core_state.specs.declared.rule.HostRule.{HostRule}
use Rattle.core_state.specs.declared.rule.Waiting.{Waiting}
use Rattle.host_events.specs.Leaves.{ChangesRequestAtMost}
use Rattle.host_events.specs.Parts.{GoesOn}
use Rattle.host_events.proofs.EventLeaves.{going}
use Rattle.host_events.proofs.Outcomes.{EachOutcome, outcome}

abbrev stop_of : CoreData → Option ℕ
stop_of c = c.stopped

module _ (tells : Type 0) (core : CoreData) (h : ℕ) (core' : CoreData) where
  -- what is told as neither a stop nor a wait
  abbrev Stays : HostRule → HostTold → Type 0
  Stays rule (halts fault) = Unit {0}
  Stays rule (waits why) = Unit {0}
  Stays rule _ = core'.stopped ≡ core.stopped

  stays_each : (call : CallData) → EachOutcome tells core h call core' Stays
  stays_each call = record {
    stops = λ fault same. tt;
    fills = λ same. ap stop_of same.1;
    lacks = λ rule late same. ap stop_of same.1;
    is_busy = λ owner same. tt;
    moves = λ cylinder same. tt;
    holds = λ frame held. tt;
    responds = λ it. ap stop_of it.1;
    fails = λ fault it. ap stop_of it.1;
    is_full = λ it. ap stop_of it.1;
    asks = λ volume cylinder it. tt;
    marks = λ volume cylinder it. ap stop_of it.1 ∙ going core h call (λ (c : CoreData). c.stopped ≡ core.stopped) refl refl;
    unmarked = λ volume cylinder fault un. tt;
    unread = λ c volume frame un. ap stop_of un.1;
    runs = λ c volume frame code argument chained status bytes ran. ap stop_of ran.3;
    unwritten = λ c volume frame code argument chained fault un. tt;
  }

  changed_stays : ChangesRequestAtMost tells core h core' → core'.stopped ≡ core.stopped
  changed_stays (inl same) = ap stop_of same.1
  changed_stays (inr (requests, still, is)) = ap stop_of is

  pub stays_going : (call : CallData) → ((w : Waiting) → HostEvent tells core h call (waits w) core' → ChangesRequestAtMost tells core h core')
      → (told : HostTold) → HostEvent tells core h call told core' → GoesOn told → core'.stopped ≡ core.stopped
  stays_going call law (halts fault) event on = absurd on
  stays_going call law (waits w) event on = changed_stays (law w event)
  stays_going call law told event on = outcome tells core h core' (λ k. Stays) call (stays_each call) (host_rule core h call) told event

-- How many deeds and answers there are in events one after the other.
use Rattle.std.proofs.Common.{◌≡◌, inl, inr, ℕ, ◌+◌, ◌≤◌, false, List, [], ◌∷◌, refl, sym, ap, subst, arith}
use Rattle.std.proofs.lemmas.Bool.{cases_Bool, false≢true}
use Rattle.channel_commands.specs.Data.{CallData}
use Rattle.victim_choice.specs.declared.choose.Candidate.{Candidate}
use Rattle.core_state.specs.declared.rule.WorkAnswer.{WorkAnswer}
use Rattle.core_state.specs.declared.rule.WorkAnswer.TheVariants.{Did, Idle, Stopped, Memory}
use Rattle.core_state.specs.Chains.{Step, called, worked, is_end, OneOf}
use Rattle.core_state.specs.CoreValue.{CoreData}
use Rattle.core_state.specs.HostEvents.{HostTold, replied, marked, waits, halts, at_limit, no_memory, HostEvent}
use Rattle.core_state.specs.IsCore.{IsCore}
use Rattle.core_state.specs.WorkEvents.{WorkEvent}
use Rattle.core_progress.specs.Progress.{is_kept_waiting, IsKeptOff}
use Rattle.core_progress.specs.Rounds.{AreWork, AreEvents, AreOfHosts, deeds_done, answers_given}
use Rattle.core_progress.specs.WorkLeft.{settle_left, run_left}
use Rattle.core_progress.proofs.KeptWaiting.{kept_same}
use Rattle.core_progress.proofs.RunFalls.{call_falls}
use Rattle.core_progress.proofs.RunStays.{leaves_run}
use Rattle.core_progress.proofs.SettleFalls.{settle_falls}
use Rattle.core_progress.proofs.WorkAnswers.{idle_same}

module _ (tells : Type 0) (may : List Candidate → ℕ → Type 0) where
  pub deeds_few : (steps : List Step) (core left : CoreData) → AreWork tells may core steps left → deeds_done steps + settle_left left ≤ settle_left core
  deeds_few [] core left is = subst (λ (c : CoreData). 0 + settle_left c ≤ settle_left core) (sym is) (omega arith)
  deeds_few (called h call told ∷ steps) core left works = absurd works
  deeds_few (worked recorder told ∷ steps) core left works = by_told told works.2 works.4 (deeds_few steps works.3 left works.5) where
    by_told : (answer : WorkAnswer) → is_end (worked recorder answer) ≡ false → WorkEvent tells may core recorder answer works.3
        → deeds_done steps + settle_left left ≤ settle_left works.3 → deeds_done (worked recorder answer ∷ steps) + settle_left left ≤ settle_left core
    by_told (Did what) on event more = let less = (settle_falls tells may core works.3 recorder what works.0 event).0 works.1 in omega (arith, less, more)
    by_told Idle on event more =
        let same : settle_left works.3 ≡ settle_left core = ap settle_left (idle_same tells may core works.3 recorder event).1.1 in omega (arith, same, more)
    by_told (Stopped fault) on event more = absurd (false≢true (sym on))
    by_told Memory on event more = absurd (false≢true (sym on))

  -- ---- answers

  -- a call that the run goes on after leaves no more of it, and less where it is no wait
  call_leaves : (core next : CoreData) → IsCore core → (h : ℕ) → 1 ≤ h → h ≤ 8 → (call : CallData) (told : HostTold) → HostEvent tells core h call told next → is_end (called h call told) ≡ false
      → answers_given (called h call told ∷ []) + run_left next ≤ run_left core
  call_leaves core next kept h one eight call told event on = elim (cases_Bool (is_kept_waiting core h call)) [
    | inl waits_ ↦
        let keeps = kept_same tells core next h call kept.on_mounted told event waits_ in
        by_told told keeps.0 (ap run_left keeps.1.1)
    | inr free ↦ let less = call_falls tells core next kept h one eight call told event free on in let few = at_most_one told in omega (arith, less, few)
  ] where
    by_told : (t : HostTold) → IsKeptOff t → run_left next ≡ run_left core → answers_given (called h call t ∷ []) + run_left next ≤ run_left core
    by_told (waits w) off same = omega (arith, same)
    by_told no_memory off same = omega (arith, same)
    by_told (replied index reply) off same = absurd off
    by_told marked off same = absurd off
    by_told (halts fault) off same = absurd off
    by_told at_limit off same = absurd off

    at_most_one : (t : HostTold) → answers_given (called h call t ∷ []) ≤ 1
    at_most_one (replied index reply) = omega arith
    at_most_one marked = omega arith
    at_most_one (waits w) = omega arith
    at_most_one (halts fault) = omega arith
    at_most_one at_limit = omega arith
    at_most_one no_memory = omega arith

  none_given : (steps : List Step) (core : CoreData) → steps ≡ [] → answers_given steps ≤ run_left core
  none_given steps core is = let e = ap answers_given is in omega (arith, e)

  pub answers_few : (steps : List Step) (core left : CoreData) → AreEvents tells may core steps left → AreOfHosts steps → answers_given steps ≤ run_left core
  answers_few [] core left events hosts = omega arith
  answers_few (worked recorder told ∷ steps) core left events hosts = by_told told events.2 events.3 (answers_few steps) where
    by_told : (t : WorkAnswer) → WorkEvent tells may core recorder t events.1 → OneOf (is_end (worked recorder t)) ((steps ≡ []) × (left ≡ events.1)) (AreEvents tells may events.1 steps left)
        → ((c l : CoreData) → AreEvents tells may c steps l → AreOfHosts steps → answers_given steps ≤ run_left c) → answers_given (worked recorder t ∷ steps) ≤ run_left core
    by_told (Did what) event on more =
        let keeps = (settle_falls tells may core events.1 recorder what events.0 event).1 in
        let less = (leaves_run core events.1 keeps.asks keeps.marks_).less in
        let few = more events.1 left on hosts in omega (arith, less, few)
    by_told Idle event on more =
        let same : run_left events.1 ≡ run_left core = ap run_left (idle_same tells may core events.1 recorder event).1.1 in
        let few = more events.1 left on hosts in omega (arith, same, few)
    by_told (Stopped fault) event on more = none_given steps core on.0
    by_told Memory event on more = none_given steps core on.0
  answers_few (called h call told ∷ steps) core left events hosts = by_told told events.2 events.3 (answers_few steps) where
    leaves : (t : HostTold) → HostEvent tells core h call t events.1 → is_end (called h call t) ≡ false → answers_given (called h call t ∷ []) + run_left events.1 ≤ run_left core
    leaves t event on = call_leaves core events.1 events.0 h hosts.0 hosts.1 call t event on

    by_told : (t : HostTold) → HostEvent tells core h call t events.1 → OneOf (is_end (called h call t)) ((steps ≡ []) × (left ≡ events.1)) (AreEvents tells may events.1 steps left)
        → ((c l : CoreData) → AreEvents tells may c steps l → AreOfHosts steps → answers_given steps ≤ run_left c) → answers_given (called h call t ∷ steps) ≤ run_left core
    by_told (replied index reply) event on more = let a = leaves (replied index reply) event refl in let b = more events.1 left on hosts.2 in omega (arith, a, b)
    by_told marked event on more = let a = leaves marked event refl in let b = more events.1 left on hosts.2 in omega (arith, a, b)
    by_told (waits w) event on more = let a = leaves (waits w) event refl in let b = more events.1 left on hosts.2 in omega (arith, a, b)
    by_told (halts fault) event on more = none_given steps core on.0
    by_told at_limit event on more = none_given steps core on.0
    by_told no_memory event on more = none_given steps core on.0

-- Events one after the other: one more, and reads behind them.
use Rattle.std.proofs.Common.{◌≡◌, ◌≤◌, ℕ, Bool, true, false, List, [], ◌∷◌, ◌++◌, refl, ◌∙◌, ap, subst, arith}
use Rattle.victim_choice.specs.declared.choose.Candidate.{Candidate}
use Rattle.core_state.specs.Beginning.{IsLater}
use Rattle.core_state.specs.Chains.{Reading, Step, WereRead, called, worked}
use Rattle.core_state.specs.CoreValue.{CoreData, DevicesSeen}
use Rattle.core_state.specs.WorkEvents.{WorkDoes, WorkEvent}
use Rattle.core_state.specs.WorkRules.{work_rule}
use Rattle.core_state.specs.declared.rule.WorkAnswer.{WorkAnswer}
use Rattle.core_state.specs.declared.rule.WorkAnswer.TheVariants.{Did, Idle, Stopped, Memory}
use Rattle.core_state.specs.declared.rule.WorkRule.{WorkRule}
use Rattle.core_state.specs.declared.rule.WorkRule.TheVariants.{IsStopped, IsIdle, GivesBack, Picks, PicksVictim, Abandons, Fetches, Copies, Ends, Frees, Assigns}
use Rattle.core_state.proofs.Later.{later_none, later_then}
use Rattle.mss_run.specs.Led.{AreEvents, IsEventOf, LeadsTo, any_choice}
use Rattle.mss_run.proofs.EventFacts.{read_on}

-- ---- whichever is chosen

module _ (tells : Type 0) (may : List Candidate → ℕ → Type 0) (core : CoreData) (recorder : ℕ) (left : CoreData) where
  does_any : (rule : WorkRule) (told : WorkAnswer) → WorkDoes tells may core recorder rule told left → WorkDoes tells any_choice core recorder rule told left
  does_any (IsStopped fault) told does = does
  does_any rule Memory does = does
  does_any IsIdle told does = does
  does_any (GivesBack cartridge) told does = does
  does_any (Fetches cartridge) told does = does
  does_any (Picks h frame) told does = does
  does_any (PicksVictim h) told (place, chosen, allowed, there, done) = (place, chosen, tt, there, done)
  does_any Abandons told does = does
  does_any (Copies t) told does = does
  does_any (Ends t) told does = does
  does_any (Frees volume page) told does = does
  does_any (Assigns volume page) told does = does

  -- an event by some choice is one by any
  pub work_any : (told : WorkAnswer) → WorkEvent tells may core recorder told left → WorkEvent tells any_choice core recorder told left
  work_any told event = does_any (work_rule core recorder) told event

-- ---- reads

-- what is so at once is so behind no read
pub at_once : (copies : Bool) (tells : Type 0) (core : CoreData) (P : CoreData → Type 0) → P core → Reading copies tells core P
at_once false tells core P is = is
at_once true tells core P is = (core.site, record { told = λ _. refl; unwritten = refl; later = omega arith }, is)

-- what is so behind a read, behind another
pub read_then : (copies : Bool) (tells : Type 0) (core mid : CoreData) (P : CoreData → Type 0) → Reading copies tells core (λ read. mid ≡ read) → Reading copies tells mid P → Reading copies tells core P
read_then false tells core mid P same is = subst P same is
read_then true tells core mid P first is =
    let were = first.1 in
    let more = is.1 in
    let site : mid.site ≡ first.0 = ap (λ (c : CoreData). c.site) first.2 in
    let below : mid.site.faults ≤ is.0.faults = more.later in
    let from : core.site.faults ≤ first.0.faults = were.later in
    let at : mid.site.faults ≡ first.0.faults = ap (λ (s : DevicesSeen). s.faults) site in (
      is.0,
      record {
        told = λ t. more.told t ∙ ap (λ (s : DevicesSeen). s.told) site ∙ were.told t;
        unwritten = more.unwritten ∙ ap (λ (s : DevicesSeen). s.writes) site ∙ were.unwritten;
        later = omega (arith, below, from, at);
      },
      subst P (ap (λ (c : CoreData). record c { site = is.0 }) first.2) is.2,
    )

module _ (tells : Type 0) (copies : Bool) where
  abbrev Next : Step → List Step → CoreData → CoreData → Type 0
  Next step steps left read = (next : CoreData) × IsEventOf tells read step next × AreEvents tells copies next steps left

  -- an event more
  pub event_more : (steps : List Step) (core mid : CoreData) → AreEvents tells copies core steps mid → (step : Step) (left : CoreData) → Reading copies tells mid (λ read. IsEventOf tells read step left)
      → AreEvents tells copies core (steps ++ step ∷ []) left
  event_more [] core mid are step left event =
      read_then copies tells core mid (Next step [] left) are
      (read_on copies tells mid (λ read. IsEventOf tells read step left) (Next step [] left) (λ site is. (left, is, at_once copies tells left (λ (read : CoreData). left ≡ read) refl)) event)
  event_more (first ∷ steps) core mid are step left event =
      read_on copies tells core (Next first steps mid) (Next first (steps ++ step ∷ []) left) (λ site is. (is.0, is.1, event_more steps is.0 mid is.2 step left event)) are

  -- reads more
  pub reads_more : (steps : List Step) (core mid : CoreData) → AreEvents tells copies core steps mid → (left : CoreData) → Reading copies tells mid (λ read. left ≡ read) → AreEvents tells copies core steps left
  reads_more [] core mid are left reads = read_then copies tells core mid (λ read. left ≡ read) are reads
  reads_more (first ∷ steps) core mid are left reads =
      read_on copies tells core (Next first steps mid) (Next first steps left) (λ site is. (is.0, is.1, reads_more steps is.0 mid is.2 left reads)) are

  -- ---- a session

  pub leads_none : (core : CoreData) → LeadsTo tells copies core core
  leads_none core = record { later = later_none tells core; steps = []; events = at_once copies tells core (λ (read : CoreData). core ≡ read) refl }

  pub leads_event : (core mid left : CoreData) → LeadsTo tells copies core mid → (step : Step) → Reading copies tells mid (λ read. IsEventOf tells read step left) → IsLater tells mid left → LeadsTo tells copies core left
  leads_event core mid left led step event later = record {
    later = later_then tells core mid left led.later later;
    steps = led.steps ++ step ∷ [];
    events = event_more led.steps core mid led.events step left event;
  }

  pub leads_read : (core mid left : CoreData) → LeadsTo tells copies core mid → Reading copies tells mid (λ read. left ≡ read) → IsLater tells mid left → LeadsTo tells copies core left
  leads_read core mid left led reads later = record {
    later = later_then tells core mid left led.later later;
    steps = led.steps;
    events = reads_more led.steps core mid led.events left reads;
  }

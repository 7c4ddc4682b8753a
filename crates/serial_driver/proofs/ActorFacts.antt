-- Turns of hosts and recorders by number, one after the other.
use Rattle.std.proofs.Common.{◌≡◌, ◌≢◌, ◌<◌, ◌≤◌, ℕ, zero, suc, ◌+◌, List, [], ◌∷◌, length, drop, get_or, refl, sym, ap, subst, arith}
use Rattle.std.specs.Prelude.{slice_index_or}
use Rattle.std.proofs.lemmas.List.{length-map}
use Rattle.mss_base.specs.declared.site.Site.{Ghosts}
use Rattle.channel_program.proofs.ItemFacts.{view_at}
use Rattle.victim_choice.specs.declared.choose.Candidate.{Candidate}
use Rattle.job_text.specs.Jobs.{ScriptData}
use Rattle.core_state.specs.Chains.{Terms}
use Rattle.core_state.specs.declared.rule.WorkAnswer.{WorkAnswer}
use Rattle.core_state.specs.declared.session.Event.{Event}
use Rattle.core_state.specs.declared.session.Event.TheVariants.{Host, Work}
use Rattle.core_state.specs.CoreValue.{CoreData, seen_core}
use Rattle.core_state.specs.WorkEvents.{WorkEvent}
use Rattle.serial_driver.specs.Answers.{of_work}
use Rattle.serial_driver.specs.declared.answer.DriveAnswer.{DriveAnswer}
use Rattle.serial_driver.specs.declared.answer.DriveAnswer.TheVariants.{Done}
use Rattle.serial_driver.specs.Drives.{DriveValue, EventTakes, LeavesDrive, RunsEvents, RunsOn, RunsToEnd, event_of, events_of, terms_of}
use Rattle.serial_driver.proofs.EventRuns.{same_terms, EventsSoFar, event_leaves, leaves_done, event_goes, event_halts, events_over, leaves_then}

-- ---- whose turn it is

pub host_of : (scripts : List ScriptData) (n : ℕ) (unknown : ScriptData) → n < length scripts → event_of scripts n ≡ Host (slice_index_or scripts n unknown).host
host_of [] n unknown low = absurd (omega (arith, low))
host_of (s ∷ ss) zero unknown low = refl
host_of (s ∷ ss) (suc n) unknown low = host_of ss n unknown (omega (arith, low))

recorder_of : (scripts : List ScriptData) (actor n : ℕ) → n + length scripts ≡ actor → event_of scripts actor ≡ Work n
recorder_of [] actor n is = let e : actor ≡ n = omega (arith, is) in ap Work e
recorder_of (s ∷ ss) zero n is = absurd (omega (arith, is))
recorder_of (s ∷ ss) (suc actor) n is = recorder_of ss actor n (omega (arith, is))

module _ (terms : Terms) (scripts : List ScriptData) (core : CoreData) (answer : DriveAnswer) (left : CoreData) where
  pub recorder_takes : (actor n : ℕ) (told : WorkAnswer) → n + length scripts ≡ actor → WorkEvent terms.tells terms.may core n told left → answer ≡ of_work told → EventTakes terms scripts (event_of scripts actor) core answer left
  recorder_takes actor n told is event answered = subst (λ (e : Event). EventTakes terms scripts e core answer left) (sym (recorder_of scripts actor n is)) (told, event, answered)

-- ---- one turn more

-- an item that is there needs no other
same_there : (xs : List ℕ) (i d e : ℕ) → i < length xs → get_or xs i d ≡ get_or xs i e
same_there [] i d e below = absurd (omega (arith, below))
same_there (x ∷ xs) zero d e below = refl
same_there (x ∷ xs) (suc i) d e below = same_there xs i d e (omega (arith, below))

module _ {S C : Type 0} (g : Ghosts S) (may : C → List Candidate → ℕ → Type 0)
    (turns : List ℕ) (i other : ℕ) (init now new : DriveValue S C) (answer : DriveAnswer)
    (below : i < length turns)
    (so_far : EventsSoFar (terms_of g may init) init.scripts (events_of init.scripts turns) (seen_core g init.core) (drop i (events_of init.scripts turns)) (seen_core g now.core))
    (leaves : LeavesDrive g init now Done)
    (takes : EventTakes (terms_of g may now) now.scripts (event_of now.scripts (get_or turns i other)) (seen_core g now.core) answer (seen_core g new.core))
    (left : LeavesDrive g now new answer) where
  abbrev turn : ℕ
  turn = get_or turns i other

  low : i < length (events_of init.scripts turns)
  low = omega (arith, below, length-map turns (event_of init.scripts))

  there : event_of init.scripts turn ≡ get_or (events_of init.scripts turns) i (event_of init.scripts turn)
  there = view_at (event_of init.scripts) turns i turn below (same_there turns i other turn below)

  takes_so : EventTakes (terms_of g may now) now.scripts (event_of init.scripts turn) (seen_core g now.core) answer (seen_core g new.core)
  takes_so =
      subst (λ (scripts : List ScriptData). EventTakes (terms_of g may now) now.scripts (event_of scripts turn) (seen_core g now.core) answer (seen_core g new.core)) leaves.scripts_ takes

  pub turn_leaves : LeavesDrive g init new answer
  turn_leaves = event_leaves g may (events_of init.scripts turns) i (event_of init.scripts turn) init now new answer low there so_far leaves takes_so left

  pub turn_done : answer ≡ Done → LeavesDrive g init new Done
  turn_done = leaves_done g may (events_of init.scripts turns) i (event_of init.scripts turn) init now new answer low there so_far leaves takes_so left

  pub turn_goes : answer ≡ Done → EventsSoFar (terms_of g may init) init.scripts (events_of init.scripts turns) (seen_core g init.core) (drop (i + 1) (events_of init.scripts turns)) (seen_core g new.core)
  turn_goes = event_goes g may (events_of init.scripts turns) i (event_of init.scripts turn) init now new answer low there so_far leaves takes_so left

  pub turn_halts : answer ≢ Done → RunsEvents (terms_of g may init) init.scripts (events_of init.scripts turns) (seen_core g init.core) answer (seen_core g new.core)
  turn_halts = event_halts g may (events_of init.scripts turns) i (event_of init.scripts turn) init now new answer low there so_far leaves takes_so left

pub turns_over : (terms : Terms) (scripts : List ScriptData) (turns : List ℕ) (i : ℕ) (start now : CoreData) → length turns ≤ i
    → EventsSoFar terms scripts (events_of scripts turns) start (drop i (events_of scripts turns)) now → RunsEvents terms scripts (events_of scripts turns) start Done now
turns_over terms scripts turns i start now past so_far =
    events_over terms scripts (events_of scripts turns) i start now (omega (arith, past, length-map turns (event_of scripts))) so_far

-- ---- and then rounds

module _ {S C : Type 0} (g : Ghosts S) (may : C → List Candidate → ℕ → Type 0)
    (turns : List ℕ) (init mid : DriveValue S C) (halfway : DriveAnswer)
    (turned : RunsEvents (terms_of g may init) init.scripts (events_of init.scripts turns) (seen_core g init.core) halfway (seen_core g mid.core)) where
  pub run_halts : halfway ≢ Done → RunsOn (terms_of g may init) init.scripts turns (seen_core g init.core) halfway (seen_core g mid.core)
  run_halts other = record {
    mid = seen_core g mid.core;
    halfway = halfway;
    turned = turned;
    rounds = λ done. absurd (other done);
    halted = λ _. (refl, refl);
  }

  module _ (leaves : LeavesDrive g init mid halfway) (done : halfway ≡ Done) (new : DriveValue S C) (end : DriveAnswer) where
    pub run_ends : RunsToEnd (terms_of g may mid) mid.scripts (seen_core g mid.core) end (seen_core g new.core)
        → RunsOn (terms_of g may init) init.scripts turns (seen_core g init.core) end (seen_core g new.core)
    run_ends rounds = record {
      mid = seen_core g mid.core;
      halfway = halfway;
      turned = turned;
      rounds = λ _. subst (λ (t : Terms). RunsToEnd t init.scripts (seen_core g mid.core) end (seen_core g new.core)) (same_terms g may init mid leaves) (subst (λ (scripts : List ScriptData). RunsToEnd (terms_of g may mid) scripts (seen_core g mid.core) end (seen_core g new.core)) leaves.scripts_ rounds);
      halted = λ other. absurd (other done);
    }

    pub run_leaves : LeavesDrive g mid new end → LeavesDrive g init new end
    run_leaves last = leaves_then g init mid new end (subst (λ (a : DriveAnswer). LeavesDrive g init mid a) done leaves) last

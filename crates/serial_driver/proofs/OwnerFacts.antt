-- Hosts that have more to do, and have a call.
use Rattle.std.proofs.Common.{◌≡◌, ◌⊎◌, inl, inr, ◌<◌, ℕ, zero, suc, Bool, true, false, ◌&&◌, List, [], ◌∷◌, length, get_or, Option, Some, None, refl, sym, ◌∙◌, subst, arith}
use Rattle.std.specs.Prelude.{◌==◌, ◌||◌, is_some}
use Rattle.std.proofs.lemmas.Bool.{false≢true, cond-true, cond-false, eqb-true}
use Rattle.mss_base.specs.declared.site.Site.{Ghosts}
use Rattle.channel_commands.specs.Data.{CallData}
use Rattle.channel_program.specs.Script.{ItemData, program}
use Rattle.ckd_plain.specs.History.{EntryData}
use Rattle.fault_queue.specs.declared.queue.Request.{Request}
use Rattle.fault_queue.specs.Requests.{request_of}
use Rattle.job_text.specs.Jobs.{ScriptData}
use Rattle.core_state.specs.CoreValue.{CoreValue, seen_core}
use Rattle.core_state.specs.Pins.{host_at, is_on, asks_for}
use Rattle.core_progress.specs.Progress.{HasCall, OwnersCall}
use Rattle.script_places.specs.declared.place.Place.{Place}
use Rattle.script_places.specs.Places.{StandsAt, KnowsItem}
use Rattle.script_places.specs.Scripts.{Left, not_begun, next_of, left_after, script_of, exchanges_of, left_of, calls_of}
use Rattle.serial_driver.specs.Drives.{AllStand, IsInProgram, IsDriven}
use Rattle.serial_driver.proofs.EventRuns.{left_nothing}
use Rattle.script_places.proofs.PlaceFacts.{says_call}

pub a_call : (o : Option CallData) → is_some o ≡ true → (call : CallData) × (o ≡ Some call)
a_call None is = absurd (false≢true is)
a_call (Some call) is = (call, refl)

-- the number of a host's script, if it has one
pub its_number : (ss : List ScriptData) (h : ℕ) (d : ScriptData) → (script_of ss h ≡ []) ⊎ ((n : ℕ) × (n < length ss) × ((get_or ss n d).host ≡ h))
its_number [] h d = inl refl
its_number (s ∷ ss) h d = by_host (its_number ss h d) (s.host == h) refl
  where
    by_host : (script_of ss h ≡ []) ⊎ ((n : ℕ) × (n < length ss) × ((get_or ss n d).host ≡ h)) → (b : Bool) → (s.host == h) ≡ b
        → (script_of (s ∷ ss) h ≡ []) ⊎ ((n : ℕ) × (n < length (s ∷ ss)) × ((get_or (s ∷ ss) n d).host ≡ h))
    by_host more true is = inr (zero, omega arith, eqb-true s.host h is)
    by_host (inl none) false is = inl (cond-false (s.host == h) s.items (script_of ss h) is ∙ none)
    by_host (inr it) false is = inr (suc it.0, (let low = it.1 in omega (arith, low)), it.2)

-- where a host stands, if it is in the job
Stands : List EntryData → List ItemData → ℕ → Type 0
Stands history items h = (p : Place) × StandsAt items (left_after (not_begun items) (exchanges_of h history)) p

its_place : (history : List EntryData) (ss : List ScriptData) (ps : List Place) (h : ℕ) → AllStand history ss ps → (script_of ss h ≡ []) ⊎ Stands history (script_of ss h) h
unfolding Stands
its_place history [] ps h all = inl refl
its_place history (s ∷ ss) [] h all = absurd all
its_place history (s ∷ ss) (p ∷ ps) h all = by_host (its_place history ss ps h all.1) (s.host == h) refl
  where
    by_host : (script_of ss h ≡ []) ⊎ Stands history (script_of ss h) h → (b : Bool) → (s.host == h) ≡ b → (script_of (s ∷ ss) h ≡ []) ⊎ Stands history (script_of (s ∷ ss) h) h
    by_host more true is =
        inr (
          p,
          subst (λ (items : List ItemData). StandsAt items (left_after (not_begun items) (exchanges_of h history)) p) (sym (cond-true (s.host == h) s.items (script_of ss h) is))
              (subst (λ (k : ℕ). StandsAt s.items (left_after (not_begun s.items) (exchanges_of k history)) p) (eqb-true s.host h is) all.0),
        )
    by_host (inl none) false is = inl (cond-false (s.host == h) s.items (script_of ss h) is ∙ none)
    by_host (inr it) false is = inr (subst (λ (items : List ItemData). Stands history items h) (sym (cond-false (s.host == h) s.items (script_of ss h) is)) it)

-- a program that is under way, or comes next, has a call
program_calls : (left : Left) (p : Place) → KnowsItem left.items left.at p → IsInProgram left.items → (call : CallData) × (next_of left.items left.at ≡ Some call)
program_calls left p knows within = by_items left.items knows within
  where
    by_items : (items : List ItemData) → KnowsItem items left.at p → IsInProgram items → (call : CallData) × (next_of items left.at ≡ Some call)
    by_items (program words ∷ more) known inside = a_call (next_of (program words ∷ more) left.at) (says_call words left.at p.next known.some known.call)
    by_items _ known inside = absurd inside

no_program : (xs : List ItemData) → xs ≡ [] → IsInProgram xs → ⊥
no_program xs none within = subst IsInProgram none within

-- a host owns a volume by its open chain, or by a request
by_chain : (volume : ℕ) (a chain : Bool) (o : Option Request) → (a && (chain || asks_for volume o)) ≡ true → (chain ≡ true) ⊎ ((r : Request) × (o ≡ Some r))
by_chain volume false chain o is = absurd (false≢true is)
by_chain volume true true o is = inl refl
by_chain volume true false None is = absurd (false≢true is)
by_chain volume true false (Some r) is = inr (r, refl)

module _ {S C : Type 0} (g : Ghosts S) (v : CoreValue S C) (scripts : List ScriptData) (places : List Place) (driven : IsDriven v scripts places) where
  pub owners_call : v.stopped ≡ None → OwnersCall (seen_core g v) (calls_of scripts v.history)
  unfolding Stands
  owners_call going h volume owned =
      let more = driven.more going h in
      elim (by_chain volume (is_on volume (host_at v.hosts h).mounted) (host_at v.hosts h).chain_open (request_of v.requests h) owned) [
        | inl open_ ↦ by_place (more.chained open_) (its_place v.history scripts places h driven.stand)
        | inr asks ↦ more.asked asks.0 asks.1
      ]
    where
      by_place : IsInProgram (left_of scripts v.history h).items → (script_of scripts h ≡ []) ⊎ Stands v.history (script_of scripts h) h → HasCall (calls_of scripts v.history) h
      by_place within (inl none) = absurd (no_program (left_of scripts v.history h).items (left_nothing (not_begun (script_of scripts h)) (exchanges_of h v.history) none) within)
      by_place within (inr it) = program_calls (left_of scripts v.history h) it.0 it.1.knows within

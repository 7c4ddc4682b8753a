-- A host's turn in a serial run, whether it has a call or not.
use Rattle.std.proofs.Common.{◌≡◌, ◌<◌, ℕ, zero, suc, Bool, List, [], ◌∷◌, length, get_or, Option, Some, None, refl, sym, ◌∙◌, ap, subst, arith}
use Rattle.std.specs.Prelude.{slice_set, slice_get, is_some}
use Rattle.mss_base.specs.Content.{SiteLog}
use Rattle.mss_base.specs.Counts.{IsFaultSince}
use Rattle.mss_base.specs.declared.site.Site.{Ghosts}
use Rattle.channel_commands.specs.Data.{CallData}
use Rattle.channel_program.specs.Script.{ItemData}
use Rattle.ckd_plain.specs.History.{EntryData}
use Rattle.job_text.specs.Jobs.{ScriptData}
use Rattle.fault_queue.specs.Requests.{request_of}
use Rattle.core_state.specs.Beginning.{IsLater, Continues}
use Rattle.victim_choice.specs.declared.choose.Candidate.{Candidate}
use Rattle.core_state.specs.Chains.{Terms}
use Rattle.core_state.specs.HostEvents.{HostEvent}
use Rattle.core_state.specs.CoreValue.{CoreValue, CoreData, seen_core}
use Rattle.core_state.specs.IsCore.{IsCore}
use Rattle.core_state.specs.Pins.{host_at}
use Rattle.host_events.proofs.EventLeaves.{keeps_beginning, leaves_cartridges}
use Rattle.host_events.proofs.RuleFacts.{core_seen}
use Rattle.core_state.proofs.Later.{later_none}
use Rattle.serial_driver.specs.declared.answer.DriveAnswer.{DriveAnswer}
use Rattle.serial_driver.specs.declared.answer.DriveAnswer.TheVariants.{Done, Stopped, CommandLimit, Memory}
use Rattle.script_places.specs.declared.place.Place.{Place}
use Rattle.serial_driver.specs.Answers.{IsUnstopped}
use Rattle.script_places.specs.Places.{StandsAt}
use Rattle.script_places.specs.Scripts.{Left, not_begun, next_of, left_after, left_behind, Plays, script_of, exchanges_of, left_of, calls_of}
use Rattle.serial_driver.specs.Drives.{HostTakes, HasMore, IsDriven, IsFull, Halts}
use Rattle.serial_driver.proofs.ReadFacts.{core_read, read_of}
use Rattle.serial_driver.proofs.ScriptPlaces.{script_at, stand_at, stand_set, as_many}
use Rattle.serial_driver.proofs.DriveFacts.{nothing_behind, host_driven, host_halts, host_full, host_cause}

pub same_default : {A : Type 0} (xs : List A) (n : ℕ) (d e : A) → n < length xs → get_or xs n d ≡ get_or xs n e
same_default [] n d e below = absurd (omega (arith, below))
same_default (x ∷ xs) zero d e below = refl
same_default (x ∷ xs) (suc n) d e below = same_default xs n d e (omega (arith, below))

pub unstopped_same : (answer : DriveAnswer) (was is : Option ℕ) → IsUnstopped answer → Halts answer was is → is ≡ was
unstopped_same Done was is un halts = halts
unstopped_same (Stopped fault) was is un halts = absurd un
unstopped_same CommandLimit was is un halts = halts
unstopped_same Memory was is un halts = halts

pub record HostWhole {S C : Type 0} (g : Ghosts S) (v w : CoreValue S C) (scripts : List ScriptData) (places : List Place) (answer : DriveAnswer) : Type 0 where
  pub driven : IsDriven w scripts places
  pub full : answer ≡ CommandLimit → IsFull scripts w.history
  pub halts : Halts answer v.stopped w.stopped
  pub cause : v.stopped ≡ None → (fault : ℕ) → w.stopped ≡ Some fault → IsFaultSince (g.faults v.site) (g.faults w.site) fault

module _ {S C : Type 0} (g : Ghosts S) (v w : CoreValue S C) (scripts : List ScriptData) (places : List Place) (kept : v.stopped ≡ None → IsCore v)
    (driven : IsDriven v scripts places) (n : ℕ) (d : ScriptData) (below : n < length scripts) (may : List Candidate → ℕ → Type 0) (copies : Bool) where
  abbrev script : ScriptData
  script = get_or scripts n d

  abbrev old : CoreData
  old = seen_core g v

  abbrev new : CoreData
  new = seen_core g w

  abbrev terms : Terms
  terms = record { tells = g.tells; may = may; copies = copies }

  abbrev at_script : Left
  at_script = left_after (not_begun script.items) (exchanges_of script.host v.history)

  module _ (list : List Place) (same : list ≡ places) (p : Place) where
    pub stands_there : StandsAt script.items at_script (get_or list n p)
    stands_there = subst (λ (l : List Place). StandsAt script.items at_script (get_or l n p)) (sym same) (stand_at v.history scripts places n d p driven.stand below)

    pub as_long : n < length list
    as_long = omega (arith, below, as_many v.history scripts places driven.stand, ap length same)

    -- whether the host has a call, as its place says
    pub can_call_there : (b : Bool) (items : List ItemData) → items ≡ script.items → ((left : Left) → StandsAt items left (get_or list n p) → b ≡ is_some (next_of left.items left.at)) → (unknown : ScriptData)
        → b ≡ is_some (calls_of scripts v.history (get_or scripts n unknown).host)
    can_call_there b items is says unknown =
        says at_script (subst (λ (l : List ItemData). StandsAt l at_script (get_or list n p)) (sym is) stands_there)
        ∙ sym (ap (λ (l : List ItemData). is_some (next_of (left_after (not_begun l) (exchanges_of script.host v.history)).items (left_after (not_begun l) (exchanges_of script.host v.history)).at)) (script_at scripts n d driven.scripts_.differ below))
        ∙ ap (λ (s : ScriptData). is_some (calls_of scripts v.history s.host)) (same_default scripts n d unknown below)

    module _ (q : Place) (answer : DriveAnswer)
        (event : (left : Left) → StandsAt script.items left (get_or list n p) → HostTakes terms script.host (next_of left.items left.at) old answer new)
        (moves : (left : Left) → StandsAt script.items left (get_or list n p) → StandsAt script.items (left_behind left (slice_get w.history (length v.history))) q) where
      call_is : calls_of scripts v.history script.host ≡ next_of at_script.items at_script.at
      call_is = ap (λ (items : List ItemData). next_of (left_after (not_begun items) (exchanges_of script.host v.history)).items (left_after (not_begun items) (exchanges_of script.host v.history)).at) (script_at scripts n d driven.scripts_.differ below)

      takes : HostTakes terms script.host (calls_of scripts v.history script.host) old answer new
      takes = subst (λ (c : Option CallData). HostTakes terms script.host c old answer new) (sym call_is) (event at_script stands_there)

      stands : StandsAt script.items (left_behind at_script (slice_get w.history (length v.history))) q
      stands = moves at_script stands_there

      -- with another script where there is none
      pub host_takes : (unknown : ScriptData) → HostTakes terms (get_or scripts n unknown).host (calls_of scripts v.history (get_or scripts n unknown).host) old answer new
      host_takes unknown = subst (λ (s : ScriptData). HostTakes terms s.host (calls_of scripts v.history s.host) old answer new) (same_default scripts n d unknown below) takes

      still : new ≡ old → IsDriven w scripts (slice_set places n q)
      still is = record {
        scripts_ = driven.scripts_;
        stand = stand_set v.history w.history scripts places n d q driven.scripts_.differ below (λ h other. ap (exchanges_of h) hist)
            (subst (λ (l : Left). StandsAt script.items l q)
            (ap (λ (l : List EntryData). left_behind at_script (slice_get l (length v.history))) hist ∙ ap (left_behind at_script) (nothing_behind v.history)
            ∙ ap (λ (l : List EntryData). left_after (not_begun script.items) (exchanges_of script.host l)) (sym hist)) stands) driven.stand;
        plays = λ h. subst (λ (l : List EntryData). Plays (not_begun (script_of scripts h)) (exchanges_of h l)) (sym hist) (driven.plays h);
        more = λ going h. subst (λ (l : List EntryData). HasMore w (left_of scripts l h) h) (sym hist) (more_at going h);
      }
        where
          hist : w.history ≡ v.history
          hist = ap (λ (c : CoreData). c.history) is

          more_at : w.stopped ≡ None → (h : ℕ) → HasMore w (left_of scripts v.history h) h
          more_at going h =
              let was : v.stopped ≡ None = sym (ap (λ (c : CoreData). c.stopped) is) ∙ going in
              record {
                chained = λ open_. (driven.more was h).chained (sym (ap (λ (c : CoreData). (host_at c.hosts h).chain_open) is) ∙ open_);
                asked = λ r asks. (driven.more was h).asked r (sym (ap (λ (c : CoreData). request_of c.requests h) is) ∙ asks);
              }

      by_call : (call : Option CallData) → calls_of scripts v.history script.host ≡ call → HostTakes terms script.host call old answer new → HostWhole g v w scripts (slice_set places n q) answer
      by_call None next it = record {
        driven = still it.0;
        full = λ is. absurd (let e : Done ≡ CommandLimit = sym it.1 ∙ is in cc);
        halts = subst (λ (a : DriveAnswer). Halts a v.stopped w.stopped) (sym it.1) (ap (λ (c : CoreData). c.stopped) it.0);
        cause = λ was fault is. absurd (let e : None ≡ Some fault = sym was ∙ sym (ap (λ (c : CoreData). c.stopped) it.0) ∙ is in cc);
      }
      by_call (Some call) next it =
          let at = read_of g.tells old copies (λ read. HostEvent g.tells read script.host call it.0 new) it.1 in
          record {
            driven = host_driven g v w scripts places kept driven n d below at.0 at.1 call it.0 at.2 next q stands;
            full = λ is. host_full g v w scripts places kept driven n d below at.0 at.1 call it.0 at.2 next q stands (sym it.2 ∙ is);
            halts = subst (λ (a : DriveAnswer). Halts a v.stopped w.stopped) (sym it.2) (host_halts g v w scripts places kept driven n d below at.0 at.1 call it.0 at.2 next q stands);
            cause = host_cause g v w scripts places kept driven n d below at.0 at.1 call it.0 at.2 next q stands;
          }

      pub host_whole : HostWhole g v w scripts (slice_set places n q) answer
      host_whole = by_call (calls_of scripts v.history script.host) refl takes

      session_by : (call : Option CallData) → HostTakes terms script.host call old answer new → IsLater g.tells old new
      session_by None it = subst (λ (c : CoreData). IsLater g.tells old c) (sym it.0) (later_none g.tells old)
      session_by (Some call) it =
          let at = read_of g.tells old copies (λ read. HostEvent g.tells read script.host call it.0 new) it.1 in
          let read : CoreData = record old { site = at.0 } in
          let began = keeps_beginning g.tells read script.host new call it.0 at.2 in
          record {
            beginning = record { config = began.config; first_write = began.first_write; first_faults = began.first_faults; handed = began.handed };
            grown = λ t.
                let added = leaves_cartridges g.tells read (λ going. core_read old at.0 (core_seen g v (kept going))) script.host new t call it.0 at.2 in
                subst (λ (log : SiteLog). Continues log new.site.told) (at.1.told t) (added.items, added.grown);
          }

      pub host_session : IsLater g.tells old new
      host_session = session_by (calls_of scripts v.history script.host) takes

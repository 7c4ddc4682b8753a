-- What a serial run keeps, over one event.
use Rattle.std.proofs.Common.{◌≡◌, ◌≢◌, ◌<◌, ◌≤◌, arith, ℕ, Bool, true, false, List, [], ◌∷◌, ◌++◌, length, get_or, Option, Some, None, refl, sym, ◌∙◌, ap, subst}
use Rattle.std.specs.Prelude.{nat_eq, slice_set, slice_get, is_some}
use Rattle.mss_base.specs.Counts.{IsFaultSince}
use Rattle.mss_base.specs.declared.site.Site.{Ghosts}
use Rattle.channel_program.proofs.ItemFacts.{all_at}
use Rattle.core_state.specs.Chains.{OneOf, WereRead}
use Rattle.host_events.proofs.RuleFacts.{core_seen}
use Rattle.std.proofs.lemmas.Bool.{eqb-true, eqb-false}
use Rattle.channel_commands.specs.Data.{CallData, stopped}
use Rattle.channel_program.specs.Script.{ItemData, Exchange}
use Rattle.ckd_plain.specs.declared.host.HostState.{HostState}
use Rattle.ckd_plain.specs.History.{EntryData}
use Rattle.job_text.specs.Jobs.{ScriptData}
use Rattle.core_state.specs.CoreValue.{CoreValue, CoreData, DevicesSeen, seen_core, seen_site}
use Rattle.core_state.specs.HostEvents.{HostTold, replied, marked, waits, halts, at_limit, no_memory, HostEvent}
use Rattle.core_state.specs.IsCore.{IsCore}
use Rattle.core_state.specs.Pins.{host_at}
use Rattle.host_events.specs.Leaves.{LeavesOthers, EntersAsTold, AddsEntry, KeepsHistory}
use Rattle.host_events.specs.Causes.{CauseOf}
use Rattle.host_events.proofs.CauseFacts.{has_cause}
use Rattle.host_events.proofs.EventLeaves.{enters, leaves_others}
use Rattle.script_places.specs.declared.place.Place.{Place}
use Rattle.script_places.specs.Places.{StandsAt}
use Rattle.script_places.specs.Scripts.{Left, not_begun, next_of, left_after, left_behind, Plays, script_of, exchanges_of, left_of, calls_of}
use Rattle.serial_driver.specs.Drives.{IsScript, AllStand, HasMore, IsDriven, IsFull, Halts}
use Rattle.script_places.proofs.ScriptFacts.{left_after-push, Plays-push, ended_has_none}
use Rattle.serial_driver.proofs.ReadFacts.{core_read}
use Rattle.serial_driver.proofs.ScriptPlaces.{others_entry, its_own, stand_set}
use Rattle.serial_driver.proofs.ChainedOn.{open_goes_on}
use Rattle.serial_driver.proofs.HostFacts.{HostFacts, LeavesHost, StopsAs, host_facts}
use Rattle.serial_driver.specs.Answers.{of_host}
use Rattle.serial_driver.specs.declared.answer.DriveAnswer.TheVariants.{Done, Stopped, CommandLimit, Memory}

-- ---- a history with at most one entry more, of this host and call

-- none, or this one
abbrev pub with_one : List EntryData → Option EntryData → List EntryData
with_one history None = history
with_one history (Some e) = history ++ e ∷ []

pub record Grows (h : ℕ) (call : CallData) (old new : List EntryData) : Type 0 where
  pub one : Option EntryData
  pub grown : new ≡ with_one old one
  pub its : (e : EntryData) → one ≡ Some e → (e.host ≡ h) × (e.call ≡ call)

-- what is behind the old ones
pub nothing_behind : (old : List EntryData) → slice_get old (length old) ≡ None
nothing_behind [] = refl
nothing_behind (e ∷ es) = nothing_behind es

last_behind : (old : List EntryData) (e : EntryData) → slice_get (old ++ e ∷ []) (length old) ≡ Some e
last_behind [] e = refl
last_behind (x ∷ xs) e = last_behind xs e

behind_is : (old : List EntryData) (one : Option EntryData) → slice_get (with_one old one) (length old) ≡ one
behind_is old None = nothing_behind old
behind_is old (Some e) = last_behind old e

grows_none : (h : ℕ) (call : CallData) (old new : List EntryData) → new ≡ old → Grows h call old new
grows_none h call old new same = record { one = None; grown = same; its = λ e is. absurd cc }

grows_one : (h : ℕ) (call : CallData) (old new : List EntryData) (e : EntryData) → e.host ≡ h → e.call ≡ call → new ≡ old ++ e ∷ [] → Grows h call old new
grows_one h call old new e host_ call_ same = record {
  one = Some e;
  grown = same;
  its = λ f is. let same' : e ≡ f = cc in (ap (λ (x : EntryData). x.host) (sym same') ∙ host_, ap (λ (x : EntryData). x.call) (sym same') ∙ call_);
}

grows_if : (h : ℕ) (call : CallData) (core left : CoreData) (fault : ℕ) (b : Bool)
    → OneOf b (KeepsHistory core left) (AddsEntry core h call stopped (Some fault) left) → Grows h call core.history left.history
grows_if h call core left fault true keeps = grows_none h call _ _ keeps.history
grows_if h call core left fault false adds = grows_one h call _ _ _ refl refl adds.history

pub grows : (core : CoreData) (h : ℕ) (call : CallData) (told : HostTold) (left : CoreData) → EntersAsTold core h call told left → Grows h call core.history left.history
grows core h call (replied index reply) left told = grows_one h call _ _ _ refl refl told.2.history
grows core h call (halts fault) left told = grows_if h call core left fault (is_some core.stopped) told
grows core h call marked left told = grows_none h call _ _ told.history
grows core h call (waits w) left told = grows_none h call _ _ told.history
grows core h call at_limit left told = grows_none h call _ _ told.history
grows core h call no_memory left told = grows_none h call _ _ told.history

-- ---- what is left, behind it

module _ (h : ℕ) (call : CallData) (old : List EntryData) where
  grown_other : (one : Option EntryData) → ((e : EntryData) → one ≡ Some e → (e.host ≡ h) × (e.call ≡ call)) → (k : ℕ) → k ≢ h → exchanges_of k (with_one old one) ≡ exchanges_of k old
  grown_other None its k other = refl
  grown_other (Some e) its k other = others_entry k old e (λ same. other (same ∙ (its e refl).0))

  grown_left : (items : List ItemData) (one : Option EntryData) → ((e : EntryData) → one ≡ Some e → (e.host ≡ h) × (e.call ≡ call))
      → left_after (not_begun items) (exchanges_of h (with_one old one)) ≡ left_behind (left_after (not_begun items) (exchanges_of h old)) one
  grown_left items None its = refl
  grown_left items (Some e) its =
      ap (left_after (not_begun items)) (its_own h old e (its e refl).0) ∙ left_after-push (not_begun items) (exchanges_of h old) (e.call, e.reply)

  grown_plays : (items : List ItemData) (one : Option EntryData) → ((e : EntryData) → one ≡ Some e → (e.host ≡ h) × (e.call ≡ call))
      → next_of (left_after (not_begun items) (exchanges_of h old)).items (left_after (not_begun items) (exchanges_of h old)).at ≡ Some call
      → Plays (not_begun items) (exchanges_of h old) → Plays (not_begun items) (exchanges_of h (with_one old one))
  grown_plays items None its next plays = plays
  grown_plays items (Some e) its next plays =
      subst (Plays (not_begun items)) (sym (its_own h old e (its e refl).0))
      (Plays-push (not_begun items) (exchanges_of h old) (e.call, e.reply) plays (next ∙ ap Some (sym (its e refl).1)))

-- ---- over an event of a host

module _ {S C : Type 0} (g : Ghosts S) (v w : CoreValue S C) (scripts : List ScriptData) (places : List Place) (kept : v.stopped ≡ None → IsCore v)
    (driven : IsDriven v scripts places) (n : ℕ) (d : ScriptData) (below : n < length scripts) (site : DevicesSeen) (read : WereRead g.tells (seen_site g v.site) site) where
  abbrev host : ℕ
  host = (get_or scripts n d).host

  -- behind a read for a copy
  abbrev old : CoreData
  old = record (seen_core g v) { site = site }

  abbrev new : CoreData
  new = seen_core g w

  is_script : IsScript (get_or scripts n d)
  is_script = all_at IsScript scripts n d driven.scripts_.each below

  kept_ : old.stopped ≡ None → IsCore old
  kept_ going = core_read (seen_core g v) site (core_seen g v (kept going))

  module _ (call : CallData) (told : HostTold) (event : HostEvent g.tells old host call told new)
      (next : calls_of scripts v.history host ≡ Some call) (q : Place)
      (stands : StandsAt (get_or scripts n d).items
      (left_behind (left_after (not_begun (get_or scripts n d).items) (exchanges_of host v.history)) (slice_get w.history (length v.history))) q) where
    grown : Grows host call v.history w.history
    grown = grows old host call told new (enters g.tells old kept_ host new call told event)

    facts : HostFacts old host call told new
    facts = host_facts g.tells old kept_ host is_script.low is_script.high new call told event

    one_is : slice_get w.history (length v.history) ≡ grown.one
    one_is = ap (λ (l : List EntryData). slice_get l (length v.history)) grown.grown ∙ behind_is v.history grown.one

    same_other : (k : ℕ) → k ≢ host → exchanges_of k w.history ≡ exchanges_of k v.history
    same_other k other = ap (exchanges_of k) grown.grown ∙ grown_other host call v.history grown.one grown.its k other

    left_is : (items : List ItemData) → left_after (not_begun items) (exchanges_of host w.history) ≡ left_behind (left_after (not_begun items) (exchanges_of host v.history)) grown.one
    left_is items = ap (λ (l : List EntryData). left_after (not_begun items) (exchanges_of host l)) grown.grown ∙ grown_left host call v.history items grown.one grown.its

    stand : AllStand w.history scripts (slice_set places n q)
    stand =
        stand_set v.history w.history scripts places n d q driven.scripts_.differ below same_other
        (subst (λ (l : Left). StandsAt (get_or scripts n d).items l q)
        (ap (left_behind (left_after (not_begun (get_or scripts n d).items) (exchanges_of host v.history))) one_is ∙ sym (left_is (get_or scripts n d).items)) stands)
        driven.stand

    plays_here : Plays (not_begun (script_of scripts host)) (exchanges_of host w.history)
    plays_here =
        subst (λ (l : List EntryData). Plays (not_begun (script_of scripts host)) (exchanges_of host l)) (sym grown.grown)
        (grown_plays host call v.history (script_of scripts host) grown.one grown.its next (driven.plays host))

    plays : (k : ℕ) → Plays (not_begun (script_of scripts k)) (exchanges_of k w.history)
    plays k = by_host (nat_eq k host) refl
      where
        by_host : (b : Bool) → nat_eq k host ≡ b → Plays (not_begun (script_of scripts k)) (exchanges_of k w.history)
        by_host true is = subst (λ (j : ℕ). Plays (not_begun (script_of scripts j)) (exchanges_of j w.history)) (sym (eqb-true k host is)) plays_here
        by_host false is = subst (Plays (not_begun (script_of scripts k))) (sym (same_other k (eqb-false k host is))) (driven.plays k)

    -- who has more to do
    module _ (going : w.stopped ≡ None) (was : v.stopped ≡ None) where
      others : LeavesOthers old host new
      others = leaves_others g.tells old host call told new is_script.low (kept was).requests_ event

      more_other : (k : ℕ) → k ≢ host → HasMore w (left_of scripts w.history k) k
      more_other k other =
          subst (λ (xs : List Exchange). HasMore w (left_after (not_begun (script_of scripts k)) xs) k) (sym (same_other k other))
          (record {
            chained = λ open_. (driven.more was k).chained (sym (ap (λ (x : HostState). x.chain_open) (others.hosts_ k other)) ∙ open_);
            asked = λ r is. (driven.more was k).asked r (sym (others.requests_ k other) ∙ is);
          })

      quietly : new.hosts ≡ old.hosts → KeepsHistory old new → HasMore w (left_of scripts w.history host) host
      quietly hosts_ keeps =
          subst (λ (l : List EntryData). HasMore w (left_of scripts l host) host) (sym keeps.history)
          (record {
            chained = λ open_. (driven.more was host).chained (sym (ap (λ (l : List HostState). (host_at l host).chain_open) hosts_) ∙ open_);
            asked = λ r is. (call, next);
          })

      -- the host itself, by what it was told
      more_here : (told' : HostTold) → LeavesHost old host call told' new → EntersAsTold old host call told' new → StopsAs told' old new → HasMore w (left_of scripts w.history host) host
      more_here (replied index reply) leaves enters_ stops =
          let adds = enters_.2 in
          subst (λ (l : Left). HasMore w l host)
          (sym (ap (λ (l : List EntryData). left_of scripts l host) adds.history ∙ ap (left_after (not_begun (script_of scripts host))) (its_own host v.history _ refl)
          ∙ left_after-push (not_begun (script_of scripts host)) (exchanges_of host v.history) (call, reply)))
          (record {
            chained = λ open_. open_goes_on (left_of scripts v.history host).items (left_of scripts v.history host).at (host_at v.hosts host) call reply next (driven.more was host).chained (leaves.1 open_);
            asked = λ r is. absurd (let e : None ≡ Some r = sym leaves.0 ∙ is in cc);
          })
      more_here (halts fault) leaves enters_ stops = absurd (let e : Some fault ≡ None = sym stops.0 ∙ going in cc)
      more_here marked leaves enters_ stops = quietly leaves enters_
      more_here (waits why) leaves enters_ stops = quietly leaves enters_
      more_here at_limit leaves enters_ stops = quietly leaves enters_
      more_here no_memory leaves enters_ stops = quietly leaves enters_

      more_all : (k : ℕ) → HasMore w (left_of scripts w.history k) k
      more_all k = by_host (nat_eq k host) refl
        where
          by_host : (b : Bool) → nat_eq k host ≡ b → HasMore w (left_of scripts w.history k) k
          by_host true is = subst (λ (j : ℕ). HasMore w (left_of scripts w.history j) j) (sym (eqb-true k host is)) (more_here told facts.host_ (enters g.tells old kept_ host new call told event) facts.stops)
          by_host false is = more_other k (eqb-false k host is)

    -- a core that isn't stopped wasn't
    was_going : (told' : HostTold) → StopsAs told' old new → w.stopped ≡ None → v.stopped ≡ None
    was_going (halts fault) stops going = absurd (let e : Some fault ≡ None = sym stops.0 ∙ going in cc)
    was_going (replied index reply) stops going = sym stops ∙ going
    was_going marked stops going = sym stops ∙ going
    was_going (waits why) stops going = sym stops ∙ going
    was_going at_limit stops going = sym stops ∙ going
    was_going no_memory stops going = sym stops ∙ going

    pub host_driven : IsDriven w scripts (slice_set places n q)
    host_driven = record {
      scripts_ = driven.scripts_;
      stand = stand;
      plays = plays;
      more = λ going. more_all going (was_going told facts.stops going);
    }

    -- a host that isn't stopped
    pub host_halts : Halts (of_host told) v.stopped w.stopped
    host_halts = by_told told facts.stops
      where
        by_told : (told' : HostTold) → StopsAs told' old new → Halts (of_host told') v.stopped w.stopped
        by_told (halts fault) stops = stops.0
        by_told (replied index reply) stops = stops
        by_told marked stops = stops
        by_told (waits why) stops = stops
        by_told at_limit stops = stops
        by_told no_memory stops = stops

    -- the limit is told of a full history, to a host that has a call
    pub host_full : of_host told ≡ CommandLimit → IsFull scripts w.history
    host_full = by_told told (has_cause g.tells old kept_ host new call told event) (enters g.tells old kept_ host new call told event)
      where
        by_told : (told' : HostTold) → CauseOf old host call told' new → EntersAsTold old host call told' new → of_host told' ≡ CommandLimit → IsFull scripts w.history
        by_told at_limit cause keeps is =
            let long : 4096 ≤ length v.history = cause.1 in
            let few : length v.history ≤ 4096 = (kept cause.0).few in
            let exactly : length v.history ≡ 4096 = omega (arith, long, few) in
            subst (IsFull scripts) (sym keeps.history)
            (record {
              entries = exactly;
              host = host;
              unfinished = λ ends. absurd (let e : None ≡ Some call = sym (ended_has_none (script_of scripts host) (exchanges_of host v.history) ends) ∙ next in cc);
            })
        by_told (replied index reply) cause enters_ is = absurd (let e : Done ≡ CommandLimit = is in cc)
        by_told (halts fault) cause enters_ is = absurd (let e : Stopped fault ≡ CommandLimit = is in cc)
        by_told marked cause enters_ is = absurd (let e : Done ≡ CommandLimit = is in cc)
        by_told (waits why) cause enters_ is = absurd (let e : Done ≡ CommandLimit = is in cc)
        by_told no_memory cause enters_ is = absurd (let e : Memory ≡ CommandLimit = is in cc)

    pub host_cause : v.stopped ≡ None → (fault : ℕ) → w.stopped ≡ Some fault → IsFaultSince (g.faults v.site) (g.faults w.site) fault
    host_cause was fault is = by_told told facts.stops
      where
        since : {other : ℕ} → IsFaultSince site.faults (g.faults w.site) other → IsFaultSince (g.faults v.site) (g.faults w.site) other
        since it = record { count = it.count; rises = (let rises = it.rises in let later = read.later in omega (arith, rises, later)) }

        by_told : (told' : HostTold) → StopsAs told' old new → IsFaultSince (g.faults v.site) (g.faults w.site) fault
        by_told (halts other) stops = let e : other ≡ fault = (let f : Some other ≡ Some fault = sym stops.0 ∙ is in cc) in subst (IsFaultSince (g.faults v.site) (g.faults w.site)) e (since (stops.1 was))
        by_told (replied index reply) stops = absurd (let e : None ≡ Some fault = sym was ∙ sym stops ∙ is in cc)
        by_told marked stops = absurd (let e : None ≡ Some fault = sym was ∙ sym stops ∙ is in cc)
        by_told (waits why) stops = absurd (let e : None ≡ Some fault = sym was ∙ sym stops ∙ is in cc)
        by_told at_limit stops = absurd (let e : None ≡ Some fault = sym was ∙ sym stops ∙ is in cc)
        by_told no_memory stops = absurd (let e : None ≡ Some fault = sym was ∙ sym stops ∙ is in cc)

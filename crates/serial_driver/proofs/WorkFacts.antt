-- What a serial run keeps over an event of a recorder.
use Rattle.std.proofs.Common.{◌≡◌, ◌⊎◌, inl, inr, ◌<◌, ℕ, Bool, true, false, List, Option, Some, None, refl, sym, ◌∙◌, ap, subst}
use Rattle.std.specs.Prelude.{nat_eq, option_map}
use Rattle.std.proofs.lemmas.Bool.{eqb-true, eqb-false}
use Rattle.mss_base.specs.Counts.{IsFaultSince}
use Rattle.mss_base.specs.declared.site.Site.{Ghosts}
use Rattle.ckd_plain.specs.declared.host.HostState.{HostState}
use Rattle.ckd_plain.specs.History.{EntryData}
use Rattle.job_text.specs.Jobs.{ScriptData}
use Rattle.fault_queue.specs.declared.queue.Request.{Request}
use Rattle.fault_queue.specs.declared.queue.RequestState.{RequestState}
use Rattle.fault_queue.specs.Requests.{RequestsData, request_of, with_state, with_request_at, in_state, IsOnce}
use Rattle.fault_queue.proofs.RequestFacts.{request_other, with_state_is}
use Rattle.victim_choice.specs.declared.choose.Candidate.{Candidate}
use Rattle.core_state.specs.Beginning.{IsLater}
use Rattle.core_state.specs.declared.rule.WorkAnswer.{WorkAnswer}
use Rattle.core_state.specs.declared.rule.WorkAnswer.TheVariants.{Did, Idle, Stopped, Memory}
use Rattle.core_state.specs.declared.rule.WorkRule.{WorkRule}
use Rattle.core_state.specs.CoreValue.{CoreValue, CoreData, seen_core}
use Rattle.core_state.specs.IsCore.{IsCore}
use Rattle.core_state.specs.Pins.{host_at}
use Rattle.core_state.specs.WorkEvents.{WorkEvent}
use Rattle.core_state.specs.WorkRules.{work_rule}
use Rattle.host_events.proofs.RuleFacts.{core_seen}
use Rattle.work_events.specs.WorkLaws.{AnswerSays}
use Rattle.work_events.proofs.Outcomes.{Outcome, Restates, outcome}
use Rattle.work_events.proofs.WorkLawFacts.{answer_says, is_later}
use Rattle.script_places.specs.declared.place.Place.{Place}
use Rattle.serial_driver.specs.Answers.{of_work}
use Rattle.script_places.specs.Scripts.{not_begun, left_of, Plays, script_of, exchanges_of}
use Rattle.serial_driver.specs.Drives.{AllStand, HasMore, IsDriven, Halts}
use Rattle.serial_driver.specs.declared.answer.DriveAnswer.TheVariants as answer

-- ---- no recorder is told the limit

pub no_limit : (told : WorkAnswer) → of_work told ≡ answer.CommandLimit → ⊥
no_limit (Did what) is = let e : answer.Done ≡ answer.CommandLimit = is in cc
no_limit Idle is = let e : answer.Done ≡ answer.CommandLimit = is in cc
no_limit (Stopped fault) is = let e : answer.Stopped fault ≡ answer.CommandLimit = is in cc
no_limit Memory is = let e : answer.Memory ≡ answer.CommandLimit = is in cc

-- ---- requests keep their hosts

abbrev HasRequest : RequestsData → ℕ → Type 0
HasRequest requests h = (r : Request) × (request_of requests h ≡ Some r)

restated : (requests : RequestsData) (h : ℕ) (state : RequestState) (k : ℕ) → IsOnce requests → HasRequest (with_state h state requests) k → HasRequest requests k
restated requests h state k once has = by_request (request_of requests h) refl
  where
    by_host : (q : Request) → request_of requests h ≡ Some q → (b : Bool) → nat_eq k h ≡ b → HasRequest requests k
    by_host q is true same = (q, ap (request_of requests) (eqb-true k h same) ∙ is)
    by_host q is false other =
        (has.0, sym (request_other requests h k (Some (record q { state = state })) once (eqb-false k h other)) ∙ ap (λ (rs : RequestsData). request_of rs k) (sym (with_state_is requests h q state is)) ∙ has.1)

    by_request : (o : Option Request) → request_of requests h ≡ o → HasRequest requests k
    by_request None is = (has.0, ap (λ (o : Option Request). request_of (with_request_at h (option_map (in_state state) o) requests) k) (sym is) ∙ has.1)
    by_request (Some q) is = by_host q is (nat_eq k h) refl

still_asked : (tells : Type 0) (core : CoreData) (rule : WorkRule) (left : CoreData) → IsOnce core.requests → (left.requests ≡ core.requests) ⊎ Restates core rule left → (k : ℕ) → HasRequest left.requests k → HasRequest core.requests k
still_asked tells core rule left once (inl same) k has = subst (λ (rs : RequestsData). HasRequest rs k) same has
still_asked tells core rule left once (inr it) k has = restated core.requests it.0 it.1 k once (subst (λ (rs : RequestsData). HasRequest rs k) it.2 has)

-- ---- over an event of a recorder

module _ {S C : Type 0} (g : Ghosts S) (may : List Candidate → ℕ → Type 0) (v w : CoreValue S C) (kept : v.stopped ≡ None → IsCore v)
    (n : ℕ) (below : n < v.config.recorders) (told : WorkAnswer) (event : WorkEvent g.tells may (seen_core g v) n told (seen_core g w)) where
  abbrev old : CoreData
  old = seen_core g v

  abbrev new : CoreData
  new = seen_core g w

  comes : Outcome g.tells old n (work_rule old n) told new
  comes = outcome g.tells may old n new (work_rule old n) told event

  says : AnswerSays g.tells old n told new
  says = answer_says g.tells may old n told new event (record { there = below; kept = λ going. core_seen g v (kept going) })

  pub work_session : IsLater g.tells old new
  work_session = is_later g.tells may old n told new event (record { there = below; kept = λ going. core_seen g v (kept going) })

  pub work_halts : Halts (of_work told) v.stopped w.stopped
  work_halts = by_told told says
    where
      by_told : (a : WorkAnswer) → AnswerSays g.tells old n a new → Halts (of_work a) v.stopped w.stopped
      by_told (Did what) it = it.1 ∙ sym it.0
      by_told Idle it = ap (λ (c : CoreData). c.stopped) it.1.1
      by_told (Stopped fault) (inl it) = ap (λ (c : CoreData). c.stopped) it.1.1 ∙ it.0
      by_told (Stopped fault) (inr it) = it.stands
      by_told Memory it = ap (λ (c : CoreData). c.stopped) it.1.1

  pub work_cause : v.stopped ≡ None → (fault : ℕ) → w.stopped ≡ Some fault → IsFaultSince (g.faults v.site) (g.faults w.site) fault
  work_cause was fault is = by_told told says
    where
      by_told : (a : WorkAnswer) → AnswerSays g.tells old n a new → IsFaultSince (g.faults v.site) (g.faults w.site) fault
      by_told (Did what) it = absurd (let e : None ≡ Some fault = sym it.1 ∙ is in cc)
      by_told Idle it = absurd (let e : None ≡ Some fault = sym was ∙ sym (ap (λ (c : CoreData). c.stopped) it.1.1) ∙ is in cc)
      by_told (Stopped other) (inl it) = absurd (let e : None ≡ Some other = sym was ∙ it.0 in cc)
      by_told (Stopped other) (inr it) = let e : other ≡ fault = (let f : Some other ≡ Some fault = sym it.stands ∙ is in cc) in subst (IsFaultSince (g.faults v.site) (g.faults w.site)) e it.cause
      by_told Memory it = absurd (let e : None ≡ Some fault = sym was ∙ sym (ap (λ (c : CoreData). c.stopped) it.1.1) ∙ is in cc)

  was_going : w.stopped ≡ None → v.stopped ≡ None
  was_going going = by_told told says
    where
      by_told : (a : WorkAnswer) → AnswerSays g.tells old n a new → v.stopped ≡ None
      by_told (Did what) it = it.0
      by_told Idle it = sym (ap (λ (c : CoreData). c.stopped) it.1.1) ∙ going
      by_told (Stopped other) (inl it) = sym (ap (λ (c : CoreData). c.stopped) it.1.1) ∙ going
      by_told (Stopped other) (inr it) = it.went
      by_told Memory it = it.0

  pub work_driven : (scripts : List ScriptData) (places : List Place) → IsDriven v scripts places → IsDriven w scripts places
  work_driven scripts places driven = record {
    scripts_ = driven.scripts_;
    stand = subst (λ (l : List EntryData). AllStand l scripts places) (sym comes.hosts.history) driven.stand;
    plays = λ h. subst (λ (l : List EntryData). Plays (not_begun (script_of scripts h)) (exchanges_of h l)) (sym comes.hosts.history) (driven.plays h);
    more = λ going h.
        let was = was_going going in
        subst (λ (l : List EntryData). HasMore w (left_of scripts l h) h) (sym comes.hosts.history)
        (record {
          chained = λ open_. (driven.more was h).chained (sym (ap (λ (l : List HostState). (host_at l h).chain_open) comes.hosts.hosts) ∙ open_);
          asked = λ r is. let has = still_asked g.tells old (work_rule old n) new (kept was).requests_ comes.requests h (r, is) in (driven.more was h).asked has.0 has.1;
        });
  }

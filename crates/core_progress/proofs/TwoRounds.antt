-- In one of two rounds that follow each other some host is told something else than to wait.
use Rattle.std.proofs.Common.{◌≡◌, ◌≢◌, ◌⊎◌, inl, inr, ℕ, ◌==◌, nat_le, Bool, true, false, not, ◌&&◌, List, [], ◌∷◌, length, Option, Some, None, is_some, option_map, option_and_then, unwrap_or, refl, sym, ◌∙◌, ap, subst}
use Rattle.std.proofs.lemmas.Bool.{cases_Bool, both_ways, false≢true, eqb-true}
use Rattle.channel_commands.specs.Data.{CallData, is_command}
use Rattle.ckd_plain.specs.History.{EntryData}
use Rattle.ckd_plain.specs.declared.host.HostState.{HostState}
use Rattle.mss_base.specs.Firsts.{◌or◌, where_so}
use Rattle.mss_base.proofs.FirstFacts.{none_below, none_where}
use Rattle.fault_queue.specs.declared.queue.Request.{Request}
use Rattle.fault_queue.specs.Requests.{request_of}
use Rattle.victim_choice.specs.declared.choose.Candidate.{Candidate}
use Rattle.core_state.specs.declared.rule.HostRule.{HostRule}
use Rattle.core_state.specs.declared.rule.HostRule.TheVariants.{IsStopped, IsFull, IsBusy, Responds}
use Rattle.core_state.specs.declared.rule.WorkAnswer.{WorkAnswer}
use Rattle.core_state.specs.declared.rule.WorkAnswer.TheVariants.{Did, Idle, Stopped, Memory}
use Rattle.core_state.specs.Chains.{Step, called, worked, is_end}
use Rattle.core_state.specs.CoreValue.{CoreData}
use Rattle.core_state.specs.HostRules.{data_command, stopped_rule, full_rule, busy_rule, moving_rule, held_rule, failed_rule, data_rule, host_rule}
use Rattle.core_state.specs.IsCore.{IsCore}
use Rattle.core_state.specs.Pins.{host_at, volume_under, owns, owner_of}
use Rattle.core_state.specs.WorkEvents.{WorkEvent}
use Rattle.core_state.proofs.RuleWalks.{none_some}
use Rattle.core_progress.specs.Progress.{StillAsk}
use Rattle.core_progress.specs.Rounds.{HasAnswer, CallsAfter, AreWork, AreTwoRounds}
use Rattle.core_progress.proofs.Progress.{found_below}
use Rattle.core_progress.proofs.RoundFacts.{IsCalm, Met, asks_for_it, all_wait, round_moves}
use Rattle.core_progress.proofs.RuleSays.{IsBusyAt}
use Rattle.core_progress.proofs.RunStays.{same_asked, owned_before}
use Rattle.core_progress.proofs.SettleFalls.{settle_falls}
use Rattle.core_progress.proofs.WorkAnswers.{idle_same}

-- ---- work

asks_on : (a b c : CoreData) → StillAsk a b → StillAsk b c → StillAsk a c
asks_on a b c first second = record {
  history_ = second.history_ ∙ first.history_;
  hosts_ = second.hosts_ ∙ first.hosts_;
  asked_ = λ h. second.asked_ h ∙ first.asked_ h;
}

asks_same : (core left : CoreData) → left ≡ record core { site = left.site } → StillAsk core left
asks_same core left is = subst (StillAsk core) (sym is) (record { history_ = refl; hosts_ = refl; asked_ = λ h. refl })

module _ (tells : Type 0) (may : List Candidate → ℕ → Type 0) where
  work_asks : (core left : CoreData) (steps : List Step) → AreWork tells may core steps left → StillAsk core left
  work_asks core left [] is = subst (StillAsk core) (sym is) (record { history_ = refl; hosts_ = refl; asked_ = λ h. refl })
  work_asks core left (called h call told ∷ steps) works = absurd works
  work_asks core left (worked recorder told ∷ steps) works =
      asks_on core works.3 left (by_told told works.2 works.4) (work_asks works.3 left steps works.5) where
        by_told : (answer : WorkAnswer) → is_end (worked recorder answer) ≡ false → WorkEvent tells may core recorder answer works.3 → StillAsk core works.3
        by_told (Did what) on event = (settle_falls tells may core works.3 recorder what works.0 event).1.asks
        by_told Idle on event = asks_same core works.3 (idle_same tells may core works.3 recorder event).1.1
        by_told (Stopped fault) on event = absurd (false≢true (sym on))
        by_told Memory on event = absurd (false≢true (sym on))

-- ---- a host that was told to wait

some_request : (o : Option Request) → is_some o ≡ true → (r : Request) × (o ≡ Some r)
some_request None is = absurd (false≢true is)
some_request (Some r) is = (r, refl)

met_still : (core left : CoreData) → StillAsk core left → (h : ℕ) (call : CallData) → Met core h call → Met left h call
met_still core left asks h call (inl has) = inl (some_request (request_of left.requests h) ((same_asked core left asks h).0 ∙ ap is_some has.1))
met_still core left asks h call (inr busy) = inr (
  busy.0,
  record {
    volume = busy.1.volume;
    owner = busy.1.owner;
    on = ap (λ (hosts : List HostState). volume_under (host_at hosts h)) asks.hosts_ ∙ busy.1.on;
    owns_ = owned_before core left asks busy.1.owner busy.1.volume ∙ busy.1.owns_;
    other = busy.1.other;
    low = busy.1.low;
  },
)

-- one whose volume another host owns asks for nothing
three : (s : Option ℕ) (full : Bool) (owner : ℕ) (rest : Option HostRule) → asks_for_it (unwrap_or (option_map IsStopped s or where_so full IsFull or Some (IsBusy owner) or rest) Responds) ≡ false
three (Some fault) full owner rest = refl
three None true owner rest = refl
three None false owner rest = refl

module _ (core : CoreData) (h : ℕ) (call : CallData) where
  abbrev later_rules : Option HostRule
  later_rules = moving_rule core h call or held_rule core h call or failed_rule core h call or option_and_then (data_rule core (host_at core.hosts h)) (data_command (host_at core.hosts h) call)

  busy_asks_nothing : (owner : ℕ) → busy_rule core h call ≡ Some (IsBusy owner) → asks_for_it (host_rule core h call) ≡ false
  unfolding host_rule
  busy_asks_nothing owner is =
      subst (λ (o : Option HostRule). asks_for_it (unwrap_or (stopped_rule core or full_rule core or o or later_rules) Responds) ≡ false) (sym is)
      (three core.stopped (nat_le 4096 (length core.history)) owner later_rules)

  is_busy : IsCore core → is_command call ≡ true → IsBusyAt core h → asks_for_it (host_rule core h call) ≡ false
  is_busy kept command busy = by_owner (owner_of core busy.volume) refl where
    differ : (n : ℕ) → n ≢ h → (n == h) ≡ false
    differ n apart = elim (cases_Bool (n == h)) [ inl same ↦ absurd (apart (eqb-true n h same)) | inr other ↦ other ]

    by_owner : (o : Option ℕ) → owner_of core busy.volume ≡ o → asks_for_it (host_rule core h call) ≡ false
    by_owner None none =
        absurd (both_ways (owns core.hosts core.requests busy.owner busy.volume)
        (none_where (owns core.hosts core.requests busy.owner busy.volume) busy.owner (none_below 9 (λ k. where_so (owns core.hosts core.requests k busy.volume) k) none busy.owner busy.low))
        busy.owns_)
    by_owner (Some owner) is =
        let own = (found_below (λ k. owns core.hosts core.requests k busy.volume) 9 owner is).1 in
        let e : owner ≡ busy.owner = kept.alone busy.volume owner busy.owner own busy.owns_ in
        let other : (owner == h) ≡ false = differ owner (λ same. busy.other (sym e ∙ same)) in
        busy_asks_nothing owner
        (ap (λ (o : Option ℕ). option_and_then (λ k. where_so (is_command call && not (k == h)) (IsBusy k)) (option_and_then (owner_of core) o)) busy.on
        ∙ ap (option_and_then (λ k. where_so (is_command call && not (k == h)) (IsBusy k))) is
        ∙ (λ i. where_so (command i && not (other i)) (IsBusy owner)))

  asks_no_more : IsCore core → Met core h call → asks_for_it (host_rule core h call) ≡ true → request_of core.requests h ≡ None → ⊥
  asks_no_more kept (inl has) asks none = none_some has.0 (sym none ∙ has.1)
  asks_no_more kept (inr busy) asks none = both_ways (asks_for_it (host_rule core h call)) (is_busy kept busy.0 busy.1) asks

-- ---- two rounds

module _ (tells : Type 0) (may : List Candidate → ℕ → Type 0) (calls : CallsAfter) (hosts : List ℕ) (first second : List Step) (rounds : AreTwoRounds tells may calls hosts first second) where
  calm : IsCalm rounds.core
  calm = record { no_tasks = rounds.begins.settled.no_tasks; once = rounds.begins.kept.requests_; cylinders = λ j r has. (rounds.begins.kept.on_mounted j r has).1 }

  pub one_answers : HasAnswer first ⊎ HasAnswer second
  one_answers = elim (all_wait tells may calls rounds.core.history rounds.worked_on hosts rounds.core first refl calm rounds.first_round) [
    | inl answer ↦ inl answer
    | inr turned ↦ elim (round_moves tells may calls hosts rounds.settled_core second rounds.left rounds.begins_again rounds.second_round) [
      | inl answer ↦ inr answer
      | inr asks ↦
          let one = asks.1 in
          let still = work_asks tells may rounds.worked_on rounds.settled_core rounds.work rounds.between in
          let same : rounds.settled_core.history ≡ rounds.core.history = still.history_ ∙ turned.grown.history_ in
          let its : calls rounds.core.history one.host ≡ Some one.call = sym (ap (λ (x : List EntryData). calls x one.host) same) ∙ one.its in
          let met = turned.met one.host one.call (rounds.begins_again.all_call one.host (one.call, one.its)) its in
          absurd (asks_no_more rounds.settled_core one.host one.call rounds.begins_again.kept (met_still rounds.worked_on rounds.settled_core still one.host one.call met) one.asks one.new)
    ]
  ]

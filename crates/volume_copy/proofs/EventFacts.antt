-- What each event leaves of a copy.
use Rattle.std.proofs.Common.{◌≡◌, ℕ, ◌+◌, List, [], ◌∷◌, ◌++◌, length, Option, Some, None, is_some, refl, sym, ap, subst, ◌∙◌, arith}
use Rattle.std.proofs.lemmas.List.{length-append}
use Rattle.channel_commands.specs.Data.{CallData, ReplyData, stopped}
use Rattle.ckd_plain.specs.declared.host.HostState.{HostState}
use Rattle.ckd_plain.specs.Data.{State}
use Rattle.ckd_plain.specs.History.{EntryData, after}
use Rattle.victim_choice.specs.declared.choose.Candidate.{Candidate}
use Rattle.core_state.specs.Beginning.{IsLater}
use Rattle.core_state.specs.Chains.{called, OneOf}
use Rattle.core_state.specs.CoreValue.{CoreData}
use Rattle.core_state.specs.HostEvents.{HostEvent, HostTold, replied, marked, waits, halts, at_limit, no_memory}
use Rattle.core_state.specs.IsCore.{IsGoing, opening_of}
use Rattle.core_state.specs.Pins.{host_at}
use Rattle.core_state.specs.Steps.{entry_of}
use Rattle.core_state.specs.StopRule.{opening}
use Rattle.core_state.specs.TheCore.{IsWhole}
use Rattle.core_state.specs.WorkEvents.{WorkEvent}
use Rattle.core_state.specs.declared.rule.WorkAnswer.{WorkAnswer}
use Rattle.core_state.proofs.EntryLemmas.{opening_same}
use Rattle.host_events.specs.Leaves.{AddsEntry, EntersAsTold, KeepsHistory}
use Rattle.host_events.proofs.Stopped.{stays_stopped}
use Rattle.work_events.specs.WorkLaws.{LeavesHosts}
use Rattle.work_events.proofs.WorkLawFacts.{stopped_stays}
use Rattle.volume_copy.specs.Copies.{CopyData, IsCopier, IsInTime, IsOnTime, Stands, StandsFor}
use Rattle.volume_copy.specs.Steps.{Guards, LeavesCopy}
use Rattle.volume_copy.proofs.EntryFacts.{entry_leaves}

some_none : {A : Type 0} (o : Option A) (a : A) → o ≡ Some a → o ≡ None → ⊥
some_none o a is none = let e : Some a ≡ None = sym is ∙ none in absurd cc

-- the start of the session is the same later
start_same : (tells : Type 0) → tells → (core left : CoreData) → IsWhole tells core.site.told core → IsLater tells core left → opening_of left.site.told left ≡ opening_of core.site.told core
start_same tells tl core left whole later =
    ap (λ (n : ℕ). opening n left.site.told) later.beginning.first_write
    ∙ opening_same core.first_write core.site.told left.site.told (later.grown tl).0 (later.grown tl).1 (whole.told tl).began

-- what goes on went on before
went_on : (before now : Option ℕ) → ((fault : ℕ) → before ≡ Some fault → now ≡ Some fault) → now ≡ None → before ≡ None
went_on None now stays none = refl
went_on (Some fault) now stays none = absurd (some_none now fault (stays fault refl) none)

-- ---- an event that adds no entry

module _ (tells : Type 0) (c : CopyData) (core left : CoreData) (whole : IsWhole tells core.site.told core) (later : IsLater tells core left) (open_ : left.stopped ≡ None → core.stopped ≡ None) where
  same_time : left.history ≡ core.history → IsOnTime c core.history → IsInTime c left.history
  same_time same on = subst (IsInTime c) (sym same) (record { waits = λ armed. let lt = on.waits armed in omega (arith, lt); began = on.began })

  same_stands : left.history ≡ core.history → tells → StandsFor core.site.told c core → StandsFor left.site.told c left
  same_stands same tl stands none =
      subst (λ (s : State). Stands c.state c s left.history) (sym (start_same tells tl core left whole later))
      (subst (λ (es : List EntryData). Stands c.state c (opening_of core.site.told core) es) (sym same) (stands (open_ none)))

  pub history_stays : left.history ≡ core.history → LeavesCopy tells c core left
  history_stays same = record { stands = same_stands same; time = same_time same }

  -- ---- an event that adds one

  module _ (is : IsCopier c) (h : ℕ) (call : CallData) (guards : Guards c (host_at core.hosts h) call) where
    entry_stands : (reply : ReplyData) (fault : Option ℕ) → left.history ≡ core.history ++ entry_of core.history h call reply fault ∷ [] → tells
        → StandsFor core.site.told c core → StandsFor left.site.told c left
    entry_stands reply fault adds tl stands none =
        let going : IsGoing core.site.told core = (whole.told tl).going (open_ none) in
        let same : host_at core.hosts h ≡ (after (opening_of core.site.told core) core.history).host h = ap (λ (f : ℕ → HostState). f h) (sym going.hosts_) in
        subst (λ (s : State). Stands c.state c s left.history) (sym (start_same tells tl core left whole later))
        (subst (λ (es : List EntryData). Stands c.state c (opening_of core.site.told core) es) (sym adds)
        (entry_leaves c (opening_of core.site.told core) core.history (entry_of core.history h call reply fault) is (subst (λ (host : HostState). Guards c host call) same guards) (stands (open_ none))))

    entry_time : (reply : ReplyData) (fault : Option ℕ) → left.history ≡ core.history ++ entry_of core.history h call reply fault ∷ [] → IsOnTime c core.history → IsInTime c left.history
    entry_time reply fault adds on =
        let long : length left.history ≡ length core.history + 1 = ap length adds ∙ length-append core.history (entry_of core.history h call reply fault ∷ []) in
        record {
          waits = λ armed. let lt = on.waits armed in omega (arith, lt, long);
          began = λ isn't. ((on.began isn't).0, (let le = (on.began isn't).1 in omega (arith, le, long)));
        }

    pub entry_leaves_copy : (reply : ReplyData) (fault : Option ℕ) → AddsEntry core h call reply fault left → LeavesCopy tells c core left
    entry_leaves_copy reply fault adds = record { stands = entry_stands reply fault adds.history; time = entry_time reply fault adds.history }

-- ---- each event

-- any chooser
abbrev any_choice : List Candidate → ℕ → Type 0
any_choice given place = Unit {0}

module _ (tells : Type 0) (c : CopyData) (core left : CoreData) (whole : IsWhole tells core.site.told core) (later : IsLater tells core left) where
  pub host_leaves : IsCopier c → (h : ℕ) (call : CallData) → Guards c (host_at core.hosts h) call → (told : HostTold) → HostEvent tells core h call told left → EntersAsTold core h call told left → LeavesCopy tells c core left
  host_leaves is h call guards told event enters = by_told told event enters
    where
      -- a core that is stopped stays so
      open_ : (told : HostTold) → HostEvent tells core h call told left → left.stopped ≡ None → core.stopped ≡ None
      open_ told event = went_on core.stopped left.stopped (λ fault was. ap (λ (x : CoreData). x.stopped) (stays_stopped tells any_choice fault (called h call told ∷ []) core left was (left, event, refl)).1.1 ∙ was)

      halted : (fault : ℕ) → HostEvent tells core h call (halts fault) left → (o : Option ℕ) → OneOf (is_some o) (KeepsHistory core left) (AddsEntry core h call stopped (Some fault) left) → LeavesCopy tells c core left
      halted fault event None adds = entry_leaves_copy tells c core left whole later (open_ (halts fault) event) is h call guards stopped (Some fault) adds
      halted fault event (Some was) same = history_stays tells c core left whole later (open_ (halts fault) event) same.history

      by_told : (told : HostTold) → HostEvent tells core h call told left → EntersAsTold core h call told left → LeavesCopy tells c core left
      by_told (replied index reply) event enters = entry_leaves_copy tells c core left whole later (open_ (replied index reply) event) is h call guards reply enters.1 enters.2
      by_told marked event enters = history_stays tells c core left whole later (open_ marked event) enters.history
      by_told (waits w) event enters = history_stays tells c core left whole later (open_ (waits w) event) enters.history
      by_told (halts fault) event enters = halted fault event core.stopped enters
      by_told at_limit event enters = history_stays tells c core left whole later (open_ at_limit event) enters.history
      by_told no_memory event enters = history_stays tells c core left whole later (open_ no_memory event) enters.history

  pub work_leaves : (may : List Candidate → ℕ → Type 0) (recorder : ℕ) (told : WorkAnswer) → WorkEvent tells may core recorder told left → LeavesHosts core left → LeavesCopy tells c core left
  work_leaves may recorder told event leaves =
      history_stays tells c core left whole later
      (went_on core.stopped left.stopped (λ fault was. ap (λ (x : CoreData). x.stopped) (stopped_stays tells may core recorder told left event fault was).1.1 ∙ was)) leaves.history

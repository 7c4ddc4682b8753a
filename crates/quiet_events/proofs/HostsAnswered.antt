-- What a host's answer leaves others to do.
use Rattle.std.proofs.Common.{◌≡◌, ℕ, zero, suc, ◌+◌, Bool, true, false, not, List, [], ◌∷◌, ◌++◌, length, length-append, Option, Some, None, refl, sym, ◌∙◌, ap, arith}
use Rattle.std.specs.Prelude.{is_some, slice_get, slice_index_or, if◌then◌else◌}
use Rattle.std.specs.List.{list_any}
use Rattle.std.proofs.lemmas.Bool.{and_parts, false≢true, not-true}
use Rattle.std.specs.Option.{option_and_then, unwrap_or}
use Rattle.mss_base.specs.Firsts.{where_so}
use Rattle.channel_commands.specs.Data.{CallData, ReplyData}
use Rattle.channel_commands.specs.declared.command.Command.{Command}
use Rattle.channel_commands.specs.Codes.{is_write}
use Rattle.fault_queue.specs.declared.queue.RequestState.TheVariants.{Queued}
use Rattle.fault_queue.specs.Requests.{RequestsData}
use Rattle.core_state.specs.declared.rule.HostRule.{HostRule}
use Rattle.core_state.specs.declared.rule.Waiting.{Waiting}
use Rattle.core_state.specs.declared.rule.WorkRule.TheVariants.{IsIdle, GivesBack}
use Rattle.core_state.specs.declared.session.Event.{Event}
use Rattle.core_state.specs.declared.session.Event.TheVariants.{Host}
use Rattle.core_state.specs.declared.task.Task.{Task}
use Rattle.core_state.specs.CoreValue.{CoreData}
use Rattle.core_state.specs.HostEvents.{HostTold, HostEvent, replied, waits, Holds, Asks}
use Rattle.core_state.specs.HostRules.{request_for, host_rule}
use Rattle.core_state.specs.Pins.{task_at}
use Rattle.core_state.specs.Steps.{ends_request, going_on, with_event, with_request}
use Rattle.core_state.specs.Tasks.{touched_by, touched_all, tasks_after}
use Rattle.core_state.specs.WorkRules.{task_of, held_in, first_pick, task_rule}
use Rattle.host_events.proofs.EventLeaves.{going, leaves_machine}
use Rattle.host_events.proofs.Outcomes.{EachOutcome, outcome}
use Rattle.quiet_events.specs.Quiet.{LeavesNoWork, RestsBehind, WaitsInVain, is_at_rest, is_wait_in_vain}
use Rattle.quiet_events.proofs.IdleRules.{at_rest, idle}

-- ---- replies

none_at : (tasks : List (Option Task)) → list_any (λ task. is_some task) tasks ≡ false → (n : ℕ) → task_at tasks n ≡ None
none_at [] none n = refl
none_at (None ∷ ts) none zero = refl
none_at (None ∷ ts) none (suc n) = none_at ts none n
none_at (Some task ∷ ts) none n = absurd (false≢true (sym none))

no_request : (requests : RequestsData) → is_some (slice_get requests 0) ≡ false → requests ≡ []
no_request [] none = refl
no_request (asked ∷ more) none = absurd (false≢true (sym none))

-- a task that is touched is there
none_untouched : (volume page : ℕ) (tasks : List (Option Task)) (n : ℕ) → task_at (touched_all volume page tasks) n ≡ None → task_at tasks n ≡ None
none_untouched volume page [] n none = refl
none_untouched volume page (t ∷ ts) zero none = by t none
  where
    by : (o : Option Task) → touched_by volume page o ≡ None → o ≡ None
    by None none = refl
    by (Some task) none = absurd cc
none_untouched volume page (t ∷ ts) (suc n) none = none_untouched volume page ts n none

none_after : (c : Command) (volume page : ℕ) (tasks : List (Option Task)) (n : ℕ) → task_at (tasks_after c volume page tasks) n ≡ None → task_at tasks n ≡ None
none_after c volume page tasks n = by (is_write c)
  where
    by : (b : Bool) → task_at (if b then touched_all volume page tasks else tasks) n ≡ None → task_at tasks n ≡ None
    by true none = none_untouched volume page tasks n none
    by false none = none

module _ (tells : Type 0) (core : CoreData) (h : ℕ) (core' : CoreData) (n : ℕ) where
  -- a reply stops no core, and takes no task
  abbrev Keeps : HostRule → HostTold → Type 0
  Keeps rule (replied index reply) = (core'.stopped ≡ core.stopped) × (task_of core' n ≡ None → task_of core n ≡ None)
  Keeps rule _ = Unit {0}

  kept : (c : CoreData) → core' ≡ c → c.stopped ≡ core.stopped → (task_of c n ≡ None → task_of core n ≡ None) → (core'.stopped ≡ core.stopped) × (task_of core' n ≡ None → task_of core n ≡ None)
  kept c is going tasks = (ap (λ (k : CoreData). k.stopped) is ∙ going, λ none. tasks (sym (ap (λ (k : CoreData). task_of k n) is) ∙ none))

  keeps_each : (call : CallData) → EachOutcome tells core h call core' Keeps
  keeps_each call = record {
    stops = λ fault same. tt;
    fills = λ same. tt;
    lacks = λ rule late same. tt;
    is_busy = λ owner same. tt;
    moves = λ cylinder same. tt;
    holds = λ frame held. tt;
    responds = λ it. kept _ it.1 refl (λ none. none);
    fails = λ fault it. kept _ it.1 refl (λ none. none);
    is_full = λ it. kept _ it.1 refl (λ none. none);
    asks = λ volume cylinder it. tt;
    marks = λ volume cylinder it. tt;
    unmarked = λ volume cylinder fault un. tt;
    unread = λ c volume frame un. kept _ un.1 refl (λ none. none);
    runs = λ c volume frame code argument chained status bytes ran. kept _ ran.3 refl (none_after c _ _ core.tasks n);
    unwritten = λ c volume frame code argument chained fault un. tt;
  }

  reply_leaves : (call : CallData) (index : ℕ) (reply : ReplyData) → HostEvent tells core h call (replied index reply) core' → is_at_rest core' ≡ true → LeavesNoWork core core' n
  reply_leaves call index reply event rest is =
      let before = at_rest core n is in
      let keeps = outcome tells core h core' (λ k. Keeps) call (keeps_each call) (host_rule core h call) (replied index reply) event in
      let none = and_parts (not (is_some (slice_get core'.requests 0))) (not (list_any (λ task. is_some task) core'.tasks)) rest in
      let free' : task_of core' n ≡ None = none_at core'.tasks (not-true (list_any (λ task. is_some task) core'.tasks) none.1) n in
      let free : task_of core n ≡ None = keeps.1 free' in
      let empty : core'.requests ≡ [] = no_request core'.requests (not-true (is_some (slice_get core'.requests 0)) none.0) in
      let same : held_in core' n ≡ held_in core n = ap (λ (rs : List (Option ℕ)). slice_index_or rs n None) (leaves_machine tells core h core' call (replied index reply) event).recorders in
      idle core' n record {
        going = keeps.0 ∙ before.going;
        returns = (λ i. option_and_then (λ cartridge. where_so (not (is_some ((free' ∙ sym free) i))) (GivesBack cartridge)) (same i)) ∙ before.returns;
        picks = (λ i. if is_some (free' i) then None else first_pick core' (empty i));
        works = ap (λ (o : Option Task). unwrap_or (option_and_then (task_rule core' n) o) IsIdle) free';
      }

  pub reply_quiet : (call : CallData) (told : HostTold) → HostEvent tells core h call told core' → RestsBehind told core' → LeavesNoWork core core' n
  reply_quiet call (replied index reply) event rest = reply_leaves call index reply event rest
  reply_quiet call _ event rest = absurd rest

-- ---- waits

module _ (tells : Type 0) (core : CoreData) (h : ℕ) (core' : CoreData) where
  module _ (call : CallData) (same : length core'.events ≡ length core.events) where
    abbrev in_vain : HostRule → Bool
    in_vain = is_wait_in_vain (is_some (request_for core h call)) (ends_request core h call)

    abbrev Vain : HostRule → HostTold → Type 0
    Vain rule (waits why) = in_vain rule ≡ true
    Vain rule _ = Unit {0}

    -- where an event is put down there is one more
    grown : core'.events ≡ (going_on core h call).events ++ Host h ∷ [] → ⊥
    grown is =
        let more : length core'.events ≡ length core.events + 1 =
        ap length (is ∙ ap (λ (es : List Event). es ++ Host h ∷ []) (going core h call (λ (c : CoreData). c.events ≡ core.events) refl refl))
        ∙ length-append core.events (Host h ∷ []) in
        omega (arith, more, same)

    held : Holds tells core h call core' → not (ends_request core h call) ≡ true
    held it = by (ends_request core h call) refl it.1
      where
        by : (b : Bool) → ends_request core h call ≡ b → core' ≡ record (if b then with_event (Host h) (going_on core h call) else core) { site = core'.site } → not (ends_request core h call) ≡ true
        by false is path = ap not is
        by true is path = absurd (grown (ap (λ (c : CoreData). c.events) path))

    asked : (volume cylinder : ℕ) → Asks tells core h call volume cylinder core' → is_some (request_for core h call) ≡ true
    asked volume cylinder it = by (is_some (request_for core h call)) refl it.1
      where
        by : (b : Bool) → is_some (request_for core h call) ≡ b
            → core' ≡ record (if b then core else with_event (Host h) (with_request h volume cylinder Queued (going_on core h call))) { site = core'.site } → is_some (request_for core h call) ≡ true
        by true is path = is
        by false is path = absurd (grown (ap (λ (c : CoreData). c.events) path))

    vain_each : EachOutcome tells core h call core' Vain
    vain_each = record {
      stops = λ fault same. tt;
      fills = λ same. tt;
      lacks = λ rule late same. tt;
      is_busy = λ owner same. refl;
      moves = λ cylinder same. refl;
      holds = λ frame it. held it;
      responds = λ it. tt;
      fails = λ fault it. tt;
      is_full = λ it. tt;
      asks = λ volume cylinder it. asked volume cylinder it;
      marks = λ volume cylinder it. tt;
      unmarked = λ volume cylinder fault un. tt;
      unread = λ c volume frame un. tt;
      runs = λ c volume frame code argument chained status bytes ran. tt;
      unwritten = λ c volume frame code argument chained fault un. tt;
    }

    pub vain : (why : Waiting) → HostEvent tells core h call (waits why) core' → WaitsInVain core h call
    vain why event = outcome tells core h core' (λ k rule told. Vain rule told) call vain_each (host_rule core h call) (waits why) event

-- What an event of a host leaves of the other hosts' requests, and of marks.
use Rattle.std.proofs.Common.{◌≡◌, ◌≢◌, inl, inr, ℕ, true, false, ◌&&◌, ◌||◌, List, Option, Some, None, is_some, refl, sym, ◌∙◌, ap, subst}
use Rattle.std.proofs.lemmas.Bool.{cases_Bool, both_ways, false≢true}
use Rattle.std.proofs.lemmas.Bool.Decides.{eqb_tells}
use Rattle.channel_commands.specs.declared.command.Command.{Command}
use Rattle.channel_commands.specs.Data.{CallData, command as ask, ReplyData, equipment_check}
use Rattle.volume_table.specs.Row.{RowValue}
use Rattle.fault_queue.specs.declared.queue.Request.{Request}
use Rattle.fault_queue.specs.declared.queue.RequestState.TheVariants as request
use Rattle.fault_queue.specs.Requests.{RequestsData, request_of, without_request}
use Rattle.fault_queue.proofs.RequestFacts.{request_other}
use Rattle.core_state.specs.declared.rule.HostRule.{HostRule}
use Rattle.core_state.specs.declared.rule.HostRule.TheVariants.{IsStopped, IsFull, IsBusy, IsMoving, IsHeld, Responds, HasFailed, HasNoSpace, Faults, Marks, Runs}
use Rattle.core_state.specs.CoreValue.{CoreData}
use Rattle.core_state.specs.HostEvents.{HostTold, replied, marked, halts, no_memory, RunsIt, HostDoes, HostEvent}
use Rattle.core_state.specs.HostRules.{request_for, host_rule}
use Rattle.core_state.specs.IsCore.{IsCore}
use Rattle.core_state.specs.Pins.{host_at, is_on, asks_for}
use Rattle.core_progress.specs.Progress.{NextCalls, OwnersCall, keeps_waiting, is_kept_waiting, is_reply}
use Rattle.core_progress.specs.WorkLeft.{is_ready_to_write, is_marked}
use Rattle.core_progress.proofs.KeptWaiting.{kept_same}
use Rattle.core_progress.proofs.OneRequest.{OnlyOne, one_made}
use Rattle.core_progress.proofs.RuleSays.{Says, rule_says, none_asked}
use Rattle.core_progress.proofs.RunFalls.{cylinders, marks_now, asked_at, stays_changed}
use Rattle.core_progress.proofs.Told.{run_never_marks}
use Rattle.core_progress.proofs.RunStays.{KeepsFours, Never, same_fours, ready_kept}

pub record Leaves (core : CoreData) (h : ℕ) (told : HostTold) (core' : CoreData) : Type 0 where
  pub others_ : (j : ℕ) → j ≢ h → request_of core'.requests j ≡ request_of core.requests j
  pub fours_ : KeepsFours core.rows core'.rows Never
  pub hosts_ : is_reply told ≡ false → core'.hosts ≡ core.hosts
  pub own_ : is_reply told ≡ false → is_marked core h ≡ true → is_marked core' h ≡ true

module _ (core : CoreData) (h : ℕ) (core' : CoreData) where
  own_stays : core'.requests ≡ core.requests → KeepsFours core.rows core'.rows Never → is_marked core h ≡ true → is_marked core' h ≡ true
  own_stays same rows m =
      ap (λ (q : RequestsData). is_ready_to_write core'.rows (request_of q h)) same
      ∙ ready_kept core.rows core'.rows Never rows (request_of core.requests h) (λ q is ready never. never) m

  -- requests and hosts as they were
  still : (told : HostTold) → core'.requests ≡ core.requests → core'.hosts ≡ core.hosts → KeepsFours core.rows core'.rows Never → Leaves core h told core'
  still told same hosts rows = record {
    others_ = λ j apart. ap (λ (q : RequestsData). request_of q j) same;
    fours_ = rows;
    hosts_ = λ _. hosts;
    own_ = λ _. own_stays same rows;
  }

  at_site : (told : HostTold) → core' ≡ record core { site = core'.site } → Leaves core h told core'
  at_site told is =
      still told (ap (λ (c : CoreData). c.requests) is) (ap (λ (c : CoreData). c.hosts) is) (same_fours core.rows core'.rows (ap (λ (c : CoreData). c.rows) is))

  module _ (kept : IsCore core) where
    -- a reply ends the host's request
    ended : (told : HostTold) → is_reply told ≡ true → core'.requests ≡ without_request h core.requests → core'.rows ≡ core.rows → Leaves core h told core'
    ended told reply same rows = record {
      others_ = λ j apart. ap (λ (q : RequestsData). request_of q j) same ∙ request_other core.requests h j None kept.requests_ apart;
      fours_ = same_fours core.rows core'.rows rows;
      hosts_ = λ other. absurd (both_ways (is_reply told) other reply);
      own_ = λ other. absurd (both_ways (is_reply told) other reply);
    }

    -- a request that there wasn't
    made : (told : HostTold) (r : Request) → OnlyOne core.requests core'.requests h (Some r) → request_of core.requests h ≡ None → core'.hosts ≡ core.hosts → core'.rows ≡ core.rows → Leaves core h told core'
    made told r only none hosts rows = record {
      others_ = only.others;
      fours_ = same_fours core.rows core'.rows rows;
      hosts_ = λ _. hosts;
      own_ = λ _ m. absurd (false≢true (sym (ap (is_ready_to_write core.rows) none) ∙ m));
    }

    replied_told : (told : HostTold) (index : ℕ) (reply : ReplyData) → told ≡ replied index reply → is_reply told ≡ true
    replied_told told index reply is = ap is_reply is

    module _ (tells : Type 0) (call : CallData) where
      runs : (k : CallData) (c : Command) (volume frame : ℕ) (told : HostTold) → RunsIt tells core h k (record { command = c; volume = volume; frame = frame }) told core' → Leaves core h told core'
      runs k c volume frame (replied index equipment_check) does = ended (replied index equipment_check) refl (ap (λ (x : CoreData). x.requests) does.2) (ap (λ (x : CoreData). x.rows) does.2)
      runs (ask code argument chained) c volume frame (replied index reply) does = ended (replied index reply) refl (ap (λ (x : CoreData). x.requests) does.3) (ap (λ (x : CoreData). x.rows) does.3)
      runs (ask code argument chained) c volume frame (halts fault) does =
          still (halts fault) (ap (λ (x : CoreData). x.requests) does.1) (ap (λ (x : CoreData). x.hosts) does.1) (same_fours core.rows core'.rows (ap (λ (x : CoreData). x.rows) does.1))
      runs k c volume frame told does = absurd does

      by_rule : (rule : HostRule) (told : HostTold) → HostDoes tells core h call rule told core' → Says core h call rule → keeps_waiting (is_some (request_for core h call)) rule ≡ false → Leaves core h told core'
      by_rule (IsStopped fault) told does says goes = at_site told does.1.1
      by_rule IsFull told does says goes = at_site told does.1.1
      by_rule rule no_memory does says goes = at_site no_memory does.1
      by_rule (IsBusy owner) told does says goes = absurd (false≢true (sym goes))
      by_rule (IsMoving cylinder) told does says goes = absurd (false≢true (sym goes))
      by_rule (IsHeld frame) told does says goes = absurd (false≢true (sym goes))
      by_rule Responds told does says goes = ended told (ap is_reply does.1) (ap (λ (x : CoreData). x.requests) does.2) (ap (λ (x : CoreData). x.rows) does.2)
      by_rule (HasFailed fault) told does says goes = ended told (ap is_reply does.1) (ap (λ (x : CoreData). x.requests) does.2) (ap (λ (x : CoreData). x.rows) does.2)
      by_rule HasNoSpace told does says goes = ended told (ap is_reply does.1) (ap (λ (x : CoreData). x.requests) does.2) (ap (λ (x : CoreData). x.rows) does.2)
      by_rule (Faults volume cylinder) told does says goes =
          let none = none_asked core h call (cylinders core kept h) says.data_ goes in
          let is = asked_at tells core core' kept h call volume cylinder says goes does.1 in
          made told (record { volume = volume; cylinder = cylinder; state = request.Queued })
          (subst (λ (q : RequestsData). OnlyOne core.requests q h (Some (record { volume = volume; cylinder = cylinder; state = request.Queued }))) (sym (ap (λ (c : CoreData). c.requests) is)) (one_made core kept.requests_ h volume cylinder request.Queued none))
          none (ap (λ (c : CoreData). c.hosts) is) (ap (λ (c : CoreData). c.rows) is)
      by_rule (Marks volume cylinder) marked does says goes =
          let m = marks_now tells core core' kept h call volume cylinder says does in
          record { others_ = m.only.others; fours_ = m.fours; hosts_ = λ _. m.hosts_; own_ = λ _ _. m.now }
      by_rule (Marks volume cylinder) (halts fault) does says goes =
          still (halts fault) (ap (λ (x : CoreData). x.requests) does.1) (ap (λ (x : CoreData). x.hosts) does.1)
          (subst (λ (rows : List (Option RowValue)). KeepsFours core.rows rows Never) (sym (ap (λ (x : CoreData). x.rows) does.1)) (stays_changed core.rows volume cylinder says.staged))
      by_rule (Marks volume cylinder) told does says goes = absurd does
      by_rule (Runs c volume frame) told does says goes = runs call c volume frame told does

      pub host_leaves : (told : HostTold) → HostEvent tells core h call told core' → Leaves core h told core'
      host_leaves told event = elim (cases_Bool (is_kept_waiting core h call)) [
        | inl waits_ ↦ at_site told (kept_same tells core core' h call kept.on_mounted told event waits_).1.1
        | inr goes ↦ by_rule (host_rule core h call) told event (rule_says core h call) goes
      ]

-- any other host's mark stays, and the host's own until it is replied
pub marks_stay : (tells : Type 0) (core core' : CoreData) → IsCore core → (h : ℕ) (call : CallData) (told : HostTold) → HostEvent tells core h call told core'
    → (j : ℕ) → (h ≡ j → is_reply told ≡ false) → is_marked core j ≡ true → is_marked core' j ≡ true
marks_stay tells core core' kept h call told event j unreplied m =
    let leaves = host_leaves core h core' kept tells call told event in
    elim (eqb_tells j h) [
      | inl mine ↦ ap (is_marked core') mine.1 ∙ leaves.own_ (unreplied (sym mine.1)) (ap (is_marked core) (sym mine.1) ∙ m)
      | inr other ↦ ap (is_ready_to_write core'.rows) (leaves.others_ j other.1) ∙ ready_kept core.rows core'.rows Never leaves.fours_ (request_of core.requests j) (λ q is ready never. never) m
    ]

-- who owns a volume after an answer that isn't a reply called, or owned it before
pub owners_call : (tells : Type 0) (core core' : CoreData) → IsCore core → (h : ℕ) (call : CallData) (told : HostTold) → HostEvent tells core h call told core'
    → is_reply told ≡ false → (calls : NextCalls) → calls h ≡ Some call → OwnersCall core calls → OwnersCall core' calls
owners_call tells core core' kept h call told event unreplied calls its owners j volume own =
    let leaves = host_leaves core h core' kept tells call told event in
    elim (eqb_tells j h) [
      | inl mine ↦ (call, ap calls mine.1 ∙ its)
      | inr other ↦ owners j volume (sym (λ i. is_on volume (host_at (leaves.hosts_ unreplied i) j).mounted && ((host_at (leaves.hosts_ unreplied i) j).chain_open || asks_for volume (leaves.others_ j other.1 i))) ∙ own)
    ]

-- a host that is told that its write may go on wasn't told so before, and is then
pub marked_anew : (tells : Type 0) (core core' : CoreData) → IsCore core → (h : ℕ) (call : CallData) → HostEvent tells core h call marked core' → (is_marked core h ≡ false) × (is_marked core' h ≡ true)
marked_anew tells core core' kept h call event = by_rule (host_rule core h call) event (rule_says core h call) where
  by_rule : (rule : HostRule) → HostDoes tells core h call rule marked core' → Says core h call rule → (is_marked core h ≡ false) × (is_marked core' h ≡ true)
  by_rule (Marks volume cylinder) does says = let m = marks_now tells core core' kept h call volume cylinder says does in (m.before, m.now)
  by_rule (Runs c volume frame) does says = absurd (run_never_marks tells core h core' c volume frame call does)
  by_rule (IsStopped fault) does says = absurd (let e = does.0 in cc)
  by_rule IsFull does says = absurd (let e = does.0 in cc)
  by_rule (IsBusy owner) does says = absurd (let e = does.0 in cc)
  by_rule (IsMoving cylinder) does says = absurd (let e = does.0 in cc)
  by_rule (IsHeld frame) does says = absurd (let e = does.0 in cc)
  by_rule Responds does says = absurd (let e = does.1 in cc)
  by_rule (HasFailed fault) does says = absurd (let e = does.1 in cc)
  by_rule HasNoSpace does says = absurd (let e = does.1 in cc)
  by_rule (Faults volume cylinder) does says = absurd (let e = does.0 in cc)

-- What comes of a recorder's event, whatever its rule.
use Rattle.std.proofs.Common.{◌≡◌, ◌≢◌, ◌⊎◌, inl, inr, ℕ, true, false, List, [], ◌∷◌, Option, Some, None, refl, sym, ◌∙◌, ap, subst}
use Rattle.std.specs.Prelude.{slice_set, IsSome}
use Rattle.mss_base.specs.Content.{Content, SiteLog, Adds, Got, Settles, Writes, content, synced, unsynced}
use Rattle.mss_base.specs.Counts.{IsFaultSince, Rises}
use Rattle.mss_base.specs.declared.place.UnitNo.{UnitNo}
use Rattle.mss_base.specs.declared.place.UnitNo.TheVariants.{Staging, Cartridge}
use Rattle.mss_base.proofs.Moments.{started, ended_with, one_write, synced_moments, then_firm, weaker}
use Rattle.mss_base.proofs.Settling.{settles_none, settles_sync}
use Rattle.shown_volumes.specs.Shown.{block_at}
use Rattle.volume_table.specs.Listed.{row_in_list}
use Rattle.volume_table.specs.Row.{RowValue}
use Rattle.volume_table.specs.declared.changes.Change.{Change}
use Rattle.volume_table.specs.declared.changes.Change.TheVariants as change
use Rattle.fault_queue.specs.declared.queue.RequestState.{RequestState}
use Rattle.fault_queue.specs.declared.queue.RequestState.TheVariants as request
use Rattle.fault_queue.specs.Requests.{with_state}
use Rattle.transfers.specs.Copies.{in_frame, in_cartridge, target, target_of, target_unit, source_of, source, copy_of, AddsAtMost, AddsCopy}
use Rattle.transfers.specs.declared.transfer.Transfer.{Transfer}
use Rattle.transfers.specs.declared.transfer.TransferKind.{TransferKind}
use Rattle.transfers.specs.declared.transfer.TransferKind.TheVariants.{StageBlank, StageCartridge, Destage}
use Rattle.victim_choice.specs.declared.choose.Candidate.{Candidate}
use Rattle.core_state.specs.declared.task.Task.{Task}
use Rattle.core_state.specs.declared.rule.WorkKind.{WorkKind}
use Rattle.core_state.specs.declared.rule.WorkKind.TheVariants as kind
use Rattle.core_state.specs.declared.rule.WorkAnswer.{WorkAnswer}
use Rattle.core_state.specs.declared.rule.WorkAnswer.TheVariants.{Did, Idle, Stopped, Memory}
use Rattle.core_state.specs.declared.rule.WorkRule.{WorkRule}
use Rattle.core_state.specs.declared.rule.WorkRule.TheVariants.{IsStopped, IsIdle, GivesBack, Picks, PicksVictim, Abandons, Fetches, Copies, Ends, Frees, Assigns}
use Rattle.core_state.specs.Agrees.{is_early}
use Rattle.core_state.specs.Beginning.{KeepsBeginning}
use Rattle.core_state.specs.CoreValue.{CoreData, DevicesSeen}
use Rattle.core_state.specs.Devices.{StillHold}
use Rattle.core_state.specs.HostEvents.{IsSame}
use Rattle.core_state.specs.Rows.{Rewrites}
use Rattle.core_state.specs.Steps.{with_change, most_recent, with_owner, with_task, with_picked_request, task_ended, given_back, with_fetched_cartridge}
use Rattle.core_state.specs.WorkEvents.{Does, ChangesThen, CopiesIt, EndsIt, TellsEnd, WithTask, WorkDoes}
use Rattle.core_state.specs.WorkRules.{task_of}
use Rattle.core_state.proofs.ChangeLemmas.{handed-push}
use Rattle.work_events.specs.WorkLaws.{LeavesHosts, SameCartridges, AddsTrack, IsOfCopies}

-- ---- what a step leaves

-- no request has failed by it
abbrev Asked : CoreData → CoreData → Type 0
Asked c d =
    (d.requests ≡ c.requests)
    ⊎ ((h : ℕ) × (state : RequestState) × (d.requests ≡ with_state h state c.requests) × ((fault : ℕ) → state ≢ request.Failed fault))

record Keeps (c d : CoreData) : Type 0 where
  beginning : KeepsBeginning c d
  hosts : LeavesHosts c d
  stopped : d.stopped ≡ c.stopped
  asked : Asked c d

abbrev IsStep : (CoreData → CoreData) → Type 0
IsStep after = (c : CoreData) → Keeps c (after c)

kept_all : (c d : CoreData) → KeepsBeginning c d → d.first_write ≡ c.first_write → d.history ≡ c.history → d.marks ≡ c.marks → d.hosts ≡ c.hosts → d.stopped ≡ c.stopped → Asked c d → Keeps c d
kept_all c d beginning began history marks hosts stopped asked = record { beginning = beginning; hosts = record { began = began; history = history; marks = marks; hosts = hosts }; stopped = stopped; asked = asked }

not_moving : (fault : ℕ) → request.Moving ≢ request.Failed fault
not_moving fault is = cc

not_queued : (fault : ℕ) → request.Queued ≢ request.Failed fault
not_queued fault is = cc

not_ready : (fault : ℕ) → request.Ready ≢ request.Failed fault
not_ready fault is = cc

-- ---- cartridges

-- at each moment they hold what they did
abbrev Leaves : SiteLog → SiteLog → Type 0
Leaves old new = Writes (SameCartridges (content old)) old new

leaves_same : (old new : SiteLog) → new ≡ old → Leaves old new
leaves_same old new same = subst (λ (s : SiteLog). Leaves old s) (sym same) (started (SameCartridges (content old)) old (λ cartridge block. refl))

leaves_row : (volume : ℕ) (row : RowValue) (old new : SiteLog) → Rewrites volume row old new → Leaves old new
leaves_row volume row old new writes = weaker _ (SameCartridges (content old)) (λ c changes cartridge block. changes.others (Cartridge cartridge) block refl) old new writes

-- a sync, done or failed
leaves_sync : (unit : UnitNo) (old new : SiteLog) → Got (synced unit ∷ []) old new ⊎ Got (unsynced ∷ []) old new → Leaves old new
leaves_sync unit old new got =
    synced_moments (SameCartridges (content old)) old new unit (elim got [ inl done_ ↦ inl done_ | inr failed ↦ inr (inr failed) ]) (λ cartridge block. refl)

-- one run behind another that is firm
leaves_then : (old mid new : SiteLog) → Settles old mid → Leaves old mid → Leaves mid new → Leaves old new
leaves_then old mid new firm first second =
    let at_mid = ended_with (SameCartridges (content old)) old mid first in
    then_firm (SameCartridges (content old)) old mid new firm first
    (weaker (SameCartridges (content mid)) (SameCartridges (content old)) (λ c same cartridge block. same cartridge block ∙ at_mid cartridge block) mid new second)

-- a write on a staging disk
leaves_frame : (disk block : ℕ) (bytes : List ℕ) (old new : SiteLog) → Adds (copy_of (record { unit = Staging disk; block = block }) bytes) old new → Leaves old new
leaves_frame disk block bytes old new adds =
    one_write (SameCartridges (content old)) old new (copy_of (record { unit = Staging disk; block = block }) bytes) adds (λ cartridge other. refl) (λ left long cartridge other. refl)

leaves_frame_most : (disk block : ℕ) (old new : SiteLog) → AddsAtMost (record { unit = Staging disk; block = block }) old new → Leaves old new
leaves_frame_most disk block old new (inl same) = leaves_same old new same
leaves_frame_most disk block old new (inr adds) = leaves_frame disk block adds.0 old new adds.2

-- a write on a cartridge leaves each block of a staging disk
frame_stays : (cartridge block disk other : ℕ) (bytes : List ℕ) (old new : SiteLog) → Adds (copy_of (record { unit = Cartridge cartridge; block = block }) bytes) old new
    → content new (Staging disk) other ≡ content old (Staging disk) other
frame_stays cartridge block disk other bytes old new adds =
    let Stays : Content → Type 0 = λ c. c (Staging disk) other ≡ content old (Staging disk) other in
    ended_with Stays old new (one_write Stays old new (copy_of (record { unit = Cartridge cartridge; block = block }) bytes) adds refl (λ left long. refl))

-- ---- what comes of an event

-- whose row a rule changes
abbrev pub row_by : WorkRule → Option ℕ
row_by (Ends t) = Some t.volume
row_by (Frees volume page) = Some volume
row_by (Assigns volume page) = Some volume
row_by _ = None

abbrev pub HasRowBy : CoreData → WorkRule → Type 0
HasRowBy core rule = (volume : ℕ) → row_by rule ≡ Some volume → IsSome (row_in_list core.rows volume)

-- a track is destaged, or fails to be
abbrev pub Destages : CoreData → ℕ → WorkRule → CoreData → Type 0
Destages core n rule left =
    (t : Transfer)
    × (rule ≡ Copies t)
    × (t.kind ≡ Destage)
    × (AddsTrack t core.site.told left.site.told
    ⊎ (AddsAtMost (in_cartridge t t.next) core.site.told left.site.told × (left.tasks ≡ slice_set core.tasks n None)))

abbrev pub FailsCopy : CoreData → WorkRule → ℕ → CoreData → Type 0
FailsCopy core rule fault left = IsOfCopies rule × IsFaultSince core.site.faults left.site.faults fault

-- a request got another state, and failed only in a copy or its sync
abbrev pub Restates : CoreData → WorkRule → CoreData → Type 0
Restates core rule left =
    (h : ℕ) × (state : RequestState)
    × (left.requests ≡ with_state h state core.requests)
    × ((fault : ℕ) → state ≡ request.Failed fault → FailsCopy core rule fault left)

abbrev pub Answered : Type 0 → CoreData → WorkRule → WorkAnswer → CoreData → Type 0
Answered tells core rule (Did what) left = left.stopped ≡ core.stopped
Answered tells core rule Idle left = (rule ≡ IsIdle) × IsSame tells core left
Answered tells core rule (Stopped fault) left =
    ((rule ≡ IsStopped fault) × IsSame tells core left)
    ⊎ ((left.stopped ≡ Some fault) × IsFaultSince core.site.faults left.site.faults fault)
Answered tells core rule Memory left = IsSame tells core left

pub record Outcome (tells : Type 0) (core : CoreData) (n : ℕ) (rule : WorkRule) (told : WorkAnswer) (left : CoreData) : Type 0 where
  pub beginning : KeepsBeginning core left
  pub hosts : LeavesHosts core left
  pub cartridges : HasRowBy core rule → tells → Leaves core.site.told left.site.told ⊎ Destages core n rule left
  pub requests : (left.requests ≡ core.requests) ⊎ Restates core rule left
  pub answer : HasRowBy core rule → Answered tells core rule told left

module _ (tells : Type 0) (may : List Candidate → ℕ → Type 0) (core : CoreData) (n : ℕ) (left : CoreData) where
  abbrev Comes : WorkRule → WorkAnswer → Type 0
  Comes rule told = Outcome tells core n rule told left

  left_by : (d : CoreData) → left ≡ d → LeavesHosts core d → LeavesHosts core left
  left_by d path leaves = subst (λ (c : CoreData). LeavesHosts core c) (sym path) leaves

  begun_by : (d : CoreData) → left ≡ d → KeepsBeginning core d → KeepsBeginning core left
  begun_by d path keeps = subst (λ (c : CoreData). KeepsBeginning core c) (sym path) keeps

  still : StillHold tells core.site left.site → tells → Leaves core.site.told left.site.told
  still holds tl = leaves_same core.site.told left.site.told (holds.told tl)

  of_same : (rule : WorkRule) (told : WorkAnswer) → IsSame tells core left → Answered tells core rule told left → Comes rule told
  of_same rule told same answer = record {
    beginning = begun_by _ same.1 (record { config = refl; first_write = refl; first_faults = refl; handed = λ _. refl });
    hosts = left_by _ same.1 (record { began = refl; history = refl; marks = refl; hosts = refl });
    cartridges = λ _ tl. inl (still same.0 tl);
    requests = inl (ap (λ (c : CoreData). c.requests) same.1);
    answer = λ _. answer;
  }

  module _ (rule : WorkRule) (what : WorkKind) (after : CoreData → CoreData) (keeps : IsStep after) where
    abbrev before : CoreData
    before = record core { site = left.site }

    -- from a core that keeps what this step keeps
    asked_by : (c : CoreData) → c.requests ≡ core.requests → left.requests ≡ (after c).requests → (left.requests ≡ core.requests) ⊎ Restates core rule left
    asked_by c from to = by (keeps c).asked
      where
        by : Asked c (after c) → (left.requests ≡ core.requests) ⊎ Restates core rule left
        by (inl same) = inl (to ∙ same ∙ from)
        by (inr it) = inr (it.0, it.1, to ∙ it.2 ∙ ap (with_state it.0 it.1) from, λ fault is. absurd (it.3 fault is))

    of_does : (told : WorkAnswer) → Does tells core what n after told left → Comes rule told
    of_does told does =
        let k = keeps before in
        record {
          beginning = begun_by _ does.2 (record { config = k.beginning.config; first_write = k.beginning.first_write; first_faults = k.beginning.first_faults; handed = k.beginning.handed });
          hosts = left_by _ does.2 (record { began = k.hosts.began; history = k.hosts.history; marks = k.hosts.marks; hosts = k.hosts.hosts });
          cartridges = λ _ tl. inl (still does.0 tl);
          requests = asked_by before refl (ap (λ (c : CoreData). c.requests) does.2);
          answer = λ _. subst (λ (a : WorkAnswer). Answered tells core rule a left) (sym does.1) (ap (λ (c : CoreData). c.stopped) does.2 ∙ k.stopped);
        }

    -- a row is changed behind a sync, or at once
    module _ (from : DevicesSeen) (since : from.faults ≡ core.site.faults) (leads : tells → Settles core.site.told from.told × Leaves core.site.told from.told) (volume : ℕ) (change : Change) (named : row_by rule ≡ Some volume) (late_change : is_early change ≡ false) where
      row_there : HasRowBy core rule → (r : RowValue) × (row_in_list core.rows volume ≡ Some r)
      row_there has = by (row_in_list core.rows volume) (has volume named)
        where
          by : (o : Option RowValue) → IsSome o → (r : RowValue) × (o ≡ Some r)
          by None is = absurd (let e : false ≡ true = is in cc)
          by (Some r) is = (r, refl)

      leaves_changed : {row : RowValue} → Rewrites volume row from.told left.site.told → tells → Leaves core.site.told left.site.told
      leaves_changed {row} writes tl = leaves_then core.site.told from.told left.site.told (leads tl).0 (leads tl).1 (leaves_row volume row from.told left.site.told writes)

      of_changes : (told : WorkAnswer) → ChangesThen tells (record core { site = from }) what n volume change after told left → Comes rule told
      of_changes (Did did) does =
          let c = with_change volume change before in
          let k = keeps (with_change volume change before) in
          record {
            beginning = begun_by _ does.2
                (record { config = k.beginning.config; first_write = k.beginning.first_write; first_faults = k.beginning.first_faults; handed = λ rows. k.beginning.handed rows ∙ handed-push rows core.console _ late_change });
            hosts = left_by _ does.2 (record { began = k.hosts.began; history = k.hosts.history; marks = k.hosts.marks; hosts = k.hosts.hosts });
            cartridges = λ has tl. let row = row_there has in inl (leaves_changed ((does.0 row.0 row.1).write.moments tl) tl);
            requests = asked_by (with_change volume change before) refl (ap (λ (c : CoreData). c.requests) does.2);
            answer = λ _. ap (λ (c : CoreData). c.stopped) does.2 ∙ k.stopped;
          }
      of_changes (Stopped fault) does = record {
        beginning = begun_by _ does.1 (record { config = refl; first_write = refl; first_faults = refl; handed = λ _. refl });
        hosts = left_by _ does.1 (record { began = refl; history = refl; marks = refl; hosts = refl });
        cartridges = λ has tl. let row = row_there has in inl (leaves_changed ((does.0 row.0 row.1).write.moments tl) tl);
        requests = inl (ap (λ (c : CoreData). c.requests) does.1);
        answer = λ has.
            let cause = (does.0 (row_there has).0 (row_there has).1).cause in
            inr (ap (λ (c : CoreData). c.stopped) does.1, record { count = cause.count; rises = subst (λ (k : ℕ). Rises k left.site.faults) since cause.rises });
      }
      of_changes Idle does = absurd does
      of_changes Memory does = absurd does

  the_task : (o : Option Task) (P : Task → Type 0) → WithTask o P → (task : Task) × P task
  the_task None P has = absurd has
  the_task (Some task) P has = (task, has)

  -- ---- a copy

  module _ (t : Transfer) where
    copied_on : (kind : TransferKind) → t.kind ≡ kind → AddsCopy t core.site.told left.site.told → block_at (content left.site.told) (target t t.next) ≡ source t t.next (content core.site.told)
        → Leaves core.site.told left.site.told ⊎ Destages core n (Copies t) left
    copied_on StageBlank is adds copied = inl (leaves_frame _ _ _ core.site.told left.site.told (subst (λ (k : TransferKind). Adds (copy_of (target_of k (in_frame t t.next) (in_cartridge t t.next)) (source t t.next (content core.site.told))) core.site.told left.site.told) is adds))
    copied_on StageCartridge is adds copied = inl (leaves_frame _ _ _ core.site.told left.site.told (subst (λ (k : TransferKind). Adds (copy_of (target_of k (in_frame t t.next) (in_cartridge t t.next)) (source t t.next (content core.site.told))) core.site.told left.site.told) is adds))
    copied_on Destage is adds copied =
        let frame = in_frame t t.next in
        let cartridge = in_cartridge t t.next in
        let held = content core.site.told in
        let added : Adds (copy_of cartridge (block_at held frame)) core.site.told left.site.told =
        subst (λ (k : TransferKind). Adds (copy_of (target_of k frame cartridge) (source_of k (block_at held frame) (block_at held cartridge))) core.site.told left.site.told) is adds in
        let there : block_at (content left.site.told) cartridge ≡ block_at held frame =
        subst (λ (k : TransferKind). block_at (content left.site.told) (target_of k frame cartridge) ≡ source_of k (block_at held frame) (block_at held cartridge)) is copied in
        inr (t, refl, is, inl (record { added = added; equal = there ∙ sym (frame_stays _ _ _ _ _ core.site.told left.site.told added) }))

    left_on : (kind : TransferKind) → t.kind ≡ kind → AddsAtMost (target t t.next) core.site.told left.site.told → left.tasks ≡ slice_set core.tasks n None
        → Leaves core.site.told left.site.told ⊎ Destages core n (Copies t) left
    left_on StageBlank is adds ended = inl (leaves_frame_most _ _ core.site.told left.site.told (subst (λ (k : TransferKind). AddsAtMost (target_of k (in_frame t t.next) (in_cartridge t t.next)) core.site.told left.site.told) is adds))
    left_on StageCartridge is adds ended = inl (leaves_frame_most _ _ core.site.told left.site.told (subst (λ (k : TransferKind). AddsAtMost (target_of k (in_frame t t.next) (in_cartridge t t.next)) core.site.told left.site.told) is adds))
    left_on Destage is adds ended = inr (t, refl, is, inr (subst (λ (k : TransferKind). AddsAtMost (target_of k (in_frame t t.next) (in_cartridge t t.next)) core.site.told left.site.told) is adds, ended))

    the_fault : (fault : ℕ) → request.Failed left.site.faults ≡ request.Failed fault → fault ≡ left.site.faults
    the_fault fault same = cc

    of_copies : (told : WorkAnswer) (task : Task) → told ≡ Did kind.Copy → CopiesIt tells core n task t left → Comes (Copies t) told
    of_copies told task is (inl copied) = record {
      beginning = begun_by _ copied.1 (record { config = refl; first_write = refl; first_faults = refl; handed = λ _. refl });
      hosts = left_by _ copied.1 (record { began = refl; history = refl; marks = refl; hosts = refl });
      cartridges = λ _ tl. copied_on t.kind refl (copied.0.written tl) (copied.0.copied tl);
      requests = inl (ap (λ (c : CoreData). c.requests) copied.1);
      answer = λ _. subst (λ (a : WorkAnswer). Answered tells core (Copies t) a left) (sym is) (ap (λ (c : CoreData). c.stopped) copied.1);
    }
    of_copies told task is (inr failed) = record {
      beginning = begun_by _ failed.1 (record { config = refl; first_write = refl; first_faults = refl; handed = λ _. refl });
      hosts = left_by _ failed.1 (record { began = refl; history = refl; marks = refl; hosts = refl });
      cartridges = λ _ tl. left_on t.kind refl (failed.0.left tl) (ap (λ (c : CoreData). c.tasks) failed.1);
      requests = inr (task.host, request.Failed left.site.faults, ap (λ (c : CoreData). c.requests) failed.1, λ fault same. ((t, inl refl), record { count = the_fault fault same; rises = failed.0.failed }));
      answer = λ _. subst (λ (a : WorkAnswer). Answered tells core (Copies t) a left) (sym is) (ap (λ (c : CoreData). c.stopped) failed.1);
    }

    -- ---- an end

    of_ends : (told : WorkAnswer) (task : Task) → EndsIt tells core n task t told left → Comes (Ends t) told
    of_ends told task (inl (firm, sync, does)) = by t.kind does
      where
        leads : tells → Settles core.site.told firm.told × Leaves core.site.told firm.told
        leads tl = (settles_sync (target_unit t) core.site.told firm.told (sync.told tl), leaves_sync (target_unit t) core.site.told firm.told (inl (sync.told tl)))

        by : (k : TransferKind) → TellsEnd tells (record core { site = firm }) n task k t told left → Comes (Ends t) told
        by Destage done_ =
            of_changes (Ends t) kind.End (with_task n (Some (record task { transfer = None }))) (λ c. kept_all c (with_task n (Some (record task { transfer = None })) c) (record { config = refl; first_write = refl; first_faults = refl; handed = λ _. refl }) refl refl refl refl refl (inl refl))
            firm sync.sound leads t.volume (change.Destaged t.cylinder) refl refl told done_
        by StageBlank done_ =
            of_changes (Ends t) kind.End (task_ended n task request.Ready) (λ c. kept_all c (task_ended n task request.Ready c) (record { config = refl; first_write = refl; first_faults = refl; handed = λ _. refl }) refl refl refl refl refl (inr (task.host, request.Ready, refl, not_ready)))
            firm sync.sound leads t.volume (change.Staged t.cylinder) refl refl told done_
        by StageCartridge done_ =
            of_changes (Ends t) kind.End (task_ended n task request.Ready) (λ c. kept_all c (task_ended n task request.Ready c) (record { config = refl; first_write = refl; first_faults = refl; handed = λ _. refl }) refl refl refl refl refl (inr (task.host, request.Ready, refl, not_ready)))
            firm sync.sound leads t.volume (change.Staged t.cylinder) refl refl told done_
    of_ends told task (inr (loose, is, path)) = record {
      beginning = begun_by _ path (record { config = refl; first_write = refl; first_faults = refl; handed = λ _. refl });
      hosts = left_by _ path (record { began = refl; history = refl; marks = refl; hosts = refl });
      cartridges = λ _ tl. inl (leaves_sync (target_unit t) core.site.told left.site.told (inr (loose.told tl)));
      requests = inr (task.host, request.Failed left.site.faults, ap (λ (c : CoreData). c.requests) path, λ fault same. ((t, inr refl), record { count = the_fault fault same; rises = loose.failed }));
      answer = λ _. subst (λ (a : WorkAnswer). Answered tells core (Ends t) a left) (sym is) (ap (λ (c : CoreData). c.stopped) path);
    }

  -- ---- any rule

  pub outcome : (rule : WorkRule) (told : WorkAnswer) → WorkDoes tells may core n rule told left → Outcome tells core n rule told left
  outcome (IsStopped fault) told does = of_same (IsStopped fault) told does.1 (subst (λ (a : WorkAnswer). Answered tells core (IsStopped fault) a left) (sym does.0) (inl (refl, does.1)))
  outcome rule Memory does = of_same rule Memory does does
  outcome IsIdle told does = of_same IsIdle told does.1 (subst (λ (a : WorkAnswer). Answered tells core IsIdle a left) (sym does.0) (refl, does.1))
  outcome (GivesBack cartridge) told does = of_does (GivesBack cartridge) kind.GiveBack (given_back n cartridge) (λ c. kept_all c (given_back n cartridge c) (record { config = refl; first_write = refl; first_faults = refl; handed = λ _. refl }) refl refl refl refl refl (inl refl)) told does
  outcome (Fetches cartridge) told does = of_does (Fetches cartridge) kind.Fetch (with_fetched_cartridge n cartridge) (λ c. kept_all c (with_fetched_cartridge n cartridge c) (record { config = refl; first_write = refl; first_faults = refl; handed = λ _. refl }) refl refl refl refl refl (inl refl)) told does
  outcome (Picks h frame) told does = of_does (Picks h frame) kind.Pick (with_picked_request n h frame None) (λ c. kept_all c (with_picked_request n h frame None c) (record { config = refl; first_write = refl; first_faults = refl; handed = λ _. refl }) refl refl refl refl refl (inr (h, request.Moving, refl, not_moving))) told does
  outcome (PicksVictim h) told does =
      of_does (PicksVictim h) kind.Pick (with_picked_request n h does.1.frame (Some (does.1.volume, does.1.page)))
      (λ c. kept_all c (with_picked_request n h does.1.frame (Some (does.1.volume, does.1.page)) c) (record { config = refl; first_write = refl; first_faults = refl; handed = λ _. refl }) refl refl refl refl refl (inr (h, request.Moving, refl, not_moving))) told does.4
  outcome Abandons told does =
      let it = the_task (task_of core n) _ does in
      of_does Abandons kind.Abandon (task_ended n it.0 request.Queued) (λ c. kept_all c (task_ended n it.0 request.Queued c) (record { config = refl; first_write = refl; first_faults = refl; handed = λ _. refl }) refl refl refl refl refl (inr (it.0.host, request.Queued, refl, not_queued))) told it.1
  outcome (Copies t) told does = let it = the_task (task_of core n) _ does in of_copies t told it.0 it.1.0 it.1.1
  outcome (Ends t) told does = let it = the_task (task_of core n) _ does in of_ends t told it.0 it.1
  outcome (Frees volume page) told does =
      let it = the_task (task_of core n) _ does in
      of_changes (Frees volume page) kind.Free (λ now. with_task n (Some (record it.0 { victim = None })) (with_owner it.0.frame None now))
      (λ c. kept_all c (with_task n (Some (record it.0 { victim = None })) (with_owner it.0.frame None c)) (record { config = refl; first_write = refl; first_faults = refl; handed = λ _. refl }) refl refl refl refl refl (inl refl)) core.site refl (λ _. (settles_none core.site.told, leaves_same _ _ refl)) volume (change.Free page) refl refl told it.1
  outcome (Assigns volume page) told does =
      let it = the_task (task_of core n) _ does in
      of_changes (Assigns volume page) kind.Assign (λ now. most_recent it.0.frame (with_owner it.0.frame (Some (volume, page)) now))
      (λ c. kept_all c (most_recent it.0.frame (with_owner it.0.frame (Some (volume, page)) c)) (record { config = refl; first_write = refl; first_faults = refl; handed = λ _. refl }) refl refl refl refl refl (inl refl)) core.site refl (λ _. (settles_none core.site.told, leaves_same _ _ refl)) volume (change.Assign page it.0.frame) refl refl told it.1

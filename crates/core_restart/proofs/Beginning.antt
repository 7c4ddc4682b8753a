-- The core with which a session begins is whole, and its counts are right.
use Rattle.std.proofs.Common.{◌≡◌, ℕ, ◌*◌, ◌≤◌, List, [], ◌++◌, length, map, Option, None, refl, sym, ◌∙◌, ap, subst, arith}
use Rattle.mss_base.specs.Configs.{ConfigData}
use Rattle.mss_base.specs.Content.{SiteLog, content}
use Rattle.volume_table.specs.Listed.{AreRows, row_in_list}
use Rattle.shown_volumes.specs.Shown.{RowsOf}
use Rattle.shown_volumes.proofs.QuietFacts.{firm_quiet}
use Rattle.mss_restart.specs.Opening.{OpeningChange, opening_changes, IsOpened, AreHeld}
use Rattle.mss_restart.specs.Creations.{AreTold}
use Rattle.mss_restart.specs.declared.steps.OpeningStep.{OpeningStep}
use Rattle.mss_restart.specs.declared.opening.Opened.{Opened}
use Rattle.mss_restart.proofs.Creating.{AreRising}
use Rattle.mss_restart.proofs.UsableFacts.{AreFew, few_listed}
use Rattle.core_state.specs.CoreValue.{CoreValue, DevicesSeen}
use Rattle.core_state.specs.Agrees.{AllAllowed, rows_after, handed_rows}
use Rattle.core_state.specs.IsCore.{AllDone}
use Rattle.core_state.specs.TheCore.{IsWhole, IsKept}
use Rattle.core_state.specs.SessionData.{SessionData, data_of}
use Rattle.core_state.specs.SessionData as session
use Rattle.core_state.specs.declared.session.Message.{Message}
use Rattle.staging_adapter.specs.Frames.{FramesData}
use Rattle.accessors.specs.Rails.{RailData, rail_start}
use Rattle.std.proofs.lemmas.List.{append-nil, length-replicate}
use Rattle.mss_restart.specs.Answers.{TellsChanges, IsUsable, steps_of}
use Rattle.core_restart.specs.declared.parts.Parts.{Parts}
use Rattle.core_state.proofs.Begun.{begun, whole_begun}
use Rattle.core_state.proofs.CountedFacts.{counted_begun}
use Rattle.core_restart.specs.Owners.{AreOwners}
use Rattle.core_restart.specs.Console.{message_in, steps_in, FreeNone}
use Rattle.core_restart.specs.Opening.{opened_in}
use Rattle.core_restart.specs.Parts.{AreParts, IsFirm, MayBegin}
use Rattle.core_restart.specs.Begins.{Begins}
use Rattle.core_restart.proofs.OwnerFacts.{are_owned}
use Rattle.core_restart.proofs.ConsoleFacts.{HaveNone, AreApart, opening_apart, opening_none, few_changes, as_many, all_done, leads, all_allowed, handed_are, messages_append}

-- a core in which nothing has happened is one of its parts
begins_is : {S C : Type 0} (config : ConfigData) (chooser : C) (writes faults : ℕ) (v : CoreValue S C) → Begins config chooser writes faults v → v ≡ begun v.site chooser config v.store v.rows v.used v.owners v.console writes faults
begins_is config chooser writes faults v is = λ i. record {
  site = v.site;
  chooser = is.chooser_ i;
  config = is.config_ i;
  rows = v.rows;
  used = v.used;
  owners = v.owners;
  moving = is.moving_ i;
  recency = is.recency_ i;
  requests = is.no_requests i;
  tasks = is.no_tasks i;
  recorders = is.empty i;
  store = v.store;
  rail = is.rail_ i;
  hosts = is.fresh i;
  history = is.no_entries i;
  marks = is.no_marks i;
  console = v.console;
  events = is.no_events i;
  first_write = is.first_write_ i;
  first_faults = is.first_faults_ i;
  stopped = is.going i;
}

module _ (tells : Type 0) (told : SiteLog) (writes faults : ℕ) (config : ConfigData) (rising : AreRising config.volumes) where
  -- each configured volume is created once at most, and marked once
  pub few_steps : (opened : Opened) → MayBegin tells told writes config opened → length (steps_of opened) ≤ 2 * length config.volumes
  few_steps opened ready =
      let c = ready.counted in
      let few = few_changes c.before config.volumes in
      let same = as_many (opening_changes c.before config.volumes) (steps_of opened) c.before (row_in_list opened.rows) ready.written writes c.told in
      omega (arith, few, same)

  module _ {S C : Type 0} (chooser : C) (v : CoreValue S C) (is : Begins config chooser writes faults v) (ready : MayBegin tells told writes config (opened_in v)) where
    abbrev before : RowsOf
    before = ready.counted.before

    abbrev changes : List OpeningChange
    changes = opening_changes ready.counted.before config.volumes

    abbrev now : RowsOf
    now = row_in_list v.rows

    told_ : AreTold changes (steps_in v.console) before now ready.written writes
    told_ = subst (λ (xs : List OpeningStep). AreTold changes xs before now ready.written writes) (append-nil (steps_in v.console)) ready.counted.told

    apart : AreApart changes
    apart = opening_apart before config.volumes rising

    none : HaveNone before changes
    none = opening_none before config.volumes

    few : AreFew now
    few = few_listed v.rows ready.rows_.places

    handed : handed_rows now v.console ≡ before
    handed = handed_are changes v.console before now ready.written writes told_ apart none

    allowed : AllAllowed (handed_rows now v.console) v.console
    allowed = subst (λ (r : RowsOf). AllAllowed r v.console) (sym handed) (all_allowed changes v.console before now ready.written writes told_ is.freed_none apart none few)

    leads_now : rows_after (handed_rows now v.console) v.console ≡ now
    leads_now = ap (λ (r : RowsOf). rows_after r v.console) handed ∙ leads changes v.console before now ready.written writes told_

    done : AllDone writes v.console
    done = (all_done changes v.console before now ready.written writes told_).1

    module _ (at_end : tells → writes ≡ length told.log) where
      whole : IsWhole tells told v
      whole =
          subst (IsWhole tells told) (sym (begins_is config chooser writes faults v is))
          (whole_begun S C tells told v.site chooser config v.store is.at_home v.rows v.used v.owners writes faults v.console (are_owned config.frames v.rows ready.rows_ v.owners is.owners_) at_end
          (λ tl. (ready.opened_ tl).shows.sound) (λ tl. sym (ready.opened_ tl).rows_are)
          (λ tl. subst (λ (r : RowsOf). AreHeld r (content told)) (sym (ready.opened_ tl).rows_are) (ready.opened_ tl).held)
          ready.used_ (λ tl. (ready.opened_ tl).slots_) (λ tl. firm_quiet told (ready.firm tl))
          (λ tl. subst (λ (n : ℕ). AllDone n v.console) (at_end tl) done) (λ tl. allowed) (λ tl. leads_now))

      pub kept_begun : IsKept tells told writes faults v
      kept_begun = record {
        whole = whole;
        counted = counted_begun writes faults v.requests (data_of v) is.no_entries is.no_marks is.no_requests is.going is.first_write_ is.first_faults_ done;
      }

-- ---- its parts

-- a core of its parts, and of a session
abbrev pub core_of : {S C : Type 0} → S → C → Parts → Opened → FramesData → RailData → SessionData → CoreValue S C
core_of site chooser parts opened frames rail d = record {
  site = site;
  chooser = chooser;
  config = parts.config;
  rows = opened.rows;
  used = opened.used.items;
  owners = frames.owners;
  moving = frames.moving;
  recency = parts.recency;
  requests = parts.requests;
  tasks = parts.tasks.items;
  recorders = parts.recorders.items;
  store = parts.store;
  rail = rail;
  hosts = parts.hosts.items;
  history = d.history;
  marks = d.marks;
  console = d.console;
  events = d.events;
  first_write = d.first_write;
  first_faults = d.first_faults;
  stopped = d.stopped;
}

module _ {S C : Type 0} (site : S) (chooser kept : C) (parts : Parts) (opened : Opened) (frames : FramesData) (rail : RailData) (d : SessionData) (console : List Message) (writes faults : ℕ)
    (are : AreParts parts.config parts) (kept_is : kept ≡ chooser) (places : length opened.used.items ≡ 32) (owners : AreOwners (length parts.frames.owners) (row_in_list opened.rows) frames.owners) (moving : frames.moving ≡ parts.frames.moving) (rail_is : rail ≡ rail_start)
    (frees : FreeNone console) (is : d ≡ session.new_session console writes faults) where
  pub begins_of : Begins parts.config chooser writes faults (core_of site kept parts opened frames rail d)
  begins_of = record {
    config_ = refl;
    chooser_ = kept_is;
    used_ = places;
    owners_ =
        let count : length parts.frames.owners ≡ parts.config.frames = ap (λ (f : FramesData). length f.owners) are.frames_ ∙ length-replicate {A = Option (ℕ × ℕ)} parts.config.frames None in
        subst (λ (n : ℕ). AreOwners n (row_in_list opened.rows) frames.owners) count owners;
    moving_ = moving ∙ ap (λ (f : FramesData). f.moving) are.frames_;
    recency_ = are.recency_;
    no_requests = are.requests_;
    no_tasks = are.tasks_;
    empty = are.recorders_;
    at_home = are.at_home;
    rail_ = rail_is;
    fresh = are.hosts_;
    no_entries = ap (λ (x : SessionData). x.history) is;
    no_marks = ap (λ (x : SessionData). x.marks) is;
    freed_none = subst FreeNone (sym (ap (λ (x : SessionData). x.console) is)) frees;
    no_events = ap (λ (x : SessionData). x.events) is;
    first_write_ = ap (λ (x : SessionData). x.first_write) is;
    first_faults_ = ap (λ (x : SessionData). x.first_faults) is;
    going = ap (λ (x : SessionData). x.stopped) is;
  }

  pub kept_of : (tells : Type 0) (told : SiteLog) → AreRising parts.config.volumes → steps_in console ≡ steps_of opened → MayBegin tells told writes parts.config opened → (tells → writes ≡ length told.log)
      → IsKept tells told writes faults (core_of site kept parts opened frames rail d)
  kept_of tells told rising made_is ready at_end =
      let same : steps_in d.console ++ [] ≡ steps_of opened = append-nil (steps_in d.console) ∙ ap (λ (x : SessionData). steps_in x.console) is ∙ made_is in
      kept_begun tells told writes faults parts.config rising chooser (core_of site kept parts opened frames rail d) begins_of (record {
        rows_ = ready.rows_;
        used_ = ready.used_;
        written = ready.written;
        counted = subst (λ (ms : List OpeningStep). TellsChanges parts.config ready.written writes (row_in_list opened.rows) ms) (sym same) ready.counted;
        from = ready.from;
        opened_ = ready.opened_;
        firm = ready.firm;
      }) at_end

-- an opening that was answered is one to begin from
pub may_begin : (tells : Type 0) (config : ConfigData) (old new : DevicesSeen) (opened : Opened) → length opened.rows ≡ 32 → AreRows opened.rows → IsUsable config opened
    → TellsChanges config old.writes new.writes (row_in_list opened.rows) (steps_of opened) → (tells → IsOpened config (content old.told) (content new.told) opened.rows opened.used.items) → (tells → IsFirm new.told)
    → MayBegin tells new.told new.writes config opened
may_begin tells config old new opened places are_rows usable counted is firm = record {
  rows_ = record { places = places; are_rows = are_rows; below = usable.rows_.usable.frames_below; once = usable.rows_.usable.frames_once };
  used_ = usable.used_;
  written = old.writes;
  counted = counted;
  from = content old.told;
  opened_ = is;
  firm = firm;
}

-- what the console tells of an opening, told in two parts
pub console_of : (opened : Opened) (start then last : List Message) (a b : List OpeningStep) → start ≡ [] → then ≡ start ++ map message_in a → last ≡ then ++ map message_in b → a ≡ opened.creations.items → b ≡ opened.marks.items
    → last ≡ map message_in (steps_of opened)
console_of opened start then last a b none first second a_is b_is =
    second ∙ ap (λ (ms : List Message). ms ++ map message_in b) (first ∙ ap (λ (ms : List Message). ms ++ map message_in a) none)
    ∙ messages_append a b ∙ (λ i. map message_in (a_is i ++ b_is i))

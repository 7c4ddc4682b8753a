-- What a stop leaves has no fault, and which volumes come of it.
use Rattle.std.proofs.Common.{◌≡◌, inl, inr, ℕ, ◌+◌, ◌<◌, ◌==◌, Bool, true, false, not, cond, List, [], ◌∷◌, ◌++◌, length, take, Option, Some, None, Result, Ok, Err, refl, sym, ◌∙◌, ap, subst, arith}
use Rattle.std.specs.Prelude.{◌↔◌, is_some, slice_get}
use Rattle.std.specs.Option.{option_map}
use Rattle.std.specs.List.{AllByRecursion}
use Rattle.std.proofs.lemmas.Bool.{cases_Bool, cond_both, cond-true, cond-false, eq-eqb, eqb-true, ne_eqb}
use Rattle.std.proofs.lemmas.List.{take_all}
use Rattle.mss_base.specs.Configs.{ConfigData, VolumeData, serial_in, marked_in}
use Rattle.mss_base.specs.Content.{Content, SiteLog, Item, Writes, content, after as written_after}
use Rattle.mss_base.specs.declared.site.Site.{Ghosts}
use Rattle.ckd_track.specs.Data.{Volumes}
use Rattle.channel_commands.specs.Data.{CallData, ReplyData, mounted, equipment_check, no_space, stopped}
use Rattle.ckd_plain.specs.Data.{State}
use Rattle.ckd_plain.specs.Plain.{plain, start_of}
use Rattle.ckd_plain.specs.History.{EntryData, left_by as state_left, state_after, after}
use Rattle.ckd_plain.specs.Near.{IsNear, unchanged, completed, data_overwritten, key_data_overwritten, ended_before}
use Rattle.volume_table.specs.Row.{RowValue, blank_row}
use Rattle.table_pair.specs.declared.copy.SlotsUsed.{SlotsUsed}
use Rattle.shown_volumes.specs.declared.refused.Refused.{Refused}
use Rattle.shown_volumes.specs.Shown.{RowsOf, rows_of, is_marked, volumes_shown}
use Rattle.shown_volumes.specs.Sound.{IsSound, HasSerialsAsked}
use Rattle.volume_table.specs.Changes.{with_mark}
use Rattle.shown_volumes.specs.Changing.{with_row}
use Rattle.shown_volumes.specs.Faults.{first_fault}
use Rattle.mss_restart.specs.declared.opening.Opened.{Opened}
use Rattle.mss_restart.specs.Opening.{OpeningChange, made, marked, volume_of, opened_by, opened_all, to_make, to_mark, is_marked_as, opening_changes, ShowsFront, IsOpened}
use Rattle.mss_restart.proofs.Creating.{AreRising, rising_first, to_make_past, to_mark_past}
use Rattle.mss_restart.proofs.OpenedRows.{serial_above, to_mark_same}
use Rattle.mss_restart.proofs.UsableFacts.{AreAsked, asked_opening}
use Rattle.core_state.specs.CoreValue.{CoreValue, DevicesSeen, seen_site}
use Rattle.core_state.specs.StopRule.{MayShow, answered_count, opening, state_at}
use Rattle.core_state.specs.IsCore.{IsTold, opening_of}
use Rattle.core_state.proofs.EntryLemmas.{opening_same}
use Rattle.core_restart.specs.Begins.{Begins}
use Rattle.core_restart.specs.TakingUp.{Answer, AreThere, IsFaultless, shown_for, IsTakenUp, BeginsWith, TakesUp, RestartsOver, Stop, left_by, IsSession, IsLater, LeavesAll, OpensFaultless, LeavesFront}
use Rattle.core_restart.proofs.Stopping.{leaves, same, synced}

-- ---- the serials and the marks of volumes stay

abbrev pub KeepsLabels : State → Volumes → Type 0
KeepsLabels s volumes = (volumes.serial ≡ s.volumes.serial) × (volumes.read_only ≡ s.volumes.read_only)

abbrev pub PlainKeeps : Type 0
PlainKeeps = (s : State) (h : ℕ) (call : CallData) → KeepsLabels s (plain s h call).1.volumes

pub both_keep : ((s : State) (h : ℕ) (call : CallData) → (plain s h call).1.volumes.serial ≡ s.volumes.serial) → ((s : State) (e : EntryData) → (state_after s e).volumes.read_only ≡ s.volumes.read_only) → PlainKeeps
unfolding state_after
both_keep serials marks s h call = (serials s h call, marks s (record { host = h; number = 0; call = call; reply = mounted; fault = None }))

same_labels : (s : State) (volumes : Volumes) → volumes ≡ s.volumes → KeepsLabels s volumes
same_labels s volumes is = (ap (λ (v : Volumes). v.serial) is, ap (λ (v : Volumes). v.read_only) is)

then_labels : (s t : State) (volumes : Volumes) → KeepsLabels s t.volumes → KeepsLabels t volumes → KeepsLabels s volumes
then_labels s t volumes first second = (second.0 ∙ first.0, second.1 ∙ first.1)

module _ (plain_keeps : PlainKeeps) where
  reply_keeps : (r : ReplyData) (s : State) (h : ℕ) (call : CallData) → KeepsLabels s (state_left r s h call).volumes
  reply_keeps equipment_check s h call = (refl, refl)
  reply_keeps no_space s h call = (refl, refl)
  reply_keeps stopped s h call = (refl, refl)
  reply_keeps _ s h call = plain_keeps s h call

  entry_keeps : (s : State) (e : EntryData) → KeepsLabels s (state_after s e).volumes
  unfolding state_after
  entry_keeps s e = reply_keeps e.reply s e.host e.call

  history_keeps : (s : State) (es : List EntryData) → KeepsLabels s (after s es).volumes
  history_keeps s [] = (refl, refl)
  history_keeps s (e ∷ es) = then_labels s (state_after s e) (after (state_after s e) es).volumes (entry_keeps s e) (history_keeps (state_after s e) es)

  near_keeps : (s : State) (h : ℕ) (call : CallData) (volumes : Volumes) → IsNear s h call volumes → KeepsLabels s volumes
  near_keeps s h call volumes (unchanged is) = same_labels s volumes is
  near_keeps s h call volumes (completed is) = then_labels s (plain s h call).1 volumes (plain_keeps s h call) (same_labels (plain s h call).1 volumes is)
  near_keeps s h call volumes (data_overwritten does under) = (ap (λ (v : Volumes). v.serial) under.5, ap (λ (v : Volumes). v.read_only) under.5)
  near_keeps s h call volumes (key_data_overwritten does under) = (ap (λ (v : Volumes). v.serial) under.5, ap (λ (v : Volumes). v.read_only) under.5)
  near_keeps s h call volumes (ended_before does under) = (ap (λ (v : Volumes). v.serial) under.5, ap (λ (v : Volumes). v.read_only) under.5)

  may_show_keeps : (s : State) (o : Option EntryData) (volumes : Volumes) → MayShow s o volumes → KeepsLabels s volumes
  may_show_keeps s None volumes is = same_labels s volumes is
  may_show_keeps s (Some e) volumes is = near_keeps s e.host e.call volumes is

-- ---- rows and the volumes that they show

row_with : (o : Option RowValue) (kept : List ℕ) → option_map (λ (r : RowValue). r.serial) o ≡ Some kept → is_some o ≡ true
row_with None kept is = absurd cc
row_with (Some r) kept is = refl

-- volumes that are there have the serials that are asked
pub serials_there : (vs : List VolumeData) (c : Content) → AreThere vs (volumes_shown c) → HasSerialsAsked (serial_in vs) (rows_of c)
serials_there vs c there v r at serial asked =
    let is : Some r.serial ≡ Some serial = sym (ap (λ (o : Option RowValue). option_map (λ (q : RowValue). q.serial) o) at) ∙ (there v serial asked).serial_ in
    cc

-- volumes with their rows and their marks need no change
abbrev HaveTheirs : List VolumeData → RowsOf → Type 0
HaveTheirs vs rows = AllByRecursion (λ v. (is_some (rows v.0) ≡ true) × (is_marked (rows v.0) ≡ v.2)) vs

asked_marked : (asked : Bool) (o : Option RowValue) → is_marked o ≡ asked → is_marked_as asked o ≡ true
asked_marked true o is = is
asked_marked false o is = ap not is

none_to_make : (vs : List VolumeData) (rows : RowsOf) → HaveTheirs vs rows → to_make rows vs ≡ []
none_to_make [] rows theirs = refl
none_to_make (w ∷ vs) rows theirs = cond-true _ _ _ theirs.0.0 ∙ none_to_make vs rows theirs.1

none_to_mark : (vs : List VolumeData) (rows : RowsOf) → HaveTheirs vs rows → to_mark rows vs ≡ []
none_to_mark [] rows theirs = refl
none_to_mark (w ∷ vs) rows theirs = cond-true _ _ _ (asked_marked w.2 (rows w.0) theirs.0.1) ∙ none_to_mark vs rows theirs.1

have_theirs : (vs : List VolumeData) (rows : RowsOf) → AreRising vs → ((v : ℕ) (serial : List ℕ) → serial_in vs v ≡ Some serial → (is_some (rows v) ≡ true) × (is_marked (rows v) ≡ marked_in vs v)) → HaveTheirs vs rows
have_theirs [] rows rising there = tt
have_theirs (w ∷ vs) rows rising there =
    let first = rising_first w vs rising in
    let here = there w.0 w.1 (cond-true _ _ _ (eq-eqb w.0 w.0 refl)) in (
      (here.0, here.1 ∙ cond-true _ _ _ (eq-eqb w.0 w.0 refl)),
      have_theirs vs rows first.1 (λ v serial is.
          let off : (v == w.0) ≡ false = ne_eqb v w.0 (λ (e : v ≡ w.0). (let past = serial_above w.0 vs first.0 v serial is in omega (arith, past, e))) in
          let one = there v serial (cond-false _ _ _ off ∙ is) in
          (one.0, one.1 ∙ cond-false _ _ _ off)),
    )

pub none_changed_there : (vs : List VolumeData) (c : Content) → AreRising vs → AreThere vs (volumes_shown c) → opening_changes (rows_of c) vs ≡ []
none_changed_there vs c rising there =
    let theirs = have_theirs vs (rows_of c) rising (λ v serial is. let one = there v serial is in (row_with (rows_of c v) serial one.serial_, one.mark_)) in
    (λ i. none_to_make vs (rows_of c) theirs i ++ none_to_mark vs (rows_of c) theirs i)

-- ---- a core that began

module _ {S C : Type 0} (config : ConfigData) (old new : DevicesSeen)
    (chooser : C) (core : CoreValue S C) (rows : List (Option RowValue)) (used : List SlotsUsed) (opened : IsOpened config (content old.told) (content new.told) rows used)
    (is : Begins config chooser new.writes new.faults core) (rises : AreRising config.volumes) (at_end : new.writes ≡ length new.told.log) where
  all_written : written_after new.told.start (take core.first_write new.told.log) ≡ content new.told
  all_written =
      ap (λ (n : ℕ). written_after new.told.start (take n new.told.log)) (is.first_write_ ∙ at_end)
      ∙ ap (λ (xs : List Item). written_after new.told.start xs) (take_all (length new.told.log) new.told.log (omega arith))

  begins_with : BeginsWith config (shown_for config (content old.told)) new.told core
  begins_with = record {
    opening_ = ap (λ (c : Content). start_of (volumes_shown c)) all_written ∙ ap (λ (v : Volumes). start_of v) opened.shows.same;
    shows = opened.shows;
    there = λ v serial asked.
        let has = opened.asked v serial asked in
        record {
          serial_ = ap (λ (x : Volumes). x.serial v) (sym opened.shows.same) ∙ ap (λ (o : Option RowValue). option_map (λ (r : RowValue). r.serial) o) has.there ∙ ap (λ (k : List ℕ). Some k) has.same;
          mark_ = ap (λ (x : Volumes). x.read_only v) (sym opened.shows.same) ∙ opened.marks v serial asked;
        };
    rising = rises;
    no_entries = is.no_entries;
  }

  pub core_taken : TakesUp config old new (Ok core)
  core_taken = record { faultless = λ none quiet. tt; begins = begins_with }

-- a core that began on a site
pub begun_taken : {S C : Type 0} (g : Ghosts S) (config asked : ConfigData) (chooser : C) (old : DevicesSeen) (site : S) (core : CoreValue S C) (rows : List (Option RowValue)) (used : List SlotsUsed) → core.site ≡ site → asked ≡ config
    → Begins asked chooser (g.writes site) (g.faults site) core → AreRising config.volumes → IsOpened config (content old.told) (content (g.told site)) rows used → g.writes site ≡ length (g.told site).log → TakesUp config old (seen_site g core.site) (Ok core)
begun_taken g config asked chooser old site core rows used site_is asked_is is rises opened at_end =
    subst (λ s. TakesUp config old (seen_site g s) (Ok core)) (sym site_is)
    (core_taken config old (seen_site g site) chooser core rows used opened (subst (λ (x : ConfigData). Begins x chooser (g.writes site) (g.faults site) core) asked_is is) rises at_end)

-- a restart that isn't disturbed
pub taken_up : {S C : Type 0} (config : ConfigData) (c : Content) (volumes : Volumes) → IsFaultless config c → shown_for config c ≡ volumes → (old new : DevicesSeen) (answer : Answer S C) → RestartsOver config c old new answer → IsTakenUp config volumes new.told answer
taken_up config c volumes none same old new (Ok core) over = subst (λ (v : Volumes). BeginsWith config v new.told core) (ap (shown_for config) over.from ∙ same) over.takes_up.begins
taken_up config c volumes none same old new (Err refused) over = over.takes_up.faultless (subst (IsFaultless config) (sym over.from) none) over.none_failed

-- a content has no fault exactly where it is sound and has the serials that are asked
abbrev pub Decides : Type 0
Decides = (frames : ℕ) (asked : ℕ → Option (List ℕ)) (c : Content) → (first_fault frames asked c ≡ None) ↔ (IsSound frames c × HasSerialsAsked asked (rows_of c))

-- ---- a stop within a session

module _ (plain_keeps : PlainKeeps) (decides : Decides) {S C : Type 0} (site : SiteLog) (core : CoreValue S C) (session : IsSession site core) (stop : Stop core.first_write site) where
  labels : KeepsLabels (opening_of site core) (volumes_shown (left_by stop))
  labels =
      let s0 = opening_of site core in
      let n = answered_count stop.moment core.history core.marks in
      let at = state_at s0 core.history core.marks stop.moment in
      then_labels s0 at (volumes_shown (left_by stop)) (history_keeps plain_keeps s0 (take n core.history))
      (may_show_keeps plain_keeps at (slice_get core.history n) (volumes_shown (left_by stop)) (session.told.stops.shows stop.moment stop.since stop.until stop.tear))

  all_there : AreThere core.config.volumes (volumes_shown (left_by stop))
  all_there v serial asked =
      let there = session.there v serial asked in
      record { serial_ = ap (λ (f : ℕ → Option (List ℕ)). f v) labels.0 ∙ there.serial_; mark_ = ap (λ (f : ℕ → Bool). f v) labels.1 ∙ there.mark_ }

  pub leaves_all : LeavesAll core.config (left_by stop)
  leaves_all = record {
    faultless = (decides core.config.frames (serial_in core.config.volumes) (left_by stop)).1
        (session.told.stops.sound stop.moment stop.since stop.until stop.tear, serials_there core.config.volumes (left_by stop) all_there);
    all_there = all_there;
    none_changed = none_changed_there core.config.volumes (left_by stop) session.rising all_there;
  }

  pub session_taken : (old new : DevicesSeen) (answer : Answer S C) → RestartsOver core.config (left_by stop) old new answer → IsTakenUp core.config (volumes_shown (left_by stop)) new.told answer
  session_taken old new answer over =
      taken_up core.config (left_by stop) (volumes_shown (left_by stop)) leaves_all.faultless (ap (λ (cs : List OpeningChange). opened_all cs (volumes_shown (left_by stop))) leaves_all.none_changed) old new answer over

-- a core that begins is of a session, and so it is later on
pub session_begun : {S C : Type 0} (config : ConfigData) (volumes : Volumes) (site : SiteLog) (core : CoreValue S C) → BeginsWith config volumes site core → core.config ≡ config → IsTold site core → IsSession site core
session_begun config volumes site core is config_is told = record {
  told = told;
  there = λ v serial asked.
      let one = is.there v serial (ap (λ (k : ConfigData). serial_in k.volumes v) (sym config_is) ∙ asked) in
      record {
        serial_ = ap (λ (x : State). x.volumes.serial v) is.opening_ ∙ one.serial_;
        mark_ = ap (λ (x : State). x.volumes.read_only v) is.opening_ ∙ one.mark_ ∙ ap (λ (k : ConfigData). marked_in k.volumes v) (sym config_is);
      };
  rising = subst (λ (k : ConfigData). AreRising k.volumes) (sym config_is) is.rising;
}

pub session_later : {S C : Type 0} (old new : SiteLog) (core left : CoreValue S C) → IsSession old core → IsLater old core new left → IsTold new left → IsSession new left
session_later old new core left session later told =
    let same : opening_of new left ≡ opening_of old core =
    ap (λ (n : ℕ). opening n new) later.first_write_ ∙ opening_same core.first_write old new later.items later.grown session.told.began in
    record {
      told = told;
      there = λ v serial asked.
          let one = session.there v serial (ap (λ (k : ConfigData). serial_in k.volumes v) (sym later.config_) ∙ asked) in
          record {
            serial_ = ap (λ (x : State). x.volumes.serial v) same ∙ one.serial_;
            mark_ = ap (λ (x : State). x.volumes.read_only v) same ∙ one.mark_ ∙ ap (λ (k : ConfigData). marked_in k.volumes v) (sym later.config_);
          };
      rising = subst (λ (k : ConfigData). AreRising k.volumes) (sym later.config_) session.rising;
    }

-- ---- volumes with a front of the further ones

abbrev Fit : (ℕ → Option (List ℕ)) → Volumes → Type 0
Fit asked volumes = (v : ℕ) (kept serial : List ℕ) → volumes.serial v ≡ Some kept → asked v ≡ Some serial → kept ≡ serial

fit_row : (asked : ℕ → Option (List ℕ)) (rows : RowsOf) → HasSerialsAsked asked rows → (v : ℕ) (kept serial : List ℕ) (o : Option RowValue) → rows v ≡ o → option_map (λ (r : RowValue). r.serial) o ≡ Some kept → asked v ≡ Some serial → kept ≡ serial
fit_row asked rows has v kept serial None there at is = absurd cc
fit_row asked rows has v kept serial (Some r) there at is = let e : r.serial ≡ kept = cc in sym e ∙ has v r there serial is

rows_fit : (asked : ℕ → Option (List ℕ)) (c : Content) → Fit asked (volumes_shown c) → HasSerialsAsked asked (rows_of c)
rows_fit asked c fit v r at serial is = fit v r.serial serial (ap (λ (o : Option RowValue). option_map (λ (q : RowValue). q.serial) o) at) is

fit_changes : (asked : ℕ → Option (List ℕ)) (changes : List OpeningChange) (volumes : Volumes) → AreAsked asked changes → Fit asked volumes → Fit asked (opened_all changes volumes)
fit_changes asked [] volumes each fit = fit
fit_changes asked (made w name ∷ changes) volumes each fit = fit_changes asked changes (opened_by (made w name) volumes) each.1 (λ v kept serial at is. elim (cases_Bool (v == w)) [
  | inl same ↦
      let e : Some name ≡ Some kept = sym (cond-true _ _ _ same) ∙ at in
      let k : name ≡ kept = cc in
      sym k ∙ each.0.1 serial (ap asked (sym (eqb-true v w same)) ∙ is)
  | inr other ↦ fit v kept serial (sym (cond-false _ _ _ other) ∙ at) is
])
fit_changes asked (marked w on ∷ changes) volumes each fit = fit_changes asked changes (opened_by (marked w on) volumes) each fit

asked_front : (asked : ℕ → Option (List ℕ)) (xs ys : List OpeningChange) → AreAsked asked (xs ++ ys) → AreAsked asked xs
asked_front asked [] ys each = tt
asked_front asked (made w name ∷ xs) ys each = (each.0, asked_front asked xs ys each.1)
asked_front asked (marked w on ∷ xs) ys each = asked_front asked xs ys each

opened_append : (xs ys : List OpeningChange) (volumes : Volumes) → opened_all (xs ++ ys) volumes ≡ opened_all ys (opened_all xs volumes)
opened_append [] ys volumes = refl
opened_append (x ∷ xs) ys volumes = opened_append xs ys (opened_by x volumes)

-- ---- the changes that are left, seen in rows

changes_same : (vs : List VolumeData) (a b : RowsOf) → ((v : ℕ) → is_some (a v) ≡ is_some (b v)) → ((v : ℕ) → is_marked (a v) ≡ is_marked (b v)) → opening_changes a vs ≡ opening_changes b vs
changes_same vs a b there marks = (λ i. made_same vs i ++ to_mark_same a b vs marks i)
  where
    made_same : (us : List VolumeData) → to_make a us ≡ to_make b us
    made_same [] = refl
    made_same (w ∷ us) = let rest = made_same us in (λ i. cond (there w.0 i) (rest i) (made w.0 w.1 ∷ rest i))

-- a row with this mark
abbrev row_with_mark : List ℕ → Bool → RowValue
row_with_mark serial on = with_mark on (blank_row serial 0 0)

-- rows that tell which volumes are there, and which are read-only
abbrev rows_for : Volumes → RowsOf
rows_for volumes v = option_map (λ (serial : List ℕ). row_with_mark serial (volumes.read_only v)) (volumes.serial v)

some_for : (o : Option RowValue) (on : Bool) → is_some o ≡ is_some (option_map (λ (serial : List ℕ). row_with_mark serial on) (option_map (λ (r : RowValue). r.serial) o))
some_for None on = refl
some_for (Some r) on = refl

mark_for_row : (o : Option RowValue) → is_marked o ≡ is_marked (option_map (λ (serial : List ℕ). row_with_mark serial (is_marked o)) (option_map (λ (r : RowValue). r.serial) o))
mark_for_row None = refl
mark_for_row (Some r) = refl

changes_for : (vs : List VolumeData) (c : Content) → opening_changes (rows_of c) vs ≡ opening_changes (rows_for (volumes_shown c)) vs
changes_for vs c = changes_same vs (rows_of c) (rows_for (volumes_shown c)) (λ v. some_for (rows_of c v) (is_marked (rows_of c v))) (λ v. mark_for_row (rows_of c v))

-- the row that a change leaves, as far as it matters here
abbrev HasItsMark : OpeningChange → RowValue → Type 0
HasItsMark (made w name) row = row.read_only ≡ false
HasItsMark (marked w on) row = row.read_only ≡ on

first_of : (x y : OpeningChange) (xs ys : List OpeningChange) → x ∷ xs ≡ y ∷ ys → (x ≡ y) × (xs ≡ ys)
first_of x y xs ys is = (cc, cc)

no_first : (P : Type 0) (x : OpeningChange) (xs : List OpeningChange) → [] ≡ x ∷ xs → P
no_first P x xs is = absurd cc

-- the first volume to be made is none of those that are there
made_first : (vs : List VolumeData) (rows : RowsOf) (x : OpeningChange) (rest : List OpeningChange) → AreRising vs → to_make rows vs ≡ x ∷ rest → (row : RowValue) → HasItsMark x row
    → (to_make (with_row (volume_of x) row rows) vs ≡ rest) × (is_some (rows (volume_of x)) ≡ false) × (row.read_only ≡ false)
made_first [] rows x rest rising is row mark = no_first _ x rest is
made_first (v ∷ vs) rows x rest rising is row mark =
    let above = rising_first v vs rising in
    elim (cases_Bool (is_some (rows v.0))) [
      | inl has ↦
          let later = made_first vs rows x rest above.1 (sym (cond-true _ _ _ has) ∙ is) row mark in
          let kept : is_some (with_row (volume_of x) row rows v.0) ≡ true = cond_both (v.0 == volume_of x) (Some row) (rows v.0) (λ (o : Option RowValue). is_some o ≡ true) (λ _. refl) (λ _. has) in
          (cond-true _ _ _ kept ∙ later.0, later.1, later.2)
      | inr none ↦
          let parts = first_of (made v.0 v.1) x (to_make rows vs) rest (sym (cond-false _ _ _ none) ∙ is) in
          let here : is_some (with_row v.0 row rows v.0) ≡ true = ap (λ (o : Option RowValue). is_some o) (cond-true _ _ _ (eq-eqb v.0 v.0 refl)) in
          let done : to_make (with_row v.0 row rows) (v ∷ vs) ≡ rest = cond-true _ _ _ here ∙ to_make_past v.0 row rows vs above.0 ∙ parts.1 in (
            subst (λ (y : OpeningChange). to_make (with_row (volume_of y) row rows) (v ∷ vs) ≡ rest) parts.0 done,
            subst (λ (y : OpeningChange). is_some (rows (volume_of y)) ≡ false) parts.0 none,
            subst (λ (y : OpeningChange). HasItsMark y row) (sym parts.0) mark,
          )
    ]

-- where none is to be made
still_none : (vs : List VolumeData) (rows : RowsOf) (n : ℕ) (row : RowValue) → to_make rows vs ≡ [] → to_make (with_row n row rows) vs ≡ []
still_none [] rows n row is = refl
still_none (v ∷ vs) rows n row is = elim (cases_Bool (is_some (rows v.0))) [
  | inl has ↦
      let kept : is_some (with_row n row rows v.0) ≡ true = cond_both (v.0 == n) (Some row) (rows v.0) (λ (o : Option RowValue). is_some o ≡ true) (λ _. refl) (λ _. has) in
      cond-true _ _ _ kept ∙ still_none vs rows n row (sym (cond-true _ _ _ has) ∙ is)
  | inr none ↦ no_first _ (made v.0 v.1) (to_make rows vs) (sym is ∙ cond-false _ _ _ none)
]

mark_above : (n : ℕ) (vs : List VolumeData) (rows : RowsOf) (x : OpeningChange) (rest : List OpeningChange) → AllByRecursion (λ w. n < w.0) vs → to_mark rows vs ≡ x ∷ rest → n < volume_of x
mark_above n [] rows x rest above is = no_first _ x rest is
mark_above n (v ∷ vs) rows x rest above is = elim (cases_Bool (is_marked_as v.2 (rows v.0))) [
  | inl has ↦ mark_above n vs rows x rest above.1 (sym (cond-true _ _ _ has) ∙ is)
  | inr other ↦
      let parts = first_of (marked v.0 v.2) x (to_mark rows vs) rest (sym (cond-false _ _ _ other) ∙ is) in
      subst (λ (y : OpeningChange). n < volume_of y) parts.0 above.0
]

-- the first mark to be changed, where every volume is there
mark_first : (vs : List VolumeData) (rows : RowsOf) (x : OpeningChange) (rest : List OpeningChange) → AreRising vs → to_make rows vs ≡ [] → to_mark rows vs ≡ x ∷ rest → (row : RowValue) → HasItsMark x row
    → (to_mark (with_row (volume_of x) row rows) vs ≡ rest) × (is_some (rows (volume_of x)) ≡ true)
mark_first [] rows x rest rising none is row mark = no_first _ x rest is
mark_first (v ∷ vs) rows x rest rising none is row mark =
    let above = rising_first v vs rising in
    elim (cases_Bool (is_some (rows v.0))) [
      | inl has ↦
          let none_behind = sym (cond-true _ _ _ has) ∙ none in
          elim (cases_Bool (is_marked_as v.2 (rows v.0))) [
            | inl kept ↦
                let behind = sym (cond-true _ _ _ kept) ∙ is in
                let later = mark_first vs rows x rest above.1 none_behind behind row mark in
                let past = mark_above v.0 vs rows x rest above.0 behind in
                let off : with_row (volume_of x) row rows v.0 ≡ rows v.0 = cond-false _ _ _ (ne_eqb v.0 (volume_of x) (λ (e : v.0 ≡ volume_of x). omega (arith, past, e))) in
                (cond-true _ _ _ (ap (is_marked_as v.2) off ∙ kept) ∙ later.0, later.1)
            | inr other ↦
                let parts = first_of (marked v.0 v.2) x (to_mark rows vs) rest (sym (cond-false _ _ _ other) ∙ is) in
                let its : row.read_only ≡ v.2 = subst (λ (y : OpeningChange). HasItsMark y row) (sym parts.0) mark in
                let here : is_marked_as v.2 (with_row v.0 row rows v.0) ≡ true = ap (is_marked_as v.2) (cond-true _ _ _ (eq-eqb v.0 v.0 refl)) ∙ asked_marked v.2 (Some row) its in
                let done : to_mark (with_row v.0 row rows) (v ∷ vs) ≡ rest = cond-true _ _ _ here ∙ to_mark_past v.0 row rows vs above.0 ∙ parts.1 in (
                  subst (λ (y : OpeningChange). to_mark (with_row (volume_of y) row rows) (v ∷ vs) ≡ rest) parts.0 done,
                  subst (λ (y : OpeningChange). is_some (rows (volume_of y)) ≡ true) parts.0 has,
                )
          ]
      | inr lacks ↦ no_first _ (made v.0 v.1) (to_make rows vs) (sym none ∙ cond-false _ _ _ lacks)
    ]

unmarked_none : (o : Option RowValue) → is_some o ≡ false → is_marked o ≡ false
unmarked_none None none = refl
unmarked_none (Some r) none = absurd cc

-- once the first change is made the others are left
module _ (vs : List VolumeData) (rising : AreRising vs) (rows : RowsOf) (x : OpeningChange) (rest : List OpeningChange) (row : RowValue) (mark : HasItsMark x row) where
  abbrev after_x : RowsOf
  after_x = with_row (volume_of x) row rows

  rest_left : (ms : List OpeningChange) → to_make rows vs ≡ ms → ms ++ to_mark rows vs ≡ x ∷ rest → opening_changes after_x vs ≡ rest
  rest_left [] none is =
      let marks = mark_first vs rows x rest rising none is row mark in
      (λ i. still_none vs rows (volume_of x) row none i ++ marks.0 i)
  rest_left (m ∷ ms) some is =
      let parts = first_of m x (ms ++ to_mark rows vs) rest is in
      let first = made_first vs rows x ms rising (some ∙ ap (λ (y : OpeningChange). y ∷ ms) parts.0) row mark in
      let same : (v : ℕ) → is_marked (after_x v) ≡ is_marked (rows v) = λ v. elim (cases_Bool (v == volume_of x)) [
        | inl at ↦ ap is_marked (cond-true _ _ _ at) ∙ first.2 ∙ sym (ap (λ (n : ℕ). is_marked (rows n)) (eqb-true v (volume_of x) at) ∙ unmarked_none (rows (volume_of x)) first.1)
        | inr off ↦ ap is_marked (cond-false _ _ _ off)
      ] in
      (λ i. first.0 i ++ to_mark_same after_x rows vs same i) ∙ parts.1

  first_done : opening_changes rows vs ≡ x ∷ rest → opening_changes after_x vs ≡ rest
  first_done is = rest_left (to_make rows vs) refl is

-- a mark is changed of a volume that is there
mark_there : (vs : List VolumeData) (rising : AreRising vs) (rows : RowsOf) (w : ℕ) (on : Bool) (rest : List OpeningChange) → opening_changes rows vs ≡ marked w on ∷ rest → is_some (rows w) ≡ true
mark_there vs rising rows w on rest is = by (to_make rows vs) refl is
  where
    no_made : (us : List VolumeData) (xs : List OpeningChange) → to_make rows us ≡ marked w on ∷ xs → ⊥
    no_made [] xs is = no_first _ (marked w on) xs is
    no_made (v ∷ us) xs is = elim (cases_Bool (is_some (rows v.0))) [
      | inl has ↦ no_made us xs (sym (cond-true _ _ _ has) ∙ is)
      | inr none ↦ (let parts = first_of (made v.0 v.1) (marked w on) (to_make rows us) xs (sym (cond-false _ _ _ none) ∙ is) in (let e = parts.0 in cc))
    ]

    by : (ms : List OpeningChange) → to_make rows vs ≡ ms → ms ++ to_mark rows vs ≡ marked w on ∷ rest → is_some (rows w) ≡ true
    by [] none is = (mark_first vs rows (marked w on) rest rising none is (row_with_mark [] on) refl).1
    by (m ∷ ms) some is =
        let parts = first_of m (marked w on) (ms ++ to_mark rows vs) rest is in
        absurd (no_made vs ms (some ∙ ap (λ (y : OpeningChange). y ∷ ms) parts.0))

serial_there : (o : Option (List ℕ)) (on : Bool) → is_some (option_map (λ (serial : List ℕ). row_with_mark serial on) o) ≡ true → (serial : List ℕ) × (o ≡ Some serial)
serial_there None on is = absurd cc
serial_there (Some serial) on is = (serial, refl)

-- the rows for the volumes after one change
rows_made : (volumes : Volumes) (w : ℕ) (name : List ℕ) → rows_for (opened_by (made w name) volumes) ≡ with_row w (row_with_mark name false) (rows_for volumes)
rows_made volumes w name = λ i v. at v i
  where
    at : (v : ℕ) → rows_for (opened_by (made w name) volumes) v ≡ with_row w (row_with_mark name false) (rows_for volumes) v
    at v = elim (cases_Bool (v == w)) [
      | inl same ↦ (λ i. option_map (λ (serial : List ℕ). row_with_mark serial (cond-true (v == w) false (volumes.read_only v) same i)) (cond-true (v == w) (Some name) (volumes.serial v) same i)) ∙ sym (cond-true _ _ _ same)
      | inr other ↦ (λ i. option_map (λ (serial : List ℕ). row_with_mark serial (cond-false (v == w) false (volumes.read_only v) other i)) (cond-false (v == w) (Some name) (volumes.serial v) other i)) ∙ sym (cond-false _ _ _ other)
    ]

rows_marked : (volumes : Volumes) (w : ℕ) (on : Bool) (name : List ℕ) → volumes.serial w ≡ Some name → rows_for (opened_by (marked w on) volumes) ≡ with_row w (row_with_mark name on) (rows_for volumes)
rows_marked volumes w on name there = λ i v. at v i
  where
    at : (v : ℕ) → rows_for (opened_by (marked w on) volumes) v ≡ with_row w (row_with_mark name on) (rows_for volumes) v
    at v = elim (cases_Bool (v == w)) [
      | inl same ↦
          (λ i. option_map (λ (serial : List ℕ). row_with_mark serial (cond-true (v == w) on (volumes.read_only v) same i)) ((ap volumes.serial (eqb-true v w same) ∙ there) i)) ∙ sym (cond-true _ _ _ same)
      | inr other ↦ (λ i. option_map (λ (serial : List ℕ). row_with_mark serial (cond-false (v == w) on (volumes.read_only v) other i)) (volumes.serial v)) ∙ sym (cond-false _ _ _ other)
    ]

-- after a front of the changes the others are left
front_left : (vs : List VolumeData) → AreRising vs → (done later : List OpeningChange) (volumes : Volumes) → opening_changes (rows_for volumes) vs ≡ done ++ later → opening_changes (rows_for (opened_all done volumes)) vs ≡ later
front_left vs rising [] later volumes is = is
front_left vs rising (made w name ∷ done) later volumes is =
    let now = first_done vs rising (rows_for volumes) (made w name) (done ++ later) (row_with_mark name false) refl is in
    front_left vs rising done later (opened_by (made w name) volumes) (ap (λ (r : RowsOf). opening_changes r vs) (rows_made volumes w name) ∙ now)
front_left vs rising (marked w on ∷ done) later volumes is =
    let there = serial_there (volumes.serial w) (volumes.read_only w) (mark_there vs rising (rows_for volumes) w on (done ++ later) is) in
    let now = first_done vs rising (rows_for volumes) (marked w on) (done ++ later) (row_with_mark there.0 on) refl is in
    front_left vs rising done later (opened_by (marked w on) volumes) (ap (λ (r : RowsOf). opening_changes r vs) (rows_marked volumes w on there.0 there.1) ∙ now)

-- ---- a stop within a restart

module _ (decides : Decides) (config : ConfigData) (old new : DevicesSeen) (answer : Result Opened Refused) (is : OpensFaultless config old new answer) (stop : Stop (length old.told.log + 1) new.told) where
  abbrev begun : Content
  begun = content old.told

  abbrev further : List OpeningChange
  further = opening_changes (rows_of begun) config.volumes

  abbrev asked : ℕ → Option (List ℕ)
  asked = serial_in config.volumes

  was : IsSound config.frames begun × HasSerialsAsked asked (rows_of begun)
  was = (decides config.frames asked begun).0 is.faultless

  abbrev Fronts : Content → Type 0
  Fronts = ShowsFront config.frames further (volumes_shown begun)

  moments : Writes Fronts (synced config old new answer is.opens) new.told
  moments =
      let at_sync = same config old new answer is.opens in
      subst (λ (c : Content). Writes (ShowsFront config.frames (opening_changes (rows_of c) config.volumes) (volumes_shown c)) (synced config old new answer is.opens) new.told) at_sync
      ((is.opens.told tt).moments config.frames (subst (IsSound config.frames) (sym at_sync) was.0))

  front : ShowsFront config.frames further (volumes_shown begun) (left_by stop)
  front = leaves config old new answer is.opens stop Fronts moments

  done_asked : AreAsked asked front.done_
  done_asked =
      asked_front asked front.done_ front.later
      (subst (AreAsked asked) (sym front.order) (asked_opening (rows_of begun) config.volumes is.whole.volumes_ is.whole.rising))

  serials_kept : HasSerialsAsked asked (rows_of (left_by stop))
  serials_kept =
      rows_fit asked (left_by stop)
      (subst (Fit asked) (sym front.same)
      (fit_changes asked front.done_ (volumes_shown begun) done_asked (λ v kept serial at spelled. fit_row asked (rows_of begun) was.1 v kept serial (rows_of begun v) refl at spelled)))

  still_to_do : opening_changes (rows_of (left_by stop)) config.volumes ≡ front.later
  still_to_do =
      changes_for config.volumes (left_by stop) ∙ ap (λ (x : Volumes). opening_changes (rows_for x) config.volumes) front.same
      ∙ front_left config.volumes is.whole.rising front.done_ front.later (volumes_shown begun) (sym (changes_for config.volumes begun) ∙ sym front.order)

  pub leaves_front : LeavesFront config begun (left_by stop)
  leaves_front = record {
    faultless = (decides config.frames asked (left_by stop)).1 (front.sound, serials_kept);
    front = front;
    in_the_end =
        (λ i. opened_all (still_to_do i) (front.same i))
        ∙ sym (opened_append front.done_ front.later (volumes_shown begun))
        ∙ ap (λ (cs : List OpeningChange). opened_all cs (volumes_shown begun)) front.order;
  }

  pub restart_taken : {S C : Type 0} (again left : DevicesSeen) (then : Answer S C) → RestartsOver config (left_by stop) again left then → IsTakenUp config (shown_for config begun) left.told then
  restart_taken again left then over = taken_up config (left_by stop) (shown_for config begun) leaves_front.faultless leaves_front.in_the_end again left then over

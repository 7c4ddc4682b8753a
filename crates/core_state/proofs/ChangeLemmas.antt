-- A core keeps what it is told when a row changes.
use Rattle.std.proofs.Common.{◌≡◌, ℕ, ◌≤◌, ◌<◌, Bool, false, cond, ◌==◌, List, [], ◌∷◌, ◌++◌, length, take, Option, Some, None, refl, sym, ◌∙◌, ap, subst, arith, length-append}
use Rattle.std.specs.Prelude.{nat_le}
use Rattle.std.proofs.lemmas.Bool.{cond_both, cond-false, false≢true}
use Rattle.std.proofs.lemmas.Bool.Decides.{nat_tests}
use Rattle.mss_base.specs.Content.{Content, SiteLog, content, Writes, after as written_after}
use Rattle.ckd_track.specs.Data.{Volumes}
use Rattle.ckd_plain.specs.Data.{State}
use Rattle.ckd_plain.specs.History.{EntryData, after, state_after, IsLegal}
use Rattle.volume_table.specs.Row.{RowValue}
use Rattle.table_pair.specs.declared.copy.SlotsUsed.{SlotsUsed}
use Rattle.table_pair.specs.Pair.{HoldsRow}
use Rattle.table_pair.specs.Slots.{AreUsed}
use Rattle.shown_volumes.specs.Shown.{RowsOf, rows_of, volumes_shown, SameTables}
use Rattle.shown_volumes.specs.Changing.{IsQuiet, StillShows}
use Rattle.volume_table.specs.declared.changes.Change.{Change}
use Rattle.volume_table.specs.declared.changes.Change.TheVariants.{Create, Assign, Free, Staged, Changed, Destaged, Protect}
use Rattle.core_state.specs.declared.session.Message.{Message}
use Rattle.core_state.specs.StopRule.{opening, StopsWell}
use Rattle.core_state.specs.Agrees.{AllAllowed, AllAgree, AreEarly, EntryAgrees, IsAllowedIn, freed_by, is_early, rows_at, rows_after, with_change, till, handed_rows, undone}
use Rattle.core_state.specs.CoreValue.{CoreValue}
use Rattle.core_state.specs.declared.task.Task.{Task}
use Rattle.volume_table.specs.Listed.{row_in_list}
use Rattle.core_state.specs.Served.{AreServed}
use Rattle.core_state.specs.Entered.{with_used, core_after_work}
use Rattle.core_state.specs.IsCore.{AllUpTo, AllDone, IsGoing, IsTold, KeepsCopies, opening_of, handed_to}
use Rattle.core_state.proofs.StopsLemmas.{stops_again, stops_shown}
use Rattle.core_state.proofs.EntryLemmas.{up_to-more, done-more, start_same, opening_same, rows_same_tables, holds_same_tables, used_same_tables}
use Rattle.fault_queue.specs.Requests.{RequestsData}

rows_after-push : (rows : RowsOf) (ms : List Message) (m : Message) → rows_after rows (ms ++ m ∷ []) ≡ with_change (rows_after rows ms) m
rows_after-push rows [] m = refl
rows_after-push rows (x ∷ ms) m = rows_after-push (with_change rows x) ms m

allowed-push : (rows : RowsOf) (ms : List Message) (m : Message) → AllAllowed rows ms
    → IsAllowedIn (rows_after rows ms) m.volume m.change (rows_after rows ms m.volume) × (m.freed ≡ freed_by (rows_after rows ms) m.volume m.change) → AllAllowed rows (ms ++ m ∷ [])
allowed-push rows [] m all new = (new, tt)
allowed-push rows (x ∷ ms) m all new = (all.0, allowed-push (with_change rows x) ms m all.1 new)

late : (a b : ℕ) → b < a → nat_le a b ≡ false
late a b lt = grind (arith, nat_tests)

-- an earlier moment doesn't see a later message
till-push : (k : ℕ) (ms : List Message) (m : Message) → k < m.mark → till k (ms ++ m ∷ []) ≡ till k ms
till-push k [] m lt = cond-false _ _ _ (late m.mark k lt)
till-push k (x ∷ ms) m lt = ap (λ (l : List Message). cond (nat_le x.mark k) (x ∷ l) l) (till-push k ms m lt)

agree-same : (frames : ℕ) (old new : ℕ → RowsOf) (n : ℕ) (s : State) (es : List EntryData) (ms : List ℕ) → AllUpTo n ms → ((k : ℕ) → k ≤ n → new k ≡ old k) → AllAgree frames old s es ms → AllAgree frames new s es ms
agree-same frames old new n s [] ms before same all = tt
agree-same frames old new n s (e ∷ es) [] before same all = tt
agree-same frames old new n s (e ∷ es) (m ∷ ms) before same all =
    (subst (λ (rows : RowsOf). EntryAgrees frames rows s e e.reply) (sym (same m before.0)) all.0, agree-same frames old new n (state_after s e) es ms before.1 same all.1)

done-push : (n : ℕ) (ms : List Message) (m : Message) → m.mark ≤ n → AllDone n ms → AllDone n (ms ++ m ∷ [])
done-push n [] m le all = (le, tt)
done-push n (x ∷ ms) m le all = (all.0, done-push n ms m le all.1)

-- a later change leaves what was handed in
stays_undone : (c : Change) (r : Option RowValue) → is_early c ≡ false → undone c r ≡ r
stays_undone (Create serial first second) r late = absurd cc
stays_undone (Assign page frame) r late = refl
stays_undone (Free page) r late = refl
stays_undone (Staged cylinder) r late = refl
stays_undone (Changed cylinder) r late = refl
stays_undone (Destaged cylinder) r late = refl
stays_undone (Protect on) r late = absurd cc

pub handed-push : (rows : RowsOf) (ms : List Message) (m : Message) → is_early m.change ≡ false → handed_rows rows (ms ++ m ∷ []) ≡ handed_rows rows ms
handed-push rows [] m late = λ i volume. (cond_both (volume == m.volume) (undone m.change (rows volume)) (rows volume) (λ (o : Option RowValue). o ≡ rows volume)
    (λ _. stays_undone m.change (rows volume) late) (λ _. refl)) i
handed-push rows (x ∷ ms) m late = λ i volume. cond (volume == x.volume) (undone x.change (handed-push rows ms m late i volume)) (handed-push rows ms m late i volume)

early-push : (first : ℕ) (ms : List Message) (m : Message) → is_early m.change ≡ false → AreEarly first ms → AreEarly first (ms ++ m ∷ [])
early-push first [] m late all = (λ early. absurd (false≢true (sym late ∙ early)), tt)
early-push first (x ∷ ms) m late all = (all.0, early-push first ms m late all.1)

module _ (S : Type 0) {C : Type 0} (s t : SiteLog) (v : CoreValue S C) (x : S) (rows : List (Option RowValue)) (m : Message)
    (told : IsTold s v) (open_ : v.stopped ≡ None) (long : length v.marks ≡ length v.history)
    (writes : Writes (StillShows v.config.frames (volumes_shown (content s)) s) s t) (quiet : IsQuiet t)
    (mark : m.mark ≡ length t.log) (grows : length s.log < length t.log) (late_change : is_early m.change ≡ false)
    (allowed : IsAllowedIn (row_in_list v.rows) m.volume m.change (row_in_list v.rows m.volume) × (m.freed ≡ freed_by (row_in_list v.rows) m.volume m.change))
    (changes : with_change (row_in_list v.rows) m ≡ row_in_list rows) (rows_are : rows_of (content t) ≡ row_in_list rows)
    (copies : (volume : ℕ) (r : RowValue) → row_in_list rows volume ≡ Some r → HoldsRow r volume (content t)) (used : List SlotsUsed) (slots : AreUsed used (content t))
    (owners : List (Option (ℕ × ℕ))) (moving : List Bool) (requests : RequestsData) (tasks : List (Option Task)) (served : AreServed (content t) (row_in_list rows) tasks)
    (rest : (volume : ℕ) → row_in_list rows volume ≡ None → (row_in_list v.rows volume ≡ None) × KeepsCopies volume (content s) (content t)) where
  going : IsGoing s v
  going = told.going open_

  writes_ : Writes (StillShows v.config.frames (after (opening_of s v) v.history).volumes s) s t
  writes_ = subst (λ (V : Volumes). Writes (StillShows v.config.frames V s) s t) going.shows writes

  began : opening v.first_write t ≡ opening v.first_write s
  began = opening_same v.first_write s t writes.items writes.grown told.began

  console : List Message
  console = v.console ++ m ∷ []

  handed : handed_rows (rows_of (written_after t.start (take v.first_write t.log))) (v.console ++ m ∷ []) ≡ handed_to s v
  handed =
      handed-push (rows_of (written_after t.start (take v.first_write t.log))) v.console m late_change
      ∙ ap (λ (c : Content). handed_rows (rows_of c) v.console) (start_same v.first_write s t writes.items writes.grown told.began)

  told_rows : rows_after (handed_to s v) (v.console ++ m ∷ []) ≡ row_in_list rows
  told_rows = rows_after-push (handed_to s v) v.console m ∙ ap (λ (q : RowsOf). with_change q m) going.told ∙ changes

  pub told_change : IsTold t (core_after_work (with_used used v) x rows (v.console ++ m ∷ []) owners moving requests tasks)
  told_change = record {
    began = omega (arith, told.began, grows);
    entries = up_to-more (length s.log) (length t.log) v.marks (omega (arith, grows)) told.entries;
    messages = done-push (length t.log) v.console m (omega (arith, mark)) (done-more (length s.log) (length t.log) v.console (omega (arith, grows)) told.messages);
    legal = subst (λ (y : State). IsLegal y v.history) (sym began) told.legal;
    stops = subst (λ (y : State). StopsWell v.config.frames v.first_write y v.history v.marks t) (sym began)
        (stops_again v.config.frames v.first_write (opening_of s v) v.history v.marks s told.stops long told.entries going.no_stop told.began going.shows t writes_);
    agrees = record {
      early = early-push v.first_write v.console m late_change told.agrees.early;
      allowed = subst (λ (q : RowsOf). AllAllowed q (v.console ++ m ∷ [])) (sym handed)
          (allowed-push (handed_to s v) v.console m told.agrees.allowed
          (subst (λ (q : RowsOf). IsAllowedIn q m.volume m.change (q m.volume) × (m.freed ≡ freed_by q m.volume m.change)) (sym going.told) allowed));
      entries = subst (λ (y : State). AllAgree v.config.frames (rows_at (handed_rows (rows_of (written_after t.start (take v.first_write t.log))) (v.console ++ m ∷ [])) (v.console ++ m ∷ [])) y v.history v.marks) (sym began)
          (subst (λ (q : RowsOf). AllAgree v.config.frames (rows_at q (v.console ++ m ∷ [])) (opening_of s v) v.history v.marks) (sym handed)
          (agree-same v.config.frames (rows_at (handed_to s v) v.console) (rows_at (handed_to s v) (v.console ++ m ∷ [])) (length s.log) (opening_of s v) v.history v.marks told.entries
          (λ k le. ap (rows_after (handed_to s v)) (till-push k v.console m (omega (arith, mark, grows)))) told.agrees.entries));
    };
    going = λ none. record {
      no_stop = going.no_stop;
      hosts_ = ap (λ (y : State). (after y v.history).host) began ∙ going.hosts_;
      shows = stops_shown v.config.frames (after (opening_of s v) v.history).volumes s t writes_ ∙ ap (λ (y : State). (after y v.history).volumes) (sym began);
      rows_ = rows_are;
      copies = copies;
      slots_ = slots;
      told = ap (λ (q : RowsOf). rows_after q (v.console ++ m ∷ [])) handed ∙ told_rows;
      served = served;
      quiet = quiet;
      without = λ volume none unit table.
          (rest volume none).1 unit table ∙ going.without volume (rest volume none).0 unit table
          ∙ ap (λ (c : Content). c unit volume) (sym (start_same v.first_write s t writes.items writes.grown told.began));
    };
  }

-- writes that leave the tables and what is shown, without a message
module _ (S : Type 0) {C : Type 0} (s t : SiteLog) (v : CoreValue S C) (x : S) (told : IsTold s v) (open_ : v.stopped ≡ None) (long : length v.marks ≡ length v.history)
    (writes : Writes (StillShows v.config.frames (volumes_shown (content s)) s) s t) (same : SameTables (content s) (content t)) (quiet : IsQuiet t)
    (owners : List (Option (ℕ × ℕ))) (moving : List Bool) (requests : RequestsData) (tasks : List (Option Task)) (served : AreServed (content t) (row_in_list v.rows) tasks) where
  going_ : IsGoing s v
  going_ = told.going open_

  writes_now : Writes (StillShows v.config.frames (after (opening_of s v) v.history).volumes s) s t
  writes_now = subst (λ (V : Volumes). Writes (StillShows v.config.frames V s) s t) going_.shows writes

  began_ : opening v.first_write t ≡ opening v.first_write s
  began_ = opening_same v.first_write s t writes.items writes.grown told.began

  handed_ : handed_rows (rows_of (written_after t.start (take v.first_write t.log))) v.console ≡ handed_to s v
  handed_ = ap (λ (c : Content). handed_rows (rows_of c) v.console) (start_same v.first_write s t writes.items writes.grown told.began)

  longer : length s.log ≤ length t.log
  longer = let e1 = ap (λ (y : SiteLog). length y.log) writes.grown ∙ length-append s.log writes.items in omega (arith, e1)

  pub told_outside : IsTold t (core_after_work v x v.rows v.console owners moving requests tasks)
  told_outside = record {
    began = omega (arith, told.began, longer);
    entries = up_to-more (length s.log) (length t.log) v.marks longer told.entries;
    messages = done-more (length s.log) (length t.log) v.console longer told.messages;
    legal = subst (λ (y : State). IsLegal y v.history) (sym began_) told.legal;
    stops = subst (λ (y : State). StopsWell v.config.frames v.first_write y v.history v.marks t) (sym began_)
        (stops_again v.config.frames v.first_write (opening_of s v) v.history v.marks s told.stops long told.entries going_.no_stop told.began going_.shows t writes_now);
    agrees = record {
      early = told.agrees.early;
      allowed = subst (λ (rows : RowsOf). AllAllowed rows v.console) (sym handed_) told.agrees.allowed;
      entries = subst (λ (y : State). AllAgree v.config.frames (rows_at (handed_rows (rows_of (written_after t.start (take v.first_write t.log))) v.console) v.console) y v.history v.marks) (sym began_)
          (subst (λ (q : RowsOf). AllAgree v.config.frames (rows_at q v.console) (opening_of s v) v.history v.marks) (sym handed_) told.agrees.entries);
    };
    going = λ none. record {
      no_stop = going_.no_stop;
      hosts_ = ap (λ (y : State). (after y v.history).host) began_ ∙ going_.hosts_;
      shows = stops_shown v.config.frames (after (opening_of s v) v.history).volumes s t writes_now ∙ ap (λ (y : State). (after y v.history).volumes) (sym began_);
      rows_ = rows_same_tables (content s) (content t) same ∙ going_.rows_;
      copies = λ volume r is. holds_same_tables (content s) (content t) same r volume (going_.copies volume r is);
      slots_ = used_same_tables (content s) (content t) same v.used going_.slots_;
      told = ap (λ (rows : RowsOf). rows_after rows v.console) handed_ ∙ going_.told;
      served = served;
      quiet = quiet;
      without = λ volume none unit table.
          same unit volume table ∙ going_.without volume none unit table
          ∙ ap (λ (c : Content). c unit volume) (sym (start_same v.first_write s t writes.items writes.grown told.began));
    };
  }

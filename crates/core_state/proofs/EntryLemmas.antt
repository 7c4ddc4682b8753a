-- A core that gets an entry keeps what it is told.
use Rattle.std.proofs.Common.{◌≡◌, ℕ, ◌≤◌, true, cond, nat_lt, List, [], ◌∷◌, ◌++◌, length, take, Option, None, refl, sym, ◌∙◌, ap, subst, arith, length-append}
use Rattle.std.specs.Prelude.{nat_le}
use Rattle.std.proofs.lemmas.Bool.{cond-true}
use Rattle.std.proofs.lemmas.Bool.Decides.{nat_tests}
use Rattle.std.proofs.lemmas.List.{take-append-le}
use Rattle.mss_base.specs.Content.{Content, Item, SiteLog, Got, content, after as written_after}
use Rattle.mss_base.specs.declared.place.UnitNo.TheVariants.{TableA, TableB}
use Rattle.ckd_plain.specs.declared.host.HostState.{HostState}
use Rattle.ckd_plain.specs.Data.{State}
use Rattle.ckd_plain.specs.Plain.{start_of}
use Rattle.ckd_plain.specs.History.{EntryData, after, state_after, IsStopped, IsLegal}
use Rattle.ckd_plain.proofs.Histories.{after-append, IsLegal-push, HasNoStop-push}
use Rattle.volume_table.specs.Row.{RowValue}
use Rattle.table_pair.specs.Copies.{copy_at}
use Rattle.table_pair.specs.declared.copy.SlotsUsed.{SlotsUsed}
use Rattle.table_pair.specs.Pair.{HoldsRow, IsOpenWith, row_of_copies}
use Rattle.table_pair.specs.Slots.{HasSlots, AreUsed}
use Rattle.shown_volumes.specs.Shown.{RowsOf, told_row, rows_of, volumes_shown, SameTables}
use Rattle.core_state.specs.declared.session.Message.{Message}
use Rattle.core_state.specs.declared.task.Task.{Task}
use Rattle.core_state.specs.StopRule.{opening, is_answered, StopsWell}
use Rattle.core_state.specs.Agrees.{AllAllowed, AllAgree, EntryAgrees, rows_at, rows_after, till, handed_rows}
use Rattle.core_state.specs.CoreValue.{CoreValue}
use Rattle.volume_table.specs.Listed.{row_in_list}
use Rattle.core_state.specs.IsCore.{AllUpTo, AllDone, IsGoing, IsTold, opening_of, handed_to}
use Rattle.core_state.specs.Entered.{core_with_entry, plain_of, Enters}
use Rattle.core_state.proofs.StopsLemmas.{stops_with_entry, not_stopped}
use Rattle.fault_queue.specs.Requests.{RequestsData}

-- ---- marks

pub up_to-more : (n m : ℕ) (ms : List ℕ) → n ≤ m → AllUpTo n ms → AllUpTo m ms
up_to-more n m [] le all = tt
up_to-more n m (x ∷ ms) le all = (omega (arith, all.0), up_to-more n m ms le all.1)

pub up_to-push : (n x : ℕ) (ms : List ℕ) → x ≤ n → AllUpTo n ms → AllUpTo n (ms ++ x ∷ [])
up_to-push n x [] le all = (le, tt)
up_to-push n x (y ∷ ms) le all = (all.0, up_to-push n x ms le all.1)

pub done-more : (n m : ℕ) (ms : List Message) → n ≤ m → AllDone n ms → AllDone m ms
done-more n m [] le all = tt
done-more n m (x ∷ ms) le all = (omega (arith, all.0), done-more n m ms le all.1)

pub till_all : (n k : ℕ) (ms : List Message) → n ≤ k → AllDone n ms → till k ms ≡ ms
till_all n k [] le all = refl
till_all n k (m ∷ ms) le all = cond-true _ _ _ (let mark = all.0 in let test : nat_le m.mark k ≡ true = early m.mark k (omega (arith, mark)) in test) ∙ ap (λ (l : List Message). m ∷ l) (till_all n k ms le all.1)
  where
    early : (a b : ℕ) → a ≤ b → nat_le a b ≡ true
    early a b le = grind (arith, nat_tests)

-- ---- histories

pub agree-push : (frames : ℕ) (rows : ℕ → RowsOf) (s : State) (es : List EntryData) (ms : List ℕ) (e : EntryData) (m : ℕ) → length ms ≡ length es
    → AllAgree frames rows s es ms → EntryAgrees frames (rows m) (after s es) e e.reply → AllAgree frames rows s (es ++ e ∷ []) (ms ++ m ∷ [])
agree-push frames rows s [] [] e m long all new = (new, tt)
agree-push frames rows s [] (y ∷ ms) e m long all new = absurd (omega arith)
agree-push frames rows s (x ∷ es) [] e m long all new = absurd (omega arith)
agree-push frames rows s (x ∷ es) (y ∷ ms) e m long all new = (all.0, agree-push frames rows (state_after s x) es ms e m (omega arith) all.1 new)

-- ---- what the session began with stays

module _ (first : ℕ) (s t : SiteLog) (ws : List Item) (grown : Got ws s t) (began : first ≤ length s.log) where
  pub start_same : written_after t.start (take first t.log) ≡ written_after s.start (take first s.log)
  start_same = ap (λ (x : SiteLog). written_after x.start (take first x.log)) grown ∙ ap (written_after s.start) (take-append-le first s.log ws began)

  pub opening_same : opening first t ≡ opening first s
  opening_same = ap (λ (c : Content). start_of (volumes_shown c)) start_same

-- ---- tables

module _ (c d : Content) (same : SameTables c d) where
  pub rows_same_tables : rows_of d ≡ rows_of c
  rows_same_tables = λ i v. cond (nat_lt v 32) (told_row (row_of_copies (copy_at (same TableA v refl i)) (copy_at (same TableB v refl i)))) None

  pub holds_same_tables : (r : RowValue) (volume : ℕ) → HoldsRow r volume c → HoldsRow r volume d
  holds_same_tables r volume h =
      record {
        a = subst (λ (x : List ℕ). IsOpenWith r (copy_at x)) (sym (same TableA volume refl)) h.a;
        b = subst (λ (x : List ℕ). IsOpenWith r (copy_at x)) (sym (same TableB volume refl)) h.b;
      }

  pub slots_same_tables : (used : SlotsUsed) (volume : ℕ) → HasSlots used volume c → HasSlots used volume d
  slots_same_tables used volume has = record {
    a = ap (λ (x : List ℕ). length (copy_at x).slots) (same TableA volume refl) ∙ has.a;
    b = ap (λ (x : List ℕ). length (copy_at x).slots) (same TableB volume refl) ∙ has.b;
  }

  pub used_same_tables : (used : List SlotsUsed) → AreUsed used c → AreUsed used d
  used_same_tables used are = λ volume low. slots_same_tables _ volume (are volume low)

-- ---- the core

module _ (S : Type 0) {C : Type 0} (s t : SiteLog) (v : CoreValue S C) (x : S) (e : EntryData) (m : ℕ) (hosts : List HostState) (requests : RequestsData) (tasks : List (Option Task)) (stopped : Option ℕ)
    (told : IsTold s v) (open_ : v.stopped ≡ None) (long : length v.marks ≡ length v.history)
    (enters : Enters v.config.frames v.rows (plain_of s v) v.history e hosts tasks s t) (at_end : m ≡ length t.log)
    (stops : IsStopped e.reply → stopped ≡ None → ⊥) where
  going : IsGoing s v
  going = told.going open_

  began : opening v.first_write t ≡ opening v.first_write s
  began = opening_same v.first_write s t enters.writes.items enters.writes.grown told.began

  handed : handed_rows (rows_of (written_after t.start (take v.first_write t.log))) v.console ≡ handed_to s v
  handed = ap (λ (c : Content). handed_rows (rows_of c) v.console) (start_same v.first_write s t enters.writes.items enters.writes.grown told.began)

  longer : length s.log ≤ length t.log
  longer = let e1 = ap (λ (y : SiteLog). length y.log) enters.writes.grown ∙ length-append s.log enters.writes.items in omega (arith, e1)

  named : rows_at (handed_to s v) v.console m ≡ row_in_list v.rows
  named = ap (rows_after (handed_to s v)) (till_all (length s.log) m v.console (omega (arith, at_end, longer)) told.messages) ∙ going.told

  after_is : after (opening v.first_write t) (v.history ++ e ∷ []) ≡ state_after (plain_of s v) e
  after_is = ap (λ (y : State). after y (v.history ++ e ∷ [])) began ∙ after-append (opening_of s v) v.history (e ∷ [])

  answered_ : stopped ≡ None → is_answered e.reply ≡ true
  answered_ none = not_stopped e.reply (λ is. stops is none)

  pub told_entry : IsTold t (core_with_entry v x e m hosts requests tasks stopped)
  told_entry = record {
    began = omega (arith, told.began, longer);
    entries = up_to-push (length t.log) m v.marks (omega (arith, at_end)) (up_to-more (length s.log) (length t.log) v.marks longer told.entries);
    messages = done-more (length s.log) (length t.log) v.console longer told.messages;
    legal = subst (λ (y : State). IsLegal y (v.history ++ e ∷ [])) (sym began) (IsLegal-push (opening_of s v) v.history e told.legal going.no_stop enters.may);
    stops = subst (λ (y : State). StopsWell v.config.frames v.first_write y (v.history ++ e ∷ []) (v.marks ++ m ∷ []) t) (sym began)
        (stops_with_entry v.config.frames v.first_write (opening_of s v) v.history v.marks s told.stops long told.entries going.no_stop told.began going.shows e t enters.writes m at_end (λ is. (enters.leaves is).shows) (λ is. (enters.leaves is).quiet));
    agrees = record {
      early = told.agrees.early;
      allowed = subst (λ (rows : RowsOf). AllAllowed rows v.console) (sym handed) told.agrees.allowed;
      entries = subst (λ (y : State). AllAgree v.config.frames (rows_at (handed_to t v) v.console) y (v.history ++ e ∷ []) (v.marks ++ m ∷ [])) (sym began)
          (subst (λ (rows : RowsOf). AllAgree v.config.frames (rows_at rows v.console) (opening_of s v) (v.history ++ e ∷ []) (v.marks ++ m ∷ [])) (sym handed)
          (agree-push v.config.frames (rows_at (handed_to s v) v.console) (opening_of s v) v.history v.marks e m long told.agrees.entries
          (subst (λ (rows : RowsOf). EntryAgrees v.config.frames rows (plain_of s v) e e.reply) (sym named) enters.agrees)));
    };
    going = λ none.
        let left = enters.leaves (answered_ none) in
        record {
          no_stop = HasNoStop-push v.history e going.no_stop (λ is. stops is none);
          hosts_ = ap (λ (y : State). y.host) after_is ∙ left.hosts_;
          shows = left.shows ∙ ap (λ (y : State). y.volumes) (sym after_is);
          rows_ = rows_same_tables (content s) (content t) left.tables ∙ going.rows_;
          copies = λ volume r is. holds_same_tables (content s) (content t) left.tables r volume (going.copies volume r is);
          slots_ = used_same_tables (content s) (content t) left.tables v.used going.slots_;
          told = ap (λ (rows : RowsOf). rows_after rows v.console) handed ∙ going.told;
          served = left.served;
          quiet = left.quiet;
          without = λ volume none unit table.
              left.tables unit volume table ∙ going.without volume none unit table
              ∙ ap (λ (c : Content). c unit volume) (sym (start_same v.first_write s t enters.writes.items enters.writes.grown told.began));
        };
  }

-- A session at a later moment, in plain volumes.
use Rattle.std.proofs.Common.{◌≡◌, ◌≤◌, ◌<◌, ℕ, suc, inl, inr, List, [], ◌∷◌, ◌++◌, length, take, Option, Some, None, Ok, refl, sym, ◌∙◌, ap, subst, arith}
use Rattle.std.proofs.lemmas.List.{append-nil, take_all, take-append-le}
use Rattle.mss_base.specs.Configs.{ConfigData}
use Rattle.mss_base.specs.Content.{Content, SiteLog, Item, Tear, Got, content, image, after as written_after}
use Rattle.mss_base.proofs.ContentLemmas.{image_front}
use Rattle.ckd_plain.specs.Data.{State}
use Rattle.ckd_plain.specs.History.{IsLegal, after}
use Rattle.mss_base.specs.declared.place.UnitNo.TheVariants.{TableA, TableB}
use Rattle.volume_table.specs.Row.{RowValue}
use Rattle.volume_table.specs.Listed.{row_in_list}
use Rattle.table_pair.specs.Copies.{copy_at}
use Rattle.table_pair.specs.Pair.{HoldsRow, IsOpenWith}
use Rattle.shown_volumes.specs.Shown.{RowsOf, rows_of}
use Rattle.shown_volumes.specs.Changing.{with_row}
use Rattle.mss_restart.specs.Creations.{AreTold, AreWritten}
use Rattle.mss_restart.specs.OneCopy.{ArePaired, AreUnmade, IsPaired}
use Rattle.mss_restart.specs.Opening.{OpeningChange, opening_changes, volume_of}
use Rattle.mss_restart.specs.declared.steps.OpeningStep.{OpeningStep}
use Rattle.core_state.specs.Agrees.{Agrees, handed_rows, rows_after}
use Rattle.core_state.specs.Beginning.{IsLater}
use Rattle.core_state.specs.CoreValue.{CoreData, DevicesSeen}
use Rattle.core_state.specs.IsCore.{IsTold, KeepsCopies, handed_to, opening_of}
use Rattle.core_state.specs.SessionData.{data_of}
use Rattle.core_state.specs.StopRule.{StopsWell, opening}
use Rattle.core_state.proofs.EntryLemmas.{opening_same, start_same}
use Rattle.core_restart.specs.Console.{steps_in}
use Rattle.core_restart.specs.Opening.{OpensTold, opened_in}
use Rattle.core_restart.specs.TakingUp.{IsFaultless, IsSession, LeavesFront, OpensFaultless, Stop, left_by, shown_for}
use Rattle.core_restart.specs.TakingUp as taking
use Rattle.core_restart.proofs.ConsoleFacts.{handed_are, opening_apart, opening_none}
use Rattle.core_restart.proofs.Syncing.{same_content}
use Rattle.core_restart.proofs.TakenUp.{Decides, PlainKeeps, leaves_all, leaves_front, session_begun, session_later}
use Rattle.plain_sessions.specs.Sessions.{BeganOver, IsPlainSession, StopsAnywhere, plain_start}

-- changes that were written are told by their steps, whose counts don't fall, as any telling of these steps says
told_of : (changes asked : List OpeningChange) (steps : List OpeningStep) (rows last before after : RowsOf) (old new : SiteLog) (from now : ℕ) → AreWritten changes steps rows last old new → AreTold asked steps before after from now → AreTold changes steps rows last from now
told_of [] [] [] rows last before after old new from now written told = (written.0, told.1)
told_of (c ∷ changes) (d ∷ asked) (x ∷ steps) rows last before after old new from now (mid, (next, is, rest)) told = (
  is.row,
  is.is_row,
  is.tells,
  told.3,
  told_of changes asked steps (with_row (volume_of c) is.row rows) last (with_row (volume_of d) told.0 before) after mid new x.writes now
      (subst (λ (r : RowsOf). AreWritten changes steps r last mid new) is.now rest) told.4,
)
told_of [] asked (x ∷ steps) rows last before after old new from now written told = absurd written
told_of (c ∷ changes) asked [] rows last before after old new from now written told = absurd written
told_of changes [] (x ∷ steps) rows last before after old new from now written told = absurd told
told_of changes (d ∷ asked) [] rows last before after old new from now written told = absurd told

-- copies that are as they were tell their row alone as they did
holds_kept : (volume : ℕ) (c d : Content) → KeepsCopies volume c d → (row : RowValue) → HoldsRow row volume c → HoldsRow row volume d
holds_kept volume c d keeps row held = record {
  a = subst (λ (block : List ℕ). IsOpenWith row (copy_at block)) (sym (keeps TableA refl)) held.a;
  b = subst (λ (block : List ℕ). IsOpenWith row (copy_at block)) (sym (keeps TableB refl)) held.b;
}

unmade_kept : (volume : ℕ) (c d : Content) → KeepsCopies volume c d → AreUnmade volume c → AreUnmade volume d
unmade_kept volume c d keeps unmade = record {
  closed = record {
    a = ap (λ (block : List ℕ). (copy_at block).is_open) (keeps TableA refl) ∙ unmade.closed.a;
    b = ap (λ (block : List ℕ). (copy_at block).is_open) (keeps TableB refl) ∙ unmade.closed.b;
  };
  a = ap (λ (block : List ℕ). (copy_at block).is_made) (keeps TableA refl) ∙ unmade.a;
  b = ap (λ (block : List ℕ). (copy_at block).is_made) (keeps TableB refl) ∙ unmade.b;
}

paired_kept : (volume : ℕ) (c d : Content) → KeepsCopies volume c d → IsPaired volume c → IsPaired volume d
paired_kept volume c d keeps paired = elim paired [
  | inl held ↦ inl (held.0, holds_kept volume c d keeps held.0 held.1)
  | inr unmade ↦ inr (unmade_kept volume c d keeps unmade)
]

-- so do those of a volume that has a row, which stands in both copies
paired_by : (volume : ℕ) (row : Option RowValue) (c d : Content) → ((r : RowValue) → row ≡ Some r → HoldsRow r volume d)
    → (row ≡ None → KeepsCopies volume c d) → IsPaired volume c → IsPaired volume d
paired_by volume (Some r) c d held keeps paired = inl (r, held r refl)
paired_by volume None c d held keeps paired = paired_kept volume c d (keeps refl) paired

module _ (config : ConfigData) (was : DevicesSeen) (began : CoreData) (b : BeganOver config was began) where
  -- the devices when all that they held was firm
  abbrev synced : DevicesSeen
  synced = b.opened.synced

  same : content synced.told ≡ content was.told
  same = same_content was.told synced.told (b.opened.sync.told tt)

  abbrev opened : OpensTold config synced began.site (Ok (opened_in began))
  opened = b.opened.told tt

  -- the rows that were opened, and what the configuration asks to be changed of them
  abbrev found : RowsOf
  found = rows_of (content synced.told)

  abbrev changes : List OpeningChange
  changes = opening_changes found config.volumes

  rows_now : row_in_list began.rows ≡ rows_of (content began.site.told)
  rows_now = opened.opens.rows_are

  -- the console tells the changes that were written
  told_ : AreTold changes (steps_in began.console) found (rows_of (content began.site.told)) synced.writes began.site.writes
  told_ =
      let counted = b.opened.any.counted in
      subst (λ (xs : List OpeningStep). AreTold changes xs found (rows_of (content began.site.told)) synced.writes began.site.writes) (append-nil (steps_in began.console))
      (told_of changes (opening_changes counted.before config.volumes) (steps_in began.console ++ []) found (rows_of (content began.site.told)) counted.before (row_in_list began.rows) opened.complete.0 began.site.told synced.writes began.site.writes opened.complete.2 counted.told)

  -- the rows before the changes that the console tells are those that were handed in
  handed_in : handed_rows (row_in_list began.rows) began.console ≡ rows_of (content was.told)
  handed_in =
      ap (λ (r : RowsOf). handed_rows r began.console) rows_now
      ∙ handed_are changes began.console found (rows_of (content began.site.told)) synced.writes began.site.writes told_
      (opening_apart found config.volumes b.whole.rising) (opening_none found config.volumes)
      ∙ ap rows_of same

  module _ (tells : Type 0) (t : tells) (left : CoreData) (l : IsLater tells began left) (told : IsTold left.site.told left) where
    abbrev items : List Item
    items = (l.grown t).0

    grown : Got items began.site.told left.site.told
    grown = (l.grown t).1

    later : taking.IsLater began.site.told began left.site.told left
    later = record { config_ = l.beginning.config; first_write_ = l.beginning.first_write; items = items; grown = grown }

    config_is : left.config ≡ config
    config_is = l.beginning.config ∙ b.begins.config_

    first_is : left.first_write ≡ length began.site.told.log
    first_is = l.beginning.first_write ∙ b.begins.first_write_ ∙ b.counted

    pub opening_is : opening_of left.site.told left ≡ plain_start config (content was.told)
    opening_is =
        ap (λ (n : ℕ). opening n left.site.told) l.beginning.first_write
        ∙ opening_same began.first_write began.site.told left.site.told items grown b.told.began ∙ b.with_.opening_

    -- the content when the session began
    start_is : written_after left.site.told.start (take left.first_write left.site.told.log) ≡ content began.site.told
    start_is =
        ap (λ (n : ℕ). written_after left.site.told.start (take n left.site.told.log)) first_is
        ∙ start_same (length began.site.told.log) began.site.told left.site.told items grown (omega arith)
        ∙ ap (written_after began.site.told.start) (take_all (length began.site.told.log) began.site.told.log (omega arith))

    handed_is : handed_to left.site.told left ≡ rows_of (content was.told)
    handed_is =
        (λ i. handed_rows (rows_of (start_is i)) left.console)
        ∙ l.beginning.handed (rows_of (content began.site.told))
        ∙ ap (λ (r : RowsOf). handed_rows r began.console) (sym rows_now)
        ∙ handed_in

    -- each copy tells its row alone, where it did so
    stays_paired : left.stopped ≡ None → ArePaired (content was.told) → ArePaired (content left.site.told)
    stays_paired none paired volume low =
        let going = told.going none in
        let at_start = opened.paired (subst ArePaired (sym same) paired) in
        paired_by volume (row_in_list left.rows volume) (content began.site.told) (content left.site.told) (λ r is. going.copies volume r is)
        (λ bare. subst (λ (c : Content). KeepsCopies volume c (content left.site.told)) start_is (going.without volume bare)) (at_start volume low)

    pub plain_at : IsPlainSession config was.told left.site.told (data_of left)
    plain_at = record {
      legal = subst (λ (s : State). IsLegal s left.history) opening_is told.legal;
      shows = λ none. (told.going none).shows ∙ ap (λ (s : State). (after s left.history).volumes) opening_is;
      agrees = subst (λ (x : ℕ × RowsOf × State). Agrees x.0 left.first_write x.1 x.2 left.history left.marks left.console)
          (λ i. ((config_is i).frames, handed_is i, opening_is i)) told.agrees;
      rows_ = λ none. (told.going none).rows_ ∙ sym (told.going none).told ∙ ap (λ (r : RowsOf). rows_after r left.console) handed_is;
      paired = stays_paired;
    }

    module _ (plain_keeps : PlainKeeps) (decides : Decides) where
      opened_faultless : OpensFaultless config was began.site (Ok (opened_in began))
      opened_faultless = record { whole = b.whole; faultless = subst (IsFaultless config) same opened.opens.faultless; opens = b.opened }

      session : IsSession left.site.told left
      session = session_later began.site.told left.site.told began left (session_begun config (shown_for config (content was.told)) began.site.told began b.with_ b.begins.config_ b.told) later told

      opening_stop : (k : ℕ) → length was.told.log < k → k < left.first_write → (tear : Tear) → LeavesFront config (content was.told) (image left.site.told k tear)
      opening_stop k since before tear =
          let within : suc k ≤ length began.site.told.log = omega (arith, before, first_is) in
          let same : image left.site.told k tear ≡ image began.site.told k tear =
          image_front left.site.told began.site.told k tear (ap (λ (s : SiteLog). s.start) grown)
          (ap (λ (s : SiteLog). take (suc k) s.log) grown ∙ take-append-le (suc k) began.site.told.log items within) in
          subst (λ (c : Content). LeavesFront config (content was.told) c) (sym same)
          (leaves_front decides config was began.site (Ok (opened_in began)) opened_faultless (record { moment = k; since = omega (arith, since); until = omega (arith, within); tear = tear }))

      pub stops_at : StopsAnywhere config was.told left.site.told (data_of left)
      stops_at = record {
        opening_ = opening_stop;
        session_ = subst (λ (x : ℕ × State). StopsWell x.0 left.first_write x.1 left.history left.marks left.site.told) (λ i. ((config_is i).frames, opening_is i)) told.stops;
        restarts = λ stop. subst (λ (k : ConfigData). taking.LeavesAll k (left_by stop)) config_is (leaves_all plain_keeps decides left.site.told left session stop);
      }

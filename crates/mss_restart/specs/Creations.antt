-- Repairs, migrations and opening changes, each written to its end.
use Rattle.std.specs.Prelude.{◌≡◌, ◌≢◌, ◌≤◌, ◌<◌, ℕ, zero, suc, false, List, [], ◌∷◌, ◌++◌, length, Option, None}
use Rattle.std.specs.Prelude.{Result, Ok, Err, OnOk, IfOk}
use Rattle.std.specs.List.{AllByRecursion}
use Rattle.mss_base.specs.Sound.{StaysSound}
use Rattle.mss_base.specs.Content.{Content, SiteLog, Settles, content, Writes}
use Rattle.mss_base.specs.declared.place.UnitNo.TheVariants.{TableA, TableB}
use Rattle.mss_base.specs.Counts.{IsFaultSince}
use Rattle.mss_base.specs.declared.site.Site.{Ghosts}
use Rattle.volume_table.specs.Row.{RowValue}
use Rattle.volume_table.specs.Listed.{row_in_list}
use Rattle.volume_table.specs.declared.changes.Change.{Change}
use Rattle.volume_table.specs.declared.changes.Change.TheVariants.{Create, Protect}
use Rattle.table_pair.specs.Pair.{known, row_of, ChangesRow, NoneOrNew, OldOrNew, HoldsRow}
use Rattle.table_pair.specs.Migrating.{AreNew}
use Rattle.table_pair.specs.Repairs.{NeedsNoRepair, KeepsRow, KeepsMarks, HoldsToldRow}
use Rattle.table_pair.specs.Slots.{AreUsed}
use Rattle.table_pair.specs.declared.copy.SlotsUsed.{SlotsUsed}
use Rattle.shown_volumes.specs.declared.refused.Refused.{Refused}
use Rattle.shown_volumes.specs.declared.refused.Refused.TheVariants.{Stopped, Memory}
use Rattle.shown_volumes.specs.Shown.{RowsOf, volumes_shown}
use Rattle.shown_volumes.specs.Sound.{IsSound, SoundAs}
use Rattle.shown_volumes.specs.Changing.{with_row}
use Rattle.mss_restart.specs.Opening.{OpeningChange, made, marked, volume_of, AreKnown, AreRowsNew, IsRowNew, AreOpened, BeforeOrAfter, IsOpeningDone, IsRowAfter, ShowsFront}
use Rattle.mss_restart.specs.Survey.{NeverFails, TellsNoFailure}
use Rattle.mss_restart.specs.declared.steps.OpeningStep.{OpeningStep}

-- a site that was read, and written as often as it made room for
pub record WritesOn {S : Type 0} (g : Ghosts S) (old new : S) : Type 0 where
  pub written : g.writes old ≤ g.writes new
  pub later : g.faults old ≤ g.faults new
  pub sound : StaysSound g.never_fails_but old new

-- a failed call is told with the count now, which rose, and want of memory where none failed
abbrev pub IsStop : ℕ → ℕ → Refused → Type 0
IsStop before now (Stopped fault) = IsFaultSince before now fault
IsStop before now Memory = now ≡ before
IsStop before now _ = ⊥

abbrev pub StopsAlone : {T : Type 0} → ℕ → ℕ → Result T Refused → Type 0
StopsAlone before now (Ok value) = now ≡ before
StopsAlone before now (Err e) = IsStop before now e

-- what a step of the opening leaves of a site, whatever the site tells. It stops only for a failed call, which it
-- tells, or for want of memory; where no call fails it tells no failure.
pub record StepsOn {S T : Type 0} (g : Ghosts S) (old new : S) (result : Result T Refused) : Type 0 where
  pub devices : WritesOn g old new
  pub stops : StopsAlone (g.faults old) (g.faults new) result
  pub works : NeverFails g old → TellsNoFailure result

-- a volume's row was repaired: it is the same at each moment, as the made marks are, and stands in
-- both copies now, firm; copies that needed no repair weren't written
pub record IsRepair (volume : ℕ) (old new : SiteLog) : Type 0 where
  pub moments : Writes (ChangesRow volume (KeepsRow volume (content old)) (content old)) old new
  pub marks : Writes (KeepsMarks volume (content old)) old new
  pub held : HoldsToldRow volume (content old) (content new)
  pub alone : NeedsNoRepair volume (content old) → new ≡ old
  pub firm : Settles old new

-- the row that each volume told, if any, stands in both copies now, and so many of their slots are in use
pub record AreEqual (used : List SlotsUsed) (old new : Content) : Type 0 where
  pub held : (volume : ℕ) → volume < 32 → HoldsToldRow volume old new
  pub slots_ : AreUsed used new

-- the copies of the first volumes are of version 2
abbrev pub AreRenewed : ℕ → Content → Type 0
AreRenewed count c = (volume : ℕ) → volume < count → AreNew volume c

-- both copies of a volume's row are as they were
pub record SameCopies (volume : ℕ) (old now : Content) : Type 0 where
  pub a : now TableA volume ≡ old TableA volume
  pub b : now TableB volume ≡ old TableB volume

-- a volume's row was migrated: it is the same at each moment, as the made marks are, and stands in both copies, firm;
-- its copies, if it has a row, are of version 2 now. Those that were so weren't written, nor those of a volume without
-- a row
pub record IsMigration (volume : ℕ) (old new : SiteLog) : Type 0 where
  pub moments : Writes (ChangesRow volume (KeepsRow volume (content old)) (content old)) old new
  pub marks : Writes (KeepsMarks volume (content old)) old new
  pub held : (row : RowValue) → HoldsRow row volume (content old) → HoldsRow row volume (content new)
  pub alone : AreNew volume (content old) → new ≡ old
  pub renewed : IsRowNew volume (content new)
  pub without : row_of (content old) volume ≡ known None false → new ≡ old
  pub firm : Settles old new

-- a change doesn't make this volume
abbrev pub IsNotMade : ℕ → OpeningChange → Type 0
IsNotMade volume (made other serial) = other ≢ volume
IsNotMade volume (marked other on) = Unit {0}

-- a volume that these changes don't make keeps its made marks, also where its row gets another mark; where they don't
-- change it, its row is being repaired or migrated at most, so copies that need neither stay
pub record SparesVolume (changes : List OpeningChange) (volume : ℕ) (old now : Content) : Type 0 where
  pub marks : AllByRecursion (IsNotMade volume) changes → KeepsMarks volume old now
  pub equal : AllByRecursion (λ change. volume_of change ≢ volume) changes
      → NeedsNoRepair volume old → AreNew volume old → SameCopies volume old now

-- at each moment no row but those of these changes is more than repaired and migrated, and no volume but those that
-- they make gets a made mark or loses one
abbrev pub RepairsOthers : List OpeningChange → SiteLog → SiteLog → Type 0
RepairsOthers changes old new = (volume : ℕ) → Writes (SparesVolume changes volume (content old)) old new

-- the rows of the first volumes were repaired, one after the other
unfoldable pub AreRepaired : ℕ → SiteLog → SiteLog → Type 0
AreRepaired zero old new = new ≡ old
AreRepaired (suc count) old new = (mid : SiteLog) × AreRepaired count old mid × IsRepair count mid new

-- the rows of the first volumes were migrated, one after the other
unfoldable pub AreMigrated : ℕ → SiteLog → SiteLog → Type 0
AreMigrated zero old new = new ≡ old
AreMigrated (suc count) old new = (mid : SiteLog) × AreMigrated count old mid × IsMigration count mid new

-- the rows of the first volumes were repaired, and then those of the first ones migrated
pub record AreRewritten (repairs migrations : ℕ) (old new : SiteLog) : Type 0 where
  pub mid : SiteLog
  pub repaired : AreRepaired repairs old mid
  pub migrated : AreMigrated migrations mid new

-- ---- the opening changes

-- the change of a volume's row, by the row that it makes
abbrev pub change_made : OpeningChange → RowValue → Change
change_made (made volume serial) row = Create row.serial row.first row.second
change_made (marked volume on) row = Protect on

-- what a step tells: the change of its volume's row
pub record TellsStep (change : OpeningChange) (row : RowValue) (step : OpeningStep) : Type 0 where
  pub volume_ : step.volume ≡ volume_of change
  pub change_ : step.change ≡ change_made change row

-- these changes were made one after the other, from these rows to the last ones, and each step tells one; their counts
-- of writes don't fall, from the count before to the count now
abbrev pub AreTold : List OpeningChange → List OpeningStep → RowsOf → RowsOf → ℕ → ℕ → Type 0
AreTold [] [] rows last before now = (last ≡ rows) × (before ≤ now)
AreTold (change ∷ changes) (step ∷ steps) rows last before now =
    (row : RowValue)
    × IsRowAfter rows change row × TellsStep change row step × (before ≤ step.writes)
    × AreTold changes steps (with_row (volume_of change) row rows) last step.writes now
AreTold _ _ rows last before now = ⊥

-- a change was made and is told: its volume has its row, and so many writes were counted then
pub record MakesRow (change : OpeningChange) (step : OpeningStep) (before after : RowsOf) (writes : ℕ) : Type 0 where
  pub row : RowValue
  pub is_row : IsRowAfter before change row
  pub now : after ≡ with_row (volume_of change) row before
  pub tells : TellsStep change row step
  pub count : step.writes ≡ writes

-- what a stop within a change of a volume's row leaves
abbrev pub StopsWithin : OpeningChange → RowValue → Content → Content → Type 0
StopsWithin (made volume serial) row old = NoneOrNew volume row
StopsWithin (marked volume on) row old = OldOrNew volume row old

-- an opening change was written: its volume has the row of before or after at each moment, and that of after stands in
-- both copies now, firm, so many writes on
pub record IsWritten (rows after : RowsOf) (change : OpeningChange) (step : OpeningStep) (old new : SiteLog)
    : Type 0 where
  pub row : RowValue
  pub is_row : IsRowAfter rows change row
  pub now : after ≡ with_row (volume_of change) row rows
  pub moments : Writes (ChangesRow (volume_of change) (StopsWithin change row (content old)) (content old)) old new
  pub held : HoldsRow row (volume_of change) (content new)
  pub firm : Settles old new
  pub tells : TellsStep change row step
  pub count : step.writes ≡ length new.log

-- these changes were written, one after the other, from these rows to the last ones
abbrev pub AreWritten : List OpeningChange → List OpeningStep → RowsOf → RowsOf → SiteLog → SiteLog → Type 0
AreWritten [] [] rows last old new = (last ≡ rows) × (new ≡ old)
AreWritten (change ∷ changes) (step ∷ steps) rows last old new =
    (mid : SiteLog)
    × ((after : RowsOf) × IsWritten rows after change step old mid × AreWritten changes steps after last mid new)
AreWritten _ _ rows last old new = ⊥

-- a front of these changes was written
pub record IsFrontWritten (changes : List OpeningChange) (rows : RowsOf) (old now : SiteLog) : Type 0 where
  pub done_ : List OpeningChange
  pub later : List OpeningChange
  pub order : done_ ++ later ≡ changes
  pub steps : List OpeningStep
  pub last : RowsOf
  pub each : AreWritten done_ steps rows last old now

-- an account of changes: which were to be made, the rows before and after, and the steps that are told
pub record Account : Type 0 where
  pub changes : List OpeningChange
  pub before : RowsOf
  pub after : RowsOf
  pub steps : List OpeningStep

-- the changes of an account were made, in order, and each is told, whatever the site tells
abbrev pub MakesRows : Account → ℕ → ℕ → Type 0
MakesRows a written writes = AreTold a.changes a.steps a.before a.after written writes

-- what repairs leave: all of them, or after want of memory some, each to its end
abbrev pub RepairsWhole : {T : Type 0} → SiteLog → SiteLog → Result T Refused → Type 0
RepairsWhole old new (Ok value) = AreRepaired 32 old new
RepairsWhole old new (Err Memory) = (count : ℕ) × AreRepaired count old new
RepairsWhole old new (Err e) = Unit {0}

-- so of migrations
abbrev pub MigratesWhole : {T : Type 0} → SiteLog → SiteLog → Result T Refused → Type 0
MigratesWhole old new (Ok value) = AreMigrated 32 old new
MigratesWhole old new (Err Memory) = (count : ℕ) × AreMigrated count old new
MigratesWhole old new (Err e) = Unit {0}

-- and of both
abbrev pub RewritesWhole : {T : Type 0} → SiteLog → SiteLog → Result T Refused → Type 0
RewritesWhole old new (Ok value) = AreRewritten 32 32 old new
RewritesWhole old new (Err Memory) = (repairs : ℕ) × ((migrations : ℕ) × AreRewritten repairs migrations old new)
RewritesWhole old new (Err e) = Unit {0}

-- repairs and migrations: a sound content shows the same at each moment; no row is more than repaired and migrated, and
-- all made marks stay; the rows are known, and of version 2, where none failed; and each was written to its end
pub record RewritesRows {T : Type 0} (rows : List (Option RowValue)) (used : List SlotsUsed) (old new : SiteLog)
    (result : Result T Refused) : Type 0 where
  pub moments : (frames : ℕ) → IsSound frames (content old)
      → Writes (SoundAs frames (volumes_shown (content old))) old new
  pub others : RepairsOthers [] old new
  pub known_ : OnOk result (AreKnown rows used (content new))
  pub renewed : OnOk result (AreRowsNew (content new))
  pub complete : RewritesWhole old new result

-- what a run leaves of a site, by its account and by how it ended
abbrev pub LeavesByAccount : Type 1
LeavesByAccount = Account → SiteLog → SiteLog → Result (Unit {0}) Refused → Type 0

-- what opening changes leave: all of them, or after want of memory a front, each to its end
abbrev pub ChangesWhole : LeavesByAccount
ChangesWhole a old new (Ok value) = AreWritten a.changes a.steps a.before a.after old new
ChangesWhole a old new (Err Memory) = IsFrontWritten a.changes a.before old new
ChangesWhole a old new (Err e) = Unit {0}

-- what repairs, migrations and then changes leave: all of them, or after want of memory some of the first and a front
-- of the changes
abbrev pub CompletesWhole : LeavesByAccount
CompletesWhole a old new (Ok value) =
    (mid : SiteLog) × AreRewritten 32 32 old mid × AreWritten a.changes a.steps a.before a.after mid new
CompletesWhole a old new (Err Memory) =
    (repairs : ℕ) × ((migrations : ℕ) × ((mid : SiteLog)
    × AreRewritten repairs migrations old mid × IsFrontWritten a.changes a.before mid new))
CompletesWhole a old new (Err e) = Unit {0}

-- which changes were to be made, the rows before and after, with so many slots in use, and the steps that are told
pub record OpeningRun : Type 0 where
  pub changes : List OpeningChange
  pub before : List (Option RowValue)
  pub rows : List (Option RowValue)
  pub used : List SlotsUsed
  pub steps : List OpeningStep

-- its account
abbrev pub account_of : OpeningRun → Account
account_of run = record {
  changes = run.changes;
  before = row_in_list run.before;
  after = row_in_list run.rows;
  steps = run.steps;
}

-- one change over a site that tells: what a sound content shows at each moment; that no other row is more than repaired
-- and migrated, and that no made marks change but those of a new volume; and what was done
pub record DoesChange (change : OpeningChange) (before rows : List (Option RowValue)) (old new : SiteLog)
    (result : Result OpeningStep Refused) : Type 0 where
  pub moments : (frames : ℕ) → IsSound frames (content old)
      → Writes (λ d. IsSound frames d × BeforeOrAfter change (volumes_shown (content old)) (volumes_shown d)) old new
  pub others : RepairsOthers (change ∷ []) old new
  pub done_ : OnOk result (IsOpeningDone change (content old) (content new) before rows)
  pub complete : IfOk result (λ step. IsWritten (row_in_list before) (row_in_list rows) change step old new)

-- several changes: what a sound content shows at each moment; that no other row is more than repaired and migrated, and
-- that no made marks change but those of new volumes; what is left where none failed; and, as `IsWhole` says, that each
-- was written to its end
pub record OpensVolumes (IsWhole : LeavesByAccount) (run : OpeningRun) (old new : SiteLog)
    (result : Result (Unit {0}) Refused)
    : Type 0 where
  pub moments : (frames : ℕ) → IsSound frames (content old)
      → Writes (ShowsFront frames run.changes (volumes_shown (content old))) old new
  pub others : RepairsOthers run.changes old new
  pub opened : OnOk result (AreOpened run.changes (content old) (content new) run.before run.rows run.used)
  pub complete : IsWhole (account_of run) old new result

-- What opening answers.
use Rattle.std.specs.Prelude.{◌≡◌, ◌⊎◌, ◌<◌, ◌≤◌, ℕ, List, [], ◌++◌, length, Some, None, Result, Ok, Err, IfOk, IfErr}
use Rattle.mss_base.specs.Configs.{ConfigData, VolumeData}
use Rattle.mss_base.specs.Content.{Content, SiteLog, content, Writes}
use Rattle.mss_base.specs.Counts.{IsFaultSince, IsFaultWithin}
use Rattle.mss_base.specs.declared.site.Site.{Ghosts}
use Rattle.mss_base.specs.Configs.{serial_in}
use Rattle.shown_volumes.specs.declared.refused.Refused.{Refused}
use Rattle.shown_volumes.specs.declared.refused.Refused.TheVariants.{RowUnread, Stopped, Memory}
use Rattle.shown_volumes.specs.Shown.{RowsOf, rows_in, rows_of, volumes_shown}
use Rattle.shown_volumes.specs.Sound.{IsSound}
use Rattle.shown_volumes.specs.Faults.{first_fault}
use Rattle.volume_table.specs.Listed.{row_in_list}
use Rattle.mss_restart.specs.Survey.{Readings, AreFaultless, StandApart, IsFirstAlone, Surveys}
use Rattle.mss_restart.specs.Usable.{AreUsableFor}
use Rattle.mss_restart.specs.OneCopy.{StayPaired}
use Rattle.mss_restart.specs.Opening.{IsOpened, ShowsFront, opening_changes}
use Rattle.mss_restart.specs.Creations.{Account, AreTold, CompletesWhole, OpeningRun, RepairsOthers}
use Rattle.mss_restart.specs.declared.steps.OpeningStep.{OpeningStep}
use Rattle.mss_restart.specs.declared.opening.Opened.{Opened}
use Rattle.mss_restart.specs.declared.opening.OpeningRoom.{OpeningRoom}

-- nothing was written, or the content had no fault
abbrev pub WritesIfFaultless : ConfigData → SiteLog → SiteLog → Type 0
WritesIfFaultless config old new =
    (new ≡ old) ⊎ (first_fault config.frames (serial_in config.volumes) (content old) ≡ None)

-- a stop: each row was known and without fault, as halves and pages are. Of the first that one
-- copy alone told the count is kept, and nothing was written; else a call failed behind the reads
-- of the rows.
pub record IsStopped (before now : ℕ) (config : ConfigData) (old new : SiteLog) (fault : ℕ) : Type 0 where
  pub mid : ℕ
  pub readings : Readings before mid (content old)
  pub faultless : AreFaultless (serial_in config.volumes) readings.row
  pub apart : StandApart config.frames (rows_in readings.row)
  pub cause : (IsFirstAlone 32 readings.row readings.counts fault × (now ≡ mid) × (new ≡ old))
      ⊎ IsFaultSince mid now fault

-- a refusal but for a failed call or want of memory is the survey's, and nothing was written
abbrev pub RefusesAs : ℕ → ℕ → ConfigData → SiteLog → SiteLog → Refused → Type 0
RefusesAs before now config old new (Stopped fault) = IsStopped before now config old new fault
RefusesAs before now config old new Memory = Unit {0}
RefusesAs before now config old new e =
    (new ≡ old) × Surveys before now config.frames (serial_in config.volumes) (content old) (Err e)

-- what opening answers
abbrev pub Opens : ℕ → ℕ → ConfigData → SiteLog → SiteLog → Result Opened Refused → Type 0
Opens before now config old new (Ok opened) = IsOpened config (content old) (content new) opened.rows opened.used.items
Opens before now config old new (Err e) = RefusesAs before now config old new e

-- without a failed call opening answers rows exactly where the content has no fault, and else its first fault
abbrev pub OpensExactly : {T : Type 0} → ConfigData → Content → Result T Refused → Type 0
OpensExactly config c (Ok rows) = first_fault config.frames (serial_in config.volumes) c ≡ None
OpensExactly config c (Err (RowUnread volume fault)) = ⊥
OpensExactly config c (Err (Stopped fault)) = ⊥
OpensExactly config c (Err Memory) = Unit {0}
OpensExactly config c (Err e) = first_fault config.frames (serial_in config.volumes) c ≡ Some e

-- the counts that opening keeps: no call failed where rows are answered
abbrev pub KeepsOpening : {T : Type 0} → ℕ → ℕ → Result T Refused → Type 0
KeepsOpening before now (Ok value) = now ≡ before
KeepsOpening before now (Err (RowUnread volume fault)) = IsFaultSince before now fault
KeepsOpening before now (Err (Stopped fault)) = IsFaultWithin before now fault
KeepsOpening before now (Err e) = before ≤ now

-- a refusal writes nothing, but for a stop and want of memory, as which no failed write is told
abbrev pub RefusalLeaves : ℕ → ℕ → ℕ → ℕ → Refused → Type 0
RefusalLeaves written writes before now (Stopped fault) = Unit {0}
RefusalLeaves written writes before now Memory = (writes ≡ written) ⊎ (now ≡ before)
RefusalLeaves written writes before now e = writes ≡ written

-- the changes that are told are those that the configuration asks for, whichever rows there were before
pub record TellsChanges (config : ConfigData) (written writes : ℕ) (rows : RowsOf) (steps : List OpeningStep)
    : Type 0 where
  pub before : RowsOf
  pub told : AreTold (opening_changes before config.volumes) steps before rows written writes

-- the steps of an opening: first the creations, then the marks
abbrev pub steps_of : Opened → List OpeningStep
steps_of opened = opened.creations.items ++ opened.marks.items

-- no step was told yet, and there is room for so many creations and marks
pub record HasNoSteps (opened : Opened) (count : ℕ) : Type 0 where
  pub no_creations : opened.creations.items ≡ []
  pub no_marks : opened.marks.items ≡ []
  pub creations_room : count ≤ opened.creations.spare
  pub marks_room : count ≤ opened.marks.spare

-- room for so many creations and marks, and for the slots in use of each volume
pub record IsRoom (room : OpeningRoom) (count : ℕ) : Type 0 where
  pub no_creations : room.creations.items ≡ []
  pub no_marks : room.marks.items ≡ []
  pub creations_room : count ≤ room.creations.spare
  pub marks_room : count ≤ room.marks.spare
  pub places : length room.used.items ≡ 32

-- the opening changes that lead from some rows to others
abbrev pub run_of : List VolumeData → Opened → Opened → OpeningRun
run_of volumes before left = record {
  changes = opening_changes (row_in_list before.rows) volumes;
  before = before.rows;
  rows = left.rows;
  used = left.used.items;
  steps = steps_of left;
}

abbrev pub MakesCounted : ConfigData → ℕ → ℕ → Result Opened Refused → Type 0
MakesCounted config written writes (Ok opened) =
    TellsChanges config written writes (row_in_list opened.rows) (steps_of opened)
MakesCounted config written writes (Err e) = Unit {0}

-- an opening's account, by the rows that its contents tell
abbrev pub account_from : ConfigData → SiteLog → SiteLog → List OpeningStep → Account
account_from config old new steps = record {
  changes = opening_changes (rows_of (content old)) config.volumes;
  before = rows_of (content old);
  after = rows_of (content new);
  steps = steps;
}

-- the repairs, migrations and changes that were begun were written to their end where rows are answered or memory ran
-- out
abbrev pub OpensWhole : ConfigData → SiteLog → SiteLog → Result Opened Refused → Type 0
OpensWhole config old new (Ok opened) =
    CompletesWhole (account_from config old new (steps_of opened)) old new (Ok tt)
OpensWhole config old new (Err e) = CompletesWhole (account_from config old new []) old new (Err e)

-- at each moment a sound content stays sound, and shows its volumes after a front of the opening changes
abbrev pub ShowsFronts : ConfigData → SiteLog → SiteLog → Type 0
ShowsFronts config old new =
    (frames : ℕ) → IsSound frames (content old)
    → let changes = opening_changes (rows_of (content old)) config.volumes in
    Writes (ShowsFront frames changes (volumes_shown (content old))) old new

-- what an opening leaves of a site that tells, however it ends: what a stop or a failing call leaves at each moment;
-- that no row but those of the changes is more than repaired and migrated, and that no made marks change but those of
-- new volumes; and that all that was begun is whole after Ok and after want of memory
pub record LeavesRows (config : ConfigData) (old new : SiteLog) (answer : Result Opened Refused) : Type 0 where
  pub moments : ShowsFronts config old new
  pub others : RepairsOthers (opening_changes (rows_of (content old)) config.volumes) old new
  pub complete : OpensWhole config old new answer

-- of a site that tells: what is answered, exactly where no call failed; what a stop or a failing call leaves at each
-- moment; that all that was begun is whole after Ok and after want of memory; that no row but those of the changes is
-- more than repaired and migrated, and that no made marks change but those of new volumes; that each copy goes on to
-- tell its row alone, unless a call failed; that a content with a fault isn't written
pub record OpensSite (before now : ℕ) (config : ConfigData) (old new : SiteLog) (answer : Result Opened Refused)
    : Type 0 where
  pub opens : Opens before now config old new answer
  pub exact : now ≡ before → before < 18446744073709551615 → OpensExactly config (content old) answer
  pub moments : ShowsFronts config old new
  pub complete : OpensWhole config old new answer
  pub others : RepairsOthers (opening_changes (rows_of (content old)) config.volumes) old new
  pub paired : StayPaired (content old) (content new) answer
  pub untouched : WritesIfFaultless config old new

-- how many writes and how many faults a site had counted before a call, and after it
pub record Counters : Type 0 where
  pub written : ℕ
  pub writes : ℕ
  pub before : ℕ
  pub now : ℕ

abbrev pub counters : {S : Type 0} → Ghosts S → S → S → Counters
counters g old new = record { written = g.writes old; writes = g.writes new; before = g.faults old; now = g.faults new }

-- the rows can be used, each configured volume has one, and there is a count of slots for each of the 32 volumes
pub record IsUsable (config : ConfigData) (opened : Opened) : Type 0 where
  pub rows_ : AreUsableFor config (row_in_list opened.rows)
  pub used_ : length opened.used.items ≡ 32

-- of every site: what was opened can be used; the changes are told with rising counts of writes; what a refusal
-- leaves, and which counts it keeps
pub record AnswersOpening (config : ConfigData) (counts : Counters) (answer : Result Opened Refused) : Type 0 where
  pub usable : IfOk answer (IsUsable config)
  pub counted : MakesCounted config counts.written counts.writes answer
  pub refused : IfErr answer (RefusalLeaves counts.written counts.writes counts.before counts.now)
  pub kept : KeepsOpening counts.before counts.now answer

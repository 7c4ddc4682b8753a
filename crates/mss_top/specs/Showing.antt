-- What a look at the volumes promises.
use Rattle.std.specs.Prelude.{◌≡◌, ◌≢◌, ◌⊎◌, ◌++◌, ℕ, List, Option, Some, None, Result, Ok, Err}
use Rattle.mss_base.specs.Content.{Content, content}
use Rattle.mss_base.specs.declared.site.Site.{Ghosts}
use Rattle.volume_table.specs.Row.{RowValue}
use Rattle.volume_table.specs.Listed.{row_in_list}
use Rattle.command_words.specs.declared.command.Command.{Command}
use Rattle.command_words.specs.declared.command.Command.TheVariants.{Show}
use Rattle.report_text.specs.OneLines.{one_line_text}
use Rattle.report_text.specs.Texts.{listing_title}
use Rattle.report_text.specs.declared.one_line.OneLine.{OneLine}
use Rattle.report_text.specs.declared.one_line.OneLine.TheVariants as line
use Rattle.shown_volumes.specs.Faults.{first_fault}
use Rattle.shown_volumes.specs.Shown.{volumes_shown, shown_by}
use Rattle.shown_volumes.specs.declared.refused.Refused.{Refused}
use Rattle.shown_volumes.specs.declared.refused.Refused.TheVariants as refused
use Rattle.mss_restart.specs.OneCopy.{ArePaired, LosesOneTable}
use Rattle.mss_restart.specs.Survey.{IsExact, KeepsFault, Surveys}
use Rattle.core_restart.specs.TakingUp.{NoneFailed}
use Rattle.core_state.specs.CoreValue.{DevicesSeen}
use Rattle.serial_driver.specs.declared.answer.DriveAnswer.TheVariants as ended
use Rattle.session_report.specs.Answers.{Answer, SinkCounts}
use Rattle.session_report.specs.Parties.{Stream, seen_with}
use Rattle.session_report.specs.Parts.{IsUnread}
use Rattle.session_report.specs.Reports.{BreaksOff, Frames, IsReported, Matter, SiteCounts}
use Rattle.session_report.specs.Reports.{finished, listing_matter, told_text, whole}
use Rattle.session_report.specs.declared.reporting.Last.TheVariants.{End}
use Rattle.job_runs.specs.Parties.{Devices, told_devices, since, until}
use Rattle.mss_top.specs.Ending.{SaysWhy}
use Rattle.mss_top.specs.Status.{status_of}
use Rattle.mss_top.specs.declared.status.Status.{Status}
use Rattle.mss_top.specs.declared.status.Status.TheVariants as status

-- the words ask for a look
abbrev pub AskToShow : Option Command → Type 0
AskToShow asked = asked ≡ Some Show

-- ---- the survey

-- a look allows as many frames as there may be, and asks for no volume
abbrev pub FRAMES : ℕ
FRAMES = 200

abbrev pub none_asked : ℕ → Option (List ℕ)
none_asked volume = None

abbrev pub RowsFound : Type 0
RowsFound = Result (List (Option RowValue)) Refused

-- what a survey of the devices answered: their rows, or the first fault
pub record IsSurvey (site : Devices) (found : RowsFound) : Type 0 where
  pub told : site.tells → Surveys site.was.faults site.now.faults FRAMES none_asked
      (content site.was.told) found
  pub exact : site.tells → NoneFailed site.was.faults site.now.faults
      → IsExact FRAMES none_asked (content site.was.told) found
  pub kept : KeepsFault site.was.faults site.now.faults found

-- the line of what the survey found; of want of memory nothing is said
abbrev pub IsSurveyLine : Devices → OneLine → Type 0
IsSurveyLine site line.WantOfMemory = Unit {0}
IsSurveyLine site (line.RestartRefused refused.Memory) = ⊥
IsSurveyLine site (line.RestartRefused why) = IsSurvey site (Err why)
IsSurveyLine site _ = ⊥

-- rows, or the line in their place
abbrev pub Looked : Type 0
Looked = Result (List (Option RowValue)) OneLine

abbrev pub SurveysAny : Devices → Looked → Type 0
SurveysAny site (Ok rows) = IsSurvey site (Ok rows)
SurveysAny site (Err said) = IsSurveyLine site said

-- why nothing is listed: the words, or what the survey found
abbrev pub IsUnlisted : Option Command → Devices → OneLine → Type 0
IsUnlisted asked site line.WordsRefused = (asked ≢ Some Show) × (site.now ≡ site.was)
IsUnlisted asked site line.WantOfMemory = Unit {0}
IsUnlisted asked site said = AskToShow asked × IsSurveyLine site said

-- ---- the listing

-- what a listing of these rows is about
abbrev pub matter_of : List (Option RowValue) → Devices → Matter
matter_of rows site = listing_matter (shown_by (row_in_list rows) (content site.was.told))

-- the volumes were listed that rows show over the devices
pub record Lists (rows : List (Option RowValue)) (site : Devices) (sink : Stream) (told : Status)
    : Type 0 where
  pub answer : Answer
  pub listing : IsReported (matter_of rows site) (finished End) (told_devices site) sink answer
  -- whatever the devices tell
  pub framed : sink.tells → Frames listing_title (finished End) sink.was sink.now answer
  pub counted : SiteCounts site.was.faults site.now.faults answer
  pub puts : SinkCounts sink.faults_was sink.faults_now answer
  pub ends : told ≡ status_of ended.Done answer

-- the devices were surveyed, and the volumes of the rows that were found were listed
pub record IsListed (asked : Option Command) (site : Devices) (sink : Stream) (told : Status)
    : Type 0 where
  pub command : AskToShow asked
  -- the devices behind the survey
  pub mid : DevicesSeen
  pub unwritten : site.tells → mid.told ≡ site.was.told
  pub rows : List (Option RowValue)
  pub survey : IsSurvey (until site mid) (Ok rows)
  pub lists : Lists rows (since site mid) sink told

-- a listing of these rows broke off before a track of which a read may fail
pub record BrokeOff {S : Type 0} (g : Ghosts S) (s : S)
    (rows : List (Option RowValue)) (site : Devices) (sink : Stream) : Type 0 where
  pub fault : ℕ
  pub off : BreaksOff (IsUnread g s (row_in_list rows) (matter_of rows site).volumes)
      (matter_of rows site) (seen_with (told_devices site) sink) fault

-- a look broke off within the listing of the rows that its survey found
pub record LookBrokeOff {S : Type 0} (g : Ghosts S) (s : S) (site : Devices)
    (sink : Stream) : Type 0 where
  -- the devices behind the survey
  pub mid : DevicesSeen
  pub rows : List (Option RowValue)
  pub survey : IsSurvey (until site mid) (Ok rows)
  pub broke : BrokeOff g s rows site sink

-- a look ended: with one line, which says why nothing is listed, or with a listing
abbrev pub EndsShown : Option Command → Devices → Stream → Status → Type 0
EndsShown asked site sink told =
    SaysWhy (IsUnlisted asked site) sink told ⊎ IsListed asked site sink told

-- ---- completeness

-- the words ask for a look, the devices tell their content, and no call fails
pub record LooksWell (asked : Option Command) (site : Devices) (sink : Stream) : Type 0 where
  pub command : AskToShow asked
  pub can_see : site.tells
  pub site_none : NoneFailed site.was.faults site.now.faults
  pub sink_none : NoneFailed sink.faults_was sink.faults_now

-- the whole listing of what a content shows
abbrev pub listing_text : Content → List ℕ
listing_text c = told_text (listing_matter (volumes_shown c)) (whole (finished End))

-- the content's first fault, as a look finds it
abbrev pub fault_shown : Content → Option Refused
fault_shown c = first_fault FRAMES none_asked c

-- this was put
abbrev pub Put : Stream → List ℕ → Type 0
Put sink text = sink.tells → sink.now ≡ sink.was ++ text

-- the first fault of a content was put
pub record IsFaultPut (c : Content) (sink : Stream) : Type 0 where
  pub why : Refused
  pub first : fault_shown c ≡ Some why
  pub put : Put sink (one_line_text (line.RestartRefused why))

-- all that a content shows was listed, or its first fault was put, or memory ran out
abbrev pub IsShown : Content → Stream → Status → Type 0
IsShown c sink status.Done = (fault_shown c ≡ None) × Put sink (listing_text c)
IsShown c sink status.RestartRefused = IsFaultPut c sink
IsShown c sink status.Memory = Unit {0}
IsShown c sink _ = ⊥

-- ---- one copy that can't be read

-- The words ask for a look, the devices tell their content, in which each copy tells its row alone,
-- reads of one unit of the table may fail, and no other call does.
pub record LooksByOneCopy {S : Type 0} (asked : Option Command) (g : Ghosts S) (site : S)
    (sink : Stream) : Type 0 where
  pub command : AskToShow asked
  pub can_see : g.tells
  pub paired : ArePaired (content (g.told site))
  pub loses : LosesOneTable g site
  pub sink_none : NoneFailed sink.faults_was sink.faults_now

-- what a look finds in a content: the rows of one without a fault, or the first fault; or memory
-- ran out
abbrev pub LooksExactly : Content → Looked → Type 0
LooksExactly c (Ok rows) = IsExact FRAMES none_asked c (Ok rows)
LooksExactly c (Err line.WantOfMemory) = Unit {0}
LooksExactly c (Err (line.RestartRefused refused.Memory)) = ⊥
LooksExactly c (Err (line.RestartRefused why)) = IsExact FRAMES none_asked c (Err why)
LooksExactly c (Err _) = ⊥

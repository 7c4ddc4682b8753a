-- A look at devices of which no call fails.
use Rattle.std.proofs.Common.{◌≡◌, ◌<◌, ◌≤◌, inl, inr, ℕ, List, [], ◌++◌, Option, None, Ok, Err, sym, ◌∙◌, ap, subst, arith}
use Rattle.std.specs.List.{IsDistinct}
use Rattle.std.specs.List.Sorted.{IsStrictlySortedBy}
use Rattle.mss_base.specs.Configs.{IsConfig, VolumeData}
use Rattle.mss_base.specs.Content.{Content, SiteLog, content}
use Rattle.mss_base.specs.Counts.{Rises}
use Rattle.mss_base.specs.Configs.{serial_in}
use Rattle.command_words.specs.declared.command.Command.{Command}
use Rattle.volume_table.specs.Row.{RowValue}
use Rattle.volume_table.specs.Listed.{row_in_list}
use Rattle.report_text.specs.OneLines.{one_line_text}
use Rattle.report_text.specs.declared.one_line.OneLine.{OneLine}
use Rattle.report_text.specs.declared.one_line.OneLine.TheVariants as line
use Rattle.shown_volumes.specs.Shown.{RowsOf, rows_of, volumes_shown, shown_by}
use Rattle.shown_volumes.specs.declared.refused.Refused.{Refused}
use Rattle.shown_volumes.specs.declared.refused.Refused.TheVariants as refused
use Rattle.mss_restart.specs.Survey.{IsExact, KeepsFault, Surveys}
use Rattle.core_restart.specs.TakingUp.{NoneFailed}
use Rattle.serial_driver.specs.declared.answer.DriveAnswer.TheVariants as ended
use Rattle.session_report.specs.Answers.{Answer, IsPut, whole as put_whole, broken, cut}
use Rattle.session_report.specs.Parties.{ToldDevices, Stream, seen_with}
use Rattle.session_report.specs.Reports.{AnswersNoRead, Ending, HasReason, IsReported, SiteCounts, Telling, finished, listing_matter, told_answer, told_text, whole, unread}
use Rattle.session_report.specs.declared.fault.ReportFault.TheVariants as report_fault
use Rattle.session_report.specs.declared.reporting.Last.TheVariants.{End}
use Rattle.job_runs.specs.Parties.{Devices, told_devices, since}
use Rattle.mss_top.specs.Ending.{line_of}
use Rattle.mss_top.specs.Showing.{EndsShown, FRAMES, IsFaultPut, IsListed, IsShown, IsSurvey, IsSurveyLine, IsUnlisted, Lists, LooksWell, Put, RowsFound, fault_shown, none_asked}
use Rattle.mss_top.specs.Status.{IsLinePut, whole as line_whole, broken as line_broken, status_of}
use Rattle.mss_top.specs.declared.status.Status.{Status}

-- ---- the survey

-- the line of the survey's refusal
pub survey_line : (site : Devices) (why : Refused) → IsSurvey site (Err why) → IsSurveyLine site (line_of why)
survey_line site refused.Memory is = tt
survey_line site why is = is

-- what a survey that asks for no volume found
pub survey_of : (site : Devices) (found : RowsFound) (frames : ℕ) (volumes : List VolumeData) → frames ≡ FRAMES → volumes ≡ []
    → (site.tells → Surveys site.was.faults site.now.faults frames (serial_in volumes) (content site.was.told) found)
    → (site.tells → site.now.faults ≡ site.was.faults → site.was.faults < 18446744073709551615 → IsExact frames (serial_in volumes) (content site.was.told) found)
    → KeepsFault site.was.faults site.now.faults found → IsSurvey site found
survey_of site found frames volumes all none told exact kept =
    let same : (frames, volumes) ≡ (FRAMES, []) = λ i. (all i, none i) in
    record {
      told = λ t. subst (λ (p : ℕ × List VolumeData). Surveys site.was.faults site.now.faults p.0 (serial_in p.1) (content site.was.told) found) same (told t);
      exact = λ t well. subst (λ (p : ℕ × List VolumeData). IsExact p.0 (serial_in p.1) (content site.was.told) found) same (exact t well.same well.could_rise);
      kept = kept;
    }

pub any_config : (frames : ℕ) → 1 ≤ frames → frames ≤ FRAMES → IsConfig (record { frames = frames; recorders = 1; volumes = [] })
unfolding IsStrictlySortedBy IsDistinct
any_config frames some few = record { some_frames = omega (arith, some); few_frames = omega (arith, few); some_recorders = omega arith; few_recorders = omega arith; volumes_ = tt; rising = tt; serials = tt }

-- ---- where no call fails

-- no call failed before a moment between
same_between : (was mid now : ℕ) (answer : Answer) → NoneFailed was now → was ≤ mid → SiteCounts mid now answer → mid ≡ was
same_between was mid now (Ok x) none from counted = omega (arith, none.same, counted)
same_between was mid now (Err (report_fault.Read fault)) none from counted = absurd (omega (arith, none.same, none.could_rise, from, counted.rises))
same_between was mid now (Err report_fault.Output) none from counted = omega (arith, none.same, from, counted)
same_between was mid now (Err report_fault.Memory) none from counted = omega (arith, none.same, counted)

-- so no failed read is told
none_unread : (was now : ℕ) (answer : Answer) → NoneFailed was now → SiteCounts was now answer → AnswersNoRead answer
none_unread was now (Ok x) none counted = tt
none_unread was now (Err (report_fault.Read fault)) none counted = absurd (omega (arith, none.same, none.could_rise, counted.rises))
none_unread was now (Err report_fault.Output) none counted = tt
none_unread was now (Err report_fault.Memory) none counted = tt

pub none_rises : (was now : ℕ) → NoneFailed was now → Rises was now → ⊥
none_rises was now none rose = absurd (omega (arith, none.same, none.could_rise, rose))

fault_put : (site : Devices) (why : Refused) (sink : Stream) → site.tells → NoneFailed site.was.faults site.now.faults → IsSurveyLine site (line.RestartRefused why) → Put sink (one_line_text (line.RestartRefused why))
    → IsFaultPut (content site.was.told) sink
fault_put site refused.Memory sink tells none is put = absurd is
fault_put site (refused.RowUnread volume fault) sink tells none is put = absurd (is.exact tells none)
fault_put site (refused.Stopped fault) sink tells none is put = absurd (is.exact tells none)
fault_put site why sink tells none is put = record { why = why; first = is.exact tells none; put = put }

-- a content without a fault, as it was told
module _ (c : Content) (sink : Stream) (faultless : fault_shown c ≡ None) (sink_none : Rises sink.faults_was sink.faults_now → ⊥) where
  telling_shown : (site : ToldDevices) (answer : Answer) → site.tells → AnswersNoRead answer → (telling : Telling) → HasReason (finished End) (listing_matter (volumes_shown c)).volumes site.faults_was site.faults_now telling
      → IsPut (told_answer telling) (told_text (listing_matter (volumes_shown c)) telling) (seen_with site sink) answer → IsShown c sink (status_of ended.Done answer)
  telling_shown site answer tells read (whole e) reason (put_whole is bytes) = subst (λ (a : Answer). IsShown c sink (status_of ended.Done a)) (sym is)
      (faultless, λ t. bytes (tells, t) ∙ ap (λ (e : Ending). sink.was ++ told_text (listing_matter (volumes_shown c)) (whole e)) reason)
  telling_shown site answer tells read (unread place tracks fault) reason (put_whole is bytes) = absurd (subst (λ (a : Answer). AnswersNoRead a) is read)
  telling_shown site answer tells read telling reason (broken is rose front) = absurd (sink_none rose)
  telling_shown site answer tells read telling reason (cut is counted front) = subst (λ (a : Answer). IsShown c sink (status_of ended.Done a)) (sym is) tt

  pub lists_shown : (rows : List (Option RowValue)) (site : Devices) (told : Status) → site.tells → content site.was.told ≡ c → row_in_list rows ≡ rows_of c → (lists : Lists rows site sink told) → AnswersNoRead lists.answer → IsShown c sink told
  lists_shown rows site told tells holds same lists read =
      let is : IsReported (listing_matter (volumes_shown c)) (finished End) (told_devices site) sink lists.answer =
      subst (λ (p : RowsOf × Content). IsReported (listing_matter (shown_by p.0 p.1)) (finished End) (told_devices site) sink lists.answer) (λ i. (same i, holds i)) lists.listing in
      subst (λ (s : Status). IsShown c sink s) (sym lists.ends) (telling_shown (told_devices site) lists.answer tells read is.telling is.reason is.put)

module _ (asked : Option Command) (site : Devices) (sink : Stream) (well : LooksWell asked site sink) (told : Status) where
  line_shown : (said : OneLine) → IsUnlisted asked site said → IsLinePut said sink told → IsShown (content site.was.told) sink told
  line_shown said cause (line_broken is rose front) = absurd (none_rises _ _ well.sink_none rose)
  line_shown line.WordsRefused cause (line_whole is counted bytes) = absurd (cause.0 well.command)
  line_shown line.WantOfMemory cause (line_whole is counted bytes) = subst (λ (s : Status). IsShown (content site.was.told) sink s) (sym is) tt
  line_shown (line.RestartRefused why) cause (line_whole is counted bytes) = subst (λ (s : Status). IsShown (content site.was.told) sink s) (sym is)
      (fault_put site why sink well.can_see well.site_none cause.1 bytes)
  line_shown line.InputFault cause (line_whole is counted bytes) = absurd cause.1
  line_shown (line.JobRefused n kind) cause (line_whole is counted bytes) = absurd cause.1

  listing_shown : IsListed asked site sink told → IsShown (content site.was.told) sink told
  listing_shown is =
      let same : is.mid.faults ≡ site.was.faults = same_between _ _ _ is.lists.answer well.site_none is.survey.kept is.lists.counted in
      let exact : IsExact FRAMES none_asked (content site.was.told) (Ok is.rows) = is.survey.exact well.can_see (record { same = same; could_rise = well.site_none.could_rise }) in
      lists_shown (content site.was.told) sink exact.1 (none_rises _ _ well.sink_none) is.rows (since site is.mid) told well.can_see
      (ap (λ (log : SiteLog). content log) (is.unwritten well.can_see)) exact.0 is.lists (none_unread _ _ is.lists.answer (record { same = well.site_none.same ∙ sym same; could_rise = omega (arith, same, well.site_none.could_rise) }) is.lists.counted)

  pub look_complete : EndsShown asked site sink told → IsShown (content site.was.told) sink told
  look_complete (inl says) = line_shown says.said says.cause says.put
  look_complete (inr listed) = listing_shown listed

-- What a comparison leaves, and words that ask for none.
use Rattle.std.proofs.Common.{◌≡◌, inl, inr, ℕ, List, [], Option, Some, None, Err, refl, sym, ◌∙◌, subst, arith}
use Rattle.mss_base.specs.Counts.{Rises}
use Rattle.command_words.specs.declared.command.Command.{Command}
use Rattle.command_words.specs.declared.command.Command.TheVariants as command
use Rattle.compared_runs.specs.Comparing.{every_name}
use Rattle.compared_runs.proofs.Added.{never_stopped}
use Rattle.core_state.specs.declared.session.Session.{Session}
use Rattle.job_text.specs.Jobs.{JobData}
use Rattle.report_text.specs.declared.one_line.OneLine.{OneLine}
use Rattle.report_text.specs.declared.one_line.OneLine.TheVariants as line
use Rattle.serial_driver.specs.declared.answer.DriveAnswer.{DriveAnswer}
use Rattle.serial_driver.specs.declared.answer.DriveAnswer.TheVariants as ended
use Rattle.session_report.specs.Parties.{Stream, IsUntouched}
use Rattle.mss_top.specs.Admission.{Asks, IsNoJob}
use Rattle.mss_top.specs.Comparing.{AskToCompare, ComparesJob, ComparesWell, EndsCompared, IsUncompared}
use Rattle.mss_top.specs.Serial.{Chooses, IsComplete}
use Rattle.mss_top.specs.Status.{IsLinePut, IsTextPut, whole, broken, end_status, line_status}
use Rattle.mss_top.specs.declared.status.Status.{Status}
use Rattle.mss_top.specs.declared.status.Status.TheVariants as status
use Rattle.mss_top.proofs.Broken.{line_unstopped}
use Rattle.mss_top.proofs.Fair.{input_complete, line_complete, no_rise}

-- the words ask for nothing
pub refused_compare : (asked : Option Command) (input : Stream) (said : OneLine) → Asks asked (Err said) → IsUntouched input → IsUncompared asked input said
refused_compare asked input line.WordsRefused is untouched = (λ asks. let e : ◌≡◌ {A = Option Command} None (Some command.Compare) = sym is ∙ asks in cc, untouched)
refused_compare asked input line.WantOfMemory is untouched = inl untouched
refused_compare asked input line.InputFault is untouched = absurd is
refused_compare asked input (line.JobRefused n kind) is untouched = absurd is
refused_compare asked input (line.RestartRefused why) is untouched = absurd is

-- they ask for a comparison, and the input has no job
pub jobless_compare : (asked : Option Command) (input : Stream) (said : OneLine) → AskToCompare asked → IsNoJob input said → IsUncompared asked input said
jobless_compare asked input line.InputFault asks is = (asks, is)
jobless_compare asked input (line.JobRefused n kind) asks is = (asks, is)
jobless_compare asked input line.WantOfMemory asks is = inr asks
jobless_compare asked input line.WordsRefused asks is = absurd is
jobless_compare asked input (line.RestartRefused why) asks is = absurd is

-- the end of words that have no job
pub ends_uncompared : (asked : Option Command) (other : Chooses) (input sink : Stream) (told : Status) (sessions : List Session) (said : OneLine)
    → sessions ≡ [] → IsUncompared asked input said → IsLinePut said sink told → EndsCompared asked other input sink told sessions
ends_uncompared asked other input sink told sessions said none cause put = inl (record { says = record { said = said; cause = cause; put = put }; none = none })

-- no session of a comparison is stopped, so its status is none of that
end_going : (end : DriveAnswer) → ((fault : ℕ) → end ≡ ended.Stopped fault → ⊥) → end_status end ≡ status.Stopped → ⊥
end_going ended.Done never is = cc
end_going ended.CommandLimit never is = cc
end_going (ended.Stopped fault) never is = never fault refl
end_going ended.Memory never is = cc

text_going : (text : List ℕ) (due : Status) (sink : Stream) (told : Status) → (due ≡ status.Stopped → ⊥) → IsTextPut text due sink told → told ≡ status.Stopped → ⊥
text_going text due sink told going (whole is counted bytes) stop = going (sym is ∙ stop)
text_going text due sink told going (broken is rose front) stop = absurd (let e : status.OutputFault ≡ status.Stopped = sym is ∙ stop in cc)

job_going : (other : Chooses) (job : JobData) (sink : Stream) (told : Status) (sessions : List Session) → ComparesJob other job sink told sessions → told ≡ status.Stopped → ⊥
job_going other job sink told sessions is = text_going _ _ sink told (end_going is.end (never_stopped (Unit {0}) other job every_name sessions is.end is.compares)) is.put

pub compare_going : (asked : Option Command) (other : Chooses) (input sink : Stream) (told : Status) (sessions : List Session) → EndsCompared asked other input sink told sessions → told ≡ status.Stopped → ⊥
compare_going asked other input sink told sessions (inl is) = line_unstopped is.says.said sink told is.says.put
compare_going asked other input sink told sessions (inr is) = job_going other is.job sink told sessions is.done

-- ---- completeness

end_complete : (end : DriveAnswer) → ((fault : ℕ) → end ≡ ended.Stopped fault → ⊥) → IsComplete (end_status end)
end_complete ended.Done never = tt
end_complete ended.CommandLimit never = tt
end_complete (ended.Stopped fault) never = absurd (never fault refl)
end_complete ended.Memory never = tt

text_complete : (text : List ℕ) (due : Status) (sink : Stream) (told : Status) → (Rises sink.faults_was sink.faults_now → ⊥) → IsComplete due → IsTextPut text due sink told → IsComplete told
text_complete text due sink told none complete (whole is counted bytes) = subst IsComplete (sym is) complete
text_complete text due sink told none complete (broken is rose front) = absurd (none rose)

module _ (asked : Option Command) (other : Chooses) (input sink : Stream) (job : JobData) (well : ComparesWell asked input sink job) where
  silent : Rises sink.faults_was sink.faults_now → ⊥
  silent rose = no_rise _ _ _ _ well.sink_none (omega arith) (omega arith) rose

  uncompared_complete : (said : OneLine) → IsUncompared asked input said → IsComplete (line_status said)
  uncompared_complete line.WordsRefused cause = absurd (cause.0 well.command)
  uncompared_complete line.WantOfMemory cause = tt
  uncompared_complete line.InputFault cause = input_complete job input well.input_none line.InputFault well.can_read well.text cause.1
  uncompared_complete (line.JobRefused n kind) cause = input_complete job input well.input_none (line.JobRefused n kind) well.can_read well.text cause.1
  uncompared_complete (line.RestartRefused why) cause = input_complete job input well.input_none (line.RestartRefused why) well.can_read well.text cause.1

  pub compare_complete : (told : Status) (sessions : List Session) → EndsCompared asked other input sink told sessions → IsComplete told
  compare_complete told sessions (inl is) = line_complete is.says.said sink told silent (uncompared_complete is.says.said is.says.cause) is.says.put
  compare_complete told sessions (inr is) = text_complete _ _ sink told silent
      (end_complete is.done.end (never_stopped (Unit {0}) other is.job every_name sessions is.done.end is.done.compares)) is.done.put

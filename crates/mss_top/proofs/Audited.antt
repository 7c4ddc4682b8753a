-- What came of an audit, and of words that ask for none.
use Rattle.std.proofs.Common.{◌≡◌, inl, inr, ℕ, List, ◌++◌, Option, Some, None, Ok, Err, sym, ◌∙◌, ap, subst}
use Rattle.mss_base.specs.Content.{Content, content}
use Rattle.command_words.specs.declared.command.Command.{Command}
use Rattle.command_words.specs.declared.command.Command.TheVariants.{Audit}
use Rattle.report_text.specs.declared.one_line.OneLine.{OneLine}
use Rattle.report_text.specs.declared.one_line.OneLine.TheVariants as line
use Rattle.mss_audit.specs.Texts.{audit_text}
use Rattle.mss_audit.specs.declared.finding.AuditFault.TheVariants.{Read, Memory}
use Rattle.mss_audit.specs.declared.finding.Finding.{Finding}
use Rattle.session_report.specs.Parties.{Stream}
use Rattle.job_runs.specs.Parties.{Devices}
use Rattle.mss_top.specs.Admission.{Asks}
use Rattle.mss_top.specs.Auditing.{Answered, Audits, AuditsWell, EndsAudit, IsAudit, IsUnaudited, IsWrongPut, answer_status, answer_text}
use Rattle.mss_top.specs.Status.{IsLinePut, IsTextPut, whole, broken}
use Rattle.mss_top.specs.declared.status.Status.{Status}
use Rattle.mss_top.proofs.Looked.{none_rises}

-- words that ask for none
pub refused_audit : (asked : Option Command) (site : Devices) (said : OneLine) → Asks asked (Err said) → site.now ≡ site.was → IsUnaudited asked site said
refused_audit asked site line.WordsRefused is same = (λ frames asks. let e : ◌≡◌ {A = Option Command} None (Some (Audit frames)) = sym is ∙ asks in cc, same)
refused_audit asked site line.WantOfMemory is same = same
refused_audit asked site line.InputFault is same = absurd is
refused_audit asked site (line.JobRefused n kind) is same = absurd is
refused_audit asked site (line.RestartRefused why) is same = absurd is

-- where no call fails
module _ (asked : Option Command) (site : Devices) (sink : Stream) (frames : ℕ) (well : AuditsWell asked frames site sink) (told : Status) where
  abbrev c : Content
  c = content site.was.told

  answer_put : (answer : Answered) → IsAudit frames site answer → IsTextPut (answer_text answer) (answer_status answer) sink told → IsWrongPut frames c sink told
  answer_put answer audit (broken is rose front) = absurd (none_rises _ _ well.sink_none rose)
  answer_put (Ok listed) audit (whole is counted bytes) = subst (λ (s : Status). IsWrongPut frames c sink s) (sym is)
      (λ t. bytes t ∙ ap (λ (l : List Finding). sink.was ++ audit_text l) (audit.list well.can_see))
  answer_put (Err (Read fault)) audit (whole is counted bytes) = absurd (none_rises _ _ well.site_none audit.counts.rises)
  answer_put (Err Memory) audit (whole is counted bytes) = subst (λ (s : Status). IsWrongPut frames c sink s) (sym is) tt

  line_put : (said : OneLine) → IsUnaudited asked site said → IsLinePut said sink told → IsWrongPut frames c sink told
  line_put said cause (broken is rose front) = absurd (none_rises _ _ well.sink_none rose)
  line_put line.WordsRefused cause (whole is counted bytes) = absurd (cause.0 frames well.command)
  line_put line.WantOfMemory cause (whole is counted bytes) = subst (λ (s : Status). IsWrongPut frames c sink s) (sym is) tt
  line_put line.InputFault cause (whole is counted bytes) = absurd cause
  line_put (line.JobRefused n kind) cause (whole is counted bytes) = absurd cause
  line_put (line.RestartRefused why) cause (whole is counted bytes) = absurd cause

  -- words ask for one count of frames
  same_frames : (other : ℕ) → asked ≡ Some (Audit other) → other ≡ frames
  same_frames other asks = let both : ◌≡◌ {A = Option Command} (Some (Audit other)) (Some (Audit frames)) = sym asks ∙ well.command in cc

  pub audit_complete : EndsAudit asked site sink told → IsWrongPut frames c sink told
  audit_complete (inl says) = line_put says.said says.cause says.put
  audit_complete (inr is) =
      let audits : Audits frames site sink told = subst (λ (n : ℕ). Audits n site sink told) (same_frames is.frames is.command) is.audits in
      answer_put audits.answer audits.audit audits.put

-- What the words ask for is done, or they are refused.
use Rattle.std.proofs.Common.{◌≡◌, inl, inr, ℕ, List, [], Option, Some, None, Err, refl, sym, ◌∙◌, subst}
use Rattle.mss_base.specs.Content.{Content}
use Rattle.command_words.specs.declared.command.Command.{Command}
use Rattle.command_words.specs.declared.command.CopyAsked.{CopyAsked}
use Rattle.command_words.specs.declared.command.Command.TheVariants.{Serial, Policy, Threads, Show, Audit, Compare}
use Rattle.core_state.specs.declared.session.Session.{Session}
use Rattle.report_text.specs.declared.one_line.OneLine.{OneLine}
use Rattle.report_text.specs.declared.one_line.OneLine.TheVariants as line
use Rattle.session_report.specs.Parties.{IsUntouched}
use Rattle.job_runs.specs.Parties.{Devices}
use Rattle.mss_top.specs.Admission.{Asks}
use Rattle.mss_top.specs.Obeying.{Does, IsRefusalLine, IsWhole, Parties}
use Rattle.mss_top.specs.Serial.{Chooses, EndsCommand}
use Rattle.mss_top.specs.Showing.{IsUnlisted, LooksExactly}
use Rattle.mss_top.specs.Status.{IsLinePut}
use Rattle.mss_top.specs.declared.status.Status.{Status}
use Rattle.mss_top.proofs.Admitting.{refused_words}
use Rattle.mss_top.proofs.Audited.{audit_complete, refused_audit}
use Rattle.mss_top.proofs.ComparedJobs.{compare_complete, refused_compare}
use Rattle.mss_top.proofs.Completed.{run_complete}
use Rattle.mss_top.proofs.CompletedThreads.{threads_complete}
use Rattle.mss_top.proofs.Looked.{look_complete}
use Rattle.mss_top.proofs.Threading.{ends_kept_out, refused_threads}
use Rattle.victim_rules.specs.Rules.{RulesMay}
use Rattle.victim_rules.specs.declared.rule.Rule.{Rule}

-- where nothing fails, what was done is whole
pub whole_of : (asked : Option Command) (may other : Chooses) (p : Parties) (told : Status) (session : Option Session) → Does asked may other p told session → IsWhole asked p told
whole_of None may other p told session does = tt
whole_of (Some Show) may other p told session does = λ well. look_complete (Some Show) p.site p.sink well told does
whole_of (Some (Audit frames)) may other p told session does = λ well. audit_complete (Some (Audit frames)) p.site p.sink frames well told does
whole_of (Some Compare) may other p told session does = λ job well. compare_complete (Some Compare) other p.input p.sink job well told does.0.sessions does.0.ended
whole_of (Some (Threads copy)) may other p told session does = λ job well. threads_complete (Some (Threads copy)) p.input p.site p.sink job well told does.0 session does.1
whole_of (Some (Serial order turns load copy)) may other p told session does = λ settings job well.
    run_complete (Some (Serial order turns load copy)) p.input p.site p.sink settings job well told may session does
whole_of (Some (Policy rules order turns load copy)) may other p told session does = λ settings job well.
    run_complete (Some (Serial order turns load copy)) p.input p.site p.sink settings job well told (RulesMay rules) session does

-- ---- words that are refused

module _ (asked : Option Command) where
  refusal_line : (said : OneLine) → Asks asked (Err said) → IsRefusalLine said
  refusal_line line.WordsRefused is = inl refl
  refusal_line line.WantOfMemory is = inr refl
  refusal_line line.InputFault is = absurd is
  refusal_line (line.JobRefused n kind) is = absurd is
  refusal_line (line.RestartRefused why) is = absurd is

  -- nothing is listed
  pub refused_look : (site : Devices) (said : OneLine) → Asks asked (Err said) → site.now ≡ site.was → IsUnlisted asked site said
  refused_look site line.WordsRefused is same = (λ asks. let e : ◌≡◌ {A = Option Command} None (Some Show) = sym is ∙ asks in cc, same)
  refused_look site line.WantOfMemory is same = tt
  refused_look site line.InputFault is same = absurd is
  refused_look site (line.JobRefused n kind) is same = absurd is
  refused_look site (line.RestartRefused why) is same = absurd is

  pub refused_exactly : (c : Content) (said : OneLine) → Asks asked (Err said) → asked ≡ Some Show → LooksExactly c (Err said)
  refused_exactly c line.WordsRefused is asks = let e : ◌≡◌ {A = Option Command} None (Some Show) = sym is ∙ asks in absurd cc
  refused_exactly c line.WantOfMemory is asks = tt
  refused_exactly c line.InputFault is asks = absurd is
  refused_exactly c (line.JobRefused n kind) is asks = absurd is
  refused_exactly c (line.RestartRefused why) is asks = absurd is

-- a run of `serial`
refused_run : (order turns : ℕ) (load : Option ℕ) (copy : Option CopyAsked) (may : Chooses) (p : Parties) (told : Status) (session : Option Session) (said : OneLine)
    → Asks (Some (Serial order turns load copy)) (Err said) → IsUntouched p.input → p.site.now ≡ p.site.was → session ≡ None → IsLinePut said p.sink told
    → EndsCommand (Some (Serial order turns load copy)) may p.input p.site p.sink told session
refused_run order turns load copy may p told session said is untouched same none put =
    subst (λ (l : Option Session). EndsCommand (Some (Serial order turns load copy)) may p.input p.site p.sink told l) (sym none)
    (record { said = said; cause = inl (record { unread = refused_words (Some (Serial order turns load copy)) p.input said is untouched; devices_ = same }); put = put })

-- of words that ask for a run by rules only want of memory can be told
asks_serial : (rules : List Rule) (order turns : ℕ) (load : Option ℕ) (copy : Option CopyAsked) (said : OneLine) → Asks (Some (Policy rules order turns load copy)) (Err said) → Asks (Some (Serial order turns load copy)) (Err said)
asks_serial rules order turns load copy line.WordsRefused is = absurd cc
asks_serial rules order turns load copy line.WantOfMemory is = tt
asks_serial rules order turns load copy line.InputFault is = is
asks_serial rules order turns load copy (line.JobRefused n kind) is = is
asks_serial rules order turns load copy (line.RestartRefused why) is = is

-- whatever they ask for, if memory ran out before that was known
pub refused_does : (asked : Option Command) (may other : Chooses) (p : Parties) (told : Status) (session : Option Session) (said : OneLine)
    → Asks asked (Err said) → IsUntouched p.input → p.site.now ≡ p.site.was → session ≡ None → IsLinePut said p.sink told → Does asked may other p told session
refused_does None may other p told session said is untouched same none put =
    record { says = record { said = said; cause = refusal_line None said is; put = put }; unread = untouched; devices_ = same; none = none }
refused_does (Some Show) may other p told session said is untouched same none put = inl (record { said = said; cause = refused_look (Some Show) p.site said is same; put = put })
refused_does (Some (Audit frames)) may other p told session said is untouched same none put = inl (record { said = said; cause = refused_audit (Some (Audit frames)) p.site said is same; put = put })
refused_does (Some Compare) may other p told session said is untouched same none put =
    (record { sessions = []; ended = inl (record { says = record { said = said; cause = refused_compare (Some Compare) p.input said is untouched; put = put }; none = refl }) }, same, none)
refused_does (Some (Threads copy)) may other p told session said is untouched same none put =
    ([], ends_kept_out (Some (Threads copy)) p.input p.site p.sink told [] said session none refl (refused_threads (Some (Threads copy)) p.input said is untouched) same put)
refused_does (Some (Serial order turns load copy)) may other p told session said is untouched same none put =
    refused_run order turns load copy may p told session said is untouched same none put
refused_does (Some (Policy rules order turns load copy)) may other p told session said is untouched same none put =
    refused_run order turns load copy (RulesMay rules) p told session said (asks_serial rules order turns load copy said is) untouched same none put

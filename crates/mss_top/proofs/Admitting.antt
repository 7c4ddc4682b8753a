-- Why a run is admitted, or isn't; how many actors it has.
use Rattle.std.proofs.Common.{◌≡◌, ◌≤◌, ◌<◌, inl, inr, ℕ, true, List, [], ◌∷◌, length, map, Option, Some, None, Result, Ok, Err, refl, sym, ◌∙◌, subst, arith}
use Rattle.std.specs.Prelude.{◌==◌, IfErr, IfOk}
use Rattle.std.specs.List.{AllByRecursion, list_any}
use Rattle.std.proofs.lemmas.Bool.{eqb-true, or_cases}
use Rattle.std.proofs.lemmas.Map.Steps.{length-le_from_distinct_below}
use Rattle.std.proofs.lemmas.List.{length-map}
use Rattle.mss_base.specs.Configs.{VolumeData}
use Rattle.command_words.specs.declared.command.Command.{Command}
use Rattle.job_text.specs.Jobs.{IsJob, IsScript, JobData, ScriptData}
use Rattle.draws.specs.Load.{load_job}
use Rattle.report_text.specs.declared.one_line.OneLine.{OneLine}
use Rattle.report_text.specs.declared.one_line.OneLine.TheVariants as line
use Rattle.session_report.specs.Parties.{Stream, IsUntouched}
use Rattle.mss_top.specs.Admission.{AskToRun, Asks, GivesJob, IsJobOf, IsJobless, IsUnread, command_of}
use Rattle.mss_top.specs.declared.admission.Settings.{Settings}

-- ---- actors

below_nine : (volumes : List VolumeData) (q : ℕ) (scripts : List ScriptData) → AllByRecursion (IsScript volumes) scripts → list_any (λ h. q == h) (map (λ script. script.host) scripts) ≡ true → q < 9
below_nine volumes q [] all is = absurd cc
below_nine volumes q (script ∷ scripts) all is = elim (or_cases (q == script.host) (list_any (λ h. q == h) (map (λ script. script.host) scripts)) is) [
  | inl here ↦ omega (arith, eqb-true q script.host here, all.0.high)
  | inr there ↦ below_nine volumes q scripts all.1 there
]

pub few_hosts : (job : JobData) → IsJob job → length job.hosts ≤ 9
few_hosts job is = subst (λ (n : ℕ). n ≤ 9) (length-map job.hosts (λ (script : ScriptData). script.host))
    (length-le_from_distinct_below (map (λ (script : ScriptData). script.host) job.hosts) 9 is.hosts_differ (λ q. below_nine job.config.volumes q job.hosts is.scripts))

-- ---- why no run is admitted

-- the words are at fault
pub refused_words : (asked : Option Command) (input : Stream) (said : OneLine) → Asks asked (Err said) → IsUntouched input → IsUnread asked input said
refused_words asked input line.WordsRefused is untouched = (λ settings asks. let e : ◌≡◌ {A = Option Command} None (Some (command_of settings)) = sym is ∙ asks in cc, untouched)
refused_words asked input line.WantOfMemory is untouched = inl untouched
refused_words asked input line.InputFault is untouched = absurd is
refused_words asked input (line.JobRefused n kind) is untouched = absurd is
refused_words asked input (line.RestartRefused why) is untouched = absurd is

never_words : (load : Option ℕ) (input : Stream) → IsJobless load input line.WordsRefused → ⊥
never_words (Some programs) input is = absurd (let e : line.WordsRefused ≡ line.WantOfMemory = is.0 in cc)
never_words None input is = is

-- the input was read for its job alone
read_for : (asked : Option Command) (input : Stream) (settings : Settings) → AskToRun asked settings → (load : Option ℕ) → settings.load ≡ load → ((programs : ℕ) → load ≡ Some programs → IsUntouched input) → IsUnread asked input line.WantOfMemory
read_for asked input settings asks None is untouched = inr (record { settings = settings; command = asks; unloaded = is })
read_for asked input settings asks (Some programs) is untouched = inl (untouched programs refl)

vain_untouched : (load : Option ℕ) (input : Stream) (said : OneLine) → IsJobless load input said → (programs : ℕ) → load ≡ Some programs → IsUntouched input
vain_untouched (Some n) input said is programs at = is.1
vain_untouched None input said is programs at = absurd cc

job_untouched : (load : Option ℕ) (order : ℕ) (input : Stream) (job : JobData) → IsJobOf load order input job → (programs : ℕ) → load ≡ Some programs → IsUntouched input
job_untouched (Some n) order input job is programs at = is.1
job_untouched None order input job is programs at = absurd cc

-- the job is wanting
pub in_vain : (asked : Option Command) (input : Stream) (settings : Settings) (said : OneLine) → AskToRun asked settings → IsJobless settings.load input said → IsUnread asked input said
in_vain asked input settings line.WordsRefused asks is = absurd (never_words settings.load input is)
in_vain asked input settings line.WantOfMemory asks is = read_for asked input settings asks settings.load refl (vain_untouched settings.load input line.WantOfMemory is)
in_vain asked input settings said asks is = record { settings = settings; command = asks; jobless = is }

-- memory is
pub unread_memory : (asked : Option Command) (input : Stream) (settings : Settings) (job : JobData) (said : OneLine) → AskToRun asked settings → IsJobOf settings.load settings.order input job → said ≡ line.WantOfMemory → IsUnread asked input said
unread_memory asked input settings job said asks held is =
    subst (λ (l : OneLine). IsUnread asked input l) (sym is) (read_for asked input settings asks settings.load refl (job_untouched settings.load settings.order input job held))

-- a load is drawn, or memory is wanting
pub load_given : (programs order : ℕ) (input : Stream) (r : Result JobData OneLine) → IfOk r (λ job. job ≡ load_job order programs) → IfErr r (λ said. said ≡ line.WantOfMemory) → IsUntouched input → GivesJob (Some programs) order input r
load_given programs order input (Ok job) drawn memory untouched = (drawn, untouched)
load_given programs order input (Err said) drawn memory untouched = (memory, untouched)

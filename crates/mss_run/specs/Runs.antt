-- How hosts ended, and what ended a run.
use Rattle.std.specs.Prelude.{◌≡◌, ◌≤◌, ◌⊎◌, ℕ, ◌==◌, Bool, ◌&&◌, List, [], ◌∷◌, length, map, Option, Some, None, if◌then◌else◌}
use Rattle.std.specs.List.{AllByRecursion, list_all}
use Rattle.mss_base.specs.Listing.{Listing}
use Rattle.mss_base.specs.Sound.{StaysSound}
use Rattle.mss_base.specs.declared.place.UnitNo.{UnitNo}
use Rattle.mss_base.specs.declared.site.Site.{Ghosts}
use Rattle.ckd_plain.specs.History.{EntryData, IsLegal}
use Rattle.core_state.specs.CoreValue.{CoreValue, seen_core}
use Rattle.core_state.specs.IsCore.{opening_of}
use Rattle.core_state.specs.declared.session.TheConstants.{ENTRY_LIMIT}
use Rattle.channel_program.specs.Items.{EndsScript}
use Rattle.channel_program.specs.Script.{Follows}
use Rattle.job_text.specs.Jobs.{JobData, ScriptData}
use Rattle.seen_book.specs.Entries.{entries_of}
use Rattle.seen_book.specs.Books.{AreOfThese, PassData}
use Rattle.mss_run.specs.declared.ends.RunAnswer.{RunAnswer}
use Rattle.mss_run.specs.declared.ends.RunAnswer.TheVariants as answer
use Rattle.mss_run.specs.Led.{LeadsTo}
use Rattle.mss_run.specs.Owns.{places_of, exchanges_of, asked_of, asked_by}

-- ---- what a run takes before its first actor

-- an empty list, with room for so many
pub record IsEmptyFor {T : Type 0} (count : ℕ) (list : Listing T) : Type 0 where
  pub empty : list.items ≡ []
  pub room : count ≤ list.spare

-- ---- how hosts ended

-- a host's end: whether it came to the end of its script, and its places in the history
pub record EndData : Type 0 where
  pub host : ℕ
  pub finished : Bool
  pub own : List ℕ

-- the end of a script in a history: its places are all that its host was told of, and what it was
-- told follows the script, to its end or not
pub record IsEndIn (log : List EntryData) (script : ScriptData) (e : EndData) : Type 0 where
  pub host_ : e.host ≡ script.host
  pub own_ : e.own ≡ places_of script.host log
  pub follows : EndsScript script.items (exchanges_of script.host log) e.finished

-- the ends of scripts, in order
abbrev pub AreEndsIn : List EntryData → List ScriptData → List EndData → Type 0
AreEndsIn log [] [] = Unit {0}
AreEndsIn log (s ∷ ss) (e ∷ es) = IsEndIn log s e × AreEndsIn log ss es
AreEndsIn log _ _ = ⊥

-- a run leaves the ends of all hosts; or of none, for want of memory before any made a call
abbrev pub LeavesEnds : List EntryData → List ScriptData → List EndData → Type 0
LeavesEnds log scripts ends = AreEndsIn log scripts ends ⊎ ((ends ≡ []) × (log ≡ []))

-- what each host asked follows its script, also the call that stopped the core
abbrev pub AskByScript : List EntryData → List ScriptData → Type 0
AskByScript log scripts = AllByRecursion (λ s. Follows s.items (asked_of s.host log)) scripts

abbrev pub hosts_of : List ScriptData → List ℕ
hosts_of scripts = map (λ (s : ScriptData). s.host) scripts

-- ---- a host while others go on

-- its pass and its end
pub record IsRun (script : ScriptData) (p : PassData) (e : EndData) : Type 0 where
  pub host_ : p.host ≡ script.host
  pub own : entries_of p.host p.seen ≡ p.mine
  pub ended : IsEndIn p.seen script e
  pub asks : Follows script.items (asked_by p)

abbrev pub AreRuns : List ScriptData → List PassData → List EndData → Type 0
AreRuns [] [] [] = Unit {0}
AreRuns (s ∷ ss) (p ∷ ps) (e ∷ es) = IsRun s p e × AreRuns ss ps es
AreRuns _ _ _ = ⊥

-- its pass before its first call
pub record IsStart (script : ScriptData) (p : PassData) : Type 0 where
  pub host_ : p.host ≡ script.host
  pub fresh : p.seen ≡ []

abbrev pub AreStarts : List ScriptData → List PassData → Type 0
AreStarts [] [] = Unit {0}
AreStarts (s ∷ ss) (p ∷ ps) = IsStart s p × AreStarts ss ps
AreStarts _ _ = ⊥

-- ---- what ended a run

-- every host of the job came to an end, and was finished
abbrev pub are_finished : ℕ → List EndData → Bool
are_finished hosts ends = (length ends == hosts) && list_all (λ (e : EndData). e.finished) ends

-- the first that applies: the core is stopped; every host is finished; the history is full, and each
-- host came to an end
abbrev pub run_answer : Option ℕ → ℕ → ℕ → List EndData → RunAnswer
run_answer (Some fault) entries hosts ends = answer.Stopped fault
run_answer None entries hosts ends =
    if are_finished hosts ends then answer.Done
    else (if (entries == ENTRY_LIMIT) && (length ends == hosts) then answer.CommandLimit
    else answer.Memory)

-- ---- what a run leaves

-- events led to a later core of the same session, whose history is legal and of the job's hosts; how
-- each of them ended, and what ended the run; copies: whether a copy is taken meanwhile
pub record LeavesRun {S C : Type 0} (g : Ghosts S) (job : JobData) (copies : Bool)
    (core after : CoreValue S C) (ends : List EndData) (answer : RunAnswer) : Type 0 where
  pub led : LeadsTo g.tells copies (seen_core g core) (seen_core g after)
  pub sound : StaysSound g.never_fails_but core.site after.site
  pub only_reads_fail : (but : UnitNo → Bool) → g.never_fails_but core.site but
      → core.stopped ≡ None → after.stopped ≡ None
  pub legal : g.tells → IsLegal (opening_of (g.told core.site) core) after.history
  pub hosts : AreOfThese (hosts_of job.hosts) after.history
  pub ends_ : LeavesEnds after.history job.hosts ends
  pub follow : AskByScript after.history job.hosts
  pub answer_ : answer ≡ run_answer after.stopped (length after.history) (length job.hosts) ends

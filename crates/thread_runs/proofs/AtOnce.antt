-- A session of a job in threads, from its parts.
use Rattle.std.proofs.Common.{◌≡◌, ◌⊎◌, inl, inr, ◌≤◌, ℕ, zero, suc, Bool, true, false, cond, List, [], ◌∷◌, ◌==◌, ◌&&◌, length, map, Option, Some, None, if◌then◌else◌, eq-eqb, refl, sym, ◌∙◌, ap, subst, arith, Contains}
use Rattle.std.proofs.lemmas.Bool.{cases_Bool, cond-false, eqb-true, false≢true}
use Rattle.std.proofs.lemmas.List.Elements.{All-head, All-tail}
use Rattle.mss_base.specs.Sound.{StaysSound}
use Rattle.mss_base.specs.declared.site.Site.{Ghosts}
use Rattle.channel_program.specs.Script.{Exchange, Follows}
use Rattle.ckd_plain.specs.History.{EntryData}
use Rattle.job_text.specs.Jobs.{JobData, ScriptData}
use Rattle.mss_restart.specs.Creations.{WritesOn}
use Rattle.seen_book.specs.Books.{AreOfThese, IsOfOne}
use Rattle.seen_book.specs.Entries.{entries_of}
use Rattle.core_state.specs.Beginning.{IsLater}
use Rattle.core_state.specs.Counted.{AreMarks, IsCounted}
use Rattle.core_state.specs.CoreValue.{CoreValue, DevicesSeen, seen_core, seen_site}
use Rattle.core_state.specs.SessionData.{SessionData, data_of}
use Rattle.mss_run.specs.Led.{LeadsTo}
use Rattle.mss_run.specs.Runs.{EndData, AskByScript, LeavesEnds, are_finished, hosts_of, run_answer}
use Rattle.mss_run.specs.declared.ends.RunAnswer.TheVariants as answer
use Rattle.mss_run.specs.Owns.{asked_of, exchange}
use Rattle.script_places.specs.Scripts.{exchanges_of, script_of}
use Rattle.serial_driver.specs.declared.answer.DriveAnswer.{DriveAnswer}
use Rattle.session_report.specs.Parties.{Stream}
use Rattle.job_runs.specs.Parties.{Devices, devices}
use Rattle.job_runs.specs.Runs.{FollowScripts, IsBegun, IsHalted, IsPromised, TellsSession}
use Rattle.job_runs.specs.declared.run.Outcome.{Outcome}
use Rattle.job_runs.specs.declared.run.Outcome.TheVariants.{Untaken, Ran}
use Rattle.std.specs.Prelude.{is_some}
use Rattle.volume_copy.specs.Beside.{asked_copy}
use Rattle.volume_copy.specs.Copies.{AskedCopy, CopyData}
use Rattle.job_runs.specs.Copies.{EndsForCopy, JobAsked}
use Rattle.job_runs.proofs.FinishFacts.{told_going}
use Rattle.thread_runs.specs.Runs.{EndsAtOnce, EndsAs, IsPlayedAtOnce, IsSessionAtOnce, ended_as}

-- ---- how it ended

going_halts : (finished full : Bool) → IsHalted (ended_as (if finished then answer.Done else (if full then answer.CommandLimit else answer.Memory))) None
going_halts true full = refl
going_halts false true = refl
going_halts false false = refl

-- a run in threads ends in a stop just where its core is stopped
pub run_halts : (stop : Option ℕ) (entries hosts : ℕ) (ends : List EndData) → IsHalted (ended_as (run_answer stop entries hosts ends)) stop
run_halts (Some fault) entries hosts ends = refl
run_halts None entries hosts ends = going_halts (are_finished hosts ends) ((entries == 4096) && (length ends == hosts))

-- memory that runs out for the rest of a copy stops no core
halts_as : (copy : Option AskedCopy) (run end : DriveAnswer) (stop : Option ℕ) → EndsAs copy run end → IsHalted run stop → IsHalted end stop
halts_as None run end stop same halts = subst (λ (e : DriveAnswer). IsHalted e stop) (sym same) halts
halts_as (Some copy) run end stop (inl same) halts = subst (λ (e : DriveAnswer). IsHalted e stop) (sym same) halts
halts_as (Some copy) run end stop (inr it) halts = subst (λ (e : DriveAnswer). IsHalted e stop) (sym it.1) (told_going run stop it.0 halts)

pub ends_as : (copier : Option CopyData) (run end : DriveAnswer) → (end ≡ run) ⊎ EndsForCopy copier run end → (copy : Option AskedCopy) → asked_copy copier ≡ copy → EndsAs copy run end
ends_as copier run end (inl same) None is = same
ends_as copier run end (inl same) (Some copy) is = inl same
ends_as copier run end (inr it) None is = absurd (let e : true ≡ false = sym it.copies_ ∙ ap is_some is in cc)
ends_as copier run end (inr it) (Some copy) is = inr (it.by_itself, it.memory)

pub played_halts : (asked_ : JobAsked) (site : Devices) (end : DriveAnswer) (hosts : List EndData) (s : SessionData) → IsPlayedAtOnce asked_ site end hosts s → IsHalted end s.stopped
played_halts asked_ site end hosts s is =
    halts_as asked_.copy (ended_as (run_answer s.stopped (length s.history) (length asked_.job.hosts) hosts)) end s.stopped is.ended_ (run_halts s.stopped (length s.history) (length asked_.job.hosts) hosts)

-- ---- scripts

asked_same : (h : ℕ) (log : List EntryData) → exchanges_of h log ≡ asked_of h log
asked_same h [] = refl
asked_same h (e ∷ es) = go (e.host == h) (asked_same h es)
  where
    go : (b : Bool) → exchanges_of h es ≡ map exchange (entries_of h es) → cond b ((e.call, e.reply) ∷ exchanges_of h es) (exchanges_of h es) ≡ map exchange (cond b (e ∷ entries_of h es) (entries_of h es))
    go true same = ap (λ (xs : List Exchange). (e.call, e.reply) ∷ xs) same
    go false same = same

-- a host that isn't among these asked nothing
asked_none : (hosts : List ℕ) (h : ℕ) (log : List EntryData) → AreOfThese hosts log → (Contains hosts h → ⊥) → exchanges_of h log ≡ []
asked_none hosts h [] are other = refl
asked_none hosts h (e ∷ es) are other =
    let first : (e.host == h) ≡ false = elim (cases_Bool (e.host == h)) [
      | inl same ↦ absurd (other (subst (Contains hosts) (eqb-true e.host h same) (All-head (IsOfOne hosts) e es are)))
      | inr apart ↦ apart
    ] in
    cond-false (e.host == h) ((e.call, e.reply) ∷ exchanges_of h es) (exchanges_of h es) first ∙ asked_none hosts h es (All-tail (IsOfOne hosts) e es are) other

-- a host among these that isn't the first is among the others
in_rest : (s : ScriptData) (ss : List ScriptData) (h : ℕ) → (s.host == h) ≡ false → Contains (hosts_of (s ∷ ss)) h → Contains (hosts_of ss) h
in_rest s ss h apart (zero, below, here) = absurd (false≢true (sym apart ∙ eq-eqb s.host h here))
in_rest s ss h apart (suc k, below, here) = (k, omega (arith, below), here)

by_host : (s : ScriptData) (ss : List ScriptData) (h : ℕ) (log : List EntryData) → Follows s.items (asked_of s.host log) → ((s.host == h) ≡ false → Follows (script_of ss h) (exchanges_of h log))
    → (b : Bool) → (s.host == h) ≡ b → Follows (cond b s.items (script_of ss h)) (exchanges_of h log)
by_host s ss h log first others true is = subst (λ (xs : List Exchange). Follows s.items xs) (ap (λ (k : ℕ). asked_of k log) (eqb-true s.host h is) ∙ sym (asked_same h log)) first
by_host s ss h log first others false is = others is

-- what each host of a list asked follows its script, and others asked nothing
each_follows : (scripts : List ScriptData) (h : ℕ) (log : List EntryData) → AskByScript log scripts → ((Contains (hosts_of scripts) h → ⊥) → exchanges_of h log ≡ []) → Follows (script_of scripts h) (exchanges_of h log)
each_follows [] h log ask others = others (λ has. omega (arith, has.1))
each_follows (s ∷ ss) h log ask others =
    by_host s ss h log ask.0 (λ apart. each_follows ss h log ask.1 (λ out. others (λ has. out (in_rest s ss h apart has)))) (s.host == h) refl

pub follow_scripts : (scripts : List ScriptData) (log : List EntryData) → AskByScript log scripts → AreOfThese (hosts_of scripts) log → FollowScripts scripts log
follow_scripts scripts log ask are = λ h. each_follows scripts h log ask (asked_none (hosts_of scripts) h log are)

-- ---- its devices

marks_rise : (since : ℕ) (marks : List ℕ) (writes : ℕ) → AreMarks since marks writes → since ≤ writes
marks_rise since [] writes are = are
marks_rise since (mark ∷ marks) writes are = let rest = marks_rise mark marks writes are.1 in omega (arith, are.0, rest)

-- no count fell since it began
module _ {S C : Type 0} (g : Ghosts S) (core left : CoreValue S C)
    (began_writes : core.first_write ≡ g.writes core.site) (began_faults : core.first_faults ≡ g.faults core.site)
    (later : IsLater g.tells (seen_core g core) (seen_core g left))
    (counted : IsCounted (g.writes left.site) (g.faults left.site) left.requests (data_of left))
    (sound : StaysSound g.never_fails_but core.site left.site) where
  pub written_at_once : WritesOn g core.site left.site
  written_at_once =
      let first : left.first_write ≡ g.writes core.site = later.beginning.first_write ∙ began_writes in
      let then_ : left.first_faults ≡ g.faults core.site = later.beginning.first_faults ∙ began_faults in
      let marked : left.first_write ≤ g.writes left.site = marks_rise left.first_write left.marks (g.writes left.site) counted.marks_ in
      record {
        written = subst (λ (n : ℕ). n ≤ g.writes left.site) first marked;
        later = subst (λ (n : ℕ). n ≤ g.faults left.site) then_ counted.began;
        sound = sound;
      }

-- ---- the session

module _ {S C : Type 0} (g : Ghosts S) (job : JobData) (copy : Option AskedCopy) (core left : CoreValue S C) (end : DriveAnswer) (hosts : List EndData)
    (led : LeadsTo g.tells (is_some copy) (seen_core g core) (seen_core g left))
    (of_hosts : AreOfThese (hosts_of job.hosts) left.history) (ends : LeavesEnds left.history job.hosts hosts) (ask : AskByScript left.history job.hosts)
    (ended_ : EndsAs copy (ended_as (run_answer left.stopped (length left.history) (length job.hosts) hosts)) end)
    (was : DevicesSeen) (begun : IsBegun g.tells job.config was (seen_core g core))
    (promised : IsPromised job.config (record { tells = g.tells; was = was; now = seen_site g left.site }) (data_of left)) where
  pub played_at_once : IsPlayedAtOnce (record { job = job; copy = copy }) (record { tells = g.tells; was = was; now = seen_site g left.site }) end hosts (data_of left)
  played_at_once = record {
    led = record { began = seen_core g core; begun = begun; left = seen_core g left; led = led; devices_ = refl; session = refl };
    promised = promised;
    of_hosts = of_hosts;
    follow = follow_scripts job.hosts left.history ask of_hosts;
    ends = ends;
    ended_ = ended_;
  }

-- ---- and its report

module _ {S : Type 0} (g : Ghosts S) (asked_ : JobAsked)
    (was : DevicesSeen) (mid site : S) (end : DriveAnswer) (hosts : List EndData) (s : SessionData)
    (played : IsPlayedAtOnce asked_ (record { tells = g.tells; was = was; now = seen_site g mid }) end hosts s) (sink : Stream) where
  pub ends_at_once : (o : Outcome) → TellsSession asked_ was.told (devices g mid site) sink end s o → EndsAtOnce asked_ (record { tells = g.tells; was = was; now = seen_site g site }) sink o hosts
  ends_at_once (Untaken why) is = absurd is
  ends_at_once (Ran session last told_) is =
      subst (λ (x : SessionData × DriveAnswer). IsSessionAtOnce asked_ (record { tells = g.tells; was = was; now = seen_site g site }) sink x.1 told_ hosts x.0) (λ i. (sym is.0 i, sym is.1 i))
      (record { mid = seen_site g mid; played = played; report = is.2 })

use Rattle.std.proofs.Common.{◌≡◌, List, Option, sym, ◌∙◌, ap, subst}
use Rattle.mss_base.specs.Configs.{ConfigData}
use Rattle.channel_program.specs.Script.{Follows}
use Rattle.ckd_plain.specs.History.{EntryData}
use Rattle.core_state.specs.CoreValue.{CoreValue}
use Rattle.job_text.specs.Jobs.{ScriptData}
use Rattle.serial_driver.specs.Drives.{AreTurns, DriveValue, LeavesDrive}
use Rattle.script_places.specs.Scripts.{exchanges_of, script_of}
use Rattle.volume_copy.specs.Copies.{CopyData}
use Rattle.job_runs.proofs.SessionFacts.{follows_none, leaves_asked}
use Rattle.job_runs.proofs.run.run_scripts.Goals as goal

pub returns-in-Err-clause-follow : goal.returns-in-Err-clause-follow
returns-in-Err-clause-follow g c = λ h.
    subst (λ (l : List EntryData). Follows (script_of c.args.job.now.hosts h) (exchanges_of h l))
    (sym (ap (λ (v : CoreValue g.row.S.Denot g.row.C.Denot). v.history) c.in-Err.ensures.memory.0 ∙ c.requires.unused.no_entries))
    (follows_none (script_of c.args.job.now.hosts h))

pub run-end-requires : goal.run-end-requires
run-end-requires g c =
    let scripts : c.args.job.now.hosts ≡ c.in-Ok.drive.scripts = sym c.in-Ok.ensures.scripts in
    let config : c.args.job.now.config ≡ c.in-Ok.drive.core.config =
    sym (ap (λ (v : CoreValue g.row.S.Denot g.row.C.Denot). v.config) c.in-Ok.ensures.core ∙ c.requires.unused.config) in
    record { turns = subst (λ (p : List ScriptData × ConfigData). AreTurns p.0 p.1 c.args.turns.now) (λ i. (scripts i, config i)) c.requires.turns }

pub returns-in-Ok-clause-leaves : goal.returns-in-Ok-clause-leaves
returns-in-Ok-clause-leaves g c =
    let drive = c.in-Ok.drive in
    let ran = c.run-end in
    let began : DriveValue g.row.S.Denot g.row.C.Denot = record { core = c.args.core; copier = drive.copier; scripts = c.args.job.now.hosts } in
    let left : LeavesDrive g.S.Site began ran.new.self ran.result =
    subst (λ (x : CoreValue g.row.S.Denot g.row.C.Denot × List ScriptData). LeavesDrive g.S.Site (record { core = x.0; copier = drive.copier; scripts = x.1 }) ran.new.self ran.result)
    (λ i. (c.in-Ok.ensures.core i, c.in-Ok.ensures.scripts i)) ran.ensures.leaves in
    leaves_asked g.S.Site c.args.core drive.copier c.args.copier c.args.job.now.hosts c.in-Ok.ensures.copier _ ran.result
    (subst (λ (x : CoreValue g.row.S.Denot g.row.C.Denot × Option CopyData × List ScriptData). LeavesDrive g.S.Site began (record { core = x.0; copier = x.1; scripts = x.2 }) ran.result)
    (λ i. (sym c.into_core-core.ensures.core i, sym c.into_core-core.ensures.copier i, left.scripts_ i)) left)

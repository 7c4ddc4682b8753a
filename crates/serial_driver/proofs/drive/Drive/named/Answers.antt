use Rattle.std.proofs.Common.{◌≡◌, [], List, Option, refl, sym, ◌∙◌, ap, subst}
use Rattle.std.specs.Prelude.{slice_index_or, ℕ}
use Rattle.channel_commands.specs.Data.{CallData}
use Rattle.core_state.specs.CoreValue.{seen_core}
use Rattle.job_text.specs.Jobs.{ScriptData}
use Rattle.script_places.specs.Scripts.{script_of, calls_of}
use Rattle.serial_driver.specs.Drives.{DriveValue, HostTakes, terms_of}
use Rattle.serial_driver.specs.declared.answer.DriveAnswer.TheVariants.{Done}
use Rattle.serial_driver.proofs.EventRuns.{no_call}
use Rattle.serial_driver.proofs.drive.Drive.named.Goals as goal

pub returns-in-Some-clause-takes : goal.returns-in-Some-clause-takes
returns-in-Some-clause-takes g c =
    let unknown : ScriptData = record { host = 0; items = [] } in
    let path : c.self.inside.scripts.now ≡ c.args.self.now.scripts = ap (λ (d : DriveValue g.row.S.Denot g.row.C.Denot). d.scripts) c.self.view_is in
    let same : (slice_index_or c.args.self.now.scripts c.in-Some.number unknown).host ≡ c.args.host =
    ap (λ (l : List ScriptData). (slice_index_or l c.in-Some.number unknown).host) (sym path) ∙ c.in-Some.ensures.1 unknown in
    subst (λ (h : ℕ). HostTakes (terms_of g.S.Site g.C.Choose.may c.args.self.now) h (calls_of c.args.self.now.scripts c.args.self.now.core.history h) (seen_core g.S.Site c.args.self.now.core) c.host.result
    (seen_core g.S.Site c.host.new.self.core)) same (c.host.ensures.takes unknown)

pub returns-in-None-clause-takes : goal.returns-in-None-clause-takes
returns-in-None-clause-takes g c =
    let path : c.self.inside.scripts.now ≡ c.args.self.now.scripts = ap (λ (d : DriveValue g.row.S.Denot g.row.C.Denot). d.scripts) c.self.view_is in
    let none : script_of c.args.self.now.scripts c.args.host ≡ [] = ap (λ (l : List ScriptData). script_of l c.args.host) (sym path) ∙ c.in-None.ensures in
    subst (λ (o : Option CallData). HostTakes (terms_of g.S.Site g.C.Choose.may c.args.self.now) c.args.host o (seen_core g.S.Site c.args.self.now.core) Done (seen_core g.S.Site c.args.self.now.core))
    (sym (no_call c.args.self.now.scripts c.args.self.now.core.history c.args.host none)) (refl, refl)

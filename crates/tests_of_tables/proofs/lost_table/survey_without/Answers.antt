use Rattle.std.proofs.Common.{◌≡◌, sym, subst}
use Rattle.mss_base.specs.Content.{SiteLog, content}
use Rattle.memory_devices.specs.MemorySite.{told_of}
use Rattle.mss_base.specs.Configs.{serial_in}
use Rattle.mss_restart.specs.OneCopy.{ArePaired}
use Rattle.mss_restart.specs.Survey.{IsExact}
use Rattle.tests_of_tables.proofs.lost_table.survey_without.Goals as goal

pub returns : goal.returns
returns c = λ paired.
    let told : told_of c.fail.new.self ≡ told_of c.args.site.now = c.fail.ensures.told in
    let loses = c.a_memory_site_may_lose_one_table.ensures c.fail.new.self c.args.lost c.requires c.in_ok-fail.ensures.ok.0 in
    let here : ArePaired (content (told_of c.fail.new.self)) = subst (λ (l : SiteLog). ArePaired (content l)) (sym told) paired in
    subst (λ (l : SiteLog). IsExact c.args.config.now.frames (serial_in c.args.config.now.volumes) (content l) c.survey.result) told (c.survey.ensures.one_copy tt loses here)

use Rattle.std.proofs.Common.{Ok, Err}
use Rattle.mss_base.specs.Content.{content}
use Rattle.mss_base.specs.Configs.{serial_in}
use Rattle.mss_restart.proofs.Surveyed.{exact}
use Rattle.mss_restart.proofs.OneCopy.{exact_by_one}
use Rattle.mss_restart.proofs.surveying.survey.Goals as goal

pub returns-in-Ok-clause-exact : goal.returns-in-Ok-clause-exact
returns-in-Ok-clause-exact g c = λ tells still low.
    exact (g.S.Site.faults c.args.site.now) (g.S.Site.faults c.survey_rows.new.site) c.args.config.now.frames (serial_in c.args.config.now.volumes) (content (g.S.Site.told c.args.site.now)) still low
    (Ok c.in-Ok.read.rows) c.in-Ok.ensures.devices.later (c.in-Ok.ensures.found tells)

pub returns-in-Err-clause-exact : goal.returns-in-Err-clause-exact
returns-in-Err-clause-exact g c = λ tells still low.
    exact (g.S.Site.faults c.args.site.now) (g.S.Site.faults c.survey_rows.new.site) c.args.config.now.frames (serial_in c.args.config.now.volumes) (content (g.S.Site.told c.args.site.now)) still low
    (Err c.in-Err.fault) c.in-Err.ensures.counts (c.in-Err.ensures.found tells)

pub returns-in-Ok-clause-one_copy : goal.returns-in-Ok-clause-one_copy
returns-in-Ok-clause-one_copy g c = λ tells loses paired.
    exact_by_one (g.S.Site.faults c.args.site.now) (g.S.Site.faults c.survey_rows.new.site) c.args.config.now.frames (serial_in c.args.config.now.volumes) (content (g.S.Site.told c.args.site.now)) paired (Ok c.in-Ok.read.rows) (c.in-Ok.ensures.found tells) tt

pub returns-in-Err-clause-one_copy : goal.returns-in-Err-clause-one_copy
returns-in-Err-clause-one_copy g c = λ tells loses paired.
    exact_by_one (g.S.Site.faults c.args.site.now) (g.S.Site.faults c.survey_rows.new.site) c.args.config.now.frames (serial_in c.args.config.now.volumes) (content (g.S.Site.told c.args.site.now)) paired (Err c.in-Err.fault) (c.in-Err.ensures.found tells)
    (c.in-Err.ensures.one_copy tells loses paired)

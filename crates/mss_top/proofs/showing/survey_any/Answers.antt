use Rattle.std.proofs.Common.{Ok, Err, sym, subst}
use Rattle.report_text.specs.declared.one_line.OneLine.{OneLine}
use Rattle.job_runs.specs.Parties.{Devices, devices}
use Rattle.mss_top.specs.Showing.{IsSurveyLine}
use Rattle.mss_top.proofs.Looked.{survey_line, survey_of}
use Rattle.mss_base.specs.Content.{content}
use Rattle.mss_top.specs.Showing.{LooksExactly}
use Rattle.mss_top.proofs.OneLook.{exactly_of, line_exactly}
use Rattle.mss_top.proofs.showing.survey_any.Goals as goal

pub returns-in-Ok-clause-survey : goal.returns-in-Ok-clause-survey
returns-in-Ok-clause-survey g c =
    let site : Devices = devices g.S.Site c.args.site.now c.survey-2.new.site in
    survey_of site (Ok c.in-Ok.rows) _ _ c.any_config.ensures.frames c.any_config.ensures.volumes c.in-Ok.ensures.found c.in-Ok.ensures.exact c.in-Ok.ensures.kept

pub returns-clause-survey : goal.returns-clause-survey
returns-clause-survey g c =
    let site : Devices = devices g.S.Site c.args.site.now c.survey-2.new.site in
    subst (λ (said : OneLine). IsSurveyLine site said) (sym c.refusal_line.ensures) (survey_line site c.in-Err.refused
    (survey_of site (Err c.in-Err.refused) _ _ c.any_config.ensures.frames c.any_config.ensures.volumes c.in-Err.ensures.found c.in-Err.ensures.exact c.in-Err.ensures.kept))

pub returns-in-Ok-clause-one_copy : goal.returns-in-Ok-clause-one_copy
returns-in-Ok-clause-one_copy g c = λ tells loses paired.
    exactly_of (content (g.S.Site.told c.args.site.now)) (Ok c.in-Ok.rows) _ _ c.any_config.ensures.frames c.any_config.ensures.volumes (c.in-Ok.ensures.one_copy tells loses paired)

pub returns-clause-one_copy : goal.returns-clause-one_copy
returns-clause-one_copy g c = λ tells loses paired.
    let k = content (g.S.Site.told c.args.site.now) in
    subst (λ (said : OneLine). LooksExactly k (Err said)) (sym c.refusal_line.ensures)
    (line_exactly k c.in-Err.refused (exactly_of k (Err c.in-Err.refused) _ _ c.any_config.ensures.frames c.any_config.ensures.volumes (c.in-Err.ensures.one_copy tells loses paired)))

use Rattle.std.proofs.Common.{List, ◌∙◌, sym, ap, subst, Err, Option, Result, ℕ}
use Rattle.std.specs.Prelude.{IfErr}
use Rattle.std.proofs.lemmas.Result.{err_from_is_err_and}
use Rattle.mss_base.specs.Content.{content}
use Rattle.mss_base.specs.Configs.{serial_in}
use Rattle.volume_table.specs.Row.{RowValue}
use Rattle.shown_volumes.specs.declared.refused.Refused.{Refused}
use Rattle.mss_restart.specs.Answers.{OpensExactly, KeepsOpening, RefusesAs}
use Rattle.mss_restart.specs.Survey.{AreRead}
use Rattle.mss_restart.proofs.Surveyed.{exact}
use Rattle.mss_restart.proofs.KnownRows.{rows_told, faultless, exact_refusal, survey_refuses, cause_opens, alone_stops}
use Rattle.mss_restart.proofs.opening.known_rows.Goals as goal

pub returns-in_err-read-clause-exact : goal.returns-in_err-read-clause-exact
returns-in_err-read-clause-exact g c = λ tells still low.
    let p = err_from_is_err_and c.from_residual.result c.from_residual.ensures.1 in
    let k = content (g.S.Site.told c.args.site.now) in
    let e = c.in_err-read.field-0.0 in
    subst (λ (r : Result (List (Option RowValue)) Refused). OpensExactly c.args.config.now k r) (sym (p.1 ∙ ap Err p.2))
    (exact_refusal (List (Option RowValue)) c.args.config.now k e (exact (g.S.Site.faults c.args.site.now) (g.S.Site.faults c.survey_rows.new.site) c.args.config.now.frames (serial_in c.args.config.now.volumes) k still low (Err e) c.in_err-read.ensures.counts (c.in_err-read.ensures.found tells)))

pub returns-in-None-clause-faultless : goal.returns-in-None-clause-faultless
returns-in-None-clause-faultless g c = λ tells.
    faultless (g.S.Site.faults c.args.site.now) (g.S.Site.faults c.survey_rows.new.site) c.args.config.now.frames (serial_in c.args.config.now.volumes) (content (g.S.Site.told c.args.site.now)) c.in_ok-read.read.rows c.look.ensures.places
    (subst (λ (u : Option ℕ). AreRead (g.S.Site.faults c.args.site.now) (g.S.Site.faults c.survey_rows.new.site) (serial_in c.args.config.now.volumes) (content (g.S.Site.told c.args.site.now)) c.in_ok-read.read.rows u) c.in-None.is (c.in_ok-read.ensures.read tells))
    (c.in_ok-read.ensures.found tells)

pub returns-in-None-clause-known : goal.returns-in-None-clause-known
returns-in-None-clause-known g c = λ tells.
    rows_told (g.S.Site.faults c.args.site.now) (g.S.Site.faults c.survey_rows.new.site) (serial_in c.args.config.now.volumes) (content (g.S.Site.told c.args.site.now)) c.in_ok-read.read.rows
    (subst (λ (u : Option ℕ). AreRead (g.S.Site.faults c.args.site.now) (g.S.Site.faults c.survey_rows.new.site) (serial_in c.args.config.now.volumes) (content (g.S.Site.told c.args.site.now)) c.in_ok-read.read.rows u) c.in-None.is (c.in_ok-read.ensures.read tells))

pub returns-in_err-read-clause-refused : goal.returns-in_err-read-clause-refused
returns-in_err-read-clause-refused g c = λ tells.
    let p = err_from_is_err_and c.from_residual.result c.from_residual.ensures.1 in
    let old = g.S.Site.told c.args.site.now in
    let new = g.S.Site.told c.survey_rows.new.site in
    let before = g.S.Site.faults c.args.site.now in
    let now = g.S.Site.faults c.survey_rows.new.site in
    let e = c.in_err-read.field-0.0 in
    subst (λ (r : Result (List (Option RowValue)) Refused). IfErr r (RefusesAs before now c.args.config.now old new)) (sym (p.1 ∙ ap Err p.2))
    (survey_refuses before now c.args.config.now old new e (c.survey_rows.ensures.devices.log tells) (c.in_err-read.ensures.found tells))

pub returns-in_err-read-clause-kept : goal.returns-in_err-read-clause-kept
returns-in_err-read-clause-kept g c =
    let p = err_from_is_err_and c.from_residual.result c.from_residual.ensures.1 in
    let before = g.S.Site.faults c.args.site.now in
    let now = g.S.Site.faults c.survey_rows.new.site in
    subst (λ (r : Result (List (Option RowValue)) Refused). KeepsOpening before now r) (sym (p.1 ∙ ap Err p.2)) (cause_opens (List (Option RowValue)) before now c.in_err-read.field-0.0 c.in_err-read.ensures.counts)

pub returns-in-Some-clause-refused : goal.returns-in-Some-clause-refused
returns-in-Some-clause-refused g c = λ tells.
    alone_stops (g.S.Site.faults c.args.site.now) (g.S.Site.faults c.survey_rows.new.site) c.args.config.now (g.S.Site.told c.args.site.now) (g.S.Site.told c.survey_rows.new.site) c.in_ok-read.read.rows c.in_ok-read.read.unread c.in-Some.fault
    c.in-Some.is (c.survey_rows.ensures.devices.log tells) c.look.ensures.places (c.in_ok-read.ensures.read tells) (c.in_ok-read.ensures.found tells)

pub returns-in-None-clause-exact : goal.returns-in-None-clause-exact
returns-in-None-clause-exact g c = λ tells still low.
    faultless (g.S.Site.faults c.args.site.now) (g.S.Site.faults c.survey_rows.new.site) c.args.config.now.frames (serial_in c.args.config.now.volumes) (content (g.S.Site.told c.args.site.now)) c.in_ok-read.read.rows c.look.ensures.places
    (subst (λ (u : Option ℕ). AreRead (g.S.Site.faults c.args.site.now) (g.S.Site.faults c.survey_rows.new.site) (serial_in c.args.config.now.volumes) (content (g.S.Site.told c.args.site.now)) c.in_ok-read.read.rows u) c.in-None.is (c.in_ok-read.ensures.read tells))
    (c.in_ok-read.ensures.found tells)

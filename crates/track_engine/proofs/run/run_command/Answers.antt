use Rattle.track_engine.specs.Answers.{asked_command}
use Rattle.track_engine.proofs.Answering.{runs_done, runs_refused, runs_failed, leaves_done, leaves_refused, leaves_failed, nothing_for}
use Rattle.track_engine.proofs.run.run_command.Goals as goal

pub returns-in-Ok-clause-runs : goal.returns-in-Ok-clause-runs
returns-in-Ok-clause-runs g c = λ tells.
    runs_done (asked_command c.args.command.now c.args.argument.now c.args.chained c.args.host.now c.args.place.now) (g.S.Site.told c.args.site.now) (g.S.Site.told c.carry_out.new.site) c.opened-now.result c.cleared-ready.result c.opened-now.ensures c.cleared-ready.ensures
    c.in-Ok.done _ _ (c.in-Ok.ensures.done tells) c.finished.ensures.reply_ c.finished.ensures.host_ (c.requires.tracks tells)

pub returns-in-Err-Refused-clause-runs : goal.returns-in-Err-Refused-clause-runs
returns-in-Err-Refused-clause-runs g c = λ tells.
    runs_refused (asked_command c.args.command.now c.args.argument.now c.args.chained c.args.host.now c.args.place.now) (g.S.Site.told c.args.site.now) (g.S.Site.told c.carry_out.new.site) c.opened-now.result c.cleared-ready.result c.opened-now.ensures c.cleared-ready.ensures
    _ c.in-Err-Refused.refusal _ _ c.in-Err-Refused.field-0-is (c.in-Err-Refused.ensures.done tells) c.refused.ensures.reply_ c.refused.ensures.host_ (c.requires.tracks tells)

pub returns-in-Err-Fault-clause-runs : goal.returns-in-Err-Fault-clause-runs
returns-in-Err-Fault-clause-runs g c = λ tells.
    runs_failed (asked_command c.args.command.now c.args.argument.now c.args.chained c.args.host.now c.args.place.now) (g.S.Site.told c.args.site.now) (g.S.Site.told c.carry_out.new.site) c.opened-now.result c.cleared-ready.result c.opened-now.ensures c.cleared-ready.ensures
    _ _ _ (c.in-Err-Fault.ensures.done tells) (c.requires.tracks tells)

pub returns-in-Ok-clause-site_ : goal.returns-in-Ok-clause-site_
returns-in-Ok-clause-site_ g c = leaves_done g.S.Site c.args.command.now c.args.place.now.unit c.args.site.now c.carry_out.new.site c.in-Ok.done _ c.in-Ok.ensures.site_ c.finished.ensures.reply_

pub returns-in-Err-Refused-clause-site_ : goal.returns-in-Err-Refused-clause-site_
returns-in-Err-Refused-clause-site_ g c = leaves_refused g.S.Site c.args.command.now c.args.place.now.unit c.args.site.now c.carry_out.new.site _ c.in-Err-Refused.refusal _ c.in-Err-Refused.field-0-is c.in-Err-Refused.ensures.site_

pub returns-in-Err-Fault-clause-site_ : goal.returns-in-Err-Fault-clause-site_
returns-in-Err-Fault-clause-site_ g c = leaves_failed g.S.Site c.args.command.now c.args.place.now.unit c.args.site.now c.carry_out.new.site _ _ c.in-Err-Fault.field-0-is c.in-Err-Fault.ensures.site_

pub returns-in-Ok-clause-untouched : goal.returns-in-Ok-clause-untouched
returns-in-Ok-clause-untouched g c = λ tells none. c.carry_out.ensures.untouched tells (nothing_for (asked_command c.args.command.now c.args.argument.now c.args.chained c.args.host.now c.args.place.now) (g.S.Site.told c.args.site.now) (g.S.Site.told c.carry_out.new.site) c.opened-now.result c.cleared-ready.result c.opened-now.ensures c.cleared-ready.ensures none)

pub returns-in-Err-Refused-clause-untouched : goal.returns-in-Err-Refused-clause-untouched
returns-in-Err-Refused-clause-untouched g c = λ tells none. c.carry_out.ensures.untouched tells (nothing_for (asked_command c.args.command.now c.args.argument.now c.args.chained c.args.host.now c.args.place.now) (g.S.Site.told c.args.site.now) (g.S.Site.told c.carry_out.new.site) c.opened-now.result c.cleared-ready.result c.opened-now.ensures c.cleared-ready.ensures none)

pub returns-in-Err-Fault-clause-untouched : goal.returns-in-Err-Fault-clause-untouched
returns-in-Err-Fault-clause-untouched g c = λ tells none. c.carry_out.ensures.untouched tells (nothing_for (asked_command c.args.command.now c.args.argument.now c.args.chained c.args.host.now c.args.place.now) (g.S.Site.told c.args.site.now) (g.S.Site.told c.carry_out.new.site) c.opened-now.result c.cleared-ready.result c.opened-now.ensures c.cleared-ready.ensures none)

use Rattle.std.proofs.Common.{ap}
use Rattle.mss_base.specs.Content.{SiteLog, content}
use Rattle.session_report.specs.Parties.{sink_between}
use Rattle.job_runs.specs.Parties.{devices}
use Rattle.mss_restart.proofs.OneTable.{loses_on, reads_tracks}
use Rattle.mss_top.proofs.Broken.{line_unstopped, look_broken}
use Rattle.mss_top.proofs.OneLook.{line_by_one, listing_by_one}
use Rattle.mss_top.proofs.showing.look_at.Goals as goal

pub returns-in-Ok-clause-one_copy : goal.returns-in-Ok-clause-one_copy
returns-in-Ok-clause-one_copy g c = λ looks.
    listing_by_one (content (g.S.Site.told c.args.site.now)) (sink_between g.O.Sink c.args.output.now c.list.new.output) looks.sink_none c.in-Ok.rows
    (devices g.S.Site c.survey_any.new.site c.list.new.site) c.list.result looks.can_see (ap (λ (log : SiteLog). content log) (c.in-Ok.ensures.site.log looks.can_see))
    (c.in-Ok.ensures.one_copy looks.can_see looks.loses looks.paired) c.list.ensures.lists
    (c.list.ensures.works (reads_tracks g.S.Site c.survey_any.new.site (loses_on g.S.Site c.args.site.now c.survey_any.new.site c.in-Ok.ensures.site.sound looks.loses)))

pub returns-in-Err-clause-one_copy : goal.returns-in-Err-clause-one_copy
returns-in-Err-clause-one_copy g c = λ looks.
    line_by_one (content (g.S.Site.told c.args.site.now)) (sink_between g.O.Sink c.args.output.now c.say.new.output) looks.sink_none c.in-Err.line c.say.result
    (c.in-Err.ensures.one_copy looks.can_see looks.loses looks.paired) c.say.ensures.put

pub returns-in-Ok-clause-unread : goal.returns-in-Ok-clause-unread
returns-in-Ok-clause-unread g c = λ stop.
    look_broken g.S.Site c.args.site.now c.survey_any.new.site c.list.new.site c.in-Ok.rows
    (sink_between g.O.Sink c.args.output.now c.list.new.output) c.in-Ok.ensures.site c.in-Ok.ensures.survey (c.list.ensures.unread stop)

pub returns-in-Err-clause-unread : goal.returns-in-Err-clause-unread
returns-in-Err-clause-unread g c = λ stop.
    absurd (line_unstopped c.in-Err.line (sink_between g.O.Sink c.args.output.now c.say.new.output) c.say.result c.say.ensures.put stop)

use Rattle.volume_table.specs.Listed.{row_in_list}
use Rattle.mss_top.proofs.Broken.{listing_stopped}
use Rattle.session_report.proofs.SiteReads.{shown_readable}
use Rattle.mss_top.proofs.OneLook.{read_unstopped}
use Rattle.mss_top.proofs.showing.list.Goals as goal

pub returns-clause-works : goal.returns-clause-works
returns-clause-works g c = λ reads. read_unstopped c.listing-told.result c.status_of.result c.status_of.ensures (c.listing-told.ensures.works (shown_readable g.S.Site c.args.site.now reads (row_in_list c.args.rows.now)))

pub returns-clause-unread : goal.returns-clause-unread
returns-clause-unread g c = λ stop.
    let found = listing_stopped _ c.listing-told.result c.status_of.result c.status_of.ensures c.listing-told.ensures.unread stop in
    record { fault = found.fault; off = found.is }

use Rattle.std.proofs.Common.{◌≡◌, ◌++◌, refl, ◌∙◌, ap, subst}
use Rattle.std.proofs.lemmas.Result.{err_from_is_err_and}
use Rattle.mss_base.specs.Content.{SiteLog, content}
use Rattle.report_text.specs.Texts.{heading_text, tracks_text}
use Rattle.volume_table.specs.Listed.{row_in_list}
use Rattle.shown_volumes.specs.Shown.{is_marked, shown_by}
use Rattle.session_report.specs.Parts.{IsUnread, MayFail, block_of, row_tracks}
use Rattle.table_pair.proofs.SiteLemmas.{reads_then}
use Rattle.session_report.proofs.Framing.{grows_then}
use Rattle.session_report.proofs.SiteReads.{row_on, volume_unread}
use Rattle.session_report.proofs.VolumeTexts.{volumes_go_on, volumes_left, tracks_put_same}
use Rattle.session_report.proofs.volumes.put_volumes.Goals as goal

pub returns-in_err-put_volume-clause-bytes : goal.returns-in_err-put_volume-clause-bytes
returns-in_err-put_volume-clause-bytes g c =
    let p = err_from_is_err_and c.from_residual.result c.from_residual.ensures.1 in
    rw (p.1, p.2)
    (volumes_left (g.S.Site.tells × g.O.Sink.tells) (shown_by (row_in_list c.args.rows.now) (content (g.S.Site.told c.args.site.now))) c.args.volumes.now c.loop-entry.entry-index c.entry-item.result c.loop-entry-test.true c.entry-item.is
    (row_tracks (content (g.S.Site.told c.args.site.now)) (row_in_list c.args.rows.now c.entry-item.result.0))
    refl
    (g.O.Sink.told c.args.output.now) (g.O.Sink.told c.loop-entry.output) (g.O.Sink.told c.put_volume.new.output) (λ t. c.loop-entry.invariant.put t.0 t.1)
    (λ n. MayFail g.S.Site c.loop-entry.site (block_of (row_in_list c.args.rows.now c.entry-item.result.0) n)) (IsUnread g.S.Site c.args.site.now (row_in_list c.args.rows.now) c.args.volumes.now)
    (volume_unread g.S.Site c.args.site.now c.loop-entry.site c.loop-entry.invariant.site.sound (row_in_list c.args.rows.now) c.args.volumes.now c.loop-entry.entry-index c.entry-item.result c.loop-entry-test.true c.entry-item.is)
    c.in_err-put_volume.field-0.0
    (tracks_put_same (g.S.Site.tells × g.O.Sink.tells) _
    (heading_text c.entry-item.result.0 c.entry-item.result.1
    (is_marked (row_in_list c.args.rows.now c.entry-item.result.0)))
    _ _ (g.O.Sink.told c.loop-entry.output) (g.O.Sink.told c.put_volume.new.output) c.in_err-put_volume.field-0.0
    (λ t. ap (λ (s : SiteLog). row_tracks (content s) (row_in_list c.args.rows.now c.entry-item.result.0)) (c.loop-entry.invariant.site.log t.0))
    c.in_err-put_volume.ensures.bytes))

pub loop-entry-preserved : goal.loop-entry-preserved
loop-entry-preserved g c = record {
  site = reads_then _ _ _ _ c.loop-entry.invariant.site c.in_ok-put_volume.ensures.site;
  same = c.in_ok-put_volume.ensures.counted ∙ c.loop-entry.invariant.same;
  put = λ tells sink_tells.
      let row = row_in_list c.args.rows.now c.entry-item.result.0 in
      volumes_go_on (g.S.Site.tells × g.O.Sink.tells) (shown_by (row_in_list c.args.rows.now) (content (g.S.Site.told c.args.site.now))) c.args.volumes.now c.loop-entry.entry-index c.entry-item.result c.loop-entry-test.true c.entry-item.is
      (row_tracks (content (g.S.Site.told c.args.site.now)) (row_in_list c.args.rows.now c.entry-item.result.0))
      refl
      (g.O.Sink.told c.args.output.now) (g.O.Sink.told c.loop-entry.output) (g.O.Sink.told c.put_volume.new.output) (λ t. c.loop-entry.invariant.put t.0 t.1)
      (λ t. subst (λ (s : SiteLog). g.O.Sink.told c.put_volume.new.output ≡ g.O.Sink.told c.loop-entry.output
      ++ (heading_text c.entry-item.result.0 c.entry-item.result.1 (is_marked row)
      ++ tracks_text (row_tracks (content s) row) 7676))
      (c.loop-entry.invariant.site.log t.0) (c.in_ok-put_volume.ensures.bytes t)) (tells, sink_tells);
  grown = λ sink_tells. grows_then _ _ _ (c.loop-entry.invariant.grown sink_tells) (c.put_volume.ensures.grown sink_tells);
  output_same = c.in_ok-put_volume.ensures.output.same (λ x. x) ∙ c.loop-entry.invariant.output_same;
}

pub returns-in_err-put_volume-clause-works : goal.returns-in_err-put_volume-clause-works
returns-in_err-put_volume-clause-works g c = λ reads.
    let p = err_from_is_err_and c.from_residual.result c.from_residual.ensures.1 in
    rw (p.1, p.2) (c.in_err-put_volume.ensures.works (row_on g.S.Site c.args.site.now c.loop-entry.site c.loop-entry.invariant.site.sound (row_in_list c.args.rows.now c.entry-item.result.0) (reads c.entry-item.result.0)))

pub returns-in_err-put_volume-clause-grown : goal.returns-in_err-put_volume-clause-grown
returns-in_err-put_volume-clause-grown g c = λ told. grows_then _ _ _ (c.loop-entry.invariant.grown told) (c.put_volume.ensures.grown told)

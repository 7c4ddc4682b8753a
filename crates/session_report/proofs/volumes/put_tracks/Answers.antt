use Rattle.std.proofs.Common.{◌≡◌, ◌++◌, Some, refl, ◌∙◌, ap, subst, arith}
use Rattle.std.proofs.lemmas.Result.{err_from_is_err_and}
use Rattle.mss_base.specs.Content.{SiteLog, content}
use Rattle.report_text.specs.Texts.{track_text}
use Rattle.shown_volumes.specs.Shown.{source}
use Rattle.session_report.specs.Parts.{MayFail, block_of, row_tracks}
use Rattle.table_pair.proofs.SiteLemmas.{reads_none, reads_then}
use Rattle.session_report.proofs.Framing.{grows_none, grows_then}
use Rattle.session_report.proofs.SiteReads.{row_on, track_unread}
use Rattle.session_report.proofs.VolumeTexts.{tracks_begin, tracks_more, tracks_left, track_put_same, blank_in_row, cylinder_passed}
use Rattle.session_report.proofs.volumes.put_tracks.Goals as goal

pub loop-cylinder-init : goal.loop-cylinder-init
loop-cylinder-init g c = record {
  site = reads_none _ _;
  same = refl;
  put = λ tells sink_tells. tracks_begin (row_tracks (content (g.S.Site.told c.args.site.now)) (Some c.args.row.now)) (g.O.Sink.told c.args.output.now);
  grown = λ sink_tells. grows_none (g.O.Sink.told c.args.output.now);
  output_same = refl;
}

pub loop-cylinder-preserved-then-is_blank : goal.loop-cylinder-preserved-then-is_blank
loop-cylinder-preserved-then-is_blank g c =
    let known = c.loop-cylinder.invariant in
    let shown = content (g.S.Site.told c.args.site.now) in
    record {
      site = known.site;
      same = known.same;
      put = λ tells sink_tells.
          cylinder_passed (row_tracks shown (Some c.args.row.now)) c.in-Some.cylinder (blank_in_row shown c.args.row.now c.in-Some.cylinder c.if-is_blank.ensures)
          (g.O.Sink.told c.args.output.now) (g.O.Sink.told c.loop-cylinder.output) c.loop-cylinder.cylinder c.in-Some.ensures.value (known.put tells sink_tells);
      grown = known.grown;
      output_same = known.output_same;
    }

pub returns-in_err-put_shown-clause-bytes : goal.returns-in_err-put_shown-clause-bytes
returns-in_err-put_shown-clause-bytes g c =
    let p = err_from_is_err_and c.from_residual.result c.from_residual.ensures.1 in
    rw (p.1, p.2)
    (tracks_left (g.S.Site.tells × g.O.Sink.tells) (row_tracks (content (g.S.Site.told c.args.site.now)) (Some c.args.row.now)) (g.O.Sink.told c.args.output.now) (g.O.Sink.told c.loop-head.output) (g.O.Sink.told c.put_shown.new.output)
    c.in-Some.cylinder c.loop-head.head c.in-Some-of.head (omega arith) c.in-Some-of.ensures.value (λ t. c.loop-head.invariant.put t.0 t.1) (omega arith)
    (MayFail g.S.Site c.loop-head.site (source c.args.row.now c.in-Some.cylinder c.in-Some-of.head)) (λ n. MayFail g.S.Site c.args.site.now (block_of (Some c.args.row.now) n))
    (track_unread g.S.Site c.args.site.now c.loop-head.site c.loop-head.invariant.site.sound c.args.row.now c.in-Some.cylinder c.in-Some-of.head (omega arith))
    c.in_err-put_shown.field-0.0
    (track_put_same (g.S.Site.tells × g.O.Sink.tells) _ _ _ (g.O.Sink.told c.loop-head.output) (g.O.Sink.told c.put_shown.new.output) c.in_err-put_shown.field-0.0
    (λ t. ap (λ (s : SiteLog). track_text c.in-Some.cylinder c.in-Some-of.head (row_tracks (content s) (Some c.args.row.now) c.in-Some.cylinder c.in-Some-of.head)) (c.loop-head.invariant.site.log t.0))
    c.in_err-put_shown.ensures.bytes))

pub loop-head-preserved : goal.loop-head-preserved
loop-head-preserved g c = record {
  site = reads_then _ _ _ _ c.loop-head.invariant.site c.in_ok-put_shown.ensures.site;
  same = c.in_ok-put_shown.ensures.counted ∙ c.loop-head.invariant.same;
  put = λ tells sink_tells.
      tracks_more (g.S.Site.tells × g.O.Sink.tells) (row_tracks (content (g.S.Site.told c.args.site.now)) (Some c.args.row.now)) (g.O.Sink.told c.args.output.now) (g.O.Sink.told c.loop-head.output) (g.O.Sink.told c.put_shown.new.output)
      c.in-Some.cylinder c.loop-head.head c.in-Some-of.head (omega arith) c.in-Some-of.ensures.value (λ t. c.loop-head.invariant.put t.0 t.1)
      (λ t. subst (λ (s : SiteLog). g.O.Sink.told c.put_shown.new.output ≡ g.O.Sink.told c.loop-head.output ++ track_text c.in-Some.cylinder c.in-Some-of.head (row_tracks (content s) (Some c.args.row.now) c.in-Some.cylinder c.in-Some-of.head))
      (c.loop-head.invariant.site.log t.0) (c.in_ok-put_shown.ensures.bytes t)) (tells, sink_tells);
  grown = λ sink_tells. grows_then _ _ _ (c.loop-head.invariant.grown sink_tells) (c.put_shown.ensures.grown sink_tells);
  output_same = c.in_ok-put_shown.ensures.output.same (λ x. x) ∙ c.loop-head.invariant.output_same;
}

pub returns-in_err-put_shown-clause-works : goal.returns-in_err-put_shown-clause-works
returns-in_err-put_shown-clause-works g c = λ reads.
    let p = err_from_is_err_and c.from_residual.result c.from_residual.ensures.1 in
    rw (p.1, p.2) (c.in_err-put_shown.ensures.works (row_on g.S.Site c.args.site.now c.loop-head.site c.loop-head.invariant.site.sound (Some c.args.row.now) reads))

pub returns-in_err-put_shown-clause-grown : goal.returns-in_err-put_shown-clause-grown
returns-in_err-put_shown-clause-grown g c = λ told. grows_then _ _ _ (c.loop-head.invariant.grown told) (c.put_shown.ensures.grown told)

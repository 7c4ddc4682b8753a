use Rattle.std.proofs.Common.{refl, ap, Err, ◌∙◌, arith}
use Rattle.std.proofs.lemmas.Result.{err_from_is_err_and}
use Rattle.mss_base.specs.Content.{Content, content}
use Rattle.table_pair.proofs.SiteLemmas.{reads_none, reads_then}
use Rattle.mss_restart.proofs.TrackReads.{rows_on}
use Rattle.shown_volumes.specs.Faults.{tracks_fault}
use Rattle.mss_base.proofs.FirstFacts.{none_yet}
use Rattle.volume_table.specs.Listed.{row_in_list}
use Rattle.mss_restart.proofs.Going.{goes_on, ends_at}
use Rattle.mss_restart.proofs.tracks.check_tracks.Goals as goal

pub loop-number-init : goal.loop-number-init
loop-number-init g c = record {
  known = λ tells. none_yet ((λ (k : Content). tracks_fault (row_in_list c.args.rows.now) k) (content (g.S.Site.told c.args.site.now)));
  devices = reads_none g.S.Site c.args.site.now;
  count = refl;
}

pub returns-in_err-check_volume-clause-finds : goal.returns-in_err-check_volume-clause-finds
returns-in_err-check_volume-clause-finds g c = λ tells.
    let p = err_from_is_err_and c.from_residual.result c.from_residual.ensures.1 in
    let known = c.loop-number.invariant in
    ends_at (λ (k : Content). tracks_fault (row_in_list c.args.rows.now) k) (g.S.Site.told c.args.site.now) (g.S.Site.told c.loop-number.site) c.loop-number.number c.volume_at.result (known.devices.log tells) c.volume_at.ensures (known.known tells)
    32 c.in_err-check_volume.field-0.0 c.from_residual.result (p.1 ∙ ap Err p.2) (omega (arith, c.loop-number-test.true)) (c.in_err-check_volume.ensures.finds tells)

pub loop-number-preserved : goal.loop-number-preserved
loop-number-preserved g c =
    let known = c.loop-number.invariant in
    record {
      known = λ tells. goes_on (λ (k : Content). tracks_fault (row_in_list c.args.rows.now) k) (g.S.Site.told c.args.site.now) (g.S.Site.told c.loop-number.site) c.loop-number.number c.volume_at.result (known.devices.log tells) c.volume_at.ensures (known.known tells)
          (c.in_ok-check_volume.ensures.finds tells);
      devices = reads_then g.S.Site c.args.site.now c.loop-number.site c.check_volume.new.site known.devices c.check_volume.ensures.devices;
      count = c.in_ok-check_volume.ensures.counts ∙ known.count;
    }

pub returns-in_err-check_volume-clause-works : goal.returns-in_err-check_volume-clause-works
returns-in_err-check_volume-clause-works g c = λ reads.
    let p = err_from_is_err_and c.from_residual.result c.from_residual.ensures.1 in
    rw (p.1, p.2) (c.in_err-check_volume.ensures.works (rows_on g.S.Site c.args.site.now c.loop-number.site c.loop-number.invariant.devices.sound (row_in_list c.args.rows.now) reads c.volume_at.result))

use Rattle.std.proofs.Common.{refl, ap, Err, ◌∙◌, arith}
use Rattle.std.proofs.lemmas.Result.{err_from_is_err_and}
use Rattle.mss_base.specs.Content.{Content, content}
use Rattle.table_pair.proofs.SiteLemmas.{reads_none, reads_then}
use Rattle.mss_restart.proofs.TrackReads.{row_on}
use Rattle.mss_restart.specs.Walks.{row_cylinder_fault}
use Rattle.mss_base.proofs.FirstFacts.{none_yet}
use Rattle.mss_restart.proofs.ListedFacts.{blank_row}
use Rattle.mss_restart.proofs.Going.{goes_on, ends_at}
use Rattle.mss_restart.proofs.tracks.check_row.Goals as goal

pub returns-then-is_blank_throughout-clause-finds : goal.returns-then-is_blank_throughout-clause-finds
returns-then-is_blank_throughout-clause-finds g c = λ tells.
    blank_row (content (g.S.Site.told c.args.site.now)) c.args.volume c.args.row.now (c.is_blank_throughout.ensures.0 c.if-is_blank_throughout.true)

pub loop-number-init : goal.loop-number-init
loop-number-init g c = record {
  known = λ tells. none_yet ((λ (k : Content). row_cylinder_fault k c.args.volume c.args.row.now) (content (g.S.Site.told c.args.site.now)));
  devices = reads_none g.S.Site c.args.site.now;
  count = refl;
}

pub returns-in_err-check_cylinder-clause-finds : goal.returns-in_err-check_cylinder-clause-finds
returns-in_err-check_cylinder-clause-finds g c = λ tells.
    let p = err_from_is_err_and c.from_residual.result c.from_residual.ensures.1 in
    let known = c.loop-number.invariant in
    ends_at (λ (k : Content). row_cylinder_fault k c.args.volume c.args.row.now) (g.S.Site.told c.args.site.now) (g.S.Site.told c.loop-number.site) c.loop-number.number c.cylinder_at.result (known.devices.log tells) c.cylinder_at.ensures (known.known tells)
    404 c.in_err-check_cylinder.field-0.0 c.from_residual.result (p.1 ∙ ap Err p.2) (omega (arith, c.loop-number-test.true)) (c.in_err-check_cylinder.ensures.finds tells)

pub loop-number-preserved : goal.loop-number-preserved
loop-number-preserved g c =
    let known = c.loop-number.invariant in
    record {
      known = λ tells. goes_on (λ (k : Content). row_cylinder_fault k c.args.volume c.args.row.now) (g.S.Site.told c.args.site.now) (g.S.Site.told c.loop-number.site) c.loop-number.number c.cylinder_at.result (known.devices.log tells) c.cylinder_at.ensures (known.known tells)
          (c.in_ok-check_cylinder.ensures.finds tells);
      devices = reads_then g.S.Site c.args.site.now c.loop-number.site c.check_cylinder.new.site known.devices c.check_cylinder.ensures.devices;
      count = c.in_ok-check_cylinder.ensures.counts ∙ known.count;
    }

pub returns-in_err-check_cylinder-clause-works : goal.returns-in_err-check_cylinder-clause-works
returns-in_err-check_cylinder-clause-works g c = λ reads.
    let p = err_from_is_err_and c.from_residual.result c.from_residual.ensures.1 in
    rw (p.1, p.2) (c.in_err-check_cylinder.ensures.works (row_on g.S.Site c.args.site.now c.loop-number.site c.loop-number.invariant.devices.sound c.args.row.now reads))

use Rattle.std.proofs.Common.{◌∙◌, refl, arith}
use Rattle.report_text.proofs.LineLemmas.{puts_failed}
use Rattle.session_report.specs.CopyTexts.{copied_tracks}
use Rattle.session_report.proofs.VolumeTexts.{tracks_begin, tracks_halt, tracks_more}
use Rattle.session_report.proofs.copies.put_copied_tracks.Goals as goal

pub loop-cylinder-init : goal.loop-cylinder-init
loop-cylinder-init g c = record {
  put = λ told. tracks_begin (copied_tracks c.args.copier.now.tracks) (g.O.Sink.told c.args.output.now);
  same = refl;
}

pub loop-head-preserved : goal.loop-head-preserved
loop-head-preserved g c = record {
  put = tracks_more g.O.Sink.tells (copied_tracks c.args.copier.now.tracks) (g.O.Sink.told c.args.output.now) (g.O.Sink.told c.loop-head.output) (g.O.Sink.told c.put_copied.new.output)
      c.in-Some.cylinder c.loop-head.head c.in-Some-of.head (omega arith) c.in-Some-of.ensures.value c.loop-head.invariant.put c.in_ok-put_copied.ensures.bytes;
  same = c.in_ok-put_copied.ensures.cause.same ∙ c.loop-head.invariant.same;
}

pub returns-in_err-put_copied-clause-bytes : goal.returns-in_err-put_copied-clause-bytes
returns-in_err-put_copied-clause-bytes g c = λ told.
    puts_failed c.from_residual.result _ (g.O.Sink.told c.args.output.now) (g.O.Sink.told c.put_copied.new.output) _ c.from_residual.ensures.1
    (tracks_halt g.O.Sink.tells (copied_tracks c.args.copier.now.tracks) (g.O.Sink.told c.args.output.now) (g.O.Sink.told c.loop-head.output) (g.O.Sink.told c.put_copied.new.output)
    c.in-Some.cylinder c.loop-head.head c.in-Some-of.head (omega arith) c.in-Some-of.ensures.value c.loop-head.invariant.put (omega arith) c.in_err-put_copied.ensures.bytes told)

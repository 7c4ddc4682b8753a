use Rattle.std.proofs.Common.{◌≡◌, [], sym, ap, ◌∙◌}
use Rattle.ckd_track.specs.Track.{Reading, reading}
use Rattle.report_text.proofs.LineLemmas.{no_track_text}
use Rattle.report_text.proofs.report.put_track.Goals as goal

pub returns-in_default-clause-bytes : goal.returns-in_default-clause-bytes
returns-in_default-clause-bytes g c = λ told.
    let none : (reading c.args.block.now).records ≡ [] = sym (ap (λ (r : Reading). r.records) (c.stored_records-records.ensures.all ∙ ap reading c.as_slice.ensures.bytes)) ∙ c.in_default.ensures.steps.0 in
    no_track_text (g.O.Sink.told c.args.output.now) c.args.cylinder c.args.head _ none

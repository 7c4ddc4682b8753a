use Rattle.std.proofs.Common.{ap, subst}
use Rattle.std.specs.Option.{option_map}
use Rattle.report_text.proofs.LineLemmas.{no_track_text}
use Rattle.volume_copy.specs.Copies.{IsBlockOf, taken_at, track_number}
use Rattle.session_report.proofs.Copied.{blank_copied}
use Rattle.session_report.proofs.copies.put_copied.Goals as goal

pub returns-in_default-clause-bytes : goal.returns-in_default-clause-bytes
returns-in_default-clause-bytes g c = λ told.
    let taken = taken_at c.args.copier.now.tracks (track_number c.args.cylinder c.args.head) in
    no_track_text (g.O.Sink.told c.args.output.now) c.args.cylinder c.args.head _
    (blank_copied taken (subst (IsBlockOf taken) (ap (option_map (λ block. block.now)) c.in_default.is) c.track.ensures))

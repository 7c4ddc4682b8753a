use Rattle.std.proofs.Common.{ap}
use Rattle.std.proofs.lemmas.Result.{err_from_is_err_and}
use Rattle.mss_base.specs.declared.place.BlockPlace.{BlockPlace}
use Rattle.ckd_track.specs.Track.{reading}
use Rattle.ckd_plain.specs.Effects.{new_record}
use Rattle.track_engine.specs.Writing.{formatted_behind}
use Rattle.track_engine.proofs.Formats.{format_there}
use Rattle.track_engine.proofs.Reading.{uses_then, uses_broken}
use Rattle.track_engine.proofs.Steps.{track_brought, track_there, unwritten}
use Rattle.track_engine.proofs.write.write_count_key_data.Goals as goal

pub returns-in_err-at-clause-done : goal.returns-in_err-at-clause-done
returns-in_err-at-clause-done g c = λ tells.
    let p = err_from_is_err_and c.from_residual.result c.from_residual.ensures.1 in
    let head = c.block_of-to.ensures.in_range in
    rw (p.1, p.2) (unwritten (formatted_behind (reading (g.S.Site.brought c.kept_record.new.site)).records (new_record c.args.argument.now)) _ _ _ _ _ _ (c.in_err-at.ensures.format tells)
    (c.requires.tracks tells _ head) (track_there (g.S.Site.told c.args.site.now) c.args.place.now _ head) (c.kept_record.ensures.site_.reads.log tells))

pub returns-in_err-at-clause-site_ : goal.returns-in_err-at-clause-site_
returns-in_err-at-clause-site_ g c =
    let p = err_from_is_err_and c.from_residual.result c.from_residual.ensures.1 in
    rw (p.1, p.2) (uses_broken g.S.Site _ _ _ _ _ _ c.in_err-at.ensures.site_)

pub format_argument-requires-clause-track : goal.format_argument-requires-clause-track
format_argument-requires-clause-track g c = λ tells.
    track_brought c.args.place.now _ _ (g.S.Site.told c.args.site.now) _ _ (c.in_ok-at.ensures.block tells) (c.requires.tracks tells) c.block_of-to.ensures.in_range c.block_of-to.ensures.value (c.kept_record.ensures.site_.reads.log tells)

pub returns-clause-done : goal.returns-clause-done
returns-clause-done g c = λ tells.
    format_there c.args.place.now c.args.host.now c.args.left c.args.argument.now (g.S.Site.brought c.kept_record.new.site) _ c.in_ok-at.at (g.S.Site.told c.args.site.now) _ _ c.format_argument.result
    (c.in_ok-at.ensures.format tells) c.in_ok-at.ensures.itself.number_ (c.in_ok-at.ensures.block tells) c.block_of-to.ensures.value (c.kept_record.ensures.site_.reads.log tells) (c.format_argument.ensures.done tells)

pub returns-clause-site_ : goal.returns-clause-site_
returns-clause-site_ g c =
    uses_then g.S.Site _ _ _ _ _ _ _ _ c.format_argument.result (ap (λ (b : BlockPlace). b.unit) c.block_of-to.ensures.value) c.in_ok-at.ensures.site_ c.format_argument.ensures.site_

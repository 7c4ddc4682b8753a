use Rattle.std.proofs.Common.{refl, ap, ◌∙◌}
use Rattle.mss_files.specs.Files.{FileBytes, bytes_at, file_place}
use Rattle.mss_files.proofs.ShortFacts.{fronts_then, lent_held}
use Rattle.mss_files.proofs.site_blocks.SiteBlocks.bring_front.Goals as goal

pub returns-in-Ok-clause-held : goal.returns-in-Ok-clause-held
returns-in-Ok-clause-held g c = λ told.
    c.show.ensures.held _ (fronts_then _ _ c.args.self.now _ (c.bring.ensures.files told) refl refl refl (c.bring.ensures.held told) (c.requires.held told))

pub returns-in-Ok-clause-bytes : goal.returns-in-Ok-clause-bytes
returns-in-Ok-clause-bytes g c = λ told.
    let place = c.args.place.now in
    let held = c.show.ensures.held _ (fronts_then _ _ c.args.self.now _ (c.bring.ensures.files told) refl refl refl (c.bring.ensures.held told) (c.requires.held told)) in
    lent_held _ c.show.new.self place held c.show.ensures.shown
    ∙ ap (λ (b : FileBytes). bytes_at (b place.unit) (file_place place.block 0) 16384) (c.bring.ensures.files told)

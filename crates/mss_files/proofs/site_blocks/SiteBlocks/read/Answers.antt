use Rattle.std.proofs.Common.{◌∙◌}
use Rattle.mss_files.specs.Files.{file_place}
use Rattle.mss_files.proofs.Keeping.{front_of}
use Rattle.mss_files.proofs.ShortFacts.{front_held, whole_of_front}
use Rattle.mss_files.proofs.site_blocks.SiteBlocks.read.Goals as goal

pub returns-then-keeps-clause-bytes : goal.returns-then-keeps-clause-bytes
returns-then-keeps-clause-bytes g c = λ told.
    let held = c.requires.held told in
    let place = c.args.place.now in
    let keeps = c.keeps.ensures.there c.if-keeps.true in
    c.read_front.ensures
    ∙ front_of (g.F.UnitFiles.byte c.args.files.now place.unit) (file_place place.block 0) 16384 _ _ c.requires.inside
    (whole_of_front (g.F.UnitFiles.byte c.args.files.now) place c.block.result.now (held.short place (c.wants_front.ensures.short c.if-wants_front.true))
    (c.block.ensures.bytes ∙ front_held (g.F.UnitFiles.byte c.args.files.now) c.args.self.now place held keeps.stands))

use Rattle.mss_files.proofs.Keeping.{held_brought, keeps_on}
use Rattle.mss_files.proofs.kept_blocks.KeptBlocks.bring.Goals as goal

pub returns-clause-held : goal.returns-clause-held
returns-clause-held g c = λ told.
    held_brought c.fetch.result _ _ c.args.place.now c.args.self.now c.clear_slot.new.self c.fetch.new.self
    c.clear_slot.ensures.places c.clear_slot.ensures.inside c.clear_slot.ensures.starts c.clear_slot.ensures.size c.clear_slot.ensures.long c.clear_slot.ensures.blocks
    c.fetch.ensures.ok c.fetch.ensures.err c.fetch.ensures.pieces c.fetch.ensures.others (c.fetch.ensures.block told) (c.fetch.ensures.files told)
    (c.requires told)

pub returns-clause-others : goal.returns-clause-others
returns-clause-others g c = λ other.
    keeps_on c.fetch.result c.args.place.now other c.args.self.now c.clear_slot.new.self c.fetch.new.self
    c.clear_slot.ensures.places c.clear_slot.ensures.starts c.clear_slot.ensures.size c.clear_slot.ensures.long
    c.fetch.ensures.ok c.fetch.ensures.err c.fetch.ensures.pieces c.fetch.ensures.others.long

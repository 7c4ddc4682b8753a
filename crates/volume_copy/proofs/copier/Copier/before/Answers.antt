use Rattle.std.proofs.Common.{refl}
use Rattle.volume_copy.proofs.CopyFacts.{attended_seen, kept_read}
use Rattle.volume_copy.proofs.copier.Copier.before.Goals as goal

pub invariant_of-core : goal.invariant_of-core
invariant_of-core g c =
    let reads = c.take_once.ensures.site in
    kept_read g.S.Site.tells _ _ _ _ _ _ _ c.take_once.new.site reads.log reads.unwritten reads.later c.core.invariant

pub returns-clause-keeps : goal.returns-clause-keeps
returns-clause-keeps g c =
    attended_seen g.S.Site _ _ c.core.view_is c.core.invariant c.take_once.new.site c.take_once.ensures.site c.take_once.result _ _ _ (c.if-not-may_write_on.ensures.0 refl).taking
    c.take_once.ensures.takes c.take_once.ensures.memory

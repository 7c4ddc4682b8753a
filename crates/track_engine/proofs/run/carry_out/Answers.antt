use Rattle.std.proofs.Common.{rules}
use Rattle.mss_base.specs.Content.{content}
use Rattle.track_engine.specs.Tracks.{tracks_at}
use Rattle.track_engine.proofs.Unwritten.{effect_unwritten}
use Rattle.track_engine.proofs.Steps.{read_carried_out}
use Rattle.track_engine.proofs.run.carry_out.Goals as goal

pub returns-in_default-clause-done : goal.returns-in_default-clause-done
returns-in_default-clause-done g c = λ tells.
    read_carried_out _ c.args.command _ _ _ (effect_unwritten (tracks_at (content (g.S.Site.told c.args.site.now)) c.args.place.now.unit c.args.place.now.first_block) c.args.host.now c.args.left c.args.command c.args.argument.now (search rules))
    (c.search_or_read.ensures.site_.reads.log tells) c.search_or_read.result (c.search_or_read.ensures.done tells c.args.left)

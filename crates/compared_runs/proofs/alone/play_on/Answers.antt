use Rattle.core_state.specs.CoreValue.{seen_site}
use Rattle.compared_runs.proofs.Blank.{only_memory}
use Rattle.compared_runs.proofs.alone.play_on.Goals as goal

pub want_of_memory-requires : goal.want_of_memory-requires
want_of_memory-requires g c =
    only_memory g.S.Site.tells c.args.job.now.config (seen_site g.S.Site c.args.site) (seen_site g.S.Site c.in-Err.back.0) c.in-Err.back.1
    c.requires.can_see c.requires.blank (c.requires.faultless c.in-Err.back.0) c.in-Err.ensures.untaken.restarts

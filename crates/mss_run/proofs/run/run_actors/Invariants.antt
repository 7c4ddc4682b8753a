use Rattle.core_state.specs.CoreValue.{seen_core}
use Rattle.core_state.specs.IsCore.{opening_of}
use Rattle.volume_copy.specs.Beside.{asked_copy}
use Rattle.mss_run.specs.Runs.{hosts_of}
use Rattle.mss_run.proofs.run.run_actors.Given as goal

-- the word that was just made, and the job's hosts
abbrev pub ghosts-run_named-N-Name : goal.ghosts-run_named-N-Name
ghosts-run_named-N-Name g a = record { table = a.blank; hosts = hosts_of a.job.now.hosts }

-- the core's session, and the copy that is asked for
abbrev pub ghosts-run_named-N-Opening : goal.ghosts-run_named-N-Opening
ghosts-run_named-N-Opening g a = record { opening = record { tells = g.S.Site.tells; state = opening_of (g.S.Site.told a.core.site) a.core } }

abbrev pub ghosts-run_named-N-Setup : goal.ghosts-run_named-N-Setup
ghosts-run_named-N-Setup g a = record { setup = record { began = seen_core g.S.Site a.core; never_fails_but = g.S.Site.never_fails_but a.core.site; copy = asked_copy a.copier } }

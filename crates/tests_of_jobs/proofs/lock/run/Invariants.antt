use Rattle.std.proofs.Common.{[], ◌∷◌, None}
use Rattle.core_state.specs.CoreValue.{seen_core}
use Rattle.core_state.specs.IsCore.{opening_of}
use Rattle.tests_of_jobs.proofs.lock.run.Given as goal

-- the word that was just made, for both hosts
abbrev pub ghosts-run_named-N-Name : goal.ghosts-run_named-N-Name
ghosts-run_named-N-Name g a = record { table = a.blank; hosts = a.hosts.0 ∷ a.hosts.1 ∷ [] }

-- the core's session, without a copy
abbrev pub ghosts-run_named-N-Opening : goal.ghosts-run_named-N-Opening
ghosts-run_named-N-Opening g a = record { opening = record { tells = g.S.Site.tells; state = opening_of (g.S.Site.told a.core.site) a.core } }

abbrev pub ghosts-run_named-N-Setup : goal.ghosts-run_named-N-Setup
ghosts-run_named-N-Setup g a = record { setup = record { began = seen_core g.S.Site a.core; never_fails_but = g.S.Site.never_fails_but a.core.site; copy = None } }

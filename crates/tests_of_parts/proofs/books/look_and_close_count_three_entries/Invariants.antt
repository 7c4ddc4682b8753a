use Rattle.std.proofs.Common.{[], ◌∷◌}
use Rattle.seen_book.specs.Openings.{no_opening}
use Rattle.tests_of_parts.proofs.RowFacts.{blank_volumes}
use Rattle.tests_of_parts.proofs.books.look_and_close_count_three_entries.Given as goal

-- the word that was just made, for the hosts 1 and 2
abbrev pub ghosts-row-N-Name : goal.ghosts-row-N-Name
ghosts-row-N-Name g a = record { table = a.blank; hosts = a.one ∷ a.two ∷ [] }

-- a site that tells, and showed blank volumes
abbrev pub ghosts-row-N-Opening : goal.ghosts-row-N-Opening
ghosts-row-N-Opening g a = record { opening = record no_opening { tells = Unit {0}; state = blank_volumes } }

use Rattle.std.proofs.Common.{◌≡◌, ◌+◌, ◌≤◌, ◌++◌, length, map}
use Rattle.job_text.specs.Views.{item_of}
use Rattle.draws.specs.Load.{items_of, programs_from}
use Rattle.draws.proofs.load.script_of.Given as goal

-- the programs so far, and those of the words that are left
abbrev pub invariant-loop-rest : goal.invariant-loop-rest
invariant-loop-rest l =
    (map item_of l.items.items ++ programs_from l.host l.number l.rest ≡ items_of l.host l.words)
    × (l.number + length l.rest ≤ length l.words)

abbrev pub decreases-loop-rest : goal.decreases-loop-rest
decreases-loop-rest l = length l.rest

use Rattle.std.proofs.Common.{◌≡◌, ◌+◌, ◌≤◌, length}
use Rattle.job_text.specs.Words.{lines_of}
use Rattle.job_text.specs.Grammar.{lines_after}
use Rattle.job_text.specs.SoFar.{so_far}
use Rattle.job_text.proofs.read.take_lines.Given as goal

abbrev pub invariant-loop-rest : goal.invariant-loop-rest
invariant-loop-rest l =
    (lines_after (so_far l.reading) l.number (lines_of l.rest) ≡ lines_after (so_far l.fn.reading) 1 (lines_of l.text))
    × (l.number + length l.rest ≤ 1 + length l.text)

abbrev pub decreases-loop-rest : goal.decreases-loop-rest
decreases-loop-rest l = length l.rest

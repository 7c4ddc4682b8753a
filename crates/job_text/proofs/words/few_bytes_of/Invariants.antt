use Rattle.std.proofs.Common.{◌≡◌, ◌≤◌, ◌+◌, ◌/◌, ◌%◌, ◌++◌, length}
use Rattle.std.specs.List.{list_all}
use Rattle.hex.specs.Hex.{is_hex_digit}
use Rattle.job_text.specs.Words.{bytes_of}
use Rattle.job_text.proofs.words.few_bytes_of.Given as goal

abbrev pub invariant-loop-rest : goal.invariant-loop-rest
invariant-loop-rest l =
    (l.bytes.items ++ bytes_of l.rest ≡ bytes_of l.word)
    × (list_all is_hex_digit l.rest ≡ list_all is_hex_digit l.word)
    × (length l.rest % 2 ≡ 0)
    × (length l.bytes.items + length l.rest / 2 ≤ 8)

abbrev pub decreases-loop-rest : goal.decreases-loop-rest
decreases-loop-rest l = length l.rest

use Rattle.std.proofs.Common.{◌≡◌, ◌+◌, ◌≤◌, length, take, map}
use Rattle.volume_table.specs.Grammar.{page_of}
use Rattle.volume_table.proofs.lists.pages_of.Given as goal

abbrev pub invariant-loop-byte : goal.invariant-loop-byte
invariant-loop-byte l = (l.pages.items ≡ map page_of (take l.byte-index l.bytes)) × (length l.bytes ≤ l.pages.spare + l.byte-index)

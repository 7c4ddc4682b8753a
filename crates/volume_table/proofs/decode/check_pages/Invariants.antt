use Rattle.std.proofs.Common.{◌≡◌, drop}
use Rattle.volume_table.specs.Grammar.{first_in, page_fault}
use Rattle.volume_table.proofs.decode.check_pages.Given as goal

abbrev pub invariant-loop-page : goal.invariant-loop-page
invariant-loop-page l = first_in page_fault 0 l.bytes ≡ first_in page_fault l.page (drop l.page l.bytes)

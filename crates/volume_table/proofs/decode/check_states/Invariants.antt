use Rattle.std.proofs.Common.{◌≡◌, drop}
use Rattle.volume_table.specs.Grammar.{first_in, state_fault}
use Rattle.volume_table.proofs.decode.check_states.Given as goal

abbrev pub invariant-loop-cylinder : goal.invariant-loop-cylinder
invariant-loop-cylinder l = first_in (state_fault l.pages) 0 l.bytes ≡ first_in (state_fault l.pages) l.cylinder (drop l.cylinder l.bytes)

use Rattle.std.proofs.Common.{◌≡◌, ◌∷◌, map, string_bytes, take}
use Rattle.std.specs.Prelude.{codes}
use Rattle.command_words.proofs.ruled_read.serial_words.Given as goal

abbrev pub invariant-loop-option : goal.invariant-loop-option
invariant-loop-option l = map string_bytes l.words.items ≡ codes "serial" ∷ map string_bytes (take l.option-index l.options)

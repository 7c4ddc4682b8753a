use Rattle.std.proofs.Common.{◌≡◌, ◌<◌, ◌^◌, take}
use Rattle.mss_base.specs.Decimal.{number_of}
use Rattle.mss_base.proofs.decimal.number_of.Given as goal

abbrev pub invariant-loop-byte : goal.invariant-loop-byte
invariant-loop-byte l = (l.number ≡ number_of (take l.byte-index l.text)) × (l.number < 10 ^ l.byte-index)

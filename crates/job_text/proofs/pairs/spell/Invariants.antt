use Rattle.std.proofs.Common.{◌≡◌, ◌*◌, take, length}
use Rattle.job_text.specs.Canonical.{hex}
use Rattle.job_text.proofs.pairs.spell.Given as goal

abbrev pub invariant-loop-i : goal.invariant-loop-i
invariant-loop-i l = (take (2 * l.i) l.digits ≡ hex (take l.i l.bytes)) × (length l.digits ≡ length l.fn.digits)

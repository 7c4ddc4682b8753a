-- An interrupted write writes nothing.
use Rattle.std.specs.Io.KnownBytes.{Keeps}
use Rattle.mss_files.proofs.std_sink.write_once.Given as goal

abbrev pub invariant-loop : goal.invariant-loop
invariant-loop g l = Keeps (g.W.Write.contents l.initial.output) (g.W.Write.contents l.output)

use Rattle.std.proofs.Common.{◌≤◌, ◌-◌, ℕ, List, Option, length, take}
use Rattle.std.specs.Io.KnownBytes.{Appends}
use Rattle.mss_files.proofs.std_sink.write_all.Given as goal

-- a front of the bytes is written
pub record Written (old new : Option (List ℕ)) (done : ℕ) (bytes : List ℕ) : Type 0 where
  pub within : done ≤ length bytes
  pub front : Appends old new (take done bytes)

abbrev pub invariant-loop-done : goal.invariant-loop-done
invariant-loop-done g l = Written (g.W.Write.contents l.initial.output) (g.W.Write.contents l.output) l.done l.initial.bytes

abbrev pub decreases-loop-done : goal.decreases-loop-done
decreases-loop-done g l = length l.bytes - l.done

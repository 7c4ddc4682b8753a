use Rattle.std.proofs.Common.{◌≡◌, ◌≤◌, ℕ, ◌-◌, ◌++◌, List, length, vec_len}
use Rattle.mss_top.proofs.input.read_input.Given as goal

-- the input is what was read and what is left
pub record Kept (tells : Type 0) (all bytes left : List ℕ) (most count faults_then faults_now : ℕ) : Type 0 where
  pub parts : tells → all ≡ bytes ++ left
  pub few : length bytes ≤ most
  pub piece : count ≡ 16384
  pub same : faults_now ≡ faults_then

abbrev pub invariant-loop-bytes : goal.invariant-loop-bytes
invariant-loop-bytes g l = Kept g.I.Source.tells (g.I.Source.left l.initial.input) l.bytes.items (g.I.Source.left l.input) l.most (vec_len l.buffer) (g.I.Source.faults l.initial.input) (g.I.Source.faults l.input)

abbrev pub decreases-loop-bytes : goal.decreases-loop-bytes
decreases-loop-bytes g l = l.most - length l.bytes.items

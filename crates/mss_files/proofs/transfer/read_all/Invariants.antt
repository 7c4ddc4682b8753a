use Rattle.std.proofs.Common.{◌≡◌, ◌≤◌, ◌-◌, ℕ, List, length, take}
use Rattle.mss_files.specs.Files.{bytes_at}
use Rattle.mss_files.proofs.transfer.read_all.Given as goal

-- the front of the buffer is read
pub record Filled (tells sound sound_now same_bytes : Type 0) (file : ℕ → ℕ) (at done : ℕ) (first into : List ℕ) : Type 0 where
  pub same : length into ≡ length first
  pub within : done ≤ length into
  pub front : tells → take done into ≡ bytes_at file at done
  pub kept : tells → same_bytes
  pub still : sound → sound_now

abbrev pub invariant-loop-done : goal.invariant-loop-done
invariant-loop-done g l = Filled g.F.UnitFiles.tells (g.F.UnitFiles.never_fails l.initial.files) (g.F.UnitFiles.never_fails l.files)
    (g.F.UnitFiles.byte l.files ≡ g.F.UnitFiles.byte l.initial.files) (g.F.UnitFiles.byte l.initial.files l.initial.unit) l.initial.at l.done l.initial.into l.into

abbrev pub decreases-loop-done : goal.decreases-loop-done
decreases-loop-done g l = length l.into - l.done

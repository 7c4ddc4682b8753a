use Rattle.std.proofs.Common.{◌≡◌, ◌≤◌, ◌-◌, ℕ, List, length, take}
use Rattle.mss_base.specs.declared.place.UnitNo.{UnitNo}
use Rattle.mss_files.specs.Files.{FileBytes, bytes_at, ChangesOnly}
use Rattle.mss_files.proofs.transfer.write_all.Given as goal

-- a front of the bytes is written
pub record Written (tells sound sound_now : Type 0) (unit : UnitNo) (old new : FileBytes) (at done : ℕ) (bytes : List ℕ) : Type 0 where
  pub within : done ≤ length bytes
  pub front : tells → bytes_at (new unit) at done ≡ take done bytes
  pub only : tells → ChangesOnly unit at (length bytes) old new
  pub still : sound → sound_now

abbrev pub invariant-loop-done : goal.invariant-loop-done
invariant-loop-done g l = Written g.F.UnitFiles.tells (g.F.UnitFiles.never_fails l.initial.files) (g.F.UnitFiles.never_fails l.files)
    l.initial.unit (g.F.UnitFiles.byte l.initial.files) (g.F.UnitFiles.byte l.files) l.initial.at l.done l.initial.bytes

abbrev pub decreases-loop-done : goal.decreases-loop-done
decreases-loop-done g l = length l.bytes - l.done

use Rattle.std.proofs.Common.{◌≡◌, ℕ, length}
use Rattle.mss_base.specs.declared.place.UnitNo.{UnitNo}
use Rattle.mss_files.specs.Files.{FileBytes, ChangesOnly}
use Rattle.mss_files.proofs.transfer.write_once.Given as goal

-- an interrupted write changes nothing outside its range, and files that never fail aren't interrupted
pub record Interrupted (tells sound sound_now : Type 0) (unit : UnitNo) (at n turns : ℕ) (old new : FileBytes) : Type 0 where
  pub only : tells → ChangesOnly unit at n old new
  pub first : sound → turns ≡ 0
  pub still : sound → sound_now

abbrev pub invariant-loop : goal.invariant-loop
invariant-loop g l = Interrupted g.F.UnitFiles.tells (g.F.UnitFiles.never_fails l.initial.files) (g.F.UnitFiles.never_fails l.files)
    l.initial.unit l.initial.at (length l.initial.bytes) l.counter (g.F.UnitFiles.byte l.initial.files) (g.F.UnitFiles.byte l.files)

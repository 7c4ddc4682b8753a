use Rattle.std.proofs.Common.{◌≡◌, ℕ}
use Rattle.mss_files.proofs.transfer.sync_unit.Given as goal

-- an interrupted sync leaves the files, and files that never fail aren't interrupted
pub record Interrupted (tells sound sound_now same_bytes : Type 0) (turns : ℕ) : Type 0 where
  pub kept : tells → same_bytes
  pub first : sound → turns ≡ 0
  pub still : sound → sound_now

abbrev pub invariant-loop : goal.invariant-loop
invariant-loop g l = Interrupted g.F.UnitFiles.tells (g.F.UnitFiles.never_fails l.initial.files) (g.F.UnitFiles.never_fails l.files)
    (g.F.UnitFiles.byte l.files ≡ g.F.UnitFiles.byte l.initial.files) l.counter

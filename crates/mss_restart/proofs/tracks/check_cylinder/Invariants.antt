use Rattle.std.proofs.Common.{◌≡◌, None}
use Rattle.mss_base.specs.Firsts.{first_below}
use Rattle.shown_volumes.specs.Faults.{row_track_fault}
use Rattle.mss_restart.proofs.Going.{IsGoing}
use Rattle.mss_restart.proofs.tracks.check_cylinder.Given as goal

abbrev pub invariant-loop-number : goal.invariant-loop-number
invariant-loop-number g l =
    IsGoing g.S.Site l.initial.site l.site
    (λ c. first_below l.number (λ head. row_track_fault c l.volume l.cylinder head l.row) ≡ None)

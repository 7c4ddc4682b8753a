use Rattle.std.proofs.Common.{◌≡◌, None}
use Rattle.mss_base.specs.Firsts.{first_below}
use Rattle.shown_volumes.specs.Faults.{tracks_fault}
use Rattle.volume_table.specs.Listed.{row_in_list}
use Rattle.mss_restart.proofs.Going.{IsGoing}
use Rattle.mss_restart.proofs.tracks.check_tracks.Given as goal

abbrev pub invariant-loop-number : goal.invariant-loop-number
invariant-loop-number g l =
    IsGoing g.S.Site l.initial.site l.site
    (λ c. first_below l.number (tracks_fault (row_in_list l.rows) c) ≡ None)

-- Blocks of zeros are tracks.
use Rattle.std.proofs.Common.{◌≡◌, ℕ, ◌+◌, List, ap, ◌∙◌}
use Rattle.mss_base.specs.declared.place.UnitNo.{UnitNo}
use Rattle.mss_base.specs.Content.{Content}
use Rattle.mss_base.specs.Zeros.{zeros}
use Rattle.ckd_track.specs.Track.{Reading, reading}
use Rattle.ckd_track.proofs.TrackFacts.{reading-zeros}
use Rattle.track_engine.specs.Tracks.{AreTracks}

pub blank_tracks : (c : Content) (unit : UnitNo) (first : ℕ) → ((u : UnitNo) (block : ℕ) → c u block ≡ zeros) → AreTracks c unit first
blank_tracks c unit first blank = λ head low. ap (λ (block : List ℕ). (reading block).bad) (blank unit (first + head)) ∙ ap (λ (r : Reading). r.bad) reading-zeros

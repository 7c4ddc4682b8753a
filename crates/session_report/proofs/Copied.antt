-- A track of a copy, by the block that is lent of it.
use Rattle.std.proofs.Common.{◌≡◌, ℕ, List, [], ◌∷◌, Option, Some, None, refl}
use Rattle.std.specs.Prelude.{unwrap_or}
use Rattle.ckd_track.specs.Data.{RecordData}
use Rattle.ckd_track.specs.Track.{reading}
use Rattle.volume_copy.specs.Copies.{IsBlockOf}

-- none is, so it has no record
pub blank_copied : (taken : Option (List RecordData)) → IsBlockOf taken None → unwrap_or taken [] ≡ []
blank_copied None lent = refl
blank_copied (Some []) lent = refl
blank_copied (Some (r ∷ rs)) lent = absurd lent

-- this one is
pub block_copied : (taken : Option (List RecordData)) (block : List ℕ) → IsBlockOf taken (Some block) → (reading block).records ≡ unwrap_or taken []
block_copied None block lent = absurd cc
block_copied (Some []) block lent = absurd cc
block_copied (Some (r ∷ rs)) block lent = lent

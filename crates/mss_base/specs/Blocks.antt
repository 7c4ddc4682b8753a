-- One block of a site, by its place.
use Rattle.std.specs.Prelude.{ℕ, List}
use Rattle.mss_base.specs.Content.{SiteLog, content, Writes, ChangesBlock}
use Rattle.mss_base.specs.declared.place.BlockPlace.{BlockPlace}

-- its bytes
abbrev pub block_of : SiteLog → BlockPlace → List ℕ
block_of s at = content s at.unit at.block

-- the log got writes into this block alone, and P holds of the block at each moment since
abbrev pub WritesBlock : BlockPlace → (List ℕ → Type 0) → SiteLog → SiteLog → Type 0
WritesBlock at P old new = Writes (ChangesBlock at.unit at.block P (content old)) old new

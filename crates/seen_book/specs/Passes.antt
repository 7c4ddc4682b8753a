-- Lists of passes.
use Rattle.std.specs.Prelude.{◌≡◌, ◌+◌, List, [], ◌∷◌, ◌++◌, Option, Some, None}
use Rattle.mss_base.specs.Listing.{Listing}
use Rattle.seen_book.specs.Books.{PassData}

-- the last pass is taken out, where there is one, and its room stays
abbrev pub TakesLast : Listing PassData → Listing PassData → Option PassData → Type 0
TakesLast old new None = (old.items ≡ []) × (new ≡ old)
TakesLast old new (Some pass) = (old.items ≡ new.items ++ pass ∷ []) × (new.spare ≡ old.spare + 1)

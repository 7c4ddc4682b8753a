-- What a stop leaves of small logs, by computing: each row is a tear of zeros over a block of 1, 2, 3.
use Rattle.std.proofs.Common.{◌≡◌, List, [], ◌∷◌, Some, refl}
use Rattle.mss_base.specs.declared.place.UnitNo.TheVariants.{TableA, TableB}
use Rattle.mss_base.specs.Content.{Content, Write, Item, wrote, synced, unsynced, SiteLog, Tear, image, splice}

start : Content
start unit block = 1 ∷ 2 ∷ 3 ∷ []

first : Write
first = record { unit = TableA; block = 0; offset = 1; bytes = 9 ∷ [] }

second : Write
second = record { unit = TableA; block = 0; offset = 2; bytes = 8 ∷ [] }

zeros : Tear
zeros unit block place = Some 0

site : List Item → SiteLog
site items = record { start = start; log = items }

a_write_under_way_is_torn : image (site (wrote first ∷ [])) 0 zeros TableA 0 ≡ 1 ∷ 0 ∷ 3 ∷ []
unfolding start first zeros site splice
a_write_under_way_is_torn = refl

a_write_that_was_made_is_torn : image (site (wrote first ∷ [])) 1 zeros TableA 0 ≡ 1 ∷ 0 ∷ 3 ∷ []
unfolding start first zeros site splice
a_write_that_was_made_is_torn = refl

a_sync_under_way_makes_nothing_firm : image (site (wrote first ∷ synced TableA ∷ [])) 1 zeros TableA 0 ≡ 1 ∷ 0 ∷ 3 ∷ []
unfolding start first zeros site splice
a_sync_under_way_makes_nothing_firm = refl

a_failed_sync_makes_nothing_firm : image (site (wrote first ∷ unsynced ∷ [])) 2 zeros TableA 0 ≡ 1 ∷ 0 ∷ 3 ∷ []
unfolding start first zeros site splice
a_failed_sync_makes_nothing_firm = refl

another_units_sync_makes_nothing_firm : image (site (wrote first ∷ synced TableB ∷ [])) 2 zeros TableA 0 ≡ 1 ∷ 0 ∷ 3 ∷ []
unfolding start first zeros site splice
another_units_sync_makes_nothing_firm = refl

behind_its_sync_a_write_stays : image (site (wrote first ∷ synced TableA ∷ wrote second ∷ [])) 2 zeros TableA 0 ≡ 1 ∷ 9 ∷ 0 ∷ []
unfolding start first second zeros site splice
behind_its_sync_a_write_stays = refl

all_loose_writes_are_torn : image (site (wrote first ∷ wrote second ∷ [])) 2 zeros TableA 0 ≡ 1 ∷ 0 ∷ 0 ∷ []
unfolding start first second zeros site splice
all_loose_writes_are_torn = refl

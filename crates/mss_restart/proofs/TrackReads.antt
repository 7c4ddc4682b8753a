-- What a survey reads can be read later too, and where each frame and each cartridge can.
use Rattle.std.proofs.Common.{◌≡◌, ◌⊎◌, inl, inr, false, ℕ, ◌<◌, ◌≤◌, ◌/◌, Some, refl}
use Rattle.mss_base.specs.Sound.{StaysSound}
use Rattle.mss_base.specs.Places.{frame_block}
use Rattle.mss_base.specs.declared.place.UnitNo.TheVariants.{TableA, TableB}
use Rattle.mss_base.specs.declared.site.Site.{Ghosts}
use Rattle.volume_table.specs.Row.{RowValue, frame_of, state_of}
use Rattle.table_pair.specs.Reads.{CanReadTracks}
use Rattle.table_pair.proofs.SiteLemmas.{readable_on}
use Rattle.shown_volumes.specs.Changing.{StandsOn}
use Rattle.shown_volumes.specs.Shown.{RowsOf, on_cartridge}
use Rattle.shown_volumes.proofs.PlaceFacts.{in_frame, no_table, source_cartridge}
use Rattle.mss_restart.specs.Survey.{NeverFails, CanReadTable, CanReadRow, CanReadRows}

module _ {S : Type 0} (g : Ghosts S) where
  pub table_on : (old new : S) → StaysSound g.never_fails_but old new → CanReadTable g old → CanReadTable g new
  table_on old new sound can = (readable_on g old new sound TableA can.0, readable_on g old new sound TableB can.1)

  pub row_on : (old new : S) → StaysSound g.never_fails_but old new → (r : RowValue) → CanReadRow g old r → CanReadRow g new r
  row_on old new sound r can cylinder head place on = readable_on g old new sound place.unit (can cylinder head place on)

  pub rows_on : (old new : S) → StaysSound g.never_fails_but old new → (rows : RowsOf) → CanReadRows g old rows → CanReadRows g new rows
  rows_on old new sound rows can volume r at = row_on old new sound r (can volume r at)

  -- where no call fails
  pub all_read_table : (s : S) → NeverFails g s → CanReadTable g s
  all_read_table s never = (((λ _. false), never, refl), ((λ _. false), never, refl))

  pub rows_readable : (s : S) → CanReadTracks g s → (rows : RowsOf) → CanReadRows g s rows
  rows_readable s can rows volume r at cylinder head place on = can place.unit (no_table r cylinder head place on)

-- the blocks that are read
pub on_cartridge_stands : (r : RowValue) (y h : ℕ) → y < 404 → h < 19 → (state_of r y ≡ 1) ⊎ (state_of r y ≡ 3) → StandsOn r y h (on_cartridge r y h)
on_cartridge_stands r y h y_low h_low state = record { cylinder_in = y_low; head_in = h_low; there = inl (source_cartridge r y h y_low h_low state) }

pub in_frame_stands : (r : RowValue) (y h f : ℕ) → y < 404 → h < 19 → 2 ≤ state_of r y → frame_of r (y / 8) ≡ Some f → StandsOn r y h (frame_block f y h)
in_frame_stands r y h f y_low h_low staged has = record { cylinder_in = y_low; head_in = h_low; there = inr (staged, in_frame r y h f has) }

-- Rows in a list, and the tracks of one of them.
use Rattle.std.proofs.Common.{◌≡◌, inl, ℕ, false, Option, Some, None, refl, ◌∙◌, ap}
use Rattle.std.specs.Option.{option_and_then}
use Rattle.mss_base.specs.Content.{Content}
use Rattle.mss_base.specs.declared.place.BlockPlace.{BlockPlace}
use Rattle.volume_table.specs.Row.{RowValue, state_of}
use Rattle.shown_volumes.specs.Shown.{RowsOf, in_page, on_cartridge}
use Rattle.shown_volumes.specs.declared.refused.Refused.{Refused}
use Rattle.shown_volumes.specs.declared.refused.Refused.TheVariants.{TornTrack, StagedDiffers}
use Rattle.mss_base.specs.Firsts.{first_below, where_so}
use Rattle.shown_volumes.specs.Faults.{is_torn, differs, row_track_fault, tracks_fault}
use Rattle.mss_base.proofs.FirstFacts.{all_none, both_none}
use Rattle.shown_volumes.proofs.PlaceFacts.{source_blank}
use Rattle.mss_restart.specs.Walks.{row_cylinder_fault, row_tracks_fault}

abbrev tracks_of : Content → ℕ → Option RowValue → Option Refused
tracks_of c volume o = first_below 404 (λ y. first_below 19 (λ h. option_and_then (row_track_fault c volume y h) o))

pub row_tracks : (rows : RowsOf) (c : Content) (volume : ℕ) (r : RowValue) → rows volume ≡ Some r → tracks_fault rows c volume ≡ row_tracks_fault c volume r
row_tracks rows c volume r is = ap (tracks_of c volume) is

pub no_tracks : (rows : RowsOf) (c : Content) (volume : ℕ) → rows volume ≡ None → tracks_fault rows c volume ≡ None
no_tracks rows c volume is = ap (tracks_of c volume) is ∙ all_none 404 (λ y. first_below 19 (λ h. None)) (λ y _. all_none 19 (λ h. None) (λ h _. refl))

-- nothing differs of a cylinder that is blank and not staged, whatever its page's frame holds
none_differs : (c : Content) (framed : Option BlockPlace) (cartridge : BlockPlace) → differs c 0 framed cartridge ≡ false
none_differs c None cartridge = refl
none_differs c (Some place) cartridge = refl

module _ (c : Content) (volume : ℕ) (r : RowValue) (cylinder : ℕ) (blank : state_of r cylinder ≡ 0) where
  blank_track : (head : ℕ) → row_track_fault c volume cylinder head r ≡ None
  blank_track head = both_none _ _
      (ap (λ (p : Option BlockPlace). where_so (is_torn c p) (TornTrack volume cylinder head)) (source_blank r cylinder head (inl blank)))
      (ap (λ (s : ℕ). where_so (differs c s (in_page r cylinder head) (on_cartridge r cylinder head)) (StagedDiffers volume cylinder head)) blank
      ∙ ap (λ so. where_so so (StagedDiffers volume cylinder head)) (none_differs c (in_page r cylinder head) (on_cartridge r cylinder head)))

  -- so none of its heads has a fault
  pub blank_cylinder : row_cylinder_fault c volume r cylinder ≡ None
  blank_cylinder = all_none 19 (λ h. row_track_fault c volume cylinder h r) (λ h _. blank_track h)

-- nor has any track of a row of which each cylinder is so
pub blank_row : (c : Content) (volume : ℕ) (r : RowValue) → ((cylinder : ℕ) → state_of r cylinder ≡ 0) → row_tracks_fault c volume r ≡ None
blank_row c volume r blank = all_none 404 (row_cylinder_fault c volume r) (λ y _. blank_cylinder c volume r y (blank y))

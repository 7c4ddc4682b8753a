-- The frame's blocks of a staged cylinder hold what is shown of it.
use Rattle.std.proofs.Common.{◌≡◌, inl, inr, arith, ℕ, ◌+◌, ◌*◌, ◌/◌, ◌%◌, ◌≤◌, ◌<◌, false, nat_lt, [], Option, Some, sym, ◌∙◌, ap}
use Rattle.std.specs.Option.{option_and_then}
use Rattle.std.proofs.Math.Path.{fun_ext}
use Rattle.std.proofs.lemmas.Bool.{cases_Bool, cond-true, cond-false, ltb-true, ltb-false}
use Rattle.mss_base.specs.Content.{Content}
use Rattle.mss_base.specs.Places.{frame_block}
use Rattle.mss_base.specs.declared.place.UnitNo.{UnitNo}
use Rattle.mss_base.specs.declared.place.UnitNo.TheVariants.{Staging}
use Rattle.ckd_track.specs.Track.{Reading, reading, reading_of}
use Rattle.volume_table.specs.Row.{RowValue, frame_of, state_of}
use Rattle.shown_volumes.specs.Shown.{volumes_shown, rows_of, block_at, source, track_at}
use Rattle.shown_volumes.specs.Sound.{IsSound}
use Rattle.shown_volumes.proofs.PlaceFacts.{source_past}
use Rattle.shown_volumes.proofs.FrameFacts.{staged_shown}
use Rattle.track_engine.specs.Tracks.{tracks_at, AreTracks}

-- the blocks of a cylinder in a frame: the unit, and the block of head 0
abbrev pub unit_of : ℕ → UnitNo
unit_of frame = Staging (frame / 50)

abbrev pub first_of : ℕ → ℕ → ℕ
first_of frame cylinder = ((frame % 50) * 8 + cylinder % 8) * 19

pub first_is : (frame cylinder : ℕ) → (frame_block frame cylinder 0).block ≡ first_of frame cylinder
first_is frame cylinder = omega arith

module _ (frames : ℕ) (c : Content) (sound : IsSound frames c) (volume cylinder frame : ℕ) (r : RowValue) (there : rows_of c volume ≡ Some r)
    (has : frame_of r (cylinder / 8) ≡ Some frame) (staged : 2 ≤ state_of r cylinder) (at_most : state_of r cylinder ≤ 4) (low : cylinder < 404) where
  reads : (head : ℕ) → head < 19 → reading (block_at c (frame_block frame cylinder head)) ≡ reading_of ((volumes_shown c).track volume cylinder head)
  reads head low_head = staged_shown frames c volume cylinder head frame r sound there has staged at_most low low_head

  pub are_tracks : AreTracks c (unit_of frame) (first_of frame cylinder)
  are_tracks head low_head = ap (λ (x : Reading). x.bad) (reads head low_head)

  past : (head : ℕ) → nat_lt head 19 ≡ false → (volumes_shown c).track volume cylinder head ≡ []
  past head out =
      ap (λ (o : Option RowValue). track_at c (option_and_then (λ q. source q cylinder head) o)) there
      ∙ ap (track_at c) (source_past r cylinder head (ltb-false head 19 out))

  pub tracks_shown : tracks_at c (unit_of frame) (first_of frame cylinder) ≡ (volumes_shown c).track volume cylinder
  tracks_shown = fun_ext (λ (head : ℕ). elim (cases_Bool (nat_lt head 19)) [
    | inl in_ ↦ cond-true _ _ _ in_ ∙ ap (λ (x : Reading). x.records) (reads head (ltb-true head 19 in_))
    | inr out ↦ cond-false _ _ _ out ∙ sym (past head out)
  ])

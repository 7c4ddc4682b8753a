-- What is shown, and what is sound, stands on the rows and on the blocks that they name.
use Rattle.std.proofs.Common.{◌≡◌, inl, inr, ℕ, ◌≤◌, ◌<◌, Bool, false, cond, ◌&&◌, ◌==◌, nat_lt, List, Option, Some, None, refl, sym, ◌∙◌, ap, subst, arith}
use Rattle.std.specs.Option.{option_map, option_and_then}
use Rattle.std.proofs.lemmas.Bool.{cases_Bool, and_parts, eqb-true}
use Rattle.mss_base.specs.Content.{Content, Write, with_write, same_unit}
use Rattle.mss_base.specs.declared.place.UnitNo.{UnitNo}
use Rattle.mss_base.specs.declared.place.UnitNo.TheVariants.{TableA, TableB, Staging, Cartridge}
use Rattle.mss_base.specs.declared.place.BlockPlace.{BlockPlace}
use Rattle.mss_base.proofs.ContentLemmas.{same_unit-true, written_elsewhere}
use Rattle.ckd_track.specs.Track.{reading}
use Rattle.volume_table.specs.Row.{RowValue, state_of}
use Rattle.table_pair.specs.Pair.{row_of, row_of_copies, is_table}
use Rattle.table_pair.specs.Copies.{copy_at}
use Rattle.shown_volumes.specs.Shown.{RowsOf, told_row, rows_of, block_at, on_cartridge, in_page, source, track_at, is_marked, shown_by, volumes_shown}
use Rattle.shown_volumes.specs.Sound.{IsSpelled, IsSoundTrack, AreSound, IsSound, SoundAs}
use Rattle.shown_volumes.specs.Changing.{StandsOn, IsOutside}
use Rattle.shown_volumes.proofs.PlaceFacts.{source_on_volume, source_cartridge}

-- the blocks that rows stand on are the same
abbrev pub SameUnder : RowsOf → Content → Content → Type 0
SameUnder rows c d = (volume cylinder head : ℕ) (r : RowValue) (place : BlockPlace) → rows volume ≡ Some r → StandsOn r cylinder head place → block_at d place ≡ block_at c place

-- the same place, or another one
pub apart : (unit : UnitNo) (block : ℕ) (place : BlockPlace) → ((unit ≡ place.unit) × (block ≡ place.block) → ⊥) → (same_unit unit place.unit && (block == place.block)) ≡ false
apart unit block place differ = elim (cases_Bool (same_unit unit place.unit && (block == place.block))) [
  | inl same ↦ let parts = and_parts (same_unit unit place.unit) (block == place.block) same in absurd (differ (same_unit-true unit place.unit parts.0, eqb-true block place.block parts.1))
  | inr other ↦ other
]

module _ (c d : Content) where
  pub track_same : (o : Option BlockPlace) → ((place : BlockPlace) → o ≡ Some place → block_at d place ≡ block_at c place) → track_at d o ≡ track_at c o
  track_same None same = refl
  track_same (Some place) same = ap (λ (b : List ℕ). (reading b).records) (same place refl)

  -- one track
  pub sound_same : (r : RowValue) (y h : ℕ) → y < 404 → h < 19 → ((place : BlockPlace) → StandsOn r y h place → block_at d place ≡ block_at c place) → IsSoundTrack c r y h → IsSoundTrack d r y h
  sound_same r y h y_low h_low same sound =
      let framed : (place : BlockPlace) → 2 ≤ state_of r y → in_page r y h ≡ Some place → block_at d place ≡ block_at c place =
      λ place high at. same place (record { cylinder_in = y_low; head_in = h_low; there = inr (high, at) }) in
      let shown_there : (place : BlockPlace) → source r y h ≡ Some place → block_at d place ≡ block_at c place =
      λ place at. same place (record { cylinder_in = y_low; head_in = h_low; there = inl at }) in
      record {
        shown = λ place at. ap (λ (b : List ℕ). (reading b).bad) (shown_there place at) ∙ sound.shown place at;
        staged = record {
          blank = λ two place at. ap reading (framed place (omega arith) at) ∙ sound.staged.blank two place at;
          copied = λ three place at. framed place (omega arith) at ∙ sound.staged.copied three place at ∙ sym (shown_there (on_cartridge r y h) (source_cartridge r y h y_low h_low (inr three)));
        };
      }

  module _ (rows : RowsOf) (same : SameUnder rows c d) where
    source_same : (v y h : ℕ) (o : Option RowValue) → rows v ≡ o → (place : BlockPlace) → option_and_then (λ r. source r y h) o ≡ Some place → block_at d place ≡ block_at c place
    source_same v y h None is place at = absurd cc
    source_same v y h (Some r) is place at =
        let low = source_on_volume r y h place at in same v y h r place is (record { cylinder_in = low.0; head_in = low.1; there = inl at })

    pub shown_over : shown_by rows d ≡ shown_by rows c
    shown_over = λ i. record {
      serial = λ v. option_map (λ r. r.serial) (rows v);
      read_only = λ v. is_marked (rows v);
      track = λ v y h. track_same (option_and_then (λ r. source r y h) (rows v)) (source_same v y h (rows v) refl) i;
    }

    pub sound_over : (frames : ℕ) → AreSound frames rows c → AreSound frames rows d
    sound_over frames sound = record {
      cartridges_once = sound.cartridges_once;
      frames_below = sound.frames_below;
      frames_once = sound.frames_once;
      tracks = λ v y h y_low h_low r is. sound_same r y h y_low h_low (λ place. same v y h r place is) (sound.tracks v y h y_low h_low r is);
    }

  -- the same rows over the same blocks
  pub shows_rows : rows_of d ≡ rows_of c → (frames : ℕ) → ((v : ℕ) → v < 32 → IsSpelled (row_of d v)) → SameUnder (rows_of c) c d → IsSound frames c → SoundAs frames (volumes_shown c) d
  shows_rows rows_are frames spelled same sound = record {
    sound = record { spelled = spelled; agree = subst (λ (rows : RowsOf). AreSound frames rows d) (sym rows_are) (sound_over (rows_of c) same frames sound.agree) };
    same = ap (λ (rows : RowsOf). shown_by rows d) rows_are ∙ shown_over (rows_of c) same;
  }

  module _ (told : (v : ℕ) → row_of d v ≡ row_of c v) where
    pub rows_same : rows_of d ≡ rows_of c
    rows_same = λ i v. cond (nat_lt v 32) (told_row (told v i)) None

    pub shows_same : (frames : ℕ) → SameUnder (rows_of c) c d → IsSound frames c → SoundAs frames (volumes_shown c) d
    shows_same frames same sound = shows_rows rows_same frames (λ v low. subst IsSpelled (sym (told v)) (sound.spelled v low)) same sound

-- what is written into a block that is no table's leaves the rows
pub rows_stay : (c d : Content) (unit : UnitNo) (block : ℕ) → is_table unit ≡ false
    → ((u : UnitNo) (b : ℕ) → (same_unit unit u && (block == b)) ≡ false → d u b ≡ c u b) → (v : ℕ) → row_of d v ≡ row_of c v
rows_stay c d unit block is others v =
    λ i. row_of_copies (copy_at (others TableA v (ap (λ (t : Bool). t && (block == v)) (no_a unit is)) i)) (copy_at (others TableB v (ap (λ (t : Bool). t && (block == v)) (no_b unit is)) i))
  where
    no_a : (u : UnitNo) → is_table u ≡ false → same_unit u TableA ≡ false
    no_a TableA is = is
    no_a TableB is = refl
    no_a (Staging n) is = refl
    no_a (Cartridge n) is = refl

    no_b : (u : UnitNo) → is_table u ≡ false → same_unit u TableB ≡ false
    no_b TableA is = refl
    no_b TableB is = is
    no_b (Staging n) is = refl
    no_b (Cartridge n) is = refl

-- a write into a block outside
pub shows_outside : (frames : ℕ) (c : Content) (w : Write) → IsOutside c (record { unit = w.unit; block = w.block }) → IsSound frames c → SoundAs frames (volumes_shown c) (with_write c w)
shows_outside frames c w outside sound =
    shows_same c (with_write c w) (rows_stay c (with_write c w) w.unit w.block outside.no_table (λ u b other. written_elsewhere c w u b other)) frames
    (λ v y h r place is stands. written_elsewhere c w place.unit place.block (apart w.unit w.block place (λ same. outside.unused v y h r is (subst (StandsOn r y h) (λ i. record { unit = sym same.0 i; block = sym same.1 i }) stands)))) sound

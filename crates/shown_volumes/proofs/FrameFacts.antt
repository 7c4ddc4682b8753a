-- What a staged cylinder's frame holds, and what a write into the frame of a changed cylinder shows.
use Rattle.std.proofs.Common.{◌≡◌, ◌⊎◌, inl, inr, ℕ, ◌/◌, ◌≤◌, ◌<◌, ◌==◌, ◌&&◌, Bool, true, false, cond, List, Option, Some, None, refl, sym, ◌∙◌, ap, subst, arith}
use Rattle.std.proofs.Math.Path.{fun_ext}
use Rattle.std.specs.Option.{option_and_then, ForSome}
use Rattle.std.proofs.lemmas.Bool.{cases_Bool, cond-true, cond-false, eqb-true, eq-eqb, and_parts, and_from, false≢true}
use Rattle.mss_base.specs.Content.{Content, ChangesBlock}
use Rattle.mss_base.specs.Places.{frame_block}
use Rattle.mss_base.specs.declared.place.UnitNo.TheVariants.{Staging}
use Rattle.mss_base.specs.declared.place.BlockPlace.{BlockPlace}
use Rattle.ckd_track.specs.Data.{RecordData, Volumes}
use Rattle.ckd_track.specs.Track.{Reading, reading, reading_of}
use Rattle.ckd_plain.specs.Plain.{with_track}
use Rattle.volume_table.specs.Row.{RowValue, frame_of, state_of}
use Rattle.table_pair.specs.Pair.{row_of}
use Rattle.shown_volumes.specs.Shown.{RowsOf, rows_of, block_at, on_cartridge, source, track_at, shown_by, volumes_shown}
use Rattle.shown_volumes.specs.Sound.{IsSpelled, IsSoundTrack, AreSound, IsSound, SoundAs}
use Rattle.shown_volumes.specs.Changing.{StandsOn}
use Rattle.shown_volumes.proofs.PlaceFacts.{source_on_volume, source_blank, source_cartridge, source_frame, in_frame}
use Rattle.shown_volumes.proofs.ShownFacts.{apart, rows_stay, rows_same, track_same, sound_same}
use Rattle.shown_volumes.proofs.OutsideFacts.{frame_user}

-- a reading without a bad record
whole_reading : (r : Reading) → r.bad ≡ None → r ≡ reading_of r.records
whole_reading r none = λ i. record { records = r.records; bad = none i }

module _ (c : Content) (r : RowValue) (y h f : ℕ) (y_low : y < 404) (h_low : h < 19) (has : frame_of r (y / 8) ≡ Some f) (sound : IsSoundTrack c r y h) where
  -- the frame's block of a staged cylinder reads as what is shown
  pub staged_reading : 2 ≤ state_of r y → state_of r y ≤ 4 → reading (block_at c (frame_block f y h)) ≡ reading_of (track_at c (source r y h))
  staged_reading high low = elim which [
    | inl two ↦ sound.staged.blank two (frame_block f y h) (in_frame r y h f has) ∙ ap (λ (o : Option BlockPlace). reading_of (track_at c o)) (sym (source_blank r y h (inr two)))
    | inr more ↦ elim more [
      | inl three ↦
          let at = source_cartridge r y h y_low h_low (inr three) in
          ap reading (sound.staged.copied three (frame_block f y h) (in_frame r y h f has)) ∙ whole_reading (reading (block_at c (on_cartridge r y h))) (sound.shown (on_cartridge r y h) at)
          ∙ ap (λ (o : Option BlockPlace). reading_of (track_at c o)) (sym at)
      | inr four ↦
          let at : source r y h ≡ Some (frame_block f y h) = source_frame r y h y_low h_low four ∙ in_frame r y h f has in
          whole_reading (reading (block_at c (frame_block f y h))) (sound.shown (frame_block f y h) at) ∙ ap (λ (o : Option BlockPlace). reading_of (track_at c o)) (sym at)
    ]
  ]
    where
      which : (state_of r y ≡ 2) ⊎ ((state_of r y ≡ 3) ⊎ (state_of r y ≡ 4))
      which = elim (cases_Bool (state_of r y == 2)) [
        | inl two ↦ inl (eqb-true _ 2 two)
        | inr other ↦ elim (cases_Bool (state_of r y == 3)) [
          | inl three ↦ inr (inl (eqb-true _ 3 three))
          | inr neither ↦
              let not_two : state_of r y ≡ 2 → ⊥ = λ e. false≢true (sym other ∙ eq-eqb _ 2 e) in
              let not_three : state_of r y ≡ 3 → ⊥ = λ e. false≢true (sym neither ∙ eq-eqb _ 3 e) in
              inr (inr (omega (arith, not_two, not_three)))
        ]
      ]

-- shown of a staged cylinder in sound content
pub staged_shown : (frames : ℕ) (c : Content) (v y h f : ℕ) (r : RowValue) → IsSound frames c → rows_of c v ≡ Some r → frame_of r (y / 8) ≡ Some f
    → 2 ≤ state_of r y → state_of r y ≤ 4 → y < 404 → h < 19 → reading (block_at c (frame_block f y h)) ≡ reading_of ((volumes_shown c).track v y h)
staged_shown frames c v y h f r sound there has high low y_low h_low =
    staged_reading c r y h f y_low h_low has (sound.agree.tracks v y h y_low h_low r there) high low
    ∙ ap (λ (o : Option RowValue). reading_of (track_at c (option_and_then (λ q. source q y h) o))) (sym there)

abbrev is_here : ℕ → ℕ → ℕ → ℕ → ℕ → ℕ → Bool
is_here w y h v c d = (w == v) && (y == c) && (h == d)

here_is : (w y h v c d : ℕ) → is_here w y h v c d ≡ true → (w ≡ v) × (y ≡ c) × (h ≡ d)
here_is w y h v c d is =
    let a = and_parts ((w == v) && (y == c)) (h == d) is in
    let b = and_parts (w == v) (y == c) a.0 in
    (eqb-true w v b.0, eqb-true y c b.1, eqb-true h d a.1)

from_here : (w y h v c d : ℕ) → w ≡ v → y ≡ c → h ≡ d → is_here w y h v c d ≡ true
from_here w y h v c d one two three = and_from ((w == v) && (y == c)) (h == d) (and_from (w == v) (y == c) (eq-eqb w v one) (eq-eqb y c two)) (eq-eqb h d three)

module _ (frames : ℕ) (c d : Content) (sound : IsSound frames c) (v y h f : ℕ) (r : RowValue) (there : rows_of c v ≡ Some r) (has : frame_of r (y / 8) ≡ Some f) (four : state_of r y ≡ 4) (y_low : y < 404) (h_low : h < 19)
    (changes : ChangesBlock (frame_block f y h).unit (frame_block f y h).block (λ block. (reading block).bad ≡ None) c d) where
  abbrev put : List RecordData
  put = (reading (block_at d (frame_block f y h))).records

  told : (w : ℕ) → row_of d w ≡ row_of c w
  told = rows_stay c d (Staging (f / 50)) (frame_block f y h).block refl changes.others

  -- the block at a place that another track stands on
  kept : (w a b : ℕ) (q : RowValue) (place : BlockPlace) → rows_of c w ≡ Some q → StandsOn q a b place → is_here w a b v y h ≡ false → block_at d place ≡ block_at c place
  kept w a b q place is stands elsewhere =
      changes.others place.unit place.block (apart (frame_block f y h).unit (frame_block f y h).block place (λ same.
      let user = frame_user (rows_of c) v y h r there y_low h_low w a b q is sound.agree.frames_once f has (subst (StandsOn q a b) (λ i. record { unit = sym same.0 i; block = sym same.1 i }) stands) in
      false≢true (sym elsewhere ∙ from_here w a b v y h user.0 user.1 user.2)))

  at_frame : source r y h ≡ Some (frame_block f y h)
  at_frame = source_frame r y h y_low h_low four ∙ in_frame r y h f has

  abbrev track_of : Content → ℕ → ℕ → Option RowValue → List RecordData
  track_of e a b o = track_at e (option_and_then (λ q. source q a b) o)

  track_elsewhere : (w a b : ℕ) (o : Option RowValue) → rows_of c w ≡ o → is_here w a b v y h ≡ false → track_of d a b o ≡ track_of c a b o
  track_elsewhere w a b None is elsewhere = refl
  track_elsewhere w a b (Some q) is elsewhere = track_same c d (source q a b) (λ place at. kept w a b q place is (on_volume q a b place at) elsewhere)
    where
      on_volume : (x : RowValue) (m n : ℕ) (place : BlockPlace) → source x m n ≡ Some place → StandsOn x m n place
      on_volume x m n place at = let low = source_on_volume x m n place at in record { cylinder_in = low.0; head_in = low.1; there = inl at }

  track_is : (w a b : ℕ) → track_of d a b (rows_of c w) ≡ cond (is_here w a b v y h) put (track_of c a b (rows_of c w))
  track_is w a b = elim (cases_Bool (is_here w a b v y h)) [
    | inl at ↦
        let e = here_is w a b v y h at in
        (λ i. track_of d (e.1 i) (e.2 i) (rows_of c (e.0 i))) ∙ ap (track_of d y h) there ∙ ap (track_at d) at_frame ∙ sym (cond-true _ _ _ at)
    | inr elsewhere ↦ track_elsewhere w a b (rows_of c w) refl elsewhere ∙ sym (cond-false _ _ _ elsewhere)
  ]

  shows_written : volumes_shown d ≡ with_track (volumes_shown c) v y h put
  shows_written =
      ap (λ (rows : RowsOf). shown_by rows d) (rows_same c d told)
      ∙ ap (λ (t : ℕ → ℕ → ℕ → List RecordData). let x : Volumes = record { serial = (volumes_shown c).serial; read_only = (volumes_shown c).read_only; track = t } in x) (fun_ext (λ (w : ℕ). fun_ext (λ (a : ℕ). fun_ext (λ (b : ℕ). track_is w a b))))

  sound_here : IsSoundTrack d r y h
  sound_here = record {
    shown = λ place at.
        let e : Some (frame_block f y h) ≡ Some place = sym at_frame ∙ at in
        let same : frame_block f y h ≡ place = cc in
        subst (λ (p : BlockPlace). (reading (block_at d p)).bad ≡ None) same changes.here;
    staged = record { blank = λ two. absurd (omega arith); copied = λ three. absurd (omega arith) };
  }

  sound_at : (w a b : ℕ) → a < 404 → b < 19 → ForSome (rows_of c w) (λ q. IsSoundTrack d q a b)
  sound_at w a b a_low b_low q is = elim (cases_Bool (is_here w a b v y h)) [
    | inl at ↦
        let e = here_is w a b v y h at in
        let row_is : Some r ≡ Some q = sym there ∙ ap (rows_of c) (sym e.0) ∙ is in
        let same : r ≡ q = cc in
        subst (λ (x : RowValue). IsSoundTrack d x a b) same (subst (λ (m : ℕ). IsSoundTrack d r m b) (sym e.1) (subst (λ (n : ℕ). IsSoundTrack d r y n) (sym e.2) sound_here))
    | inr elsewhere ↦ sound_same c d q a b a_low b_low (λ place stands. kept w a b q place is stands elsewhere) (sound.agree.tracks w a b a_low b_low q is)
  ]

  -- a write into the frame's block of a changed cylinder shows the track there, and nothing else
  pub shows_track : SoundAs frames (with_track (volumes_shown c) v y h put) d
  shows_track = record {
    sound = record {
      spelled = λ w low. subst IsSpelled (sym (told w)) (sound.spelled w low);
      agree = subst (λ (rows : RowsOf). AreSound frames rows d) (sym (rows_same c d told)) (record {
        cartridges_once = sound.agree.cartridges_once;
        frames_below = sound.agree.frames_below;
        frames_once = sound.agree.frames_once;
        tracks = sound_at;
      });
    };
    same = shows_written;
  }

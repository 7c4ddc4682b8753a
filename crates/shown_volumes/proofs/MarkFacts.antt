-- Rows of which one has another mark are sound, and show the same volumes with that mark.
use Rattle.std.proofs.Common.{◌≡◌, inl, inr, ℕ, ◌<◌, ◌==◌, Bool, false, cond, Option, Some, refl, sym, ◌∙◌, ap, subst}
use Rattle.std.specs.Option.{option_map, option_and_then, ForSome}
use Rattle.std.proofs.lemmas.Bool.{cond-true, cond-false, eq-eqb}
use Rattle.mss_base.specs.Content.{Content, SiteLog, content, Writes}
use Rattle.mss_base.proofs.Moments.{weaker}
use Rattle.ckd_track.specs.Data.{Volumes}
use Rattle.volume_table.specs.Row.{RowValue, frame_of}
use Rattle.volume_table.specs.Changes.{with_mark}
use Rattle.table_pair.specs.Pair.{known, row_of, ChangesRow, OldOrNew}
use Rattle.shown_volumes.specs.Shown.{RowsOf, rows_of, source, track_at, is_marked, shown_by, volumes_shown}
use Rattle.shown_volumes.specs.Sound.{cartridge_of, frame_in, HasCartridgesOnce, HasFramesBelow, HasFramesOnce, IsSoundTrack, AreSound, IsSound, SoundAs}
use Rattle.shown_volumes.specs.Changing.{with_row, with_marked, MarkedOrNot}
use Rattle.shown_volumes.proofs.FaultFacts.{few_rows}
use Rattle.shown_volumes.proofs.RowFacts.{at_row}
use Rattle.shown_volumes.proofs.MomentFacts.{row_kept, row_new}

-- what a row with another mark keeps
module _ (rows : RowsOf) (v : ℕ) (on : Bool) (r : RowValue) (there : rows v ≡ Some r) where
  abbrev now : RowsOf
  now = with_row v (with_mark on r) rows

  pub cartridge_same : (s : Bool) (w : ℕ) → cartridge_of now w s ≡ cartridge_of rows w s
  cartridge_same s =
      at_row rows v (with_mark on r) (λ w o. option_map (λ q. cond s q.second q.first) o ≡ cartridge_of rows w s)
      (sym (ap (λ (o : Option RowValue). option_map (λ q. cond s q.second q.first) o) there)) (λ w other. refl)

  pub frame_same : (p w : ℕ) → frame_in now w p ≡ frame_in rows w p
  frame_same p =
      at_row rows v (with_mark on r) (λ w o. option_and_then (λ q. frame_of q p) o ≡ frame_in rows w p)
      (sym (ap (λ (o : Option RowValue). option_and_then (λ q. frame_of q p) o) there)) (λ w other. refl)

  pub serial_same : (w : ℕ) → option_map (λ q. q.serial) (now w) ≡ option_map (λ q. q.serial) (rows w)
  serial_same =
      at_row rows v (with_mark on r) (λ w o. option_map (λ q. q.serial) o ≡ option_map (λ q. q.serial) (rows w))
      (sym (ap (λ (o : Option RowValue). option_map (λ q. q.serial) o) there)) (λ w other. refl)

  pub cartridges_kept : HasCartridgesOnce rows → HasCartridgesOnce now
  cartridges_kept once x w s t n first second =
      once x w s t n (sym (cartridge_same s x) ∙ first) (sym (cartridge_same t w) ∙ second)

  pub frames_kept : (frames : ℕ) → HasFramesBelow frames rows → HasFramesBelow frames now
  frames_kept frames below w p low f has = below w p low f (sym (frame_same p w) ∙ has)

  pub frames_apart : HasFramesOnce rows → HasFramesOnce now
  frames_apart once x w p q f p_low q_low first second =
      once x w p q f p_low q_low (sym (frame_same p x) ∙ first) (sym (frame_same q w) ∙ second)

module _ (frames : ℕ) (c : Content) (v : ℕ) (on : Bool) (r : RowValue) (sound : IsSound frames c) (there : rows_of c v ≡ Some r) where
  abbrev new : RowValue
  new = with_mark on r

  abbrev rows : RowsOf
  rows = with_row v new (rows_of c)

  track_here : (y h : ℕ) → y < 404 → h < 19 → IsSoundTrack c new y h
  track_here y h y_low h_low =
      let was = sound.agree.tracks v y h y_low h_low r there in
      record { shown = was.shown; staged = was.staged }

  tracks : (w y h : ℕ) → y < 404 → h < 19 → ForSome (rows w) (λ q. IsSoundTrack c q y h)
  tracks w y h y_low h_low =
      at_row (rows_of c) v new (λ _ o. ForSome o (λ q. IsSoundTrack c q y h))
      (λ q is. let e : new ≡ q = cc in subst (λ (x : RowValue). IsSoundTrack c x y h) e (track_here y h y_low h_low))
      (λ x other. sound.agree.tracks x y h y_low h_low) w

  marked_sound : AreSound frames rows c
  marked_sound = record {
    cartridges_once = cartridges_kept (rows_of c) v on r there sound.agree.cartridges_once;
    frames_below = frames_kept (rows_of c) v on r there frames sound.agree.frames_below;
    frames_once = frames_apart (rows_of c) v on r there sound.agree.frames_once;
    tracks = tracks;
  }

  mark_is : (w : ℕ) → is_marked (rows w) ≡ (with_marked v on (volumes_shown c)).read_only w
  mark_is =
      at_row (rows_of c) v new (λ w o. is_marked o ≡ cond (w == v) on ((volumes_shown c).read_only w))
      (sym (cond-true (v == v) on ((volumes_shown c).read_only v) (eq-eqb v v refl)))
      (λ w other. sym (cond-false (w == v) on ((volumes_shown c).read_only w) other))

  track_is : (y h w : ℕ) → track_at c (option_and_then (λ q. source q y h) (rows w)) ≡ (volumes_shown c).track w y h
  track_is y h =
      at_row (rows_of c) v new (λ w o. track_at c (option_and_then (λ q. source q y h) o) ≡ (volumes_shown c).track w y h)
      (sym (ap (λ (o : Option RowValue). track_at c (option_and_then (λ q. source q y h) o)) there)) (λ w other. refl)

  marked_shown : shown_by rows c ≡ with_marked v on (volumes_shown c)
  marked_shown = λ i. record { serial = λ w. serial_same (rows_of c) v on r there w i; read_only = λ w. mark_is w i; track = λ w y h. track_is y h w i }

  -- once the row with the mark is told
  pub marked_new : (d : Content) (P : Content → Type 0) → ChangesRow v P c d → row_of d v ≡ known (Some new) false
      → SoundAs frames (with_marked v on (volumes_shown c)) d
  marked_new d P within here =
      subst (λ (V : Volumes). SoundAs frames V d) marked_shown
      (row_new v P c d within (few_rows (row_of c) v r there) new here frames sound marked_sound)

  -- sound, with the mark or without it
  marking_shows : (d : Content) → ChangesRow v (OldOrNew v new c) c d → IsSound frames d × MarkedOrNot v on (volumes_shown c) (volumes_shown d)
  marking_shows d within = elim within.here [
    | inl old ↦ let kept = row_kept v (OldOrNew v new c) c d within old frames sound in (kept.sound, inl kept.same)
    | inr told ↦ let one = marked_new d (OldOrNew v new c) within told in (one.sound, inr one.same)
  ]

pub marking_moments : (frames volume : ℕ) (on : Bool) (r : RowValue) (s t : SiteLog) → IsSound frames (content s)
    → rows_of (content s) volume ≡ Some r
    → Writes (ChangesRow volume (OldOrNew volume (with_mark on r) (content s)) (content s)) s t
    → Writes (λ d. IsSound frames d × MarkedOrNot volume on (volumes_shown (content s)) (volumes_shown d)) s t
marking_moments frames volume on r s t sound there w =
    weaker (ChangesRow volume (OldOrNew volume (with_mark on r) (content s)) (content s))
    (λ d. IsSound frames d × MarkedOrNot volume on (volumes_shown (content s)) (volumes_shown d))
    (λ d within. marking_shows frames (content s) volume on r sound there d within) s t w

-- Rows with another row of one volume, which has the same serial and cartridges.
use Rattle.std.proofs.Common.{◌≡◌, ◌⊎◌, inl, inr, ℕ, ◌<◌, ◌==◌, Bool, false, cond, List, Option, Some, refl, sym, ◌∙◌, ap, subst}
use Rattle.std.specs.Option.{option_map, option_and_then, ForSome}
use Rattle.std.proofs.lemmas.Bool.{cases_Bool, cond-true, cond-false, eqb-true, eq-eqb}
use Rattle.mss_base.specs.Content.{Content}
use Rattle.volume_table.specs.Row.{RowValue, frame_of}
use Rattle.table_pair.specs.Pair.{row_of}
use Rattle.shown_volumes.specs.Shown.{RowsOf, rows_of, source, track_at, is_marked, shown_by, volumes_shown}
use Rattle.shown_volumes.specs.Sound.{cartridge_of, frame_in, HasCartridgesOnce, HasFramesBelow, HasFramesOnce, IsSoundTrack, IsSound}
use Rattle.shown_volumes.specs.Changing.{with_row, MayChange}
use Rattle.shown_volumes.proofs.FaultFacts.{few_rows}

-- what holds of the new row and of each other row holds of all
module _ (rows : RowsOf) (v : ℕ) (new : RowValue) where
  pub row_here : with_row v new rows v ≡ Some new
  row_here = cond-true _ _ _ (eq-eqb v v refl)

  pub row_other : (w : ℕ) → (w == v) ≡ false → with_row v new rows w ≡ rows w
  row_other w other = cond-false _ _ _ other

  pub at_row : (P : ℕ → Option RowValue → Type 0) → P v (Some new) → ((w : ℕ) → (w == v) ≡ false → P w (rows w)) → (w : ℕ) → P w (with_row v new rows w)
  at_row P here elsewhere w = elim (cases_Bool (w == v)) [
    | inl same ↦ let e : w ≡ v = eqb-true w v same in subst (λ (x : ℕ). P x (with_row v new rows x)) (sym e) (subst (P v) (sym row_here) here)
    | inr other ↦ subst (P w) (sym (row_other w other)) (elsewhere w other)
  ]

-- a track that is shown is the same, and sound
abbrev pub StaysTrack : Content → RowValue → RowValue → ℕ → ℕ → Type 0
StaysTrack c r new y h = IsSoundTrack c new y h × (track_at c (source new y h) ≡ track_at c (source r y h))

-- the frame of a page that had it, or a new one
pub record AreFrames (frames : ℕ) (c : Content) (r new : RowValue) (IsNew : ℕ → ℕ → Type 0) : Type 0 where
  pub from : (p f : ℕ) → p < 51 → frame_of new p ≡ Some f → (frame_of r p ≡ Some f) ⊎ IsNew p f
  pub below : (p f : ℕ) → IsNew p f → f < frames
  pub once : (p q f : ℕ) → IsNew p f → IsNew q f → p ≡ q
  pub free : (p f : ℕ) → IsNew p f → (w q : ℕ) → q < 51 → frame_in (rows_of c) w q ≡ Some f → ⊥

module _ (frames : ℕ) (c : Content) (v : ℕ) (r : RowValue) (sound : IsSound frames c) (there : rows_of c v ≡ Some r) (pages : List (Option ℕ)) (states : List ℕ) where
  abbrev new : RowValue
  new = record r { pages = pages; states = states }

  abbrev rows : RowsOf
  rows = with_row v new (rows_of c)

  cartridge_same : (s : Bool) (w : ℕ) → cartridge_of rows w s ≡ cartridge_of (rows_of c) w s
  cartridge_same s =
      at_row (rows_of c) v new (λ w o. option_map (λ q. cond s q.second q.first) o ≡ cartridge_of (rows_of c) w s)
      (sym (ap (λ (o : Option RowValue). option_map (λ q. cond s q.second q.first) o) there)) (λ w other. refl)

  cartridges : HasCartridgesOnce rows
  cartridges x w s t n first second = sound.agree.cartridges_once x w s t n (sym (cartridge_same s x) ∙ first) (sym (cartridge_same t w) ∙ second)

  serial_same : (w : ℕ) → option_map (λ q. q.serial) (rows w) ≡ option_map (λ q. q.serial) (rows_of c w)
  serial_same = at_row (rows_of c) v new (λ w o. option_map (λ q. q.serial) o ≡ option_map (λ q. q.serial) (rows_of c w)) (sym (ap (λ (o : Option RowValue). option_map (λ q. q.serial) o) there)) (λ w other. refl)

  mark_same : (w : ℕ) → is_marked (rows w) ≡ is_marked (rows_of c w)
  mark_same = at_row (rows_of c) v new (λ w o. is_marked o ≡ is_marked (rows_of c w)) (sym (ap is_marked there)) (λ w other. refl)

  module _ (IsNew : ℕ → ℕ → Type 0) (are : AreFrames frames c r new IsNew) where
    abbrev From : ℕ → ℕ → ℕ → Type 0
    From w p f = (frame_in (rows_of c) w p ≡ Some f) ⊎ ((w ≡ v) × IsNew p f)

    frame_from : (p f : ℕ) → p < 51 → (w : ℕ) → frame_in rows w p ≡ Some f → From w p f
    frame_from p f low =
        at_row (rows_of c) v new (λ w o. option_and_then (λ q. frame_of q p) o ≡ Some f → From w p f)
        (λ has. elim (are.from p f low has) [ inl old ↦ inl (ap (λ (o : Option RowValue). option_and_then (λ q. frame_of q p) o) there ∙ old) | inr fresh ↦ inr (refl, fresh) ])
        (λ w other has. inl has)

    frames_below : HasFramesBelow frames rows
    frames_below w p low f has = elim (frame_from p f low w has) [ inl old ↦ sound.agree.frames_below w p low f old | inr fresh ↦ are.below p f fresh.1 ]

    frames_once : HasFramesOnce rows
    frames_once x w p q f p_low q_low first second = elim (frame_from p f p_low x first) [
      | inl old ↦ elim (frame_from q f q_low w second) [
        | inl also ↦ sound.agree.frames_once x w p q f p_low q_low old also
        | inr fresh ↦ absurd (are.free q f fresh.1 x p p_low old)
      ]
      | inr fresh ↦ elim (frame_from q f q_low w second) [
        | inl old ↦ absurd (are.free p f fresh.1 w q q_low old)
        | inr also ↦ (fresh.0 ∙ sym also.0, are.once p q f fresh.1 also.1)
      ]
    ]

    module _ (stays : (y h : ℕ) → y < 404 → h < 19 → StaysTrack c r new y h) (past : (y h : ℕ) → track_at c (source new y h) ≡ track_at c (source r y h)) where
      track_same : (y h w : ℕ) → track_at c (option_and_then (λ q. source q y h) (rows w)) ≡ (volumes_shown c).track w y h
      track_same y h =
          at_row (rows_of c) v new (λ w o. track_at c (option_and_then (λ q. source q y h) o) ≡ (volumes_shown c).track w y h)
          (past y h ∙ sym (ap (λ (o : Option RowValue). track_at c (option_and_then (λ q. source q y h) o)) there)) (λ w other. refl)

      shown_same : shown_by rows c ≡ volumes_shown c
      shown_same = λ i. record { serial = λ w. serial_same w i; read_only = λ w. mark_same w i; track = λ w y h. track_same y h w i }

      tracks : (w y h : ℕ) → y < 404 → h < 19 → ForSome (rows w) (λ q. IsSoundTrack c q y h)
      tracks w y h y_low h_low =
          at_row (rows_of c) v new (λ _ o. ForSome o (λ q. IsSoundTrack c q y h))
          (λ q is. let e : new ≡ q = cc in subst (λ (x : RowValue). IsSoundTrack c x y h) e (stays y h y_low h_low).0) (λ x other. sound.agree.tracks x y h y_low h_low) w

      pub may_change : MayChange frames v new c
      may_change = record {
        low = few_rows (row_of c) v r there;
        sound = sound;
        same = shown_same;
        still = record { cartridges_once = cartridges; frames_below = frames_below; frames_once = frames_once; tracks = tracks };
      }

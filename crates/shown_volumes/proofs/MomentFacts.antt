-- What is shown at each moment while a row is changed, repaired or created.
use Rattle.std.proofs.Common.{◌≡◌, inl, inr, ℕ, ◌<◌, Bool, false, cond, ◌&&◌, ◌==◌, nat_lt, List, Some, None, sym, ◌∙◌, ap, subst}
use Rattle.std.proofs.lemmas.Bool.{cases_Bool, cond-true, cond-false, eqb-true, eq-eqb, lt-ltb, false≢true}
use Rattle.mss_base.specs.declared.place.UnitNo.TheVariants.{TableA, TableB}
use Rattle.mss_base.specs.Content.{Content, SiteLog, content, Writes}
use Rattle.mss_base.proofs.Moments.{weaker}
use Rattle.ckd_track.specs.Data.{Volumes}
use Rattle.volume_table.specs.Row.{RowValue, blank_row}
use Rattle.table_pair.specs.Copies.{copy_at}
use Rattle.table_pair.specs.Pair.{known, row_of, row_of_copies, ChangesRow, OldOrNew, NoneOrNew}
use Rattle.table_pair.specs.Repairs.{KeepsRow}
use Rattle.shown_volumes.specs.Shown.{RowsOf, told_row, rows_of, shown_by, volumes_shown}
use Rattle.shown_volumes.specs.Sound.{IsSpelled, AreSound, IsSound, SoundAs}
use Rattle.shown_volumes.specs.Changing.{with_row, MayChange, IsFresh, with_blank, WithOrWithout}
use Rattle.shown_volumes.proofs.PlaceFacts.{no_table}
use Rattle.shown_volumes.proofs.ShownFacts.{SameUnder, shown_over, sound_over, shows_rows, shows_same}
use Rattle.shown_volumes.proofs.BlankFacts.{blank_sound, blank_shown}

module _ (volume : ℕ) (P : Content → Type 0) (c d : Content) (within : ChangesRow volume P c d) where
  -- no track stands on a table's block
  same_under : (rows : RowsOf) → SameUnder rows c d
  same_under rows w y h r place is stands = within.others place.unit place.block (ap (λ (b : Bool). b && (volume == place.block)) (no_table r y h place stands))

  elsewhere : (w : ℕ) → (volume == w) ≡ false → row_of d w ≡ row_of c w
  elsewhere w other = λ i. row_of_copies (copy_at (within.others TableA w other i)) (copy_at (within.others TableB w other i))

  module _ (here : row_of d volume ≡ row_of c volume) where
    pub all_rows : (w : ℕ) → row_of d w ≡ row_of c w
    all_rows w = elim (cases_Bool (volume == w)) [
      | inl same ↦ let e : volume ≡ w = eqb-true volume w same in ap (row_of d) (sym e) ∙ here ∙ ap (row_of c) e
      | inr other ↦ elsewhere w other
    ]

    pub row_kept : (frames : ℕ) → IsSound frames c → SoundAs frames (volumes_shown c) d
    row_kept frames sound = shows_same c d all_rows frames (same_under (rows_of c)) sound

  -- each row that was spelled still is, where this one is
  still_spelled : ((w : ℕ) → w < 32 → IsSpelled (row_of c w)) → IsSpelled (row_of d volume) → (w : ℕ) → w < 32 → IsSpelled (row_of d w)
  still_spelled spelled here w low = elim (cases_Bool (volume == w)) [
    | inl same ↦ subst (λ (x : ℕ). IsSpelled (row_of d x)) (eqb-true volume w same) here
    | inr other ↦ subst IsSpelled (sym (elsewhere w other)) (spelled w low)
  ]

  turned : (w : ℕ) → (w == volume) ≡ false → (volume == w) ≡ false
  turned w other = elim (cases_Bool (volume == w)) [
    | inl same ↦ absurd (false≢true (sym other ∙ eq-eqb w volume (sym (eqb-true volume w same))))
    | inr not_same ↦ not_same
  ]

  module _ (low : volume < 32) where
    -- there is still no row
    none_still : row_of d volume ≡ known None false → rows_of c volume ≡ None → (frames : ℕ) → IsSound frames c → SoundAs frames (volumes_shown c) d
    none_still here was frames sound =
        shows_rows c d (λ i w. at w i) frames (still_spelled sound.spelled (subst IsSpelled (sym here) tt)) (same_under (rows_of c)) sound
      where
        at : (w : ℕ) → rows_of d w ≡ rows_of c w
        at w = elim (cases_Bool (w == volume)) [
          | inl same ↦ let e : w ≡ volume = eqb-true w volume same in ap (rows_of d) e ∙ cond-true _ _ _ (lt-ltb volume 32 low) ∙ ap told_row here ∙ sym was ∙ ap (rows_of c) (sym e)
          | inr other ↦ (λ i. cond (nat_lt w 32) (told_row (elsewhere w (turned w other) i)) None)
        ]

    -- there is another row
    module _ (row : RowValue) (here : row_of d volume ≡ known (Some row) false) where
      new_row : (w : ℕ) → rows_of d w ≡ with_row volume row (rows_of c) w
      new_row w = elim (cases_Bool (w == volume)) [
        | inl same ↦ ap (rows_of d) (eqb-true w volume same) ∙ cond-true _ _ _ (lt-ltb volume 32 low) ∙ ap told_row here ∙ sym (cond-true _ _ _ same)
        | inr other ↦ (λ i. cond (nat_lt w 32) (told_row (elsewhere w (turned w other) i)) None) ∙ sym (cond-false _ _ _ other)
      ]

      pub new_rows : rows_of d ≡ with_row volume row (rows_of c)
      new_rows = λ i w. new_row w i

      pub row_new : (frames : ℕ) → IsSound frames c → AreSound frames (with_row volume row (rows_of c)) c → SoundAs frames (shown_by (with_row volume row (rows_of c)) c) d
      row_new frames sound still = record {
        sound = record {
          spelled = still_spelled sound.spelled (subst IsSpelled (sym here) tt);
          agree = subst (λ (rows : RowsOf). AreSound frames rows d) (sym new_rows) (sound_over c d (with_row volume row (rows_of c)) (same_under (with_row volume row (rows_of c))) frames still);
        };
        same = ap (λ (rows : RowsOf). shown_by rows d) new_rows ∙ shown_over c d (with_row volume row (rows_of c)) (same_under (with_row volume row (rows_of c)));
      }

-- a change whose condition holds
pub change_shows : (frames volume : ℕ) (row : RowValue) (c d : Content) → MayChange frames volume row c → ChangesRow volume (OldOrNew volume row c) c d → SoundAs frames (volumes_shown c) d
change_shows frames volume row c d may within = elim within.here [
  | inl old ↦ row_kept volume (OldOrNew volume row c) c d within old frames may.sound
  | inr new ↦ subst (λ (V : Volumes). SoundAs frames V d) may.same (row_new volume (OldOrNew volume row c) c d within may.low row new frames may.sound may.still)
]

pub change_moments : (frames volume : ℕ) (row : RowValue) (s t : SiteLog) → MayChange frames volume row (content s)
    → Writes (ChangesRow volume (OldOrNew volume row (content s)) (content s)) s t → Writes (SoundAs frames (volumes_shown (content s))) s t
change_moments frames volume row s t may w =
    weaker (ChangesRow volume (OldOrNew volume row (content s)) (content s)) (SoundAs frames (volumes_shown (content s))) (λ d within. change_shows frames volume row (content s) d may within) s t w

-- a repair
pub repair_moments : (frames volume : ℕ) (s t : SiteLog) → IsSound frames (content s)
    → Writes (ChangesRow volume (KeepsRow volume (content s)) (content s)) s t → Writes (SoundAs frames (volumes_shown (content s))) s t
repair_moments frames volume s t sound w =
    weaker (ChangesRow volume (KeepsRow volume (content s)) (content s)) (SoundAs frames (volumes_shown (content s)))
    (λ d within. row_kept volume (KeepsRow volume (content s)) (content s) d within within.here frames sound) s t w

-- a creation
module _ (frames volume first second : ℕ) (serial : List ℕ) where
  abbrev new : RowValue
  new = blank_row serial first second

  pub blank_new : (c d : Content) → IsSound frames c → IsFresh volume first second c → (P : Content → Type 0) → ChangesRow volume P c d → row_of d volume ≡ known (Some new) false
      → SoundAs frames (with_blank volume serial (volumes_shown c)) d
  blank_new c d sound fresh P within here =
      subst (λ (V : Volumes). SoundAs frames V d) (blank_shown frames c volume first second serial sound fresh)
      (row_new volume P c d within fresh.low new here frames sound (blank_sound frames c volume first second serial sound fresh))

  -- sound, with the new volume or without it
  pub creation_shows : (c d : Content) → IsSound frames c → IsFresh volume first second c → ChangesRow volume (NoneOrNew volume new) c d → IsSound frames d × WithOrWithout volume serial (volumes_shown c) (volumes_shown d)
  creation_shows c d sound fresh within = elim within.here [
    | inl none ↦ let old = none_still volume (NoneOrNew volume new) c d within fresh.low none fresh.none frames sound in (old.sound, inl old.same)
    | inr made ↦ let one = blank_new c d sound fresh (NoneOrNew volume new) within made.0 in (one.sound, inr one.same)
  ]

  pub creation_moments : (s t : SiteLog) → IsSound frames (content s) → IsFresh volume first second (content s) → Writes (ChangesRow volume (NoneOrNew volume new) (content s)) s t
      → Writes (λ d. IsSound frames d × WithOrWithout volume serial (volumes_shown (content s)) (volumes_shown d)) s t
  creation_moments s t sound fresh w =
      weaker (ChangesRow volume (NoneOrNew volume new) (content s)) (λ d. IsSound frames d × WithOrWithout volume serial (volumes_shown (content s)) (volumes_shown d))
      (λ d within. creation_shows (content s) d sound fresh within) s t w

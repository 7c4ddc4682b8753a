-- What is loose lies outside: what a stop then leaves, and what keeps it so.
use Rattle.std.proofs.Common.{◌≡◌, ◌⊎◌, inl, inr, ℕ, ◌==◌, true, false, ◌&&◌, ◌||◌, List, [], ◌∷◌, length, Some, refl, sym, ◌∙◌, ap, subst}
use Rattle.std.proofs.lemmas.Bool.{cases_Bool, cond-true, cond-false, eqb-true, and_parts, or_cases, false≢true}
use Rattle.std.specs.Prelude.{not}
use Rattle.mss_base.specs.declared.place.UnitNo.{UnitNo}
use Rattle.mss_base.specs.declared.place.UnitNo.TheVariants.{TableA, TableB}
use Rattle.mss_base.specs.declared.place.BlockPlace.{BlockPlace}
use Rattle.mss_base.specs.Content.{Content, SiteLog, Write, Item, wrote, synced, synced_all, unsynced, Places, nowhere, in_range, same_unit, content, with_write, Tear, image, loose_after, loose_places, IsLoose, NoLooser, IsTorn, Got, Adds, Settles, Writes, ChangesBlock}
use Rattle.mss_base.proofs.ContentLemmas.{same_unit-refl, same_unit-true, written_elsewhere}
use Rattle.mss_base.proofs.Moments.{torn_at, last_torn, weaker, started, ended_with, one_write, synced_moments, content_then, content_grown}
use Rattle.mss_base.proofs.Settling.{loose-append, adds_firm, settles_sync, settles_no_looser}
use Rattle.ckd_track.specs.Data.{Volumes}
use Rattle.volume_table.specs.Row.{RowValue}
use Rattle.table_pair.specs.Copies.{copy_at}
use Rattle.table_pair.specs.Pair.{row_of_copies, is_table, OldOrNew, ChangesRow}
use Rattle.shown_volumes.specs.Shown.{RowsOf, rows_of, volumes_shown}
use Rattle.shown_volumes.specs.Sound.{IsSound, SoundAs}
use Rattle.shown_volumes.specs.Changing.{StandsOn, IsOutside, with_row, IsQuietIn, IsQuiet, StillShows, MayWriteRow}
use Rattle.shown_volumes.proofs.ShownFacts.{shows_same, shows_outside, rows_same, rows_stay}
use Rattle.shown_volumes.proofs.MomentFacts.{all_rows, new_rows, change_shows}

-- ---- what a stop leaves

-- loose bytes of a site may change where it is quiet: the same is shown
pub torn_shows : (frames : ℕ) (volumes : Volumes) (s : SiteLog) (c d : Content) → StillShows frames volumes s c → IsTorn s c d → SoundAs frames volumes d
torn_shows frames volumes s c d still torn = subst (λ (V : Volumes). SoundAs frames V d) still.0.same (shows_same c d
    (λ w i. row_of_copies (copy_at (at TableA refl w i)) (copy_at (at TableB refl w i))) frames
    (λ v y h r place there stands. torn_at s c d place.unit place.block torn (λ is. let out = still.1 place is in out.unused v y h r there stands)) still.0.sound)
  where
    at : (u : UnitNo) → is_table u ≡ true → (b : ℕ) → d u b ≡ c u b
    at u table b = torn_at s c d u b torn (λ is. let out = still.1 (record { unit = u; block = b }) is in false≢true (sym out.no_table ∙ table))

-- whatever a stop leaves of a quiet site now
pub quiet_rests : (frames : ℕ) (s : SiteLog) → IsQuiet s → IsSound frames (content s) → (k : ℕ) (tear : Tear) → k ≡ length s.log → SoundAs frames (volumes_shown (content s)) (image s k tear)
quiet_rests frames s quiet sound k tear e = torn_shows frames (volumes_shown (content s)) s (content s) (image s k tear) (record { sound = sound; same = refl }, quiet) (last_torn s k tear e)

-- ---- what is quiet

-- a block that no row names stays so with the same rows
still_outside : (c d : Content) (place : BlockPlace) → rows_of d ≡ rows_of c → IsOutside c place → IsOutside d place
still_outside c d place rows out = record { no_table = out.no_table; unused = λ v y h r there stands. out.unused v y h r (sym (ap (λ (x : RowsOf). x v) rows) ∙ there) stands }

-- contents with the same rows
pub quiet_rows : (s : SiteLog) (c d : Content) → IsQuietIn s c → rows_of d ≡ rows_of c → IsQuietIn s d
quiet_rows s c d quiet rows place is = still_outside c d place rows (quiet place is)

-- nothing is loose
pub firm_quiet : (s : SiteLog) → ((unit : UnitNo) (block : ℕ) → IsLoose s unit block → ⊥) → IsQuiet s
firm_quiet s firm place is = absurd (firm place.unit place.block is)

-- no write
pub quiet_started : (frames : ℕ) (s : SiteLog) → IsQuiet s → IsSound frames (content s) → Writes (StillShows frames (volumes_shown (content s)) s) s s
quiet_started frames s quiet sound = started (StillShows frames (volumes_shown (content s)) s) s (record { sound = sound; same = refl }, quiet)

-- writes into one block that is no table's
pub block_quiet : (s : SiteLog) (unit : UnitNo) (block : ℕ) (P : List ℕ → Type 0) (d : Content) → IsQuiet s → is_table unit ≡ false → ChangesBlock unit block P (content s) d → IsQuietIn s d
block_quiet s unit block P d quiet none within = quiet_rows s (content s) d quiet (rows_same (content s) d (rows_stay (content s) d unit block none within.others))

-- ---- a write into a block outside, firm or not

written_rows : (c : Content) (w : Write) → IsOutside c (record { unit = w.unit; block = w.block }) → rows_of (with_write c w) ≡ rows_of c
written_rows c w out = rows_same c (with_write c w) (rows_stay c (with_write c w) w.unit w.block out.no_table (λ u b other. written_elsewhere c w u b other))

pub copied_moments : (frames : ℕ) (s t : SiteLog) (w : Write) → IsQuiet s → IsSound frames (content s) → IsOutside (content s) (record { unit = w.unit; block = w.block }) → Adds w s t
    → Writes (StillShows frames (volumes_shown (content s)) s) s t
copied_moments frames s t w quiet sound out adds = one_write (StillShows frames (volumes_shown (content s)) s) s t w adds (record { sound = sound; same = refl }, quiet)
    (λ left long. (
      shows_outside frames (content s) (record w { bytes = left }) out sound,
      quiet_rows s (content s) _ quiet (written_rows (content s) (record w { bytes = left }) out),
    ))

-- what is loose behind items of a log
loose_then : (s t : SiteLog) (items : List Item) → Got items s t → (unit : UnitNo) (block place : ℕ) → loose_places t unit block place ≡ loose_after (loose_places s) items unit block place
loose_then s t items got unit block place = ap (λ (x : SiteLog). loose_places x unit block place) got ∙ ap (λ (p : Places). p unit block place) (loose-append nowhere s.log items)

pub copied_quiet : (s t : SiteLog) (w : Write) → IsQuiet s → IsOutside (content s) (record { unit = w.unit; block = w.block }) → Adds w s t → IsQuiet t
copied_quiet s t w quiet out adds place is =
    still_outside (content s) (content t) place (ap rows_of (content_then w s t adds) ∙ written_rows (content s) w out) (elim (which adds) [
      | inl was ↦ quiet place was
      | inr here ↦ out_at here
    ])
  where
    -- it was loose, or is in the write
    either : (i : ℕ) → (loose_places s place.unit place.block i || in_range w place.unit place.block i) ≡ true → IsLoose s place.unit place.block ⊎ ((same_unit w.unit place.unit && (w.block == place.block)) ≡ true)
    either i found = elim (or_cases (loose_places s place.unit place.block i) (in_range w place.unit place.block i) found) [
      | inl was ↦ inl (i, was)
      | inr now ↦ inr (and_parts (same_unit w.unit place.unit && (w.block == place.block)) _ now).0
    ]

    which : Adds w s t → IsLoose s place.unit place.block ⊎ ((same_unit w.unit place.unit && (w.block == place.block)) ≡ true)
    which (inl alone) = either is.0 (sym (loose_then s t (wrote w ∷ []) alone place.unit place.block is.0) ∙ is.1)
    which (inr (inl firm)) = inl (settles_no_looser s t (adds_firm w s t firm) place.unit place.block is)
    which (inr (inr failed)) = either is.0 (sym (loose_then s t (wrote w ∷ unsynced ∷ []) failed place.unit place.block is.0) ∙ is.1)

    out_at : (same_unit w.unit place.unit && (w.block == place.block)) ≡ true → IsOutside (content s) place
    out_at here =
        let parts = and_parts (same_unit w.unit place.unit) (w.block == place.block) here in
        let unit_is : w.unit ≡ place.unit = same_unit-true w.unit place.unit parts.0 in
        let block_is : w.block ≡ place.block = eqb-true w.block place.block parts.1 in
        subst (IsOutside (content s)) (λ i. record { unit = unit_is i; block = block_is i }) out

-- ---- syncs

-- what was written is firm
pub quiet_settled : (s t : SiteLog) → Settles s t → IsQuietIn s (content t) → IsQuiet t
quiet_settled s t settled quiet place is = quiet place (settles_no_looser s t settled place.unit place.block is)

pub settled_firm : (s t : SiteLog) → Settles s t → ((unit : UnitNo) (block : ℕ) → IsLoose s unit block → ⊥) → (unit : UnitNo) (block : ℕ) → IsLoose t unit block → ⊥
settled_firm s t settled firm unit block is = firm unit block (settles_no_looser s t settled unit block is)

-- a sync, done or failed
pub sync_same : (s t : SiteLog) (unit : UnitNo) → Got (synced unit ∷ []) s t ⊎ Got (unsynced ∷ []) s t → content t ≡ content s
sync_same s t unit (inl done) = content_grown s t (synced unit ∷ []) done
sync_same s t unit (inr failed) = content_grown s t (unsynced ∷ []) failed

pub sync_moments : (frames : ℕ) (s t : SiteLog) (unit : UnitNo) → IsQuiet s → IsSound frames (content s) → Got (synced unit ∷ []) s t ⊎ Got (unsynced ∷ []) s t
    → Writes (StillShows frames (volumes_shown (content s)) s) s t
sync_moments frames s t unit quiet sound (inl done) = synced_moments (StillShows frames (volumes_shown (content s)) s) s t unit (inl done) (record { sound = sound; same = refl }, quiet)
sync_moments frames s t unit quiet sound (inr failed) = synced_moments (StillShows frames (volumes_shown (content s)) s) s t unit (inr (inr failed)) (record { sound = sound; same = refl }, quiet)

sync_no_looser : (s t : SiteLog) (unit : UnitNo) → Got (synced unit ∷ []) s t ⊎ Got (unsynced ∷ []) s t → NoLooser s t
sync_no_looser s t unit (inl done) = settles_no_looser s t (settles_sync unit s t done)
sync_no_looser s t unit (inr failed) = λ u b is. (is.0, sym (loose_then s t (unsynced ∷ []) failed u b is.0) ∙ is.1)

pub sync_quiet : (s t : SiteLog) (unit : UnitNo) → IsQuiet s → Got (synced unit ∷ []) s t ⊎ Got (unsynced ∷ []) s t → IsQuiet t
sync_quiet s t unit quiet got place is = still_outside (content s) (content t) place (ap rows_of (sync_same s t unit got)) (quiet place (sync_no_looser s t unit got place.unit place.block is))

-- behind a sync of a unit nothing of it is loose
pub synced_firm : (s t : SiteLog) (unit : UnitNo) → Got (synced unit ∷ []) s t → (block : ℕ) → IsLoose t unit block → ⊥
synced_firm s t unit got block is =
    let now = sym (loose_then s t (synced unit ∷ []) got unit block is.0) ∙ is.1 in
    false≢true (sym (ap not (same_unit-refl unit)) ∙ (and_parts (loose_places s unit block is.0) (not (same_unit unit unit)) now).1)

-- and behind one of all units nothing
pub all_firm : (s t : SiteLog) → Got (synced_all ∷ []) s t → (unit : UnitNo) (block : ℕ) → IsLoose t unit block → ⊥
all_firm s t got unit block is = false≢true (sym (loose_then s t (synced_all ∷ []) got unit block is.0) ∙ is.1)

-- ---- a change of a row

module _ (frames volume : ℕ) (row : RowValue) (s t : SiteLog) (may : MayWriteRow frames volume row s) where
  -- with the new row of the volume
  new_quiet : (d : Content) → rows_of d ≡ with_row volume row (rows_of (content s)) → IsQuietIn s d
  new_quiet d rows place is =
      let out = may.quiet place is in
      record {
        no_table = out.no_table;
        unused = λ v y h r there stands.
            let now : with_row volume row (rows_of (content s)) v ≡ Some r = sym (ap (λ (x : RowsOf). x v) rows) ∙ there in
            elim (cases_Bool (v == volume)) [
              | inl same ↦ (let o : Some row ≡ Some r = sym (cond-true (v == volume) _ _ same) ∙ now in let e : r ≡ row = cc in may.under place is y h (subst (λ (q : RowValue). StandsOn q y h place) e stands))
              | inr other ↦ out.unused v y h r (sym (cond-false (v == volume) _ _ other) ∙ now) stands
            ];
      }

  row_quiet : (d : Content) → ChangesRow volume (OldOrNew volume row (content s)) (content s) d → IsQuietIn s d
  row_quiet d within = elim within.here [
    | inl old ↦ quiet_rows s (content s) d may.quiet (rows_same (content s) d (all_rows volume (OldOrNew volume row (content s)) (content s) d within old))
    | inr new ↦ new_quiet d (new_rows volume (OldOrNew volume row (content s)) (content s) d within may.may.low row new)
  ]

  -- at each moment of a row's change
  pub row_moments : Writes (ChangesRow volume (OldOrNew volume row (content s)) (content s)) s t → Writes (StillShows frames (volumes_shown (content s)) s) s t
  row_moments w =
      weaker (ChangesRow volume (OldOrNew volume row (content s)) (content s)) (StillShows frames (volumes_shown (content s)) s)
      (λ d within. (change_shows frames volume row (content s) d may.may within, row_quiet d within)) s t w

  -- and behind it, where it is firm
  pub row_settled : Writes (ChangesRow volume (OldOrNew volume row (content s)) (content s)) s t → Settles s t → IsQuiet t
  row_settled w settled = quiet_settled s t settled (ended_with (StillShows frames (volumes_shown (content s)) s) s t (row_moments w)).1

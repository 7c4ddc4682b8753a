-- What one change of a mark makes of the site and of the rows.
use Rattle.std.proofs.Common.{◌≡◌, ◌≢◌, ℕ, ◌<◌, ◌==◌, Bool, List, [], ◌∷◌, length, set, Option, Some, refl, sym, ◌∙◌, ap, subst, arith}
use Rattle.std.specs.Prelude.{IsSome}
use Rattle.std.specs.List.{AllByRecursion}
use Rattle.std.proofs.lemmas.Bool.{cond_both}
use Rattle.mss_base.specs.Configs.{VolumeData}
use Rattle.mss_base.specs.Content.{Content, SiteLog, content, Writes}
use Rattle.mss_base.proofs.Moments.{ended_with}
use Rattle.volume_table.specs.Row.{RowValue}
use Rattle.volume_table.specs.Changes.{with_mark}
use Rattle.volume_table.specs.Listed.{row_in_list}
use Rattle.volume_table.specs.declared.changes.Change.TheVariants.{Protect}
use Rattle.table_pair.specs.declared.copy.SlotsUsed.{SlotsUsed}
use Rattle.table_pair.specs.Pair.{HoldsRow, ChangesRow, OldOrNew}
use Rattle.table_pair.specs.Migrating.{AreNew}
use Rattle.table_pair.specs.Slots.{HasSlots, IsDue, used_after, used_at}
use Rattle.table_pair.proofs.PairFacts.{held_row}
use Rattle.shown_volumes.specs.Shown.{RowsOf, rows_of, volumes_shown}
use Rattle.shown_volumes.specs.Sound.{IsSound}
use Rattle.shown_volumes.specs.Changing.{with_row}
use Rattle.shown_volumes.proofs.MarkFacts.{marked_new, marking_moments}
use Rattle.mss_restart.specs.Opening.{AreKnown, AreHeld, RowsAre, IsOpeningDone, BeforeOrAfter, marked}
use Rattle.mss_restart.proofs.CreatedFacts.{listed_set, held_with}
use Rattle.mss_restart.proofs.FreshFacts.{rows_with}
use Rattle.mss_restart.proofs.KnownRows.{rows_listed}
use Rattle.mss_restart.proofs.Renewed.{renewed_with}
use Rattle.mss_restart.proofs.SlotFacts.{slots_with}

-- so many slots are in use once
same_used : (u v : SlotsUsed) (volume : ℕ) (c : Content) → HasSlots u volume c → HasSlots v volume c → u ≡ v
same_used u v volume c first second = λ i. record { a = (sym first.a ∙ second.a) i; b = (sym first.b ∙ second.b) i }

module _ (before : List (Option RowValue)) (used : List SlotsUsed) (s t : SiteLog) (known : AreKnown before used (content s)) (long : length before ≡ 32) (volume : ℕ) (on : Bool) (r : RowValue) (low : volume < 32)
    (there : row_in_list before volume ≡ Some r) (w : Writes (ChangesRow volume (OldOrNew volume (with_mark on r) (content s)) (content s)) s t) where
  has_row : rows_of (content s) volume ≡ Some r
  has_row = ap (λ (rows : RowsOf). rows volume) (sym (rows_listed before (content s) long known.told)) ∙ there

  pub moments_of : (frames : ℕ) → IsSound frames (content s) → Writes (λ d. IsSound frames d × BeforeOrAfter (marked volume on) (volumes_shown (content s)) (volumes_shown d)) s t
  moments_of frames sound = marking_moments frames volume on r s t sound has_row w

  within : ChangesRow volume (OldOrNew volume (with_mark on r) (content s)) (content s) (content t)
  within = ended_with (ChangesRow volume (OldOrNew volume (with_mark on r) (content s)) (content s)) s t w

  pub marked_of : r.read_only ≢ on → HoldsRow (with_mark on r) volume (content t) → HasSlots (used_after (used_at used volume)) volume (content t) → (AreNew volume (content s) → AreNew volume (content t)) → (rows : List (Option RowValue)) → rows ≡ set before volume (Some (with_mark on r))
      → IsOpeningDone (marked volume on) (content s) (content t) before rows
  marked_of other holds slots stays_new rows set_is =
      let P : Content → Type 0 = OldOrNew volume (with_mark on r) (content s) in
      let now : row_in_list rows ≡ with_row volume (with_mark on r) (row_in_list before) = ap row_in_list set_is ∙ listed_set before volume (with_mark on r) (omega (arith, long, low)) in
      record {
        row = with_mark on r;
        is_row = record { old = r; there = there; other = other; becomes = (λ i. with_mark on r) };
        now = now;
        are = subst (λ (x : List (Option RowValue)). RowsAre x (content t)) (sym set_is) (rows_with before (content s) (content t) volume (with_mark on r) P known.told long low within holds);
        held = λ held. subst (λ (x : RowsOf). AreHeld x (content t)) (sym now) (held_with (row_in_list before) (content s) (content t) volume (with_mark on r) P within holds held);
        renewed = λ new. renewed_with volume P (content s) (content t) within (stays_new (new volume r has_row)) new;
        slots_ = λ others places are_used v v_low.
            let same = same_used (used_at used volume) (used_at others volume) volume (content s) (known.slots_ volume low) (are_used volume low) in
            slots_with volume P (content s) (content t) within others (used_after (used_at others volume)) (omega (arith, places, low))
            (subst (λ (u : SlotsUsed). HasSlots (used_after u) volume (content t)) same slots) v (λ _. are_used v v_low);
        shows = λ frames sound. marked_new frames (content s) volume on r sound has_row (content t) P within (held_row (with_mark on r) volume (content t) holds);
      }

-- the change of a mark is due: both copies hold the row that they tell, and so many of their slots are in use
pub marking_due : (before : List (Option RowValue)) (used : List SlotsUsed) (s mid : SiteLog) → mid ≡ s → AreKnown before used (content s) → (volume : ℕ) (on : Bool) (r row : RowValue) (slots : SlotsUsed) → volume < 32 → row_in_list before volume ≡ Some r → r.read_only ≢ on
    → row ≡ with_mark on r → slots ≡ used_at used volume → IsDue volume (Protect on) row slots (content mid)
marking_due before used s mid same known volume on r row slots low there other becomes slots_is =
    subst (λ (x : SiteLog × SlotsUsed). IsDue volume (Protect on) row x.1 (content x.0)) (λ i. (sym same i, sym slots_is i))
    (record { old = r; holds = known.held volume r there; allowed = other; becomes = becomes; slots_ = known.slots_ volume low })

-- who had a row has one still
pub still_there : (rows after : RowsOf) (volume : ℕ) (row : RowValue) → after ≡ with_row volume row rows → (vs : List VolumeData) → AllByRecursion (λ v. IsSome (rows v.0)) vs → AllByRecursion (λ v. IsSome (after v.0)) vs
still_there rows after volume row now [] all = tt
still_there rows after volume row now (v ∷ vs) all = (
  subst (λ (r : RowsOf). IsSome (r v.0)) (sym now) (cond_both (v.0 == volume) (Some row) (rows v.0) IsSome (λ _. refl) (λ _. all.0)),
  still_there rows after volume row now vs all.1,
)

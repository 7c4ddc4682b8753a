-- Rows that were migrated are known still.
use Rattle.std.proofs.Common.{◌≡◌, inl, inr, ℕ, ◌<◌, ◌==◌, List, length, set, Option, Some, refl, sym, ◌∙◌, ap, subst, arith}
use Rattle.std.proofs.lemmas.Bool.{cases_Bool, cond-true, cond-false, eqb-true}
use Rattle.mss_base.specs.Content.{SiteLog, content, Settles, Writes}
use Rattle.mss_base.proofs.Moments.{ended_with, then_firm}
use Rattle.ckd_track.specs.Data.{Volumes}
use Rattle.volume_table.specs.Row.{RowValue}
use Rattle.volume_table.specs.Listed.{row_in_list}
use Rattle.table_pair.specs.declared.copy.SlotsUsed.{SlotsUsed}
use Rattle.table_pair.specs.Pair.{ChangesRow}
use Rattle.table_pair.specs.Slots.{HasSlots, used_at}
use Rattle.table_pair.specs.Repairs.{KeepsRow}
use Rattle.table_pair.specs.Migrating.{IsMigrated}
use Rattle.table_pair.proofs.RepairLemmas.{unwritten, no_marks, none_firm}
use Rattle.shown_volumes.specs.Shown.{RowsOf, volumes_shown}
use Rattle.shown_volumes.specs.Sound.{IsSound, SoundAs}
use Rattle.shown_volumes.specs.Changing.{with_row}
use Rattle.shown_volumes.proofs.MomentFacts.{all_rows}
use Rattle.mss_restart.specs.Opening.{AreKnown, AreHeld, IsRowNew}
use Rattle.mss_restart.specs.Creations.{IsMigration}
use Rattle.mss_restart.proofs.CreatedFacts.{held_with}
use Rattle.mss_restart.proofs.SlotFacts.{slots_with}

-- nothing was written, since the row, if there is one, is of version 2
pub unmigrated : (volume : ℕ) (s : SiteLog) → IsRowNew volume (content s) → IsMigration volume s s
unmigrated volume s new = record {
  moments = unwritten volume s s refl;
  marks = no_marks volume s s refl;
  held = λ row holds. holds;
  alone = λ _. refl;
  renewed = new;
  without = λ _. refl;
  firm = none_firm volume s s refl;
}

-- rows with the row that is there
same_rows : (rows : RowsOf) (volume : ℕ) (row : RowValue) → rows volume ≡ Some row → with_row volume row rows ≡ rows
same_rows rows volume row there = λ i v. at v i
  where
    at : (v : ℕ) → with_row volume row rows v ≡ rows v
    at v = elim (cases_Bool (v == volume)) [
      | inl same ↦ cond-true _ _ _ same ∙ sym (ap rows (eqb-true v volume same) ∙ there)
      | inr other ↦ cond-false _ _ _ other
    ]

module _ (rows : List (Option RowValue)) (used : List SlotsUsed) (s t : SiteLog) (known : AreKnown rows used (content s)) (volume : ℕ) (low : volume < 32) (row : RowValue) (there : row_in_list rows volume ≡ Some row)
    (w : Writes (ChangesRow volume (KeepsRow volume (content s)) (content s)) s t) (now : SlotsUsed) (places : length used ≡ 32) (is : IsMigrated row now volume s t) where
  change : ChangesRow volume (KeepsRow volume (content s)) (content s) (content t)
  change = ended_with (ChangesRow volume (KeepsRow volume (content s)) (content s)) s t w

  pub known_on : (after : List SlotsUsed) → after ≡ set used volume now → AreKnown rows after (content t)
  known_on after after_is = record {
    told = λ v v_low. all_rows volume (KeepsRow volume (content s)) (content s) (content t) change change.here v ∙ known.told v v_low;
    held = subst (λ (r : RowsOf). AreHeld r (content t)) (same_rows (row_in_list rows) volume row there)
        (held_with (row_in_list rows) (content s) (content t) volume row (KeepsRow volume (content s)) change is.holds.holds known.held);
    slots_ = λ v v_low. subst (λ (u : List SlotsUsed). HasSlots (used_at u v) v (content t)) (sym after_is)
        (slots_with volume (KeepsRow volume (content s)) (content s) (content t) change used now (omega (arith, places, low)) is.holds.slots_ v (λ _. known.slots_ v v_low));
  }

-- one run after another that shows the same
pub shows_then : (s mid t : SiteLog) → Settles s mid → ((frames : ℕ) → IsSound frames (content s) → Writes (SoundAs frames (volumes_shown (content s))) s mid) → ((frames : ℕ) → IsSound frames (content mid) → Writes (SoundAs frames (volumes_shown (content mid))) mid t)
    → (frames : ℕ) → IsSound frames (content s) → Writes (SoundAs frames (volumes_shown (content s))) s t
shows_then s mid t firm first second frames sound =
    let before = first frames sound in
    let at = ended_with (SoundAs frames (volumes_shown (content s))) s mid before in
    then_firm (SoundAs frames (volumes_shown (content s))) s mid t firm before
    (subst (λ (V : Volumes). Writes (SoundAs frames V) mid t) at.same (second frames at.sound))

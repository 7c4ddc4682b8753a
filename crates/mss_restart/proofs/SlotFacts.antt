-- Slots in use, with those of one more row.
use Rattle.std.proofs.Common.{◌≡◌, inl, inr, ℕ, ◌<◌, ◌==◌, false, List, length, set, sym, ◌∙◌, ap, subst}
use Rattle.std.proofs.lemmas.Bool.{cases_Bool, eqb-true, eq-eqb, false≢true}
use Rattle.std.proofs.lemmas.List.{get_or-set_same, get_or-set_other}
use Rattle.mss_base.specs.Content.{Content}
use Rattle.mss_base.specs.declared.place.UnitNo.TheVariants.{TableA, TableB}
use Rattle.table_pair.specs.declared.copy.SlotsUsed.{SlotsUsed}
use Rattle.table_pair.specs.Copies.{copy_at}
use Rattle.table_pair.specs.Pair.{ChangesRow}
use Rattle.table_pair.specs.Slots.{HasSlots, no_slots, used_at}

module _ (volume : ℕ) (P : Content → Type 0) (c d : Content) (change : ChangesRow volume P c d) where
  -- those of another row stay
  slots_kept : (used : SlotsUsed) (v : ℕ) → (volume == v) ≡ false → HasSlots used v c → HasSlots used v d
  slots_kept used v other has = record {
    a = ap (λ (b : List ℕ). length (copy_at b).slots) (change.others TableA v other) ∙ has.a;
    b = ap (λ (b : List ℕ). length (copy_at b).slots) (change.others TableB v other) ∙ has.b;
  }

  pub slots_with : (before : List SlotsUsed) (here : SlotsUsed) → volume < length before → HasSlots here volume d → (v : ℕ) → ((volume == v) ≡ false → HasSlots (used_at before v) v c) → HasSlots (used_at (set before volume here) v) v d
  slots_with before here low has v others = elim (cases_Bool (volume == v)) [
    | inl same ↦
        subst (λ (x : ℕ). HasSlots (used_at (set before volume here) x) x d) (eqb-true volume v same)
        (subst (λ (u : SlotsUsed). HasSlots u volume d) (sym (get_or-set_same before volume here no_slots low)) has)
    | inr other ↦
        let stays = get_or-set_other before volume v here no_slots (λ e. absurd (false≢true (sym other ∙ eq-eqb volume v (sym e)))) in
        subst (λ (u : SlotsUsed). HasSlots u v d) (sym stays) (slots_kept (used_at before v) v other (others other))
  ]

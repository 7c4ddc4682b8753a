-- What one creation makes of the site and of the rows.
use Rattle.std.proofs.Common.{◌≡◌, inl, inr, ℕ, ◌<◌, ◌==◌, false, List, length, set, Option, Some, None, Result, Ok, Err, sym, ◌∙◌, ap, subst, arith}
use Rattle.std.specs.Prelude.{OnOk, is_err}
use Rattle.std.proofs.lemmas.Bool.{cases_Bool, cond-true, cond-false, eqb-true, eq-eqb, false≢true}
use Rattle.std.proofs.lemmas.List.{get_or-set_same, get_or-set_other}
use Rattle.mss_base.specs.Content.{Content, SiteLog, content, Writes}
use Rattle.mss_base.specs.declared.place.UnitNo.TheVariants.{TableA, TableB}
use Rattle.mss_base.proofs.Moments.{ended_with}
use Rattle.volume_table.specs.Row.{RowValue, blank_row}
use Rattle.table_pair.specs.Copies.{copy_at}
use Rattle.table_pair.specs.Pair.{known, IsOpenWith, HoldsRow, ChangesRow, NoneOrNew}
use Rattle.table_pair.specs.Migrating.{AreNew}
use Rattle.table_pair.specs.Slots.{HasSlots, no_slots}
use Rattle.table_pair.proofs.PairFacts.{held_row}
use Rattle.shown_volumes.specs.Shown.{RowsOf, volumes_shown}
use Rattle.shown_volumes.specs.Sound.{IsSound}
use Rattle.shown_volumes.specs.Changing.{IsFresh, with_row}
use Rattle.shown_volumes.proofs.MomentFacts.{blank_new, creation_moments}
use Rattle.volume_table.specs.Listed.{row_in_list}
use Rattle.mss_restart.specs.Cartridges.{IsLowestFree}
use Rattle.mss_restart.specs.Opening.{RowsAre, AreHeld, IsNewRow, IsOpeningDone, BeforeOrAfter, made}
use Rattle.volume_table.specs.declared.changes.Change.TheVariants.{Create}
use Rattle.mss_restart.specs.Creations.{MakesRow}
use Rattle.mss_restart.specs.declared.steps.OpeningStep.{OpeningStep}
use Rattle.mss_restart.proofs.FreshFacts.{is_fresh, rows_with}
use Rattle.mss_restart.proofs.Renewed.{renewed_with}
use Rattle.mss_restart.proofs.SlotFacts.{slots_with}

-- a list with another row of one volume
pub listed_set : (rows : List (Option RowValue)) (volume : ℕ) (row : RowValue) → volume < length rows → row_in_list (set rows volume (Some row)) ≡ with_row volume row (row_in_list rows)
listed_set rows volume row low = λ i v. at v i
  where
    at : (v : ℕ) → row_in_list (set rows volume (Some row)) v ≡ with_row volume row (row_in_list rows) v
    at v = elim (cases_Bool (v == volume)) [
      | inl same ↦ ap (row_in_list (set rows volume (Some row))) (eqb-true v volume same) ∙ get_or-set_same rows volume (Some row) None low ∙ sym (cond-true _ _ _ same)
      | inr other ↦ get_or-set_other rows volume v (Some row) None (λ e. absurd (false≢true (sym other ∙ eq-eqb v volume e))) ∙ sym (cond-false _ _ _ other)
    ]

-- rows that stood in both copies still do, and so does the new one
pub held_with : (rows : RowsOf) (c d : Content) (volume : ℕ) (row : RowValue) (P : Content → Type 0) → ChangesRow volume P c d → HoldsRow row volume d → AreHeld rows c → AreHeld (with_row volume row rows) d
held_with rows c d volume row P within holds held w r at = elim (cases_Bool (w == volume)) [
  | inl same ↦
      let e : Some row ≡ Some r = sym (cond-true _ _ _ same) ∙ at in
      let is : row ≡ r = cc in
      subst (λ (x : ℕ). HoldsRow r x d) (sym (eqb-true w volume same)) (subst (λ (x : RowValue). HoldsRow x volume d) is holds)
  | inr other ↦
      let off : (volume == w) ≡ false = turned other in
      let was = held w r (sym (cond-false _ _ _ other) ∙ at) in
      record {
        a = subst (λ (b : List ℕ). IsOpenWith r (copy_at b)) (sym (within.others TableA w off)) was.a;
        b = subst (λ (b : List ℕ). IsOpenWith r (copy_at b)) (sym (within.others TableB w off)) was.b;
      }
]
  where
    turned : (w == volume) ≡ false → (volume == w) ≡ false
    turned off = elim (cases_Bool (volume == w)) [
      | inl same ↦ absurd (false≢true (sym off ∙ eq-eqb w volume (sym (eqb-true volume w same))))
      | inr not_same ↦ not_same
    ]

module _ (before : List (Option RowValue)) (s t : SiteLog) (are : RowsAre before (content s)) (long : length before ≡ 32) (volume first second : ℕ) (serial : List ℕ) (row : RowValue) (low : volume < 32)
    (none : row_in_list before volume ≡ None) (one : IsLowestFree (row_in_list before) None first) (two : IsLowestFree (row_in_list before) (Some first) second) (is : row ≡ blank_row serial first second)
    (w : Writes (ChangesRow volume (NoneOrNew volume row) (content s)) s t) where
  fresh : IsFresh volume first second (content s)
  fresh = is_fresh before (content s) are volume first second low none one two

  pub moments_of : (frames : ℕ) → IsSound frames (content s) → Writes (λ d. IsSound frames d × BeforeOrAfter (made volume serial) (volumes_shown (content s)) (volumes_shown d)) s t
  moments_of frames sound =
      creation_moments frames volume first second serial s t sound fresh (subst (λ (r : RowValue). Writes (ChangesRow volume (NoneOrNew volume r) (content s)) s t) is w)

  within : ChangesRow volume (NoneOrNew volume row) (content s) (content t)
  within = ended_with (ChangesRow volume (NoneOrNew volume row) (content s)) s t w

  is_new : IsNewRow (row_in_list before) serial row
  is_new =
      let first_is : first ≡ row.first = sym (ap (λ (r : RowValue). r.first) is) in
      let second_is : second ≡ row.second = sym (ap (λ (r : RowValue). r.second) is) in
      record {
        blank = is ∙ (λ i. blank_row serial (first_is i) (second_is i));
        first = subst (λ (n : ℕ). IsLowestFree (row_in_list before) None n) first_is one;
        second = subst (λ (n : ℕ). IsLowestFree (row_in_list before) (Some n) row.second) first_is (subst (λ (n : ℕ). IsLowestFree (row_in_list before) (Some first) n) second_is two);
      }

  pub created_of : HoldsRow row volume (content t) → HasSlots no_slots volume (content t) → AreNew volume (content t) → (rows : List (Option RowValue)) → rows ≡ set before volume (Some row) → IsOpeningDone (made volume serial) (content s) (content t) before rows
  created_of holds unused new rows set_is =
      let now : row_in_list rows ≡ with_row volume row (row_in_list before) = ap row_in_list set_is ∙ listed_set before volume row (omega (arith, long, low)) in
      record {
        row = row;
        is_row = is_new;
        now = now;
        are = subst (λ (x : List (Option RowValue)). RowsAre x (content t)) (sym set_is) (rows_with before (content s) (content t) volume row (NoneOrNew volume row) are long low within holds);
        held = λ held. subst (λ (x : RowsOf). AreHeld x (content t)) (sym now) (held_with (row_in_list before) (content s) (content t) volume row (NoneOrNew volume row) within holds held);
        renewed = renewed_with volume (NoneOrNew volume row) (content s) (content t) within new;
        slots_ = λ used places are_used v v_low. slots_with volume (NoneOrNew volume row) (content s) (content t) within used no_slots (omega (arith, places, low)) unused v (λ _. are_used v v_low);
        shows = λ frames sound.
            blank_new frames volume first second serial (content s) (content t) sound fresh (NoneOrNew volume row) within (held_row row volume (content t) holds ∙ ap (λ (r : RowValue). known (Some r) false) is);
      }

-- what holds of a result that is no error
pub on_ok : {T E : Type 0} (P : Type 0) (r : Result T E) → is_err r ≡ false → OnOk r P → P
on_ok P (Ok value) is holds = holds
on_ok P (Err e) is holds = absurd cc

-- the listed rows have the new one
pub now_set : (before rows : List (Option RowValue)) (volume : ℕ) (row : RowValue) → length before ≡ 32 → volume < 32 → rows ≡ set before volume (Some row) → row_in_list rows ≡ with_row volume row (row_in_list before)
now_set before rows volume row long low set_is = ap row_in_list set_is ∙ listed_set before volume row (omega (arith, long, low))

-- which is told
pub makes_new : (before rows : List (Option RowValue)) (volume : ℕ) (serial : List ℕ) (row : RowValue) (step : OpeningStep) (writes : ℕ) → length before ≡ 32 → volume < 32 → IsNewRow (row_in_list before) serial row → rows ≡ set before volume (Some row)
    → step.volume ≡ volume → step.change ≡ Create row.serial row.first row.second → step.writes ≡ writes → MakesRow (made volume serial) step (row_in_list before) (row_in_list rows) writes
makes_new before rows volume serial row step writes long low new set_is named change count = record {
  row = row;
  is_row = new;
  now = ap row_in_list set_is ∙ listed_set before volume row (omega (arith, long, low));
  tells = record { volume_ = named; change_ = change };
  count = count;
}

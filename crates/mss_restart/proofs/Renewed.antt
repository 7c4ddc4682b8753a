-- Rows of version 2: after each was migrated, and behind a change of one of them.
use Rattle.std.proofs.Common.{◌≡◌, inl, inr, ℕ, zero, suc, ◌<◌, ◌==◌, nat_lt, cond, false, List, Option, Some, None, Result, Ok, Err, sym, ◌∙◌, ap, subst, arith}
use Rattle.std.specs.Prelude.{OnOk}
use Rattle.std.proofs.lemmas.Bool.{cases_Bool, cases_lt, cond-true, cond-false, eqb-true, eq-eqb, false≢true, lt-ltb, le-ltb}
use Rattle.mss_base.specs.Content.{Content, SiteLog, content}
use Rattle.mss_base.specs.declared.place.UnitNo.TheVariants.{TableA, TableB}
use Rattle.mss_base.proofs.Moments.{ended_with}
use Rattle.volume_table.specs.Row.{RowValue}
use Rattle.volume_table.specs.Grammar.{is_old}
use Rattle.table_pair.specs.Copies.{copy_at}
use Rattle.table_pair.specs.Migrating.{AreNew}
use Rattle.table_pair.specs.Pair.{known, row_of, row_of_copies, ChangesRow}
use Rattle.table_pair.specs.Repairs.{KeepsRow}
use Rattle.shown_volumes.specs.declared.refused.Refused.{Refused}
use Rattle.shown_volumes.specs.Shown.{rows_of, told_row}
use Rattle.mss_restart.specs.Opening.{IsRowNew, AreRowsNew}
use Rattle.mss_restart.specs.Creations.{AreMigrated, MigratesWhole}

-- the copies of the other volumes stay of version 2, as their rows stay
module _ (volume v : ℕ) (P : Content → Type 0) (c d : Content) (change : ChangesRow volume P c d) (other : (volume == v) ≡ false) where
  other_new : AreNew v c → AreNew v d
  other_new new = record {
    a = ap (λ (b : List ℕ). is_old (copy_at b).spelled) (change.others TableA v other) ∙ new.a;
    b = ap (λ (b : List ℕ). is_old (copy_at b).spelled) (change.others TableB v other) ∙ new.b;
  }

  other_row : rows_of d v ≡ rows_of c v
  other_row = λ i. cond (nat_lt v 32) (told_row (row_of_copies (copy_at (change.others TableA v other i)) (copy_at (change.others TableB v other i)))) None

  pub other_row_new : IsRowNew v c → IsRowNew v d
  other_row_new new row there = other_new (new row (sym other_row ∙ there))

-- so where the changed one is of version 2, all are
pub renewed_with : (volume : ℕ) (P : Content → Type 0) (c d : Content) → ChangesRow volume P c d → AreNew volume d → AreRowsNew c → AreRowsNew d
renewed_with volume P c d change new before v = elim (cases_Bool (volume == v)) [
  | inl same ↦ λ row there. subst (λ (x : ℕ). AreNew x d) (eqb-true volume v same) new
  | inr other ↦ other_row_new volume v P c d change other (before v)
]

-- a volume without a row has none of another version
pub none_new : (volume : ℕ) (c : Content) → volume < 32 → row_of c volume ≡ known None false → IsRowNew volume c
none_new volume c low none row there =
    let e : ◌≡◌ {A = Option RowValue} None (Some row) = sym (cond-true (nat_lt volume 32) (told_row (row_of c volume)) None (lt-ltb volume 32 low) ∙ ap told_row none) ∙ there in absurd cc

below_last : (count v : ℕ) → v < suc count → (count == v) ≡ false → v < count
below_last count v lt other = elim (cases_lt v count) [
  | inl below ↦ below
  | inr from ↦ let e : count ≡ v = omega (arith, lt, from) in absurd (false≢true (sym other ∙ eq-eqb count v e))
]

-- the rows of the first volumes were migrated
migrated_new : (count : ℕ) (s t : SiteLog) → AreMigrated count s t → (v : ℕ) → v < count → IsRowNew v (content t)
unfolding AreMigrated
migrated_new zero s t same v lt = absurd (omega (arith, lt))
migrated_new (suc count) s t migrated v lt = elim (cases_Bool (count == v)) [
  | inl same ↦ subst (λ (x : ℕ). IsRowNew x (content t)) (eqb-true count v same) migrated.2.renewed
  | inr other ↦
      let mid = migrated.0 in
      other_row_new count v (KeepsRow count (content mid)) (content mid) (content t) (ended_with (ChangesRow count (KeepsRow count (content mid)) (content mid)) mid t migrated.2.moments) other
      (migrated_new count s mid migrated.1 v (below_last count v lt other))
]

pub migrated_all : (s t : SiteLog) → AreMigrated 32 s t → AreRowsNew (content t)
migrated_all s t migrated v = elim (cases_lt v 32) [
  | inl low ↦ migrated_new 32 s t migrated v low
  | inr past ↦ λ row there. (let e : ◌≡◌ {A = Option RowValue} None (Some row) = sym (cond-false (nat_lt v 32) (told_row (row_of (content t) v)) None (le-ltb v 32 past)) ∙ there in absurd cc)
]

pub migrates_all : (s t : SiteLog) (result : Result (Unit {0}) Refused) → MigratesWhole s t result → OnOk result (AreRowsNew (content t))
migrates_all s t (Ok value) migrated = migrated_all s t migrated
migrates_all s t (Err e) migrated = tt

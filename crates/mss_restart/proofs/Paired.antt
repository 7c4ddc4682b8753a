-- Where each copy tells its row alone, it does so after whole repairs, migrations and opening changes.
use Rattle.std.proofs.Common.{◌≡◌, inl, inr, ℕ, zero, suc, ◌<◌, ◌==◌, false, List, [], ◌∷◌, Some, None, Result, Ok, Err, sym, ◌∙◌, ap, subst}
use Rattle.std.proofs.lemmas.Bool.{cases_Bool, eqb-true}
use Rattle.mss_base.specs.Configs.{ConfigData}
use Rattle.mss_base.specs.Content.{Content, SiteLog, content}
use Rattle.mss_base.specs.declared.place.UnitNo.TheVariants.{TableA, TableB}
use Rattle.mss_base.proofs.Moments.{ended_with}
use Rattle.table_pair.specs.Copies.{copy_at}
use Rattle.table_pair.specs.Pair.{known, IsOpenWith, ChangesRow}
use Rattle.table_pair.specs.Repairs.{KeepsRow}
use Rattle.table_pair.proofs.PairFacts.{held_row, closed_row}
use Rattle.shown_volumes.specs.declared.refused.Refused.{Refused}
use Rattle.shown_volumes.specs.declared.refused.Refused.TheVariants.{Stopped, Memory}
use Rattle.shown_volumes.specs.Shown.{RowsOf}
use Rattle.mss_restart.specs.Opening.{OpeningChange, volume_of}
use Rattle.mss_restart.specs.Creations.{SameCopies, IsRepair, AreRepaired, IsMigration, AreMigrated, AreRewritten, StopsWithin, IsWritten, AreWritten}
use Rattle.mss_restart.specs.Answers.{Opens, OpensWhole}
use Rattle.mss_restart.specs.OneCopy.{IsPaired, ArePaired, StayPaired}
use Rattle.mss_restart.specs.declared.steps.OpeningStep.{OpeningStep}
use Rattle.mss_restart.specs.declared.opening.Opened.{Opened}

paired_same : (volume : ℕ) (c d : Content) → SameCopies volume c d → IsPaired volume c → IsPaired volume d
paired_same volume c d same (inl held) = inl (
  held.0,
  record {
    a = subst (λ (block : List ℕ). IsOpenWith held.0 (copy_at block)) (sym same.a) held.1.a;
    b = subst (λ (block : List ℕ). IsOpenWith held.0 (copy_at block)) (sym same.b) held.1.b;
  },
)
paired_same volume c d same (inr unmade) = inr (record {
  closed = record { a = ap (λ (block : List ℕ). (copy_at block).is_open) same.a ∙ unmade.closed.a; b = ap (λ (block : List ℕ). (copy_at block).is_open) same.b ∙ unmade.closed.b };
  a = ap (λ (block : List ℕ). (copy_at block).is_made) same.a ∙ unmade.a;
  b = ap (λ (block : List ℕ). (copy_at block).is_made) same.b ∙ unmade.b;
})

-- the row of one volume changed
paired_but : (volume : ℕ) (P : Content → Type 0) (c d : Content) → ChangesRow volume P c d → ArePaired c → (volume < 32 → IsPaired volume d) → ArePaired d
paired_but volume P c d change paired here w low = elim (cases_Bool (volume == w)) [
  | inl same ↦ (let e = eqb-true volume w same in subst (λ (v : ℕ). IsPaired v d) e (here (subst (λ (v : ℕ). v < 32) (sym e) low)))
  | inr off ↦ paired_same w c d (record { a = change.others TableA w off; b = change.others TableB w off }) (paired w low)
]

repair_paired : (volume : ℕ) (s t : SiteLog) → IsRepair volume s t → ArePaired (content s) → ArePaired (content t)
repair_paired volume s t repair paired =
    paired_but volume (KeepsRow volume (content s)) (content s) (content t) (ended_with (ChangesRow volume (KeepsRow volume (content s)) (content s)) s t repair.moments) paired (λ low. here (paired volume low))
  where
    here : IsPaired volume (content s) → IsPaired volume (content t)
    here (inl held) = inl (held.0, repair.held held.0 (held_row held.0 volume (content s) held.1))
    here (inr unmade) =
        let none = closed_row volume (content s) unmade.closed in
        let same : t ≡ s = repair.alone (inl (λ row told. let e : known None false ≡ known (Some row) false = sym none ∙ told in cc)) in
        subst (λ (x : SiteLog). IsPaired volume (content x)) (sym same) (inr unmade)

repaired_paired : (count : ℕ) (s t : SiteLog) → AreRepaired count s t → ArePaired (content s) → ArePaired (content t)
unfolding AreRepaired
repaired_paired zero s t same paired = subst (λ (x : SiteLog). ArePaired (content x)) (sym same) paired
repaired_paired (suc count) s t repaired paired = repair_paired count repaired.0 t repaired.2 (repaired_paired count s repaired.0 repaired.1 paired)

migration_paired : (volume : ℕ) (s t : SiteLog) → IsMigration volume s t → ArePaired (content s) → ArePaired (content t)
migration_paired volume s t migration paired =
    paired_but volume (KeepsRow volume (content s)) (content s) (content t) (ended_with (ChangesRow volume (KeepsRow volume (content s)) (content s)) s t migration.moments) paired (λ low. here (paired volume low))
  where
    here : IsPaired volume (content s) → IsPaired volume (content t)
    here (inl held) = inl (held.0, migration.held held.0 held.1)
    here (inr unmade) = subst (λ (x : SiteLog). IsPaired volume (content x)) (sym (migration.without (closed_row volume (content s) unmade.closed))) (inr unmade)

migrated_paired : (count : ℕ) (s t : SiteLog) → AreMigrated count s t → ArePaired (content s) → ArePaired (content t)
unfolding AreMigrated
migrated_paired zero s t same paired = subst (λ (x : SiteLog). ArePaired (content x)) (sym same) paired
migrated_paired (suc count) s t migrated paired = migration_paired count migrated.0 t migrated.2 (migrated_paired count s migrated.0 migrated.1 paired)

rewritten_paired : (repairs migrations : ℕ) (s t : SiteLog) → AreRewritten repairs migrations s t → ArePaired (content s) → ArePaired (content t)
rewritten_paired repairs migrations s t is paired = migrated_paired migrations is.mid t is.migrated (repaired_paired repairs s is.mid is.repaired paired)

change_paired : (rows after : RowsOf) (change : OpeningChange) (step : OpeningStep) (s t : SiteLog) → IsWritten rows after change step s t → ArePaired (content s) → ArePaired (content t)
change_paired rows after change step s t is paired =
    let P : Content → Type 0 = StopsWithin change is.row (content s) in
    paired_but (volume_of change) P (content s) (content t) (ended_with (ChangesRow (volume_of change) P (content s)) s t is.moments) paired (λ _. inl (is.row, is.held))

written_paired : (changes : List OpeningChange) (steps : List OpeningStep) (rows last : RowsOf) (s t : SiteLog) → AreWritten changes steps rows last s t → ArePaired (content s) → ArePaired (content t)
written_paired [] [] rows last s t written paired = subst (λ (x : SiteLog). ArePaired (content x)) (sym written.1) paired
written_paired [] (x ∷ steps) rows last s t written paired = absurd written
written_paired (w ∷ changes) [] rows last s t written paired = absurd written
written_paired (w ∷ changes) (x ∷ steps) rows last s t written paired =
    written_paired changes steps written.1.0 last written.0 t written.1.2 (change_paired rows written.1.0 w x s written.0 written.1.1 paired)

pub stay_paired : (before now : ℕ) (config : ConfigData) (old new : SiteLog) (result : Result Opened Refused) → Opens before now config old new result → OpensWhole config old new result → StayPaired (content old) (content new) result
stay_paired before now config old new (Ok opened) opens whole = λ paired. written_paired _ _ _ _ whole.0 new whole.2 (rewritten_paired 32 32 old whole.0 whole.1 paired)
stay_paired before now config old new (Err (Stopped fault)) opens whole = tt
stay_paired before now config old new (Err Memory) opens whole = λ paired. written_paired _ _ _ _ whole.1.1.0 new whole.1.1.2.each (rewritten_paired whole.0 whole.1.0 old whole.1.1.0 whole.1.1.1 paired)
stay_paired before now config old new (Err e) opens whole = λ paired. subst (λ (x : SiteLog). ArePaired (content x)) (sym opens.0) paired

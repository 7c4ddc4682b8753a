-- Nothing is loose of repairs, migrations and opening changes that were each written to their end.
use Rattle.std.proofs.Common.{ℕ, zero, suc, List, [], ◌∷◌, Ok, sym, subst}
use Rattle.mss_base.specs.Configs.{ConfigData}
use Rattle.mss_base.specs.Content.{SiteLog, Settles}
use Rattle.mss_base.proofs.Settling.{settles_none, settles_then}
use Rattle.shown_volumes.specs.Shown.{RowsOf}
use Rattle.mss_restart.specs.Opening.{OpeningChange}
use Rattle.mss_restart.specs.Creations.{Account, AreRepaired, AreMigrated, AreRewritten, AreWritten, CompletesWhole}
use Rattle.mss_restart.specs.Answers.{OpensWhole, account_from, steps_of}
use Rattle.mss_restart.specs.declared.steps.OpeningStep.{OpeningStep}
use Rattle.mss_restart.specs.declared.opening.Opened.{Opened}

pub repaired_firm : (count : ℕ) (s t : SiteLog) → AreRepaired count s t → Settles s t
unfolding AreRepaired
repaired_firm zero s t same = subst (Settles s) (sym same) (settles_none s)
repaired_firm (suc count) s t repaired = settles_then s repaired.0 t (repaired_firm count s repaired.0 repaired.1) repaired.2.firm

pub migrated_firm : (count : ℕ) (s t : SiteLog) → AreMigrated count s t → Settles s t
unfolding AreMigrated
migrated_firm zero s t same = subst (Settles s) (sym same) (settles_none s)
migrated_firm (suc count) s t migrated = settles_then s migrated.0 t (migrated_firm count s migrated.0 migrated.1) migrated.2.firm

pub rewritten_firm : (repairs migrations : ℕ) (s t : SiteLog) → AreRewritten repairs migrations s t → Settles s t
rewritten_firm repairs migrations s t is = settles_then s is.mid t (repaired_firm repairs s is.mid is.repaired) (migrated_firm migrations is.mid t is.migrated)

pub written_firm : (changes : List OpeningChange) (steps : List OpeningStep) (rows last : RowsOf) (s t : SiteLog) → AreWritten changes steps rows last s t → Settles s t
written_firm [] [] rows last s t written = subst (Settles s) (sym written.1) (settles_none s)
written_firm [] (x ∷ steps) rows last s t written = absurd written
written_firm (w ∷ changes) [] rows last s t written = absurd written
written_firm (w ∷ changes) (x ∷ steps) rows last s t written = settles_then s written.0 t written.1.1.firm (written_firm changes steps written.1.0 last written.0 t written.1.2)

pub completes_firm : (a : Account) (old new : SiteLog) → CompletesWhole a old new (Ok tt) → Settles old new
completes_firm a old new is = settles_then old is.0 new (rewritten_firm 32 32 old is.0 is.1) (written_firm a.changes a.steps a.before a.after is.0 new is.2)

pub opens_firm : (config : ConfigData) (old new : SiteLog) (opened : Opened) → OpensWhole config old new (Ok opened) → Settles old new
opens_firm config old new opened is = completes_firm (account_from config old new (steps_of opened)) old new is

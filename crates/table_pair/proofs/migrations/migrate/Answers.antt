use Rattle.table_pair.proofs.MigrateLemmas.{moments_a, marks_a, holds_b, moments_b, marks_b, both_new, is_migrated, migrate_order_a, migrate_order_b}
use Rattle.table_pair.proofs.migrations.migrate.Goals as goal

pub migrate_one-requires-clause-held : goal.migrate_one-requires-clause-held
migrate_one-requires-clause-held g c = λ tells. record { holds = (c.requires.held tells).a; slots_ = (c.requires.slots tells).a }

pub returns-in_err-a-clause-moments : goal.returns-in_err-a-clause-moments
returns-in_err-a-clause-moments g c = λ tells. moments_a _ (c.requires.held tells) (c.migrate_one.ensures.migrates tells)

pub returns-in_err-a-clause-marks : goal.returns-in_err-a-clause-marks
returns-in_err-a-clause-marks g c = λ tells. marks_a _ (c.requires.held tells) (c.migrate_one.ensures.migrates tells)

pub returns-in_err-a-clause-untouched : goal.returns-in_err-a-clause-untouched
returns-in_err-a-clause-untouched g c = λ tells new. (c.migrate_one.ensures.migrates tells).untouched new.a

pub migrate_one-requires-2-clause-held : goal.migrate_one-requires-2-clause-held
migrate_one-requires-2-clause-held g c = λ tells. holds_b _ (c.requires.held tells) (c.in_ok-a.ensures.migrates tells) (c.requires.slots tells)

pub returns-in_err-b-clause-moments : goal.returns-in_err-b-clause-moments
returns-in_err-b-clause-moments g c = λ tells. moments_b _ (c.requires.held tells) (c.in_ok-a.ensures.migrates tells) (c.migrate_one-2.ensures.migrates tells)

pub returns-in_err-b-clause-marks : goal.returns-in_err-b-clause-marks
returns-in_err-b-clause-marks g c = λ tells. marks_b _ (c.requires.held tells) (c.in_ok-a.ensures.migrates tells) (c.migrate_one-2.ensures.migrates tells)

pub returns-in_err-b-clause-untouched : goal.returns-in_err-b-clause-untouched
returns-in_err-b-clause-untouched g c = λ tells. both_new _ (c.requires.held tells) (c.in_ok-a.ensures.migrates tells) (c.migrate_one-2.ensures.migrates tells)

pub returns-clause-moments : goal.returns-clause-moments
returns-clause-moments g c = λ tells. moments_b _ (c.requires.held tells) (c.in_ok-a.ensures.migrates tells) (c.in_ok-b.ensures.migrates tells)

pub returns-clause-marks : goal.returns-clause-marks
returns-clause-marks g c = λ tells. marks_b _ (c.requires.held tells) (c.in_ok-a.ensures.migrates tells) (c.in_ok-b.ensures.migrates tells)

pub returns-clause-untouched : goal.returns-clause-untouched
returns-clause-untouched g c = λ tells. both_new _ (c.requires.held tells) (c.in_ok-a.ensures.migrates tells) (c.in_ok-b.ensures.migrates tells)

pub returns-clause-done : goal.returns-clause-done
returns-clause-done g c = λ tells. is_migrated _ (c.requires.held tells) (c.in_ok-a.ensures.migrates tells) (c.in_ok-b.ensures.migrates tells)

pub returns-in_err-a-clause-order : goal.returns-in_err-a-clause-order
returns-in_err-a-clause-order g c = λ tells. migrate_order_a _ (c.requires.held tells) (c.migrate_one.ensures.migrates tells)

pub returns-in_err-b-clause-order : goal.returns-in_err-b-clause-order
returns-in_err-b-clause-order g c = λ tells. migrate_order_b _ (c.requires.held tells) (c.in_ok-a.ensures.migrates tells) (c.migrate_one-2.ensures.migrates tells)

pub returns-clause-order : goal.returns-clause-order
returns-clause-order g c = λ tells. migrate_order_b _ (c.requires.held tells) (c.in_ok-a.ensures.migrates tells) (c.in_ok-b.ensures.migrates tells)

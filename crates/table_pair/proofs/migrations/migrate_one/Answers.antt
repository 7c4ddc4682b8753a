use Rattle.table_pair.proofs.MigrateLemmas.{migrates_at, with_at}
use Rattle.table_pair.proofs.migrations.migrate_one.Goals as goal

pub migrate_copy-requires-clause-held : goal.migrate_copy-requires-clause-held
migrate_copy-requires-clause-held g c = λ tells. with_at _ _ (g.S.Site.told c.args.site.now) (c.requires.held tells) c.place_of.ensures

pub returns-clause-migrates : goal.returns-clause-migrates
returns-clause-migrates g c = λ tells. migrates_at (c.migrate_copy.ensures.migrates tells) c.place_of.ensures

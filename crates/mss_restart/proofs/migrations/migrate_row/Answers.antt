use Rattle.std.proofs.Common.{rules, ◌≡◌, ◌<◌, ◌∙◌, [], Option, false, refl, sym, ap, subst, set}
use Rattle.mss_base.specs.Content.{SiteLog, content, Writes}
use Rattle.volume_table.specs.Row.{RowValue}
use Rattle.table_pair.proofs.RepairLemmas.{unwritten}
use Rattle.table_pair.specs.Pair.{known, ChangesRow}
use Rattle.table_pair.specs.Repairs.{KeepsRow}
use Rattle.table_pair.specs.Migrating.{IsMigrated}
use Rattle.mss_restart.specs.Creations.{RepairsOthers}
use Rattle.mss_restart.proofs.MigratedFacts.{unmigrated, known_on}
use Rattle.mss_restart.proofs.Renewed.{none_new}
use Rattle.mss_restart.proofs.OtherRows.{nothing_else, rewrite_others}
use Rattle.mss_restart.proofs.migrations.migrate_row.Goals as goal

pub returns-in_default-clause-moments : goal.returns-in_default-clause-moments
returns-in_default-clause-moments g c = λ tells. unwritten c.args.volume (g.S.Site.told c.args.site.now) (g.S.Site.told c.args.site.now) refl

pub returns-in_default-clause-others : goal.returns-in_default-clause-others
returns-in_default-clause-others g c = λ tells. nothing_else [] (g.S.Site.told c.args.site.now) (g.S.Site.told c.args.site.now) refl

pub returns-in_default-clause-done : goal.returns-in_default-clause-done
returns-in_default-clause-done g c = λ tells.
    let s = g.S.Site.told c.args.site.now in
    let volume = c.args.volume in
    let low : volume < 32 = search rules in
    unmigrated volume s (none_new volume (content s) low ((c.requires.known tells).told volume low ∙ ap (λ (o : Option RowValue). known o false) (sym c.row.ensures ∙ c.in_default.is)))

pub returns-in_err-reserve-clause-moments : goal.returns-in_err-reserve-clause-moments
returns-in_err-reserve-clause-moments g c = λ tells. unwritten c.args.volume (g.S.Site.told c.args.site.now) (g.S.Site.told c.reserve.new.self) (c.reserve.ensures.told tells)

pub returns-in_err-reserve-clause-others : goal.returns-in_err-reserve-clause-others
returns-in_err-reserve-clause-others g c = λ tells. nothing_else [] (g.S.Site.told c.args.site.now) (g.S.Site.told c.reserve.new.self) (c.reserve.ensures.told tells)

pub returns-in_default-migrate-clause-others : goal.returns-in_default-migrate-clause-others
returns-in_default-migrate-clause-others g c = λ tells.
    let mid = g.S.Site.told c.reserve.new.self in
    let t = g.S.Site.told c.migrate.new.site in
    let is = c.migrate.ensures in
    subst (λ (x : SiteLog). RepairsOthers [] x t) (c.reserve.ensures.told tells) (rewrite_others c.args.volume mid t (is.moments tells) (is.marks tells) (λ _. is.untouched tells))

pub returns-clause-others : goal.returns-clause-others
returns-clause-others g c = λ tells.
    let mid = g.S.Site.told c.reserve.new.self in
    let t = g.S.Site.told c.migrate.new.site in
    let is = c.migrate.ensures in
    subst (λ (x : SiteLog). RepairsOthers [] x t) (c.reserve.ensures.told tells) (rewrite_others c.args.volume mid t (is.moments tells) (is.marks tells) (λ _. is.untouched tells))

pub returns-clause-known : goal.returns-clause-known
returns-clause-known g c = λ tells.
    let s = g.S.Site.told c.args.site.now in
    let t = g.S.Site.told c.migrate.new.site in
    let volume = c.args.volume in
    let same = c.reserve.ensures.told tells in
    let low : volume < 32 = search rules in
    let after : c.set.new.self.items ≡ set c.args.used.now.items volume c.in-Ok.slots = search rules in
    known_on c.args.rows.now c.args.used.now.items s t (c.requires.known tells) volume low c.in-Some.row (sym c.row.ensures ∙ c.in-Some.is)
    (subst (λ (x : SiteLog). Writes (ChangesRow volume (KeepsRow volume (content x)) (content x)) x t) same (c.migrate.ensures.moments tells)) c.in-Ok.slots c.requires.places
    (subst (λ (x : SiteLog). IsMigrated c.in-Some.row c.in-Ok.slots volume x t) same (c.in-Ok.ensures.done tells)) c.set.new.self.items after

use Rattle.std.proofs.Common.{◌∙◌, [], sym, ap, subst, Result, Err}
use Rattle.std.proofs.lemmas.Result.{err_from_is_err_and}
use Rattle.shown_volumes.specs.declared.refused.Refused.{Refused}
use Rattle.mss_restart.specs.Creations.{RewritesRows}
use Rattle.mss_restart.proofs.Completed.{rows_known}
use Rattle.mss_restart.proofs.Finishing.{repairs_alone, repairs_whole, migrates_whole}
use Rattle.mss_restart.proofs.MigratedFacts.{shows_then}
use Rattle.mss_restart.proofs.OtherRows.{others_then}
use Rattle.mss_restart.proofs.Renewed.{migrated_all, migrates_all}
use Rattle.mss_restart.proofs.Settling.{repaired_firm}
use Rattle.mss_restart.proofs.opening.rewrite_rows.Goals as goal

pub returns-in_err-repair_rows-clause-rewrites : goal.returns-in_err-repair_rows-clause-rewrites
returns-in_err-repair_rows-clause-rewrites g c = λ tells.
    let p = err_from_is_err_and c.from_residual.result c.from_residual.ensures.1 in
    let old = g.S.Site.told c.args.site.now in
    let new = g.S.Site.told c.repair_rows.new.site in
    subst (λ (r : Result (Unit {0}) Refused). RewritesRows c.args.rows.now c.repair_rows.new.used.items old new r) (sym (p.1 ∙ ap Err p.2)) (record {
      moments = c.repair_rows.ensures.moments tells;
      others = c.repair_rows.ensures.others tells;
      known_ = tt;
      renewed = tt;
      complete = repairs_whole old new c.in_err-repair_rows.field-0.0 (c.in_err-repair_rows.ensures.complete tells);
    })

pub migrate_rows-requires-clause-known : goal.migrate_rows-requires-clause-known
migrate_rows-requires-clause-known g c = λ tells.
    rows_known c.args.rows.now (g.S.Site.told c.args.site.now) (g.S.Site.told c.repair_rows.new.site) c.look.ensures.places (c.requires.told tells) c.repair_rows.new.used.items (c.repair_rows.ensures.rows tells)
    (c.in_ok-repair_rows.ensures.equal tells)

pub returns-then-not-branch-clause-rewrites : goal.returns-then-not-branch-clause-rewrites
returns-then-not-branch-clause-rewrites g c = λ tells.
    let s = g.S.Site.told c.args.site.now in
    let t = g.S.Site.told c.repair_rows.new.site in
    let rewritten = repairs_alone s t (c.in_ok-repair_rows.ensures.complete tells) (c.in_ok-repair_rows.ensures.renewed tells c.if-not-branch.true) in
    record {
      moments = c.repair_rows.ensures.moments tells;
      others = c.repair_rows.ensures.others tells;
      known_ =
          rows_known c.args.rows.now s t c.look.ensures.places (c.requires.told tells) c.repair_rows.new.used.items (c.repair_rows.ensures.rows tells)
          (c.in_ok-repair_rows.ensures.equal tells);
      renewed = migrated_all rewritten.mid t rewritten.migrated;
      complete = rewritten;
    }

pub returns-clause-rewrites : goal.returns-clause-rewrites
returns-clause-rewrites g c = λ tells.
    let s = g.S.Site.told c.args.site.now in
    let mid = g.S.Site.told c.repair_rows.new.site in
    let t = g.S.Site.told c.migrate_rows.new.site in
    let repaired = c.in_ok-repair_rows.ensures.complete tells in
    let firm = repaired_firm 32 s mid repaired in
    record {
      moments = shows_then s mid t firm (c.repair_rows.ensures.moments tells) (c.migrate_rows.ensures.moments tells);
      others = others_then [] s mid t firm (c.repair_rows.ensures.others tells) (c.migrate_rows.ensures.others tells);
      known_ = c.migrate_rows.ensures.known tells;
      renewed = migrates_all mid t c.migrate_rows.result (c.migrate_rows.ensures.complete tells);
      complete = migrates_whole s mid t c.migrate_rows.result repaired (c.migrate_rows.ensures.complete tells);
    }

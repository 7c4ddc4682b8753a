use Rattle.std.proofs.Common.{◌∙◌, [], refl}
use Rattle.mss_restart.proofs.OtherRows.{nothing_else, others_then}
use Rattle.mss_restart.proofs.Repaired.{nothing_repaired, repaired_too, none_migrated, one_migrated, nothing_written, written_on}
use Rattle.mss_restart.proofs.Settling.{migrated_firm}
use Rattle.mss_restart.proofs.migrations.migrate_rows.Goals as goal

pub loop-number-init : goal.loop-number-init
loop-number-init g c =
    let s = c.args.site.now in
    record {
      shows = λ tells. nothing_repaired (g.S.Site.told s);
      known = c.requires.known;
      places = c.requires.places;
      complete = λ tells. none_migrated (g.S.Site.told s);
      others = λ tells. nothing_else [] (g.S.Site.told s) (g.S.Site.told s) refl;
      count = refl;
      devices = nothing_written g.S.Site s;
    }

pub returns-in_err-migrate_row-clause-moments : goal.returns-in_err-migrate_row-clause-moments
returns-in_err-migrate_row-clause-moments g c = λ tells.
    let begun = g.S.Site.told c.args.site.now in
    let mid = g.S.Site.told c.loop-number.site in
    let known = c.loop-number.invariant in
    (repaired_too begun mid (g.S.Site.told c.migrate_row.new.site) c.volume_at.result (known.shows tells) (migrated_firm c.loop-number.number begun mid (known.complete tells)) (c.migrate_row.ensures.moments tells)).moments

pub returns-in_err-migrate_row-clause-others : goal.returns-in_err-migrate_row-clause-others
returns-in_err-migrate_row-clause-others g c = λ tells.
    let begun = g.S.Site.told c.args.site.now in
    let mid = g.S.Site.told c.loop-number.site in
    let known = c.loop-number.invariant in
    others_then [] begun mid (g.S.Site.told c.migrate_row.new.site) (migrated_firm c.loop-number.number begun mid (known.complete tells)) (known.others tells) (c.migrate_row.ensures.others tells)

pub loop-number-preserved : goal.loop-number-preserved
loop-number-preserved g c =
    let known = c.loop-number.invariant in
    record {
      shows = λ tells.
          let begun = g.S.Site.told c.args.site.now in
          let mid = g.S.Site.told c.loop-number.site in
          repaired_too begun mid (g.S.Site.told c.migrate_row.new.site) c.volume_at.result (known.shows tells) (migrated_firm c.loop-number.number begun mid (known.complete tells)) (c.migrate_row.ensures.moments tells);
      known = λ tells. c.in_ok-migrate_row.ensures.known tells;
      places = c.migrate_row.ensures.places;
      complete = λ tells.
          one_migrated c.loop-number.number c.volume_at.result (g.S.Site.told c.args.site.now) (g.S.Site.told c.loop-number.site) (g.S.Site.told c.migrate_row.new.site) (known.complete tells) c.volume_at.ensures
          (c.in_ok-migrate_row.ensures.done tells);
      others = λ tells.
          let begun = g.S.Site.told c.args.site.now in
          let mid = g.S.Site.told c.loop-number.site in
          others_then [] begun mid (g.S.Site.told c.migrate_row.new.site) (migrated_firm c.loop-number.number begun mid (known.complete tells)) (known.others tells) (c.migrate_row.ensures.others tells);
      count = c.in_ok-migrate_row.ensures.site_.stops ∙ known.count;
      devices = written_on g.S.Site c.args.site.now c.loop-number.site c.migrate_row.new.site known.devices c.migrate_row.ensures.site_.devices;
    }

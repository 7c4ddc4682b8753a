use Rattle.std.proofs.Common.{Ok, Err}
use Rattle.mss_restart.proofs.Paired.{stay_paired}
use Rattle.mss_restart.proofs.opening.open_rows.Goals as goal

pub returns-in-Ok-clause-told : goal.returns-in-Ok-clause-told
returns-in-Ok-clause-told g c = λ tells.
    let are = c.in-Ok.ensures in
    let left = are.leaves tells in
    record {
      opens = are.opens tells;
      exact = are.exact tells;
      moments = left.moments;
      complete = left.complete;
      others = left.others;
      paired =
          stay_paired (g.S.Site.faults c.args.site) (g.S.Site.faults c.open_lent.new.site) c.args.config.now (g.S.Site.told c.args.site) (g.S.Site.told c.open_lent.new.site) (Ok c.in-Ok.opened) (are.opens tells) left.complete;
      untouched = c.open_lent.ensures.untouched tells;
    }

pub returns-in-Ok-clause-any : goal.returns-in-Ok-clause-any
returns-in-Ok-clause-any g c = let are = c.in-Ok.ensures in record { usable = are.usable; counted = are.counted; refused = are.refused; kept = are.kept }

pub returns-in-Err-clause-told : goal.returns-in-Err-clause-told
returns-in-Err-clause-told g c = λ tells.
    let are = c.in-Err.ensures in
    let left = are.leaves tells in
    record {
      opens = are.opens tells;
      exact = are.exact tells;
      moments = left.moments;
      complete = left.complete;
      others = left.others;
      paired =
          stay_paired (g.S.Site.faults c.args.site) (g.S.Site.faults c.open_lent.new.site) c.args.config.now (g.S.Site.told c.args.site) (g.S.Site.told c.open_lent.new.site) (Err c.in-Err.fault) (are.opens tells) left.complete;
      untouched = c.open_lent.ensures.untouched tells;
    }

pub returns-in-Err-clause-any : goal.returns-in-Err-clause-any
returns-in-Err-clause-any g c = let are = c.in-Err.ensures in record { usable = are.usable; counted = are.counted; refused = are.refused; kept = are.kept }

use Rattle.std.proofs.Common.{Err, Ok, sym, ◌∙◌}
use Rattle.mss_base.specs.Content.{content}
use Rattle.table_pair.specs.Pair.{reading}
use Rattle.mss_restart.proofs.RowLemmas.{was_read, serial_told}
use Rattle.mss_restart.proofs.OneTable.{one_suffices, serial_no_failure}
use Rattle.mss_restart.proofs.rows.read_volume.Goals as goal

pub returns-in-Some-clause-read : goal.returns-in-Some-clause-read
returns-in-Some-clause-read g c = λ tells.
    let reads = c.in-Ok.ensures.row tells in
    record {
      read = reading reads.a reads.b;
      is = was_read _ (g.S.Site.faults c.args.site.now) (g.S.Site.faults c.read_row.new.site) c.args.volume (content (g.S.Site.told c.args.site.now)) (Ok c.in-Ok.read) reads;
      tells = serial_told c.args.volume c.in-Ok.read.row _ c.args.asked (reading reads.a reads.b) c.in-Some.fault reads.told (sym c.serial_fault.ensures ∙ c.in-Some.is);
    }

pub returns-in-Err-clause-read : goal.returns-in-Err-clause-read
returns-in-Err-clause-read g c = λ tells.
    let reads = c.in-Err.ensures.row tells in
    record {
      read = reading reads.a reads.b;
      is = was_read _ (g.S.Site.faults c.args.site.now) (g.S.Site.faults c.read_row.new.site) c.args.volume (content (g.S.Site.told c.args.site.now)) (Err c.in-Err.trouble) reads;
      tells = c.refused_row.ensures.told c.args.asked (reading reads.a reads.b) reads.told;
    }

pub returns-in-Err-clause-counts : goal.returns-in-Err-clause-counts
returns-in-Err-clause-counts g c = c.refused_row.ensures.kept _ _ c.in-Err.ensures.devices.later c.in-Err.ensures.kept

pub returns-in-Some-clause-one_copy : goal.returns-in-Some-clause-one_copy
returns-in-Some-clause-one_copy g c = λ tells loses paired. serial_no_failure c.args.volume c.in-Ok.read.row c.args.asked c.in-Some.fault (sym c.serial_fault.ensures ∙ c.in-Some.is)

pub returns-in-Err-clause-one_copy : goal.returns-in-Err-clause-one_copy
returns-in-Err-clause-one_copy g c = λ tells loses paired.
    c.refused_row.ensures.works
    (one_suffices g.S.Site c.args.site.now (g.S.Site.faults c.args.site.now) (g.S.Site.faults c.read_row.new.site) c.args.volume (content (g.S.Site.told c.args.site.now)) c.in-Err.trouble loses paired (c.in-Err.ensures.row tells))

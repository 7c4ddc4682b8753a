use Rattle.std.proofs.Common.{List, Ok, Err, subst}
use Rattle.session_report.specs.Parties.{Stream, sink_between}
use Rattle.mss_audit.specs.Auditing.{CountsFault}
use Rattle.mss_audit.specs.Texts.{audit_text}
use Rattle.mss_audit.specs.declared.finding.AuditFault.{AuditFault}
use Rattle.mss_audit.specs.declared.finding.AuditFault.TheVariants.{Read, Memory}
use Rattle.mss_audit.specs.declared.finding.Finding.{Finding}
use Rattle.mss_top.specs.Status.{IsTextPut}
use Rattle.mss_top.specs.declared.status.Status.TheVariants.{Done}
use Rattle.mss_top.proofs.auditing.audit_lent.Goals as goal

pub returns-in-Ok-clause-ended : goal.returns-in-Ok-clause-ended
returns-in-Ok-clause-ended g c =
    let sink : Stream = sink_between g.O.Sink c.args.output.now c.list.new.output in
    record {
      answer = Ok c.in-Ok.findings.items;
      audit = record { list = c.in-Ok.ensures.list; counts = c.in-Ok.ensures.inspects.counts };
      put = subst (λ (listed : List Finding). IsTextPut (audit_text listed) Done sink c.list.result) c.as_slice.ensures c.list.ensures.put;
    }

pub returns-in-Err-Read-clause-ended : goal.returns-in-Err-Read-clause-ended
returns-in-Err-Read-clause-ended g c = record {
  answer = Err (Read c.in-Err-Read.fault);
  audit = record {
    list = λ tells. tt;
    counts = subst (λ (why : AuditFault). CountsFault (g.S.Site.faults c.args.site.now) (g.S.Site.faults c.audit_any.new.site) why) c.in-Err-Read.field-0-is c.in-Err-Read.ensures.inspects.counts;
  };
  put = c.break_off.ensures.put;
}

pub returns-in-Err-Memory-clause-ended : goal.returns-in-Err-Memory-clause-ended
returns-in-Err-Memory-clause-ended g c = record {
  answer = Err Memory;
  audit = record {
    list = λ tells. tt;
    counts = subst (λ (why : AuditFault). CountsFault (g.S.Site.faults c.args.site.now) (g.S.Site.faults c.audit_any.new.site) why) c.in-Err-Memory.field-0-is c.in-Err-Memory.ensures.inspects.counts;
  };
  put = c.say.ensures.put;
}

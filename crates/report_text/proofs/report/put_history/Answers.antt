use Rattle.std.proofs.Common.{◌≡◌, Err, Result, length, refl, sym, ap, ◌∙◌, arith}
use Rattle.std.proofs.lemmas.Result.{err_from_is_err_and}
use Rattle.std.specs.Prelude.{codes}
use Rattle.mss_base.proofs.Putting.{puts_after, puts_stops}
use Rattle.report_text.specs.Texts.{numbered_lines, entry_text, history_text}
use Rattle.report_text.specs.declared.report.ReportFault.{ReportFault}
use Rattle.report_text.specs.declared.report.ReportFault.TheVariants.{Output, Memory}
use Rattle.report_text.proofs.LineLemmas.{begun_behind, puts_failed}
use Rattle.report_text.proofs.report.put_history.Goals as goal

pub returns-in_err-put_text-clause-bytes : goal.returns-in_err-put_text-clause-bytes
unfolding history_text
returns-in_err-put_text-clause-bytes g c = λ told.
    puts_failed c.from_residual.result _ (g.O.Sink.told c.args.output.now) (g.O.Sink.told c.put_text.new.output) (history_text c.args.entries.now) c.from_residual.ensures.1
    (puts_stops (g.O.Sink.told c.args.output.now) (g.O.Sink.told c.put_text.new.output) (codes "MSS REPORT 1\n") (numbered_lines entry_text 1 c.args.entries.now) (c.in_err-put_text.ensures.bytes told))

pub returns-clause-bytes : goal.returns-clause-bytes
unfolding history_text
returns-clause-bytes g c = λ told.
    puts_after c.put_entries.result (g.O.Sink.told c.args.output.now) (g.O.Sink.told c.put_text.new.output) (g.O.Sink.told c.put_entries.new.output) (codes "MSS REPORT 1\n") (numbered_lines entry_text 1 c.args.entries.now)
    (c.in_ok-put_text.ensures.bytes told) (c.put_entries.ensures.bytes told)

pub returns-in_err-put_text-clause-begun : goal.returns-in_err-put_text-clause-begun
returns-in_err-put_text-clause-begun g c = λ told memory.
    let p = err_from_is_err_and c.from_residual.result c.from_residual.ensures.1 in
    let both : ◌≡◌ {A = Result (Unit {0}) ReportFault} (Err Output) (Err Memory) = sym (p.1 ∙ ap Err p.2) ∙ memory in
    absurd cc

pub returns-clause-begun : goal.returns-clause-begun
returns-clause-begun g c = λ told memory.
    let size : length (codes "MSS REPORT 1\n") ≡ 13 = refl in
    begun_behind c.put_entries.result (g.O.Sink.told c.args.output.now) (g.O.Sink.told c.put_text.new.output) (g.O.Sink.told c.put_entries.new.output) (codes "MSS REPORT 1\n") (numbered_lines entry_text 1 c.args.entries.now)
    (omega (arith, size)) (c.in_ok-put_text.ensures.bytes told) (c.put_entries.ensures.bytes told)

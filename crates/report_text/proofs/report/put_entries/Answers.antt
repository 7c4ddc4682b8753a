use Rattle.std.proofs.Common.{◌∙◌, ◌+◌, arith, drop}
use Rattle.report_text.specs.Texts.{numbered_lines, entry_text}
use Rattle.report_text.proofs.LineLemmas.{puts_failed, line_waits, waiting_put}
use Rattle.mss_base.proofs.Putting.{part_stops}
use Rattle.report_text.proofs.report.put_entries.Goals as goal

pub returns-in_err-put_waiting-clause-bytes : goal.returns-in_err-put_waiting-clause-bytes
returns-in_err-put_waiting-clause-bytes g c = λ told.
    let told_by = g.O.Sink.told in
    let whole = numbered_lines entry_text 1 c.args.entries.now in
    let rest = numbered_lines entry_text (c.loop-entry.number + 1) (drop (c.loop-entry.entry-index + 1) c.args.entries.now) in
    puts_failed c.from_residual-in_err-put_waiting.result _ (told_by c.args.output.now) (told_by c.put_waiting.new.output) whole c.from_residual-in_err-put_waiting.ensures.1
    (part_stops (told_by c.args.output.now) (told_by c.loop-entry.output) (told_by c.put_waiting.new.output) c.push_entry.new.out.items rest whole
    (line_waits entry_text (told_by c.args.output.now) (told_by c.loop-entry.output) c.loop-entry.buffer.items c.push_entry.new.out.items c.loop-entry.number c.loop-entry.entry-index c.args.entries.now c.entry-item.result
    whole c.loop-entry-test.true c.entry-item.is (c.loop-entry.invariant.put told) c.in_ok-push_entry.ensures)
    (c.in_err-put_waiting.ensures.front told))

pub loop-entry-preserved : goal.loop-entry-preserved
loop-entry-preserved g c =
    let told_by = g.O.Sink.told in
    let whole = numbered_lines entry_text 1 c.args.entries.now in
    let rest = numbered_lines entry_text (c.loop-entry.number + 1) (drop (c.loop-entry.entry-index + 1) c.args.entries.now) in
    record {
      put = λ told. waiting_put (told_by c.args.output.now) (told_by c.loop-entry.output) c.push_entry.new.out.items (told_by c.put_waiting.new.output) c.put_waiting.new.buffer.items rest whole
          (line_waits entry_text (told_by c.args.output.now) (told_by c.loop-entry.output) c.loop-entry.buffer.items c.push_entry.new.out.items c.loop-entry.number c.loop-entry.entry-index c.args.entries.now c.entry-item.result
          whole c.loop-entry-test.true c.entry-item.is (c.loop-entry.invariant.put told) c.in_ok-push_entry.ensures)
          (c.in_ok-put_waiting.ensures.put told);
      number = omega arith;
      same = c.in_ok-put_waiting.ensures.cause.same ∙ c.loop-entry.invariant.same;
    }

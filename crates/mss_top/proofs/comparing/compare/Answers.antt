use Rattle.std.proofs.Common.{Option, Some, map, string_bytes, sym, ◌∙◌, ap, subst}
use Rattle.command_words.specs.Words.{meaning}
use Rattle.command_words.specs.declared.command.Command.{Command}
use Rattle.session_report.specs.Parties.{Stream, sink_between, source_between}
use Rattle.victim_rules.specs.Closures.{NarrowMay}
use Rattle.mss_top.specs.Comparing.{EndsCompared}
use Rattle.mss_top.specs.Serial.{Chooses}
use Rattle.mss_top.proofs.ComparedJobs.{compare_complete}
use Rattle.mss_top.proofs.comparing.compare.Goals as goal

pub returns-in-Ok-Compare-clause-ended : goal.returns-in-Ok-Compare-clause-ended
returns-in-Ok-Compare-clause-ended g c =
    let did = c.compare_input in
    let input : Stream = source_between g.I.Source c.args.input.now did.new.input in
    let sink : Stream = sink_between g.O.Sink c.args.output.now did.new.output in
    subst (λ (asked : Option Command). EndsCompared asked (NarrowMay g.F.Fn c.args.other) input sink did.result.status did.result.sessions.items)
    (sym (c.in-Ok-Compare.ensures.asks ∙ ap (λ (k : Command). Some k) c.in-Ok-Compare.field-0-is)) did.ensures

pub returns-in-Ok-Compare-clause-complete : goal.returns-in-Ok-Compare-clause-complete
returns-in-Ok-Compare-clause-complete g c = λ job well.
    let did = c.compare_input in
    let input : Stream = source_between g.I.Source c.args.input.now did.new.input in
    let sink : Stream = sink_between g.O.Sink c.args.output.now did.new.output in
    let given : Chooses = NarrowMay g.F.Fn c.args.other in
    compare_complete (meaning (map string_bytes c.args.words.now)) given input sink job well did.result.status did.result.sessions.items
    (subst (λ (asked : Option Command). EndsCompared asked given input sink did.result.status did.result.sessions.items)
    (sym (c.in-Ok-Compare.ensures.asks ∙ ap (λ (k : Command). Some k) c.in-Ok-Compare.field-0-is)) did.ensures)

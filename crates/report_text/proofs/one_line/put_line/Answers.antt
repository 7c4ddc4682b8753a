use Rattle.std.proofs.Common.{List, ℕ, ◌++◌, codes, decimal, subst, sym}
use Rattle.mss_base.specs.Puts.{Puts}
use Rattle.report_text.specs.declared.one_line.OneLine.{OneLine}
use Rattle.report_text.specs.OneLines.{one_line_text}
use Rattle.report_text.proofs.one_line.put_line.Goals as goal

pub returns-in-JobRefused-clause-bytes : goal.returns-in-JobRefused-clause-bytes
unfolding one_line_text
returns-in-JobRefused-clause-bytes g c = λ told.
    subst (λ (line : OneLine). Puts c.put_numbered_word.result (g.O.Sink.told c.args.output.now) (g.O.Sink.told c.put_numbered_word.new.output) (one_line_text line)) (sym c.in-JobRefused.is)
    (subst (λ (word : List ℕ). Puts c.put_numbered_word.result (g.O.Sink.told c.args.output.now) (g.O.Sink.told c.put_numbered_word.new.output) (codes "job refused line " ++ decimal c.in-JobRefused.line ++ codes " " ++ word ++ codes "\n")) c.kind_name.ensures
    (c.put_numbered_word.ensures.bytes told))

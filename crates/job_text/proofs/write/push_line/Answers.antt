use Rattle.std.proofs.Common.{◌≡◌, ℕ, List, subst}
use Rattle.std.specs.Prelude.{OnOk}
use Rattle.job_text.specs.Lines.{spelling}
use Rattle.job_text.proofs.Writing.{line_ends}
use Rattle.job_text.proofs.write.push_line.Goals as goal

pub returns : goal.returns
returns c =
    let e = line_ends c.args.out.now.items (spelling c.args.keyword) c.loop-word.out.items c.args.words.now c.loop-word.word-index c.loop-word-test.false c.loop-word.invariant in
    subst (λ (text : List ℕ). OnOk c.append-2.result (c.append-2.new.self.items ≡ text)) e c.append-2.ensures.ok

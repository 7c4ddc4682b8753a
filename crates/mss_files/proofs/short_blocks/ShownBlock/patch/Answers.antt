use Rattle.std.proofs.Common.{◌≡◌, ◌≤◌, length, drop, ap, ◌∙◌, rules, arith}
use Rattle.std.proofs.lemmas.List.{take_at}
use Rattle.mss_files.proofs.ShortFacts.{behind_stays}
use Rattle.mss_files.proofs.short_blocks.ShownBlock.patch.Goals as goal

pub invariant_of-self-clause-zeros : goal.invariant_of-self-clause-zeros
invariant_of-self-clause-zeros c =
    let block = c.deref_mut.result.now in
    let same = c.deref_mut.ensures.value in
    let long : length c.overwrite.new.block ≡ c.args.self.now.bytes.len = search rules in
    let whole : 1024 ≤ length block = omega (arith, ap length same, c.args.self.now.whole) in
    ap (drop 1024) (take_at c.overwrite.new.block _ _ long ∙ c.overwrite.ensures)
    ∙ behind_stays 1024 c.args.offset block c.args.bytes.now c.requires whole ∙ ap (drop 1024) same ∙ c.args.self.now.zeros

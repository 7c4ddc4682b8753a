use Rattle.std.proofs.Common.{◌≡◌, length, drop, ap, ◌∙◌, rules}
use Rattle.std.proofs.lemmas.List.{take_at, drop_at}
use Rattle.mss_files.proofs.short_blocks.ShownBlock.show.Goals as goal

pub invariant_of-self-clause-zeros : goal.invariant_of-self-clause-zeros
invariant_of-self-clause-zeros c =
    let long : length c.put_front.new.block ≡ c.args.self.now.bytes.len = search rules in
    ap (drop 1024) (take_at c.put_front.new.block _ _ long ∙ c.put_front.ensures)
    ∙ drop_at c.args.front.now _ 1024 c.requires ∙ ap (drop 1024) c.deref_mut.ensures.value ∙ c.args.self.now.zeros

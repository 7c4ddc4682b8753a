use Rattle.std.proofs.Common.{◌≡◌, ◌+◌, ◌++◌, ℕ, length, drop, ap, ◌∙◌, arith}
use Rattle.mss_files.proofs.short_blocks.put_front.Goals as goal

pub returns : goal.returns
returns c =
    let long : 0 + length c.args.front.now ≡ 1024 = omega (arith, c.requires.front) in
    c.overwrite.ensures ∙ ap (λ (n : ℕ). c.args.front.now ++ drop n c.args.block.now) long

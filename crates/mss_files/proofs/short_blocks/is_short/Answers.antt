use Rattle.mss_files.proofs.ShortFacts.{short_by_zeros}
use Rattle.mss_files.proofs.short_blocks.is_short.Goals as goal

pub returns : goal.returns
returns c =
    let by = short_by_zeros c.args.bytes.now c.split_at.result.1.now c.if-bytes-ne-BLOCK_BYTES.false c.split_at.ensures.back in
    (λ yes. by.0 (c.are_zeros.ensures.0 yes), λ short. c.are_zeros.ensures.1 (by.1 short))

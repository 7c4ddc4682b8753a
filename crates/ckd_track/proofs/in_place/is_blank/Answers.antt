use Rattle.std.proofs.Common.{rules, tests}
use Rattle.ckd_track.proofs.ReadLemmas.{blank_shut, shut_blank}
use Rattle.ckd_track.proofs.in_place.is_blank.Goals as goal

pub returns : goal.returns
returns c = (λ shut. shut_blank c.args.block.now (search (rules, tests)), λ blank. let shut = blank_shut c.args.block.now blank in search (rules, tests))

use Rattle.ckd_plain.specs.Effects.{effect_with}
use Rattle.ckd_plain.proofs.ChainFacts.{chain_kept}
use Rattle.ckd_plain.proofs.answer.finish.Goals as goal

pub returns-clause-chain : goal.returns-clause-chain
returns-clause-chain c =
    chain_kept c.args.command c.args.chained (effect_with c.args.status c.args.bytes.items c.args.host.now) _ _
    c.end.ensures.reply_ c.end.ensures.host_ c.requires

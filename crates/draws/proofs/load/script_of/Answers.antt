use Rattle.std.proofs.Common.{ap, List, map, ℕ}
use Rattle.channel_program.specs.Script.{ItemData}
use Rattle.job_text.specs.Jobs.{ScriptData}
use Rattle.job_text.specs.Views.{item_of}
use Rattle.draws.proofs.Owning.{all_owned, fewer_words, owned_more}
use Rattle.draws.proofs.load.script_of.Goals as goal

abbrev script : ℕ → List ItemData → ScriptData
script host items = record { host = host; items = items }

pub returns : goal.returns
returns c = ap (script c.args.host)
    (all_owned c.args.host c.loop-rest.number c.loop-rest.rest.now (map item_of c.loop-rest.items.items) _ c.in_default.len_below c.loop-rest.invariant.0)

pub loop-rest-preserved : goal.loop-rest-preserved
loop-rest-preserved c =
    let words = c.loop-rest.rest.now in
    let many = c.in-len3-up.len_at_least in (
      owned_more c.args.host c.loop-rest.number words (map item_of c.loop-rest.items.items) _ _ many c.in_ok-put_own.ensures c.loop-rest.invariant.0,
      fewer_words c.loop-rest.number _ words many c.loop-rest.invariant.1,
    )

use Rattle.std.proofs.Common.{◌≡◌, ◌∙◌, sym, ◌/◌, length, arith, rules}
use Rattle.volume_table.specs.Listed.{row_in_list}
use Rattle.shown_volumes.specs.Sound.{frame_in}
use Rattle.work_events.proofs.GoingCore.{going_core}
use Rattle.work_events.proofs.PickLemmas.{some_below}
use Rattle.work_events.proofs.rule.asked_frame.Goals as goal

pub returns-clause-there : goal.returns-clause-there
returns-clause-there g c =
    let now = c.args.core.now in
    let core = going_core _ now c.core.view_is c.core.invariant.whole.kept c.requires.going in
    let page : c.frame_in.result ≡ frame_in (row_in_list now.rows) c.args.request.now.volume (c.args.request.now.cylinder / 8) = search rules in
    some_below c.frame_in.result (length now.owners) (λ f is. let long = core.owners_ in let lt = core.framed _ _ f (sym page ∙ is) in omega (arith, long, lt))

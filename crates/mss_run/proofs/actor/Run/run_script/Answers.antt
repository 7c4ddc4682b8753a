use Rattle.std.proofs.Common.{Bool, Option, map, refl, ◌∙◌, subst}
use Rattle.job_text.specs.Views.{item_of}
use Rattle.mss_run.specs.Walks.{EndsWalk, WalksOn}
use Rattle.mss_run.proofs.WalkFacts.{walk_begins}
use Rattle.mss_run.proofs.actor.Run.run_script.Goals as goal

pub loop-init : goal.loop-init
loop-init g c = record {
  walked = walk_begins (map item_of c.args.items.now) c.args.running c.entered-place.result c.requires.begins c.requires.unasked c.entered-place.ensures;
  host = refl;
}

pub loop-preserved : goal.loop-preserved
loop-preserved g c =
    let step = c.step_script-now in
    record {
      walked = subst (λ (o : Option Bool). WalksOn (map item_of c.args.items.now) step.result.0 step.new.place o) c.in-None-end.is step.ensures.goes;
      host = step.ensures.host ∙ c.loop.invariant.host;
    }

pub returns-in-Some-end-clause-ends : goal.returns-in-Some-end-clause-ends
returns-in-Some-end-clause-ends g c =
    let step = c.step_script-now in
    let ended : EndsWalk (map item_of c.args.items.now) step.result.0 c.in-Some-end.finished =
    subst (λ (o : Option Bool). WalksOn (map item_of c.args.items.now) step.result.0 step.new.place o) c.in-Some-end.is step.ensures.goes in
    ended.ends

pub returns-in-Some-end-clause-asks : goal.returns-in-Some-end-clause-asks
returns-in-Some-end-clause-asks g c =
    let step = c.step_script-now in
    let ended : EndsWalk (map item_of c.args.items.now) step.result.0 c.in-Some-end.finished =
    subst (λ (o : Option Bool). WalksOn (map item_of c.args.items.now) step.result.0 step.new.place o) c.in-Some-end.is step.ensures.goes in
    ended.asks

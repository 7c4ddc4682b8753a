use Rattle.std.proofs.Common.{rules, ◌≡◌, ◌<◌, sym, subst, ℕ}
use Rattle.std.specs.List.{AllByRecursion}
use Rattle.draws.specs.Draws.{draws, schedule}
use Rattle.draws.proofs.Drawing.{all_below}
use Rattle.draws.proofs.turns.schedule.Goals as goal

pub returns-clause-within : goal.returns-clause-within
returns-clause-within c =
    let drawn : c.in_ok-drawn.drawn.items ≡ schedule c.args.order c.args.turns c.args.actors = search rules in
    subst (AllByRecursion (λ (actor : ℕ). actor < c.args.actors)) (sym drawn) (all_below c.args.actors c.requires (draws c.args.order c.args.turns))

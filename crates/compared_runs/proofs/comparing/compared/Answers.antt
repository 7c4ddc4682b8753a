use Rattle.std.proofs.Common.{List, [], ◌∷◌, refl, subst, sym}
use Rattle.victim_rules.specs.Closures.{NarrowMay}
use Rattle.victim_rules.specs.Rules.{RulesMay}
use Rattle.victim_rules.specs.declared.rule.Rule.{Rule}
use Rattle.core_state.specs.declared.session.Session.{Session}
use Rattle.serial_driver.specs.declared.answer.DriveAnswer.TheVariants.{Done}
use Rattle.compared_runs.specs.Comparing.{Chooses, Compares, GoesOn, lru, clean, quota, other}
use Rattle.compared_runs.proofs.Added.{one_more}
use Rattle.compared_runs.proofs.comparing.compared.Goals as goal

pub returns : goal.returns
returns g c =
    let job = c.args.job.now in
    let given : Chooses = NarrowMay g.F.Fn c.args.other in
    let first = c.then-by_no_rule.result in
    let second = c.then-by_clean.result in
    let third = c.then-by_quota.result in
    let last = c.then.result in
    let none : List Session = c.new.result.items in
    let zeroth : Compares (Unit {0}) given job [] none Done = subst (λ (l : List Session). Compares (Unit {0}) given job [] l Done) (sym c.new.ensures) refl in
    let a = one_more (Unit {0}) given job lru [] none Done first.sessions.items first.end zeroth
    (subst (λ (rules : List Rule). GoesOn (Unit {0}) (RulesMay rules) job none Done first.sessions.items first.end) c.none.ensures c.then-by_no_rule.ensures) in
    let b = one_more (Unit {0}) given job clean (lru ∷ []) first.sessions.items first.end second.sessions.items second.end a
    (subst (λ (rules : List Rule). GoesOn (Unit {0}) (RulesMay rules) job first.sessions.items first.end second.sessions.items second.end) c.only.ensures c.then-by_clean.ensures) in
    let d = one_more (Unit {0}) given job quota (lru ∷ clean ∷ []) second.sessions.items second.end third.sessions.items third.end b
    (subst (λ (rules : List Rule). GoesOn (Unit {0}) (RulesMay rules) job second.sessions.items second.end third.sessions.items third.end) c.only-2.ensures c.then-by_quota.ensures) in
    one_more (Unit {0}) given job other (lru ∷ clean ∷ quota ∷ []) third.sessions.items third.end last.sessions.items last.end d c.then.ensures

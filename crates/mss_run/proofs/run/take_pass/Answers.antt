use Rattle.std.proofs.Common.{◌≡◌, List, [], ◌∷◌, ◌++◌, subst}
use Rattle.seen_book.specs.Books.{PassData}
use Rattle.mss_run.specs.Runs.{AreStarts}
use Rattle.mss_run.proofs.RunFacts.{no_pass, starts_last}
use Rattle.mss_run.proofs.run.take_pass.Goals as goal

pub unreachable-requires : goal.unreachable-requires
unreachable-requires g c =
    let none : c.args.passes.now.items ≡ [] = c.in_default.ensures.0 in
    no_pass c.args.rest.now c.args.script.now (subst (λ (ps : List PassData). AreStarts (c.args.rest.now ++ c.args.script.now ∷ []) ps) none c.requires)

pub returns-clause-start : goal.returns-clause-start
returns-clause-start g c =
    let last : c.args.passes.now.items ≡ c.pop.new.self.items ++ c.in-Some.pass ∷ [] = c.in-Some.ensures.0 in
    (starts_last c.args.rest.now c.args.script.now c.pop.new.self.items c.in-Some.pass
    (subst (λ (ps : List PassData). AreStarts (c.args.rest.now ++ c.args.script.now ∷ []) ps) last c.requires)).1

pub returns-clause-starts : goal.returns-clause-starts
returns-clause-starts g c =
    let last : c.args.passes.now.items ≡ c.pop.new.self.items ++ c.in-Some.pass ∷ [] = c.in-Some.ensures.0 in
    (starts_last c.args.rest.now c.args.script.now c.pop.new.self.items c.in-Some.pass
    (subst (λ (ps : List PassData). AreStarts (c.args.rest.now ++ c.args.script.now ∷ []) ps) last c.requires)).0

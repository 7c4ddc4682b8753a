use Rattle.std.proofs.Common.{rules, ◌≡◌, ◌<◌, ℕ, true, false, List, length, slice_get, Some, refl, subst, arith}
use Rattle.std.specs.Fn.{FnReturnsAt}
use Rattle.std.proofs.lemmas.Option.{slice_get_read}
use borrow.Author.Count.{below_more}
use Rattle.victim_choice.specs.declared.choose.Candidate.{Candidate}
use Rattle.victim_rules.specs.Closures.{NarrowMay, one}
use Rattle.victim_rules.proofs.narrow.NarrowChoose.choose.Goals as goal

pub returns-then-call-clause-may : goal.returns-then-call-clause-may
returns-then-call-clause-may g c =
    let given : List Candidate = c.args.candidates.now in
    let place : ℕ = c.loop-place.place in
    let within : place < length given = omega arith in
    let there : slice_get given place ≡ Some c.index-candidates-place.result = slice_get_read given (length given) place c.index-candidates-place.result refl within c.index-candidates-place.is in
    let keeps : FnReturnsAt g.F.Fn c.self.inside.keeps c.index-candidates-place.result true = search rules in
    subst (λ f. NarrowMay g.F.Fn f given place) c.self.view_is (one c.index-candidates-place.result there c.loop-place.invariant keeps)

pub loop-place-preserved : goal.loop-place-preserved
loop-place-preserved g c = λ before d below is.
    let given : List Candidate = c.args.candidates.now in
    let place : ℕ = c.loop-place.place in
    let within : place < length given = omega arith in
    let there : slice_get given place ≡ Some c.index-candidates-place.result = slice_get_read given (length given) place c.index-candidates-place.result refl within c.index-candidates-place.is in
    let refuses : FnReturnsAt g.F.Fn c.self.inside.keeps c.index-candidates-place.result false = search rules in
    let here : (e : Candidate) → slice_get given place ≡ Some e → FnReturnsAt g.F.Fn c.self.inside.keeps e false =
    (λ e at. let same : c.index-candidates-place.result ≡ e = cc in subst (λ (x : Candidate). FnReturnsAt g.F.Fn c.self.inside.keeps x false) same refuses) in
    below_more (λ (k : ℕ). (e : Candidate) → slice_get given k ≡ Some e → FnReturnsAt g.F.Fn c.self.inside.keeps e false) place (λ k lower e at. c.loop-place.invariant k e lower at) here before below d is

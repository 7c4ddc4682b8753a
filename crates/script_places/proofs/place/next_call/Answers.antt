use Rattle.std.proofs.Common.{map, sym, ◌∙◌, ap}
use Rattle.job_text.specs.Views.{item_of}
use Rattle.script_places.proofs.PlaceFacts.{found, next_program, next_is, holds_next, says_call, on_err}
use Rattle.script_places.proofs.place.next_call.Goals as goal
use Rattle.std.specs.Prelude.{is_some}

pub program_call-requires-clause-some : goal.program_call-requires-clause-some
program_call-requires-clause-some c =
    let is = found item_of c.args.items.now c.args.place.now.item _ _ c.in-Some-Run.ensures.lookup.0 c.in-Some-Run.ensures.lookup.1 c.in-Some-Run.field-0-is in
    (next_program (map item_of c.args.items.now) c.args.place.now _ _ c.requires.stands.0 is c.requires.stands.1).some

pub program_call-requires-clause-held : goal.program_call-requires-clause-held
program_call-requires-clause-held c =
    let is = found item_of c.args.items.now c.args.place.now.item _ _ c.in-Some-Run.ensures.lookup.0 c.in-Some-Run.ensures.lookup.1 c.in-Some-Run.field-0-is in
    holds_next _ _ c.args.place.now.next (next_program (map item_of c.args.items.now) c.args.place.now _ _ c.requires.stands.0 is c.requires.stands.1).call

pub returns-in_err-program_call-in-Some-Run-clause-memory : goal.returns-in_err-program_call-in-Some-Run-clause-memory
returns-in_err-program_call-in-Some-Run-clause-memory c = λ left stands.
    let is = found item_of c.args.items.now c.args.place.now.item _ _ c.in-Some-Run.ensures.lookup.0 c.in-Some-Run.ensures.lookup.1 c.in-Some-Run.field-0-is in
    let known = next_program (map item_of c.args.items.now) c.args.place.now _ _ left is stands in
    on_err c.from_residual.result (ap is_some (sym (next_is (map item_of c.args.items.now) c.args.place.now _ left is stands)) ∙ says_call _ left.at c.args.place.now.next known.some known.call)

pub returns-in-Some-Mount-clause-call : goal.returns-in-Some-Mount-clause-call
returns-in-Some-Mount-clause-call c = λ left stands.
    let is = found item_of c.args.items.now c.args.place.now.item _ _ c.in-Some-Mount.ensures.lookup.0 c.in-Some-Mount.ensures.lookup.1 c.in-Some-Mount.field-0-is in
    next_is (map item_of c.args.items.now) c.args.place.now _ left is stands

pub returns-in-Some-Demount-clause-call : goal.returns-in-Some-Demount-clause-call
returns-in-Some-Demount-clause-call c = λ left stands.
    let is = found item_of c.args.items.now c.args.place.now.item _ _ c.in-Some-Demount.ensures.lookup.0 c.in-Some-Demount.ensures.lookup.1 c.in-Some-Demount.field-0-is in
    next_is (map item_of c.args.items.now) c.args.place.now _ left is stands

pub returns-in_ok-program_call-in-Some-Run-clause-call : goal.returns-in_ok-program_call-in-Some-Run-clause-call
returns-in_ok-program_call-in-Some-Run-clause-call c = λ left stands.
    let is = found item_of c.args.items.now c.args.place.now.item _ _ c.in-Some-Run.ensures.lookup.0 c.in-Some-Run.ensures.lookup.1 c.in-Some-Run.field-0-is in
    let known = next_program (map item_of c.args.items.now) c.args.place.now _ _ left is stands in
    sym (c.in_ok-program_call-in-Some-Run.ensures left.at known.call) ∙ next_is (map item_of c.args.items.now) c.args.place.now _ left is stands

use Rattle.std.proofs.Common.{map}
use Rattle.job_text.specs.Views.{item_of}
use Rattle.script_places.proofs.PlaceFacts.{found, passed_program, passed_mount, passed_demount}
use Rattle.script_places.proofs.place.pass.Goals as goal

pub returns-in-Some-Run : goal.returns-in-Some-Run
returns-in-Some-Run c = λ left stands.
    let is = found item_of c.args.items.now c.args.place.now.item _ _ c.in-Some-Run.ensures.lookup.0 c.in-Some-Run.ensures.lookup.1 c.in-Some-Run.field-0-is in
    passed_program (map item_of c.args.items.now) c.args.place.now _ _ _ _ left is stands.items stands.knows c.pass_call.ensures

pub returns-in-Some-Mount : goal.returns-in-Some-Mount
returns-in-Some-Mount c = λ left stands.
    let is = found item_of c.args.items.now c.args.place.now.item _ _ c.in-Some-Mount.ensures.lookup.0 c.in-Some-Mount.ensures.lookup.1 c.in-Some-Mount.field-0-is in
    passed_mount (map item_of c.args.items.now) c.args.place.now _ _ _ _ _ left is stands.items c.enter.ensures

pub returns-in-Some-Demount : goal.returns-in-Some-Demount
returns-in-Some-Demount c = λ left stands.
    let is = found item_of c.args.items.now c.args.place.now.item _ _ c.in-Some-Demount.ensures.lookup.0 c.in-Some-Demount.ensures.lookup.1 c.in-Some-Demount.field-0-is in
    passed_demount (map item_of c.args.items.now) c.args.place.now _ _ _ left is stands.items c.enter-in-Some-Demount.ensures

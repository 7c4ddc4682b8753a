use Rattle.std.proofs.lemmas.List.{length-map}
use Rattle.std.proofs.Common.{map, arith}
use Rattle.job_text.specs.Views.{item_of}
use Rattle.script_places.proofs.PlaceFacts.{found, stands_begun, stands_mount, stands_demount}
use Rattle.script_places.proofs.place.entered.Goals as goal

pub returns-in-Some-Run : goal.returns-in-Some-Run
returns-in-Some-Run c =
    let is = found item_of c.args.items.now c.args.item _ _ c.in-Some-Run.ensures.lookup.0 c.in-Some-Run.ensures.lookup.1 c.in-Some-Run.field-0-is in
    stands_begun (map item_of c.args.items.now) c.args.item _ (omega (arith, c.requires.within, length-map c.args.items.now item_of)) c.begun.ensures.item c.begun.ensures.fresh _ _ is c.begun.ensures.knows

pub returns-in-Some-Mount : goal.returns-in-Some-Mount
returns-in-Some-Mount c =
    let is = found item_of c.args.items.now c.args.item _ _ c.in-Some-Mount.ensures.lookup.0 c.in-Some-Mount.ensures.lookup.1 c.in-Some-Mount.field-0-is in
    stands_mount (map item_of c.args.items.now) c.args.item _ (omega (arith, c.requires.within, length-map c.args.items.now item_of)) c.at.ensures.item c.at.ensures.fresh _ _ _ is

pub returns-in-Some-Demount : goal.returns-in-Some-Demount
returns-in-Some-Demount c =
    let is = found item_of c.args.items.now c.args.item _ _ c.in-Some-Demount.ensures.lookup.0 c.in-Some-Demount.ensures.lookup.1 c.in-Some-Demount.field-0-is in
    stands_demount (map item_of c.args.items.now) c.args.item _ (omega (arith, c.requires.within, length-map c.args.items.now item_of)) c.at-in-Some-Demount.ensures.item c.at-in-Some-Demount.ensures.fresh _ is

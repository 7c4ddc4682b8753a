use Rattle.std.proofs.Common.{ℕ, nat_lt, map, sym, ◌∙◌, ap}
use Rattle.std.proofs.lemmas.List.{length-map}
use Rattle.job_text.specs.Views.{item_of}
use Rattle.script_places.proofs.PlaceFacts.{call_left}
use Rattle.script_places.proofs.place.has_call.Goals as goal

pub returns : goal.returns
returns c = λ left stands. ap (λ (n : ℕ). nat_lt c.args.place.now.item n) (sym (length-map c.args.items.now item_of)) ∙ call_left (map item_of c.args.items.now) c.args.place.now left stands

use Rattle.std.proofs.Common.{◌∙◌, ap, sym}
use Rattle.std.specs.Option.{option_map}
use Rattle.std.specs.Map.Iter.{deref_pair}
use Rattle.victim_choice.proofs.CacheFacts.{first_stays}
use Rattle.victim_choice.proofs.recency.is_first.Goals as goal

pub returns-in-Some : goal.returns-in-Some
returns-in-Some c = λ same.
    first_stays c.args.frame (c.in-Some.first.now, c.in-Some.field-0-1.now) c.args.cache.now.entries
    (sym (ap (option_map deref_pair) c.in-Some.is) ∙ c.peek_mru.ensures)
    (sym c.eq.ensures ∙ same)

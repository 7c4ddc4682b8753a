-- R0, or the record that stands where it begins.
use Rattle.std.proofs.Common.{sym, ◌∙◌, arith}
use Rattle.track_engine.proofs.Finding.{item_stored}
use Rattle.track_engine.proofs.find.found_in.Goals as goal

pub returns-clause-found : goal.returns-clause-found
returns-clause-found c =
    let item = item_stored c.args.block.now c.args.at.now c.requires.there (omega arith) in
    (λ i. record { number = c.args.at.now.number; item = (c.stored.view_is ∙ c.record_at-stored.ensures ∙ sym item) i; host = c.args.at.now.host })

use Rattle.std.proofs.Common.{◌≡◌, ℕ, List, Ok, sym, ap, ◌∙◌, arith}
use Rattle.std.proofs.lemmas.Result.{err_from_is_err_and}
use Rattle.channel_commands.specs.declared.command.WriteKind.TheVariants as write
use Rattle.ckd_track.specs.Data.{RecordData}
use Rattle.ckd_track.specs.Track.{reading}
use Rattle.ckd_plain.specs.Index.{same_record}
use Rattle.ckd_plain.specs.Effects.{new_record, prior_number, write_}
use Rattle.track_engine.specs.Found.{found_at}
use Rattle.track_engine.specs.Writing.{formatted_behind}
use Rattle.track_engine.proofs.Spelling.{cost_of-new_record}
use Rattle.track_engine.proofs.Formats.{format_unfound, format_fits, format_overfull}
use Rattle.track_engine.proofs.write.kept_record.Goals as goal

pub returns-in_err-at-clause-format : goal.returns-in_err-at-clause-format
returns-in_err-at-clause-format g c = λ tells.
    let p = err_from_is_err_and c.from_residual.result c.from_residual.ensures.1 in
    let block : List ℕ = g.S.Site.brought c.bring_record.new.site in
    rw (p.1, p.2) (format_unfound _ c.args.host.now c.args.left c.args.argument.now (found_at block) (formatted_behind (reading block).records (new_record c.args.argument.now)) _ (rw c.number.ensures at (c.in_err-at.ensures.found tells)))

pub returns-then-cost-gt-TRACK_COST-clause-format : goal.returns-then-cost-gt-TRACK_COST-clause-format
returns-then-cost-gt-TRACK_COST-clause-format g c = λ tells.
    let block : List ℕ = g.S.Site.brought c.bring_record.new.site in
    let track : List RecordData = (reading block).records in
    let there = (c.in_ok-at.ensures.block tells).records in
    let cost = rw c.brought.ensures at c.cost_of_front.ensures.cost in
    let here : same_record track c.args.host.now (prior_number c.args.left) ≡ Ok (found_at block c.in_ok-at.at) = (λ i. same_record (there i) c.args.host.now (sym c.number.ensures i)) ∙ c.in_ok-at.ensures.found tells in
    ap (λ (t : List RecordData). write_ t c.args.host.now c.args.left write.CountKeyData c.args.argument.now) (sym there)
    ∙ format_overfull track c.args.host.now c.args.left c.args.argument.now block c.in_ok-at.at here
    _ c.in_ok-at.ensures.itself.host_ (omega (arith, cost, c.cost_at.ensures, cost_of-new_record c.args.argument.now c.requires.long))

pub returns-clause-fits : goal.returns-clause-fits
returns-clause-fits g c =
    let cost = rw c.brought.ensures at c.cost_of_front.ensures.cost in
    omega (arith, cost, c.cost_at.ensures, cost_of-new_record c.args.argument.now c.requires.long)

pub returns-clause-format : goal.returns-clause-format
returns-clause-format g c = λ tells.
    let block : List ℕ = g.S.Site.brought c.bring_record.new.site in
    let track : List RecordData = (reading block).records in
    let there = (c.in_ok-at.ensures.block tells).records in
    let cost = rw c.brought.ensures at c.cost_of_front.ensures.cost in
    let here : same_record track c.args.host.now (prior_number c.args.left) ≡ Ok (found_at block c.in_ok-at.at) = (λ i. same_record (there i) c.args.host.now (sym c.number.ensures i)) ∙ c.in_ok-at.ensures.found tells in
    ap (λ (t : List RecordData). write_ t c.args.host.now c.args.left write.CountKeyData c.args.argument.now) (sym there)
    ∙ format_fits track c.args.host.now c.args.left c.args.argument.now block c.in_ok-at.at here
    (omega (arith, cost, c.cost_at.ensures, cost_of-new_record c.args.argument.now c.requires.long))

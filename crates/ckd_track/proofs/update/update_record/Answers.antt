use Rattle.std.proofs.Common.{ℕ, ◌-◌, ◌∙◌, ap, arith}
use Rattle.std.proofs.lemmas.Result.{on_ok_weaker}
use Rattle.ckd_track.specs.Updating.{bytes_place}
use Rattle.ckd_track.proofs.UpdateSteps.{put_inside, update_moments, update_done, update_stays}
use Rattle.ckd_track.proofs.LogLemmas.{two_items}
use Rattle.ckd_track.proofs.update.update_record.Goals as goal

pub returns-then-is_empty-clause-moments : goal.returns-then-is_empty-clause-moments
returns-then-is_empty-clause-moments g c = λ tells.
    let may = c.requires.found in
    update_stays (c.args.number - 1) (g.S.Site.brought c.args.site.now) c.args.key_too c.args.bytes.now (omega (arith, may.first, may.there)) may.long _ _ _ (c.requires.brought tells)

pub write_firm-requires-clause-inside : goal.write_firm-requires-clause-inside
write_firm-requires-clause-inside g c =
    let may = c.requires.found in
    omega (arith, (c.bytes_place-offset.ensures ∙ ap (bytes_place c.args.key_too c.args.place) c.brought.ensures ∙ ap (λ (p : ℕ). bytes_place c.args.key_too p (g.S.Site.brought c.args.site.now)) may.found.behind), put_inside (c.args.number - 1) (g.S.Site.brought c.args.site.now) c.args.key_too c.args.bytes.now (omega (arith, may.first, may.there)) may.long, g.met.S.Site.full c.args.site.now)

pub returns-clause-moments : goal.returns-clause-moments
returns-clause-moments g c = λ tells.
    let may = c.requires.found in
    let logged = c.write_firm.ensures.logged tells in
    update_moments (c.args.number - 1) (g.S.Site.brought c.args.site.now) c.args.key_too c.args.bytes.now (omega (arith, may.first, may.there)) may.long _ _ _ _ (c.requires.brought tells) _ logged.0 (c.bytes_place-offset.ensures ∙ ap (bytes_place c.args.key_too c.args.place) c.brought.ensures ∙ ap (λ (p : ℕ). bytes_place c.args.key_too p (g.S.Site.brought c.args.site.now)) may.found.behind) logged.1 logged.2

pub returns-clause-done : goal.returns-clause-done
returns-clause-done g c = λ tells.
    let may = c.requires.found in
    on_ok_weaker c.write_firm.result
    (λ adds. update_done (c.args.number - 1) (g.S.Site.brought c.args.site.now) c.args.key_too c.args.bytes.now (omega (arith, may.first, may.there)) may.long _ _ _ _ (c.requires.brought tells) _ (c.bytes_place-offset.ensures ∙ ap (bytes_place c.args.key_too c.args.place) c.brought.ensures ∙ ap (λ (p : ℕ). bytes_place c.args.key_too p (g.S.Site.brought c.args.site.now)) may.found.behind) adds)
    (c.write_firm.ensures.ok tells)

pub returns-clause-site_ : goal.returns-clause-site_
returns-clause-site_ g c =
    two_items g.S.Site _ _ c.write_firm.result c.write_firm.ensures.devices (λ tells. (_, (c.write_firm.ensures.logged tells).2)) c.write_firm.ensures.cause c.write_firm.ensures.wrote c.write_firm.ensures.works

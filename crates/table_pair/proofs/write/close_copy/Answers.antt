use Rattle.std.proofs.Common.{◌≡◌, ◌⊎◌, inl, ◌∙◌, length, refl, arith}
use Rattle.mss_base.specs.Content.{content}
use Rattle.table_pair.specs.Copies.{copy_on, shut_copy}
use Rattle.table_pair.proofs.WriteLemmas.{byte_put, nothing_written, closing, closed}
use Rattle.table_pair.proofs.write.close_copy.Goals as goal

pub returns-in_err-write_firm-clause-moments : goal.returns-in_err-write_firm-clause-moments
returns-in_err-write_firm-clause-moments g c = λ tells.
    let at = c.args.at.now in
    let w = c.write_firm.ensures.logged tells in
    closing at _ _ (g.met.S.Site.whole c.args.site.now at.unit at.block tells) w.0 w.1 (c.requires.told tells ∙ c.if-is_open.true) w.2

pub returns-in_ok-write_firm-clause-moments : goal.returns-in_ok-write_firm-clause-moments
returns-in_ok-write_firm-clause-moments g c = λ tells.
    let at = c.args.at.now in
    let w = c.write_firm.ensures.logged tells in
    closing at _ _ (g.met.S.Site.whole c.args.site.now at.unit at.block tells) w.0 w.1 (c.requires.told tells ∙ c.if-is_open.true) w.2

pub returns-in_ok-write_firm-clause-done : goal.returns-in_ok-write_firm-clause-done
returns-in_ok-write_firm-clause-done g c = λ tells.
    let at = c.args.at.now in
    closed at _ _ (g.met.S.Site.whole c.args.site.now at.unit at.block tells) _ refl (c.in_ok-write_firm.ensures.ok tells)

pub returns-in_ok-write_firm-clause-gate : goal.returns-in_ok-write_firm-clause-gate
returns-in_ok-write_firm-clause-gate g c = λ tells _.
    let at = c.args.at.now in
    let whole : length (content (g.S.Site.told c.args.site.now) at.unit at.block) ≡ 16384 = (g.met.S.Site.whole c.args.site.now at.unit at.block tells) in
    byte_put at 0 _ _ _ (omega arith) (c.in_ok-write_firm.ensures.ok tells)

pub returns-else-is_open-clause-moments : goal.returns-else-is_open-clause-moments
returns-else-is_open-clause-moments g c = λ _.
    let at = c.args.at.now in
    let copy = copy_on (g.S.Site.told c.args.site.now) at in
    nothing_written at (λ now. (now ≡ copy) ⊎ (now ≡ shut_copy copy)) _ _ refl (inl refl)

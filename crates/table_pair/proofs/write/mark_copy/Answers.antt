use Rattle.std.proofs.Common.{◌≡◌, ◌⊎◌, ◌≢◌, ◌∷◌, [], ◌∙◌, ℕ, List, true, false, not, ◌==◌, get_or, inl, refl, sym, ap, subst, length, arith}
use Rattle.std.proofs.lemmas.Bool.{ne_eqb}
use Rattle.mss_base.specs.Content.{SiteLog, content, Adds}
use Rattle.mss_base.specs.declared.place.BlockPlace.{BlockPlace}
use Rattle.table_pair.specs.Copies.{copy_at, copy_on, marked_copy}
use Rattle.table_pair.proofs.CopyLemmas.{mark_of, clear_of, same_mark}
use Rattle.mss_base.specs.Content.{write_at}
use Rattle.table_pair.proofs.WriteLemmas.{byte_put, nothing_written, marking, mark_set}
use Rattle.table_pair.proofs.write.mark_copy.Goals as goal

unmade : (at : BlockPlace) (s : SiteLog) (block : List ℕ) → block ≡ content s at.unit at.block → get_or block 511 0 ≡ 0 → (copy_on s at).is_made ≡ false
unmade at s block read is = ap (λ (b : List ℕ). (copy_at b).is_made) (sym read) ∙ mark_of block ∙ ap (λ (n : ℕ). not (n == 0)) is

made : (at : BlockPlace) (s : SiteLog) (block : List ℕ) → block ≡ content s at.unit at.block → get_or block 511 0 ≢ 0 → copy_on s at ≡ marked_copy (copy_on s at)
made at s block read is =
    let mark : (copy_on s at).is_made ≡ true = ap (λ (b : List ℕ). (copy_at b).is_made) (sym read) ∙ mark_of block ∙ ap not (ne_eqb (get_or block 511 0) 0 is) in
    sym (same_mark (copy_on s at) true mark)

read_clear : (at : BlockPlace) (s : SiteLog) (block : List ℕ) → block ≡ content s at.unit at.block → (get_or block 512 0 == 0) ≡ true → (copy_on s at).is_clear ≡ true
read_clear at s block read is = ap (λ (b : List ℕ). (copy_at b).is_clear) (sym read) ∙ clear_of block ∙ is

pub returns-in_err-write_firm-clause-moments : goal.returns-in_err-write_firm-clause-moments
returns-in_err-write_firm-clause-moments g c = λ tells.
    let at = c.args.at.now in
    let s = g.S.Site.told c.args.site.now in
    let block : c.read_whole.new.into ≡ content s at.unit at.block = c.in_ok-read_whole.ensures.block tells in
    let w = c.write_firm.ensures.logged tells in
    let adds = subst (λ (r : SiteLog). Adds (write_at at 511 w.0) r (g.S.Site.told c.write_firm.new.site)) (c.read_whole.ensures.devices.log tells) w.2 in
    marking at s _ (g.met.S.Site.whole c.args.site.now at.unit at.block tells) w.0 w.1 (unmade at s c.read_whole.new.into block c.if-block-ne0.false) adds

pub returns-clause-moments : goal.returns-clause-moments
returns-clause-moments g c = λ tells.
    let at = c.args.at.now in
    let s = g.S.Site.told c.args.site.now in
    let block : c.read_whole.new.into ≡ content s at.unit at.block = c.in_ok-read_whole.ensures.block tells in
    let w = c.write_firm.ensures.logged tells in
    let adds = subst (λ (r : SiteLog). Adds (write_at at 511 w.0) r (g.S.Site.told c.write_firm.new.site)) (c.read_whole.ensures.devices.log tells) w.2 in
    marking at s _ (g.met.S.Site.whole c.args.site.now at.unit at.block tells) w.0 w.1 (unmade at s c.read_whole.new.into block c.if-block-ne0.false) adds

pub returns-clause-done : goal.returns-clause-done
returns-clause-done g c = λ tells.
    let at = c.args.at.now in
    let s = g.S.Site.told c.args.site.now in
    let adds = subst (λ (r : SiteLog). Adds (write_at at 511 (77 ∷ [])) r (g.S.Site.told c.write_firm.new.site)) (c.read_whole.ensures.devices.log tells) (c.in_ok-write_firm.ensures.ok tells) in
    mark_set at s _ (g.met.S.Site.whole c.args.site.now at.unit at.block tells) adds

pub returns-then-block-ne0-clause-done : goal.returns-then-block-ne0-clause-done
returns-then-block-ne0-clause-done g c = λ tells.
    let at = c.args.at.now in
    let s = g.S.Site.told c.args.site.now in
    let block : c.read_whole.new.into ≡ content s at.unit at.block = c.in_ok-read_whole.ensures.block tells in
    ap (λ (r : SiteLog). copy_on r at) (c.read_whole.ensures.devices.log tells) ∙ made at s c.read_whole.new.into block c.if-block-ne0.true

pub returns-clause-mark : goal.returns-clause-mark
returns-clause-mark g c = λ tells _.
    let at = c.args.at.now in
    let s = g.S.Site.told c.args.site.now in
    let whole : length (content s at.unit at.block) ≡ 16384 = (g.met.S.Site.whole c.args.site.now at.unit at.block tells) in
    let adds = subst (λ (r : SiteLog). Adds (write_at at 511 (77 ∷ [])) r (g.S.Site.told c.write_firm.new.site)) (c.read_whole.ensures.devices.log tells) (c.in_ok-write_firm.ensures.ok tells) in
    byte_put at 511 77 s _ (omega arith) adds

pub returns-then-block-ne0-clause-clear : goal.returns-then-block-ne0-clause-clear
returns-then-block-ne0-clause-clear g c = λ tells.
    let at = c.args.at.now in
    let s = g.S.Site.told c.args.site.now in
    let block : c.read_whole.new.into ≡ content s at.unit at.block = c.in_ok-read_whole.ensures.block tells in
    λ clear. read_clear at s c.read_whole.new.into block clear

pub returns-clause-clear : goal.returns-clause-clear
returns-clause-clear g c = λ tells.
    let at = c.args.at.now in
    let s = g.S.Site.told c.args.site.now in
    let block : c.read_whole.new.into ≡ content s at.unit at.block = c.in_ok-read_whole.ensures.block tells in
    λ clear. read_clear at s c.read_whole.new.into block clear

pub returns-in_err-read_whole-clause-moments : goal.returns-in_err-read_whole-clause-moments
returns-in_err-read_whole-clause-moments g c = λ tells.
    let at = c.args.at.now in
    let copy = copy_on (g.S.Site.told c.args.site.now) at in
    nothing_written at (λ now. (now ≡ copy) ⊎ (now ≡ marked_copy copy)) _ _ (c.read_whole.ensures.devices.log tells) (inl refl)

pub returns-then-block-ne0-clause-moments : goal.returns-then-block-ne0-clause-moments
returns-then-block-ne0-clause-moments g c = λ tells.
    let at = c.args.at.now in
    let copy = copy_on (g.S.Site.told c.args.site.now) at in
    nothing_written at (λ now. (now ≡ copy) ⊎ (now ≡ marked_copy copy)) _ _ (c.read_whole.ensures.devices.log tells) (inl refl)

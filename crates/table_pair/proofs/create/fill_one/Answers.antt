use Rattle.std.proofs.Common.{◌≡◌, true, false, sym, subst}
use Rattle.mss_base.specs.declared.place.BlockPlace.{BlockPlace}
use Rattle.table_pair.specs.Copies.{copy_on}
use Rattle.table_pair.proofs.CreateLemmas.{fills_at}
use Rattle.table_pair.proofs.create.fill_one.Goals as goal

pub fill_copy-requires-clause-closed : goal.fill_copy-requires-clause-closed
fill_copy-requires-clause-closed g c = λ tells. subst (λ (at : BlockPlace). (copy_on (g.S.Site.told c.args.site.now) at).is_open ≡ false) (sym c.place_of.ensures) (c.requires.closed tells)

pub fill_copy-requires-clause-clear : goal.fill_copy-requires-clause-clear
fill_copy-requires-clause-clear g c = λ tells clear. subst (λ (at : BlockPlace). (copy_on (g.S.Site.told c.args.site.now) at).is_clear ≡ true) (sym c.place_of.ensures) (c.requires.clear tells clear)

pub returns-clause-fills : goal.returns-clause-fills
returns-clause-fills g c = λ tells.
    let is = c.fill_copy.ensures in
    fills_at (record { moments = is.moments tells; done = is.done tells; mark = is.mark tells; firm = is.firm tells }) c.place_of.ensures

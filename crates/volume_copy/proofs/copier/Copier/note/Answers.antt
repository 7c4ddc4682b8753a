use Rattle.std.proofs.Common.{◌≡◌, length, None, sym, subst, ◌∙◌}
use Rattle.volume_table.specs.Listed.{row_in_list}
use Rattle.core_state.specs.IsCore.{IsGoing, opening_of}
use Rattle.volume_copy.specs.Copies.{CopyData, IsCopier, Stands}
use Rattle.volume_copy.specs.Steps.{begun_if_armed}
use Rattle.volume_copy.proofs.CopyFacts.{armed_stands}
use Rattle.volume_copy.proofs.copier.Copier.note.Goals as goal

pub returns-then-entries-self-clause-stands : goal.returns-then-entries-self-clause-stands
returns-then-entries-self-clause-stands g c = λ tl stands none.
    let kept : IsCopier c.args.self.now = subst IsCopier c.self.view_is c.self.invariant in
    let going : IsGoing (g.S.Site.told c.args.core.now.site) c.args.core.now =
    subst (λ v. v.stopped ≡ None → IsGoing (g.S.Site.told v.site) v) c.core.view_is (c.core.invariant.whole.told tl).going none in
    let begins : c.begin-then-entries-self.new.self
    ≡ begun_if_armed (row_in_list c.args.core.now.rows c.args.self.now.volume) (length c.args.core.now.history) c.args.self.now =
    c.begin-then-entries-self.ensures.begins
    ∙ (λ i. begun_if_armed ((c.row.ensures ∙ (λ j. row_in_list (c.core.view_is j).rows (c.begin.view_is j).volume)) i) (length ((c.as_slice.ensures ∙ (λ j. (c.core.view_is j).history)) i)) c.args.self.now) in
    subst (λ (new : CopyData). Stands new.state new (opening_of (g.S.Site.told c.args.core.now.site) c.args.core.now) c.args.core.now.history) (sym begins)
    (armed_stands (g.S.Site.told c.args.core.now.site) c.args.core.now going c.args.self.now kept (stands none))

use Rattle.std.proofs.Common.{◌≡◌, length, subst, ◌∙◌}
use Rattle.volume_table.specs.Listed.{row_in_list}
use Rattle.volume_copy.specs.Copies.{IsCopier}
use Rattle.volume_copy.specs.Steps.{begun_if_armed}
use Rattle.volume_copy.proofs.CopyFacts.{copied_seen, finish_seen, kept_read}
use Rattle.volume_copy.proofs.copier.Copier.finish.Goals as goal

pub invariant_of-core : goal.invariant_of-core
invariant_of-core g c =
    let reads = c.take_rest.ensures.site in
    kept_read g.S.Site.tells _ _ _ _ _ _ _ c.take_rest.new.site reads.log reads.unwritten reads.later c.core.invariant

pub invariant_of-core-2 : goal.invariant_of-core-2
invariant_of-core-2 g c =
    let reads = c.take_rest.ensures.site in
    kept_read g.S.Site.tells _ _ _ _ _ _ _ c.take_rest.new.site reads.log reads.unwritten reads.later c.core.invariant

pub returns-clause-stands : goal.returns-clause-stands
returns-clause-stands g c =
    let is : IsCopier c.args.self.now = subst IsCopier c.begin.view_is c.begin.invariant in
    let begins : c.begin-2.new.self ≡ begun_if_armed (row_in_list c.core.inside.rows c.args.self.now.volume) (length c.core.inside.session.history.items) c.args.self.now =
    c.begin-2.ensures.begins
    ∙ (λ i. begun_if_armed ((c.row.ensures ∙ (λ j. row_in_list c.core.inside.rows (c.begin.view_is j).volume)) i) (length (c.as_slice.ensures i)) c.args.self.now) in
    finish_seen g.S.Site _ _ c.core.view_is c.core.invariant c.take_rest.new.site c.take_rest.ensures.site c.args.self.now _ c.take_rest.new.self is begins c.in_ok-take_rest.ensures.rest

pub returns-clause-copied : goal.returns-clause-copied
returns-clause-copied g c =
    let is : IsCopier c.args.self.now = subst IsCopier c.begin.view_is c.begin.invariant in
    let begins : c.begin-2.new.self ≡ begun_if_armed (row_in_list c.core.inside.rows c.args.self.now.volume) (length c.core.inside.session.history.items) c.args.self.now =
    c.begin-2.ensures.begins
    ∙ (λ i. begun_if_armed ((c.row.ensures ∙ (λ j. row_in_list c.core.inside.rows (c.begin.view_is j).volume)) i) (length (c.as_slice.ensures i)) c.args.self.now) in
    copied_seen g.S.Site _ _ c.core.view_is c.core.invariant c.take_rest.new.site c.take_rest.ensures.site c.args.self.now _ c.take_rest.new.self is begins c.in_ok-take_rest.ensures.rest

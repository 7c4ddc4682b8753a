use Rattle.std.proofs.Common.{◌≡◌, true, false, sym, ap, ◌∙◌, arith}
use Rattle.mss_base.specs.Content.{SiteLog, content}
use Rattle.volume_table.specs.Listed.{row_in_list}
use Rattle.shown_volumes.specs.Shown.{shown_by}
use Rattle.table_pair.proofs.SiteLemmas.{reads_then}
use Rattle.volume_copy.proofs.StepFacts.{rests_all, rests_end, rests_once}
use Rattle.volume_copy.proofs.copier.Copier.take_rest.Goals as goal

pub returns-then-not-is_taking-clause-rest : goal.returns-then-not-is_taking-clause-rest
returns-then-not-is_taking-clause-rest g c =
    rests_end _ _ _ _ _ _ _ (λ is. let e : true ≡ false = sym (c.is_taking.ensures.taking.1 is) ∙ c.if-not-is_taking.true in absurd cc) c.loop-number.invariant.rests_

pub loop-number-preserved : goal.loop-number-preserved
loop-number-preserved g c = record {
  site_ = reads_then g.S.Site _ _ _ c.loop-number.invariant.site_ c.take_once.ensures.site;
  rests_ = rests_once _ _ _ _ _ _ _ _ (λ tl. ap (λ (t : SiteLog). shown_by (row_in_list c.args.rows.now) (content t)) (c.loop-number.invariant.site_.log tl)) _ _
      (c.is_taking.ensures.taking.0 c.if-not-is_taking.false) c.in_ok-take_once.ensures.takes c.loop-number.invariant.rests_;
}

pub returns-clause-rest : goal.returns-clause-rest
returns-clause-rest g c =
    rests_all _ _ _ _ _ _ _ c.is_taking-taking.ensures.kept (let below = c.loop-number-test.false in let most = c.loop-number.auto.number-end in omega (arith, below, most)) c.loop-number.invariant.rests_

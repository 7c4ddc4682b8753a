use Rattle.mss_base.specs.Content.{content}
use Rattle.mss_base.specs.Sites.{OnlyReads}
use Rattle.volume_table.specs.Listed.{row_in_list}
use Rattle.shown_volumes.specs.Shown.{shown_by}
use Rattle.volume_copy.proofs.StepFacts.{Rests}
use Rattle.volume_copy.proofs.copier.Copier.take_rest.Given as goal

abbrev pub invariant-loop-number : goal.invariant-loop-number
invariant-loop-number g l = record {
  site_ : OnlyReads g.S.Site l.fn.site l.site;
  rests_ : Rests g.S.Site.tells (shown_by (row_in_list l.rows) (content (g.S.Site.told l.fn.site))) (g.S.Site.faults l.fn.site) (g.S.Site.faults l.site) l.fn.self l.self l.number;
}

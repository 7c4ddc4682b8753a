use Rattle.std.proofs.Common.{◌<◌, List, Some, sym, ◌∙◌, ap, rules}
use Rattle.std.specs.Prelude.{is_some}
use Rattle.core_state.specs.Chains.{worked}
use Rattle.ckd_plain.specs.History.{EntryData}
use Rattle.core_state.specs.CoreValue.{CoreData, seen_core}
use Rattle.volume_copy.specs.Beside.{asked_copy}
use Rattle.mss_run.specs.Led.{IsEventOf}
use Rattle.mss_run.proofs.AnswerFacts.{opens_still}
use Rattle.mss_run.proofs.LedFacts.{at_once, work_any}
use Rattle.mss_run.proofs.booked.BookedCore.work.Goals as goal

pub invariant_of-self : goal.invariant_of-self
invariant_of-self g c =
    let before = c.self.inside.copied.core in
    let after = c.work_step.new.copied.core in
    let old : CoreData = seen_core g.S.Site before in
    let new : CoreData = seen_core g.S.Site after in
    let within : c.args.recorder < old.config.recorders = search rules in
    record {
      made = c.self.invariant.made;
      book_ = c.self.invariant.book_ ∙ ap (λ (l : List EntryData). Some record { list = l; made = c.self.invariant.made }) (sym c.work_step.ensures.history);
      opens = opens_still g.N.Opening.opening g.N.Setup.setup g.S.Site.tells (g.S.Site.never_fails_but before.site) (g.S.Site.never_fails_but after.site) old new c.self.invariant.opens
          c.entries_beside-before.ensures.began c.work_step.ensures.later c.work_step.ensures.sound c.work_step.ensures.only_reads_fail
          (worked c.args.recorder c.work_step.result)
          (at_once (is_some g.N.Setup.setup.copy) g.S.Site.tells old (λ (read : CoreData). IsEventOf g.S.Site.tells read (worked c.args.recorder c.work_step.result) new)
          (within, work_any g.S.Site.tells (g.C.Choose.may before.chooser) old c.args.recorder new c.work_step.result c.work_step.ensures.event));
      copy = ap asked_copy c.work_step.ensures.copier ∙ c.self.invariant.copy;
    }

use Rattle.std.specs.Prelude.{is_some}
use Rattle.volume_copy.specs.Beside.{asked_copy}
use Rattle.std.proofs.Common.{List, length, inr, sym, ◌∙◌, ap, subst}
use Rattle.std.proofs.lemmas.List.Elements.{All-nil}
use Rattle.ckd_plain.specs.History.{EntryData, IsLegal}
use Rattle.core_state.specs.CoreValue.{CoreValue, seen_core}
use Rattle.core_state.specs.IsCore.{opening_of}
use Rattle.job_text.specs.Jobs.{JobData}
use Rattle.seen_book.specs.Books.{AreOfThese, IsOfOne}
use Rattle.mss_run.specs.Runs.{LeavesRun, hosts_of, run_answer}
use Rattle.mss_run.proofs.LedFacts.{leads_none}
use Rattle.mss_run.proofs.RunFacts.{asks_nothing}
use Rattle.mss_run.proofs.run.without_ends.Goals as goal

pub returns-clause-leaves : goal.returns-clause-leaves
returns-clause-leaves g c =
    let core = c.args.core in
    let job = c.args.job.now in
    let none = c.requires.empty in
    let scripts = c.as_slice-scripts.ensures ∙ ap (λ (j : JobData). j.hosts) c.job.view_is in
    let ends = c.as_slice-none.ensures in
    subst (λ (after : CoreValue g.row.S.Denot g.row.C.Denot). LeavesRun g.S.Site job (is_some (asked_copy c.args.copier)) core after c.new-ends.result.items c.answer_of-answer.result) (sym (c.into_parts-core.ensures.core ∙ c.new.ensures.core))
    (record {
      led = leads_none g.S.Site.tells (is_some (asked_copy c.args.copier)) (seen_core g.S.Site core);
      sound = λ but never. never;
      only_reads_fail = λ but never going. going;
      legal = λ tells. subst (λ (log : List EntryData). IsLegal (opening_of (g.S.Site.told core.site) core) log) (sym none) tt;
      hosts = subst (λ (log : List EntryData). AreOfThese (hosts_of job.hosts) log) (sym none) (All-nil (IsOfOne (hosts_of job.hosts)));
      ends_ = inr (c.new-ends.ensures, none);
      follow = asks_nothing core.history job.hosts none;
      answer_ = c.answer_of-answer.ensures ∙ (λ i. run_answer core.stopped (length core.history) (ap length scripts i) (ends i));
    })

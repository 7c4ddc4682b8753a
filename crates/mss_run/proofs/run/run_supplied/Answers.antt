use Rattle.std.proofs.Common.{◌≡◌, ◌≤◌, ℕ, List, length, nat_eq, inl, sym, ◌∙◌, ap, subst, arith}
use Rattle.std.specs.Prelude.{Bool, is_some}
use Rattle.std.specs.List.{IsDistinct}
use Rattle.core_state.specs.CoreValue.{CoreData, seen_core}
use Rattle.job_text.specs.Jobs.{ScriptData, JobData}
use Rattle.seen_book.specs.Books.{AreOfThese}
use Rattle.mss_run.specs.Led.{LeadsTo}
use Rattle.mss_run.specs.Runs.{AreEndsIn, AskByScript, hosts_of, run_answer}
use Rattle.mss_run.proofs.AnswerFacts.{legal_since}
use Rattle.mss_run.proofs.RunFacts.{asks_whole, ends_whole}
use Rattle.mss_run.proofs.run.run_supplied.Goals as goal

pub make_passes-book-requires-clause-differ : goal.make_passes-book-requires-clause-differ
make_passes-book-requires-clause-differ g c =
    subst (IsDistinct nat_eq) (ap (λ (j : JobData). hosts_of j.hosts) c.job.view_is ∙ sym c.requires.hosts) c.job.invariant.hosts_differ

pub make_passes-book-requires-clause-room : goal.make_passes-book-requires-clause-room
make_passes-book-requires-clause-room g c =
    let same = c.as_slice-scripts.ensures ∙ ap (λ (j : JobData). j.hosts) c.job.view_is in
    subst (λ (ss : List ScriptData). length ss ≤ c.args.taken.passes.spare) (sym same) c.requires.passes.room

pub run_all-passes-requires-clause-room : goal.run_all-passes-requires-clause-room
run_all-passes-requires-clause-room g c =
    let same = c.as_slice-scripts.ensures ∙ ap (λ (j : JobData). j.hosts) c.job.view_is in
    let long : length c.make_passes-book.result.1.items ≡ length c.args.job.now.hosts = c.make_passes-book.ensures.count ∙ ap length same in
    let room : length c.args.job.now.hosts ≤ c.args.taken.ends.spare = c.requires.ends.room in
    omega (arith, long, room)

pub returns-clause-leaves : goal.returns-clause-leaves
returns-clause-leaves g c =
    let old : CoreData = seen_core g.S.Site c.args.core in
    let closed = c.close-core in
    let new : CoreData = seen_core g.S.Site closed.result.0 in
    let log = closed.result.0.history in
    let ended = c.run_all-passes.result in
    let job = c.args.job.now in
    let scripts = c.as_slice-scripts.ensures ∙ ap (λ (j : JobData). j.hosts) c.job.view_is in
    record {
      led = subst (λ (x : CoreData × Bool). LeadsTo g.S.Site.tells x.1 x.0 new) (λ i. (c.requires.began i, is_some (sym c.requires.copy i))) closed.ensures.opening.led;
      sound = λ but none. closed.ensures.opening.sound but (c.requires.sound but none);
      only_reads_fail = λ but none going. closed.ensures.opening.only_reads_fail but (c.requires.sound but none) (ap (λ (x : CoreData). x.stopped) c.requires.began ∙ going);
      legal = legal_since g.N.Opening.opening g.N.Setup.setup g.S.Site.tells (g.S.Site.never_fails_but c.args.core.site) old c.requires.opening log closed.ensures.legal;
      hosts = subst (λ (hosts : List ℕ). AreOfThese hosts log) c.requires.hosts closed.ensures.hosts;
      ends_ = inl (subst (λ (ss : List ScriptData). AreEndsIn log ss ended.1.items) scripts
          (ends_whole log c.as_slice-scripts.result.now ended.0.items ended.1.items c.run_all-passes.ensures closed.ensures.passes));
      follow = subst (AskByScript log) scripts (asks_whole log c.as_slice-scripts.result.now ended.0.items ended.1.items c.run_all-passes.ensures closed.ensures.passes);
      answer_ = c.answer_of-answer.ensures ∙ (λ i. run_answer new.stopped (length log) (ap length scripts i) (c.as_slice.ensures i));
    }

use Rattle.std.proofs.Common.{◌≡◌, ℕ, Bool, List, Some, sym, ◌∙◌, ap, subst}
use Rattle.std.specs.Prelude.{is_some}
use Rattle.channel_commands.specs.Data.{CallData}
use Rattle.channel_commands.specs.Views.{call_of}
use Rattle.ckd_plain.specs.History.{EntryData}
use Rattle.core_state.specs.Chains.{Reading, Step, called}
use Rattle.core_state.specs.CoreValue.{CoreData, CoreValue, seen_core}
use Rattle.host_events.specs.Answers.{told_of}
use Rattle.seen_book.specs.Openings.{IsLegalFrom}
use Rattle.mss_run.specs.Led.{IsEventOf}
use Rattle.mss_run.proofs.AnswerFacts.{opens_still, legal_from}
use Rattle.mss_run.proofs.booked.BookedCore.command.Goals as goal

pub told-book-requires-clause-legal : goal.told-book-requires-clause-legal
told-book-requires-clause-legal g c =
    let opening = g.N.Opening.opening in
    let before = c.self.inside.copied.core in
    let after = c.host_step-answer.new.copied.core in
    let tells = g.S.Site.tells in
    let old : CoreData = seen_core g.S.Site before in
    let new : CoreData = seen_core g.S.Site after in
    let step : Step = called c.host-host.result (call_of c.args.call.now) (told_of c.host_step-answer.result.0) in
    let event : Reading (is_some g.N.Setup.setup.copy) tells old (λ (read : CoreData). IsEventOf tells read step new) =
    subst (λ (b : Bool). Reading b tells old (λ (read : CoreData). IsEventOf tells read step new)) (ap is_some c.self.invariant.copy) c.host_step-answer.ensures.event in
    let opens = opens_still opening g.N.Setup.setup tells (g.S.Site.never_fails_but before.site) (g.S.Site.never_fails_but after.site) old new c.self.invariant.opens
    c.entries_beside-before.ensures.began c.host_step-answer.ensures.later c.host_step-answer.ensures.sound c.host_step-answer.ensures.only_reads_fail step event in
    let same : c.as_slice-history.result.now ≡ after.history = c.as_slice-history.ensures ∙ c.history.ensures ∙ ap (λ (v : CoreValue g.row.S.Denot g.row.C.Denot). v.history) c.core.ensures in
    subst (IsLegalFrom opening) (sym same)
    (legal_from opening g.N.Setup.setup tells (g.S.Site.never_fails_but after.site) new opens c.entries_beside-after.ensures.legal)

pub invariant_of-self : goal.invariant_of-self
invariant_of-self g c =
    let opening = g.N.Opening.opening in
    let before = c.self.inside.copied.core in
    let after = c.host_step-answer.new.copied.core in
    let tells = g.S.Site.tells in
    let old : CoreData = seen_core g.S.Site before in
    let new : CoreData = seen_core g.S.Site after in
    let step : Step = called c.host-host.result (call_of c.args.call.now) (told_of c.host_step-answer.result.0) in
    let event : Reading (is_some g.N.Setup.setup.copy) tells old (λ (read : CoreData). IsEventOf tells read step new) =
    subst (λ (b : Bool). Reading b tells old (λ (read : CoreData). IsEventOf tells read step new)) (ap is_some c.self.invariant.copy) c.host_step-answer.ensures.event in
    let same : c.as_slice-history.result.now ≡ after.history = c.as_slice-history.ensures ∙ c.history.ensures ∙ ap (λ (v : CoreValue g.row.S.Denot g.row.C.Denot). v.history) c.core.ensures in
    record {
      made = c.in-Some.book.made;
      book_ = ap Some (c.told-book.ensures.book ∙ ap (λ (l : List EntryData). record { list = l; made = c.in-Some.book.made }) same);
      opens = opens_still opening g.N.Setup.setup tells (g.S.Site.never_fails_but before.site) (g.S.Site.never_fails_but after.site) old new c.self.invariant.opens
          c.entries_beside-before.ensures.began c.host_step-answer.ensures.later c.host_step-answer.ensures.sound c.host_step-answer.ensures.only_reads_fail step event;
      copy = c.host_step-answer.ensures.copier ∙ c.self.invariant.copy;
    }

use Rattle.std.proofs.Common.{◌∙◌, subst}
use Rattle.core_state.specs.CoreValue.{CoreData, seen_core}
use Rattle.core_state.specs.declared.rule.WorkAnswer.{WorkAnswer}
use Rattle.core_state.specs.declared.rule.WorkAnswer.TheVariants.{Idle}
use Rattle.host_events.proofs.RuleFacts.{core_seen}
use Rattle.work_events.specs.WorkLaws.{AnswerSays, IsRecorder}
use Rattle.quiet_events.proofs.OtherDevices.{same_work}
use Rattle.mss_run.proofs.event.work_step.Goals as goal

pub returns-clause-history : goal.returns-clause-history
returns-clause-history g c =
    let old : CoreData = seen_core g.S.Site c.args.copied.now.core in
    let new : CoreData = seen_core g.S.Site c.work_event.new.self.core in
    (c.work_leaves_the_history.ensures c.args.copied.now.core.chooser old c.args.recorder c.work_event.result new c.work_event.ensures.event).history

pub returns-clause-later : goal.returns-clause-later
returns-clause-later g c =
    let old : CoreData = seen_core g.S.Site c.args.copied.now.core in
    let new : CoreData = seen_core g.S.Site c.work_event.new.self.core in
    let is : IsRecorder old c.args.recorder =
    record { there = c.requires; kept = λ none. core_seen g.S.Site c.args.copied.now.core (c.entries_beside-before.ensures.kept none) } in
    c.work_is_later.ensures c.args.copied.now.core.chooser old c.args.recorder c.work_event.result new is c.work_event.ensures.event

pub returns-clause-idle : goal.returns-clause-idle
returns-clause-idle g c = λ idle.
    let old : CoreData = seen_core g.S.Site c.args.copied.now.core in
    let new : CoreData = seen_core g.S.Site c.work_event.new.self.core in
    let is : IsRecorder old c.args.recorder =
    record { there = c.requires; kept = λ none. core_seen g.S.Site c.args.copied.now.core (c.entries_beside-before.ensures.kept none) } in
    let says : AnswerSays g.S.Site.tells old c.args.recorder Idle new =
    subst (λ (a : WorkAnswer). AnswerSays g.S.Site.tells old c.args.recorder a new) idle (c.answers_have_their_causes.ensures.answer c.args.copied.now.core.chooser old c.args.recorder c.work_event.result new is c.work_event.ensures.event) in
    says.1

pub returns-clause-sound : goal.returns-clause-sound
returns-clause-sound g c = c.work_event.ensures.devices.sound

pub returns-clause-only_reads_fail : goal.returns-clause-only_reads_fail
returns-clause-only_reads_fail g c = λ but never going. c.work_event.ensures.only_reads_fail but never ∙ going

pub returns-clause-rests : goal.returns-clause-rests
returns-clause-rests g c = λ idle.
    let old : CoreData = seen_core g.S.Site c.args.copied.now.core in
    let new : CoreData = seen_core g.S.Site c.work_event.new.self.core in
    let is : IsRecorder old c.args.recorder =
    record { there = c.requires; kept = λ none. core_seen g.S.Site c.args.copied.now.core (c.entries_beside-before.ensures.kept none) } in
    let says : AnswerSays g.S.Site.tells old c.args.recorder Idle new =
    subst (λ (a : WorkAnswer). AnswerSays g.S.Site.tells old c.args.recorder a new) idle (c.answers_have_their_causes.ensures.answer c.args.copied.now.core.chooser old c.args.recorder c.work_event.result new is c.work_event.ensures.event) in
    same_work g.S.Site.tells old new says.1 c.args.recorder says.0

pub returns-clause-alone : goal.returns-clause-alone
returns-clause-alone g c =
    let old : CoreData = seen_core g.S.Site c.args.copied.now.core in
    let new : CoreData = seen_core g.S.Site c.work_event.new.self.core in
    let is : IsRecorder old c.args.recorder =
    record { there = c.requires; kept = λ none. core_seen g.S.Site c.args.copied.now.core (c.entries_beside-before.ensures.kept none) } in
    c.own_work_gives_others_nothing.ensures c.args.copied.now.core.chooser old c.args.recorder c.work_event.result new is c.work_event.ensures.event

use Rattle.std.proofs.Common.{◌∙◌, refl, sym}
use Rattle.channel_commands.specs.Views.{call_of}
use Rattle.core_state.specs.declared.rule.HostRule.TheVariants.{IsStopped, IsFull, IsBusy, IsMoving, IsHeld, Responds, HasFailed, HasNoSpace, Faults, Marks, Runs}
use Rattle.host_events.specs.Answers.{told_of}
use Rattle.host_events.proofs.RuleFacts.{event_by}
use Rattle.host_events.proofs.GoingRules.{goes_by}
use Rattle.host_events.proofs.event.host_event.Goals as goal

pub returns-in-IsStopped-clause-event : goal.returns-in-IsStopped-clause-event
returns-in-IsStopped-clause-event g c =
    let now = c.args.core.now in
    event_by g.S.Site now c.args.host (call_of c.args.call.now) _ _ (IsStopped c.in-IsStopped.fault) (sym c.host_rule.ensures ∙ c.in-IsStopped.is) (refl, (record { told = λ tl. refl; unwritten = refl; sound = refl }, refl))

pub returns-in-IsFull-clause-event : goal.returns-in-IsFull-clause-event
returns-in-IsFull-clause-event g c =
    let now = c.args.core.now in
    event_by g.S.Site now c.args.host (call_of c.args.call.now) _ _ IsFull (sym c.host_rule.ensures ∙ c.in-IsFull.is) (refl, (record { told = λ tl. refl; unwritten = refl; sound = refl }, refl))

pub returns-in-IsBusy-clause-event : goal.returns-in-IsBusy-clause-event
returns-in-IsBusy-clause-event g c =
    let now = c.args.core.now in
    event_by g.S.Site now c.args.host (call_of c.args.call.now) _ _ (IsBusy c.in-IsBusy.owner) (sym c.host_rule.ensures ∙ c.in-IsBusy.is) (refl, (record { told = λ tl. refl; unwritten = refl; sound = refl }, refl))

pub returns-in-IsMoving-clause-event : goal.returns-in-IsMoving-clause-event
returns-in-IsMoving-clause-event g c =
    let now = c.args.core.now in
    event_by g.S.Site now c.args.host (call_of c.args.call.now) _ _ (IsMoving c.in-IsMoving.cylinder) (sym c.host_rule.ensures ∙ c.in-IsMoving.is) (refl, (record { told = λ tl. refl; unwritten = refl; sound = refl }, refl))

pub returns-in-IsHeld-clause-event : goal.returns-in-IsHeld-clause-event
returns-in-IsHeld-clause-event g c =
    let now = c.args.core.now in
    event_by g.S.Site now c.args.host (call_of c.args.call.now) (told_of c.hold.result) _ (IsHeld c.in-IsHeld.frame) (sym c.host_rule.ensures ∙ c.in-IsHeld.is) (c.hold.ensures.event (call_of c.args.call.now) (sym c.host_rule.ensures ∙ c.in-IsHeld.is))

pub returns-in-Responds-clause-event : goal.returns-in-Responds-clause-event
returns-in-Responds-clause-event g c =
    let now = c.args.core.now in
    event_by g.S.Site now c.args.host (call_of c.args.call.now) (told_of c.reply_plainly.result) _ Responds (sym c.host_rule.ensures ∙ c.in-Responds.is) c.reply_plainly.ensures.event

pub returns-in-HasFailed-clause-event : goal.returns-in-HasFailed-clause-event
returns-in-HasFailed-clause-event g c =
    let now = c.args.core.now in
    event_by g.S.Site now c.args.host (call_of c.args.call.now) (told_of c.fail.result) _ (HasFailed c.in-HasFailed.fault) (sym c.host_rule.ensures ∙ c.in-HasFailed.is) c.fail.ensures.event

pub returns-in-HasNoSpace-clause-event : goal.returns-in-HasNoSpace-clause-event
returns-in-HasNoSpace-clause-event g c =
    let now = c.args.core.now in
    event_by g.S.Site now c.args.host (call_of c.args.call.now) (told_of c.refuse_space.result) _ HasNoSpace (sym c.host_rule.ensures ∙ c.in-HasNoSpace.is) c.refuse_space.ensures.event

pub returns-in-Faults-clause-event : goal.returns-in-Faults-clause-event
returns-in-Faults-clause-event g c =
    let now = c.args.core.now in
    event_by g.S.Site now c.args.host (call_of c.args.call.now) (told_of c.ask.result) _ (Faults c.in-Faults.volume c.in-Faults.cylinder) (sym c.host_rule.ensures ∙ c.in-Faults.is) (c.ask.ensures.event (call_of c.args.call.now) (sym c.host_rule.ensures ∙ c.in-Faults.is))

pub returns-in-Marks-clause-event : goal.returns-in-Marks-clause-event
returns-in-Marks-clause-event g c =
    let now = c.args.core.now in
    event_by g.S.Site now c.args.host (call_of c.args.call.now) (told_of c.mark.result) _ (Marks c.in-Marks.volume c.in-Marks.cylinder) (sym c.host_rule.ensures ∙ c.in-Marks.is) c.mark.ensures.event

pub returns-in-Runs-clause-event : goal.returns-in-Runs-clause-event
returns-in-Runs-clause-event g c =
    let now = c.args.core.now in
    event_by g.S.Site now c.args.host (call_of c.args.call.now) (told_of c.run_on_frame.result) _ (Runs c.in-Runs.command c.in-Runs.volume c.in-Runs.frame) (sym c.host_rule.ensures ∙ c.in-Runs.is) c.run_on_frame.ensures.event

pub returns-in-IsStopped-clause-only_reads_fail : goal.returns-in-IsStopped-clause-only_reads_fail
returns-in-IsStopped-clause-only_reads_fail g c = λ but sound going. goes_by c.args.core.now c.args.host (call_of c.args.call.now) going c.in-IsStopped.fault (sym c.host_rule.ensures ∙ c.in-IsStopped.is)

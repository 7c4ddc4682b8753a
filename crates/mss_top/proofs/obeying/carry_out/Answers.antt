use Rattle.std.proofs.Common.{◌≡◌, inr, Option, Some, refl, sym, ◌∙◌, ap, subst, arith}
use Rattle.command_words.specs.declared.command.Command.{Command}
use Rattle.command_words.specs.declared.command.Command.TheVariants.{Show, Compare}
use Rattle.core_state.specs.CoreValue.{seen_site}
use Rattle.job_runs.specs.Parties.{devices}
use Rattle.session_report.specs.Parties.{sink_between, source_between}
use Rattle.mss_top.specs.Obeying.{Does, OutputBrokeOff, Parties, parties}
use Rattle.mss_top.specs.Showing.{LooksByOneCopy}
use Rattle.victim_rules.specs.Closures.{NarrowMay}
use Rattle.mss_top.proofs.obeying.carry_out.Goals as goal

pub returns-in-Serial-clause-does : goal.returns-in-Serial-clause-does
returns-in-Serial-clause-does g c =
    let p : Parties = parties (source_between g.I.Source c.args.input.now c.run_with.new.input) (devices g.S.Site c.args.site c.run_with.result.site) (sink_between g.O.Sink c.args.output.now c.run_with.new.output) in
    subst (λ (k : Command). Does (Some k) (g.C.Choose.may c.args.chooser) (NarrowMay g.F.Fn c.args.other) p c.run_with.result.status c.run_with.result.session) (sym c.in-Serial.is) c.run_with.ensures.ended

pub returns-in-Serial-clause-unread : goal.returns-in-Serial-clause-unread
returns-in-Serial-clause-unread g c = λ stop.
    let p : Parties = parties (source_between g.I.Source c.args.input.now c.run_with.new.input) (devices g.S.Site c.args.site c.run_with.result.site) (sink_between g.O.Sink c.args.output.now c.run_with.new.output) in
    subst (λ (k : Command). OutputBrokeOff g.S.Site c.args.site (Some k) p c.run_with.result.session) (sym c.in-Serial.is) (c.run_with.ensures.unread stop)

pub returns-in-Serial-clause-one_copy : goal.returns-in-Serial-clause-one_copy
returns-in-Serial-clause-one_copy g c = λ looks. absurd (let e : ◌≡◌ {A = Option Command} (Some _) (Some Show) = sym (ap (λ (k : Command). Some k) c.in-Serial.is) ∙ looks.command in cc)

pub returns-in-Policy-clause-does : goal.returns-in-Policy-clause-does
returns-in-Policy-clause-does g c =
    let ran = c.policy in
    let p : Parties = parties (source_between g.I.Source c.args.input.now ran.new.input) (devices g.S.Site c.args.site ran.result.site) (sink_between g.O.Sink c.args.output.now ran.new.output) in
    subst (λ (k : Command). Does (Some k) (g.C.Choose.may c.args.chooser) (NarrowMay g.F.Fn c.args.other) p ran.result.status ran.result.session) (sym c.in-Policy.is) ran.ensures.ended

pub returns-in-Policy-clause-unread : goal.returns-in-Policy-clause-unread
returns-in-Policy-clause-unread g c = λ stop.
    let ran = c.policy in
    let p : Parties = parties (source_between g.I.Source c.args.input.now ran.new.input) (devices g.S.Site c.args.site ran.result.site) (sink_between g.O.Sink c.args.output.now ran.new.output) in
    subst (λ (k : Command). OutputBrokeOff g.S.Site c.args.site (Some k) p ran.result.session) (sym c.in-Policy.is) (ran.ensures.unread stop)

pub returns-in-Policy-clause-one_copy : goal.returns-in-Policy-clause-one_copy
returns-in-Policy-clause-one_copy g c = λ looks. absurd (let e : ◌≡◌ {A = Option Command} (Some _) (Some Show) = sym (ap (λ (k : Command). Some k) c.in-Policy.is) ∙ looks.command in cc)

pub returns-in-Threads-clause-does : goal.returns-in-Threads-clause-does
returns-in-Threads-clause-does g c =
    let ran = c.run_threads in
    let p : Parties = parties (source_between g.I.Source c.args.input.now ran.new.input) (devices g.S.Site c.args.site ran.result.run.site) (sink_between g.O.Sink c.args.output.now ran.new.output) in
    subst (λ (k : Command). Does (Some k) (g.C.Choose.may c.args.chooser) (NarrowMay g.F.Fn c.args.other) p ran.result.run.status ran.result.run.session) (sym c.in-Threads.is) (ran.result.hosts.items, ran.ensures.ended)

pub returns-in-Threads-clause-unread : goal.returns-in-Threads-clause-unread
returns-in-Threads-clause-unread g c = λ stop.
    let ran = c.run_threads in
    let p : Parties = parties (source_between g.I.Source c.args.input.now ran.new.input) (devices g.S.Site c.args.site ran.result.run.site) (sink_between g.O.Sink c.args.output.now ran.new.output) in
    subst (λ (k : Command). OutputBrokeOff g.S.Site c.args.site (Some k) p ran.result.run.session) (sym c.in-Threads.is) (ran.ensures.unread stop)

pub returns-in-Threads-clause-one_copy : goal.returns-in-Threads-clause-one_copy
returns-in-Threads-clause-one_copy g c = λ looks. absurd (let e : ◌≡◌ {A = Option Command} (Some _) (Some Show) = sym (ap (λ (k : Command). Some k) c.in-Threads.is) ∙ looks.command in cc)

pub returns-in-Show-clause-does : goal.returns-in-Show-clause-does
returns-in-Show-clause-does g c =
    let p : Parties = parties (source_between g.I.Source c.args.input.now c.args.input.now) (devices g.S.Site c.args.site c.list_site.result.site) (sink_between g.O.Sink c.args.output.now c.list_site.new.output) in
    subst (λ (k : Command). Does (Some k) (g.C.Choose.may c.args.chooser) (NarrowMay g.F.Fn c.args.other) p c.list_site.result.status c.list_site.result.session) (sym c.in-Show.is) c.list_site.ensures.ended

pub returns-in-Show-clause-unread : goal.returns-in-Show-clause-unread
returns-in-Show-clause-unread g c = λ stop.
    let p : Parties = parties (source_between g.I.Source c.args.input.now c.args.input.now) (devices g.S.Site c.args.site c.list_site.result.site) (sink_between g.O.Sink c.args.output.now c.list_site.new.output) in
    subst (λ (k : Command). OutputBrokeOff g.S.Site c.args.site (Some k) p c.list_site.result.session) (sym c.in-Show.is) (c.list_site.ensures.unread stop)

pub returns-in-Show-clause-one_copy : goal.returns-in-Show-clause-one_copy
returns-in-Show-clause-one_copy g c = λ looks.
    c.list_site.ensures.one_copy (subst (λ (k : Command). LooksByOneCopy (Some k) g.S.Site c.args.site (sink_between g.O.Sink c.args.output.now c.list_site.new.output)) c.in-Show.is looks)

pub returns-in-Show-clause-devices : goal.returns-in-Show-clause-devices
returns-in-Show-clause-devices g c = record {
  written = omega (arith, c.list_site.ensures.site.unwritten);
  later = c.list_site.ensures.site.later;
  sound = c.list_site.ensures.site.sound;
}

pub returns-in-Audit-clause-does : goal.returns-in-Audit-clause-does
returns-in-Audit-clause-does g c =
    let ran = c.audit_for in
    let p : Parties = parties (source_between g.I.Source c.args.input.now c.args.input.now) (devices g.S.Site c.args.site ran.result.site) (sink_between g.O.Sink c.args.output.now ran.new.output) in
    subst (λ (k : Command). Does (Some k) (g.C.Choose.may c.args.chooser) (NarrowMay g.F.Fn c.args.other) p ran.result.status ran.result.session) (sym c.in-Audit.is)
    (inr (record { frames = c.in-Audit.frames; command = refl; audits = ran.ensures.ended }))

pub returns-in-Audit-clause-unread : goal.returns-in-Audit-clause-unread
returns-in-Audit-clause-unread g c = λ stop.
    let ran = c.audit_for in
    let p : Parties = parties (source_between g.I.Source c.args.input.now c.args.input.now) (devices g.S.Site c.args.site ran.result.site) (sink_between g.O.Sink c.args.output.now ran.new.output) in
    subst (λ (k : Command). OutputBrokeOff g.S.Site c.args.site (Some k) p ran.result.session) (sym c.in-Audit.is) (ran.ensures.unread stop)

pub returns-in-Audit-clause-one_copy : goal.returns-in-Audit-clause-one_copy
returns-in-Audit-clause-one_copy g c = λ looks. absurd (let e : ◌≡◌ {A = Option Command} (Some _) (Some Show) = sym (ap (λ (k : Command). Some k) c.in-Audit.is) ∙ looks.command in cc)

pub returns-in-Audit-clause-devices : goal.returns-in-Audit-clause-devices
returns-in-Audit-clause-devices g c = record {
  written = omega (arith, c.audit_for.ensures.site.unwritten);
  later = c.audit_for.ensures.site.later;
  sound = c.audit_for.ensures.site.sound;
}

pub returns-in-Compare-clause-does : goal.returns-in-Compare-clause-does
returns-in-Compare-clause-does g c =
    let ran = c.compare_beside in
    let p : Parties = parties (source_between g.I.Source c.args.input.now ran.new.input) (devices g.S.Site c.args.site ran.result.site) (sink_between g.O.Sink c.args.output.now ran.new.output) in
    subst (λ (k : Command). Does (Some k) (g.C.Choose.may c.args.chooser) (NarrowMay g.F.Fn c.args.other) p ran.result.status ran.result.session) (sym c.in-Compare.is)
    (ran.ensures.ended, ap (seen_site g.S.Site) ran.ensures.site, ran.ensures.session)

pub returns-in-Compare-clause-unread : goal.returns-in-Compare-clause-unread
returns-in-Compare-clause-unread g c = λ stop. absurd (c.compare_beside.ensures.going stop)

pub returns-in-Compare-clause-one_copy : goal.returns-in-Compare-clause-one_copy
returns-in-Compare-clause-one_copy g c = λ looks. absurd (let e : ◌≡◌ {A = Option Command} (Some Compare) (Some Show) = sym (ap (λ (k : Command). Some k) c.in-Compare.is) ∙ looks.command in cc)

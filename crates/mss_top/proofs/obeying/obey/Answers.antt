use Rattle.std.proofs.Common.{rules, ◌≡◌, Option, Some, map, string_bytes, sym, subst}
use Rattle.mss_base.specs.Content.{content}
use Rattle.command_words.specs.Words.{meaning}
use Rattle.command_words.specs.declared.command.Command.{Command}
use Rattle.command_words.specs.declared.command.Command.TheVariants.{Show, Audit}
use Rattle.job_runs.specs.Parties.{devices}
use Rattle.session_report.specs.Parties.{sink_between, source_between}
use Rattle.mss_top.specs.Obeying.{Does, OutputBrokeOff, Parties, parties}
use Rattle.mss_top.specs.Showing.{LooksByOneCopy}
use Rattle.mss_top.proofs.Broken.{line_unstopped}
use Rattle.mss_top.proofs.Obeyed.{refused_does, refused_exactly, whole_of}
use Rattle.mss_top.proofs.OneLook.{line_by_one}
use Rattle.victim_rules.specs.Closures.{NarrowMay}
use Rattle.mss_top.proofs.obeying.obey.Goals as goal

pub returns-in-Ok-clause-does : goal.returns-in-Ok-clause-does
returns-in-Ok-clause-does g c =
    let did = c.carry_out in
    let p : Parties = parties (source_between g.I.Source c.args.input.now did.new.input) (devices g.S.Site c.args.site did.result.site) (sink_between g.O.Sink c.args.output.now did.new.output) in
    subst (λ (asked : Option Command). Does asked (g.C.Choose.may c.args.chooser) (NarrowMay g.F.Fn c.args.other) p did.result.status did.result.session) (sym c.in-Ok.ensures.asks) did.ensures.does

pub returns-in-Ok-clause-whole : goal.returns-in-Ok-clause-whole
returns-in-Ok-clause-whole g c =
    let did = c.carry_out in
    let p : Parties = parties (source_between g.I.Source c.args.input.now did.new.input) (devices g.S.Site c.args.site did.result.site) (sink_between g.O.Sink c.args.output.now did.new.output) in
    let may = g.C.Choose.may c.args.chooser in
    let other = NarrowMay g.F.Fn c.args.other in
    whole_of (meaning (map string_bytes c.args.words.now)) may other p did.result.status did.result.session
    (subst (λ (asked : Option Command). Does asked may other p did.result.status did.result.session) (sym c.in-Ok.ensures.asks) did.ensures.does)

pub returns-in-Ok-clause-unread : goal.returns-in-Ok-clause-unread
returns-in-Ok-clause-unread g c = λ stop.
    let did = c.carry_out in
    let p : Parties = parties (source_between g.I.Source c.args.input.now did.new.input) (devices g.S.Site c.args.site did.result.site) (sink_between g.O.Sink c.args.output.now did.new.output) in
    subst (λ (asked : Option Command). OutputBrokeOff g.S.Site c.args.site asked p did.result.session) (sym c.in-Ok.ensures.asks) (did.ensures.unread stop)

pub returns-in-Ok-clause-one_copy : goal.returns-in-Ok-clause-one_copy
returns-in-Ok-clause-one_copy g c = λ looks.
    c.carry_out.ensures.one_copy (subst (λ (asked : Option Command). LooksByOneCopy asked g.S.Site c.args.site (sink_between g.O.Sink c.args.output.now c.carry_out.new.output)) c.in-Ok.ensures.asks looks)

pub returns-in-Ok-clause-looks : goal.returns-in-Ok-clause-looks
returns-in-Ok-clause-looks g c = λ shows.
    c.carry_out.ensures.looks (let e : ◌≡◌ {A = Option Command} (Some c.in-Ok.command) (Some Show) = subst (λ (asked : Option Command). asked ≡ Some Show) c.in-Ok.ensures.asks shows in cc)

pub returns-in-Ok-clause-audits : goal.returns-in-Ok-clause-audits
returns-in-Ok-clause-audits g c = λ frames audits.
    c.carry_out.ensures.audits frames (let e : ◌≡◌ {A = Option Command} (Some c.in-Ok.command) (Some (Audit frames)) = subst (λ (asked : Option Command). asked ≡ Some (Audit frames)) c.in-Ok.ensures.asks audits in cc)

pub returns-in-Err-clause-does : goal.returns-in-Err-clause-does
returns-in-Err-clause-does g c =
    let p : Parties = parties (source_between g.I.Source c.args.input.now c.args.input.now) (devices g.S.Site c.args.site c.refuse.result.site) (sink_between g.O.Sink c.args.output.now c.refuse.new.output) in
    refused_does (meaning (map string_bytes c.args.words.now)) (g.C.Choose.may c.args.chooser) (NarrowMay g.F.Fn c.args.other) p c.refuse.result.status c.refuse.result.session c.in-Err.line
    c.in-Err.ensures.asks (search rules) (search rules) c.refuse.ensures.session c.refuse.ensures.put

pub returns-in-Err-clause-whole : goal.returns-in-Err-clause-whole
returns-in-Err-clause-whole g c =
    let p : Parties = parties (source_between g.I.Source c.args.input.now c.args.input.now) (devices g.S.Site c.args.site c.refuse.result.site) (sink_between g.O.Sink c.args.output.now c.refuse.new.output) in
    let asked : Option Command = meaning (map string_bytes c.args.words.now) in
    let may = g.C.Choose.may c.args.chooser in
    let other = NarrowMay g.F.Fn c.args.other in
    whole_of asked may other p c.refuse.result.status c.refuse.result.session
    (refused_does asked may other p c.refuse.result.status c.refuse.result.session c.in-Err.line c.in-Err.ensures.asks (search rules) (search rules) c.refuse.ensures.session c.refuse.ensures.put)

pub returns-in-Err-clause-unread : goal.returns-in-Err-clause-unread
returns-in-Err-clause-unread g c = λ stop.
    absurd (line_unstopped c.in-Err.line (sink_between g.O.Sink c.args.output.now c.refuse.new.output) c.refuse.result.status c.refuse.ensures.put stop)

pub returns-in-Err-clause-one_copy : goal.returns-in-Err-clause-one_copy
returns-in-Err-clause-one_copy g c = λ looks.
    let k = content (g.S.Site.told c.args.site) in
    line_by_one k (sink_between g.O.Sink c.args.output.now c.refuse.new.output) looks.sink_none c.in-Err.line c.refuse.result.status
    (refused_exactly (meaning (map string_bytes c.args.words.now)) k c.in-Err.line c.in-Err.ensures.asks looks.command) c.refuse.ensures.put

-- The command is the plain machine's on the state that the fields stand for.
use Rattle.std.proofs.Common.{◌≡◌, ◌++◌, List, length, take, drop, Option, sym, ap, ◌∙◌, arith}
use Rattle.std.proofs.lemmas.List.{take_at}
use Rattle.channel_commands.specs.Views.{asked_of, reply_of}
use Rattle.ckd_plain.specs.Data.{State}
use Rattle.ckd_plain.specs.Plain.{Replied, plain, with_host}
use Rattle.plain_machine.specs.StateData.{StateData, VolumeData, state_of, hosts_of}
use Rattle.plain_machine.proofs.StateFacts.{command_is}
use Rattle.plain_machine.proofs.state.PlainState.command.Goals as goal

pub returns-clause-answer : goal.returns-clause-answer
returns-clause-answer c =
    let now : c.host.result.now ≡ hosts_of c.self.inside.hosts c.args.host = c.host.ensures ∙ ap (λ (s : StateData). hosts_of s.hosts c.args.host) (sym c.self.view_is) in
    let answers = rw c.deref_mut.ensures.value at c.in_ok-reply.ensures.answer in
    let kept : take c.self.inside.volumes.len (c.run_under.new.volumes ++ drop (length c.run_under.new.volumes) c.self.inside.volumes.items) ≡ c.run_under.new.volumes =
    take_at c.run_under.new.volumes _ c.self.inside.volumes.len (omega (arith, answers.length_, c.self.inside.volumes.ok.0)) in
    ap (λ (s : State). let p : Replied = (reply_of c.in_ok-reply.reply, s) in p) c.set_host.ensures
    ∙ ap (λ (vs : List (Option VolumeData)). let p : Replied = (reply_of c.in_ok-reply.reply, with_host (state_of (record { hosts = c.self.inside.hosts; volumes = vs })) c.args.host c.run_under.new.host) in p) kept
    ∙ command_is c.self.inside.hosts c.self.inside.volumes.items c.run_under.new.volumes c.args.host _ _ _ c.host.result.now c.run_under.new.host c.in_ok-reply.reply now answers
    ∙ ap (λ (s : StateData). plain (state_of s) c.args.host (asked_of c.args.command.now)) c.self.view_is

-- What the engine did is what the events say of it.
use Rattle.std.proofs.Common.{◌≡◌, true, refl, sym, ◌∙◌, ap, subst, arith}
use Rattle.mss_base.specs.Places.{frame_block}
use Rattle.channel_commands.specs.Data.{is_command}
use Rattle.channel_commands.specs.Views.{call_of}
use Rattle.channel_commands.specs.declared.call.Call.{Call}
use Rattle.channel_commands.specs.declared.call.Call.TheVariants.{Mount, Demount, Command, Break}
use Rattle.channel_commands.specs.declared.call.DeviceCommand.{DeviceCommand}
use Rattle.ckd_plain.specs.Checks.{Passes}
use Rattle.ckd_plain.specs.Plain.{with_open_chain}
use Rattle.host_events.specs.Runs.{argument_of, is_chained}
use Rattle.host_events.proofs.RanFacts.{run_on, look_still, look_reads}
use Rattle.host_events.proofs.run.run_in.Goals as goal

-- a command is no other call
not_command : (call : Call) → is_command (call_of call) ≡ true → ((c : DeviceCommand) → call ≡ Command c → ⊥) → ⊥
not_command (Command c) is none = none c refl
not_command (Mount volume bind) is none = cc
not_command Demount is none = cc
not_command (Break cause) is none = cc

pub unreachable-requires : goal.unreachable-requires
unreachable-requires g c = not_command c.args.call.now c.requires.may.asks c.in_default.not-Command

pub run_command-requires-clause-passes : goal.run_command-requires-clause-passes
run_command-requires-clause-passes g c =
    subst (Passes (with_open_chain c.args.host.now) c.args.command.now) (ap (λ (k : Call). argument_of (call_of k)) c.in-Command.is ∙ sym c.as_slice-bytes.ensures) c.requires.may.passes

pub returns-clause-comes : goal.returns-clause-comes
returns-clause-comes g c =
    let S = g.S.Site in (
      run_on S c.args.command.now (call_of c.args.call.now)
          c.as_slice-bytes.result.now (c.as_slice-bytes.ensures ∙ sym (ap (λ (k : Call). argument_of (call_of k)) c.in-Command.is)) c.in-Command.asked.chained (sym (ap (λ (k : Call). is_chained (call_of k)) c.in-Command.is))
          c.place_in-place.result (frame_block c.args.frame c.args.host.now.cylinder 0)
          c.place_in-place.ensures.unit c.place_in-place.ensures.block c.args.host.now c.run_command.new.host c.args.site.now c.run_command.new.site c.in_ok-reply.reply
          c.in_ok-reply.ensures.runs c.in_ok-reply.ensures.host_ c.in_ok-reply.ensures.site_ c.run_command.ensures.untouched _ c.bare-reply.ensures,
      c.in-Ok.ensures.copy,
    )

pub returns-in_default-copy_of_reply-clause-comes : goal.returns-in_default-copy_of_reply-clause-comes
returns-in_default-copy_of_reply-clause-comes g c =
    let S = g.S.Site in
    look_still S c.args.command.now (call_of c.args.call.now)
    c.as_slice-bytes.result.now (c.as_slice-bytes.ensures ∙ sym (ap (λ (k : Call). argument_of (call_of k)) c.in-Command.is)) c.in-Command.asked.chained (sym (ap (λ (k : Call). is_chained (call_of k)) c.in-Command.is))
    c.place_in-place.result (frame_block c.args.frame c.args.host.now.cylinder 0)
    c.place_in-place.ensures.unit c.place_in-place.ensures.block c.args.host.now c.run_command.new.host c.args.site.now c.run_command.new.site c.in_ok-reply.reply
    c.in_ok-reply.ensures.runs c.in_ok-reply.ensures.host_ c.in_ok-reply.ensures.site_ c.run_command.ensures.untouched _ c.bare-reply.ensures c.copy_of_reply.result _ c.in_default-copy_of_reply.is c.copy_of_reply.ensures.none

pub returns-in_default-copy_of_reply-clause-room : goal.returns-in_default-copy_of_reply-clause-room
returns-in_default-copy_of_reply-clause-room g c =
    let S = g.S.Site in
    let reads = look_reads S c.args.command.now (call_of c.args.call.now)
    c.as_slice-bytes.result.now (c.as_slice-bytes.ensures ∙ sym (ap (λ (k : Call). argument_of (call_of k)) c.in-Command.is)) c.in-Command.asked.chained (sym (ap (λ (k : Call). is_chained (call_of k)) c.in-Command.is))
    c.place_in-place.result (frame_block c.args.frame c.args.host.now.cylinder 0)
    c.place_in-place.ensures.unit c.place_in-place.ensures.block c.args.host.now c.run_command.new.host c.args.site.now c.run_command.new.site c.in_ok-reply.reply
    c.in_ok-reply.ensures.runs c.in_ok-reply.ensures.host_ c.in_ok-reply.ensures.site_ c.run_command.ensures.untouched _ c.bare-reply.ensures c.copy_of_reply.result _ c.in_default-copy_of_reply.is c.copy_of_reply.ensures.none in
    λ sound. let e = reads.room in omega (arith, e)

-- The answer is what the checks say of the command.
use Rattle.std.proofs.Common.{◌≡◌, ℕ, List, [], sym, ap, ◌∙◌, Ok, Err}
use Rattle.std.proofs.lemmas.Result.{IfOk-weaker}
use Rattle.channel_commands.specs.Views.{argument_bytes}
use Rattle.ckd_plain.specs.declared.host.HostState.{HostState}
use Rattle.ckd_plain.specs.Checks.{admitted_command}
use Rattle.ckd_plain.specs.Plain.{with_open_chain, refused_by}
use Rattle.ckd_plain.proofs.ResponseFacts.{command_responds}
use Rattle.ckd_plain.proofs.response.respond_command.Goals as goal

pub returns-in-Ok-clause-answer : goal.returns-in-Ok-clause-answer
returns-in-Ok-clause-answer c =
    let asked = c.args.command.now in
    let bytes = c.as_slice-argument.result.now in
    let is : admitted_command (with_open_chain c.args.host.now) asked.code bytes ≡ Ok c.in-Ok.kind =
    sym c.admitted_in_chain.ensures.value ∙ c.in-Ok.is in
    rw (← c.as_slice-argument.ensures) (IfOk-weaker c.run_control.result _ _ (λ reply a.
    command_responds c.args.host.now asked.code bytes asked.chained _ c.run_control.new.host reply
    is (a (λ head. [])).reply_ (a (λ head. [])).host_) c.run_control.ensures.answer)

pub returns-in-Err-clause-answer : goal.returns-in-Err-clause-answer
returns-in-Err-clause-answer c =
    let asked = c.args.command.now in
    let is : admitted_command (with_open_chain c.args.host.now) asked.code (argument_bytes asked.argument) ≡ Err c.in-Err.check =
    ap (λ (x : List ℕ). admitted_command (with_open_chain c.args.host.now) asked.code x) (sym c.as_slice-argument.ensures) ∙ sym c.admitted_in_chain.ensures.value ∙ c.in-Err.is in
    command_responds c.args.host.now asked.code (argument_bytes asked.argument) asked.chained _ c.refused_by.new.host c.refused_by.result is
    (c.refused_by.ensures.reply_ ∙ ap (λ (h : HostState). (refused_by c.in-Err.check h).reply) c.open.ensures)
    (c.refused_by.ensures.host_ ∙ ap (λ (h : HostState). (refused_by c.in-Err.check h).host) c.open.ensures)

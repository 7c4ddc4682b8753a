use Rattle.std.proofs.Common.{sym, subst}
use Rattle.channel_commands.specs.Views.{call_of}
use Rattle.mss_run.specs.declared.host.Attempt.{Attempt}
use Rattle.mss_run.specs.Owns.{Attempted}
use Rattle.mss_run.proofs.OwnPlaces.{attempted_by}
use Rattle.mss_run.proofs.actor.Run.try_call.Goals as goal

pub returns : goal.returns
returns g c =
    let call = call_of c.args.call.now in
    let q = c.step-pass.result.0 in
    subst (λ (a : Attempt). Attempted call c.args.pass a q) (sym c.attempt_of-attempt.ensures)
    (attempted_by call c.args.pass q c.step-pass.result.1 c.pass_helped-goes_on.result c.step-pass.ensures)

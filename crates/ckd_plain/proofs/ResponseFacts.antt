-- A call that needs no track is answered by its host and by which volumes there are.
use Rattle.std.proofs.Common.{◌≡◌, ℕ, Bool, false, List, [], Option, None, Result, Ok, Err, refl, sym, ap, ◌∙◌}
use Rattle.channel_commands.specs.Codes.{is_write}
use Rattle.channel_commands.specs.Data.{CallData, mount, demount, command, break, is_command, ReplyData}
use Rattle.channel_commands.specs.declared.call.Reply.{Reply}
use Rattle.channel_commands.specs.Views.{reply_of}
use Rattle.channel_commands.specs.declared.command.Command.{Command}
use Rattle.channel_commands.specs.declared.command.Command.TheVariants as ask
use Rattle.ckd_track.specs.Data.{RecordData}
use Rattle.ckd_plain.specs.declared.host.HostState.{HostState}
use Rattle.ckd_plain.specs.declared.unit_check.UnitCheck.{UnitCheck}
use Rattle.ckd_plain.specs.Checks.{admitted_command}
use Rattle.ckd_plain.specs.Data.{State}
use Rattle.ckd_plain.specs.Effects.{is_data}
use Rattle.ckd_plain.specs.Index.{Tracks}
use Rattle.ckd_plain.specs.Plain.{Answer, NeedsNoTrack, with_open_chain, answer_by_checks, answer_on_tracks, plain, response_to, mark_for, with_host, with_response, tracks_under, written_to}
use Rattle.ckd_plain.proofs.CommandFacts.{only_writes, control_sees_none}
use Rattle.ckd_plain.proofs.VolumeFacts.{unwritten}

no_data_writes_not : (c : Command) → is_data c ≡ false → is_write c ≡ false
no_data_writes_not (ask.Write kind) no_data = absurd cc
no_data_writes_not (ask.Search field test multi) no_data = refl
no_data_writes_not (ask.Read what multi) no_data = refl
no_data_writes_not ask.NoOp no_data = refl
no_data_writes_not ask.Sense no_data = refl
no_data_writes_not (ask.Seek kind) no_data = refl
no_data_writes_not ask.Recalibrate no_data = refl
no_data_writes_not ask.SetMask no_data = refl
no_data_writes_not ask.SetSector no_data = refl

-- the answer is that of every other cylinder, and nothing is written
judged_anywhere : (tracks others : Tracks) (host : HostState) (argument : List ℕ) (chained : Bool) (r : Result Command UnitCheck)
    → ((c : Command) → r ≡ Ok c → is_data c ≡ false)
    → (answer_by_checks tracks host argument chained r ≡ answer_by_checks others host argument chained r) × ((answer_by_checks tracks host argument chained r).written ≡ None)
judged_anywhere tracks others host argument chained (Ok c) none =
    (control_sees_none tracks others host c argument chained (none c refl), only_writes tracks host c argument chained (no_data_writes_not c (none c refl)))
judged_anywhere tracks others host argument chained (Err check) none = (refl, refl)

pub call_responds : (s : State) (h : ℕ) (call : CallData) → NeedsNoTrack (s.host h) call
    → plain s h call ≡ with_response s h (response_to (s.host h) (mark_for s.volumes call) call)
unfolding plain response_to answer_on_tracks
call_responds s h (mount volume bind) none = refl
call_responds s h demount none = refl
call_responds s h (break cause) none = refl
call_responds s h (command code argument chained) none =
    let host : HostState = s.host h in
    let r : Result Command UnitCheck = admitted_command (with_open_chain host) code argument in
    let p = judged_anywhere (tracks_under s.volumes host) (λ head. []) (with_open_chain host) argument chained r none in
    let a : Answer = answer_by_checks (tracks_under s.volumes host) (with_open_chain host) argument chained r in
    (λ i. (a.reply, with_host (record s { volumes = (ap (λ (o : Option (List RecordData)). written_to s.volumes host o) p.1 ∙ unwritten s.volumes host host.mounted) i }) h a.host))
    ∙ (λ i. ((p.0 i).reply, with_host s h (p.0 i).host))

pub no_command_responds : (s : State) (h : ℕ) (call : CallData) → is_command call ≡ false
    → plain s h call ≡ with_response s h (response_to (s.host h) (mark_for s.volumes call) call)
no_command_responds s h (mount volume bind) none = call_responds s h (mount volume bind) tt
no_command_responds s h demount none = call_responds s h demount tt
no_command_responds s h (break cause) none = call_responds s h (break cause) tt
no_command_responds s h (command code argument chained) none = absurd cc

-- a command is answered by what the checks say of it
pub command_responds : (host : HostState) (code : ℕ) (argument : List ℕ) (chained : Bool) (r : Result Command UnitCheck) (now : HostState) (reply : Reply)
    → admitted_command (with_open_chain host) code argument ≡ r → reply_of reply ≡ (answer_by_checks (λ head. []) (with_open_chain host) argument chained r).reply
    → now ≡ (answer_by_checks (λ head. []) (with_open_chain host) argument chained r).host
    → (mark : Option Bool) → ◌≡◌ {A = ReplyData × HostState} (reply_of reply, now) (response_to host mark (command code argument chained))
unfolding response_to answer_on_tracks
command_responds host code argument chained r now reply is reply_is host_is mark =
    (λ i. (reply_is i, host_is i)) ∙ sym (λ i. let a : Answer = answer_by_checks (λ head. []) (with_open_chain host) argument chained (is i) in (a.reply, a.host))

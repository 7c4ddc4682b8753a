-- A command that was done answers as the definition does.
use Rattle.std.proofs.Common.{◌≡◌, ℕ, Bool, List, Ok, Err, ap, subst, ◌∙◌}
use Rattle.channel_commands.specs.declared.call.Reply.{Reply}
use Rattle.channel_commands.specs.declared.command.Command.{Command}
use Rattle.channel_commands.specs.Views.{reply_of}
use Rattle.ckd_track.specs.Data.{RecordData}
use Rattle.ckd_plain.specs.declared.done.DoneCommand.{DoneCommand}
use Rattle.ckd_plain.specs.declared.host.HostState.{HostState}
use Rattle.ckd_plain.specs.Index.{Tracks}
use Rattle.ckd_plain.specs.Effects.{Effect, Outcome, effect_with, effect}
use Rattle.ckd_plain.specs.Plain.{host_for_command, effect_answer, outcome_answer, command_answer}
use Rattle.ckd_plain.specs.Views.{effect_of}
use Rattle.plain_machine.specs.Outcomes.{DoesOutcome, Answers, written_in}

module _ (c : Command) (chained : Bool) (from ready : HostState) (ready_is : ready ≡ host_for_command c from) (old new : List (List RecordData))
    (d : DoneCommand) (host : HostState) (reply : Reply)
    (replies : reply_of reply ≡ (effect_answer c chained (effect_of d)).reply) (leaves : host ≡ (effect_answer c chained (effect_of d)).host) where
  answers_to : (o : Outcome) → DoesOutcome o ready old new d → Answers (outcome_answer c chained o) from old new host reply
  answers_to (Ok e) does =
      let same : effect_of d ≡ effect_with e.status e.bytes e.host = (λ i. effect_with (does.status i) (does.bytes i) (does.host i)) in
      record {
        reply_ = replies ∙ ap (λ (x : Effect). (effect_answer c chained x).reply) same;
        host_ = leaves ∙ ap (λ (x : Effect). (effect_answer c chained x).host) same;
        tracks = does.tracks ∙ ap (λ (h : HostState). written_in old h.head e.written) ready_is;
      }
  answers_to (Err refusal) does = absurd does

  pub done_answers : (tracks : Tracks) (argument : List ℕ) → DoesOutcome (effect tracks ready from.prior c argument) ready old new d → Answers (command_answer tracks from c argument chained) from old new host reply
  unfolding command_answer
  done_answers tracks argument does =
      answers_to (effect tracks (host_for_command c from) from.prior c argument) (subst (λ (h : HostState). DoesOutcome (effect tracks h from.prior c argument) ready old new d) ready_is does)

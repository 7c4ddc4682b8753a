-- The plain machine's commands go on with a chain only where they may.
use Rattle.std.proofs.Common.{◌≡◌, ℕ, Bool, true, false, List, Result, Ok, Err, refl}
use Rattle.std.specs.Prelude.{if◌then◌else◌, take, [], ◌∷◌, ◌++◌}
use Rattle.channel_commands.specs.declared.command.Command.{Command}
use Rattle.channel_commands.specs.declared.command.Command.TheVariants as command
use Rattle.channel_commands.specs.declared.command.ReadWhat.{ReadWhat}
use Rattle.channel_commands.specs.declared.command.ReadWhat.TheVariants as what
use Rattle.channel_commands.specs.declared.command.SearchField.{SearchField}
use Rattle.channel_commands.specs.declared.command.SearchField.TheVariants as field
use Rattle.channel_commands.specs.declared.command.SearchTest.{SearchTest}
use Rattle.channel_commands.specs.declared.command.WriteKind.{WriteKind}
use Rattle.channel_commands.specs.declared.command.WriteKind.TheVariants as write
use Rattle.ckd_track.specs.Data.{RecordData}
use Rattle.ckd_plain.specs.declared.host.HostState.{HostState}
use Rattle.ckd_plain.specs.declared.host.Prior.{Prior}
use Rattle.ckd_plain.specs.declared.unit_check.Refusal.{Refusal}
use Rattle.ckd_plain.specs.declared.unit_check.UnitCheck.{UnitCheck}
use Rattle.ckd_plain.specs.Checks.{◌>>=◌, admitted_command}
use Rattle.ckd_plain.specs.Effects.{Outcome, DONE, END_OF_FILE, is_ending, search_status, key_at_hand, at_hand, this_or_next, home_searched, id_searched, key_searched, home_read, record_zero_read, record_given, prior_number, with_body, with_key_body, new_record, update_outcome, fits, format_outcome, search, read_outcome, write_, effect}
use Rattle.ckd_plain.specs.Index.{Tracks, Found, to_home, next_record, same_record}
use Rattle.ckd_plain.specs.Plain.{Answer, KeepsChain, with_open_chain, host_for_command, outcome_answer, answer_by_checks, command_answer, answer_on_tracks}
use Rattle.ckd_plain.proofs.ChainFacts.{chain_kept}

-- a command that isn't refused ends with a status of its own
abbrev Ends : Outcome → Type 0
Ends (Ok e) = is_ending e.status ≡ true
Ends (Err refusal) = Unit {0}

ends_on : {X : Type 0} (r : Result X Refusal) (f : X → Outcome) → ((x : X) → Ends (f x)) → Ends (r >>= f)
ends_on (Ok x) f ends = ends x
ends_on (Err refusal) f ends = tt

done_ends : is_ending DONE ≡ true
unfolding is_ending
done_ends = refl

search_ends : (met : Bool) → is_ending (search_status met) ≡ true
unfolding is_ending
search_ends true = refl
search_ends false = refl

file_ends : (last : Bool) → is_ending (if last then END_OF_FILE else DONE) ≡ true
unfolding is_ending
file_ends true = refl
file_ends false = refl

searched : (tracks : Tracks) (host : HostState) (f : SearchField) (test : SearchTest) (multi : Bool) (argument : List ℕ) → Ends (search tracks host f test multi argument)
unfolding search
searched tracks host field.Home test multi argument = ends_on (to_home host multi) (λ there. Ok (home_searched argument there)) (λ there. search_ends _)
searched tracks host field.Id test multi argument = ends_on (next_record tracks host 0 multi) (λ found. Ok (id_searched test argument found)) (λ found. search_ends _)
searched tracks host field.Key test multi argument = ends_on (this_or_next (key_at_hand host.position) tracks host multi) (λ found. Ok (key_searched test argument found)) (λ found. search_ends _)

gives : (tracks : Tracks) (host : HostState) (w : ReadWhat) (multi : Bool) → ((found : Found) → Ends (Ok (record_given w found)))
    → Ends (this_or_next (at_hand w host.position) tracks host multi >>= λ found. Ok (record_given w found))
gives tracks host w multi ends = ends_on (this_or_next (at_hand w host.position) tracks host multi) (λ found. Ok (record_given w found)) ends

was_read : (tracks : Tracks) (host : HostState) (w : ReadWhat) (multi : Bool) → Ends (read_outcome tracks host w multi)
unfolding read_outcome
was_read tracks host what.Home multi = ends_on (to_home host multi) (λ there. Ok (home_read there)) (λ there. done_ends)
was_read tracks host what.RecordZero multi = ends_on (to_home host multi) (λ there. Ok (record_zero_read there)) (λ there. done_ends)
was_read tracks host what.Count multi = gives tracks host what.Count multi (λ found. done_ends)
was_read tracks host what.Data multi = gives tracks host what.Data multi (λ found. file_ends _)
was_read tracks host what.KeyData multi = gives tracks host what.KeyData multi (λ found. file_ends _)
was_read tracks host what.CountKeyData multi = gives tracks host what.CountKeyData multi (λ found. file_ends _)

was_formatted : (fit : Bool) (track : List RecordData) (found : Found) → Ends (format_outcome fit track found)
was_formatted true track found = done_ends
was_formatted false track found = tt

written : (track : List RecordData) (host : HostState) (left : Prior) (kind : WriteKind) (argument : List ℕ) → Ends (write_ track host left kind argument)
unfolding write_
written track host left write.Data argument = ends_on (same_record track host (prior_number left)) (λ found. update_outcome track found (with_body found.item argument)) (λ found. file_ends _)
written track host left write.KeyData argument = ends_on (same_record track host (prior_number left)) (λ found. update_outcome track found (with_key_body found.item argument)) (λ found. file_ends _)
written track host left write.CountKeyData argument =
    ends_on (same_record track host (prior_number left))
    (λ found. let new = take found.number track ++ new_record argument ∷ [] in format_outcome (fits new) new found)
    (λ found. was_formatted _ (take found.number track ++ new_record argument ∷ []) found)

carried_out : (tracks : Tracks) (host : HostState) (left : Prior) (c : Command) (argument : List ℕ) → Ends (effect tracks host left c argument)
unfolding effect
carried_out tracks host left command.NoOp argument = done_ends
carried_out tracks host left command.SetSector argument = done_ends
carried_out tracks host left command.Sense argument = done_ends
carried_out tracks host left command.SetMask argument = done_ends
carried_out tracks host left (command.Seek kind) argument = done_ends
carried_out tracks host left command.Recalibrate argument = done_ends
carried_out tracks host left (command.Search f test multi) argument = searched tracks host f test multi argument
carried_out tracks host left (command.Read w multi) argument = was_read tracks host w multi
carried_out tracks host left (command.Write kind) argument = written (tracks host.head) host left kind argument

-- the chain is as the answer says
abbrev Keeps : Bool → Answer → Type 0
Keeps chained a = KeepsChain chained a.reply a.host

answered_keeps : (c : Command) (chained : Bool) (o : Outcome) → Ends o → Keeps chained (outcome_answer c chained o)
answered_keeps c chained (Ok e) ends = chain_kept c chained e _ _ refl refl ends
answered_keeps c chained (Err refusal) ends = record { asked = λ open_. absurd cc; smooth = λ open_. absurd cc }

judged_keeps : (tracks : Tracks) (host : HostState) (argument : List ℕ) (chained : Bool) (r : Result Command UnitCheck) → Keeps chained (answer_by_checks tracks host argument chained r)
unfolding command_answer
judged_keeps tracks host argument chained (Ok c) = answered_keeps c chained _ (carried_out tracks (host_for_command c host) host.prior c argument)
judged_keeps tracks host argument chained (Err check) = record { asked = λ open_. absurd cc; smooth = λ open_. absurd cc }

pub run_keeps : (tracks : Tracks) (host : HostState) (code : ℕ) (argument : List ℕ) (chained : Bool) → Keeps chained (answer_on_tracks tracks host code argument chained)
unfolding answer_on_tracks
run_keeps tracks host code argument chained = judged_keeps tracks (with_open_chain host) argument chained (admitted_command (with_open_chain host) code argument)

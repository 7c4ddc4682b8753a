-- Only writes write.
use Rattle.std.proofs.Common.{◌≡◌, ℕ, Bool, false, List, None, Result, Ok, Err, refl, ◌∙◌}
use Rattle.channel_commands.specs.declared.command.Command.{Command}
use Rattle.channel_commands.specs.declared.command.Command.TheVariants as command
use Rattle.channel_commands.specs.declared.command.SearchField.TheVariants as field
use Rattle.channel_commands.specs.declared.command.ReadWhat.{ReadWhat}
use Rattle.channel_commands.specs.declared.command.ReadWhat.TheVariants as what
use Rattle.channel_commands.specs.Codes.{is_write}
use Rattle.ckd_plain.specs.declared.host.HostState.{HostState}
use Rattle.ckd_plain.specs.declared.host.Prior.{Prior}
use Rattle.ckd_plain.specs.declared.unit_check.Refusal.{Refusal}
use Rattle.ckd_plain.specs.Checks.{◌>>=◌}
use Rattle.ckd_plain.specs.Index.{Tracks, Found, next_record, to_home}
use Rattle.ckd_plain.specs.Effects.{Effect, Outcome, at_hand, key_at_hand, this_or_next, home_searched, id_searched, key_searched, search, record_given, record_zero_read, home_read, read_outcome, effect}
use Rattle.ckd_plain.specs.Plain.{outcome_answer, host_for_command, command_answer}
use Rattle.track_engine.specs.Writing.{written_of}

bind_unwritten : {X : Type 0} (r : Result X Refusal) (does : X → Effect) → ((x : X) → (does x).written ≡ None) → written_of (r >>= λ x. Ok (does x)) ≡ None
bind_unwritten (Ok x) does each = each x
bind_unwritten (Err refusal) does each = refl

given_unwritten : (w : ReadWhat) (found : Found) → (record_given w found).written ≡ None
given_unwritten what.Data found = refl
given_unwritten what.KeyData found = refl
given_unwritten what.CountKeyData found = refl
given_unwritten _ found = refl

read_unwritten : (tracks : Tracks) (host : HostState) (w : ReadWhat) (multi : Bool) → written_of (read_outcome tracks host w multi) ≡ None
unfolding read_outcome
read_unwritten tracks host what.Home multi = bind_unwritten (to_home host multi) home_read (λ _. refl)
read_unwritten tracks host what.RecordZero multi = bind_unwritten (to_home host multi) record_zero_read (λ _. refl)
read_unwritten tracks host what.Data multi = bind_unwritten (this_or_next (at_hand what.Data host.position) tracks host multi) (record_given what.Data) (given_unwritten what.Data)
read_unwritten tracks host what.KeyData multi = bind_unwritten (this_or_next (at_hand what.KeyData host.position) tracks host multi) (record_given what.KeyData) (given_unwritten what.KeyData)
read_unwritten tracks host what.CountKeyData multi = bind_unwritten (this_or_next (at_hand what.CountKeyData host.position) tracks host multi) (record_given what.CountKeyData) (given_unwritten what.CountKeyData)
read_unwritten tracks host what.Count multi = bind_unwritten (this_or_next (at_hand what.Count host.position) tracks host multi) (record_given what.Count) (given_unwritten what.Count)

pub effect_unwritten : (tracks : Tracks) (host : HostState) (left : Prior) (c : Command) (argument : List ℕ) → is_write c ≡ false → written_of (effect tracks host left c argument) ≡ None
unfolding effect search
effect_unwritten tracks host left command.NoOp argument reads = refl
effect_unwritten tracks host left command.SetSector argument reads = refl
effect_unwritten tracks host left command.Sense argument reads = refl
effect_unwritten tracks host left command.SetMask argument reads = refl
effect_unwritten tracks host left (command.Seek kind) argument reads = refl
effect_unwritten tracks host left command.Recalibrate argument reads = refl
effect_unwritten tracks host left (command.Search field.Home test multi) argument reads = bind_unwritten (to_home host multi) (home_searched argument) (λ _. refl)
effect_unwritten tracks host left (command.Search field.Id test multi) argument reads = bind_unwritten (next_record tracks host 0 multi) (id_searched test argument) (λ _. refl)
effect_unwritten tracks host left (command.Search field.Key test multi) argument reads =
    bind_unwritten (this_or_next (key_at_hand host.position) tracks host multi) (key_searched test argument) (λ _. refl)
effect_unwritten tracks host left (command.Read what multi) argument reads = read_unwritten tracks host what multi
effect_unwritten tracks host left (command.Write kind) argument reads = absurd cc

-- an answer writes what its outcome does
answered_written : (c : Command) (chained : Bool) (o : Outcome) → (outcome_answer c chained o).written ≡ written_of o
answered_written c chained (Ok e) = refl
answered_written c chained (Err refusal) = refl

pub performed_written : (tracks : Tracks) (host : HostState) (c : Command) (argument : List ℕ) (chained : Bool)
    → (command_answer tracks host c argument chained).written ≡ written_of (effect tracks (host_for_command c host) host.prior c argument)
unfolding command_answer
performed_written tracks host c argument chained = answered_written c chained (effect tracks (host_for_command c host) host.prior c argument)

pub performed_unwritten : (tracks : Tracks) (host : HostState) (c : Command) (argument : List ℕ) (chained : Bool) → is_write c ≡ false → (command_answer tracks host c argument chained).written ≡ None
performed_unwritten tracks host c argument chained reads = performed_written tracks host c argument chained ∙ effect_unwritten tracks (host_for_command c host) host.prior c argument reads

-- What commands never do: a command that is no write writes nothing, a control command sees no track, and none mounts.
use Rattle.std.proofs.Common.{◌≡◌, ℕ, zero, suc, Bool, true, false, cond, List, Option, Some, None, Result, Ok, Err, refl, ap, ◌∙◌}
use Rattle.std.specs.Prelude.{◌==◌, ◌+◌, bit_and}
use Rattle.channel_commands.specs.Codes.{is_write}
use Rattle.mss_base.specs.declared.numbers.TheConstants.{HEADS}
use Rattle.channel_commands.specs.declared.command.Command.{Command}
use Rattle.channel_commands.specs.declared.command.Command.TheVariants as command
use Rattle.channel_commands.specs.declared.command.ReadWhat.{ReadWhat}
use Rattle.channel_commands.specs.declared.command.ReadWhat.TheVariants as what
use Rattle.channel_commands.specs.declared.command.SearchField.TheVariants as field
use Rattle.channel_commands.specs.declared.command.SeekKind.TheVariants as seek
use Rattle.channel_commands.specs.declared.command.WriteKind.{WriteKind}
use Rattle.channel_commands.specs.declared.command.WriteKind.TheVariants as write
use Rattle.ckd_track.specs.Data.{RecordData}
use Rattle.ckd_plain.specs.declared.host.HostState.{HostState}
use Rattle.ckd_plain.specs.declared.host.Position.{Position}
use Rattle.ckd_plain.specs.declared.host.Position.TheVariants as position
use Rattle.ckd_plain.specs.declared.host.Prior.{Prior}
use Rattle.ckd_plain.specs.declared.host.Prior.TheVariants as prior
use Rattle.ckd_plain.specs.declared.unit_check.Refusal.{Refusal}
use Rattle.ckd_plain.specs.declared.unit_check.UnitCheck.{UnitCheck}
use Rattle.ckd_plain.specs.Checks.{◌>>=◌, admitted_command}
use Rattle.ckd_plain.specs.Index.{Tracks, Found, pass_index, look_or_past, next_within, next_record, itself, same_record, home_from, to_home}
use Rattle.ckd_plain.specs.Effects.{Effect, Outcome, is_data, at_hand, this_or_next, search, read_outcome, format_outcome, write_, effect}
use Rattle.ckd_plain.specs.Plain.{with_open_chain, host_for_command, outcome_answer, command_answer, answer_by_checks, answer_on_tracks}

-- ---- what holds of whatever a step gives

abbrev pub Holds : {X : Type 0} → (X → Type 0) → (Refusal → Type 0) → Result X Refusal → Type 0
Holds P Q (Ok x) = P x
Holds P Q (Err e) = Q e

pub after_step : {X Y : Type 0} (P : X → Type 0) (R : Y → Type 0) (Q : Refusal → Type 0) (r : Result X Refusal) (f : X → Result Y Refusal)
    → Holds P Q r → ((x : X) → P x → Holds R Q (f x)) → Holds R Q (r >>= f)
after_step P R Q (Ok x) f p next = next x p
after_step P R Q (Err e) f q next = q

pub anything : {X : Type 0} (r : Result X Refusal) → Holds (λ (x : X). Unit {0}) (λ e. Unit {0}) r
anything (Ok x) = tt
anything (Err e) = tt

-- ---- a command that is no write writes nothing

abbrev NoWrite : Outcome → Type 0
NoWrite o = Holds (λ (e : Effect). e.written ≡ None) (λ e. Unit {0}) o

no_write_after : {X : Type 0} (r : Result X Refusal) (f : X → Effect) → ((x : X) → (f x).written ≡ None) → NoWrite (r >>= λ x. Ok (f x))
no_write_after {X} r f none = after_step (λ (x : X). Unit {0}) (λ (e : Effect). e.written ≡ None) (λ e. Unit {0}) r (λ x. Ok (f x)) (anything r) (λ x u. none x)

no_write_read : (tracks : Tracks) (host : HostState) (kind : ReadWhat) (multi : Bool) → NoWrite (read_outcome tracks host kind multi)
unfolding read_outcome
no_write_read tracks host what.Data multi = no_write_after _ _ (λ x. refl)
no_write_read tracks host what.KeyData multi = no_write_after _ _ (λ x. refl)
no_write_read tracks host what.CountKeyData multi = no_write_after _ _ (λ x. refl)
no_write_read tracks host what.Count multi = no_write_after _ _ (λ x. refl)
no_write_read tracks host what.RecordZero multi = no_write_after _ _ (λ x. refl)
no_write_read tracks host what.Home multi = no_write_after _ _ (λ x. refl)

no_write : (tracks : Tracks) (host : HostState) (left : Prior) (c : Command) (argument : List ℕ) → is_write c ≡ false → NoWrite (effect tracks host left c argument)
unfolding effect search
no_write tracks host left command.NoOp argument isn't = refl
no_write tracks host left command.Sense argument isn't = refl
no_write tracks host left (command.Seek kind) argument isn't = refl
no_write tracks host left command.Recalibrate argument isn't = refl
no_write tracks host left command.SetMask argument isn't = refl
no_write tracks host left command.SetSector argument isn't = refl
no_write tracks host left (command.Search field.Home test multi) argument isn't = no_write_after _ _ (λ x. refl)
no_write tracks host left (command.Search field.Id test multi) argument isn't = no_write_after _ _ (λ x. refl)
no_write tracks host left (command.Search field.Key test multi) argument isn't = no_write_after _ _ (λ x. refl)
no_write tracks host left (command.Read kind multi) argument isn't = no_write_read tracks host kind multi
no_write tracks host left (command.Write kind) argument isn't = absurd cc

nothing_written : (c : Command) (chained : Bool) (o : Outcome) → NoWrite o → (outcome_answer c chained o).written ≡ None
nothing_written c chained (Ok e) none = none
nothing_written c chained (Err r) none = refl

pub only_writes : (tracks : Tracks) (host : HostState) (c : Command) (argument : List ℕ) (chained : Bool) → is_write c ≡ false → (command_answer tracks host c argument chained).written ≡ None
unfolding command_answer
only_writes tracks host c argument chained isn't = nothing_written c chained _ (no_write tracks (host_for_command c host) host.prior c argument isn't)

-- ---- a control command sees no track

same_effect : (a b : Tracks) (host : HostState) (left : Prior) (c : Command) (argument : List ℕ) → is_data c ≡ false → effect a host left c argument ≡ effect b host left c argument
unfolding effect
same_effect a b host left command.NoOp argument isn't = refl
same_effect a b host left command.Sense argument isn't = refl
same_effect a b host left (command.Seek kind) argument isn't = refl
same_effect a b host left command.Recalibrate argument isn't = refl
same_effect a b host left command.SetMask argument isn't = refl
same_effect a b host left command.SetSector argument isn't = refl
same_effect a b host left (command.Search field test multi) argument isn't = absurd cc
same_effect a b host left (command.Read what multi) argument isn't = absurd cc
same_effect a b host left (command.Write kind) argument isn't = absurd cc

pub control_sees_none : (a b : Tracks) (host : HostState) (c : Command) (argument : List ℕ) (chained : Bool) → is_data c ≡ false → command_answer a host c argument chained ≡ command_answer b host c argument chained
unfolding command_answer
control_sees_none a b host c argument chained isn't = ap (λ (o : Outcome). outcome_answer c chained o) (same_effect a b (host_for_command c host) host.prior c argument isn't)

-- ---- what a command does leaves the volume that is mounted, what the host knows of it, and the sense

module _ (m : Option (ℕ × Bool)) (sense_ : List ℕ) (mark : Bool) where
  abbrev pub Has : HostState → Type 0
  Has host = (host.mounted ≡ m) × (host.sense ≡ sense_) × (host.protected ≡ mark)

  abbrev pub Refuses : Refusal → Type 0
  Refuses r = Has r.host

  one_of : {X : Type 0} (P : X → Type 0) (b : Bool) (x y : Result X Refusal) → Holds P Refuses x → Holds P Refuses y → Holds P Refuses (cond b x y)
  one_of P true x y p q = p
  one_of P false x y p q = q

  pass_index-has : (host : HostState) (multi : Bool) → Has host → Holds Has Refuses (pass_index host multi)
  unfolding pass_index
  pass_index-has host true has = one_of Has (bit_and host.mask 0x18 == 0x18) _ _ has (one_of Has (host.head + 1 == HEADS) _ _ has has)
  pass_index-has host false has = one_of Has (host.passes == 0) _ _ has has

  abbrev Finds : Result Found Refusal → Type 0
  Finds r = Holds (λ (f : Found). Has f.host) Refuses r

  looked-finds : (k : ℕ) (host : HostState) (multi : Bool) (o : Option RecordData) (past : HostState → Result Found Refusal) → Has host
      → ((passed : HostState) → Has passed → Finds (past passed)) → Finds (look_or_past k host multi o past)
  looked-finds k host multi (Some r) past has then = has
  looked-finds k host multi None past has then = after_step Has (λ (f : Found). Has f.host) Refuses (pass_index host multi) past (pass_index-has host multi has) then

  next_within-finds : (n : ℕ) (tracks : Tracks) (host : HostState) (first : ℕ) (multi : Bool) → Has host → Finds (next_within n tracks host first multi)
  unfolding next_within
  next_within-finds zero tracks host first multi has = has
  next_within-finds (suc n) tracks host first multi has = looked-finds _ host multi _ _ has (λ passed has'. next_within-finds n tracks passed first multi has')

  next_record-finds : (tracks : Tracks) (host : HostState) (first : ℕ) (multi : Bool) → Has host → Finds (next_record tracks host first multi)
  unfolding next_record
  next_record-finds tracks host first multi has = next_within-finds 20 tracks host first multi has

  itself-finds : (k : ℕ) (host : HostState) (o : Option RecordData) → Has host → Finds (itself k host o)
  itself-finds k host (Some r) has = has
  itself-finds k host None has = has

  same_record-finds : (track : List RecordData) (host : HostState) (k : ℕ) → Has host → Finds (same_record track host k)
  unfolding same_record
  same_record-finds track host k has = itself-finds k host _ has

  this_or_next-finds : (o : Option ℕ) (tracks : Tracks) (host : HostState) (multi : Bool) → Has host → Finds (this_or_next o tracks host multi)
  this_or_next-finds (Some k) tracks host multi has = same_record-finds (tracks host.head) host k has
  this_or_next-finds None tracks host multi has = next_record-finds tracks host 1 multi has

  home_from-has : (p : Position) (host : HostState) (multi : Bool) → Has host → Holds Has Refuses (home_from p host multi)
  home_from-has position.Start host multi has = has
  home_from-has position.Home host true has = pass_index-has host true has
  home_from-has position.Home host false has = has
  home_from-has (position.Count k) host true has = pass_index-has host true has
  home_from-has (position.Count k) host false has = has
  home_from-has (position.Key k) host true has = pass_index-has host true has
  home_from-has (position.Key k) host false has = has
  home_from-has (position.Done k) host true has = pass_index-has host true has
  home_from-has (position.Done k) host false has = has

  to_home-has : (host : HostState) (multi : Bool) → Has host → Holds Has Refuses (to_home host multi)
  unfolding to_home
  to_home-has host multi has = home_from-has host.position host multi has

  abbrev pub Leaves : Outcome → Type 0
  Leaves o = Holds (λ (e : Effect). Has e.host) Refuses o

  from_found : (r : Result Found Refusal) (f : Found → Effect) → Finds r → ((x : Found) → Has x.host → Has (f x).host) → Leaves (r >>= λ x. Ok (f x))
  from_found r f finds keeps = after_step (λ (x : Found). Has x.host) (λ (e : Effect). Has e.host) Refuses r (λ x. Ok (f x)) finds keeps

  from_home : (host : HostState) (multi : Bool) (f : HostState → Effect) → Has host → ((x : HostState) → Has x → Has (f x).host) → Leaves (to_home host multi >>= λ x. Ok (f x))
  from_home host multi f has keeps = after_step Has (λ (e : Effect). Has e.host) Refuses (to_home host multi) (λ x. Ok (f x)) (to_home-has host multi has) keeps

  read-leaves : (tracks : Tracks) (host : HostState) (kind : ReadWhat) (multi : Bool) → Has host → Leaves (read_outcome tracks host kind multi)
  unfolding read_outcome
  read-leaves tracks host what.Data multi has = from_found _ _ (this_or_next-finds (at_hand what.Data host.position) tracks host multi has) (λ x has'. has')
  read-leaves tracks host what.KeyData multi has = from_found _ _ (this_or_next-finds (at_hand what.KeyData host.position) tracks host multi has) (λ x has'. has')
  read-leaves tracks host what.CountKeyData multi has = from_found _ _ (this_or_next-finds (at_hand what.CountKeyData host.position) tracks host multi has) (λ x has'. has')
  read-leaves tracks host what.Count multi has = from_found _ _ (this_or_next-finds (at_hand what.Count host.position) tracks host multi has) (λ x has'. has')
  read-leaves tracks host what.RecordZero multi has = from_home host multi _ has (λ x has'. has')
  read-leaves tracks host what.Home multi has = from_home host multi _ has (λ x has'. has')

  formatted-leaves : (fits : Bool) (track : List RecordData) (f : Found) → Has f.host → Leaves (format_outcome fits track f)
  formatted-leaves true track f has = has
  formatted-leaves false track f has = has

  abbrev found_host : Found → Type 0
  found_host f = Has f.host

  abbrev effect_host : Effect → Type 0
  effect_host e = Has e.host

  write_-leaves : (track : List RecordData) (host : HostState) (left : Prior) (kind : WriteKind) (argument : List ℕ) → Has host → Leaves (write_ track host left kind argument)
  unfolding write_
  write_-leaves track host left write.Data argument has = after_step found_host effect_host Refuses _ _ (same_record-finds track host _ has) (λ f has'. has')
  write_-leaves track host left write.KeyData argument has = after_step found_host effect_host Refuses _ _ (same_record-finds track host _ has) (λ f has'. has')
  write_-leaves track host left write.CountKeyData argument has = after_step found_host effect_host Refuses _ _ (same_record-finds track host _ has) (λ f has'. formatted-leaves _ _ f has')

  pub effect-leaves : (tracks : Tracks) (host : HostState) (left : Prior) (c : Command) (argument : List ℕ) → Has host → Leaves (effect tracks host left c argument)
  unfolding effect search
  effect-leaves tracks host left command.NoOp argument has = has
  effect-leaves tracks host left command.Sense argument has = has
  effect-leaves tracks host left (command.Seek seek.Head) argument has = has
  effect-leaves tracks host left (command.Seek seek.Cylinder) argument has = has
  effect-leaves tracks host left (command.Seek seek.Full) argument has = has
  effect-leaves tracks host left command.Recalibrate argument has = has
  effect-leaves tracks host left command.SetMask argument has = has
  effect-leaves tracks host left command.SetSector argument has = has
  effect-leaves tracks host left (command.Search field.Home test multi) argument has = from_home host multi _ has (λ x has'. has')
  effect-leaves tracks host left (command.Search field.Id test multi) argument has = from_found _ _ (next_record-finds tracks host 0 multi has) (λ x has'. has')
  effect-leaves tracks host left (command.Search field.Key test multi) argument has = from_found _ _ (this_or_next-finds _ tracks host multi has) (λ x has'. has')
  effect-leaves tracks host left (command.Read kind multi) argument has = read-leaves tracks host kind multi has
  effect-leaves tracks host left (command.Write kind) argument has = write_-leaves (tracks host.head) host left kind argument has

-- both hosts have the same volume mounted, and know the same of it
abbrev pub HaveSameVolume : HostState → HostState → Type 0
HaveSameVolume a b = (a.mounted ≡ b.mounted) × (a.protected ≡ b.protected)

-- a unit check changes the sense, and leaves the volume
answered_volume : (host : HostState) (sense_ : List ℕ) (c : Command) (chained : Bool) (o : Outcome) → Leaves host.mounted sense_ host.protected o
    → HaveSameVolume (outcome_answer c chained o).host host
answered_volume host sense_ c chained (Ok e) leaves = (leaves.0, leaves.2)
answered_volume host sense_ c chained (Err r) leaves = (leaves.0, leaves.2)

performed_volume : (tracks : Tracks) (host : HostState) (c : Command) (argument : List ℕ) (chained : Bool) → HaveSameVolume (command_answer tracks host c argument chained).host host
unfolding command_answer
performed_volume tracks host c argument chained =
    answered_volume host (host_for_command c host).sense c chained _
    (effect-leaves host.mounted (host_for_command c host).sense host.protected tracks (host_for_command c host) host.prior c argument (refl, refl, refl))

judged_volume : (tracks : Tracks) (host : HostState) (argument : List ℕ) (chained : Bool) (r : Result Command UnitCheck) → HaveSameVolume (answer_by_checks tracks host argument chained r).host host
judged_volume tracks host argument chained (Ok c) = performed_volume tracks host c argument chained
judged_volume tracks host argument chained (Err check) = (refl, refl)

opened_volume : (host : HostState) → HaveSameVolume (with_open_chain host) host
opened_volume host =
    elim host.chain_open as (λ (b : Bool). HaveSameVolume (cond b host (record host { chain_open = true; mask = 0; position = position.Start; passes = 0; prior = prior.Nothing })) host)
    [ true ↦ (refl, refl) | false ↦ (refl, refl) ]

pub opened_mounted : (host : HostState) → (with_open_chain host).mounted ≡ host.mounted
opened_mounted host = (opened_volume host).0

pub opened_protected : (host : HostState) → (with_open_chain host).protected ≡ host.protected
opened_protected host = (opened_volume host).1

pub volume_stays : (tracks : Tracks) (host : HostState) (code : ℕ) (argument : List ℕ) (chained : Bool) → (answer_on_tracks tracks host code argument chained).host.mounted ≡ host.mounted
unfolding answer_on_tracks
volume_stays tracks host code argument chained = (judged_volume tracks (with_open_chain host) argument chained (admitted_command (with_open_chain host) code argument)).0 ∙ opened_mounted host

pub mark_stays : (tracks : Tracks) (host : HostState) (code : ℕ) (argument : List ℕ) (chained : Bool) → (answer_on_tracks tracks host code argument chained).host.protected ≡ host.protected
unfolding answer_on_tracks
mark_stays tracks host code argument chained = (judged_volume tracks (with_open_chain host) argument chained (admitted_command (with_open_chain host) code argument)).1 ∙ opened_protected host

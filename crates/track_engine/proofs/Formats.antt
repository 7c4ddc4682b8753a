-- What the plain machine makes of a write count key data, once the record before the new one is found.
use Rattle.std.proofs.Common.{◌≡◌, ℕ, ◌+◌, ◌≤◌, ◌<◌, Bool, true, false, List, [], ◌∷◌, ◌++◌, take, Result, Ok, Err, ap, subst, ◌∙◌, arith}
use Rattle.std.specs.Prelude.{not}
use Rattle.std.proofs.lemmas.Bool.{le-ltb, lt-ltb}
use Rattle.mss_base.specs.declared.place.BlockPlace.{BlockPlace}
use Rattle.mss_base.specs.Content.{SiteLog}
use Rattle.channel_commands.specs.declared.command.Command.TheVariants as command
use Rattle.channel_commands.specs.declared.command.WriteKind.TheVariants as write
use Rattle.ckd_track.specs.Data.{RecordData, cost, cost_of}
use Rattle.ckd_track.specs.Track.{reading, record_at}
use Rattle.ckd_track.proofs.TrackFacts.{cost-push}
use Rattle.ckd_plain.specs.declared.done.DoneCommand.{DoneCommand}
use Rattle.ckd_plain.specs.declared.host.HostState.{HostState}
use Rattle.ckd_plain.specs.declared.host.Prior.{Prior}
use Rattle.ckd_plain.specs.declared.unit_check.Refusal.{Refusal}
use Rattle.ckd_plain.specs.declared.unit_check.UnitCheck.TheVariants as check
use Rattle.ckd_plain.specs.Checks.{◌>>=◌}
use Rattle.ckd_plain.specs.Index.{Found, same_record}
use Rattle.ckd_plain.specs.Effects.{Effect, Outcome, new_record, prior_number, fits, format_outcome, write_}
use Rattle.track_engine.specs.declared.find.RecordPlace.{RecordPlace}
use Rattle.track_engine.specs.declared.place.CylinderPlace.{CylinderPlace}
use Rattle.track_engine.specs.declared.place.NotDone.{NotDone}
use Rattle.track_engine.specs.declared.place.NotDone.TheVariants.{Refused, Fault}
use Rattle.track_engine.specs.Found.{found_at, GivesBut}
use Rattle.track_engine.specs.Tracks.{tracks_on, IsBlockOn}
use Rattle.track_engine.specs.Writing.{CarriesOut, Spells, Target, formatted_behind, target_in, target_of}
use Rattle.track_engine.proofs.Steps.{carried_over}

-- a write that is refused, since its record doesn't fit
abbrev overfull : HostState → Outcome
overfull host = Err (record { check = check.InvalidTrackFormat; host = host })

module _ (track : List RecordData) (host : HostState) (left : Prior) (argument : List ℕ) where
  abbrev with_new : ℕ → List RecordData
  with_new k = take k track ++ new_record argument ∷ []

  abbrev given : Outcome
  given = write_ track host left write.CountKeyData argument

  -- the record isn't there
  pub format_unfound : {X Y : Type 0} (view : X → Found) (view' : Y → Effect) (why : NotDone) → GivesBut view (Err why) (same_record track host (prior_number left)) → GivesBut view' (Err why) given
  unfolding write_
  format_unfound view view' (Refused refusal) is = ap (λ (r : Result Found Refusal). r >>= λ found. format_outcome (fits (with_new found.number)) (with_new found.number) found) is
  format_unfound view view' (Fault fault) is = tt

  module _ (block : List ℕ) (at : RecordPlace) (is : same_record track host (prior_number left) ≡ Ok (found_at block at)) where
    given_is : given ≡ format_outcome (fits (with_new at.number)) (with_new at.number) (found_at block at)
    unfolding write_
    given_is = ap (λ (r : Result Found Refusal). r >>= λ found. format_outcome (fits (with_new found.number)) (with_new found.number) found) is

    -- it is there, and the new one fits behind it
    pub format_fits : cost (take at.number track) + cost_of (new_record argument) ≤ 13165 → given ≡ Ok (formatted_behind track (new_record argument) at)
    format_fits cheap =
        let room : fits (with_new at.number) ≡ true = ap not (le-ltb 13165 (cost (with_new at.number)) (omega (arith, cheap, cost-push (take at.number track) (new_record argument)))) in
        given_is ∙ ap (λ (b : Bool). format_outcome b (with_new at.number) (found_at block at)) room

    -- or doesn't
    pub format_overfull : (there : HostState) → at.host ≡ there → 13165 < cost (take at.number track) + cost_of (new_record argument) → given ≡ Err (record { check = check.InvalidTrackFormat; host = there })
    format_overfull there there_is dear =
        let room : fits (with_new at.number) ≡ false = ap not (lt-ltb 13165 (cost (with_new at.number)) (omega (arith, dear, cost-push (take at.number track) (new_record argument)))) in
        given_is ∙ ap (λ (b : Bool). format_outcome b (with_new at.number) (found_at block at)) room ∙ ap overfull there_is

-- a format of the bytes that an argument spells is one of its record
pub format_spelled : (argument bytes : List ℕ) (track : List RecordData) (at : RecordPlace) (to : Target) (s t : SiteLog) (result : Result DoneCommand NotDone)
    → Spells argument bytes → CarriesOut (Ok (formatted_behind track (record_at 0 bytes) at)) (command.Write write.CountKeyData) to s t result
    → CarriesOut (Ok (formatted_behind track (new_record argument) at)) (command.Write write.CountKeyData) to s t result
format_spelled argument bytes track at to s t result spells carried =
    subst (λ (r : RecordData). CarriesOut (Ok (formatted_behind track r at)) (command.Write write.CountKeyData) to s t result) spells.spelled carried

-- a format behind the record that was found, in the block that was brought, is the write that was asked for
pub format_there : (place : CylinderPlace) (host : HostState) (left : Prior) (argument block : List ℕ) (to : BlockPlace) (at : RecordPlace) (s mid t : SiteLog) (result : Result DoneCommand NotDone)
    → write_ (tracks_on s place host.head) host left write.CountKeyData argument ≡ Ok (formatted_behind (reading block).records (new_record argument) at)
    → at.number ≡ prior_number left → IsBlockOn s place host.head block
    → to ≡ record { unit = place.unit; block = place.first_block + host.head } → mid ≡ s
    → CarriesOut (Ok (formatted_behind (reading block).records (new_record argument) at)) (command.Write write.CountKeyData) (target_in to block at) mid t result
    → CarriesOut (write_ (tracks_on s place host.head) host left write.CountKeyData argument) (command.Write write.CountKeyData) (target_of s place host left) s t result
format_there place host left argument block to at s mid t result given number there to_is same carried =
    carried_over _ _ _ _ _ _ _ _ result given number there.records to_is same carried

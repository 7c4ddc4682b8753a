-- What a stop may leave of the command under way.
use Rattle.std.specs.Prelude.{◌≡◌, ◌≢◌, ℕ, ◌-◌, Bool, true, false, List, [], length, take, slice_get, Some, Ok}
use Rattle.channel_commands.specs.declared.command.Command.TheVariants as command
use Rattle.channel_commands.specs.declared.command.WriteKind.{WriteKind}
use Rattle.channel_commands.specs.declared.command.WriteKind.TheVariants as write
use Rattle.channel_commands.specs.Data.{CallData, command as ask, done}
use Rattle.ckd_track.specs.Data.{RecordData, Volumes}
use Rattle.ckd_plain.specs.Data.{State}
use Rattle.ckd_plain.specs.Checks.{admitted_command}
use Rattle.ckd_plain.specs.Effects.{prior_number, with_record}
use Rattle.ckd_plain.specs.Plain.{with_open_chain, plain, with_track, UNIT_CHECK}

-- other bytes of the same lengths in one record, in its data alone or in its key too
pub record IsOverwritten (key_too : Bool) (old new : RecordData) : Type 0 where
  pub id : new.id ≡ old.id
  pub key_length : length new.key ≡ length old.key
  pub body_length : length new.body ≡ length old.body
  pub key : key_too ≡ false → new.key ≡ old.key

-- the same records but record k, from 1
abbrev pub IsOverwrittenAt : Bool → ℕ → List RecordData → List RecordData → Type 0
IsOverwrittenAt key_too k old new =
    (r : RecordData) × (r' : RecordData) × (slice_get old (k - 1) ≡ Some r) × IsOverwritten key_too r r' × (new ≡ with_record old k r')

-- the records up to record k alone
abbrev pub IsEndedAt : ℕ → List RecordData → List RecordData → Type 0
IsEndedAt k old new = new ≡ take k old

-- the volumes with another track under the host, which the relation leads to from the one there now
abbrev pub WithTrackUnder : State → ℕ → Volumes → (List RecordData → List RecordData → Type 0) → Type 0
WithTrackUnder s h V Leads =
    (v : ℕ) × (bind : Bool) × (track : List RecordData)
    × ((s.host h).mounted ≡ Some (v, bind))
    × Leads (s.volumes.track v (s.host h).cylinder (s.host h).head) track
    × (V ≡ with_track s.volumes v (s.host h).cylinder (s.host h).head track)

-- the plain machine does the write that the host's call asks for
abbrev pub DoesWrite : State → ℕ → CallData → WriteKind → Type 0
DoesWrite s h (ask code argument chained) kind =
    (admitted_command (with_open_chain (s.host h)) code argument ≡ Ok (command.Write kind)) × ((plain s h (ask code argument chained)).0 ≢ done UNIT_CHECK [])
DoesWrite s h _ kind = ⊥

-- What volumes a stop within a host's call may leave: those before it, those after it, or those with the record that
-- is written, and those that its formatting erases, otherwise.
pub data IsNear (s : State) (h : ℕ) (call : CallData) (V : Volumes) : Type 0 where
  unchanged : V ≡ s.volumes → IsNear s h call V
  completed : V ≡ (plain s h call).1.volumes → IsNear s h call V
  data_overwritten : DoesWrite s h call write.Data → WithTrackUnder s h V (IsOverwrittenAt false (prior_number (s.host h).prior)) → IsNear s h call V
  key_data_overwritten : DoesWrite s h call write.KeyData → WithTrackUnder s h V (IsOverwrittenAt true (prior_number (s.host h).prior)) → IsNear s h call V
  ended_before : DoesWrite s h call write.CountKeyData → WithTrackUnder s h V (IsEndedAt (prior_number (s.host h).prior)) → IsNear s h call V

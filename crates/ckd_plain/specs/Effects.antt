-- What each command does, once it has passed the checks.
use Rattle.std.specs.Prelude.{ℕ, ◌+◌, ◌-◌, ◌==◌, Bool, true, false, ◌||◌, not, nat_lt, min, List, [], ◌∷◌, ◌++◌, length, take, drop, slice_set, slice_index, Option, Some, None, Result, Ok, Err, if◌then◌else◌}
use Rattle.std.specs.Ordering.{nat_cmp}
use Rattle.std.specs.Cmp.Lexicographic.{slice_cmp}
use Rattle.std.specs.declared.cmp.Ordering.{Ordering}
use Rattle.std.specs.declared.cmp.Ordering.TheVariants as ordering
use Rattle.channel_commands.specs.declared.command.Command.{Command}
use Rattle.channel_commands.specs.declared.command.Command.TheVariants as command
use Rattle.channel_commands.specs.declared.command.SeekKind.{SeekKind}
use Rattle.channel_commands.specs.declared.command.SeekKind.TheVariants as seek
use Rattle.channel_commands.specs.declared.command.SearchField.{SearchField}
use Rattle.channel_commands.specs.declared.command.SearchField.TheVariants as field
use Rattle.channel_commands.specs.declared.command.SearchTest.{SearchTest}
use Rattle.channel_commands.specs.declared.command.SearchTest.TheVariants as test
use Rattle.channel_commands.specs.declared.command.ReadWhat.{ReadWhat}
use Rattle.channel_commands.specs.declared.command.ReadWhat.TheVariants as what
use Rattle.channel_commands.specs.declared.command.WriteKind.{WriteKind}
use Rattle.channel_commands.specs.declared.command.WriteKind.TheVariants as write
use Rattle.ckd_track.specs.Data.{RecordData, cost}
use Rattle.mss_base.specs.Geometry.{track_cost}
use Rattle.ckd_plain.specs.declared.host.HostState.{HostState}
use Rattle.ckd_plain.specs.declared.host.Position.{Position}
use Rattle.ckd_plain.specs.declared.host.Position.TheVariants as position
use Rattle.ckd_plain.specs.declared.host.Prior.{Prior}
use Rattle.ckd_plain.specs.declared.host.Prior.TheVariants as prior
use Rattle.ckd_plain.specs.declared.unit_check.Refusal.{Refusal}
use Rattle.ckd_plain.specs.declared.unit_check.UnitCheck.TheVariants as check
use Rattle.ckd_plain.specs.Data.{count_of, home_of, record_zero, padded_bytes}
use Rattle.ckd_plain.specs.Checks.{◌>>=◌, number_at}
use Rattle.ckd_plain.specs.Index.{Tracks, Found, next_record, same_record, to_home}

-- what a command does: its status and data, the host then, and the host's track where it is written
pub record Effect : Type 0 where
  pub status : ℕ
  pub bytes : List ℕ
  pub host : HostState
  pub written : Option (List RecordData)

abbrev pub Outcome : Type 0
Outcome = Result Effect Refusal

-- channel end and device end
abbrev pub DONE : ℕ
DONE = 0x0C

-- the same with status modifier
abbrev pub MET : ℕ
MET = 0x4C

-- the same with unit exception
abbrev pub END_OF_FILE : ℕ
END_OF_FILE = 0x0D

-- the statuses that a command ends with where it ends without unit check
unfoldable pub is_ending : ℕ → Bool
is_ending status = (status == DONE) || (status == MET) || (status == END_OF_FILE)

-- an effect that writes nothing
abbrev pub effect_with : ℕ → List ℕ → HostState → Effect
effect_with status bytes host = record { status = status; bytes = bytes; host = host; written = None }

-- a record without data is the end of a file
abbrev pub status_of : RecordData → ℕ
status_of r = if length r.body == 0 then END_OF_FILE else DONE

-- ---- seeks

abbrev pub seek_done : SeekKind → HostState → List ℕ → HostState
seek_done seek.Head host argument = record host { head = number_at argument 4; position = position.Start }
seek_done _ host argument = record host { cylinder = number_at argument 2; head = number_at argument 4; position = position.Start }

abbrev pub at_cylinder_zero : HostState → HostState
at_cylinder_zero host = record host { cylinder = 0; head = 0; position = position.Start }

-- ---- the record at hand, behind whose count or key the host stands

-- for a search key; R0 has no key to search
abbrev pub key_at_hand : Position → Option ℕ
key_at_hand (position.Count k) = if k == 0 then None else Some k
key_at_hand _ = None

-- for a read of this kind, R0 too
abbrev pub at_hand : ReadWhat → Position → Option ℕ
at_hand what.Data (position.Count k) = Some k
at_hand what.Data (position.Key k) = Some k
at_hand what.KeyData (position.Count k) = Some k
at_hand _ _ = None

-- the record at hand, or else the next from R1
abbrev pub this_or_next : Option ℕ → Tracks → HostState → Bool → Result Found Refusal
this_or_next (Some k) tracks host multi = same_record (tracks host.head) host k
this_or_next None tracks host multi = next_record tracks host 1 multi

-- ---- searches: the track's bytes against the argument's

abbrev pub is_met : SearchTest → Ordering → Bool
is_met test.Equal ordering.Equal = true
is_met test.High ordering.Greater = true
is_met test.EqualOrHigh ordering.Equal = true
is_met test.EqualOrHigh ordering.Greater = true
is_met _ _ = false

-- a key is compared as far as both go, and a record without one is never met
abbrev pub is_key_met : SearchTest → List ℕ → List ℕ → Bool
is_key_met test key argument =
    let compared = min (length key) (length argument) in
    if length key == 0 then false else is_met test (slice_cmp nat_cmp (take compared key) (take compared argument))

abbrev pub search_status : Bool → ℕ
search_status met = if met then MET else DONE

-- a search equal that is met lets a write follow
abbrev pub prior_left : SearchTest → Bool → Prior → Prior
prior_left test.Equal true left = left
prior_left _ _ left = prior.Nothing

abbrev pub home_searched : List ℕ → HostState → Effect
home_searched argument there =
    let met = is_met test.Equal (slice_cmp nat_cmp (drop 1 (home_of there)) (take 4 argument)) in
    effect_with (search_status met) [] (record there { position = position.Home })

abbrev pub id_searched : SearchTest → List ℕ → Found → Effect
id_searched test argument found =
    let met = is_met test (slice_cmp nat_cmp found.item.id (take 5 argument)) in
    effect_with (search_status met) [] (record found.host { position = position.Count found.number; prior = prior_left test met (prior.IdEqual found.number) })

abbrev pub key_searched : SearchTest → List ℕ → Found → Effect
key_searched test argument found =
    let met = is_key_met test found.item.key argument in
    effect_with (search_status met) [] (record found.host { position = position.Key found.number; prior = prior_left test met (prior.KeyEqual found.number) })

unfoldable pub search : Tracks → HostState → SearchField → SearchTest → Bool → List ℕ → Outcome
search tracks host field.Home test multi argument = to_home host multi >>= λ there. Ok (home_searched argument there)
search tracks host field.Id test multi argument = next_record tracks host 0 multi >>= λ found. Ok (id_searched test argument found)
search tracks host field.Key test multi argument = this_or_next (key_at_hand host.position) tracks host multi >>= λ found. Ok (key_searched test argument found)

-- ---- reads

abbrev pub read_past : List ℕ → Found → Effect
read_past bytes found = effect_with (status_of found.item) bytes (record found.host { position = position.Done found.number })

-- what a record gives to a read
abbrev pub record_given : ReadWhat → Found → Effect
record_given what.Data found = read_past found.item.body found
record_given what.KeyData found = read_past (found.item.key ++ found.item.body) found
record_given what.CountKeyData found = read_past (count_of found.item ++ found.item.key ++ found.item.body) found
record_given _ found = effect_with DONE (count_of found.item) (record found.host { position = position.Count found.number })

abbrev pub record_zero_read : HostState → Effect
record_zero_read there = effect_with DONE (count_of (record_zero there) ++ (record_zero there).body) (record there { position = position.Done 0 })

abbrev pub home_read : HostState → Effect
home_read there = effect_with DONE (home_of there) (record there { position = position.Home })

unfoldable pub read_outcome : Tracks → HostState → ReadWhat → Bool → Outcome
read_outcome tracks host what.Home multi = to_home host multi >>= λ there. Ok (home_read there)
read_outcome tracks host what.RecordZero multi = to_home host multi >>= λ there. Ok (record_zero_read there)
read_outcome tracks host what multi = this_or_next (at_hand what host.position) tracks host multi >>= λ found. Ok (record_given what found)

-- ---- writes

-- the record that the command before met or wrote
abbrev pub prior_number : Prior → ℕ
prior_number prior.Nothing = 0
prior_number (prior.IdEqual k) = k
prior_number (prior.KeyEqual k) = k
prior_number (prior.Wrote k) = k

-- record k of a track, from 1, replaced
abbrev pub with_record : List RecordData → ℕ → RecordData → List RecordData
with_record track k r = slice_set track (k - 1) r

abbrev pub with_body : RecordData → List ℕ → RecordData
with_body r argument = record r { body = padded_bytes (length r.body) argument }

abbrev pub with_key_body : RecordData → List ℕ → RecordData
with_key_body r argument =
    let bytes = padded_bytes (length r.key + length r.body) argument in
    record r { key = take (length r.key) bytes; body = drop (length r.key) bytes }

-- the record that a count, a key and data spell
abbrev pub new_record : List ℕ → RecordData
new_record argument =
    let key_length = slice_index argument 5 in
    let bytes = padded_bytes (key_length + number_at argument 6) (drop 8 argument) in
    record { id = take 5 argument; key = take key_length bytes; body = drop key_length bytes }

-- record k becomes another of the same lengths
abbrev pub update_outcome : List RecordData → Found → RecordData → Outcome
update_outcome track found new = Ok (record {
  status = status_of found.item;
  bytes = [];
  host = record found.host { position = position.Done found.number };
  written = Some (with_record track found.number new);
})

abbrev pub fits : List RecordData → Bool
fits track = not (nat_lt track_cost (cost track))

-- the track ends with a new record behind record k
abbrev pub format_outcome : Bool → List RecordData → Found → Outcome
format_outcome true track found = Ok (record {
  status = DONE;
  bytes = [];
  host = record found.host { position = position.Done (found.number + 1); prior = prior.Wrote (found.number + 1) };
  written = Some track;
})
format_outcome false track found = Err (record { check = check.InvalidTrackFormat; host = found.host })

-- the track written, with the record that the command before left
unfoldable pub write_ : List RecordData → HostState → Prior → WriteKind → List ℕ → Outcome
write_ track host left write.Data argument =
    same_record track host (prior_number left) >>= λ found. update_outcome track found (with_body found.item argument)
write_ track host left write.KeyData argument =
    same_record track host (prior_number left) >>= λ found.
    update_outcome track found (with_key_body found.item argument)
write_ track host left write.CountKeyData argument =
    same_record track host (prior_number left) >>= λ found.
    let new = take found.number track ++ new_record argument ∷ [] in format_outcome (fits new) new found

-- ---- every command

-- a search, a read or a write: the commands that need a track
abbrev pub is_data : Command → Bool
is_data (command.Search _ _ _) = true
is_data (command.Read _ _) = true
is_data (command.Write _) = true
is_data _ = false

-- the bytes that a control command or a sense gives
abbrev pub data_given : Command → HostState → List ℕ
data_given command.Sense host = host.sense
data_given _ host = []

-- left: what the command before left for a write
unfoldable pub effect : Tracks → HostState → Prior → Command → List ℕ → Outcome
effect tracks host left command.NoOp argument = Ok (effect_with DONE [] host)
effect tracks host left command.SetSector argument = Ok (effect_with DONE [] host)
effect tracks host left command.Sense argument = Ok (effect_with DONE host.sense host)
effect tracks host left command.SetMask argument = Ok (effect_with DONE [] (record host { mask = slice_index argument 0 }))
effect tracks host left (command.Seek kind) argument = Ok (effect_with DONE [] (seek_done kind host argument))
effect tracks host left command.Recalibrate argument = Ok (effect_with DONE [] (at_cylinder_zero host))
effect tracks host left (command.Search field test multi) argument = search tracks host field test multi argument
effect tracks host left (command.Read what multi) argument = read_outcome tracks host what multi
effect tracks host left (command.Write kind) argument = write_ (tracks host.head) host left kind argument

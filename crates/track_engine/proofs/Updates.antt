-- What the plain machine makes of a write data or write key data, once its record is found, and what the write leaves step by step.
use Rattle.std.proofs.Common.{◌≡◌, inr, ℕ, suc, ◌+◌, ◌-◌, ◌≤◌, Bool, true, false, List, [], ◌++◌, take, length, Some, None, Result, Ok, Err, refl, sym, ap, subst, ◌∙◌, arith, length-append, length-take, length-drop}
use Rattle.std.specs.Prelude.{slice_index_or, replicate}
use Rattle.std.proofs.lemmas.List.{length-take-le, length-replicate}
use Rattle.std.proofs.lemmas.Option.{slice_get-get_or}
use Rattle.mss_base.specs.declared.place.BlockPlace.{BlockPlace}
use Rattle.mss_base.specs.Content.{SiteLog, content, Settles, Writes, ChangesBlock}
use Rattle.mss_base.proofs.Moments.{block_weaker}
use Rattle.channel_commands.specs.declared.command.Command.TheVariants as command
use Rattle.ckd_track.specs.Data.{RecordData, blank_record}
use Rattle.ckd_track.specs.Track.{Reading, reading}
use Rattle.ckd_track.specs.Updating.{IsUpdating, MayUpdate, updated_length, with_bytes, record_behind, updated_records}
use Rattle.ckd_plain.specs.declared.done.DoneCommand.{DoneCommand}
use Rattle.ckd_plain.specs.declared.host.HostState.{HostState}
use Rattle.ckd_plain.specs.declared.host.Position.TheVariants as position
use Rattle.ckd_plain.specs.declared.host.Prior.{Prior}
use Rattle.ckd_plain.specs.declared.unit_check.Refusal.{Refusal}
use Rattle.ckd_plain.specs.Data.{records_of, padded_bytes}
use Rattle.ckd_plain.specs.Checks.{◌>>=◌}
use Rattle.ckd_plain.specs.Index.{Found, same_record}
use Rattle.ckd_plain.specs.Effects.{Effect, Outcome, effect_with, status_of, prior_number, with_body, with_key_body, write_, update_outcome as plain_updated}
use Rattle.ckd_plain.specs.Near.{IsOverwritten}
use Rattle.ckd_plain.specs.declared.found.FoundRecord.{FoundRecord}
use Rattle.ckd_plain.specs.Views.{effect_of, found_of, item_of}
use Rattle.track_engine.specs.declared.find.RecordPlace.{RecordPlace}
use Rattle.track_engine.specs.declared.place.CylinderPlace.{CylinderPlace}
use Rattle.track_engine.specs.declared.place.NotDone.{NotDone}
use Rattle.track_engine.specs.declared.place.NotDone.TheVariants.{Refused, Fault}
use Rattle.track_engine.specs.declared.place.EngineFault.TheVariants.{WriteFailed}
use Rattle.track_engine.specs.Found.{found_at, StandsIn, GivesBut}
use Rattle.track_engine.specs.Tracks.{tracks_on, IsBlockOn}
use Rattle.track_engine.specs.Writing.{IsBetween, IsStep, LeavesGates, CarriesOut, Target, target_in, target_of, update_kind, updated_at, updated_with}
use Rattle.track_engine.proofs.Steps.{carried_over}

-- ---- what the plain machine gives

long_padded : (n : ℕ) (bytes : List ℕ) → length (padded_bytes n bytes) ≡ n
long_padded n bytes = omega (arith, length-append (take n bytes) (replicate (n - length bytes) 0), length-take n bytes, length-replicate {A = ℕ} (n - length bytes) 0)

-- the record at a place behind R0 is one of the track
pub item_behind : (track : List RecordData) (host : HostState) (number : ℕ) → 1 ≤ number → slice_index_or (records_of host track) number blank_record ≡ record_behind (number - 1) track
item_behind track host number first =
    let next : number ≡ suc (number - 1) = omega arith in
    ap (λ (k : ℕ). slice_index_or (records_of host track) k blank_record) next

abbrev with_argument : Bool → RecordData → List ℕ → RecordData
with_argument false r argument = with_body r argument
with_argument true r argument = with_key_body r argument

with_argument-is : (key_too : Bool) (r : RecordData) (argument : List ℕ) → with_argument key_too r argument ≡ with_bytes key_too (padded_bytes (updated_length key_too r) argument) r
with_argument-is false r argument = refl
with_argument-is true r argument = refl

-- a write of this kind
abbrev given : Bool → List RecordData → HostState → Prior → List ℕ → Outcome
given key_too track host left argument = write_ track host left (update_kind key_too) argument

bound : (key_too : Bool) (track : List RecordData) (host : HostState) (left : Prior) (argument : List ℕ)
    → given key_too track host left argument ≡ (same_record track host (prior_number left) >>= λ found. plain_updated track found (with_argument key_too found.item argument))
unfolding write_
bound false track host left argument = refl
bound true track host left argument = refl

-- the record isn't there
pub update_unfound : {X : Type 0} (view : X → Found) (view' : DoneCommand → Effect) (key_too : Bool) (track : List RecordData) (host : HostState) (left : Prior) (argument : List ℕ) (why : NotDone)
    → GivesBut view (Err why) (same_record track host (prior_number left)) → GivesBut view' (Err why) (given key_too track host left argument)
update_unfound view view' key_too track host left argument (Refused refusal) is =
    bound key_too track host left argument ∙ ap (λ (r : Result Found Refusal). r >>= λ found. plain_updated track found (with_argument key_too found.item argument)) is
update_unfound view view' key_too track host left argument (Fault fault) is = tt

module _ (key_too : Bool) (block : List ℕ) (at : RecordPlace) (first : 1 ≤ at.number) where
  abbrev there : List RecordData
  there = (reading block).records

  -- the record that is updated
  abbrev item : RecordData
  item = record_behind (at.number - 1) there

  found_is : found_at block at ≡ record { number = at.number; item = item; host = at.host }
  found_is = (λ i. record { number = at.number; item = item_behind there at.host at.number first i; host = at.host })

  -- it is there: with the argument in the place of its data, or of its key and data
  pub update_given : (track : List RecordData) (host : HostState) (left : Prior) (argument : List ℕ) → there ≡ track → same_record track host (prior_number left) ≡ Ok (found_at block at)
      → given key_too track host left argument ≡ Ok (updated_with key_too there argument at)
  update_given track host left argument here is =
      bound key_too track host left argument
      ∙ ap (λ (r : Result Found Refusal). r >>= λ found. plain_updated track found (with_argument key_too found.item argument)) is
      ∙ ap (λ (found : Found). plain_updated track found (with_argument key_too found.item argument)) found_is
      ∙ ap (λ (r : RecordData). plain_updated track (record { number = at.number; item = item; host = at.host }) r) (with_argument-is key_too item argument)
      ∙ ap (λ (t : List RecordData). plain_updated t (record { number = at.number; item = item; host = at.host }) (with_bytes key_too (padded_bytes (updated_length key_too item) argument) item)) (sym here)

  -- as long as the bytes that are updated
  pub updated_length_there : (found : FoundRecord) (n : ℕ) → found_of found ≡ found_at block at → n ≡ updated_length key_too (item_of found) → n ≡ updated_length key_too item
  updated_length_there found n found_there n_is = n_is ∙ ap (λ (f : Found). updated_length key_too f.item) (found_there ∙ found_is)

  module _ (argument bytes : List ℕ) (n : ℕ) (n_is : n ≡ updated_length key_too item) (bytes_are : bytes ≡ padded_bytes n argument) where
    pub may_update : StandsIn block at → MayUpdate at.number at.begins_at key_too bytes block
    may_update stands = record {
      first = first;
      there = stands.there;
      found = stands.begins first;
      long = ap length bytes_are ∙ long_padded n argument ∙ n_is;
    }

    pub argument_updated : (to : Target) (s t : SiteLog) (result : Result DoneCommand NotDone)
        → CarriesOut (Ok (updated_at key_too there bytes at)) (command.Write (update_kind key_too)) to s t result
        → CarriesOut (Ok (updated_with key_too there argument at)) (command.Write (update_kind key_too)) to s t result
    argument_updated to s t result carried =
        subst (λ (b : List ℕ). CarriesOut (Ok (updated_at key_too there b at)) (command.Write (update_kind key_too)) to s t result) (bytes_are ∙ ap (λ (k : ℕ). padded_bytes k argument) n_is) carried

    -- a record without bytes to update
    pub no_bytes : updated_length key_too item ≡ 0 → bytes ≡ []
    no_bytes none =
        let no_fill : 0 - length argument ≡ 0 = omega arith in
        bytes_are ∙ ap (λ (k : ℕ). padded_bytes k argument) (n_is ∙ none) ∙ ap (λ (k : ℕ). take 0 argument ++ replicate k 0) no_fill

-- an update of the record that was found, in the block that was brought, is the write that was asked for
pub update_there : (place : CylinderPlace) (host : HostState) (left : Prior) (key_too : Bool) (argument block : List ℕ) (to : BlockPlace) (at : RecordPlace) (s mid t : SiteLog) (result : Result DoneCommand NotDone)
    → 1 ≤ at.number → same_record (tracks_on s place host.head) host (prior_number left) ≡ Ok (found_at block at)
    → at.number ≡ prior_number left → IsBlockOn s place host.head block
    → to ≡ record { unit = place.unit; block = place.first_block + host.head } → mid ≡ s
    → CarriesOut (Ok (updated_with key_too (reading block).records argument at)) (command.Write (update_kind key_too)) (target_in to block at) mid t result
    → CarriesOut (write_ (tracks_on s place host.head) host left (update_kind key_too) argument) (command.Write (update_kind key_too)) (target_of s place host left) s t result
update_there place host left key_too argument block to at s mid t result first is number there to_is same carried =
    carried_over _ _ _ _ _ _ _ _ result (update_given key_too block at first (tracks_on s place host.head) host left argument there.records is) number there.records to_is same carried

-- ---- what the write leaves

-- an update is no format
no_gates : (key_too : Bool) (number : ℕ) (old new : List ℕ) → LeavesGates (command.Write (update_kind key_too)) number old new
no_gates false number old new = tt
no_gates true number old new = tt

module _ (to : BlockPlace) (s t : SiteLog) (at : RecordPlace) (key_too : Bool) (bytes a : List ℕ) (good : (reading a).bad ≡ None)
    (first : 1 ≤ at.number) (there : at.number ≤ length (reading a).records) where
  abbrev records : List RecordData
  records = (reading a).records

  abbrev new_track : List RecordData
  new_track = updated_records key_too (at.number - 1) bytes records

  -- other bytes of the same lengths
  overwritten : (k : Bool) (r : RecordData) (left : List ℕ) → length left ≡ updated_length k r → IsOverwritten k r (with_bytes k left r)
  overwritten false r left long = record { id = refl; key_length = refl; body_length = long; key = λ _. refl }
  overwritten true r left long = record {
    id = refl;
    key_length = length-take-le (length r.key) left (omega (arith, long));
    body_length = omega (arith, long, length-drop (length r.key) left);
    key = λ same. absurd cc;
  }

  between : (k : Bool) (left : List ℕ) (now : List RecordData) → length left ≡ updated_length k (record_behind (at.number - 1) records) → now ≡ updated_records k (at.number - 1) left records
      → IsBetween (command.Write (update_kind k)) at.number records now
  between false left now long is =
      (record_behind (at.number - 1) records, with_bytes false left (record_behind (at.number - 1) records), slice_get-get_or records (at.number - 1) blank_record (omega arith), overwritten false _ left long, is)
  between true left now long is =
      (record_behind (at.number - 1) records, with_bytes true left (record_behind (at.number - 1) records), slice_get-get_or records (at.number - 1) blank_record (omega arith), overwritten true _ left long, is)

  from_updating : (b : List ℕ) → IsUpdating key_too (at.number - 1) (reading a) (reading b) → IsStep (command.Write (update_kind key_too)) at.number records new_track b
  from_updating b updates = record {
    good = ap (λ (r : Reading). r.bad) updates.reading ∙ good;
    step = inr (inr (between key_too updates.bytes (reading b).records updates.long (ap (λ (r : Reading). r.records) updates.reading)));
  }

  module _ (moments : Writes (ChangesBlock to.unit to.block (λ b. IsUpdating key_too (at.number - 1) (reading a) (reading b)) (content s)) s t) where
    steps : Writes (ChangesBlock to.unit to.block (IsStep (command.Write (update_kind key_too)) at.number records new_track) (content s)) s t
    steps = block_weaker to.unit to.block (λ b. IsUpdating key_too (at.number - 1) (reading a) (reading b)) (IsStep (command.Write (update_kind key_too)) at.number records new_track) from_updating s t moments

    -- what was done, with the track written
    abbrev writes_too : Effect → Outcome
    writes_too e = Ok (record e { written = Some new_track })

    pub update_carried_out : (d : DoneCommand) (status : ℕ) → status ≡ status_of (record_behind (at.number - 1) records)
        → effect_of d ≡ effect_with status [] (record at.host { position = position.Done at.number })
        → reading (content t to.unit to.block) ≡ record (reading a) { records = new_track } → Settles s t
        → CarriesOut (Ok (updated_at key_too records bytes at)) (command.Write (update_kind key_too)) (target_in to a at) s t (Ok d)
    update_carried_out d status status_is does holds firm = record {
      outcome = ap (λ (n : ℕ). writes_too (effect_with n [] (record at.host { position = position.Done at.number }))) (sym status_is) ∙ ap writes_too (sym does);
      moments = steps;
      exact = holds ∙ (λ i. record { records = new_track; bad = good i });
      gates = λ track is. no_gates key_too (at.number + 1) (content s to.unit to.block) (content t to.unit to.block);
      firm = firm;
      log = tt;
    }

    pub update_failed : (fault : ℕ) → CarriesOut (Ok (updated_at key_too records bytes at)) (command.Write (update_kind key_too)) (target_in to a at) s t (Err (Fault (WriteFailed fault)))
    update_failed fault = record { outcome = tt; moments = steps; exact = tt; gates = λ track is. tt; firm = tt; log = tt }

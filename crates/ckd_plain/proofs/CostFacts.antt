-- What a write puts on a track: a record of the same lengths, or a new one that fits.
use Rattle.std.proofs.Common.{◌≡◌, inl, inr, ℕ, zero, suc, ◌+◌, ◌-◌, ◌<◌, ◌≤◌, Bool, true, false, List, [], ◌∷◌, ◌++◌, length, take, drop, get_or, Option, Some, None, Result, Ok, Err, refl, sym, ap, subst, ◌∙◌, arith, lit≤, length-append, length-take, length-drop}
use Rattle.std.specs.Prelude.{IfSome, slice_get, slice_index, slice_set, replicate, All}
use Rattle.std.specs.List.{AllByRecursion}
use Rattle.std.proofs.lemmas.Bool.{ltb-true, ltb-false, not-true, cases_Bool}
use Rattle.std.proofs.lemmas.List.{length-replicate}
use Rattle.std.proofs.lemmas.List.Sums.{sum_by-set}
use Rattle.std.proofs.lemmas.Option.{slice_get_within, get_or_from_slice_get}
use Rattle.channel_commands.specs.Codes.{least, is_write}
use Rattle.channel_commands.specs.Data.{CallData, mount, demount, command, break}
use Rattle.channel_commands.specs.declared.command.Command.{Command}
use Rattle.channel_commands.specs.declared.command.Command.TheVariants as ask
use Rattle.channel_commands.specs.declared.command.WriteKind.{WriteKind}
use Rattle.channel_commands.specs.declared.command.WriteKind.TheVariants as write
use Rattle.ckd_track.specs.Data.{RecordData, blank_record, cost_of, cost_of_lengths, cost, IsTrack, HasCount, Volumes}
use Rattle.ckd_track.specs.declared.layout.TheConstants.{TRACK_COST}
use Rattle.ckd_plain.specs.declared.host.HostState.{HostState}
use Rattle.ckd_plain.specs.declared.host.Prior.{Prior}
use Rattle.ckd_plain.specs.declared.host.Prior.TheVariants as prior
use Rattle.ckd_plain.specs.declared.unit_check.Refusal.{Refusal}
use Rattle.ckd_plain.specs.declared.unit_check.UnitCheck.{UnitCheck}
use Rattle.ckd_plain.specs.Data.{padded_bytes, record_zero, State}
use Rattle.ckd_plain.specs.Checks.{◌>>=◌, number_at, is_prior_permitted, Passes}
use Rattle.ckd_plain.specs.Index.{Tracks, Found, record_at, itself, same_record}
use Rattle.ckd_plain.specs.Effects.{Effect, Outcome, prior_number, with_body, with_key_body, new_record, fits, format_outcome, write_, effect}
use Rattle.ckd_plain.specs.Plain.{with_open_chain, host_for_command, outcome_answer, command_answer, answer_by_checks, answer_on_tracks, plain, tracks_mounted, written_to}
use Rattle.ckd_plain.specs.Laws.{IsWithinCost, HasTracks, HasBytes}
use Rattle.ckd_plain.proofs.CommandFacts.{Holds, after_step, only_writes}
use Rattle.ckd_plain.proofs.CheckFacts.{admitted_is}
use Rattle.ckd_plain.proofs.TrackFacts.{found_counted}
use Rattle.ckd_plain.proofs.VolumeFacts.{kept, mount_leaves, demount_leaves}

-- ---- what a write makes of a record

length-padded : (n : ℕ) (bytes : List ℕ) → length (padded_bytes n bytes) ≡ n
length-padded n bytes = omega (arith, length-append (take n bytes) (replicate (n - length bytes) 0), length-take n bytes, length-replicate {A = ℕ} (n - length bytes) 0)

-- a record with the ID and the lengths of another
record IsAlike (r new : RecordData) : Type 0 where
  id : new.id ≡ r.id
  key : length new.key ≡ length r.key
  body : length new.body ≡ length r.body

body_alike : (r : RecordData) (argument : List ℕ) → IsAlike r (with_body r argument)
body_alike r argument = record { id = refl; key = refl; body = length-padded (length r.body) argument }

key_body_alike : (r : RecordData) (argument : List ℕ) → IsAlike r (with_key_body r argument)
key_body_alike r argument =
    let whole : length (padded_bytes (length r.key + length r.body) argument) ≡ length r.key + length r.body = length-padded _ _ in
    record {
      id = refl;
      key = omega (arith, whole, length-take (length r.key) (padded_bytes (length r.key + length r.body) argument));
      body = omega (arith, whole, length-drop (length r.key) (padded_bytes (length r.key + length r.body) argument));
    }

-- ---- what is kept of a track by each write

-- what a change to a like record, and a new record that fits, keep of a track
record IsKept (P : List RecordData → Type 0) (argument : List ℕ) : Type 0 where
  updated_ : (track : List RecordData) (i : ℕ) (r new : RecordData) → P track → slice_get track i ≡ Some r → IsAlike r new → P (slice_set track i new)
  formatted_ : (track : List RecordData) (k : ℕ) → P track → 8 ≤ length argument → fits (take k track ++ new_record argument ∷ []) ≡ true → P (take k track ++ new_record argument ∷ [])

-- record k, from 1, of the records behind R0
behind_zero : (zero_ : RecordData) (track : List RecordData) (k : ℕ) (r : RecordData) → 0 < k → slice_get (zero_ ∷ track) k ≡ Some r → slice_get track (k - 1) ≡ Some r
behind_zero zero_ track zero r later is = absurd (omega arith)
behind_zero zero_ track (suc k) r later is = let e : suc k - 1 ≡ k = omega arith in rw e is

later_prior : (left : Prior) (kind : WriteKind) → is_prior_permitted left (ask.Write kind) ≡ true → (kind ≡ write.CountKeyData → ⊥) → 0 < prior_number left
later_prior (prior.IdEqual k) write.Data permitted isn't = ltb-true 0 k permitted
later_prior (prior.IdEqual k) write.KeyData permitted isn't = ltb-true 0 k permitted
later_prior (prior.KeyEqual k) write.Data permitted isn't = ltb-true 0 k permitted
later_prior (prior.KeyEqual k) write.KeyData permitted isn't = absurd cc
later_prior (prior.Wrote k) write.Data permitted isn't = absurd cc
later_prior (prior.Wrote k) write.KeyData permitted isn't = absurd cc
later_prior prior.Nothing write.Data permitted isn't = absurd cc
later_prior prior.Nothing write.KeyData permitted isn't = absurd cc
later_prior left write.CountKeyData permitted isn't = absurd (isn't refl)

module _ (P : List RecordData → Type 0) where
  abbrev Writes : Outcome → Type 0
  Writes o = Holds (λ (e : Effect). IfSome e.written P) (λ (r : Refusal). Unit {0}) o

  -- the record that was found is record k
  abbrev IsFound : List RecordData → HostState → ℕ → Found → Type 0
  IsFound track host k f = (record_at track host k ≡ Some f.item) × (f.number ≡ k)

  itself_is : (track : List RecordData) (host : HostState) (k : ℕ) (o : Option RecordData) → record_at track host k ≡ o → Holds (IsFound track host k) (λ (r : Refusal). Unit {0}) (itself k host o)
  itself_is track host k (Some r) is = (is, refl)
  itself_is track host k None is = tt

  same_record_is : (track : List RecordData) (host : HostState) (k : ℕ) → Holds (IsFound track host k) (λ (r : Refusal). Unit {0}) (same_record track host k)
  unfolding same_record
  same_record_is track host k = itself_is track host k (record_at track host k) refl

  after_same : (track : List RecordData) (host : HostState) (k : ℕ) (f : Found → Outcome) → ((found : Found) → IsFound track host k found → Writes (f found)) → Writes (same_record track host k >>= f)
  after_same track host k f then = after_step (IsFound track host k) (λ (e : Effect). IfSome e.written P) (λ (r : Refusal). Unit {0}) (same_record track host k) f (same_record_is track host k) then

  answered_writes : (c : Command) (chained : Bool) (o : Outcome) → Writes o → IfSome (outcome_answer c chained o).written P
  answered_writes c chained (Ok e) writes = writes
  answered_writes c chained (Err r) writes = tt

  module _ (argument : List ℕ) (keeps : IsKept P argument) where
    updated_writes : (track : List RecordData) (host : HostState) (k : ℕ) (found : Found) (new : RecordData) → P track → 0 < k → IsFound track host k found → IsAlike found.item new
        → P (slice_set track (found.number - 1) new)
    updated_writes track host k found new good later is alike =
        keeps.updated_ track (found.number - 1) found.item new good (rw is.1 (behind_zero (record_zero host) track k found.item later is.0)) alike

    formatted_writes : (track : List RecordData) (k : ℕ) (b : Bool) (found : Found) → P track → 8 ≤ length argument → fits (take k track ++ new_record argument ∷ []) ≡ b
        → Writes (format_outcome b (take k track ++ new_record argument ∷ []) found)
    formatted_writes track k true found good long is = keeps.formatted_ track k good long is
    formatted_writes track k false found good long is = tt

    write_writes : (track : List RecordData) (host : HostState) (left : Prior) (kind : WriteKind) → P track → is_prior_permitted left (ask.Write kind) ≡ true → least (ask.Write kind) ≤ length argument
        → Writes (write_ track host left kind argument)
    unfolding write_
    write_writes track host left write.Data good permitted long = after_same track host (prior_number left) _
        (λ found is. updated_writes track host _ found (with_body found.item argument) good (later_prior left write.Data permitted (λ e. cc)) is (body_alike found.item argument))
    write_writes track host left write.KeyData good permitted long = after_same track host (prior_number left) _
        (λ found is. updated_writes track host _ found (with_key_body found.item argument) good (later_prior left write.KeyData permitted (λ e. cc)) is (key_body_alike found.item argument))
    write_writes track host left write.CountKeyData good permitted long = after_same track host (prior_number left) _
        (λ found is. formatted_writes track found.number (fits (take found.number track ++ new_record argument ∷ [])) found good long refl)

    write_performed : (tracks : Tracks) (host : HostState) (c : Command) (chained : Bool) → P (tracks host.head) → Passes host c argument → is_write c ≡ true
        → IfSome (command_answer tracks host c argument chained).written P
    unfolding command_answer effect
    write_performed tracks host (ask.Write kind) chained good passes writes =
        answered_writes (ask.Write kind) chained _ (write_writes (tracks host.head) (host_for_command (ask.Write kind) host) host.prior kind good passes.prior_ passes.long)
    write_performed tracks host ask.NoOp chained good passes writes = absurd cc
    write_performed tracks host ask.Sense chained good passes writes = absurd cc
    write_performed tracks host (ask.Seek kind) chained good passes writes = absurd cc
    write_performed tracks host ask.Recalibrate chained good passes writes = absurd cc
    write_performed tracks host ask.SetMask chained good passes writes = absurd cc
    write_performed tracks host ask.SetSector chained good passes writes = absurd cc
    write_performed tracks host (ask.Search field test multi) chained good passes writes = absurd cc
    write_performed tracks host (ask.Read what multi) chained good passes writes = absurd cc

    performed_writes : (tracks : Tracks) (host : HostState) (c : Command) (chained : Bool) → P (tracks host.head) → Passes host c argument → IfSome (command_answer tracks host c argument chained).written P
    performed_writes tracks host c chained good passes = elim (cases_Bool (is_write c)) [
      | inl writes ↦ write_performed tracks host c chained good passes writes
      | inr isn't ↦ rw (only_writes tracks host c argument chained isn't) tt
    ]

    judged_writes : (tracks : Tracks) (host : HostState) (chained : Bool) (r : Result Command UnitCheck) → P (tracks host.head) → ((c : Command) → r ≡ Ok c → Passes host c argument)
        → IfSome (answer_by_checks tracks host argument chained r).written P
    judged_writes tracks host chained (Ok c) good passes = performed_writes tracks host c chained good (passes c refl)
    judged_writes tracks host chained (Err check) good passes = tt

    run_writes : (tracks : Tracks) (host : HostState) (code : ℕ) (chained : Bool) → ((head : ℕ) → P (tracks head)) → IfSome (answer_on_tracks tracks host code argument chained).written P
    unfolding answer_on_tracks
    run_writes tracks host code chained good = judged_writes tracks (with_open_chain host) chained _ (good (with_open_chain host).head) (λ c is. (admitted_is (with_open_chain host) code argument c is).passes)

    -- all tracks are as P says
    abbrev AllTracks : Volumes → Type 0
    AllTracks volumes = (v c head : ℕ) → P (volumes.track v c head)

    mounted_tracks : (volumes : Volumes) (m : Option (ℕ × Bool)) (c head : ℕ) → P [] → AllTracks volumes → P (tracks_mounted volumes m c head)
    mounted_tracks volumes (Some m) c head blank good = good m.0 c head
    mounted_tracks volumes None c head blank good = blank

    written_tracks : (volumes : Volumes) (host : HostState) (o : Option (List RecordData)) → IfSome o P → AllTracks volumes → AllTracks (written_to volumes host o)
    written_tracks volumes host o written good v c head = elim (kept volumes host host.mounted o v c head refl) [
      | inl stays ↦ rw stays (good v c head)
      | inr is ↦ rw is.0 at written
    ]

    command_keeps : (s : State) (h code : ℕ) (chained : Bool) → P [] → AllTracks s.volumes → AllTracks (plain s h (command code argument chained)).1.volumes
    unfolding plain
    command_keeps s h code chained blank good =
        written_tracks s.volumes (s.host h) _ (run_writes _ (s.host h) code chained (λ head. mounted_tracks s.volumes (s.host h).mounted (s.host h).cylinder head blank good)) good

  plain_keeps : (s : State) (h : ℕ) (call : CallData) → ((code : ℕ) (argument : List ℕ) (chained : Bool) → call ≡ command code argument chained → IsKept P argument) → P []
      → ((v c head : ℕ) → P (s.volumes.track v c head)) → (v c head : ℕ) → P ((plain s h call).1.volumes.track v c head)
  unfolding plain
  plain_keeps s h (mount volume bind) keeps blank good v c head = rw (mount_leaves s h volume bind) (good v c head)
  plain_keeps s h demount keeps blank good v c head = rw (demount_leaves s h) (good v c head)
  plain_keeps s h (break cause) keeps blank good v c head = good v c head
  plain_keeps s h (command code argument chained) keeps blank good v c head = command_keeps argument (keeps code argument chained refl) s h code chained blank good v c head

-- ---- the cost

cost-alike : (r new : RecordData) → IsAlike r new → cost_of new ≡ cost_of r
cost-alike r new alike = λ i. cost_of_lengths (alike.key i) (alike.body i)

cost-set : (track : List RecordData) (i : ℕ) (r new : RecordData) → slice_get track i ≡ Some r → IsAlike r new → cost (slice_set track i new) ≡ cost track
cost-set track i r new is alike =
    let there : get_or track i blank_record ≡ r = get_or_from_slice_get track i r blank_record is in
    let same : cost_of (get_or track i blank_record) ≡ cost_of new = ap cost_of there ∙ sym (cost-alike r new alike) in
    omega (arith, sum_by-set cost_of track i new blank_record (slice_get_within track i r is), same)

fits_cost : (track : List RecordData) → fits track ≡ true → cost track ≤ TRACK_COST
fits_cost track is = ltb-false TRACK_COST (cost track) (not-true _ is)

cost_kept : (argument : List ℕ) → IsKept (λ track. cost track ≤ TRACK_COST) argument
cost_kept argument = record {
  updated_ = λ track i r new good is alike. omega (arith, good, cost-set track i r new is alike);
  formatted_ = λ track k good long is. fits_cost (take k track ++ new_record argument ∷ []) is;
}

-- ---- tracks

each_set : (track : List RecordData) (i : ℕ) (r new : RecordData) → AllByRecursion HasCount track → slice_get track i ≡ Some r → HasCount new → AllByRecursion HasCount (slice_set track i new)
each_set [] i r new all is counted = tt
each_set (x ∷ xs) zero r new all is counted = (counted, all.1)
each_set (x ∷ xs) (suc i) r new all is counted = (all.0, each_set xs i r new all.1 is counted)

each_push : (k : ℕ) (track : List RecordData) (new : RecordData) → AllByRecursion HasCount track → HasCount new → AllByRecursion HasCount (take k track ++ new ∷ [])
each_push zero track new all counted = (counted, tt)
each_push (suc k) [] new all counted = (counted, tt)
each_push (suc k) (x ∷ xs) new all counted = (all.0, each_push k xs new all.1 counted)

alike_counted : (r new : RecordData) → IsAlike r new → HasCount r → HasCount new
alike_counted r new alike counted = record { id = ap length alike.id ∙ counted.id; key = omega (arith, alike.key, counted.key); body = omega (arith, alike.body, counted.body) }

new_counted : (argument : List ℕ) → All (λ b. b < 256) argument → 8 ≤ length argument → HasCount (new_record argument)
new_counted argument bytes long =
    let key_length : ℕ = slice_index argument 5 in
    let key_small : slice_index argument 5 < 256 = bytes 5 0 (omega (arith, long)) in
    let high : slice_index argument 6 < 256 = bytes 6 0 (omega (arith, long)) in
    let low : slice_index argument 7 < 256 = bytes 7 0 (omega (arith, long)) in
    let data_length : ℕ = number_at argument 6 in
    let small : number_at argument 6 < 65536 = omega (arith, high, low) in
    let whole : length (padded_bytes (slice_index argument 5 + number_at argument 6) (drop 8 argument)) ≡ slice_index argument 5 + number_at argument 6 = length-padded _ _ in
    record {
      id = omega (arith, length-take 5 argument, long);
      key = omega (arith, whole, key_small, length-take (slice_index argument 5) (padded_bytes (slice_index argument 5 + number_at argument 6) (drop 8 argument)));
      body = omega (arith, whole, small, length-drop (slice_index argument 5) (padded_bytes (slice_index argument 5 + number_at argument 6) (drop 8 argument)));
    }

tracks_kept : (argument : List ℕ) → All (λ b. b < 256) argument → IsKept IsTrack argument
tracks_kept argument bytes = record {
  updated_ = λ track i r new good is alike. record {
    cost_ = omega (arith, good.cost_, cost-set track i r new is alike);
    each = each_set track i r new good.each is (alike_counted r new alike (found_counted track i r good is));
  };
  formatted_ = λ track k good long is. record {
    cost_ = fits_cost (take k track ++ new_record argument ∷ []) is;
    each = each_push k track (new_record argument) good.each (new_counted argument bytes long);
  };
}

blank_track : IsTrack []
blank_track = record { cost_ = lit≤ tt; each = tt }

pub costs_stay : (s : State) (h : ℕ) (call : CallData) → IsWithinCost s.volumes → IsWithinCost (plain s h call).1.volumes
costs_stay s h call good = plain_keeps (λ track. cost track ≤ TRACK_COST) s h call (λ code argument chained is. cost_kept argument) (lit≤ tt) good

bytes_of : (call : CallData) (code : ℕ) (argument : List ℕ) (chained : Bool) → HasBytes call → call ≡ command code argument chained → All (λ b. b < 256) argument
bytes_of call code argument chained bytes is = subst HasBytes is bytes

pub tracks_stay : (s : State) (h : ℕ) (call : CallData) → HasBytes call → HasTracks s.volumes → HasTracks (plain s h call).1.volumes
tracks_stay s h call bytes good = plain_keeps IsTrack s h call (λ code argument chained is. tracks_kept argument (bytes_of call code argument chained bytes is)) blank_track good

-- A record that was written is read back.
use Rattle.std.proofs.Common.{◌≡◌, inl, inr, ℕ, zero, suc, ◌+◌, ◌<◌, ◌≤◌, Bool, true, false, cond, List, [], ◌∷◌, ◌++◌, length, take, Option, Some, None, Result, Ok, Err, refl, sym, ap, subst, ◌∙◌, arith, length-take}
use Rattle.std.specs.Prelude.{◌==◌, ◌&&◌, is_some, IsSome, slice_get}
use Rattle.std.proofs.lemmas.Bool.Decides.{eqb_tells}
use Rattle.std.proofs.lemmas.Option.{slice_get_within}
use Rattle.channel_commands.specs.Data.{command, done}
use Rattle.channel_commands.specs.declared.command.Command.{Command}
use Rattle.channel_commands.specs.declared.command.Command.TheVariants as ask
use Rattle.channel_commands.specs.declared.command.WriteKind.TheVariants as write
use Rattle.ckd_track.specs.Data.{RecordData, Volumes}
use Rattle.ckd_plain.specs.declared.host.HostState.{HostState}
use Rattle.ckd_plain.specs.declared.host.Position.TheVariants as position
use Rattle.ckd_plain.specs.declared.host.Prior.TheVariants as prior
use Rattle.ckd_plain.specs.declared.unit_check.UnitCheck.{UnitCheck}
use Rattle.ckd_plain.specs.Data.{State, record_zero, records_of}
use Rattle.ckd_plain.specs.Checks.{◌>>=◌, admitted_command}
use Rattle.ckd_plain.specs.Index.{Tracks, Found, record_at, itself, same_record}
use Rattle.ckd_plain.specs.Effects.{Outcome, DONE, prior_number, new_record, fits, format_outcome, write_, effect}
use Rattle.ckd_plain.specs.Plain.{Answer, UNIT_CHECK, with_open_chain, host_for_command, outcome_answer, command_answer, answer_by_checks, answer_on_tracks, plain, tracks_under, tracks_mounted, with_track, written_to, written_mounted, written_there}
use Rattle.ckd_plain.specs.Laws.{track_under, record_under, HasVolume, met_by, IsPutBehind, IsNewId, IsReadBack}
use Rattle.ckd_plain.proofs.CheckFacts.{IsAdmitted, admitted_is}
use Rattle.ckd_plain.proofs.HostFacts.{host_itself}
use Rattle.ckd_plain.proofs.ReadBackFacts.{IsPlaced, opened_placed, record_at-placed, read_back}

abbrev pub Writes : Command
Writes = ask.Write write.CountKeyData

-- what is answered where a record was put behind record k of the track, for a host that was so
pub record IsPut (track : List RecordData) (host : HostState) (k : ℕ) (new : RecordData) (chained : Bool) (a : Answer) : Type 0 where
  there : (r : RecordData) × (record_at track host k ≡ Some r)
  written_ : a.written ≡ Some (take k track ++ new ∷ [])
  placed : IsPlaced host a.host
  chain_ : chained ≡ false → a.host.chain_open ≡ false

module _ (track : List RecordData) (host : HostState) (argument : List ℕ) (chained : Bool) where
  abbrev ends_with : ℕ → List RecordData
  ends_with k = take k track ++ new_record argument ∷ []

  format_puts : (k : ℕ) (b : Bool) (r : RecordData) → record_at track host k ≡ Some r
      → (outcome_answer Writes chained (format_outcome b (ends_with k) (record { number = k; item = r; host = host }))).reply ≡ done DONE []
      → IsPut track host k (new_record argument) chained (outcome_answer Writes chained (format_outcome b (ends_with k) (record { number = k; item = r; host = host })))
  format_puts k true r is replied = record {
    there = (r, is);
    written_ = refl;
    placed = record { mounted_ = refl; cylinder_ = refl; head_ = refl };
    chain_ = λ last. ap (λ (b : Bool). b && true) last;
  }
  format_puts k false r is replied = absurd (let n : UNIT_CHECK ≡ DONE = cc in omega (arith, n))

  abbrev formats : Found → Outcome
  formats found = let new = take found.number track ++ new_record argument ∷ [] in format_outcome (fits new) new found

  itself_puts : (k : ℕ) (o : Option RecordData) → record_at track host k ≡ o → (outcome_answer Writes chained (itself k host o >>= formats)).reply ≡ done DONE []
      → IsPut track host k (new_record argument) chained (outcome_answer Writes chained (itself k host o >>= formats))
  itself_puts k (Some r) is replied = format_puts k (fits (ends_with k)) r is replied
  itself_puts k None is replied = absurd (let n : UNIT_CHECK ≡ DONE = cc in omega (arith, n))

module _ (tracks : Tracks) (host : HostState) (argument : List ℕ) (chained : Bool) where
  pub performed_puts : (command_answer tracks host Writes argument chained).reply ≡ done DONE []
      → IsPut (tracks host.head) (host_for_command Writes host) (prior_number host.prior) (new_record argument) chained (command_answer tracks host Writes argument chained)
  unfolding command_answer effect write_ same_record
  performed_puts replied = itself_puts (tracks host.head) (host_for_command Writes host) argument chained (prior_number host.prior) (record_at (tracks host.head) (host_for_command Writes host) (prior_number host.prior)) refl replied

  abbrev IsDone : Answer → Type 0
  IsDone a = IsPut (tracks host.head) (host_for_command Writes host) (prior_number host.prior) (new_record argument) chained a × (8 ≤ length argument)

  judged_puts : (r : Result Command UnitCheck) → ((c : Command) → r ≡ Ok c → IsAdmitted host 0x1D argument c) → (answer_by_checks tracks host argument chained r).reply ≡ done DONE [] → IsDone (answer_by_checks tracks host argument chained r)
  judged_puts (Ok c) is replied =
      let admitted_ : IsAdmitted host 0x1D argument c = is c refl in
      let same : Writes ≡ c = let e : Some Writes ≡ Some c = admitted_.known_ in cc in
      subst (λ (d : Command). IsAdmitted host 0x1D argument d → (command_answer tracks host d argument chained).reply ≡ done DONE [] → IsDone (command_answer tracks host d argument chained)) same
      (λ i q. (performed_puts q, i.passes.long)) admitted_ replied
  judged_puts (Err check) is replied = absurd (let n : UNIT_CHECK ≡ DONE = cc in omega (arith, n))

-- ---- the state after it

some_of : {X : Type 0} (o : Option X) → IsSome o → (x : X) × (o ≡ Some x)
some_of (Some x) is = (x, refl)
some_of None is = absurd cc

same_number : (n : ℕ) → (n == n) ≡ true
same_number n = elim (eqb_tells n n) [ inl t ↦ t.0 | inr t ↦ absurd (t.1 refl) ]

with_track_there : (volumes : Volumes) (v c h : ℕ) (track : List RecordData) → (with_track volumes v c h track).track v c h ≡ track
with_track_there volumes v c h track = rw (same_number v, same_number c, same_number h) refl

pushed_at : (k : ℕ) (track : List RecordData) (new : RecordData) → k ≤ length track → slice_get (take k track ++ new ∷ []) k ≡ Some new
pushed_at zero track new inside = refl
pushed_at (suc k) [] new inside = absurd (omega arith)
pushed_at (suc k) (x ∷ xs) new inside = pushed_at k xs new (omega arith)

pushed_before : (k i : ℕ) (track : List RecordData) (new : RecordData) → k ≤ length track → i < k → slice_get (take k track ++ new ∷ []) i ≡ slice_get track i
pushed_before zero i track new inside below = absurd (omega arith)
pushed_before (suc k) i [] new inside below = absurd (omega arith)
pushed_before (suc k) zero (x ∷ xs) new inside below = refl
pushed_before (suc k) (suc i) (x ∷ xs) new inside below = pushed_before k i xs new (omega arith) (omega arith)

-- the new record is record k + 1
put_there : (zero_ : RecordData) (k : ℕ) (track : List RecordData) (new : RecordData) → k ≤ length track → slice_get (zero_ ∷ take k track ++ new ∷ []) (k + 1) ≡ Some new
put_there zero_ k track new inside =
    let e : k + 1 ≡ suc k = omega arith in
    ap (λ (n : ℕ). slice_get (zero_ ∷ take k track ++ new ∷ []) n) e ∙ pushed_at k track new inside

-- the records up to record k stay
kept_before : (zero_ : RecordData) (k j : ℕ) (track : List RecordData) (new : RecordData) → k ≤ length track → j ≤ k → slice_get (zero_ ∷ take k track ++ new ∷ []) j ≡ slice_get (zero_ ∷ track) j
kept_before zero_ k zero track new inside below = refl
kept_before zero_ k (suc j) track new inside below = pushed_before k j track new inside (omega arith)

module _ (s : State) (h : ℕ) (argument : List ℕ) (chained : Bool) (volume : HasVolume s h) where
  abbrev host : HostState
  host = s.host h

  abbrev after : State
  after = (plain s h (command 0x1D argument chained)).1

  abbrev answer : Answer
  answer = answer_on_tracks (tracks_under s.volumes host) host 0x1D argument chained

  -- the track under a host that is placed as it was
  track_written : (w : List RecordData) (there : HostState) → answer.written ≡ Some w → IsPlaced host there → tracks_under (written_to s.volumes host answer.written) there there.head ≡ w
  track_written w there is placed =
      let serial = some_of (s.volumes.serial volume.number) volume.there in
      (λ i. tracks_mounted (written_mounted s.volumes (volume.mounted_ i) host (is i)) ((placed.mounted_ ∙ volume.mounted_) i) (placed.cylinder_ i) (placed.head_ i))
      ∙ ap (λ (o : Option (List ℕ)). (written_there s.volumes volume.number host o w).track volume.number host.cylinder host.head) serial.1
      ∙ with_track_there s.volumes volume.number host.cylinder host.head w

  placed_twice : (a b c : HostState) → IsPlaced a b → IsPlaced b c → IsPlaced a c
  placed_twice a b c p q = record { mounted_ = q.mounted_ ∙ p.mounted_; cylinder_ = q.cylinder_ ∙ p.cylinder_; head_ = q.head_ ∙ p.head_ }

  record IsDoneThen : Type 0 where
    put : IsPutBehind h (met_by s h) (new_record argument) s after
    placed : IsPlaced host (after.host h)
    long : 8 ≤ length argument
    chain_ : chained ≡ false → (after.host h).chain_open ≡ false

  puts : (plain s h (command 0x1D argument chained)).0 ≡ done DONE [] → IsDoneThen
  unfolding plain answer_on_tracks
  puts replied =
      let tracks : Tracks = tracks_under s.volumes host in
      let d : IsDone tracks (with_open_chain host) argument chained answer = judged_puts tracks (with_open_chain host) argument chained (admitted_command (with_open_chain host) 0x1D argument) (λ c is. admitted_is (with_open_chain host) 0x1D argument c is) replied in
      let there : (after.host h) ≡ answer.host = host_itself s.host h answer.host in
      let opening = opened_placed host in
      let placed : IsPlaced host answer.host = record { mounted_ = d.0.placed.mounted_ ∙ opening.mounted_; cylinder_ = d.0.placed.cylinder_ ∙ opening.cylinder_; head_ = d.0.placed.head_ ∙ opening.head_ } in
      let same_track : tracks (with_open_chain host).head ≡ track_under s h = ap (λ (n : ℕ). tracks n) opening.head_ in
      let inside : met_by s h < length (records_of (host_for_command Writes (with_open_chain host)) (tracks (with_open_chain host).head)) = slice_get_within (records_of (host_for_command Writes (with_open_chain host)) (tracks (with_open_chain host).head)) (met_by s h) d.0.there.0 d.0.there.1 in
      record {
        put = record {
          inside = omega (arith, inside, ap length same_track);
          track_ = ap (λ (x : HostState). tracks_under (written_to s.volumes host answer.written) x x.head) there
              ∙ track_written (take (met_by s h) (tracks (with_open_chain host).head) ++ new_record argument ∷ []) answer.host d.0.written_ placed
              ∙ ap (λ (track : List RecordData). take (met_by s h) track ++ new_record argument ∷ []) same_track;
        };
        placed = subst (λ (x : HostState). IsPlaced host x) (sym there) placed;
        long = d.1;
        chain_ = λ last. ap (λ (x : HostState). x.chain_open) there ∙ d.0.chain_ last;
      }

pub put_behind : (s : State) (h : ℕ) (argument : List ℕ) (chained : Bool) → HasVolume s h → (plain s h (command 0x1D argument chained)).0 ≡ done DONE []
    → IsPutBehind h (met_by s h) (new_record argument) s (plain s h (command 0x1D argument chained)).1
put_behind s h argument chained volume replied = (puts s h argument chained volume replied).put

index_after : (host : HostState) → host.chain_open ≡ false → (with_open_chain host).position ≡ position.Start
index_after host closed = ap (λ (b : Bool). (cond b host (record host { chain_open = true; mask = 0; position = position.Start; passes = 0; prior = prior.Nothing })).position) closed

pub written_back : (s : State) (h : ℕ) (argument : List ℕ) → HasVolume s h → (plain s h (command 0x1D argument false)).0 ≡ done DONE [] → IsNewId s h (met_by s h) (new_record argument).id
    → IsReadBack (plain s h (command 0x1D argument false)).1 h (met_by s h + 1) (new_record argument)
written_back s h argument volume replied isNew =
    let k : ℕ = met_by s h in
    let new : RecordData = new_record argument in
    let t : State = (plain s h (command 0x1D argument false)).1 in
    let d = puts s h argument false volume replied in
    let found : record_under t h (k + 1) ≡ Some new =
    ap (λ (track : List RecordData). record_at track (t.host h) (k + 1)) d.put.track_ ∙ put_there (record_zero (t.host h)) k (track_under s h) new d.put.inside in
    let same : (j : ℕ) → j ≤ k → record_under t h j ≡ record_under s h j =
    λ j below. ap (λ (track : List RecordData). record_at track (t.host h) j) d.put.track_ ∙ kept_before (record_zero (t.host h)) k j (track_under s h) new d.put.inside below
    ∙ record_at-placed (λ head. track_under s h) (s.host h) (t.host h) j d.placed in
    read_back t h (k + 1) new
    (record { mounted_ = ap is_some (d.placed.mounted_ ∙ volume.mounted_); index_ = index_after (t.host h) (d.chain_ refl) })
    (record {
      there = found;
      long = omega (arith, length-take 5 argument, d.long);
      earlier = λ j other below is. isNew j other (omega (arith, below)) (sym (same j (omega (arith, below))) ∙ is);
    })

-- A chain of searches for a record's ID, and a read of its data.
use Rattle.std.proofs.Common.{◌≡◌, ◌≢◌, ℕ, zero, suc, ◌+◌, ◌<◌, ◌≤◌, Bool, true, false, cond, List, [], ◌∷◌, ◌++◌, length, take, get_or, Option, Some, Result, Ok, refl, sym, ap, ◌∙◌, arith}
use Rattle.std.specs.Prelude.{◌==◌, ◌&&◌, not, is_some, slice_get, replicate}
use Rattle.std.specs.Ordering.{nat_cmp, ordering_reverse}
use Rattle.std.specs.Cmp.Lexicographic.{slice_cmp}
use Rattle.std.specs.declared.cmp.Ordering.{Ordering}
use Rattle.std.specs.declared.cmp.Ordering.TheVariants as ordering
use Rattle.std.proofs.lemmas.Cmp.{nat_list_cmp_total}
use Rattle.std.proofs.lemmas.List.{take_all}
use Rattle.std.proofs.lemmas.Map.Lookups.{exact_bytes}
use Rattle.std.proofs.lemmas.Option.{slice_get_within, slice_get-get_or}
use Rattle.channel_commands.specs.Data.{command, done}
use Rattle.channel_commands.specs.declared.command.Command.{Command}
use Rattle.channel_commands.specs.declared.command.Command.TheVariants as ask
use Rattle.channel_commands.specs.declared.command.ReadWhat.TheVariants as what
use Rattle.channel_commands.specs.declared.command.SearchField.TheVariants as field
use Rattle.channel_commands.specs.declared.command.SearchTest.TheVariants as test
use Rattle.ckd_track.specs.Data.{RecordData, blank_record}
use Rattle.ckd_plain.specs.declared.host.HostState.{HostState}
use Rattle.ckd_plain.specs.declared.host.Position.{Position}
use Rattle.ckd_plain.specs.declared.host.Position.TheVariants as position
use Rattle.ckd_plain.specs.declared.host.Prior.TheVariants as prior
use Rattle.ckd_plain.specs.declared.unit_check.Refusal.{Refusal}
use Rattle.ckd_plain.specs.declared.unit_check.UnitCheck.{UnitCheck}
use Rattle.ckd_plain.specs.Data.{State, two_bytes, records_of}
use Rattle.ckd_plain.specs.Checks.{◌>>=◌, admitted_command}
use Rattle.ckd_plain.specs.Index.{Tracks, Found, candidate, record_at, look_or_past, next_within, next_record, itself, same_record}
use Rattle.ckd_plain.specs.Effects.{DONE, MET, is_met, search_status, status_of, id_searched, this_or_next, at_hand, record_given, search, read_outcome, effect}
use Rattle.ckd_plain.specs.Plain.{Answer, Replied, with_open_chain, host_for_command, outcome_answer, effect_answer, command_answer, answer_by_checks, answer_on_tracks, plain, replies_of, tracks_under, tracks_mounted, written_to}
use Rattle.ckd_plain.specs.Laws.{record_under, IsFirst, IsAtIndex, search_and_read, met_and_read, IsReadBack}
use Rattle.ckd_plain.proofs.CheckFacts.{search_admitted, read_admitted}
use Rattle.ckd_plain.proofs.HostFacts.{host_itself}
use Rattle.ckd_plain.proofs.IndexFacts.{next_within-suc}
use Rattle.ckd_plain.proofs.VolumeFacts.{unwritten}

abbrev Searches : Command
Searches = ask.Search field.Id test.Equal false

abbrev Reads : Command
Reads = ask.Read what.Data false

-- ---- one search, and one read, of a host whose chain is open

abbrev pub found_as : ℕ → RecordData → HostState → Found
found_as k r host = record { number = k; item = r; host = host }

pub next_finds : (tracks : Tracks) (host : HostState) (k : ℕ) (r : RecordData) → candidate host.position 0 ≡ k → record_at (tracks host.head) host k ≡ Some r → next_record tracks host 0 false ≡ Ok (found_as k r host)
unfolding next_record
next_finds tracks host k r is there =
    next_within-suc 19 tracks host 0 false
    ∙ ap (λ (n : ℕ). look_or_past n host false (record_at (tracks host.head) host n) (λ passed. next_within 19 tracks passed 0 false)) is
    ∙ ap (λ (o : Option RecordData). look_or_past k host false o (λ passed. next_within 19 tracks passed 0 false)) there

search_is : (tracks : Tracks) (host : HostState) (id : List ℕ) (k : ℕ) (r : RecordData) → candidate host.position 0 ≡ k → record_at (tracks host.head) host k ≡ Some r
    → command_answer tracks host Searches id true ≡ effect_answer Searches true (id_searched test.Equal id (found_as k r (host_for_command Searches host)))
unfolding command_answer effect search
search_is tracks host id k r is there =
    ap (λ (o : Result Found Refusal). outcome_answer Searches true (o >>= λ found. Ok (id_searched test.Equal id found))) (next_finds tracks (host_for_command Searches host) k r is there)

read_is : (tracks : Tracks) (host : HostState) (k : ℕ) (r : RecordData) → host.position ≡ position.Count k → record_at (tracks host.head) host k ≡ Some r
    → command_answer tracks host Reads [] false ≡ effect_answer Reads false (record_given what.Data (found_as k r (host_for_command Reads host)))
unfolding command_answer effect read_outcome same_record
read_is tracks host k r is there =
    ap (λ (p : Position). outcome_answer Reads false (this_or_next (at_hand what.Data p) tracks (host_for_command Reads host) false >>= λ found. Ok (record_given what.Data found))) is
    ∙ ap (λ (o : Option RecordData). outcome_answer Reads false (itself k (host_for_command Reads host) o >>= λ found. Ok (record_given what.Data found))) there

-- ---- the host whose chain is opened, or is open

opened_open : (host : HostState) → host.chain_open ≡ true → with_open_chain host ≡ host
opened_open host open_ = ap (λ (b : Bool). cond b host (record host { chain_open = true; mask = 0; position = position.Start; passes = 0; prior = prior.Nothing })) open_

-- what opening a chain leaves of a host
pub record IsPlaced (from to : HostState) : Type 0 where
  pub mounted_ : to.mounted ≡ from.mounted
  pub cylinder_ : to.cylinder ≡ from.cylinder
  pub head_ : to.head ≡ from.head

pub opened_placed : (host : HostState) → IsPlaced host (with_open_chain host)
opened_placed host =
    elim host.chain_open as (λ (b : Bool). IsPlaced host (cond b host (record host { chain_open = true; mask = 0; position = position.Start; passes = 0; prior = prior.Nothing }))) [
      | true ↦ record { mounted_ = refl; cylinder_ = refl; head_ = refl }
      | false ↦ record { mounted_ = refl; cylinder_ = refl; head_ = refl }
    ]

-- the records of a track are the same for hosts that are placed the same
pub record_at-placed : (tracks : Tracks) (from to : HostState) (k : ℕ) → IsPlaced from to → record_at (tracks to.head) to k ≡ record_at (tracks from.head) from k
record_at-placed tracks from to k same =
    let zero_at : ℕ → ℕ → RecordData = λ c h. record { id = two_bytes c ++ two_bytes h ++ 0 ∷ []; key = []; body = replicate 8 0 } in
    (λ i. slice_get (zero_at (same.cylinder_ i) (same.head_ i) ∷ tracks (same.head_ i)) k)

-- ---- the state after a search

-- the host stands on the same track of the same volumes
record IsOnTrack (h : ℕ) (s t : State) : Type 0 where
  volumes_ : t.volumes ≡ s.volumes
  placed : IsPlaced (s.host h) (t.host h)

record_under-same : (h k : ℕ) (s t : State) → IsOnTrack h s t → record_under t h k ≡ record_under s h k
record_under-same h k s t on =
    (λ i. record_at (tracks_mounted (on.volumes_ i) (on.placed.mounted_ i) (on.placed.cylinder_ i) (t.host h).head) (t.host h) k)
    ∙ record_at-placed (tracks_under s.volumes (s.host h)) (s.host h) (t.host h) k on.placed

-- what a search of record k leaves
record IsSearched (s : State) (h k : ℕ) (r : RecordData) (id : List ℕ) (x : Replied) : Type 0 where
  reply_ : x.0 ≡ done (search_status (is_met test.Equal (slice_cmp nat_cmp r.id (take 5 id)))) []
  on : IsOnTrack h s x.1
  position_ : (x.1.host h).position ≡ position.Count k
  open_ : (x.1.host h).chain_open ≡ true

searched_chain : (b : Bool) → (true && not (search_status b == 0x0D)) ≡ true
searched_chain true = refl
searched_chain false = refl

module _ (s : State) (h : ℕ) (there : is_some (s.host h).mounted ≡ true) where
  abbrev tracks : Tracks
  tracks = tracks_under s.volumes (s.host h)

  abbrev ready : HostState
  ready = with_open_chain (s.host h)

  opened_there : is_some ready.mounted ≡ true
  opened_there = ap is_some (opened_placed (s.host h)).mounted_ ∙ there

  searched : (k : ℕ) (r : RecordData) (id : List ℕ) → 5 ≤ length id → candidate ready.position 0 ≡ k → record_under s h k ≡ Some r → IsSearched s h k r id (plain s h (command 0x31 id true))
  unfolding plain answer_on_tracks
  searched k r id long is found =
      let under : record_at (tracks ready.head) ready k ≡ Some r = record_at-placed tracks (s.host h) ready k (opened_placed (s.host h)) ∙ found in
      let answer : answer_on_tracks tracks (s.host h) 0x31 id true ≡ effect_answer Searches true (id_searched test.Equal id (found_as k r (host_for_command Searches ready))) =
      ap (λ (c : Result Command UnitCheck). answer_by_checks tracks ready id true c) (search_admitted ready id opened_there long) ∙ search_is tracks ready id k r is under in
      let host : cond (h == h) (answer_on_tracks tracks (s.host h) 0x31 id true).host (s.host h) ≡ (effect_answer Searches true (id_searched test.Equal id (found_as k r (host_for_command Searches ready)))).host =
      host_itself s.host h _ ∙ ap (λ (a : Answer). a.host) answer in
      let placed = opened_placed (s.host h) in
      record {
        reply_ = ap (λ (a : Answer). a.reply) answer;
        on = record {
          volumes_ = ap (λ (a : Answer). written_to s.volumes (s.host h) a.written) answer ∙ unwritten s.volumes (s.host h) (s.host h).mounted;
          placed = record {
            mounted_ = ap (λ (x : HostState). x.mounted) host ∙ placed.mounted_;
            cylinder_ = ap (λ (x : HostState). x.cylinder) host ∙ placed.cylinder_;
            head_ = ap (λ (x : HostState). x.head) host ∙ placed.head_;
          };
        };
        position_ = ap (λ (x : HostState). x.position) host;
        open_ = ap (λ (x : HostState). x.chain_open) host ∙ searched_chain _;
      }

  -- the data of the record behind whose count the host stands
  read_gives : (k : ℕ) (r : RecordData) → (s.host h).chain_open ≡ true → (s.host h).position ≡ position.Count k → record_under s h k ≡ Some r → (plain s h (command 0x06 [] false)).0 ≡ done (status_of r) r.body
  unfolding plain answer_on_tracks
  read_gives k r open_ is found =
      ap (λ (x : HostState). (answer_by_checks tracks x [] false (admitted_command x 0x06 [])).reply) (opened_open (s.host h) open_)
      ∙ ap (λ (c : Result Command UnitCheck). (answer_by_checks tracks (s.host h) [] false c).reply) (read_admitted (s.host h) [] there)
      ∙ ap (λ (a : Answer). a.reply) (read_is tracks (s.host h) k r is found)

-- ---- the whole chain

unturned : (o : Ordering) → o ≡ ordering_reverse o → o ≡ ordering.Equal
unturned ordering.Equal is = refl
unturned ordering.Less is = absurd cc
unturned ordering.Greater is = absurd cc

-- an ID of five bytes is met by itself
met_itself : (id : List ℕ) → length id ≡ 5 → is_met test.Equal (slice_cmp nat_cmp id (take 5 id)) ≡ true
met_itself id long =
    let whole : take 5 id ≡ id = take_all 5 id (omega (arith, long)) in
    ap (λ (bytes : List ℕ). is_met test.Equal (slice_cmp nat_cmp id bytes)) whole ∙ ap (λ (o : Ordering). is_met test.Equal o) (unturned _ (nat_list_cmp_total.antisymm id id))

unequal : (o : Ordering) → o ≢ ordering.Equal → is_met test.Equal o ≡ false
unequal ordering.Equal isn't = absurd (isn't refl)
unequal ordering.Less isn't = refl
unequal ordering.Greater isn't = refl

-- and by no other
not_met : (id other : List ℕ) → length id ≡ 5 → other ≢ id → is_met test.Equal (slice_cmp nat_cmp other (take 5 id)) ≡ false
not_met id other long differ =
    let whole : take 5 id ≡ id = take_all 5 id (omega (arith, long)) in
    unequal _ (λ same. differ (exact_bytes other (take 5 id) same ∙ whole))

-- the host reads what it met
met_is_read : (s : State) (h k : ℕ) (r : RecordData) → is_some (s.host h).mounted ≡ true → candidate (with_open_chain (s.host h)).position 0 ≡ k → record_under s h k ≡ Some r → length r.id ≡ 5
    → replies_of s (search_and_read h 0 r.id) ≡ met_and_read 0 r
unfolding replies_of
met_is_read s h k r there is found long =
    let p = searched s h there k r r.id (omega (arith, long)) is found in
    let t : State = (plain s h (command 0x31 r.id true)).1 in
    let still : is_some (t.host h).mounted ≡ true = ap is_some p.on.placed.mounted_ ∙ there in
    let data_ = read_gives t h still k r p.open_ p.position_ (record_under-same h k s t p.on ∙ found) in
    let status : search_status (is_met test.Equal (slice_cmp nat_cmp r.id (take 5 r.id))) ≡ MET = ap search_status (met_itself r.id long) in
    (λ i. (p.reply_ ∙ ap (λ (n : ℕ). done n []) status) i ∷ data_ i ∷ [])

-- before a record there are others
earlier_there : (rs : List RecordData) (j k : ℕ) (r : RecordData) → j < k → slice_get rs k ≡ Some r → (other : RecordData) × (slice_get rs j ≡ Some other)
earlier_there rs j k r below is = (get_or rs j blank_record, slice_get-get_or rs j blank_record (omega (arith, below, slice_get_within rs k r is)))

-- after j searches, so many more until the record is met
searches_meet : (times : ℕ) (s : State) (h j k : ℕ) (r : RecordData) → times + j ≡ k → is_some (s.host h).mounted ≡ true → candidate (with_open_chain (s.host h)).position 0 ≡ j → IsFirst s h k r
    → replies_of s (search_and_read h times r.id) ≡ met_and_read times r
unfolding replies_of
searches_meet zero s h j k r e there is first = met_is_read s h j r there is (let same : j ≡ k = omega (arith, e) in rw same first.there) first.long
searches_meet (suc times) s h j k r e there is first =
    let before = earlier_there (records_of (s.host h) (tracks_under s.volumes (s.host h) (s.host h).head)) j k r (omega (arith, e)) first.there in
    let other : RecordData = before.0 in
    let found : record_under s h j ≡ Some other = before.1 in
    let p = searched s h there j other r.id (omega (arith, first.long)) is found in
    let t : State = (plain s h (command 0x31 r.id true)).1 in
    let still : is_some (t.host h).mounted ≡ true = ap is_some p.on.placed.mounted_ ∙ there in
    let differ : other.id ≢ r.id = first.earlier j other (omega (arith, e)) found in
    let status : search_status (is_met test.Equal (slice_cmp nat_cmp other.id (take 5 r.id))) ≡ DONE = ap search_status (not_met r.id other.id first.long differ) in
    let next : candidate (with_open_chain (t.host h)).position 0 ≡ j + 1 = ap (λ (x : HostState). candidate x.position 0) (opened_open (t.host h) p.open_) ∙ ap (λ (x : Position). candidate x 0) p.position_ in
    let first_there : IsFirst t h k r = record {
      there = record_under-same h k s t p.on ∙ first.there;
      long = first.long;
      earlier = λ i o below is. first.earlier i o below (sym (record_under-same h i s t p.on) ∙ is);
    } in
    let rest = searches_meet times t h (j + 1) k r (omega (arith, e)) still next first_there in
    (λ i. (p.reply_ ∙ ap (λ (n : ℕ). done n []) status) i ∷ rest i)

pub read_back : (s : State) (h k : ℕ) (r : RecordData) → IsAtIndex s h → IsFirst s h k r → IsReadBack s h k r
read_back s h k r at first =
    searches_meet k s h 0 k r (omega arith) at.mounted_ (ap (λ (x : Position). candidate x 0) at.index_) first

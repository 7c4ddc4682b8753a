-- A core whose host is replied without a look at the tracks.
use Rattle.std.proofs.Common.{◌≡◌, ◌≢◌, ◌⊎◌, inl, inr, ℕ, zero, suc, Bool, true, false, cond, ◌&&◌, ◌||◌, ◌==◌, List, [], ◌∷◌, length, Option, Some, None, Result, Ok, Err, refl, sym, ◌∙◌, ap, subst}
use Rattle.std.specs.Prelude.{is_some, not, IsSome}
use Rattle.std.specs.Option.{option_map, option_and_then}
use Rattle.std.proofs.lemmas.Bool.{cases_Bool, and_parts, and_from, eqb-true, eq-eqb, false≢true}
use Rattle.mss_base.specs.Content.{SiteLog}
use Rattle.mss_base.specs.Firsts.{where_so, ◌or◌}
use Rattle.channel_commands.specs.declared.call.BreakCause.TheVariants as cause
use Rattle.channel_commands.specs.declared.command.Command.{Command}
use Rattle.channel_commands.specs.Data.{CallData, mount, demount, command as ask, break, is_command, ReplyData, done, no_space, stopped}
use Rattle.ckd_track.specs.Data.{Volumes}
use Rattle.ckd_plain.specs.declared.host.HostState.{HostState}
use Rattle.ckd_plain.specs.declared.unit_check.UnitCheck.{UnitCheck}
use Rattle.ckd_plain.specs.Checks.{admitted_command}
use Rattle.ckd_plain.specs.Data.{State}
use Rattle.ckd_plain.specs.Effects.{is_data, Outcome}
use Rattle.ckd_plain.specs.Index.{Tracks}
use Rattle.ckd_plain.specs.Plain.{NeedsNoTrack, with_open_chain, outcome_answer, command_answer, answer_by_checks, answer_on_tracks, plain, response_to, mark_for, with_response}
use Rattle.ckd_plain.specs.History.{EntryData, IsAlone, IsNextEntry, IsAnswered, IsDataCommand, keeps_fault, count_of_host, state_after}
use Rattle.ckd_plain.proofs.CommandFacts.{volume_stays}
use Rattle.ckd_plain.proofs.Entries.{plain_entry}
use Rattle.ckd_plain.proofs.ResponseFacts.{call_responds}
use Rattle.volume_table.specs.Listed.{row_in_list}
use Rattle.volume_table.specs.Row.{RowValue}
use Rattle.shown_volumes.specs.Shown.{RowsOf, is_marked}
use Rattle.fault_queue.specs.Requests.{request_of}
use Rattle.core_state.specs.declared.task.Task.{Task}
use Rattle.core_state.specs.Agrees.{EntryAgrees}
use Rattle.core_state.specs.CoreValue.{CoreValue}
use Rattle.core_state.specs.Entered.{plain_of, Enters}
use Rattle.core_state.specs.HostEvents.{mark_in}
use Rattle.core_state.specs.HostRules.{if_data, data_command, would_bind, taken_by, taken_from}
use Rattle.core_state.specs.IsCore.{IsCore, IsGoing, IsTold}
use Rattle.core_state.specs.Pins.{host_at, put_host, is_on, asks_for, owns}
use Rattle.core_state.specs.Steps.{entry_of}
use Rattle.core_state.specs.TheCore.{IsWhole}
use Rattle.core_state.proofs.HostFacts.{IsHost}
use Rattle.core_state.proofs.HostTasks.{IsNotTaken}
use Rattle.core_state.proofs.RuleWalks.{none_some}
use Rattle.host_events.specs.Replies.{after_answer, IsUpheld}
use Rattle.host_events.proofs.ReplyFacts.{Owes, enters_by, upheld_reply, mine_still, unstopped}
use Rattle.host_events.proofs.Exceptions.{alone_there}
use Rattle.host_events.proofs.Mounts.{by_mark}
use Rattle.host_events.proofs.RuleFacts.{OnResponse}

-- ---- which calls look at no track

unbound : (test : Bool) (c : Command) → where_so test c ≡ None → test ≡ false
unbound true c none = absurd (none_some c (sym none))
unbound false c none = refl

-- a call that is no search, read or write needs none
pub needs_none : (host : HostState) (call : CallData) → data_command host call ≡ None → NeedsNoTrack host call
needs_none host (ask code argument chained) none = λ c admits. unbound (is_data c) c (ap if_data (sym admits) ∙ none)
needs_none host (mount volume bind) none = tt
needs_none host demount none = tt
needs_none host (break cause) none = tt

no_data : (s : State) (h : ℕ) (call : CallData) → data_command (s.host h) call ≡ None → IsDataCommand s h call → ⊥
no_data s h (ask code argument chained) none d = false≢true (sym (needs_none (s.host h) (ask code argument chained) none d.0 d.1) ∙ d.2)
no_data s h (mount volume bind) none d = d
no_data s h demount none d = d
no_data s h (break cause) none d = d

-- ---- which replies they get

answered_sound : (c : Command) (chained : Bool) (o : Outcome) → keeps_fault (outcome_answer c chained o).reply ≡ false
answered_sound c chained (Ok e) = refl
answered_sound c chained (Err r) = refl

judged_sound : (tracks : Tracks) (host : HostState) (argument : List ℕ) (chained : Bool) (r : Result Command UnitCheck) → keeps_fault (answer_by_checks tracks host argument chained r).reply ≡ false
unfolding command_answer
judged_sound tracks host argument chained (Ok c) = answered_sound c chained _
judged_sound tracks host argument chained (Err check) = refl

chosen : (P : ReplyData × HostState → Type 0) (b : Bool) (x y : ReplyData × HostState) → (b ≡ true → P x) → (b ≡ false → P y) → P (cond b x y)
chosen P true x y p q = p refl
chosen P false x y p q = q refl

-- none of them keeps a fault
abbrev KeepsNone : ReplyData × HostState → Type 0
KeepsNone r = keeps_fault r.0 ≡ false

response_sound : (host : HostState) (mark : Option Bool) (call : CallData) → keeps_fault (response_to host mark call).0 ≡ false
unfolding response_to answer_on_tracks
response_sound host mark (mount volume bind) =
    chosen KeepsNone host.chain_open _ _ (λ _. refl) (λ _. chosen KeepsNone (is_some host.mounted) _ _ (λ _. refl) (λ _. by_mark KeepsNone host volume bind mark (λ _ _. refl) (λ _. refl)))
response_sound host mark demount = chosen KeepsNone host.chain_open _ _ (λ _. refl) (λ _. chosen KeepsNone (is_some host.mounted) _ _ (λ _. refl) (λ _. refl))
response_sound host mark (break cause.Program) = refl
response_sound host mark (break cause.Limit) = refl
response_sound host mark (ask code argument chained) = judged_sound (λ head. []) (with_open_chain host) argument chained (admitted_command (with_open_chain host) code argument)

-- ---- the host then

-- a command leaves it its volume
command_mounted : (host : HostState) (mark : Option Bool) (code : ℕ) (argument : List ℕ) (chained : Bool) → (response_to host mark (ask code argument chained)).1.mounted ≡ host.mounted
unfolding response_to
command_mounted host mark code argument chained = volume_stays (λ head. []) host code argument chained

-- another call opens no chain
module _ (host : HostState) (mark : Option Bool) where
  abbrev Keeps : ReplyData × HostState → Type 0
  Keeps r = r.1.chain_open ≡ true → (host.chain_open ≡ true) × (r.1.mounted ≡ host.mounted)

  response_keeps : (call : CallData) → is_command call ≡ false → Keeps (response_to host mark call)
  unfolding response_to
  response_keeps (mount volume bind) no_command =
      chosen Keeps host.chain_open _ _ (λ _ is. (is, refl)) (λ closed. chosen Keeps (is_some host.mounted) _ _ (λ _ is. (is, refl)) (λ _. by_mark Keeps host volume bind mark (λ _ _ is. absurd (false≢true (sym closed ∙ is))) (λ _ is. (is, refl))))
  response_keeps demount no_command =
      chosen Keeps host.chain_open _ _ (λ _ is. (is, refl)) (λ closed. chosen Keeps (is_some host.mounted) _ _ (λ _ is. absurd (false≢true (sym closed ∙ is))) (λ _ is. (is, refl)))
  response_keeps (break cause) no_command = λ is. absurd (false≢true is)
  response_keeps (ask code argument chained) no_command = absurd (false≢true (sym no_command))

-- ---- volumes that are mounted with bind

none_found : (a b : Option ℕ) → (a or b) ≡ None → (a ≡ None) × (b ≡ None)
none_found None b none = (refl, none)
none_found (Some x) b none = absurd (none_some x (sym none))

taken_no : (volume : ℕ) (task : Task) (victim : ℕ × ℕ) → taken_by volume task ≡ None → task.victim ≡ Some victim → victim.0 ≢ volume
taken_no volume task victim none at same =
    none_some task.frame (sym none ∙ ap (option_and_then (λ page. where_so (page.0 == volume) task.frame)) at ∙ ap (λ b. where_so b task.frame) (eq-eqb victim.0 volume same))

-- no task takes a frame from a volume, where none is found
not_taken : (volume : ℕ) (tasks : List (Option Task)) → taken_from volume tasks ≡ None → IsNotTaken tasks volume
not_taken volume [] none recorder task victim at is = absurd (none_some task at)
not_taken volume (o ∷ tasks) none zero task victim at is =
    taken_no volume task victim (ap (option_and_then (taken_by volume)) (sym at) ∙ (none_found (option_and_then (taken_by volume) o) (taken_from volume tasks) none).0) is
not_taken volume (o ∷ tasks) none (suc n) task victim at is = not_taken volume tasks (none_found (option_and_then (taken_by volume) o) (taken_from volume tasks) none).1 n task victim at is

abbrev volume_in : Option (ℕ × Bool) → ℕ
volume_in None = 0
volume_in (Some m) = m.0

-- a volume that a mark is known of has a row
marked_there : (o : Option RowValue) (read_only : Bool) → option_map (λ (row : RowValue). row.read_only) o ≡ Some read_only → is_some o ≡ true
marked_there None read_only is = absurd (none_some read_only is)
marked_there (Some row) read_only is = refl

abbrev bind_in : Option (ℕ × Bool) → Bool
bind_in None = false
bind_in (Some m) = m.1

module _ {S C : Type 0} (v : CoreValue S C) (host : HostState) where
  -- a mount with bind that is accepted
  would : (volume : ℕ) (bind : Bool) → bind ≡ true → host.chain_open ≡ false → is_some host.mounted ≡ false → is_some (row_in_list v.rows volume) ≡ true → would_bind v host (mount volume bind) ≡ Some volume
  would volume true is closed bare there = λ i. where_so (not (closed i) && not (bare i) && there i) volume
  would volume false is closed bare there = absurd (false≢true is)

  abbrev Binds : ReplyData × HostState → Type 0
  Binds r = (volume : ℕ) → r.1.mounted ≡ Some (volume, true) → (host.mounted ≡ Some (volume, true)) ⊎ IsNotTaken v.tasks volume

  -- no task takes a frame from the volume that is bound then
  response_binds : (call : CallData) → is_command call ≡ false → ((volume : ℕ) → would_bind v host call ≡ Some volume → taken_from volume v.tasks ≡ None) → Binds (response_to host (mark_in v.rows call) call)
  unfolding response_to
  response_binds (mount volume bind) no_command untaken =
      chosen Binds host.chain_open _ _ (λ _ w is. inl is) (λ closed. chosen Binds (is_some host.mounted) _ _ (λ _ w is. inl is) (λ bare. by_mark Binds host volume bind (mark_in v.rows (mount volume bind))
      (λ read_only marked w is. inr (subst (IsNotTaken v.tasks) (ap volume_in is)
      (not_taken volume v.tasks (untaken volume (would volume bind (ap bind_in is) closed bare (marked_there (row_in_list v.rows volume) read_only marked)))))) (λ _ w is. inl is)))
  response_binds demount no_command untaken =
      chosen Binds host.chain_open _ _ (λ _ w is. inl is) (λ closed. chosen Binds (is_some host.mounted) _ _ (λ _ w is. absurd (none_some (w, true) is)) (λ _ w is. inl is))
  response_binds (break cause) no_command untaken = λ w is. inl is
  response_binds (ask code argument chained) no_command untaken = absurd (false≢true (sym no_command))

  abbrev HasRows : ReplyData × HostState → Type 0
  HasRows r = (volume : ℕ) → is_on volume r.1.mounted ≡ true → IsSome (row_in_list v.rows volume)

  -- the volume that is mounted then has a row
  response_has : HasRows (stopped, host) → (call : CallData) → is_command call ≡ false → HasRows (response_to host (mark_in v.rows call) call)
  unfolding response_to
  response_has had (mount volume bind) no_command =
      chosen HasRows host.chain_open _ _ (λ _. had) (λ closed. chosen HasRows (is_some host.mounted) _ _ (λ _. had)
      (λ _. by_mark HasRows host volume bind (mark_in v.rows (mount volume bind))
      (λ read_only marked w is. ap (λ (n : ℕ). is_some (row_in_list v.rows n)) (sym (eqb-true volume w is)) ∙ marked_there (row_in_list v.rows volume) read_only marked) (λ _. had)))
  response_has had demount no_command = chosen HasRows host.chain_open _ _ (λ _. had) (λ closed. chosen HasRows (is_some host.mounted) _ _ (λ _ w is. absurd (false≢true is)) (λ _. had))
  response_has had (break cause) no_command = had
  response_has had (ask code argument chained) no_command = absurd (false≢true (sym no_command))

command_stays : (host : HostState) (mark : Option Bool) (call : CallData) → is_command call ≡ true → (response_to host mark call).1.mounted ≡ host.mounted
command_stays host mark (ask code argument chained) is = command_mounted host mark code argument chained
command_stays host mark (mount volume bind) is = absurd (false≢true is)
command_stays host mark demount is = absurd (false≢true is)
command_stays host mark (break cause) is = absurd (false≢true is)

-- ---- the entry

-- where the call is no search, read or write, the reply says nothing of the rows
agrees_plainly : (frames : ℕ) (rows : RowsOf) (s : State) (e : EntryData) (r : ReplyData) → keeps_fault r ≡ false → IsAnswered s e r → (IsDataCommand s e.host e.call → ⊥) → EntryAgrees frames rows s e r
agrees_plainly frames rows s e (done status bytes) sound answered none = λ data_. absurd (none data_)
agrees_plainly frames rows s e no_space sound answered none = absurd (none answered)
agrees_plainly frames rows s e stopped sound answered none = absurd (false≢true (sym sound))
agrees_plainly frames rows s e _ sound answered none = tt

-- the mark of a shown volume is its row's
marks_of : (o : Option RowValue) → option_map (λ (serial : List ℕ). is_marked o) (option_map (λ (x : RowValue). x.serial) o) ≡ option_map (λ (x : RowValue). x.read_only) o
marks_of None = refl
marks_of (Some x) = refl

module _ {S C : Type 0} (s : SiteLog) (v : CoreValue S C) (told : IsTold s v) (core : IsCore v) (open_ : v.stopped ≡ None) (h : ℕ) (low : IsHost h) (call : CallData)
    (none : data_command (host_at v.hosts h) call ≡ None) (alone : IsAlone (plain_of s v) h call) where
  going : IsGoing s v
  going = told.going open_

  abbrev st : State
  st = plain_of s v

  here : (plain_of s v).host h ≡ host_at v.hosts h
  here = ap (λ (f : ℕ → HostState). f h) going.hosts_

  abbrev r : ReplyData × HostState
  r = response_to (host_at v.hosts h) (mark_in v.rows call) call

  -- a volume of the plain state has a mark where it has a row
  mark_is : (k : CallData) → mark_for (plain_of s v).volumes k ≡ mark_in v.rows k
  mark_is (mount volume bind) =
      ap (λ (vs : Volumes). mark_for vs (mount volume bind)) (sym going.shows)
      ∙ ap (λ (rows : RowsOf). option_map (λ (serial : List ℕ). is_marked (rows volume)) (option_map (λ (x : RowValue). x.serial) (rows volume))) going.rows_
      ∙ marks_of (row_in_list v.rows volume)
  mark_is _ = refl

  answer_is : plain (plain_of s v) h call ≡ with_response (plain_of s v) h (response_to (host_at v.hosts h) (mark_in v.rows call) call)
  answer_is =
      call_responds st h call (needs_none (st.host h) call (ap (λ (x : HostState). data_command x call) here ∙ none))
      ∙ (λ i. with_response st h (response_to (here i) (mark_is call i) call))

  abbrev e : EntryData
  e = entry_of v.history h call r.0 None

  may : IsNextEntry st (count_of_host h v.history) e × (state_after st e ≡ (plain st h call).1)
  may = plain_entry st (count_of_host h v.history) e (sym (ap (λ (p : ReplyData × State). p.0) answer_is)) refl refl alone

  pub response_enters : Enters v.config.frames v.rows (plain_of s v) v.history (entry_of v.history h call (response_to (host_at v.hosts h) (mark_in v.rows call) call).0 None)
      (put_host v.hosts h (response_to (host_at v.hosts h) (mark_in v.rows call) call).1) v.tasks s s
  response_enters =
      enters_by S s v told core open_ h low call None r.0 r.1 (may.0, may.1 ∙ ap (λ (p : ReplyData × State). p.1) answer_is)
      (agrees_plainly v.config.frames (row_in_list v.rows) st e r.0 (response_sound (host_at v.hosts h) (mark_in v.rows call) call) may.0.answered
      (no_data st h call (ap (λ (x : HostState). data_command x call) here ∙ none)))

-- ---- the core then

module _ {S C : Type 0} (tells : Type 0) (s : SiteLog) (v : CoreValue S C) (whole : IsWhole tells s v) (h : ℕ) (low : IsHost h) (call : CallData) (on : OnResponse v h call) where
  core_ : IsCore v
  core_ = whole.kept on.goes.going

  abbrev host : HostState
  host = host_at v.hosts h

  abbrev mark : Option Bool
  mark = mark_in v.rows call

  abbrev after_ : HostState
  after_ = (response_to host mark call).1

  or_false : (a : Bool) → (a || false) ≡ a
  or_false true = refl
  or_false false = refl

  -- a chain that is open then was open before
  mine_plainly : is_command call ≡ false → (volume : ℕ) → (is_on volume after_.mounted && (after_.chain_open || asks_for volume None)) ≡ true → (other : ℕ) → owns v.hosts v.requests other volume ≡ true → other ≡ h
  mine_plainly kind volume is other theirs =
      let parts = and_parts (is_on volume after_.mounted) (after_.chain_open || false) is in
      let kept = response_keeps host mark call kind (sym (or_false after_.chain_open) ∙ parts.1) in
      let on_it : is_on volume host.mounted ≡ true = ap (is_on volume) (sym kept.1) ∙ parts.0 in
      core_.alone volume other h theirs (and_from _ _ on_it (ap (λ (b : Bool). b || asks_for volume (request_of v.requests h)) kept.0))

  response_owes : Owes tells s v h call None (response_to (host_at v.hosts h) (mark_in v.rows call) call).0 (response_to (host_at v.hosts h) (mark_in v.rows call) call).1
  response_owes = record {
    mine = elim (cases_Bool (is_command call)) [
      | inl is ↦ mine_still v h (on.free is) after_ (command_stays host mark call is)
      | inr is ↦ mine_plainly is
    ];
    binds = elim (cases_Bool (is_command call)) [
      | inl is ↦ λ volume bound. inl (sym (command_stays host mark call is) ∙ bound)
      | inr is ↦ response_binds v host call is on.binds
    ];
    has = elim (cases_Bool (is_command call)) [
      | inl is ↦ λ volume at. core_.fit.mounted_ h volume (ap (is_on volume) (sym (command_stays host mark call is)) ∙ at)
      | inr is ↦ response_has v host (core_.fit.mounted_ h) call is
    ];
    enters = λ tl. let told = whole.told tl in response_enters s v told core_ on.goes.going h low call on.none (alone_there s v (told.going on.goes.going) h call on.free);
    keeps = ((λ some_. absurd (false≢true some_)), (λ keeps. absurd (false≢true (sym (response_sound host mark call) ∙ keeps))));
    goes_on = unstopped (response_to host mark call).0 (response_sound host mark call);
    from = λ kept none. absurd (none_some kept none);
  }

pub upheld_response : {S C : Type 0} (tells : Type 0) (s : SiteLog) (writes faults : ℕ) (v : CoreValue S C) → IsUpheld tells s writes faults v → (tells → writes ≡ length s.log) → (h : ℕ) → IsHost h → (call : CallData)
    → OnResponse v h call → IsUpheld tells s writes faults (after_answer v writes h call None (response_to (host_at v.hosts h) (mark_in v.rows call) call))
upheld_response tells s writes faults v is counts h low call on =
    let r = response_to (host_at v.hosts h) (mark_in v.rows call) call in
    upheld_reply tells s writes faults v is counts on.goes h low on.quiet call None r.0 r.1 (response_owes tells s v is.whole h low call on)

-- A data command on a staged cylinder keeps the core.
use Rattle.std.proofs.Common.{◌≡◌, inl, inr, ℕ, ◌+◌, ◌/◌, ◌≤◌, Bool, true, false, cond, ◌&&◌, ◌==◌, List, [], length, Option, Some, None, Ok, Err, refl, sym, ◌∙◌, ap, subst, arith}
use Rattle.std.specs.Prelude.{IsTrue}
use Rattle.std.specs.Option.{option_map}
use Rattle.std.proofs.Math.Path.{fun_ext}
use Rattle.std.proofs.lemmas.Bool.{cases_Bool, cond-true, cond-false, false≢true, and_parts, eqb-true}
use Rattle.mss_base.specs.Content.{Content, SiteLog, Settles, content, no_tear, Writes, ChangesBlock, same_unit}
use Rattle.mss_base.specs.Places.{frame_block}
use Rattle.mss_base.specs.declared.place.UnitNo.{UnitNo}
use Rattle.mss_base.specs.declared.place.UnitNo.TheVariants.{TableA, TableB, Staging, Cartridge}
use Rattle.mss_base.proofs.Moments.{started, weaker, ended_with}
use Rattle.ckd_track.specs.Data.{RecordData, Volumes}
use Rattle.ckd_track.specs.Track.{Reading, reading, reading_of}
use Rattle.channel_commands.specs.declared.command.Command.{Command}
use Rattle.channel_commands.specs.declared.command.Command.TheVariants as command
use Rattle.channel_commands.specs.declared.command.WriteKind.{WriteKind}
use Rattle.channel_commands.specs.declared.command.WriteKind.TheVariants as write
use Rattle.channel_commands.specs.Data.{CallData, command as ask, ReplyData, done, stopped, equipment_check}
use Rattle.channel_commands.specs.Codes.{is_write}
use Rattle.ckd_plain.specs.declared.host.HostState.{HostState}
use Rattle.ckd_plain.specs.declared.unit_check.UnitCheck.TheVariants as check
use Rattle.ckd_plain.specs.declared.host.Prior.TheVariants as prior
use Rattle.ckd_plain.specs.Data.{State}
use Rattle.ckd_plain.specs.Checks.{admitted_command, Passes}
use Rattle.ckd_plain.specs.Index.{Tracks}
use Rattle.ckd_plain.specs.Effects.{Outcome, effect, prior_number, is_data}
use Rattle.ckd_plain.specs.Plain.{Answer, Replied, UNIT_CHECK, sense_of, with_open_chain, host_for_command, outcome_answer, command_answer, answer_by_checks, answer_on_tracks, plain, reply_and_state, with_host, with_track, tracks_under, tracks_mounted, written_to, written_mounted, written_there}
use Rattle.ckd_plain.specs.Laws.{refusal_in, check_of, unit_check_of}
use Rattle.ckd_plain.specs.History.{EntryData, IsNextEntry, IsAlone, state_after, count_of_host}
use Rattle.ckd_plain.specs.Near.{IsNear, unchanged, completed, data_overwritten, key_data_overwritten, ended_before, IsOverwrittenAt, IsEndedAt, WithTrackUnder, DoesWrite}
use Rattle.ckd_plain.proofs.Entries.{plain_entry}
use Rattle.ckd_plain.proofs.CommandFacts.{only_writes}
use Rattle.ckd_plain.proofs.WriteFacts.{in_chain}
use Rattle.ckd_plain.proofs.SenseFacts.{unchecked}
use Rattle.volume_table.specs.Row.{RowValue, frame_of, state_of}
use Rattle.table_pair.specs.Pair.{is_table}
use Rattle.shown_volumes.specs.Shown.{RowsOf, volumes_shown, rows_of}
use Rattle.shown_volumes.specs.Sound.{IsSound, SoundAs}
use Rattle.shown_volumes.specs.Changing.{IsQuiet, IsQuietIn}
use Rattle.shown_volumes.proofs.FrameFacts.{shows_track}
use Rattle.shown_volumes.proofs.QuietFacts.{block_quiet, quiet_settled}
use Rattle.track_engine.specs.Tracks.{tracks_at}
use Rattle.track_engine.specs.Answers.{ran}
use Rattle.track_engine.specs.Writing.{IsBetween, IsStep, WritesTrack}
use Rattle.volume_table.specs.Listed.{row_in_list}
use Rattle.core_state.specs.declared.task.Task.{Task}
use Rattle.core_state.specs.Agrees.{EntryAgrees, UnderHost}
use Rattle.core_state.specs.CoreValue.{CoreValue}
use Rattle.core_state.specs.Pins.{host_at}
use Rattle.core_state.specs.IsCore.{IsCore, IsTold, IsGoing}
use Rattle.shown_volumes.specs.Shown.{SameTables}
use Rattle.core_state.specs.Entered.{plain_of, Enters}
use Rattle.core_state.specs.Served.{AreServed}
use Rattle.core_state.specs.Steps.{entry_of}
use Rattle.core_state.specs.Running.{IsStagedAt}
use Rattle.core_state.specs.Tasks.{tasks_after}
use Rattle.mss_base.proofs.Moments.{last_image}
use Rattle.host_events.proofs.ReplyFacts.{host_put}
use Rattle.host_events.proofs.Staged.{unit_of, first_of, tracks_shown}
use Rattle.host_events.proofs.HostServed.{served_written, served_alike, served_touched}
use Rattle.core_state.proofs.CoreFacts.{one_page}
use Rattle.core_state.proofs.RuleWalks.{some_is}
use Rattle.core_state.specs.Pins.{put_host}
use Rattle.core_state.proofs.HostFacts.{host_fits, IsHost}

-- ---- commands

write_is_data : (c : Command) → IsTrue (is_write c) → IsTrue (is_data c)
write_is_data command.NoOp w = absurd cc
write_is_data command.Sense w = absurd cc
write_is_data (command.Seek kind) w = absurd cc
write_is_data command.Recalibrate w = absurd cc
write_is_data command.SetMask w = absurd cc
write_is_data command.SetSector w = absurd cc
write_is_data (command.Search field test multi) w = absurd cc
write_is_data (command.Read what multi) w = absurd cc
write_is_data (command.Write kind) w = refl

-- a command's reply is done with a status
abbrev pub IsDoneReply : ReplyData → Type 0
IsDoneReply r = (status : ℕ) × (bytes : List ℕ) × (r ≡ done status bytes)

outcome_done : (c : Command) (chained : Bool) (o : Outcome) → IsDoneReply (outcome_answer c chained o).reply
outcome_done c chained (Ok e) = (e.status, e.bytes, refl)
outcome_done c chained (Err r) = (UNIT_CHECK, [], refl)

pub performed_done : (tracks : Tracks) (host : HostState) (c : Command) (argument : List ℕ) (chained : Bool) → IsDoneReply (command_answer tracks host c argument chained).reply
unfolding command_answer
performed_done tracks host c argument chained = outcome_done c chained (effect tracks (host_for_command c host) host.prior c argument)

abbrev volume_in : Option (ℕ × Bool) → ℕ
volume_in (Some m) = m.0
volume_in None = 0

here_is : (w y h v c d : ℕ) → ((w == v) && (y == c) && (h == d)) ≡ true → (w ≡ v) × (y ≡ c) × (h ≡ d)
here_is w y h v c d is =
    let a = and_parts ((w == v) && (y == c)) (h == d) is in
    let b = and_parts (w == v) (y == c) a.0 in
    (eqb-true w v b.0, eqb-true y c b.1, eqb-true h d a.1)

-- volumes with the track that is there
one_same : (V : Volumes) (v c h : ℕ) (track : List RecordData) → track ≡ V.track v c h → with_track V v c h track ≡ V
one_same V v c h track is = ap (λ (t : ℕ → ℕ → ℕ → List RecordData). let x : Volumes = record { serial = V.serial; read_only = V.read_only; track = t } in x)
    (fun_ext (λ (v' : ℕ). fun_ext (λ (c' : ℕ). fun_ext (λ (h' : ℕ). there v' c' h'))))
  where
    there : (v' c' h' : ℕ) → cond ((v' == v) && (c' == c) && (h' == h)) track (V.track v' c' h') ≡ V.track v' c' h'
    there v' c' h' = elim (cases_Bool ((v' == v) && (c' == c) && (h' == h))) [
      | inl at ↦ let e = here_is v' c' h' v c h at in cond-true _ _ _ at ∙ is ∙ (λ i. V.track (sym e.0 i) (sym e.1 i) (sym e.2 i))
      | inr elsewhere ↦ cond-false _ _ _ elsewhere
    ]

refusal_none : (c : Command) (chained : Bool) (o : Outcome) (track : List RecordData) → (outcome_answer c chained o).written ≡ Some track → refusal_in o ≡ None
refusal_none c chained (Ok e) track is = refl
refusal_none c chained (Err r) track is = absurd cc

module _ (S : Type 0) {C : Type 0} (s t : SiteLog) (v : CoreValue S C) (told : IsTold s v) (core : IsCore v) (open_ : v.stopped ≡ None) (h : ℕ) (low : IsHost h)
    (code : ℕ) (argument : List ℕ) (chained : Bool) (c : Command) (admits : admitted_command (with_open_chain (host_at v.hosts h)) code argument ≡ Ok c) (passes : Passes (with_open_chain (host_at v.hosts h)) c argument)
    (alone : IsAlone (plain_of s v) h (ask code argument chained))
    (volume frame : ℕ) (bind : Bool) (r : RowValue) (at : IsStagedAt v h volume frame bind r)
    (changed : IsTrue (is_write c) → state_of r (host_at v.hosts h).cylinder ≡ 4) where
  abbrev host : HostState
  host = host_at v.hosts h

  abbrev st : State
  st = plain_of s v

  abbrev call : CallData
  call = ask code argument chained

  abbrev unit : UnitNo
  unit = unit_of frame

  abbrev first : ℕ
  first = first_of frame (host_at v.hosts h).cylinder

  abbrev a : Answer
  a = ran (content s) (unit_of frame) (first_of frame (host_at v.hosts h).cylinder) (host_at v.hosts h) c argument chained

  going : IsGoing s v
  going = told.going open_

  here : st.host h ≡ host
  here = ap (λ (f : ℕ → HostState). f h) going.hosts_

  sound_now : IsSound v.config.frames (content s)
  sound_now = subst (IsSound v.config.frames) (last_image s (length s.log) refl) (told.stops.sound (length s.log) told.began (omega arith) no_tear)

  row_is : rows_of (content s) volume ≡ Some r
  row_is = ap (λ (rows : RowsOf). rows volume) going.rows_ ∙ at.row

  tracks_are : tracks_under st.volumes (st.host h) ≡ tracks_at (content s) unit first
  tracks_are =
      (λ i. tracks_under (sym going.shows i) (here i)) ∙ ap (λ (m : Option (ℕ × Bool)). tracks_mounted (volumes_shown (content s)) m host.cylinder) at.mounted
      ∙ sym (tracks_shown v.config.frames (content s) sound_now volume host.cylinder frame r row_is at.frame_ at.staged at.at_most at.low)

  abbrev left : State
  left = with_host (record st { volumes = written_to st.volumes host a.written }) h a.host

  run_is : answer_on_tracks (tracks_at (content s) unit first) host code argument chained ≡ a
  unfolding answer_on_tracks
  run_is = ap (answer_by_checks (tracks_at (content s) unit first) (with_open_chain host) argument chained) admits

  plain_is : plain st h call ≡ (a.reply, left)
  unfolding plain
  plain_is = (λ i. reply_and_state st h (answer_on_tracks (tracks_are i) (here i) code argument chained)) ∙ (λ i. reply_and_state st h (run_is i)) ∙ (λ i. (a.reply, with_host (record st { volumes = written_to st.volumes (here i) a.written }) h a.host))

  abbrev e : EntryData
  e = entry_of v.history h call a.reply None

  may : IsNextEntry st (count_of_host h v.history) e × (state_after st e ≡ (plain st h call).1)
  may = plain_entry st (count_of_host h v.history) e (sym (ap (λ (p : Replied). p.0) plain_is)) refl refl alone

  next_is : state_after st e ≡ left
  next_is = may.1 ∙ ap (λ (p : Replied). p.1) plain_is

  -- ---- the rows

  same_row : (volume' : ℕ) (bind' : Bool) (q : RowValue) → (st.host h).mounted ≡ Some (volume', bind') → row_in_list v.rows volume' ≡ Some q → q ≡ r
  same_row volume' bind' q mounted row =
      let m : Some (volume, bind) ≡ Some (volume', bind') = sym at.mounted ∙ ap (λ (x : HostState). x.mounted) (sym here) ∙ mounted in
      let n : volume ≡ volume' = ap volume_in m in
      some_is q r (sym row ∙ ap (row_in_list v.rows) (sym n) ∙ at.row)

  agrees : EntryAgrees v.config.frames (row_in_list v.rows) st e (done 0 [])
  agrees data_ = (
    (
      volume,
      bind,
      r,
      ap (λ (x : HostState). x.mounted) here ∙ at.mounted,
      at.row,
      (
        subst (λ (n : ℕ). 2 ≤ state_of r n) (ap (λ (x : HostState). x.cylinder) (sym here)) at.staged,
        λ w. ap (λ (x : HostState). state_of r x.cylinder) here ∙ changed (subst (λ (x : Command). IsTrue (is_write x)) (the_command w.0 w.1) w.2),
      ),
    ),
    λ none. no_space none.0,
  )
    where
      the_command : (x : Command) → admitted_command (with_open_chain (st.host h)) code argument ≡ Ok x → x ≡ c
      the_command x is = let o : Ok x ≡ Ok c = sym is ∙ ap (λ (y : HostState). admitted_command (with_open_chain y) code argument) here ∙ admits in cc

      no_space : UnderHost (row_in_list v.rows) (st.host h) (λ q cylinder. frame_of q (cylinder / 8) ≡ None) → ⊥
      no_space u = let o : Some frame ≡ None = sym at.frame_ ∙ (λ i. frame_of (sym (same_row u.0 u.1 u.2 u.3 u.4) i) ((sym here i).cylinder / 8)) ∙ u.5 in cc

  -- ---- the writes

  -- only a write writes
  writes_is : (track : List RecordData) → a.written ≡ Some track → is_write c ≡ true
  writes_is track is = elim (cases_Bool (is_write c)) [
    | inl w ↦ w
    | inr none ↦ let e' : None ≡ Some track = sym (only_writes (tracks_at (content s) unit first) (with_open_chain host) c argument chained none) ∙ is in absurd cc
  ]

  -- a command that writes isn't refused
  not_refused : (track : List RecordData) → a.written ≡ Some track → unit_check_of st h code argument ≡ None
  unfolding command_answer
  not_refused track is =
      (λ i. check_of (tracks_are i) (with_open_chain (here i)) argument (admitted_command (with_open_chain (here i)) code argument)) ∙ ap (check_of (tracks_at (content s) unit first) (with_open_chain host) argument) admits
      ∙ refusal_none c chained (effect (tracks_at (content s) unit first) (host_for_command c (with_open_chain host)) (with_open_chain host).prior c argument) track is

  does : (track : List RecordData) → a.written ≡ Some track → (kind : WriteKind) → c ≡ command.Write kind → DoesWrite st h call kind
  does track is kind it = (
    ap (λ (x : HostState). admitted_command (with_open_chain x) code argument) here ∙ admits ∙ ap (λ (x : Command). Ok x) it,
    unchecked st h code argument chained [] (not_refused track is),
  )

  four : (track : List RecordData) → a.written ≡ Some track → state_of r host.cylinder ≡ 4
  four track is = changed (writes_is track is)

  abbrev old_track : List RecordData
  old_track = tracks_at (content s) unit first host.head

  abbrev put : List RecordData → Volumes
  put track = with_track st.volumes volume (host_at v.hosts h).cylinder (host_at v.hosts h).head track

  old_is : old_track ≡ st.volumes.track volume host.cylinder host.head
  old_is = (λ i. tracks_shown v.config.frames (content s) sound_now volume host.cylinder frame r row_is at.frame_ at.staged at.at_most at.low i host.head) ∙ ap (λ (x : Volumes). x.track volume host.cylinder host.head) going.shows

  serial_is : st.volumes.serial volume ≡ Some r.serial
  serial_is = ap (λ (x : Volumes). x.serial volume) (sym going.shows) ∙ ap (option_map (λ (x : RowValue). x.serial)) row_is

  left_volumes : (o' : Option (List RecordData)) → a.written ≡ o' → left.volumes ≡ written_mounted st.volumes (Some (volume, bind)) host o'
  left_volumes o' is = (λ i. written_mounted st.volumes (at.mounted i) host (is i))

  left_some : (track : List RecordData) → a.written ≡ Some track → left.volumes ≡ put track
  left_some track is = left_volumes (Some track) is ∙ ap (λ (x : Option (List ℕ)). written_there st.volumes volume host x track) serial_is

  left_none : a.written ≡ None → left.volumes ≡ st.volumes
  left_none is = left_volumes None is

  mounted_now : (st.host h).mounted ≡ Some (volume, bind)
  mounted_now = ap (λ (x : HostState). x.mounted) here ∙ at.mounted

  under : (V : Volumes) (Leads : List RecordData → List RecordData → Type 0) (track : List RecordData) → Leads old_track track → V ≡ put track → WithTrackUnder st h V Leads
  under V Leads track leads is = (
    volume,
    bind,
    track,
    mounted_now,
    subst (λ (x : List RecordData). Leads x track) (old_is ∙ (λ i. st.volumes.track volume (sym here i).cylinder (sym here i).head)) leads,
    is ∙ (λ i. with_track st.volumes volume (sym here i).cylinder (sym here i).head track),
  )

  abbrev number : ℕ
  number = prior_number host.prior

  number_is : prior_number host.prior ≡ prior_number (st.host h).prior
  number_is = ap (λ (x : HostState). prior_number x.prior) (sym here)

  between : (c' : Command) (V : Volumes) (track : List RecordData) → ((kind : WriteKind) → c' ≡ command.Write kind → DoesWrite st h call kind) → IsBetween c' (prior_number host.prior) old_track track → V ≡ put track → IsNear st h call V
  between (command.Write write.Data) V track d b is = data_overwritten (d write.Data refl) (subst (λ (k : ℕ). WithTrackUnder st h V (IsOverwrittenAt false k)) number_is (under V (IsOverwrittenAt false number) track b is))
  between (command.Write write.KeyData) V track d b is = key_data_overwritten (d write.KeyData refl) (subst (λ (k : ℕ). WithTrackUnder st h V (IsOverwrittenAt true k)) number_is (under V (IsOverwrittenAt true number) track b is))
  between (command.Write write.CountKeyData) V track d b is = ended_before (d write.CountKeyData refl) (subst (λ (k : ℕ). WithTrackUnder st h V (IsEndedAt k)) number_is (under V (IsEndedAt number) track b is))
  between command.NoOp V track d b is = absurd b
  between command.Sense V track d b is = absurd b
  between (command.Seek kind) V track d b is = absurd b
  between command.Recalibrate V track d b is = absurd b
  between command.SetMask V track d b is = absurd b
  between command.SetSector V track d b is = absurd b
  between (command.Search field test multi) V track d b is = absurd b
  between (command.Read what multi) V track d b is = absurd b

  abbrev Within : List RecordData → Content → Type 0
  Within track = ChangesBlock unit (first + host.head) (IsStep c (prior_number host.prior) old_track track) (content s)

  module _ (track : List RecordData) (is : a.written ≡ Some track) (d : Content) (w : Within track d) where
    good : ChangesBlock (frame_block frame host.cylinder host.head).unit (frame_block frame host.cylinder host.head).block (λ block. (reading block).bad ≡ None) (content s) d
    good = record { others = w.others; here = w.here.good }

    shows_at : SoundAs v.config.frames (with_track (volumes_shown (content s)) volume host.cylinder host.head (reading (d unit (first + host.head))).records) d
    shows_at = shows_track v.config.frames (content s) d sound_now volume host.cylinder host.head frame r row_is at.frame_ (four track is) at.low at.low_head good

    shows_put : volumes_shown d ≡ put (reading (d unit (first + host.head))).records
    shows_put = shows_at.same ∙ (λ i. with_track (going.shows i) volume host.cylinder host.head (reading (d unit (first + host.head))).records)

    near_at : IsNear st h call (volumes_shown d)
    near_at = elim w.here.step [
      | inl old ↦ unchanged (shows_put ∙ one_same st.volumes volume host.cylinder host.head _ (old ∙ old_is))
      | inr more ↦ elim more [
        | inl new ↦ completed (shows_put ∙ ap put new ∙ sym (left_some track is) ∙ ap (λ (p : Replied). p.1.volumes) (sym plain_is))
        | inr b ↦ between c (volumes_shown d) _ (does track is) b shows_put
      ]
    ]

    -- a host's block is no table's, so the rows stay
    quiet_at : IsQuietIn s d
    quiet_at = block_quiet s unit (first + host.head) (IsStep c (prior_number host.prior) old_track track) d going.quiet refl w

  abbrev P : Content → Type 0
  P d = IsSound v.config.frames d × IsNear st h call (volumes_shown d) × IsQuietIn s d

  begun : P (content s)
  begun = (sound_now, unchanged going.shows, going.quiet)

  -- the engine speaks of the host whose chain is open, and a write is within one
  writes_open : (track : List RecordData) → a.written ≡ Some track → WritesTrack c (with_open_chain host) unit first s t (Some track) → WritesTrack c host unit first s t (Some track)
  writes_open track is w = subst (λ (x : HostState). WritesTrack c x unit first s t (Some track)) (in_chain host c argument passes (writes_is track is)) w

  writes_by : (o' : Option (List RecordData)) → a.written ≡ o' → WritesTrack c (with_open_chain host) unit first s t o' → Writes P s t
  writes_by None is w = subst (Writes P s) (sym w) (started P s begun)
  writes_by (Some track) is w = weaker (Within track) P (λ d within. ((shows_at track is d within).sound, near_at track is d within, quiet_at track is d within)) s t (writes_open track is w)

  tables : (u : UnitNo) (b : ℕ) → is_table u ≡ true → (same_unit (Staging (frame / 50)) u && (first + host.head == b)) ≡ false
  tables TableA b is = refl
  tables TableB b is = refl
  tables (Staging n) b is = absurd (false≢true is)
  tables (Cartridge n) b is = absurd (false≢true is)

  -- the tasks once the command is done
  abbrev tasks : List (Option Task)
  tasks = tasks_after c volume ((host_at v.hosts h).cylinder / 8) v.tasks

  read_tasks : a.written ≡ None → AreServed (content s) (row_in_list v.rows) tasks
  read_tasks is = elim (cases_Bool (is_write c)) [
    | inl w ↦ subst (AreServed (content s) (row_in_list v.rows)) (sym (cond-true (is_write c) _ _ w)) (served_touched (row_in_list v.rows) (content s) v.tasks volume (host.cylinder / 8) going.served)
    | inr none ↦ subst (AreServed (content s) (row_in_list v.rows)) (sym (cond-false (is_write c) _ _ none)) going.served
  ]

  shows_by : (o' : Option (List RecordData)) → a.written ≡ o' → WritesTrack c (with_open_chain host) unit first s t o'
      → ((track : List RecordData) → o' ≡ Some track → reading (content t unit (first + host.head)) ≡ reading_of track)
      → (volumes_shown (content t) ≡ left.volumes) × SameTables (content s) (content t) × AreServed (content t) (row_in_list v.rows) tasks
  shows_by None is w exact = (
    ap (λ (x : SiteLog). volumes_shown (content x)) w ∙ going.shows ∙ sym (left_none is),
    (λ u b table. ap (λ (x : SiteLog). content x u b) w),
    served_alike (row_in_list v.rows) (content s) (content t) tasks (ap content w) (read_tasks is),
  )
  shows_by (Some track) is w exact =
      let last = ended_with (Within track) s t (writes_open track is w) in (
        shows_put track is (content t) last ∙ ap put (ap (λ (x : Reading). x.records) (exact track refl)) ∙ sym (left_some track is),
        (λ u b table. last.others u b (tables u b table)),
        subst (AreServed (content t) (row_in_list v.rows)) (sym (cond-true (is_write c) _ _ (writes_is track is)))
            (served_written v.config.frames (row_in_list v.rows) v.moving v.requests v.hosts v.tasks core.tasks_ (one_page S v core) (content s) (content t) volume host.cylinder host.head frame r at.row at.frame_ (four track is) at.low_head last.others going.served),
      )

  pub run_enters : WritesTrack c (with_open_chain (host_at v.hosts h)) (unit_of frame) (first_of frame (host_at v.hosts h).cylinder) s t
      (ran (content s) (unit_of frame) (first_of frame (host_at v.hosts h).cylinder) (host_at v.hosts h) c argument chained).written
      → ((track : List RecordData) → (ran (content s) (unit_of frame) (first_of frame (host_at v.hosts h).cylinder) (host_at v.hosts h) c argument chained).written ≡ Some track
      → reading (content t (unit_of frame) (first_of frame (host_at v.hosts h).cylinder + (host_at v.hosts h).head)) ≡ reading_of track)
      → Settles s t
      → Enters v.config.frames v.rows (plain_of s v) v.history
      (entry_of v.history h (ask code argument chained) (ran (content s) (unit_of frame) (first_of frame (host_at v.hosts h).cylinder) (host_at v.hosts h) c argument chained).reply None)
      (put_host v.hosts h (ran (content s) (unit_of frame) (first_of frame (host_at v.hosts h).cylinder) (host_at v.hosts h) c argument chained).host)
      (tasks_after c volume ((host_at v.hosts h).cylinder / 8) v.tasks) s t
  run_enters w exact firm =
      let writes = writes_by a.written refl w in
      let shows = shows_by a.written refl w exact in
      let reply = performed_done (tracks_at (content s) unit first) (with_open_chain host) c argument chained in
      record {
        may = may.0;
        writes = writes;
        agrees = subst (EntryAgrees v.config.frames (row_in_list v.rows) st e) (sym reply.2) agrees;
        leaves = λ is. record {
          hosts_ = ap (λ (x : State). x.host) next_is ∙ (λ i other. cond (other == h) a.host (going.hosts_ i other)) ∙ sym (host_put v.hosts h a.host (host_fits v.hosts h low core.hosts_));
          shows = shows.0 ∙ sym (ap (λ (x : State). x.volumes) next_is);
          tables = shows.1;
          served = shows.2;
          quiet = quiet_settled s t firm (ended_with P s t writes).2;
        };
      }

  admits_now : admitted_command (with_open_chain (st.host h)) code argument ≡ Ok c
  admits_now = ap (λ (x : HostState). admitted_command (with_open_chain x) code argument) here ∙ admits

  -- ---- a write that failed is the last entry
  pub stop_enters : IsTrue (is_write c) → WritesTrack c (with_open_chain (host_at v.hosts h)) (unit_of frame) (first_of frame (host_at v.hosts h).cylinder) s t
      (ran (content s) (unit_of frame) (first_of frame (host_at v.hosts h).cylinder) (host_at v.hosts h) c argument chained).written
      → (fault : ℕ) → (hosts : List HostState) (tasks' : List (Option Task)) → Enters v.config.frames v.rows (plain_of s v) v.history (entry_of v.history h (ask code argument chained) stopped (Some fault)) hosts tasks' s t
  stop_enters write_ w fault hosts tasks' = record {
    may = record { number = refl; answered = (c, admits_now, write_); fault = ((λ some_. refl), (λ kept. refl)); alone = alone };
    writes = writes_by a.written refl w;
    agrees = λ none. (agrees (c, admits_now, write_is_data c write_)).1 none;
    leaves = λ is. absurd (false≢true is);
  }

  -- ---- a read that failed
  pub check_enters : IsTrue (is_data c) → t ≡ s → (fault : ℕ)
      → Enters v.config.frames v.rows (plain_of s v) v.history (entry_of v.history h (ask code argument chained) equipment_check (Some fault))
      (put_host v.hosts h (record (host_at v.hosts h) { chain_open = false; prior = prior.Nothing; sense = sense_of check.EquipmentCheck })) v.tasks s t
  unfolding state_after
  check_enters data_ same fault = record {
    may = record { number = refl; answered = (c, admits_now, data_); fault = ((λ some_. refl), (λ kept. refl)); alone = alone };
    writes = subst (Writes P s) (sym same) (started P s begun);
    agrees = tt;
    leaves = λ is. record {
      hosts_ = (λ i other. cond (other == h) (record (here i) { chain_open = false; prior = prior.Nothing; sense = sense_of check.EquipmentCheck }) (going.hosts_ i other))
          ∙ sym (host_put v.hosts h (record (host_at v.hosts h) { chain_open = false; prior = prior.Nothing; sense = sense_of check.EquipmentCheck }) (host_fits v.hosts h low core.hosts_));
      shows = ap (λ (x : SiteLog). volumes_shown (content x)) same ∙ going.shows;
      tables = λ u b table. ap (λ (x : SiteLog). content x u b) same;
      served = served_alike (row_in_list v.rows) (content s) (content t) v.tasks (ap content same) going.served;
      quiet = subst IsQuiet (sym same) going.quiet;
    };
  }

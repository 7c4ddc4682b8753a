-- At the rule that runs a command: what the command asks for, and that what comes of it is the event and keeps the core.
use Rattle.std.specs.Prelude.{IsSome}
use Rattle.std.proofs.Common.{rules, ◌≡◌, ℕ, ◌/◌, ◌≤◌, ◌<◌, true, List, length, Option, Some, None, sym, ◌∙◌, ap, subst, arith}
use Rattle.mss_base.specs.Content.{SiteLog, content}
use Rattle.mss_base.specs.Places.{frame_block}
use Rattle.mss_base.specs.Sites.{MayWrite}
use Rattle.mss_base.specs.declared.site.Site.{Ghosts}
use Rattle.volume_table.specs.Listed.{row_in_list}
use Rattle.volume_table.specs.Row.{RowValue, frame_of, state_of}
use Rattle.channel_commands.specs.declared.command.Command.{Command}
use Rattle.channel_commands.specs.Data.{CallData, ReplyData, equipment_check, stopped, is_command}
use Rattle.ckd_plain.specs.declared.host.HostState.{HostState}
use Rattle.ckd_plain.specs.declared.unit_check.UnitCheck.TheVariants as check
use Rattle.ckd_plain.specs.Checks.{Passes}
use Rattle.ckd_plain.specs.Effects.{is_data}
use Rattle.ckd_plain.specs.Plain.{with_open_chain, host_after_check}
use Rattle.ckd_track.specs.declared.format.TheConstants.{FORMAT_ITEMS}
use Rattle.track_engine.specs.Tracks.{AreTracks}
use Rattle.fault_queue.specs.Requests.{RequestsData, without_request}
use Rattle.core_state.specs.declared.rule.HostRule.TheVariants.{Runs}
use Rattle.core_state.specs.declared.task.Task.{Task}
use Rattle.core_state.specs.CoreValue.{CoreValue, DevicesSeen, seen_core, seen_site}
use Rattle.core_state.specs.Devices.{StillHold, FailRead, Run, RunOn, FailOn}
use Rattle.core_state.specs.HostEvents.{HostDoes, replied, halts, no_memory}
use Rattle.core_state.specs.HostRules.{host_rule}
use Rattle.core_state.specs.MakingRoom.{Reserves}
use Rattle.core_state.specs.IsCore.{IsCore}
use Rattle.core_state.specs.Pins.{host_at, put_host}
use Rattle.core_state.specs.SessionData.{SessionData, data_of, of_parts, with_stop}
use Rattle.core_state.specs.Tasks.{tasks_after}
use Rattle.core_state.specs.TheCore.{IsKept}
use Rattle.core_state.proofs.HostFacts.{IsHost}
use Rattle.victim_choice.specs.Order.{order_after}
use Rattle.victim_choice.proofs.OrderFacts.{order_long}
use Rattle.host_events.specs.Replies.{with_reply, IsUpheld}
use Rattle.host_events.specs.Runs.{argument_of, is_chained, run_by}
use Rattle.host_events.proofs.RuleFacts.{OnRun, rule_runs}
use Rattle.host_events.proofs.RunDoes.{still_from, read_from, run_from, stop_from, run_does, stop_does}
use Rattle.host_events.proofs.Standing.{mounted_host}
use Rattle.host_events.proofs.UpheldRun.{upheld_moved, upheld_run, upheld_check, upheld_stop}
use Rattle.host_events.proofs.WholeRun.{passes, data_, runs_on_tracks}

module _ (S : Type 0) {C : Type 0} (g : Ghosts S) {u : CoreValue S C} (v : CoreValue S C) (view : u ≡ v)
    (kept : IsKept g.tells (g.told u.site) (g.writes u.site) (g.faults u.site) u) (h : ℕ) (call : CallData) (c : Command) (volume frame : ℕ) (rule : host_rule v h call ≡ Runs c volume frame)
    (state : HostState) (is : state ≡ host_at u.hosts h) (low : state.cylinder < 404) (low_head : state.head < 19) where
  on : OnRun u h call c volume frame
  on = rule_runs u h call kept.whole.kept c volume frame (subst (λ (z : CoreValue S C). host_rule z h call ≡ Runs c volume frame) (sym view) rule) (subst (λ (x : HostState). x.cylinder < 404) is low) (subst (λ (x : HostState). x.head < 19) is low_head)

  core : IsCore u
  core = kept.whole.kept on.goes.going

  low_host : IsHost h
  low_host = mounted_host u.hosts h (volume, on.bind) core.hosts_ on.at.mounted

  pub is_asked : is_command call ≡ true
  is_asked = ap is_command on.asks.is

  pub is_data_ : is_data c ≡ true
  is_data_ = data_ S g.tells (g.told u.site) u kept.whole h low_host call c volume frame on

  -- the row of the volume tells that the cylinder is staged in the frame
  pub has_row : IsSome (row_in_list u.rows volume)
  has_row = let there : IsSome (Some on.r) = search rules in subst IsSome (sym on.at.row) there

  same_row : (r : RowValue) → row_in_list u.rows volume ≡ Some r → on.r ≡ r
  same_row r there = let e : Some on.r ≡ Some r = sym on.at.row ∙ there in cc

  pub in_frame : (r : RowValue) → row_in_list u.rows volume ≡ Some r → frame_of r (state.cylinder / 8) ≡ Some frame
  in_frame r there = subst (λ (p : RowValue × HostState). frame_of p.0 (p.1.cylinder / 8) ≡ Some frame) (λ i. (same_row r there i, sym is i)) on.at.frame_

  pub is_staged : (r : RowValue) → row_in_list u.rows volume ≡ Some r → 2 ≤ state_of r state.cylinder
  is_staged r there = subst (λ (p : RowValue × HostState). 2 ≤ state_of p.0 p.1.cylinder) (λ i. (same_row r there i, sym is i)) on.at.staged

  pub touches : frame < length u.recency
  touches = let e = order_long u.config.frames u.recency core.beside.order in let b = on.below in omega (arith, e, b)

  argument_is : argument_of call ≡ on.asks.argument
  argument_is = ap argument_of on.asks.is

  chained_is : is_chained call ≡ on.asks.chained
  chained_is = ap is_chained on.asks.is

  pub passes_ : Passes (with_open_chain state) c (argument_of call)
  passes_ = subst (λ (p : HostState × List ℕ). Passes (with_open_chain p.0) c p.1) (λ i. (sym is i, sym argument_is i)) (passes S g.tells (g.told u.site) u kept.whole h low_host call c volume frame on)

  -- the run, as the function calls it and as the rule says it
  abbrev run_here : Run
  run_here = run_by state (frame_block frame state.cylinder 0) c call

  abbrev run_there : Run
  run_there = record { host = host_at u.hosts h; at = frame_block frame (host_at u.hosts h).cylinder 0; command = c; argument = on.asks.argument; chained = on.asks.chained }

  here_there : run_here ≡ run_there
  here_there = λ i. record { host = is i; at = frame_block frame (is i).cylinder 0; command = c; argument = argument_is i; chained = chained_is i }

  module _ (mid : S) (reserves : Reserves g u.site mid) where
    pub tracks_ : g.tells → AreTracks (content (g.told mid)) (frame_block frame state.cylinder 0).unit (frame_block frame state.cylinder 0).block
    tracks_ tl = subst (λ (p : SiteLog × HostState). AreTracks (content p.0) (frame_block frame p.1.cylinder 0).unit (frame_block frame p.1.cylinder 0).block) (λ i. (sym (reserves.log tl) i, sym is i))
        (runs_on_tracks S g.tells (g.told u.site) u kept.whole h low_host call c volume frame on tl)

    -- memory was refused before the command was run
    pub room_event : (d : SessionData) → d ≡ data_of u → HostDoes g.tells (seen_core g v) h call (Runs c volume frame) no_memory (seen_core g (of_parts u mid u.rows u.owners u.moving u.requests u.tasks u.hosts d))
    room_event d d_is = subst (λ (z : CoreValue S C). HostDoes g.tells (seen_core g z) h call (Runs c volume frame) no_memory
        (seen_core g (of_parts u mid u.rows u.owners u.moving u.requests u.tasks u.hosts d))) view
        (record { told = reserves.log; unwritten = reserves.unwritten; sound = reserves.same }, λ i. seen_core g (of_parts u mid u.rows u.owners u.moving u.requests u.tasks u.hosts (d_is i)))

    abbrev old : DevicesSeen
    old = seen_site g u.site

    up : IsUpheld g.tells (g.told u.site) (g.writes u.site) (g.faults u.site) u
    up = record { whole = kept.whole; counted = kept.counted }

    module _ (x : S) (may : MayWrite g FORMAT_ITEMS mid x) (counts : g.tells → g.writes x ≡ length (g.told x).log) where
      abbrev new : DevicesSeen
      new = seen_site g x

      more : g.writes u.site ≤ g.writes x
      more = subst (λ (n : ℕ). n ≤ g.writes x) reserves.unwritten may.written

      later : g.faults u.site ≤ g.faults x
      later = subst (λ (n : ℕ). n ≤ g.faults x) reserves.same may.later

      -- ---- nothing was written, and no call failed

      module _ (still : StillHold g.tells (seen_site g mid) (seen_site g x)) (d : SessionData) (d_is : d ≡ data_of u) where
        still_ : StillHold g.tells old new
        still_ = still_from g.tells old (seen_site g mid) new reserves.log reserves.unwritten reserves.same still

        still_path : of_parts u x u.rows u.owners u.moving u.requests u.tasks u.hosts d ≡ record u { site = x }
        still_path i = of_parts u x u.rows u.owners u.moving u.requests u.tasks u.hosts (d_is i)

        pub still_kept : IsKept g.tells (g.told x) (g.writes x) (g.faults x) (of_parts u x u.rows u.owners u.moving u.requests u.tasks u.hosts d)
        still_kept =
            let k = upheld_moved S g.tells u (g.told u.site) (g.told x) (g.writes u.site) (g.faults u.site) (g.writes x) (g.faults x) x up still_.told still_.unwritten still_.sound in
            subst (IsKept g.tells (g.told x) (g.writes x) (g.faults x)) (sym still_path) (record { whole = k.whole; counted = k.counted })

        pub still_event : HostDoes g.tells (seen_core g v) h call (Runs c volume frame) no_memory (seen_core g (of_parts u x u.rows u.owners u.moving u.requests u.tasks u.hosts d))
        still_event = subst (λ (z : CoreValue S C). HostDoes g.tells (seen_core g z) h call (Runs c volume frame) no_memory
            (seen_core g (of_parts u x u.rows u.owners u.moving u.requests u.tasks u.hosts d))) view (still_, ap (λ (z : CoreValue S C). seen_core g z) still_path)

      -- ---- a reply

      module _ (reply : ReplyData) (now : HostState) (ran : RunOn g.tells run_here (seen_site g mid) (seen_site g x) (reply, now))
          (requests : RequestsData) (requests_is : requests ≡ without_request h u.requests) (tasks : List (Option Task)) (tasks_is : tasks ≡ tasks_after c volume (state.cylinder / 8) u.tasks)
          (hosts : List HostState) (hosts_is : hosts ≡ put_host u.hosts h now) (recency : List ℕ) (recency_is : recency ≡ order_after frame u.recency)
          (d : SessionData) (d_is : d ≡ with_reply h call reply None (g.writes x) (data_of u)) where
        abbrev run_core : CoreValue S C
        run_core = record (of_parts u x u.rows u.owners u.moving (without_request h u.requests) (tasks_after c volume ((host_at u.hosts h).cylinder / 8) u.tasks) (put_host u.hosts h now)
            (with_reply h call reply None (g.writes x) (data_of u))) { recency = order_after frame u.recency }

        run_path : record (of_parts u x u.rows u.owners u.moving requests tasks hosts d) { recency = recency } ≡ run_core
        run_path =
            (λ i. record (of_parts u x u.rows u.owners u.moving (requests_is i) (tasks_is i) (hosts_is i) (d_is i)) { recency = recency_is i })
            ∙ (λ i. record (of_parts u x u.rows u.owners u.moving (without_request h u.requests) (tasks_after c volume ((is i).cylinder / 8) u.tasks) (put_host u.hosts h now)
            (with_reply h call reply None (g.writes x) (data_of u))) { recency = order_after frame u.recency })

        pub run_kept : IsKept g.tells (g.told x) (g.writes x) (g.faults x) (record (of_parts u x u.rows u.owners u.moving requests tasks hosts d) { recency = recency })
        run_kept =
            let k = upheld_run S g.tells u old new up h low_host call c volume frame on x more later counts reply now
            (run_from g.tells old (seen_site g mid) new reserves.log reserves.unwritten reserves.same run_there (reply, now)
            (subst (λ (r : Run). RunOn g.tells r (seen_site g mid) new (reply, now)) here_there ran)) in
            subst (IsKept g.tells (g.told x) (g.writes x) (g.faults x)) (sym run_path) (record { whole = k.whole; counted = k.counted })

        pub run_event : (copy : ReplyData) → copy ≡ reply → (index : ℕ) → index ≡ length u.history → HostDoes g.tells (seen_core g v) h call (Runs c volume frame) (replied index copy)
            (seen_core g (record (of_parts u x u.rows u.owners u.moving requests tasks hosts d) { recency = recency }))
        run_event copy copied index place =
            subst (λ (r : ReplyData). HostDoes g.tells (seen_core g v) h call (Runs c volume frame) (replied index r)
            (seen_core g (record (of_parts u x u.rows u.owners u.moving requests tasks hosts d) { recency = recency }))) (sym copied)
            (subst (λ (z : CoreValue S C). HostDoes g.tells (seen_core g z) h call (Runs c volume frame) (replied index reply)
            (seen_core g (record (of_parts u x u.rows u.owners u.moving requests tasks hosts d) { recency = recency }))) view
            (run_does g.tells (seen_core g u) (seen_core g (record (of_parts u x u.rows u.owners u.moving requests tasks hosts d) { recency = recency })) h call c volume frame on.asks.code on.asks.argument on.asks.chained on.asks.is index reply now
            (run_from g.tells old (seen_site g mid) new reserves.log reserves.unwritten reserves.same run_there (reply, now)
            (subst (λ (r : Run). RunOn g.tells r (seen_site g mid) new (reply, now)) here_there ran))
            place (ap (λ (z : CoreValue S C). seen_core g z) run_path)))

      -- ---- a failed read

      module _ (failed : FailRead g.tells (seen_site g mid) (seen_site g x))
          (requests : RequestsData) (requests_is : requests ≡ without_request h u.requests) (hosts : List HostState) (hosts_is : hosts ≡ put_host u.hosts h (host_after_check check.EquipmentCheck state))
          (d : SessionData) (d_is : d ≡ with_reply h call equipment_check (Some (g.faults x)) (g.writes x) (data_of u)) where
        check_path : of_parts u x u.rows u.owners u.moving requests u.tasks hosts d
            ≡ of_parts u x u.rows u.owners u.moving (without_request h u.requests) u.tasks (put_host u.hosts h (host_after_check check.EquipmentCheck (host_at u.hosts h)))
            (with_reply h call equipment_check (Some (g.faults x)) (g.writes x) (data_of u))
        check_path =
            (λ i. of_parts u x u.rows u.owners u.moving (requests_is i) u.tasks (hosts_is i) (d_is i))
            ∙ (λ i. of_parts u x u.rows u.owners u.moving (without_request h u.requests) u.tasks (put_host u.hosts h (host_after_check check.EquipmentCheck (is i)))
            (with_reply h call equipment_check (Some (g.faults x)) (g.writes x) (data_of u)))

        pub check_kept : IsKept g.tells (g.told x) (g.writes x) (g.faults x) (of_parts u x u.rows u.owners u.moving requests u.tasks hosts d)
        check_kept =
            let k = upheld_check S g.tells u old new up h low_host call c volume frame on x more later counts
            (read_from g.tells old (seen_site g mid) new reserves.log reserves.unwritten reserves.same failed) in
            subst (IsKept g.tells (g.told x) (g.writes x) (g.faults x)) (sym check_path) (record { whole = k.whole; counted = k.counted })

        pub check_event : (index : ℕ) → index ≡ length u.history → HostDoes g.tells (seen_core g v) h call (Runs c volume frame) (replied index equipment_check)
            (seen_core g (of_parts u x u.rows u.owners u.moving requests u.tasks hosts d))
        check_event index place =
            subst (λ (z : CoreValue S C). HostDoes g.tells (seen_core g z) h call (Runs c volume frame) (replied index equipment_check)
            (seen_core g (of_parts u x u.rows u.owners u.moving requests u.tasks hosts d))) view
            (read_from g.tells old (seen_site g mid) new reserves.log reserves.unwritten reserves.same failed, place, ap (λ (z : CoreValue S C). seen_core g z) check_path)

      -- ---- a failed write

      module _ (fault : ℕ) (failed : FailOn g.tells run_here fault (seen_site g mid) (seen_site g x))
          (d : SessionData) (d_is : d ≡ with_stop fault (with_reply h call stopped (Some fault) (g.writes x) (data_of u))) where
        stop_path : of_parts u x u.rows u.owners u.moving u.requests u.tasks u.hosts d
            ≡ of_parts u x u.rows u.owners u.moving u.requests u.tasks u.hosts (with_stop (g.faults x) (with_reply h call stopped (Some (g.faults x)) (g.writes x) (data_of u)))
        stop_path =
            (λ i. of_parts u x u.rows u.owners u.moving u.requests u.tasks u.hosts (d_is i))
            ∙ (λ i. of_parts u x u.rows u.owners u.moving u.requests u.tasks u.hosts (with_stop (failed.cause.count i) (with_reply h call stopped (Some (failed.cause.count i)) (g.writes x) (data_of u))))

        pub stop_kept : IsKept g.tells (g.told x) (g.writes x) (g.faults x) (of_parts u x u.rows u.owners u.moving u.requests u.tasks u.hosts d)
        stop_kept =
            let k = upheld_stop S g.tells u old new up h low_host call c volume frame on x more later counts fault
            (stop_from g.tells old (seen_site g mid) new reserves.log reserves.unwritten reserves.same run_there fault
            (subst (λ (r : Run). FailOn g.tells r fault (seen_site g mid) new) here_there failed)) in
            subst (IsKept g.tells (g.told x) (g.writes x) (g.faults x)) (sym stop_path) (record { whole = k.whole; counted = k.counted })

        pub stop_event : (given : ℕ) → given ≡ fault → HostDoes g.tells (seen_core g v) h call (Runs c volume frame) (halts given)
            (seen_core g (of_parts u x u.rows u.owners u.moving u.requests u.tasks u.hosts d))
        stop_event given is_given =
            subst (λ (n : ℕ). HostDoes g.tells (seen_core g v) h call (Runs c volume frame) (halts n) (seen_core g (of_parts u x u.rows u.owners u.moving u.requests u.tasks u.hosts d))) (sym is_given)
            (subst (λ (z : CoreValue S C). HostDoes g.tells (seen_core g z) h call (Runs c volume frame) (halts fault) (seen_core g (of_parts u x u.rows u.owners u.moving u.requests u.tasks u.hosts d))) view
            (stop_does g.tells (seen_core g u) (seen_core g (of_parts u x u.rows u.owners u.moving u.requests u.tasks u.hosts d)) h call c volume frame on.asks.code on.asks.argument on.asks.chained on.asks.is fault
            (stop_from g.tells old (seen_site g mid) new reserves.log reserves.unwritten reserves.same run_there fault
            (subst (λ (r : Run). FailOn g.tells r fault (seen_site g mid) new) here_there failed))
            (ap (λ (z : CoreValue S C). seen_core g z) stop_path)))

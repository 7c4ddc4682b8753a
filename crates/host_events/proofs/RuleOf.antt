-- Which rule a host's call meets, by what it finds.
use Rattle.std.proofs.Common.{◌≡◌, inl, inr, ℕ, ◌≤◌, ◌<◌, Bool, true, false, ◌&&◌, ◌==◌, Option, Some, None, refl, sym, ◌∙◌, ap, subst}
use Rattle.std.specs.Prelude.{nat_lt, not, is_some, if◌then◌else◌}
use Rattle.std.specs.Option.{option_map, option_and_then, unwrap_or}
use Rattle.std.proofs.lemmas.Bool.{and_parts, cases_Bool, cases_lt, eq-eqb, ne_eqb, not-true, false≢true, both_ways, lt-ltb, le-ltb}
use Rattle.mss_base.specs.Firsts.{where_so, ◌or◌}
use Rattle.mss_base.proofs.FirstFacts.{none_below, none_where, none_is, where_none, chain_none}
use Rattle.channel_commands.specs.declared.command.Command.{Command}
use Rattle.channel_commands.specs.Codes.{is_write}
use Rattle.channel_commands.specs.Data.{CallData, is_command}
use Rattle.ckd_plain.specs.declared.host.HostState.{HostState}
use Rattle.volume_table.specs.Row.{state_of}
use Rattle.volume_table.specs.Listed.{row_in_list}
use Rattle.fault_queue.specs.declared.queue.Request.{Request}
use Rattle.fault_queue.specs.declared.queue.RequestState.TheVariants.{Moving}
use Rattle.fault_queue.specs.Requests.{request_of}
use Rattle.core_state.specs.declared.rule.HostRule.{HostRule}
use Rattle.core_state.specs.declared.rule.HostRule.TheVariants.{IsStopped, IsFull, IsBusy, IsMoving, IsHeld, Responds, HasFailed, HasNoSpace, Faults, Marks, Runs}
use Rattle.core_state.specs.Agrees.{UnderHost}
use Rattle.core_state.specs.Counted.{fault_asked}
use Rattle.core_state.specs.CoreValue.{CoreData}
use Rattle.core_state.specs.HostRules.{data_command, is_for, request_for, is_moving_request, fault_of, volume_of, state_under, frame_under, stopped_rule, busy_rule, moving_rule, taken_from, would_bind, held_rule, failed_rule, mark_rule, run_rule, data_rule, host_rule}
use Rattle.core_state.specs.IsCore.{IsCore}
use Rattle.core_state.specs.Pins.{host_at, volume_under, are_all_bound, owns, owner_of}
use Rattle.core_state.specs.Running.{IsNotBusy, IsNotAwaited}
use Rattle.core_state.proofs.Limits.{full_at_limit, room_below}
use Rattle.core_state.proofs.RuleWalks.{chained_some}
use Rattle.host_events.specs.Causes.{HasNoSpaceFor, Goes, IsKeptOff, LeavesServed, IsAtLimit}
use Rattle.host_events.proofs.RuleParts.{data_is, passes_found, owner_low, for_it, state_at, frame_at, no_space_at, all_bound, mounted_under}
use Rattle.host_events.proofs.RuleFacts.{moving_is}

module _ (core : CoreData) (h : ℕ) (call : CallData) where
  abbrev host : HostState
  host = host_at core.hosts h

  -- ---- the first two

  pub at_limit : IsAtLimit core h call → host_rule core h call ≡ IsFull
  unfolding host_rule
  at_limit limit =
      let none : stopped_rule core ≡ None = ap (option_map IsStopped) limit.0 in
      let full = full_at_limit core limit.1 in
      λ i. unwrap_or (none i or full i or busy_rule core h call or moving_rule core h call or held_rule core h call or failed_rule core h call or option_and_then (data_rule core host) (data_command host call)) Responds

  module _ (goes : Goes core) (keeps : IsCore core) where
    -- what comes behind rules that aren't met
    behind_limits : host_rule core h call ≡ unwrap_or (busy_rule core h call or moving_rule core h call or held_rule core h call or failed_rule core h call or option_and_then (data_rule core host) (data_command host call)) Responds
    unfolding host_rule
    behind_limits =
        let none : stopped_rule core ≡ None = ap (option_map IsStopped) goes.going in
        let room = room_below core goes.few in
        λ i. unwrap_or (none i or room i or busy_rule core h call or moving_rule core h call or held_rule core h call or failed_rule core h call or option_and_then (data_rule core host) (data_command host call)) Responds

    -- ---- who owns the volume

    owner_is : (owner volume : ℕ) → owns core.hosts core.requests owner volume ≡ true → owner_of core volume ≡ Some owner
    owner_is owner volume its = by (owner_of core volume) refl
      where
        by : (o : Option ℕ) → owner_of core volume ≡ o → owner_of core volume ≡ Some owner
        by None at =
            let nobody = none_below 9 (λ k. where_so (owns core.hosts core.requests k volume) k) at owner (owner_low core keeps h call owner volume its) in
            absurd (false≢true (sym (none_where (owns core.hosts core.requests owner volume) owner nobody) ∙ its))
        by (Some found) at = at ∙ ap (λ (n : ℕ). Some n) (keeps.alone volume found owner (passes_found (λ k. owns core.hosts core.requests k volume) 9 found at) its)

    pub busy_is : (owner : ℕ) → IsKeptOff core h call owner → host_rule core h call ≡ IsBusy owner
    busy_is owner kept =
        let under : volume_under host ≡ Some kept.volume = ap (option_map (λ (m : ℕ × Bool). m.0)) kept.mounted in
        let found : busy_rule core h call ≡ Some (IsBusy owner) =
        ap (λ (o : Option ℕ). option_and_then (λ owner. where_so (is_command call && not (owner == h)) (IsBusy owner)) (option_and_then (owner_of core) o)) under
        ∙ ap (option_and_then (λ owner. where_so (is_command call && not (owner == h)) (IsBusy owner))) (owner_is owner kept.volume kept.owns_)
        ∙ (λ i. where_so (kept.commands i && not (ne_eqb owner h kept.other i)) (IsBusy owner)) in
        behind_limits ∙ ap (λ (o : Option HostRule). unwrap_or (o or moving_rule core h call or held_rule core h call or failed_rule core h call or option_and_then (data_rule core host) (data_command host call)) Responds) found

    module _ (free : is_command call ≡ true → IsNotBusy core h) where
      not_busy : busy_rule core h call ≡ None
      not_busy =
          chain_none (λ owner. where_so (is_command call && not (owner == h)) (IsBusy owner)) (option_and_then (owner_of core) (volume_under host)) λ owner at.
          where_none (is_command call && not (owner == h)) (IsBusy owner) λ busy.
          let parts = and_parts (is_command call) (not (owner == h)) busy in
          let its = chained_some (owner_of core) (volume_under host) owner at in
          let m = mounted_under host.mounted its.0 its.1 in
          let same = free parts.0 its.0 m.0 m.1 owner (passes_found (λ k. owns core.hosts core.requests k its.0) 9 owner its.2) in
          both_ways (owner == h) (not-true (owner == h) parts.1) (eq-eqb owner h same)

      behind_busy : host_rule core h call ≡ unwrap_or (moving_rule core h call or held_rule core h call or failed_rule core h call or option_and_then (data_rule core host) (data_command host call)) Responds
      behind_busy = behind_limits ∙ ap (λ (o : Option HostRule). unwrap_or (o or moving_rule core h call or held_rule core h call or failed_rule core h call or option_and_then (data_rule core host) (data_command host call)) Responds) not_busy

      -- ---- the host's request

      pub served_is : (cylinder : ℕ) → LeavesServed core h call cylinder → host_rule core h call ≡ IsMoving cylinder
      served_is cylinder leaves =
          let other : is_for host call leaves.q ≡ false = ap (λ (o : Option Command). is_some o && (host.cylinder == leaves.q.cylinder)) leaves.none in
          let found : moving_rule core h call ≡ Some (IsMoving cylinder) =
          ap (option_and_then (λ (q : Request). where_so (is_moving_request q.state && not (is_for host call q)) (IsMoving q.cylinder))) leaves.asked
          ∙ (λ i. where_so (is_moving_request (leaves.moves i) && not (other i)) (IsMoving (leaves.cylinder_ i))) in
          behind_busy ∙ ap (λ (o : Option HostRule). unwrap_or (o or held_rule core h call or failed_rule core h call or option_and_then (data_rule core host) (data_command host call)) Responds) found

      -- none is served that the call isn't for
      rests : ((q : Request) → request_of core.requests h ≡ Some q → q.state ≡ Moving → is_for host call q ≡ true) → moving_rule core h call ≡ None
      rests mine =
          chain_none (λ q. where_so (is_moving_request q.state && not (is_for host call q)) (IsMoving q.cylinder)) (request_of core.requests h) λ q asked.
          where_none (is_moving_request q.state && not (is_for host call q)) (IsMoving q.cylinder) λ waits.
          let parts = and_parts (is_moving_request q.state) (not (is_for host call q)) waits in
          both_ways (is_for host call q) (not-true (is_for host call q) parts.1) (mine q asked (moving_is q.state parts.0))

      behind_moving : moving_rule core h call ≡ None → host_rule core h call ≡ unwrap_or (held_rule core h call or failed_rule core h call or option_and_then (data_rule core host) (data_command host call)) Responds
      behind_moving none = behind_busy ∙ ap (λ (o : Option HostRule). unwrap_or (o or held_rule core h call or failed_rule core h call or option_and_then (data_rule core host) (data_command host call)) Responds) none

      module _ (quiet : IsNotAwaited core h) where
        quiet_rests : moving_rule core h call ≡ None
        quiet_rests = rests (λ q asked moves. absurd (quiet q asked moves))

        pub held_is : (frame volume : ℕ) → would_bind core host call ≡ Some volume → taken_from volume core.tasks ≡ Some frame → host_rule core h call ≡ IsHeld frame
        held_is frame volume binds takes =
            let found : held_rule core h call ≡ Some (IsHeld frame) =
            ap (λ (o : Option ℕ). option_map IsHeld (option_and_then (λ volume. taken_from volume core.tasks) o)) binds ∙ ap (option_map IsHeld) takes in
            behind_moving quiet_rests ∙ ap (λ (o : Option HostRule). unwrap_or (o or failed_rule core h call or option_and_then (data_rule core host) (data_command host call)) Responds) found

        pub responds_is : data_command host call ≡ None → ((volume : ℕ) → would_bind core host call ≡ Some volume → taken_from volume core.tasks ≡ None) → host_rule core h call ≡ Responds
        responds_is none untaken =
            let unheld : held_rule core h call ≡ None = ap (option_map IsHeld) (chain_none (λ volume. taken_from volume core.tasks) (would_bind core host call) untaken) in
            let nobodys : request_for core h call ≡ None =
            chain_none (λ (q : Request). where_so (is_for host call q) q) (request_of core.requests h)
            (λ q asked. ap (λ (o : Option Command). where_so (is_some o && (host.cylinder == q.cylinder)) q) none) in
            let well : failed_rule core h call ≡ None = ap (λ (o : Option Request). option_map HasFailed (option_and_then (λ (q : Request). fault_of q.state) o)) nobodys in
            behind_moving quiet_rests ∙ (λ i. unwrap_or (unheld i or well i or option_and_then (data_rule core host) (none i)) Responds)

      -- ---- a search, read or write

      module _ (c : Command) (looks : data_command host call ≡ Some c) where
        unheld : held_rule core h call ≡ None
        unheld = ap (λ (k : CallData). option_map IsHeld (option_and_then (λ volume. taken_from volume core.tasks) (would_bind core host k))) (data_is host call c looks).is

        -- a request is of the call
        same_request : request_for core h call ≡ request_of core.requests h
        same_request = by (request_of core.requests h) refl
          where
            by : (o : Option Request) → request_of core.requests h ≡ o → option_and_then (λ (q : Request). where_so (is_for host call q) q) o ≡ o
            by None at = refl
            by (Some q) at = ap (λ (b : Bool). where_so b q) (for_it core keeps h call c looks q at)

        failed_by : failed_rule core h call ≡ option_map HasFailed (fault_asked core.requests h)
        failed_by = ap (λ (o : Option Request). option_map HasFailed (option_and_then (λ (q : Request). fault_of q.state) o)) same_request

        behind_held : host_rule core h call ≡ unwrap_or (failed_rule core h call or option_and_then (data_rule core host) (data_command host call)) Responds
        behind_held =
            behind_moving (rests (λ q asked moves. for_it core keeps h call c looks q asked))
            ∙ ap (λ (o : Option HostRule). unwrap_or (o or failed_rule core h call or option_and_then (data_rule core host) (data_command host call)) Responds) unheld

        pub failed_is : (fault : ℕ) → fault_asked core.requests h ≡ Some fault → host_rule core h call ≡ HasFailed fault
        failed_is fault fails =
            behind_held ∙ ap (λ (o : Option HostRule). unwrap_or (o or option_and_then (data_rule core host) (data_command host call)) Responds) (failed_by ∙ ap (option_map HasFailed) fails)

        module _ (unfailed : fault_asked core.requests h ≡ None) where
          behind_failed : host_rule core h call ≡ unwrap_or (data_rule core host c) Responds
          behind_failed =
              let well = failed_by ∙ ap (option_map HasFailed) unfailed in
              behind_held ∙ (λ i. unwrap_or (well i or option_and_then (data_rule core host) (looks i)) Responds)

          -- the cylinder isn't staged
          unstaged_is : (full : Bool) → state_under core host < 2 → (not (is_some (frame_under core host)) && are_all_bound core) ≡ full
              → host_rule core h call ≡ (if full then HasNoSpace else Faults (volume_of host) host.cylinder)
          unstaged_is full low is =
              let test = lt-ltb (state_under core host) 2 low in
              behind_failed ∙ (λ i. unwrap_or (where_so (test i) (if is i then HasNoSpace else Faults (volume_of host) host.cylinder) or mark_rule core host c or run_rule core host c) Responds)

          pub no_space_is : HasNoSpaceFor core.config.frames (row_in_list core.rows) (host_at core.hosts) h → host_rule core h call ≡ HasNoSpace
          no_space_is full = unstaged_is true low (no_space_at core keeps h full)
            where
              low : state_under core host < 2
              low =
                  let under = full.0 in
                  let row = keeps.are_rows under.0 under.2 under.4 in
                  let at = state_at core host under.0 under.1 under.2 under.3 under.4 in
                  elim (cases_lt (state_under core host) 2) [
                    | inl lt ↦ lt
                    | inr staged ↦ absurd (false≢true (ap is_some (sym under.5) ∙ row.staged host.cylinder (subst (λ (n : ℕ). 2 ≤ n) at staged)))
                  ]

          pub fault_is : UnderHost (row_in_list core.rows) host (λ r under. state_of r under < 2) → (HasNoSpaceFor core.config.frames (row_in_list core.rows) (host_at core.hosts) h → ⊥)
              → host_rule core h call ≡ Faults (volume_of host) host.cylinder
          fault_is under space =
              let at = state_at core host under.0 under.1 under.2 under.3 under.4 in
              elim (cases_Bool (not (is_some (frame_under core host)) && are_all_bound core)) [
                | inl full ↦
                    let parts = and_parts (not (is_some (frame_under core host))) (are_all_bound core) full in
                    let none = none_is (frame_under core host) (not-true _ parts.0) in
                    let frame = frame_at core host under.0 under.1 under.2 under.3 under.4 in
                    absurd (space ((under.0, under.1, under.2, under.3, under.4, sym frame ∙ none), all_bound core keeps parts.1))
                | inr some ↦ unstaged_is false (subst (λ (n : ℕ). n < 2) (sym at) under.5) some
              ]

          -- it is
          module _ (past : 2 ≤ state_under core host) where
            behind_fault : host_rule core h call ≡ unwrap_or (mark_rule core host c or run_rule core host c) Responds
            behind_fault =
                let test = le-ltb (state_under core host) 2 past in
                behind_failed
                ∙ ap (λ (b : Bool). unwrap_or (where_so b (if not (is_some (frame_under core host)) && are_all_bound core then HasNoSpace else Faults (volume_of host) host.cylinder) or mark_rule core host c or run_rule core host c) Responds) test

            pub marks_is : is_write c ≡ true → state_under core host < 4 → host_rule core h call ≡ Marks (volume_of host) host.cylinder
            marks_is writes low =
                let test = lt-ltb (state_under core host) 4 low in
                behind_fault ∙ (λ i. unwrap_or (where_so (writes i && test i) (Marks (volume_of host) host.cylinder) or run_rule core host c) Responds)

            pub runs_is : (frame : ℕ) → frame_under core host ≡ Some frame → (is_write c ≡ true → 4 ≤ state_under core host) → host_rule core h call ≡ Runs c (volume_of host) frame
            runs_is frame has changed =
                let unmarked : mark_rule core host c ≡ None = where_none (is_write c && nat_lt (state_under core host) 4) (Marks (volume_of host) host.cylinder) λ marks.
                let parts = and_parts (is_write c) (nat_lt (state_under core host) 4) marks in
                both_ways (nat_lt (state_under core host) 4) (le-ltb (state_under core host) 4 (changed parts.0)) parts.1 in
                behind_fault ∙ (λ i. unwrap_or (unmarked i or option_map (Runs c (volume_of host)) (has i)) Responds)

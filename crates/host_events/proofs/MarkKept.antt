-- At the rule that marks a cylinder: what the change asks for, and that its outcomes are the event and keep the core.
use Rattle.std.proofs.Common.{◌≡◌, inl, inr, ℕ, ◌/◌, ◌≤◌, ◌<◌, Bool, true, false, cond, ◌&&◌, List, [], ◌∷◌, ◌++◌, length, Option, Some, None, Ok, Err, refl, sym, ◌∙◌, ap, subst, arith}
use Rattle.std.specs.Prelude.{Result, OnOk, OnErr, slice_set, not, is_some}
use Rattle.std.specs.Option.{ForSome, option_map}
use Rattle.std.proofs.lemmas.Bool.{cond-false, eqb-true}
use Rattle.mss_base.specs.Content.{SiteLog, content}
use Rattle.mss_base.specs.Counts.{Rises}
use Rattle.mss_base.specs.Sites.{WritesAtMost}
use Rattle.mss_base.specs.declared.site.Site.{Ghosts}
use Rattle.channel_commands.specs.Data.{CallData, stopped}
use Rattle.volume_table.specs.Listed.{HasRow, row_in_list, with_changed}
use Rattle.volume_table.specs.Row.{RowValue}
use Rattle.volume_table.specs.Changes.{IsAllowed, effect, with_state as state_set}
use Rattle.volume_table.specs.declared.changes.Change.TheVariants.{Changed}
use Rattle.table_pair.specs.declared.change.TheConstants.{CHANGE_ITEMS}
use Rattle.table_pair.specs.declared.copy.SlotsUsed.{SlotsUsed}
use Rattle.table_pair.specs.Slots.{IsChanged, used_after, used_at, with_used_after}
use Rattle.fault_queue.specs.declared.queue.Request.{Request}
use Rattle.fault_queue.specs.declared.queue.RequestState.TheVariants.{Ready}
use Rattle.fault_queue.specs.Requests.{RequestsData, request_of, with_state, put_request}
use Rattle.core_state.specs.declared.rule.HostRule.TheVariants.{Marks}
use Rattle.core_state.specs.declared.session.Event.TheVariants.{Host}
use Rattle.core_state.specs.declared.task.Task.{Task}
use Rattle.core_state.specs.Agrees.{message_of}
use Rattle.core_state.specs.CoreValue.{CoreValue, CoreData, DevicesSeen, seen_core, seen_site}
use Rattle.core_state.specs.Counted.{IsEntryBehind}
use Rattle.core_state.specs.Entered.{core_with_entry, with_used, core_after_work}
use Rattle.core_state.specs.HostEvents.{HostDoes, marked, halts}
use Rattle.core_state.specs.HostRules.{request_for, host_rule}
use Rattle.core_state.specs.MakingRoom.{Reserves}
use Rattle.core_state.specs.IsCore.{IsCore}
use Rattle.core_state.specs.Pins.{page_of, is_on}
use Rattle.core_state.specs.Rows.{HaveListed, Rewrites, WritesRow}
use Rattle.core_state.specs.SessionData.{SessionData, data_of, of_parts, with_stop, with_last_event, with_last_message}
use Rattle.core_state.specs.Steps.{entry_of, with_event, with_change, ends_request, going_on, with_request, touching}
use Rattle.core_state.specs.Tasks.{touched_all}
use Rattle.core_state.specs.TheCore.{IsWhole, IsKept}
use Rattle.core_state.proofs.BesideFacts.{whole_noted, counted_noted}
use Rattle.core_state.proofs.CountedFacts.{counted_request, counted_message, counted_halt}
use Rattle.core_state.proofs.HostFacts.{IsHost}
use Rattle.core_state.proofs.RowOwners.{listed_low}
use Rattle.core_state.proofs.RuleWalks.{none_some}
use Rattle.host_events.specs.Parts.{ready_for}
use Rattle.host_events.specs.Replies.{with_reply}
use Rattle.host_events.proofs.MarkRequests.{ready_put}
use Rattle.host_events.proofs.RuleFacts.{OnMark, rule_marks}
use Rattle.host_events.proofs.Standing.{mounted_host, staged_low}
use Rattle.host_events.proofs.WholeMark.{whole_marked, whole_mark_failed}

module _ (S : Type 0) {C : Type 0} (g : Ghosts S) {u : CoreValue S C} (v : CoreValue S C) (view : u ≡ v)
    (kept : IsKept g.tells (g.told u.site) (g.writes u.site) (g.faults u.site) u) (h : ℕ) (call : CallData) (volume cylinder : ℕ) (rule : host_rule v h call ≡ Marks volume cylinder) where
  on : OnMark u h call volume cylinder
  on = rule_marks u h call kept.whole.kept volume cylinder (subst (λ (z : CoreValue S C). host_rule z h call ≡ Marks volume cylinder) (sym view) rule)

  core : IsCore u
  core = kept.whole.kept on.goes.going

  low_host : IsHost h
  low_host = mounted_host u.hosts h (volume, on.bind) core.hosts_ on.mounted

  low_cylinder : cylinder < 404
  low_cylinder = staged_low on.r cylinder (core.are_rows volume on.r on.there) (elim on.staged [ inl two ↦ omega (arith, two) | inr three ↦ omega (arith, three) ])

  -- the volume has a row, and the change is allowed
  pub changes_row : HasRow u.rows volume (λ r. IsAllowed (Changed cylinder) r)
  changes_row = (on.r, on.there, on.staged)

  -- a request that the host has is for the cylinder
  same_request : (q : Request) → request_of u.requests h ≡ Some q → record q { state = Ready } ≡ ready_for volume cylinder
  same_request q asked =
      let placed = core.on_mounted h q asked in
      let volume_is : volume ≡ q.volume = eqb-true volume q.volume (subst (λ (m : Option (ℕ × Bool)). is_on q.volume m ≡ true) on.mounted placed.0) in
      let cylinder_is : cylinder ≡ q.cylinder = on.cylinder_ ∙ placed.1 in
      λ i. record { volume = sym volume_is i; cylinder = sym cylinder_is i; state = Ready }

  -- so the call ends no request
  ends_none : ends_request (seen_core g u) h call ≡ false
  ends_none = by (request_of u.requests h) refl
    where
      by : (o : Option Request) → request_of u.requests h ≡ o → (is_some (request_of u.requests h) && not (is_some (request_for u h call))) ≡ false
      by None at = ap (λ (o : Option Request). is_some o && not (is_some (request_for u h call))) at
      by (Some q) at = ap (λ (o : Option Request). is_some o && not (is_some (request_for u h call))) at ∙ ap (λ (o : Option Request). not (is_some o)) (on.asks.mine q at)

  going_same : going_on (seen_core g u) h call ≡ seen_core g u
  going_same = cond-false _ _ _ ends_none

  module _ (mid : S) (reserves : Reserves g u.site mid) where
    pub has_listed : g.tells → HaveListed u.rows u.used volume (content (g.told mid))
    has_listed tl =
        let going = (kept.whole.told tl).going on.goes.going in
        subst (λ (s : SiteLog). HaveListed u.rows u.used volume (content s)) (sym (reserves.log tl)) (record {
          holds = λ r at. going.copies volume r at;
          slots_ = going.slots_ volume (listed_low S u core volume on.r on.there);
        })

    module _ {T E : Type 0} (result : Result T E) (x : S) (site_ : WritesAtMost g CHANGE_ITEMS mid x result) (counts : g.tells → g.writes x ≡ length (g.told x).log)
        (copies : g.tells → ForSome (row_in_list u.rows volume) (λ r. WritesRow volume (effect (Changed cylinder) r) (used_after (used_at u.used volume)) (g.told mid) (g.told x) result))
        (rows : List (Option RowValue)) (rows_is : rows ≡ with_changed volume (Changed cylinder) u.rows) where
      abbrev old : DevicesSeen
      old = seen_site g u.site

      abbrev new : DevicesSeen
      new = seen_site g x

      more : g.writes u.site ≤ g.writes x
      more = subst (λ (n : ℕ). n ≤ g.writes x) reserves.unwritten site_.devices.written

      later : g.faults u.site ≤ g.faults x
      later = subst (λ (n : ℕ). n ≤ g.faults x) reserves.same site_.devices.later

      moments_ : g.tells → (r : RowValue) → row_in_list u.rows volume ≡ Some r → Rewrites volume (effect (Changed cylinder) r) (g.told u.site) (g.told x)
      moments_ tl r at = subst (λ (s : SiteLog). Rewrites volume (effect (Changed cylinder) r) s (g.told x)) (reserves.log tl) (copies tl r at).moments

      abbrev rows_now : List (Option RowValue)
      rows_now = slice_set u.rows volume (Some (state_set cylinder 4 on.r))

      rows_set : with_changed volume (Changed cylinder) u.rows ≡ rows_now
      rows_set = ap (λ (o : Option RowValue). slice_set u.rows volume (option_map (effect (Changed cylinder)) o)) on.there

      -- ---- the change is written

      module _ (value : T) (ok : result ≡ Ok value) (used : List SlotsUsed) (used_is : used ≡ with_used_after volume u.used)
          (requests : RequestsData) (requests_is : requests ≡ cond (is_some (request_of u.requests h)) (with_state h Ready u.requests) (u.requests ++ (h, ready_for volume cylinder) ∷ []))
          (tasks : List (Option Task)) (tasks_is : tasks ≡ touched_all volume (cylinder / 8) u.tasks)
          (d : SessionData) (d_is : d ≡ with_last_event (Host h) (with_last_message (message_of (g.writes x) volume (Changed cylinder) (row_in_list u.rows)) (data_of u))) where
        grown_ : g.tells → length (g.told u.site).log < length (g.told x).log
        grown_ tl =
            subst (λ (s : SiteLog). length s.log < length (g.told x).log) (reserves.log tl)
            (subst (λ (y : Result T E). OnOk y (length (g.told mid).log < length (g.told x).log)) ok (copies tl on.r on.there).grown)

        changed_ : g.tells → (r : RowValue) → row_in_list u.rows volume ≡ Some r → IsChanged (effect (Changed cylinder) r) (used_after (used_at u.used volume)) volume (g.told u.site) (g.told x)
        changed_ tl r at =
            subst (λ (s : SiteLog). IsChanged (effect (Changed cylinder) r) (used_after (used_at u.used volume)) volume s (g.told x)) (reserves.log tl)
            (subst (λ (y : Result T E). OnOk y (IsChanged (effect (Changed cylinder) r) (used_after (used_at u.used volume)) volume (g.told mid) (g.told x))) ok (copies tl r at).changed)

        sound_ : g.faults x ≡ g.faults u.site
        sound_ = subst (λ (y : Result T E). OnOk y (g.faults x ≡ g.faults mid)) ok site_.cause.same ∙ reserves.same

        abbrev d_now : SessionData
        d_now = with_last_event (Host h) (with_last_message (message_of (g.writes x) volume (Changed cylinder) (row_in_list u.rows)) (data_of u))

        abbrev now : CoreValue S C
        now = with_used (with_used_after volume u.used) u

        abbrev put : RequestsData
        put = put_request u.requests h (Some (ready_for volume cylinder))

        kept_path : of_parts (with_used used u) x rows u.owners u.moving requests tasks u.hosts d ≡ of_parts now x rows_now u.owners u.moving put (touched_all volume (cylinder / 8) u.tasks) u.hosts d_now
        kept_path = λ i. of_parts (with_used (used_is i) u) x ((rows_is ∙ rows_set) i) u.owners u.moving ((requests_is ∙ ready_put h (ready_for volume cylinder) u.requests same_request) i) (tasks_is i) u.hosts (d_is i)

        whole_ : IsWhole g.tells (g.told x) (of_parts now x rows_now u.owners u.moving put (touched_all volume (cylinder / 8) u.tasks) u.hosts d_now)
        whole_ = whole_noted g.tells (g.told x)
            (core_after_work now x rows_now (u.console ++ message_of (g.writes x) volume (Changed cylinder) (row_in_list u.rows) ∷ []) u.owners u.moving put (touched_all volume (cylinder / 8) u.tasks)) (u.events ++ Host h ∷ [])
            (whole_marked S g.tells (g.told u.site) u kept.whole on.goes.going h low_host volume cylinder on.bind on.mounted on.r on.there low_cylinder on.staged on.asks.free on.quiet on.cylinder_ (g.told x) x (g.writes x)
            (λ tl. moments_ tl on.r on.there) (λ tl. changed_ tl on.r on.there) counts grown_)

        pub marked_kept : IsKept g.tells (g.told x) (g.writes x) (g.faults x) (of_parts (with_used used u) x rows u.owners u.moving requests tasks u.hosts d)
        marked_kept = subst (IsKept g.tells (g.told x) (g.writes x) (g.faults x)) (sym kept_path) (record {
          whole = whole_;
          counted = counted_noted (g.writes x) (g.faults x) put _ (u.events ++ Host h ∷ [])
              (counted_message (g.writes x) (g.faults x) (g.writes x) (g.faults x) put (data_of u)
              (counted_request (g.writes u.site) (g.faults u.site) (g.writes x) (g.faults x) u.requests (data_of u) kept.counted more later h (Some (ready_for volume cylinder)) core.requests_ (λ fault is. absurd (none_some fault is)))
              (omega arith) (omega arith) (message_of (g.writes x) volume (Changed cylinder) (row_in_list u.rows)) (omega arith));
        })

        pub marked_event : HostDoes g.tells (seen_core g v) h call (Marks volume cylinder) marked (seen_core g (of_parts (with_used used u) x rows u.owners u.moving requests tasks u.hosts d))
        marked_event = subst (λ (z : CoreValue S C). HostDoes g.tells (seen_core g z) h call (Marks volume cylinder) marked (seen_core g (of_parts (with_used used u) x rows u.owners u.moving requests tasks u.hosts d))) view (
          (λ r at. record {
            write = record { moments = λ tl. moments_ tl r at; later = more };
            changed = λ tl. changed_ tl r at;
            grown = grown_;
            sound = sound_;
          }),
          ap (λ (z : CoreValue S C). seen_core g z)
              (λ i. of_parts (with_used (used_is i) u) x (rows_is i) u.owners u.moving (requests_is i) (tasks_is i) u.hosts (d_is i))
              ∙ ap (λ (k : CoreData). with_event (Host h) (touching (volume, page_of cylinder) (with_request h volume cylinder Ready (with_change volume (Changed cylinder) (record k { site = new }))))) (sym going_same),
        )

      -- ---- a write of the devices failed

      module _ (e : E) (err : result ≡ Err e) (used : List SlotsUsed) (used_is : used ≡ u.used) (requests : RequestsData) (requests_is : requests ≡ u.requests) (fault : ℕ) (fault_is : fault ≡ g.faults x)
          (d : SessionData) (d_is : d ≡ with_reply h call stopped (Some fault) (g.writes x) (with_stop (g.faults x) (data_of u))) where
        abbrev d_stopped : SessionData
        d_stopped = with_reply h call stopped (Some (g.faults x)) (g.writes x) (with_stop (g.faults x) (data_of u))

        rises_ : Rises (g.faults u.site) (g.faults x)
        rises_ = subst (λ (n : ℕ). Rises n (g.faults x)) reserves.same (subst (λ (y : Result T E). OnErr y (Rises (g.faults mid) (g.faults x))) err site_.cause.failed)

        wrote_ : Rises (g.writes u.site) (g.writes x)
        wrote_ = subst (λ (n : ℕ). Rises n (g.writes x)) reserves.unwritten (subst (λ (y : Result T E). OnErr y (Rises (g.writes mid) (g.writes x))) err site_.counted)

        d_path : d ≡ d_stopped
        d_path = d_is ∙ ap (λ (n : ℕ). with_reply h call stopped (Some n) (g.writes x) (with_stop (g.faults x) (data_of u))) fault_is

        stop_path : of_parts (with_used used u) x rows u.owners u.moving requests u.tasks u.hosts d ≡ of_parts u x rows_now u.owners u.moving u.requests u.tasks u.hosts d_stopped
        stop_path = λ i. of_parts (with_used (used_is i) u) x ((rows_is ∙ rows_set) i) u.owners u.moving (requests_is i) u.tasks u.hosts (d_path i)

        abbrev stop_entered : CallData → CoreValue S C
        stop_entered k = record (core_with_entry u x (entry_of u.history h k stopped (Some (g.faults x))) (g.writes x) u.hosts u.requests u.tasks (Some (g.faults x))) { rows = slice_set u.rows volume (Some (state_set cylinder 4 on.r)) }

        whole_stopped : IsWhole g.tells (g.told x) (of_parts u x rows_now u.owners u.moving u.requests u.tasks u.hosts d_stopped)
        whole_stopped = whole_noted g.tells (g.told x) (stop_entered call) (u.events ++ Host h ∷ [])
            (subst (λ (k : CallData). IsWhole g.tells (g.told x) (stop_entered k)) (sym on.asks.is)
            (whole_mark_failed S g.tells (g.told u.site) u kept.whole on.goes.going h low_host volume cylinder on.bind on.mounted on.r on.there low_cylinder on.staged on.asks.free on.quiet
            on.asks.code on.asks.argument on.asks.chained on.asks.c on.asks.admits on.write_ on.cylinder_ (g.told x) x on.goes.few (g.faults x) (g.writes x) (λ tl. moments_ tl on.r on.there) counts))

        behind : IsEntryBehind u.history (entry_of u.history h call stopped (Some (g.faults x)))
        behind = record { number = refl; fault = ((λ some_. refl), (λ keeps. refl)) }

        pub unmarked_kept : IsKept g.tells (g.told x) (g.writes x) (g.faults x) (of_parts (with_used used u) x rows u.owners u.moving requests u.tasks u.hosts d)
        unmarked_kept = subst (IsKept g.tells (g.told x) (g.writes x) (g.faults x)) (sym stop_path) (record {
          whole = whole_stopped;
          counted = counted_noted (g.writes x) (g.faults x) u.requests _ (u.events ++ Host h ∷ [])
              (counted_halt (g.writes u.site) (g.faults u.site) (g.writes x) (g.faults x) u.requests (data_of u) kept.counted more later on.goes.going (record { count = refl; rises = rises_ })
              (entry_of u.history h call stopped (Some (g.faults x))) behind tt refl);
        })

        pub unmarked_event : HostDoes g.tells (seen_core g v) h call (Marks volume cylinder) (halts fault) (seen_core g (of_parts (with_used used u) x rows u.owners u.moving requests u.tasks u.hosts d))
        unmarked_event = subst (λ (z : CoreValue S C). HostDoes g.tells (seen_core g z) h call (Marks volume cylinder) (halts fault) (seen_core g (of_parts (with_used used u) x rows u.owners u.moving requests u.tasks u.hosts d))) view (
          (λ r at. record {
            write = record { moments = λ tl. moments_ tl r at; later = more };
            wrote = wrote_;
            cause = record { count = fault_is; rises = rises_ };
          }),
          ap (λ (z : CoreValue S C). seen_core g z) (λ i. of_parts (with_used (used_is i) u) x (rows_is i) u.owners u.moving (requests_is i) u.tasks u.hosts (d_path i)),
        )

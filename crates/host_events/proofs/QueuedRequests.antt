-- A core where a host asks for a cylinder that isn't staged.
use Rattle.std.proofs.Common.{◌≡◌, ℕ, ◌<◌, Bool, true, false, ◌&&◌, [], ◌∷◌, ◌++◌, Option, Some, None, refl, sym, ◌∙◌, ap, subst, arith}
use Rattle.std.specs.Prelude.{not, is_some, if◌then◌else◌}
use Rattle.std.specs.Option.{ForSome, option_and_then}
use Rattle.std.proofs.lemmas.Bool.{eq-eqb, false≢true}
use Rattle.mss_base.specs.Content.{SiteLog}
use Rattle.mss_base.specs.Firsts.{where_so}
use Rattle.channel_commands.specs.Data.{CallData}
use Rattle.volume_table.specs.Listed.{row_in_list}
use Rattle.volume_table.specs.Row.{RowValue, state_of}
use Rattle.fault_queue.specs.declared.queue.Request.{Request}
use Rattle.fault_queue.specs.declared.queue.RequestState.TheVariants.{Queued, Moving, Ready}
use Rattle.fault_queue.specs.Requests.{RequestsData, request_of, with_state, without_request, asked_as, put_request}
use Rattle.core_state.specs.declared.session.Event.TheVariants.{Host}
use Rattle.core_state.specs.CoreValue.{CoreData, CoreValue}
use Rattle.core_state.specs.Entered.{core_after_work}
use Rattle.core_state.specs.HostEvents.{Asks}
use Rattle.core_state.specs.HostRules.{is_for, request_for}
use Rattle.core_state.specs.IsCore.{IsCore, IsPlaced}
use Rattle.core_state.specs.Pins.{host_at, is_on}
use Rattle.core_state.specs.Running.{IsNotAwaited}
use Rattle.core_state.specs.SessionData.{data_of}
use Rattle.core_state.specs.Steps.{with_event, with_request, going_on}
use Rattle.core_state.specs.TheCore.{IsWhole}
use Rattle.core_state.proofs.BesideFacts.{whole_noted, counted_noted}
use Rattle.core_state.proofs.CoreWork.{owned_of}
use Rattle.core_state.proofs.CountedFacts.{counted_request}
use Rattle.core_state.proofs.Fitting.{fit_put}
use Rattle.core_state.proofs.HostFacts.{IsHost}
use Rattle.core_state.proofs.HostRequests.{asked_own, waiting_put, tasks_with_request}
use Rattle.core_state.proofs.RuleWalks.{none_some, some_is}
use Rattle.core_state.proofs.WholeEvents.{whole_work}
use Rattle.host_events.specs.Replies.{after_asking, IsUpheld}
use Rattle.host_events.proofs.RuleFacts.{OnFault}

abbrev queued : ℕ → ℕ → Request
queued volume cylinder = record { volume = volume; cylinder = cylinder; state = Queued }

absent : (o : Option Request) → is_some o ≡ false → o ≡ None
absent None is = refl
absent (Some q) is = absurd (false≢true (sym is))

-- a host's request is looked for, and not found
pub none_asked : {S C : Type 0} (v inside : CoreValue S C) (h : ℕ) (found : Option Request) (test : Bool) → inside ≡ v → found ≡ request_of inside.requests h → test ≡ is_some found → test ≡ false → request_of v.requests h ≡ None
none_asked v inside h found test is found_is test_is fails = sym (found_is ∙ ap (λ (x : CoreValue _ _). request_of x.requests h) is) ∙ absent found (sym test_is ∙ fails)

pub one_asked : {S C : Type 0} (v inside : CoreValue S C) (h : ℕ) (found : Option Request) (test : Bool) → inside ≡ v → found ≡ request_of inside.requests h → test ≡ is_some found → test ≡ true → is_some (request_of v.requests h) ≡ true
one_asked v inside h found test is found_is test_is holds = ap is_some (sym (found_is ∙ ap (λ (x : CoreValue _ _). request_of x.requests h) is)) ∙ sym test_is ∙ holds

module _ {S C : Type 0} (tells : Type 0) (s : SiteLog) (writes faults : ℕ) (v : CoreValue S C) (is : IsUpheld tells s writes faults v) (h : ℕ) (low : IsHost h) (call : CallData) (volume cylinder : ℕ) (on : OnFault v h call volume cylinder)
    (none : request_of v.requests h ≡ None) where
  core : IsCore v
  core = is.whole.kept on.goes.going

  abbrev asked : Option Request
  asked = Some (record { volume = volume; cylinder = cylinder; state = Queued })

  quiet : IsNotAwaited v h
  quiet q at moves = none_some q (sym none ∙ at)

  whole_asked : IsWhole tells s (core_after_work v v.site v.rows v.console v.owners v.moving (put_request v.requests h asked) v.tasks)
  whole_asked =
      whole_work S tells s v v.site v.owners v.moving (put_request v.requests h asked) v.tasks is.whole on.goes.going (owned_of S v core) core.moving_
      (asked_own S v core h low asked on.asks.free (λ q at. subst (IsPlaced (host_at v.hosts h)) (some_is _ q at) (ap (is_on volume) on.mounted ∙ eq-eqb volume volume refl, sym on.cylinder_)))
      (waiting_put (row_in_list v.rows) v.requests h asked core.requests_ core.waiting
      (λ q at waits. subst (λ (z : Request). ForSome (row_in_list v.rows z.volume) (λ k. state_of k z.cylinder < 2)) (some_is _ q at) (λ k there. subst (λ (z : RowValue). state_of z cylinder < 2) (some_is on.r k (sym on.there ∙ there)) on.unstaged)))
      (tasks_with_request v.config.frames (row_in_list v.rows) v.moving v.requests v.hosts v.tasks core.tasks_ h asked core.requests_ quiet
      (λ q at moves. let a : Queued ≡ q.state = ap (λ (z : Request). z.state) (some_is _ q at) in let b : Queued ≡ Moving = a ∙ moves in cc))
      (fit_put v.config.recorders v.rows v.rows v.requests v.hosts v.tasks v.tasks core.fit refl (λ w there. there) (λ k q at ready there. there) h asked core.requests_
      (λ q at ready. absurd (let a : Queued ≡ q.state = ap (λ (z : Request). z.state) (some_is _ q at) in let b : Queued ≡ Ready = a ∙ ready in cc)))
      (λ tl. ((is.whole.told tl).going on.goes.going).served)

  upheld_put : IsUpheld tells s writes faults (record v { requests = put_request v.requests h asked; events = v.events ++ Host h ∷ [] })
  upheld_put = record {
    whole = whole_noted tells s _ (v.events ++ Host h ∷ []) whole_asked;
    counted = counted_noted writes faults _ _ (v.events ++ Host h ∷ [])
        (counted_request writes faults writes faults v.requests (data_of v) is.counted (omega arith) (omega arith) h asked core.requests_ (λ fault kept. absurd (none_some fault kept)));
  }

  -- the cylinder is asked for
  pub upheld_asking : IsUpheld tells s writes faults (after_asking v h (record { volume = volume; cylinder = cylinder; state = Queued }))
  upheld_asking =
      subst (λ (requests : RequestsData). IsUpheld tells s writes faults (record v { requests = requests; events = v.events ++ Host h ∷ [] }))
      (ap (λ (o : Option Request). asked_as h (queued volume cylinder) (is_some o) v.requests) none) upheld_put

-- ---- which is what the rule says

-- a host that has a request for this call has asked
pub asks_old : (tells : Type 0) (v : CoreData) (h : ℕ) (call : CallData) (volume cylinder : ℕ) → ((q : Request) → request_of v.requests h ≡ Some q → request_for v h call ≡ Some q)
    → is_some (request_of v.requests h) ≡ true → Asks tells v h call volume cylinder v
asks_old tells v h call volume cylinder mine some = by (request_of v.requests h) refl some
  where
    by : (o : Option Request) → request_of v.requests h ≡ o → is_some o ≡ true → Asks tells v h call volume cylinder v
    by None at is = absurd (false≢true is)
    by (Some q) at is = (
      record { told = λ tl. refl; unwritten = refl; sound = refl },
      (λ i. record (if is_some (sym (mine q at) i) then v else with_event (Host h) (with_request h volume cylinder Queued (going_on v h call))) { site = v.site }),
    )

-- one that has none asks
module _ (tells : Type 0) (v : CoreData) (h : ℕ) (call : CallData) (volume cylinder : ℕ) (none : request_of v.requests h ≡ None) where
  abbrev when_for : Option Request → Option Request
  when_for o = option_and_then (λ r. where_so (is_for (host_at v.hosts h) call r) r) o

  goes_on_as : going_on v h call ≡ v
  goes_on_as = λ i. if is_some (none i) && not (is_some (when_for (none i))) then record v { requests = without_request h v.requests } else v

  pub asks_new : Asks tells v h call volume cylinder (after_asking v h (record { volume = volume; cylinder = cylinder; state = Queued }))
  asks_new = (
    record { told = λ tl. refl; unwritten = refl; sound = refl },
    sym (ap (λ (x : CoreData). record x { site = v.site })
        (ap (λ (x : CoreData). if is_some (request_for v h call) then v else with_event (Host h) (with_request h volume cylinder Queued x)) goes_on_as
        ∙ (λ i. if is_some (when_for (none i)) then v
        else with_event (Host h) (record v { requests = (if is_some (none i) then with_state h Queued v.requests else (v.requests ++ (h, queued volume cylinder) ∷ [])) })))),
  )

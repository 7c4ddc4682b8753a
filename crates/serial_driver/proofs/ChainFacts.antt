-- Events one after the other: one more in front, and what goes on behind those that have ended.
use Rattle.std.proofs.Common.{◌≡◌, ◌≢◌, ℕ, zero, suc, Bool, true, false, ◌&&◌, List, [], ◌∷◌, ◌++◌, Option, Some, None, refl, sym, ◌∙◌, ap, subst}
use Rattle.channel_commands.specs.Data.{CallData}
use Rattle.ckd_plain.specs.History.{EntryData}
use Rattle.core_state.specs.declared.rule.WorkAnswer.{WorkAnswer}
use Rattle.core_state.specs.declared.rule.WorkAnswer.TheVariants as work
use Rattle.core_state.specs.CoreValue.{CoreData}
use Rattle.core_state.specs.HostEvents.{replied, marked, waits, halts, at_limit, no_memory}
use Rattle.core_state.specs.Chains.{Terms, Step, called, worked, is_end, is_idle, IsCallOf, IsWorkOf, OneOf, Onward, IsEvent, Goes, WorkTurn, Settles, HostGoes, HostTurn, Ended}
use Rattle.serial_driver.specs.declared.answer.DriveAnswer.{DriveAnswer}
use Rattle.serial_driver.specs.declared.answer.DriveAnswer.TheVariants.{Done}
use Rattle.serial_driver.specs.Answers.{of_host, of_work, of_step, of_last}
use Rattle.serial_driver.specs.Drives.{HostTakes}

-- ---- answers

-- an end is answered so
abbrev Ends : Step → Bool → Type 0
Ends step true = of_step step ≢ Done
Ends step false = of_step step ≡ Done

ends : (step : Step) → Ends step (is_end step)
ends (called h call (replied index reply)) = refl
ends (called h call marked) = refl
ends (called h call (waits w)) = refl
ends (called h call (halts fault)) = λ is. cc
ends (called h call at_limit) = λ is. cc
ends (called h call no_memory) = λ is. cc
ends (worked r (work.Did what)) = refl
ends (worked r work.Idle) = refl
ends (worked r (work.Stopped fault)) = λ is. cc
ends (worked r work.Memory) = λ is. cc

pub not_end : (step : Step) → of_step step ≡ Done → is_end step ≡ false
not_end step done = by_end (is_end step) (ends step)
  where
    by_end : (b : Bool) → Ends step b → b ≡ false
    by_end true e = absurd (e done)
    by_end false e = refl

an_end : (step : Step) → of_step step ≢ Done → is_end step ≡ true
an_end step halted = by_end (is_end step) (ends step)
  where
    by_end : (b : Bool) → Ends step b → b ≡ true
    by_end true e = refl
    by_end false e = absurd (halted e)

pub of_last-cons : (step : Step) (more : List Step) → of_step step ≡ Done → of_last (step ∷ more) ≡ of_last more
of_last-cons step [] done = done
of_last-cons step (next ∷ more) done = refl

pub of_last-append : (steps more : List Step) → of_last steps ≡ Done → of_last (steps ++ more) ≡ of_last more
of_last-append [] more done = refl
of_last-append (step ∷ []) [] done = done
of_last-append (step ∷ []) (next ∷ more) done = refl
of_last-append (step ∷ (next ∷ steps)) more done = of_last-append (next ∷ steps) more done

module _ (terms : Terms) where
  -- ---- one event in front

  module _ (Is : Step → Type 0) (core next : CoreData) (step : Step) (is : Is step) (event : IsEvent terms core step next) where
    goes : of_step step ≡ Done → (steps : List Step) (final : CoreData) (go : Onward) → go next steps → Goes terms core Is (step ∷ steps) final go
    goes done steps final go on =
        (next, is, event, subst (λ (b : Bool). OneOf b ((steps ≡ []) × (final ≡ next)) (go next steps)) (sym (not_end step done)) on)

    goes_last : of_step step ≢ Done → (go : Onward) → Goes terms core Is (step ∷ []) next go
    goes_last halted go =
        (next, is, event, subst (λ (b : Bool). OneOf b (◌≡◌ {A = List Step} [] [] × (next ≡ next)) (go next [])) (sym (an_end step halted)) (refl, refl))

  -- a host's turn
  module _ (h : ℕ) where
    pub host_goes : (call : Option CallData) (core next : CoreData) (answer : DriveAnswer) → HostTakes terms h call core answer next → answer ≡ Done
        → (more : List Step) (final : CoreData) (go : Onward) → go next more → (steps : List Step) × HostGoes terms call h core steps final go × (of_last steps ≡ of_last more)
    host_goes None core next answer takes done more final go on = (more, subst (λ (c : CoreData). go c more) takes.0 on, refl)
    host_goes (Some call) core next answer takes done more final go on =
        let last : of_host takes.0 ≡ Done = sym takes.2 ∙ done in
        (called h call takes.0 ∷ more, goes (IsCallOf h call) core next (called h call takes.0) (refl, refl) takes.1 last more final go on, of_last-cons (called h call takes.0) more last)

    pub host_ends : (call : Option CallData) (core next : CoreData) (answer : DriveAnswer) → HostTakes terms h call core answer next → answer ≢ Done
        → (go : Onward) → (steps : List Step) × HostGoes terms call h core steps next go × (answer ≡ of_last steps)
    host_ends None core next answer takes halted go = absurd (halted takes.1)
    host_ends (Some call) core next answer takes halted go =
        (called h call takes.0 ∷ [], goes_last (IsCallOf h call) core next (called h call takes.0) (refl, refl) takes.1 (λ last. halted (takes.2 ∙ last)) go, takes.2)

  -- a recorder's
  module _ (r : ℕ) (core next : CoreData) (told : WorkAnswer) (event : IsEvent terms core (worked r told) next) where
    pub work_goes : of_work told ≡ Done → (more : List Step) (final : CoreData) (go : Onward) → go next more → Goes terms core (IsWorkOf r) (worked r told ∷ more) final go
    work_goes done more final go on = goes (IsWorkOf r) core next (worked r told) refl event done more final go on

    pub work_last : of_work told ≢ Done → (go : Onward) → Goes terms core (IsWorkOf r) (worked r told ∷ []) next go
    work_last halted go = goes_last (IsWorkOf r) core next (worked r told) refl event halted go

  -- ---- behind events that have ended

  module _ (Is : Step → Type 0) (core mid final : CoreData) (step : Step) (steps more : List Step) (here there : Onward) where
    goes_then : Goes terms core Is (step ∷ steps) mid here → of_last (step ∷ steps) ≡ Done
        → ((next : CoreData) → here next steps → of_last steps ≡ Done → there next (steps ++ more)) → Goes terms core Is (step ∷ steps ++ more) final there
    goes_then event done on = by_end (is_end step) (ends step) event.3
      where
        by_end : (b : Bool) → Ends step b → OneOf b ((steps ≡ []) × (mid ≡ event.0)) (here event.0 steps) → Goes terms core Is (step ∷ steps ++ more) final there
        by_end true e ended = absurd (e (subst (λ (l : List Step). of_last (step ∷ l) ≡ Done) ended.0 done))
        by_end false e goes_on = goes Is core event.0 step event.1 event.2 e (steps ++ more) final there (on event.0 goes_on (sym (of_last-cons step steps e) ∙ done))

    halted : Goes terms core Is (step ∷ steps) mid here → of_last (step ∷ steps) ≢ Done
        → ((next : CoreData) → here next steps → of_last steps ≢ Done → there next steps) → Goes terms core Is (step ∷ steps) mid there
    halted event last on = by_end (is_end step) (ends step) event.3
      where
        by_end : (b : Bool) → Ends step b → OneOf b ((steps ≡ []) × (mid ≡ event.0)) (here event.0 steps) → Goes terms core Is (step ∷ steps) mid there
        by_end true e ended =
            (event.0, event.1, event.2, subst (λ (x : Bool). OneOf x ((steps ≡ []) × (mid ≡ event.0)) (there event.0 steps)) (sym (an_end step e)) ended)
        by_end false e goes_on = (
          event.0,
          event.1,
          event.2,
          subst (λ (x : Bool). OneOf x ((steps ≡ []) × (mid ≡ event.0)) (there event.0 steps)) (sym (not_end step e))
              (on event.0 goes_on (λ done. last (of_last-cons step steps e ∙ done))),
        )

  module _ (mid final : CoreData) (more : List Step) where
    -- a turn of recorders
    pub work_then : (rs : List ℕ) (idle : Bool) (core : CoreData) (steps : List Step) (here there : Bool → Onward)
        → ((b : Bool) (next : CoreData) (rest : List Step) → here b next rest → of_last rest ≡ Done → there b next (rest ++ more))
        → WorkTurn terms rs idle core steps mid here → of_last steps ≡ Done → WorkTurn terms rs idle core (steps ++ more) final there
    work_then [] idle core steps here there on turn done = on idle core steps turn done
    work_then (r ∷ rs) idle core [] here there on turn done = absurd turn
    work_then (r ∷ rs) idle core (step ∷ steps) here there on turn done =
        goes_then (IsWorkOf r) core mid final step steps more (λ next rest. WorkTurn terms rs (idle && is_idle step) next rest mid here) (λ next rest. WorkTurn terms rs (idle && is_idle step) next rest final there)
        turn done (λ next behind last. work_then rs (idle && is_idle step) next steps here there on behind last)

    -- a turn of hosts
    pub hosts_then : (calls : List EntryData → ℕ → Option CallData) (hs : List ℕ) (core : CoreData) (steps : List Step) (here there : Onward)
        → ((next : CoreData) (rest : List Step) → here next rest → of_last rest ≡ Done → there next (rest ++ more))
        → HostTurn terms calls hs core steps mid here → of_last steps ≡ Done → HostTurn terms calls hs core (steps ++ more) final there
    hosts_then calls [] core steps here there on turn done = on core steps turn done
    hosts_then calls (h ∷ hs) core steps here there on turn done = by_call (λ next rest. hosts_then calls hs next rest here there on) (calls core.history h) steps turn done
      where
        by_call : ((next : CoreData) (rest : List Step) → HostTurn terms calls hs next rest mid here → of_last rest ≡ Done → HostTurn terms calls hs next (rest ++ more) final there)
            → (call : Option CallData) (ss : List Step)
            → HostGoes terms call h core ss mid (λ next rest. HostTurn terms calls hs next rest mid here) → of_last ss ≡ Done
            → HostGoes terms call h core (ss ++ more) final (λ next rest. HostTurn terms calls hs next rest final there)
        by_call again None ss behind last = again core ss behind last
        by_call again (Some call) [] behind last = absurd behind
        by_call again (Some call) (step ∷ ss) behind last =
            goes_then (IsCallOf h call) core mid final step ss more (λ next rest. HostTurn terms calls hs next rest mid here) (λ next rest. HostTurn terms calls hs next rest final there)
            behind last (λ next rest done'. again next ss rest done')

    pub settles_then : (rs : List ℕ) (turns : ℕ) (core : CoreData) (steps : List Step) (there : Onward) → there mid more
        → Settles terms rs turns core steps mid (Ended mid) → of_last steps ≡ Done → Settles terms rs turns core (steps ++ more) final there
    settles_then rs zero core steps there on settles done = absurd settles
    settles_then rs (suc turns) core steps there on settles done =
        work_then rs true core steps
        (λ idle next rest. OneOf idle ((turns ≡ zero) × Ended mid next rest) (Settles terms rs turns next rest mid (Ended mid)))
        (λ idle next rest. OneOf idle ((turns ≡ zero) × there next rest) (Settles terms rs turns next rest final there))
        (by_idle (λ next rest. settles_then rs turns next rest there on)) settles done
      where
        by_idle : ((next : CoreData) (rest : List Step) → Settles terms rs turns next rest mid (Ended mid) → of_last rest ≡ Done → Settles terms rs turns next (rest ++ more) final there)
            → (b : Bool) (next : CoreData) (rest : List Step) → OneOf b ((turns ≡ zero) × Ended mid next rest) (Settles terms rs turns next rest mid (Ended mid)) → of_last rest ≡ Done
            → OneOf b ((turns ≡ zero) × there next (rest ++ more)) (Settles terms rs turns next (rest ++ more) final there)
        by_idle again true next rest ended last =
            (ended.0, subst (λ (l : List Step). there next (l ++ more)) (sym ended.1.0) (subst (λ (c : CoreData). there c more) ended.1.1 on))
        by_idle again false next rest behind last = again next rest behind last

  -- events that ended a run end whatever goes on
  pub work_halted : (mid : CoreData) (rs : List ℕ) (idle : Bool) (core : CoreData) (steps : List Step) (here there : Bool → Onward)
      → ((b : Bool) (next : CoreData) (rest : List Step) → here b next rest → of_last rest ≢ Done → there b next rest)
      → WorkTurn terms rs idle core steps mid here → of_last steps ≢ Done → WorkTurn terms rs idle core steps mid there
  work_halted mid [] idle core steps here there on turn last = on idle core steps turn last
  work_halted mid (r ∷ rs) idle core [] here there on turn last = absurd turn
  work_halted mid (r ∷ rs) idle core (step ∷ steps) here there on turn last =
      halted (IsWorkOf r) core mid mid step steps [] (λ next rest. WorkTurn terms rs (idle && is_idle step) next rest mid here) (λ next rest. WorkTurn terms rs (idle && is_idle step) next rest mid there)
      turn last (λ next behind more. work_halted mid rs (idle && is_idle step) next steps here there on behind more)

  pub hosts_halted : (mid : CoreData) (calls : List EntryData → ℕ → Option CallData) (hs : List ℕ) (core : CoreData) (steps : List Step) (there : Onward)
      → HostTurn terms calls hs core steps mid (Ended mid) → of_last steps ≢ Done → HostTurn terms calls hs core steps mid there
  hosts_halted mid calls [] core steps there turn last = absurd (last (ap of_last turn.0))
  hosts_halted mid calls (h ∷ hs) core steps there turn last = by_call (λ next rest. hosts_halted mid calls hs next rest there) (calls core.history h) steps turn last
    where
      by_call : ((next : CoreData) (rest : List Step) → HostTurn terms calls hs next rest mid (Ended mid) → of_last rest ≢ Done → HostTurn terms calls hs next rest mid there)
          → (call : Option CallData) (ss : List Step)
          → HostGoes terms call h core ss mid (λ next rest. HostTurn terms calls hs next rest mid (Ended mid)) → of_last ss ≢ Done
          → HostGoes terms call h core ss mid (λ next rest. HostTurn terms calls hs next rest mid there)
      by_call again None ss behind more = again core ss behind more
      by_call again (Some call) [] behind more = absurd behind
      by_call again (Some call) (step ∷ ss) behind more =
          halted (IsCallOf h call) core mid mid step ss [] (λ next rest. HostTurn terms calls hs next rest mid (Ended mid)) (λ next rest. HostTurn terms calls hs next rest mid there)
          behind more (λ next rest last'. again next ss rest last')

  pub settles_halted : (mid : CoreData) (rs : List ℕ) (turns : ℕ) (core : CoreData) (steps : List Step) (there : Onward)
      → Settles terms rs turns core steps mid (Ended mid) → of_last steps ≢ Done → Settles terms rs turns core steps mid there
  settles_halted mid rs zero core steps there settles last = absurd settles
  settles_halted mid rs (suc turns) core steps there settles last =
      work_halted mid rs true core steps
      (λ idle next rest. OneOf idle ((turns ≡ zero) × Ended mid next rest) (Settles terms rs turns next rest mid (Ended mid)))
      (λ idle next rest. OneOf idle ((turns ≡ zero) × there next rest) (Settles terms rs turns next rest mid there))
      (by_idle (λ next rest. settles_halted mid rs turns next rest there)) settles last
    where
      by_idle : ((next : CoreData) (rest : List Step) → Settles terms rs turns next rest mid (Ended mid) → of_last rest ≢ Done → Settles terms rs turns next rest mid there)
          → (b : Bool) (next : CoreData) (rest : List Step) → OneOf b ((turns ≡ zero) × Ended mid next rest) (Settles terms rs turns next rest mid (Ended mid)) → of_last rest ≢ Done
          → OneOf b ((turns ≡ zero) × there next rest) (Settles terms rs turns next rest mid there)
      by_idle again true next rest ended more = absurd (more (ap of_last ended.1.0))
      by_idle again false next rest behind more = again next rest behind more

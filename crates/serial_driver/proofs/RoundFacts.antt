-- A round of a serial run, and rounds one after the other.
use Rattle.std.proofs.Common.{◌≡◌, ◌≢◌, ◌⊎◌, inl, inr, ℕ, zero, suc, ◌+◌, ◌<◌, ◌≤◌, Bool, true, false, List, [], ◌∷◌, ◌++◌, length, drop, get_or, Option, Some, None, refl, sym, ◌∙◌, ap, subst, arith}
use Rattle.std.specs.Prelude.{◌||◌, is_some}
use Rattle.std.proofs.lemmas.Bool.{false≢true, cases_lt}
use Rattle.mss_base.specs.declared.site.Site.{Ghosts}
use Rattle.channel_commands.specs.Data.{CallData}
use Rattle.channel_program.proofs.ItemFacts.{all_at}
use Rattle.ckd_plain.specs.History.{EntryData}
use Rattle.victim_choice.specs.declared.choose.Candidate.{Candidate}
use Rattle.job_text.specs.Jobs.{ScriptData}
use Rattle.core_state.specs.Chains.{Reading, Terms, Step, called, is_end, Onward, Settles, HostTurn, Rounds, Ended, has_call}
use Rattle.core_state.specs.CoreValue.{CoreData, DevicesSeen, seen_core}
use Rattle.core_state.specs.HostEvents.{HostTold, HostEvent, IsSame}
use Rattle.core_state.specs.IsCore.{IsCore}
use Rattle.core_progress.specs.Progress.{NextCalls, SomeoneCalls, SomeoneGoesOn, IsKeptOff, is_kept_waiting}
use Rattle.core_progress.specs.WorkLeft.{run_left}
use Rattle.core_progress.proofs.OtherDevices.{same_kept_waiting, same_run_left}
use Rattle.host_events.proofs.RuleFacts.{core_seen}
use Rattle.serial_driver.specs.declared.answer.DriveAnswer.{DriveAnswer}
use Rattle.serial_driver.specs.declared.answer.DriveAnswer.TheVariants.{Done}
use Rattle.serial_driver.specs.Answers.{of_host, of_last}
use Rattle.script_places.specs.Scripts.{script_of, calls_of}
use Rattle.serial_driver.specs.Drives.{DriveValue, IsScript, AreScripts, LeavesDrive, HostTakes, recorders_of, hosts_of, SettlesIt, HostsTurn, NoneCalls, RunsToEnd, terms_of}
use Rattle.serial_driver.specs.Turns.{RunFalls}
use Rattle.volume_copy.specs.Beside.{asked_copy}
use Rattle.volume_copy.specs.Copies.{AskedCopy}
use Rattle.serial_driver.proofs.ReadFacts.{core_read, read_of, read_same, reading_on}
use Rattle.serial_driver.proofs.ChainFacts.{not_end, of_last-append, host_goes, host_ends, hosts_then, hosts_halted, settles_then, settles_halted}
use Rattle.serial_driver.proofs.EventRuns.{no_call, leaves_then, same_terms}
use Rattle.serial_driver.proofs.OwnerFacts.{its_number}

-- ---- the hosts of a job by number

pub nobody : ScriptData
nobody = record { host = 0; items = [] }

abbrev pub nth_host : List ScriptData → ℕ → ℕ
nth_host ss n = (get_or ss n nobody).host

pub host_rest : (ss : List ScriptData) (n : ℕ) → n < length ss → drop n (hosts_of ss) ≡ nth_host ss n ∷ drop (n + 1) (hosts_of ss)
host_rest [] n below = absurd (omega (arith, below))
host_rest (s ∷ ss) zero below = refl
host_rest (s ∷ ss) (suc n) below =
    let e : suc n + 1 ≡ suc (n + 1) = omega arith in
    host_rest ss n (omega (arith, below)) ∙ ap (λ (k : ℕ). nth_host ss n ∷ drop k (hosts_of (s ∷ ss))) (sym e)

pub none_left : (ss : List ScriptData) (n : ℕ) → length ss ≤ n → drop n (hosts_of ss) ≡ []
none_left [] zero past = refl
none_left [] (suc n) past = refl
none_left (s ∷ ss) zero past = absurd (omega (arith, past))
none_left (s ∷ ss) (suc n) past = none_left ss n (omega (arith, past))

pub someone : (calls : List EntryData → NextCalls) (hs : List ℕ) (core : CoreData) → has_call calls hs core ≡ true → SomeoneCalls (calls core.history)
someone calls [] core is = absurd (false≢true is)
someone calls (h ∷ hs) core is = by_call (λ more. someone calls hs core more) (calls core.history h) refl is
  where
    by_call : (has_call calls hs core ≡ true → SomeoneCalls (calls core.history)) → (o : Option CallData) → calls core.history h ≡ o → (is_some o || has_call calls hs core) ≡ true → SomeoneCalls (calls core.history)
    by_call again (Some call) here some = (h, (call, here))
    by_call again None here some = again some

-- whether a host has a call depends on the history alone
pub has_call_same : (calls : List EntryData → NextCalls) (hs : List ℕ) (core left : CoreData) → left.history ≡ core.history → has_call calls hs left ≡ has_call calls hs core
has_call_same calls [] core left same = refl
has_call_same calls (h ∷ hs) core left same = λ i. is_some (calls (same i) h) || has_call_same calls hs core left same i

-- where none has a call
quiet_at : (calls : List EntryData → NextCalls) (ss : List ScriptData) (core : CoreData) (n : ℕ) → has_call calls (hosts_of ss) core ≡ false → n < length ss → calls core.history (nth_host ss n) ≡ None
quiet_at calls [] core n quiet_ below = absurd (omega (arith, below))
quiet_at calls (s ∷ ss) core n quiet_ below = by_call (λ m. quiet_at calls ss core m) (calls core.history s.host) refl quiet_ n below
  where
    by_call : ((m : ℕ) → has_call calls (hosts_of ss) core ≡ false → m < length ss → calls core.history (nth_host ss m) ≡ None)
        → (o : Option CallData) → calls core.history s.host ≡ o → (is_some o || has_call calls (hosts_of ss) core) ≡ false → (m : ℕ) → m < length (s ∷ ss) → calls core.history (nth_host (s ∷ ss) m) ≡ None
    by_call again (Some call) here none m low = absurd (false≢true (sym none))
    by_call again None here none zero low = here
    by_call again None here none (suc m) low = again m none (omega (arith, low))

pub no_host_calls : (scripts : List ScriptData) (core : CoreData) → has_call (calls_of scripts) (hosts_of scripts) core ≡ false → (h : ℕ) → calls_of scripts core.history h ≡ None
no_host_calls scripts core none h = elim (its_number scripts h nobody) [
  | inl absent ↦ no_call scripts core.history h absent
  | inr it ↦ ap (calls_of scripts core.history) (sym it.2) ∙ quiet_at (calls_of scripts) scripts core it.0 none it.1
]

-- a host more
module _ (scripts : List ScriptData) (core : CoreData) (number : ℕ) where
  abbrev calls_from : ℕ → Bool
  calls_from n = has_call (calls_of scripts) (drop n (hosts_of scripts)) core

  calls_here : number < length scripts → (b : Bool) → b ≡ is_some (calls_of scripts core.history (nth_host scripts number)) → calls_from number ≡ (b || calls_from (number + 1))
  calls_here below b is = ap (λ (hs : List ℕ). has_call (calls_of scripts) hs core) (host_rest scripts number below) ∙ ap (λ (x : Bool). x || calls_from (number + 1)) (sym is)

  pub calls_found : number < length scripts → (b : Bool) → b ≡ is_some (calls_of scripts core.history (nth_host scripts number)) → b ≡ true → has_call (calls_of scripts) (hosts_of scripts) core ≡ calls_from number
      → true ≡ has_call (calls_of scripts) (hosts_of scripts) core
  calls_found below b is yes_ whole = sym (whole ∙ calls_here below b is ∙ ap (λ (x : Bool). x || calls_from (number + 1)) yes_)

  pub calls_later : number < length scripts → (b : Bool) → b ≡ is_some (calls_of scripts core.history (nth_host scripts number)) → b ≡ false → has_call (calls_of scripts) (hosts_of scripts) core ≡ calls_from number
      → has_call (calls_of scripts) (hosts_of scripts) core ≡ calls_from (number + 1)
  calls_later below b is none whole = whole ∙ calls_here below b is ∙ ap (λ (x : Bool). x || calls_from (number + 1)) none

  pub calls_nowhere : length scripts ≤ number → has_call (calls_of scripts) (hosts_of scripts) core ≡ calls_from number → false ≡ has_call (calls_of scripts) (hosts_of scripts) core
  calls_nowhere past whole = sym (whole ∙ ap (λ (hs : List ℕ). has_call (calls_of scripts) hs core) (none_left scripts number past))

module _ (terms : Terms) where
  -- ---- a round

  module _ (scripts : List ScriptData) (start : CoreData) where
    -- the events from host number on make a round with those before
    abbrev pub HostsSoFar : ℕ → CoreData → Type 0
    HostsSoFar number now =
        (final : CoreData) (more : List Step) → HostTurn terms (calls_of scripts) (drop number (hosts_of scripts)) now more final (Ended final)
        → (steps : List Step) × HostTurn terms (calls_of scripts) (hosts_of scripts) start steps final (Ended final) × (of_last steps ≡ of_last more)

    pub hosts_begin : HostsSoFar 0 start
    hosts_begin final more chain = (more, chain, refl)

    module _ (number : ℕ) (below : number < length scripts) (now next : CoreData) (so_far : HostsSoFar number now) (answer : DriveAnswer)
        (takes : HostTakes terms (nth_host scripts number) (calls_of scripts now.history (nth_host scripts number)) now answer next) where
      abbrev behind : CoreData → Onward
      behind final core steps = HostTurn terms (calls_of scripts) (drop (number + 1) (hosts_of scripts)) core steps final (Ended final)

      from_here : (final : CoreData) (more : List Step) → HostTurn terms (calls_of scripts) ((nth_host scripts number) ∷ drop (number + 1) (hosts_of scripts)) now more final (Ended final)
          → (steps : List Step) × HostTurn terms (calls_of scripts) (hosts_of scripts) start steps final (Ended final) × (of_last steps ≡ of_last more)
      from_here final more chain = so_far final more (subst (λ (hs : List ℕ). HostTurn terms (calls_of scripts) hs now more final (Ended final)) (sym (host_rest scripts number below)) chain)

      pub hosts_go : answer ≡ Done → HostsSoFar (number + 1) next
      hosts_go done final more chain =
          let one = host_goes terms (nth_host scripts number) (calls_of scripts now.history (nth_host scripts number)) now next answer takes done more final (behind final) chain in
          let whole = from_here final one.0 one.1 in
          (whole.0, whole.1, whole.2 ∙ one.2)

      pub hosts_halt : answer ≢ Done → HostsTurn terms scripts start answer next
      hosts_halt halted =
          let one = host_ends terms (nth_host scripts number) (calls_of scripts now.history (nth_host scripts number)) now next answer takes halted (behind next) in
          let whole = from_here next one.0 one.1 in
          record { steps = whole.0; chain = whole.1; last = one.2 ∙ sym whole.2 }

    pub hosts_over : (number : ℕ) (now : CoreData) → length scripts ≤ number → HostsSoFar number now → HostsTurn terms scripts start Done now
    hosts_over number now past so_far =
        let whole = so_far now [] (subst (λ (hs : List ℕ). HostTurn terms (calls_of scripts) hs now [] now (Ended now)) (sym (none_left scripts number past)) (refl, refl)) in
        record { steps = whole.0; chain = whole.1; last = sym whole.2 }

-- ---- the run has less left behind a round

module _ (scripts : List ScriptData) (start : CoreData) where
  -- nothing has changed but the devices, and the hosts so far were kept waiting
  pub record KeptOff (number : ℕ) (now : CoreData) : Type 0 where
    pub same : now ≡ record start { site = now.site }
    pub waits_ : (n : ℕ) → n < number → (call : CallData) → calls_of scripts start.history (nth_host scripts n) ≡ Some call → is_kept_waiting start (nth_host scripts n) call ≡ true

  abbrev pub GoesOn : ℕ → CoreData → Type 0
  GoesOn number now = (run_left now < run_left start) ⊎ KeptOff number now

  pub none_yet : GoesOn 0 start
  none_yet = inr (record { same = refl; waits_ = λ n low call is. absurd (omega (arith, low)) })

  module _ (terms : Terms) (number : ℕ) (now next : CoreData) (so_far : GoesOn number now)
      (falls : (site : DevicesSeen) (call : CallData) (told : HostTold) → HostEvent terms.tells (record now { site = site }) (nth_host scripts number) call told next
      → is_kept_waiting (record now { site = site }) (nth_host scripts number) call ≡ false → is_end (called (nth_host scripts number) call told) ≡ false → run_left next < run_left (record now { site = site }))
      (rests : (site : DevicesSeen) (call : CallData) (told : HostTold) → HostEvent terms.tells (record now { site = site }) (nth_host scripts number) call told next
      → is_kept_waiting (record now { site = site }) (nth_host scripts number) call ≡ true → IsKeptOff told × IsSame terms.tells (record now { site = site }) next) where
    abbrev h : ℕ
    h = nth_host scripts number

    -- the host has no call
    quiet : calls_of scripts now.history h ≡ None → next ≡ now → GoesOn number now → GoesOn (number + 1) next
    quiet none same (inl less) = inl (subst (λ (c : CoreData). run_left c < run_left start) (sym same) less)
    quiet none same (inr it) =
        inr (record {
          same = same ∙ it.same ∙ ap (λ (c : CoreData). record start { site = c.site }) (sym same);
          waits_ = λ n low call is. elim (cases_lt n number) [
            | inl below ↦ it.waits_ n below call is
            | inr past ↦ absurd (no_such n low past call is)
          ];
        })
      where
        no_such : (n : ℕ) → n < number + 1 → number ≤ n → (call : CallData) → calls_of scripts start.history (nth_host scripts n) ≡ Some call → ⊥
        no_such n low past call is =
            let e : n ≡ number = omega (arith, low, past) in
            let f : None ≡ Some call = sym none ∙ ap (λ (c : CoreData). calls_of scripts c.history h) it.same ∙ ap (λ (k : ℕ). calls_of scripts start.history (nth_host scripts k)) (sym e) ∙ is in
            cc

    -- its call is kept waiting
    waited : (call : CallData) → calls_of scripts now.history h ≡ Some call → is_kept_waiting now h call ≡ true → next ≡ record now { site = next.site } → GoesOn number now → GoesOn (number + 1) next
    waited call here kept same (inl less) = inl (let e : run_left next ≡ run_left now = ap run_left same ∙ same_run_left now next.site in omega (arith, e, less))
    waited call here kept same (inr it) =
        inr (record {
          same = same ∙ ap (λ (c : CoreData). record c { site = next.site }) it.same;
          waits_ = λ n low other is. elim (cases_lt n number) [
            | inl below ↦ it.waits_ n below other is
            | inr past ↦ this_one n low past other is
          ];
        })
      where
        this_one : (n : ℕ) → n < number + 1 → number ≤ n → (other : CallData) → calls_of scripts start.history (nth_host scripts n) ≡ Some other → is_kept_waiting start (nth_host scripts n) other ≡ true
        this_one n low past other is =
            let e : n ≡ number = omega (arith, low, past) in
            let f : Some other ≡ Some call = sym is ∙ ap (λ (k : ℕ). calls_of scripts start.history (nth_host scripts k)) e ∙ sym (ap (λ (c : CoreData). calls_of scripts c.history h) it.same) ∙ here in
            let same_call : other ≡ call = cc in
            ap (λ (k : ℕ). is_kept_waiting start (nth_host scripts k) other) e ∙ ap (is_kept_waiting start h) same_call
            ∙ sym (ap (λ (c : CoreData). is_kept_waiting c h call) it.same ∙ same_kept_waiting start now.site h call) ∙ kept

    pub goes_on : (answer : DriveAnswer) → answer ≡ Done → HostTakes terms h (calls_of scripts now.history h) now answer next → GoesOn (number + 1) next
    goes_on answer done takes = by_call (calls_of scripts now.history h) refl takes
      where
        by_wait : (site : DevicesSeen) (call : CallData) → calls_of scripts now.history h ≡ Some call → (told : HostTold) → HostEvent terms.tells (record now { site = site }) h call told next → of_host told ≡ Done
            → (b : Bool) → is_kept_waiting now h call ≡ b → GoesOn (number + 1) next
        by_wait site call here told event goes true kept = waited call here kept (rests site call told event (same_kept_waiting now site h call ∙ kept)).1.1 so_far
        by_wait site call here told event goes false kept =
            let less = falls site call told event (same_kept_waiting now site h call ∙ kept) (not_end (called h call told) goes) in
            let read : run_left (record now { site = site }) ≡ run_left now = same_run_left now site in
            inl (elim so_far [
              | inl before_ ↦ omega (arith, less, read, before_)
              | inr it ↦ (let e : run_left now ≡ run_left start = ap run_left it.same ∙ same_run_left start now.site in omega (arith, less, read, e))
            ])

        by_call : (o : Option CallData) → calls_of scripts now.history h ≡ o → HostTakes terms h o now answer next → GoesOn (number + 1) next
        by_call None here it = quiet here it.0 so_far
        by_call (Some call) here it =
            let at = read_of terms.tells now terms.copies (λ read. HostEvent terms.tells read h call it.0 next) it.1 in
            by_wait at.0 call here it.0 at.2 (sym it.2 ∙ done) (is_kept_waiting now h call) refl

  -- not every host was kept waiting
  pub run_falls : (number : ℕ) (now : CoreData) → length scripts ≤ number → GoesOn number now → SomeoneGoesOn start (calls_of scripts start.history) → run_left now < run_left start
  run_falls number now past (inl less) some = less
  run_falls number now past (inr it) some = absurd (by_number (its_number scripts some.0 nobody))
    where
      by_number : (script_of scripts some.0 ≡ []) ⊎ ((n : ℕ) × (n < length scripts) × (nth_host scripts n ≡ some.0)) → ⊥
      by_number (inl none) = let e : None ≡ Some some.1 = sym (no_call scripts start.history some.0 none) ∙ some.2 in cc
      by_number (inr at) =
          let within = at.1 in
          let low : at.0 < number = omega (arith, within, past) in
          let kept = it.waits_ at.0 low some.1 (ap (calls_of scripts start.history) at.2 ∙ some.2) in
          false≢true (sym some.3 ∙ ap (λ (k : ℕ). is_kept_waiting start k some.1) (sym at.2) ∙ kept)

-- ---- rounds, one after the other

module _ (terms : Terms) where
  module _ (scripts : List ScriptData) (start : CoreData) where
    abbrev RoundsFrom : ℕ → CoreData → List Step → CoreData → Type 0
    RoundsFrom rounds now steps final = Rounds terms (calls_of scripts) (hosts_of scripts) (recorders_of start.config) rounds now steps final (NoneCalls terms scripts final)

    pub record RoundsSoFar (now : CoreData) : Type 0 where
      pub on : (rounds : ℕ) (final : CoreData) (more : List Step) → Rounds terms (calls_of scripts) (hosts_of scripts) (recorders_of start.config) rounds now more final (NoneCalls terms scripts final)
          → (all : ℕ) × (steps : List Step)
          × Rounds terms (calls_of scripts) (hosts_of scripts) (recorders_of start.config) all start steps final (NoneCalls terms scripts final)
          × (of_last steps ≡ of_last more)
      pub config_ : now.config ≡ start.config

    pub rounds_begin : RoundsSoFar start
    rounds_begin = record { on = λ rounds final more chain. (rounds, more, chain, refl); config_ = refl }

    -- no host has a call
    pub rounds_end : (now : CoreData) → RoundsSoFar now → has_call (calls_of scripts) (hosts_of scripts) now ≡ false → RunsToEnd terms scripts start Done now
    rounds_end now so_far none =
        let whole = so_far.on 0 now [] ((refl, refl), none) in
        record { rounds = whole.0; steps = whole.1; chain = whole.2; last = sym whole.3; none_calls = λ _. none }

    module _ (now read mid : CoreData) (so_far : RoundsSoFar now) (some : has_call (calls_of scripts) (hosts_of scripts) now ≡ true) (reads : Reading terms.copies terms.tells now (λ r. read ≡ r)) (told : DriveAnswer)
        (settles : SettlesIt terms read told mid) where
      chain_s : Settles terms (recorders_of start.config) settles.turns read settles.steps mid (Ended mid)
      chain_s = subst (λ c. Settles terms (recorders_of c) settles.turns read settles.steps mid (Ended mid)) (ap (λ (c : CoreData). c.config) (read_same terms.tells now terms.copies read reads) ∙ so_far.config_) settles.chain

      -- a round whose recorders work behind the read
      abbrev round_on : List Step → CoreData → Onward → CoreData → Type 0
      round_on steps final there r = (turns : ℕ) × Settles terms (recorders_of start.config) turns r steps final there

      behind_read : (steps : List Step) (final : CoreData) (there : Onward) → Settles terms (recorders_of start.config) settles.turns read steps final there
          → Reading terms.copies terms.tells now (round_on steps final there)
      behind_read steps final there chain =
          reading_on terms.tells now terms.copies (λ r. read ≡ r) (round_on steps final there) (λ r is. subst (round_on steps final there) is (settles.turns, chain)) reads

      abbrev hosts_then_rounds : ℕ → CoreData → Onward
      hosts_then_rounds rounds final core rest = HostTurn terms (calls_of scripts) (hosts_of scripts) core rest final (λ n left. RoundsFrom rounds n left final)

      pub rounds_halt : told ≢ Done → RunsToEnd terms scripts start told mid
      rounds_halt halted =
          let last : of_last settles.steps ≢ Done = λ is. halted (settles.last ∙ is) in
          let whole = so_far.on 1 mid settles.steps (
            some,
            behind_read settles.steps mid (hosts_then_rounds 0 mid)
                (settles_halted terms mid (recorders_of start.config) settles.turns read settles.steps (hosts_then_rounds 0 mid) chain_s last),
          ) in
          record { rounds = whole.0; steps = whole.1; chain = whole.2; last = settles.last ∙ sym whole.3; none_calls = λ is. absurd (halted is) }

      module _ (done : told ≡ Done) (next : CoreData) (answer : DriveAnswer) (hosts : HostsTurn terms scripts mid answer next) where
        settled_last : of_last settles.steps ≡ Done
        settled_last = sym settles.last ∙ done

        pub rounds_go : answer ≡ Done → next.config ≡ now.config → RoundsSoFar next
        rounds_go goes config_ = record {
          on = λ rounds final more chain.
              let whole = so_far.on (suc rounds) final (settles.steps ++ (hosts.steps ++ more)) (
                some,
                behind_read (settles.steps ++ (hosts.steps ++ more)) final (hosts_then_rounds rounds final)
                    (settles_then terms mid final (hosts.steps ++ more) (recorders_of start.config) settles.turns read settles.steps (hosts_then_rounds rounds final)
                    (hosts_then terms next final more (calls_of scripts) (hosts_of scripts) mid hosts.steps (Ended next) (λ n left. RoundsFrom rounds n left final) (by_end rounds final more chain) hosts.chain (sym hosts.last ∙ goes))
                    chain_s settled_last),
              ) in
              (whole.0, whole.1, whole.2, whole.3 ∙ of_last-append settles.steps (hosts.steps ++ more) settled_last ∙ of_last-append hosts.steps more (sym hosts.last ∙ goes));
          config_ = config_ ∙ so_far.config_;
        }
          where
            by_end : (rounds : ℕ) (final : CoreData) (more : List Step) → RoundsFrom rounds next more final → (n : CoreData) (rest : List Step) → Ended next n rest → of_last rest ≡ Done → RoundsFrom rounds n (rest ++ more) final
            by_end rounds final more chain n rest ended last =
                subst (λ (l : List Step). RoundsFrom rounds n (l ++ more) final) (sym ended.0) (subst (λ (c : CoreData). RoundsFrom rounds c more final) ended.1 chain)

        pub rounds_stop : answer ≢ Done → RunsToEnd terms scripts start answer next
        rounds_stop halted =
            let last : of_last hosts.steps ≢ Done = λ is. halted (hosts.last ∙ is) in
            let whole = so_far.on 1 next (settles.steps ++ hosts.steps) (
              some,
              behind_read (settles.steps ++ hosts.steps) next (hosts_then_rounds 0 next)
                  (settles_then terms mid next hosts.steps (recorders_of start.config) settles.turns read settles.steps (hosts_then_rounds 0 next)
                  (hosts_halted terms next (calls_of scripts) (hosts_of scripts) mid hosts.steps (λ n left. RoundsFrom 0 n left next) hosts.chain last)
                  chain_s settled_last),
            ) in
            record { rounds = whole.0; steps = whole.1; chain = whole.2; last = hosts.last ∙ sym (of_last-append settles.steps hosts.steps settled_last) ∙ sym whole.3; none_calls = λ is. absurd (halted is) }

-- ---- one host more

module _ {S C : Type 0} (g : Ghosts S) (may : C → List Candidate → ℕ → Type 0) (number : ℕ) (init now new : DriveValue S C)
    (below : number < length init.scripts) (leaves : LeavesDrive g init now Done) (answer : DriveAnswer)
    (takes : (unknown : ScriptData) → HostTakes (terms_of g may now) (get_or now.scripts number unknown).host (calls_of now.scripts now.core.history (get_or now.scripts number unknown).host) (seen_core g now.core) answer
    (seen_core g new.core)) (left : LeavesDrive g now new answer) where
  takes_so : HostTakes (terms_of g may init) (nth_host init.scripts number) (calls_of init.scripts now.core.history (nth_host init.scripts number)) (seen_core g now.core) answer (seen_core g new.core)
  takes_so =
      subst (λ (t : Terms). HostTakes t (nth_host init.scripts number) (calls_of init.scripts now.core.history (nth_host init.scripts number)) (seen_core g now.core) answer (seen_core g new.core)) (same_terms g may init now leaves)
      (subst (λ (scripts : List ScriptData). HostTakes (terms_of g may now) (nth_host scripts number) (calls_of scripts now.core.history (nth_host scripts number)) (seen_core g now.core) answer (seen_core g new.core))
      leaves.scripts_ (takes nobody))

  pub host_leaves : LeavesDrive g init new answer
  host_leaves = leaves_then g init now new answer leaves left

  pub host_done : answer ≡ Done → LeavesDrive g init new Done
  host_done done = subst (λ (a : DriveAnswer). LeavesDrive g init new a) done host_leaves

  module _ (so_far : HostsSoFar (terms_of g may init) init.scripts (seen_core g init.core) number (seen_core g now.core)) where
    pub host_on : answer ≡ Done → HostsSoFar (terms_of g may init) init.scripts (seen_core g init.core) (number + 1) (seen_core g new.core)
    host_on done = hosts_go (terms_of g may init) init.scripts (seen_core g init.core) number below (seen_core g now.core) (seen_core g new.core) so_far answer takes_so done

    pub host_halts : answer ≢ Done → HostsTurn (terms_of g may init) init.scripts (seen_core g init.core) answer (seen_core g new.core)
    host_halts halted = hosts_halt (terms_of g may init) init.scripts (seen_core g init.core) number below (seen_core g now.core) (seen_core g new.core) so_far answer takes_so halted

  pub host_goes_on : AreScripts init.scripts → (now.core.stopped ≡ None → IsCore now.core)
      → ((core : CoreData) (h : ℕ) (call : CallData) (told : HostTold) (left : CoreData) → IsCore core → 1 ≤ h → h ≤ 8 → HostEvent g.tells core h call told left → is_kept_waiting core h call ≡ false
      → is_end (called h call told) ≡ false → run_left left < run_left core)
      → ((core : CoreData) (h : ℕ) (call : CallData) (told : HostTold) (left : CoreData) → IsCore core → HostEvent g.tells core h call told left → is_kept_waiting core h call ≡ true → IsKeptOff told × IsSame g.tells core left)
      → answer ≡ Done → (init.core.stopped ≡ None → GoesOn init.scripts (seen_core g init.core) number (seen_core g now.core)) → init.core.stopped ≡ None
      → GoesOn init.scripts (seen_core g init.core) (number + 1) (seen_core g new.core)
  host_goes_on scripts_ kept falls rests done so_far going =
      let core = core_seen g now.core (kept (leaves.halts ∙ going)) in
      let script = all_at IsScript init.scripts number nobody scripts_.each below in
      goes_on init.scripts (seen_core g init.core) (terms_of g may init) number (seen_core g now.core) (seen_core g new.core) (so_far going)
      (λ site call told event free on. falls (record (seen_core g now.core) { site = site }) (nth_host init.scripts number) call told (seen_core g new.core) (core_read (seen_core g now.core) site core) script.low script.high event free on)
      (λ site call told event waits_. rests (record (seen_core g now.core) { site = site }) (nth_host init.scripts number) call told (seen_core g new.core) (core_read (seen_core g now.core) site core) event waits_) answer done takes_so

-- ---- one round more

-- a track was copied, or none
pub record TakesOne {S C : Type 0} (g : Ghosts S) (old new : DriveValue S C) : Type 0 where
  pub reads : Reading (is_some (asked_copy old.copier)) g.tells (seen_core g old.core) (λ r. seen_core g new.core ≡ r)
  pub leaves : LeavesDrive g old new Done

module _ {S C : Type 0} (g : Ghosts S) (may : C → List Candidate → ℕ → Type 0) (init now : DriveValue S C)
    (so_far : RoundsSoFar (terms_of g may init) init.scripts (seen_core g init.core) (seen_core g now.core)) (leaves : LeavesDrive g init now Done) where
  -- whether some host calls
  abbrev calls_in : DriveValue S C → Bool
  calls_in d = has_call (calls_of d.scripts) (hosts_of d.scripts) (seen_core g d.core)

  calls_so : (b : Bool) → calls_in now ≡ b → has_call (calls_of init.scripts) (hosts_of init.scripts) (seen_core g now.core) ≡ b
  calls_so b is =
      subst (λ (scripts : List ScriptData). has_call (calls_of scripts) (hosts_of scripts) (seen_core g now.core) ≡ b) leaves.scripts_ is

  pub round_none : calls_in now ≡ false → RunsToEnd (terms_of g may init) init.scripts (seen_core g init.core) Done (seen_core g now.core)
  round_none none = rounds_end (terms_of g may init) init.scripts (seen_core g init.core) (seen_core g now.core) so_far (calls_so false none)

  module _ (some : calls_in now ≡ true) (read : DriveValue S C) (taken : TakesOne g now read) (mid : DriveValue S C) (told : DriveAnswer)
      (settles : SettlesIt (terms_of g may read) (seen_core g read.core) told (seen_core g mid.core)) (left : LeavesDrive g read mid told) where
    to_read : LeavesDrive g init read Done
    to_read = leaves_then g init now read Done leaves taken.leaves

    reads_so : Reading (is_some (asked_copy init.copier)) g.tells (seen_core g now.core) (λ r. seen_core g read.core ≡ r)
    reads_so = subst (λ (o : Option AskedCopy). Reading (is_some o) g.tells (seen_core g now.core) (λ r. seen_core g read.core ≡ r)) leaves.copier_ taken.reads

    settles_so : SettlesIt (terms_of g may init) (seen_core g read.core) told (seen_core g mid.core)
    settles_so = subst (λ (t : Terms). SettlesIt t (seen_core g read.core) told (seen_core g mid.core)) (same_terms g may init read to_read) settles

    pub round_left : LeavesDrive g init mid told
    round_left = leaves_then g init read mid told to_read left

    pub round_halts : told ≢ Done → RunsToEnd (terms_of g may init) init.scripts (seen_core g init.core) told (seen_core g mid.core)
    round_halts halted =
        rounds_halt (terms_of g may init) init.scripts (seen_core g init.core) (seen_core g now.core) (seen_core g read.core) (seen_core g mid.core) so_far (calls_so true some) reads_so told settles_so halted

    module _ (done : told ≡ Done) (new : DriveValue S C) (answer : DriveAnswer)
        (hosts : HostsTurn (terms_of g may mid) mid.scripts (seen_core g mid.core) answer (seen_core g new.core)) (then_ : LeavesDrive g mid new answer) where
      to_mid : LeavesDrive g init mid Done
      to_mid = subst (λ (a : DriveAnswer). LeavesDrive g init mid a) done round_left

      hosts_so : HostsTurn (terms_of g may init) init.scripts (seen_core g mid.core) answer (seen_core g new.core)
      hosts_so =
          subst (λ (t : Terms). HostsTurn t init.scripts (seen_core g mid.core) answer (seen_core g new.core)) (same_terms g may init mid to_mid)
          (subst (λ (scripts : List ScriptData). HostsTurn (terms_of g may mid) scripts (seen_core g mid.core) answer (seen_core g new.core)) to_mid.scripts_ hosts)

      pub round_leaves : LeavesDrive g init new answer
      round_leaves = leaves_then g init mid new answer to_mid then_

      pub round_done : answer ≡ Done → LeavesDrive g init new Done
      round_done goes = subst (λ (a : DriveAnswer). LeavesDrive g init new a) goes round_leaves

      pub round_stops : answer ≢ Done → RunsToEnd (terms_of g may init) init.scripts (seen_core g init.core) answer (seen_core g new.core)
      round_stops halted =
          rounds_stop (terms_of g may init) init.scripts (seen_core g init.core) (seen_core g now.core) (seen_core g read.core) (seen_core g mid.core) so_far (calls_so true some) reads_so told settles_so done
          (seen_core g new.core) answer hosts_so halted

      pub round_goes : answer ≡ Done → RoundsSoFar (terms_of g may init) init.scripts (seen_core g init.core) (seen_core g new.core)
      round_goes goes =
          rounds_go (terms_of g may init) init.scripts (seen_core g init.core) (seen_core g now.core) (seen_core g read.core) (seen_core g mid.core) so_far (calls_so true some) reads_so told settles_so done
          (seen_core g new.core) answer hosts_so goes (then_.session.beginning.config ∙ left.session.beginning.config ∙ taken.leaves.session.beginning.config)

      pub round_falls : run_left (seen_core g mid.core) ≤ run_left (seen_core g read.core) → RunFalls mid.scripts (seen_core g mid.core) (seen_core g new.core) → run_left (seen_core g new.core) < run_left (seen_core g now.core)
      round_falls run falls =
          let at = read_of g.tells (seen_core g now.core) (is_some (asked_copy now.copier)) (λ r. seen_core g read.core ≡ r) taken.reads in
          let e : run_left (seen_core g read.core) ≡ run_left (seen_core g now.core) = ap run_left at.2 ∙ same_run_left (seen_core g now.core) at.0 in
          let history_ : mid.core.history ≡ now.core.history = settles.history_ ∙ ap (λ (c : CoreData). c.history) at.2 in
          let same = has_call_same (calls_of now.scripts) (hosts_of now.scripts) (seen_core g now.core) (seen_core g mid.core) history_ in
          let calls : calls_in mid ≡ true =
          subst (λ (scripts : List ScriptData). has_call (calls_of scripts) (hosts_of scripts) (seen_core g mid.core) ≡ true) (sym (left.scripts_ ∙ taken.leaves.scripts_)) (same ∙ some) in
          let less = falls (settles.settled done) (settles.going done) calls in
          omega (arith, less, run, e)

-- Each answer of an event of a host has its cause.
use Rattle.std.proofs.Common.{◌≡◌, ◌⊎◌, if◌then◌else◌, inl, inr, ℕ, ◌<◌, Bool, List, [], Option, None, Result, Ok, Err, is_some, length, refl, sym, ◌∙◌, ap, subst, arith}
use Rattle.std.proofs.lemmas.Bool.{cond_both}
use Rattle.channel_commands.specs.declared.command.Command.{Command}
use Rattle.channel_commands.specs.declared.call.BreakCause.{BreakCause}
use Rattle.channel_commands.specs.declared.call.BreakCause.TheVariants as cause
use Rattle.channel_commands.specs.Data.{CallData, mount, demount, command as ask, break, ReplyData, done, demounted, already_mounted, not_mounted, in_chain, equipment_check, no_space, stopped}
use Rattle.ckd_plain.specs.declared.host.HostState.{HostState}
use Rattle.ckd_plain.specs.declared.unit_check.UnitCheck.{UnitCheck}
use Rattle.ckd_plain.specs.Checks.{admitted_command}
use Rattle.ckd_plain.specs.Effects.{Outcome}
use Rattle.ckd_plain.specs.Index.{Tracks}
use Rattle.ckd_plain.specs.Plain.{with_open_chain, break_reply, outcome_answer, command_answer, answer_by_checks, answer_on_tracks, response_to}
use Rattle.volume_table.specs.Row.{state_of}
use Rattle.core_state.specs.declared.rule.HostRule.{HostRule}
use Rattle.core_state.specs.declared.rule.HostRule.TheVariants.{IsStopped, IsFull, IsBusy, IsMoving, IsHeld, Responds, HasFailed, HasNoSpace, Faults, Marks, Runs}
use Rattle.core_state.specs.declared.rule.Waiting.TheVariants.{Busy, Fault, Held}
use Rattle.core_state.specs.CoreValue.{CoreData}
use Rattle.core_state.specs.HostEvents.{HostTold, replied, waits, halts, at_limit, no_memory, mark_in, response, HostEvent}
use Rattle.core_state.specs.HostRules.{host_rule}
use Rattle.core_state.specs.IsCore.{IsCore}
use Rattle.core_state.specs.Pins.{host_at, owns}
use Rattle.core_state.proofs.Limits.{host_stopped}
use Rattle.core_state.proofs.RuleWalks.{some_of}
use Rattle.host_events.specs.Causes.{Goes, NeedsNoLook, Looks, IsToMark, IsToRun, CauseOfReply, CauseOf, plain_reply_on, IsPlainReply, OrNoMemory, IsOfMark, IsOfRun, AnswersEachCause}
use Rattle.host_events.proofs.Mounts.{by_mark}
use Rattle.host_events.proofs.Outcomes.{EachOutcome, outcome}
use Rattle.host_events.proofs.RuleFacts.{IsLate, AsksFor, RunsOn, rule_goes, rule_stopped, rule_full, rule_busy, rule_moving, rule_held, rule_responds, rule_failed, rule_no_space, rule_faults, rule_marks, rule_runs_on}
use Rattle.host_events.proofs.RuleParts.{mounted_under, passes_found, state_at, frame_at}
use Rattle.host_events.proofs.RuleOf.{at_limit as at_the_limit, busy_is, served_is, held_is, responds_is, failed_is, no_space_is, fault_is, marks_is, runs_is}

-- ---- a reply without a look at the tracks is none of the three exceptions

abbrev IsPlain : ReplyData → Type 0
IsPlain equipment_check = ⊥
IsPlain no_space = ⊥
IsPlain stopped = ⊥
IsPlain _ = Unit {0}

answered_plain : (c : Command) (chained : Bool) (o : Outcome) → IsPlain (outcome_answer c chained o).reply
answered_plain c chained (Ok e) = tt
answered_plain c chained (Err r) = tt

judged_plain : (tracks : Tracks) (host : HostState) (argument : List ℕ) (chained : Bool) (r : Result Command UnitCheck) → IsPlain (answer_by_checks tracks host argument chained r).reply
unfolding command_answer
judged_plain tracks host argument chained (Ok c) = answered_plain c chained _
judged_plain tracks host argument chained (Err check) = tt

run_plain : (tracks : Tracks) (host : HostState) (code : ℕ) (argument : List ℕ) (chained : Bool) → IsPlain (answer_on_tracks tracks host code argument chained).reply
unfolding answer_on_tracks
run_plain tracks host code argument chained = judged_plain tracks (with_open_chain host) argument chained (admitted_command (with_open_chain host) code argument)

either : (b : Bool) (x y : ReplyData × HostState) → IsPlain x.0 → IsPlain y.0 → IsPlain (if b then x else y).0
either b x y px py = cond_both b x y (λ (p : ReplyData × HostState). IsPlain p.0) (λ _. px) (λ _. py)

break_plain : (why : BreakCause) → IsPlain (break_reply why)
break_plain cause.Program = tt
break_plain cause.Limit = tt

plain_reply : (host : HostState) (mark : Option Bool) (call : CallData) → IsPlain (response_to host mark call).0
unfolding response_to
plain_reply host mark (mount volume bind) =
    either host.chain_open (in_chain, host) _ tt (either (is_some host.mounted) (already_mounted, host) _ tt (by_mark (λ (r : ReplyData × HostState). IsPlain r.0) host volume bind mark (λ _ _. tt) (λ _. tt)))
plain_reply host mark demount = either host.chain_open (in_chain, host) _ tt (either (is_some host.mounted) (demounted, record host { mounted = None }) (not_mounted, host) tt tt)
plain_reply host mark (break why) = break_plain why
plain_reply host mark (ask code argument chained) = run_plain (λ head. []) host code argument chained

-- ---- the causes

module _ (tells : Type 0) (core : CoreData) (kept : core.stopped ≡ None → IsCore core) (h : ℕ) (core' : CoreData) where
  module _ (call : CallData) where
    abbrev HasCause : HostRule → HostTold → Type 0
    HasCause rule told = host_rule core h call ≡ rule → CauseOf core h call told core'

    -- a search, read or write that a rule is met by
    looks_of : Goes core → (asks : AsksFor core h call) → Looks core h call asks.c
    looks_of goes asks = record { let_in = record { goes = goes; free = λ commands. asks.free }; is = asks.looks }

    no_look : (reply : ReplyData) → IsPlain reply → NeedsNoLook core h call → reply ≡ (response core h call).0 → CauseOfReply core h call reply core'
    no_look equipment_check plain needs is = absurd plain
    no_look no_space plain needs is = absurd plain
    no_look stopped plain needs is = absurd plain
    no_look (done status bytes) plain needs is = inl (needs, is)
    no_look reply plain needs is = (needs, is)

    run_is : (c : Command) (volume frame : ℕ) → RunsOn core h call c volume frame → IsToRun core h call c
    run_is c volume frame on =
        record { looks = subst (Looks core h call) on.same (looks_of on.goes on.asks); unfailed = on.unfailed; under = on.under }

    causes : EachOutcome tells core h call core' HasCause
    causes = record {
      stops = λ fault same is. inl (rule_stopped core h call kept fault is);
      fills = λ same is. rule_full core h call kept is;
      lacks = λ rule late same is. rule_goes core h call rule is late;
      is_busy = λ owner same is.
          let on = rule_busy core h call kept owner is in
          let at = mounted_under (host_at core.hosts h).mounted on.volume on.mounted in
          record {
            goes = on.goes;
            commands = on.is;
            volume = on.volume;
            bind = at.0;
            mounted = at.1;
            owns_ = passes_found (λ k. owns core.hosts core.requests k on.volume) 9 owner on.owns_;
            other = on.other;
          };
      moves = λ cylinder same is.
          let on = rule_moving core h call kept cylinder is in
          inl (record { let_in = record { goes = on.goes; free = on.free }; none = on.none; q = on.q; asked = on.asked; moves = on.moves; cylinder_ = on.cylinder_ });
      holds = λ frame held is.
          let on = rule_held core h call kept frame is in
          record { let_in = record { goes = on.goes; free = on.free }; quiet = on.quiet; volume = on.volume; binds = on.binds; takes = on.takes };
      responds = λ replied_ is.
          let on = rule_responds core h call kept is in
          no_look (response core h call).0 (plain_reply (host_at core.hosts h) (mark_in core.rows call) call)
          (record { let_in = record { goes = on.goes; free = on.free }; quiet = on.quiet; none = on.none; untaken = on.binds }) refl;
      fails = λ fault replied_ is.
          let on = rule_failed core h call kept fault is in
          inl (
            fault,
            record { c = on.asks.c; looks = looks_of on.goes on.asks; fails = on.fails },
            record { history = ap (λ (c : CoreData). c.history) replied_.1; marks = ap (λ (c : CoreData). c.marks) replied_.1 },
          );
      is_full = λ replied_ is.
          let on = rule_no_space core h call kept is in
          record { c = on.asks.c; at = record { looks = looks_of on.goes on.asks; unfailed = on.unfailed; under = on.full.0 }; full = on.full };
      asks = λ volume cylinder asks is.
          let on = rule_faults core h call kept volume cylinder is in
          inr (record {
            c = on.asks.c;
            at = record {
              looks = looks_of on.goes on.asks;
              unfailed = on.unfailed;
              under = (volume, on.bind, on.r, on.mounted, on.there, subst (λ (n : ℕ). state_of on.r n < 2) on.cylinder_ on.unstaged);
            };
            space = on.space;
            cylinder_ = on.cylinder_;
          });
      marks = λ volume cylinder marks is.
          let on = rule_marks core h call kept volume cylinder is in
          record {
            c = on.asks.c;
            at = record {
              looks = looks_of on.goes on.asks;
              unfailed = on.unfailed;
              under = (volume, on.bind, on.r, on.mounted, on.there, subst (λ (n : ℕ). (state_of on.r n ≡ 2) ⊎ (state_of on.r n ≡ 3)) on.cylinder_ on.staged);
            };
            writes = on.write_;
          };
      unmarked = λ volume cylinder fault un is.
          let on = rule_marks core h call kept volume cylinder is in
          inr (on.asks.c, looks_of on.goes on.asks, on.write_, (un.0 on.r on.there).cause);
      unread = λ c volume frame un is.
          inr (
            c,
            run_is c volume frame (rule_runs_on core h call kept c volume frame is),
            un.0.failed,
            record { history = ap (λ (k : CoreData). k.history) un.1; marks = ap (λ (k : CoreData). k.marks) un.1 },
          );
      runs = λ c volume frame code argument chained status bytes ran is. inr (c, run_is c volume frame (rule_runs_on core h call kept c volume frame is));
      unwritten = λ c volume frame code argument chained fault un is.
          inr (c, (run_is c volume frame (rule_runs_on core h call kept c volume frame is)).looks, un.1.write, un.1.cause);
    }

  pub has_cause : (call : CallData) (told : HostTold) → HostEvent tells core h call told core' → CauseOf core h call told core'
  has_cause call told event = outcome tells core h core' HasCause call (causes call) (host_rule core h call) told event refl

-- ---- the plain reply

-- what holds of a reply of a command that was carried out
abbrev OnDone : (ReplyData → Type 0) → HostTold → Type 0
OnDone P (replied index (done status bytes)) = P (done status bytes)
OnDone P _ = Unit {0}

module _ (tells : Type 0) (core : CoreData) (kept : core.stopped ≡ None → IsCore core) (h : ℕ) (core' : CoreData) (tell : tells) where
  module _ (call : CallData) where
    abbrev Plainly : HostRule → HostTold → Type 0
    Plainly rule told = host_rule core h call ≡ rule → OnDone (IsPlainReply core h call) told

    unlooked : (index : ℕ) (reply : ReplyData) → NeedsNoLook core h call → reply ≡ (response core h call).0 → OnDone (IsPlainReply core h call) (replied index reply)
    unlooked index (done status bytes) needs is = inl (needs, is)
    unlooked index _ needs is = tt

    plainly : EachOutcome tells core h call core' Plainly
    plainly = record {
      stops = λ fault same is. tt;
      fills = λ same is. tt;
      lacks = λ rule late same is. tt;
      is_busy = λ owner same is. tt;
      moves = λ cylinder same is. tt;
      holds = λ frame held is. tt;
      responds = λ replied_ is.
          let on = rule_responds core h call kept is in
          unlooked (length core.history) (response core h call).0 (record { let_in = record { goes = on.goes; free = on.free }; quiet = on.quiet; none = on.none; untaken = on.binds }) refl;
      fails = λ fault replied_ is. tt;
      is_full = λ replied_ is. tt;
      asks = λ volume cylinder asks is. tt;
      marks = λ volume cylinder marks is. tt;
      unmarked = λ volume cylinder fault un is. tt;
      unread = λ c volume frame un is. tt;
      runs = λ c volume frame code argument chained status bytes ran is.
          let on = rule_runs_on core h call kept c volume frame is in
          inr (c, frame, run_is tells core kept h core' call c volume frame on, on.in_frame, subst (λ (k : CallData). done status bytes ≡ plain_reply_on core h k c frame) (sym ran.0) (ran.2.reply_ tell));
      unwritten = λ c volume frame code argument chained fault un is. tt;
    }

  pub replies_plainly : (call : CallData) (told : HostTold) → HostEvent tells core h call told core' → OnDone (IsPlainReply core h call) told
  replies_plainly call told event = outcome tells core h core' Plainly call (plainly call) (host_rule core h call) told event refl

-- ---- the answers

-- what an event that meets a rule may answer
abbrev AnswerOf : CoreData → ℕ → CallData → HostRule → HostTold → Type 0
AnswerOf core h call (IsStopped fault) told = told ≡ halts fault
AnswerOf core h call IsFull told = told ≡ at_limit
AnswerOf core h call (IsBusy owner) told = OrNoMemory told (waits (Busy owner))
AnswerOf core h call (IsMoving cylinder) told = OrNoMemory told (waits (Fault cylinder))
AnswerOf core h call (IsHeld frame) told = OrNoMemory told (waits (Held frame))
AnswerOf core h call Responds told = OrNoMemory told (replied (length core.history) (response core h call).0)
AnswerOf core h call (HasFailed fault) told = OrNoMemory told (replied (length core.history) equipment_check)
AnswerOf core h call HasNoSpace told = OrNoMemory told (replied (length core.history) no_space)
AnswerOf core h call (Faults volume cylinder) told = OrNoMemory told (waits (Fault cylinder))
AnswerOf core h call (Marks volume cylinder) told = IsOfMark told
AnswerOf core h call (Runs c volume frame) told = IsOfRun told

module _ (tells : Type 0) (core : CoreData) (kept : core.stopped ≡ None → IsCore core) (h : ℕ) (core' : CoreData) where
  lacking : (call : CallData) (rule : HostRule) → IsLate rule → AnswerOf core h call rule no_memory
  lacking call (IsStopped fault) late = absurd late
  lacking call IsFull late = absurd late
  lacking call (Marks volume cylinder) late = tt
  lacking call (Runs c volume frame) late = tt
  lacking call _ late = inr refl

  answers : (call : CallData) → EachOutcome tells core h call core' (AnswerOf core h call)
  answers call = record {
    stops = λ fault same. refl;
    fills = λ same. refl;
    lacks = λ rule late same. lacking call rule late;
    is_busy = λ owner same. inl refl;
    moves = λ cylinder same. inl refl;
    holds = λ frame held. inl refl;
    responds = λ replied_. inl refl;
    fails = λ fault replied_. inl refl;
    is_full = λ replied_. inl refl;
    asks = λ volume cylinder asks. inl refl;
    marks = λ volume cylinder marks. tt;
    unmarked = λ volume cylinder fault un. tt;
    unread = λ c volume frame un. tt;
    runs = λ c volume frame code argument chained status bytes ran. tt;
    unwritten = λ c volume frame code argument chained fault un. tt;
  }

  module _ (call : CallData) (told : HostTold) (event : HostEvent tells core h call told core') where
    answer : (rule : HostRule) → host_rule core h call ≡ rule → AnswerOf core h call rule told
    answer rule is = subst (λ (r : HostRule). AnswerOf core h call r told) is (outcome tells core h core' (AnswerOf core h) call (answers call) (host_rule core h call) told event)

    on_mark : IsToMark core h call → IsOfMark told
    on_mark marks =
        let goes = marks.at.looks.let_in.goes in
        let under = marks.at.under in
        let at = state_at core (host_at core.hosts h) under.0 under.1 under.2 under.3 under.4 in
        answer (Marks _ _) (elim under.5 [
          | inl two ↦ marks_is core h call goes (kept goes.going) marks.at.looks.let_in.free marks.c marks.at.looks.is marks.at.unfailed (omega (arith, at, two)) marks.writes (omega (arith, at, two))
          | inr three ↦ marks_is core h call goes (kept goes.going) marks.at.looks.let_in.free marks.c marks.at.looks.is marks.at.unfailed (omega (arith, at, three)) marks.writes (omega (arith, at, three))
        ])

    on_run : (c : Command) → IsToRun core h call c → IsOfRun told
    on_run c runs =
        let goes = runs.looks.let_in.goes in
        let keeps = kept goes.going in
        let under = runs.under in
        let at = state_at core (host_at core.hosts h) under.0 under.1 under.2 under.3 under.4 in
        let frame = some_of _ ((keeps.are_rows under.0 under.2 under.4).staged (host_at core.hosts h).cylinder under.5.0) in
        let has = frame_at core (host_at core.hosts h) under.0 under.1 under.2 under.3 under.4 ∙ frame.1 in
        answer (Runs c _ frame.0)
        (runs_is core h call goes keeps runs.looks.let_in.free c runs.looks.is runs.unfailed (let two = under.5.0 in omega (arith, at, two)) frame.0 has (λ writes. let four = under.5.1 writes in omega (arith, at, four)))

    pub answers_each : AnswersEachCause core h call told
    answers_each = record {
      stopped_ = λ fault is. answer (IsStopped fault) (host_stopped core fault h call is);
      full = λ limit. answer IsFull (at_the_limit core h call limit);
      busy = λ owner kept_off. answer (IsBusy owner) (busy_is core h call kept_off.goes (kept kept_off.goes.going) owner kept_off);
      served = λ cylinder leaves. let goes = leaves.let_in.goes in answer (IsMoving cylinder) (served_is core h call goes (kept goes.going) leaves.let_in.free cylinder leaves);
      taken = λ frame binds.
          let goes = binds.let_in.goes in
          answer (IsHeld frame) (held_is core h call goes (kept goes.going) binds.let_in.free binds.quiet frame binds.volume binds.binds binds.takes);
      responds = λ needs. let goes = needs.let_in.goes in answer Responds (responds_is core h call goes (kept goes.going) needs.let_in.free needs.quiet needs.none needs.untaken);
      failed = λ fault fails.
          let goes = fails.looks.let_in.goes in
          answer (HasFailed fault) (failed_is core h call goes (kept goes.going) fails.looks.let_in.free fails.c fails.looks.is fault fails.fails);
      no_space_ = λ finds.
          let goes = finds.at.looks.let_in.goes in
          answer HasNoSpace (no_space_is core h call goes (kept goes.going) finds.at.looks.let_in.free finds.c finds.at.looks.is finds.at.unfailed finds.full);
      unstaged = λ cylinder waits_.
          let goes = waits_.at.looks.let_in.goes in
          subst (λ (n : ℕ). OrNoMemory told (waits (Fault n))) (sym waits_.cylinder_)
          (answer (Faults _ (host_at core.hosts h).cylinder)
          (fault_is core h call goes (kept goes.going) waits_.at.looks.let_in.free waits_.c waits_.at.looks.is waits_.at.unfailed waits_.at.under waits_.space));
      marks = on_mark;
      runs = on_run;
    }

-- A turn of the recorders that is under way, and turns one after the other.
use Rattle.std.proofs.Common.{◌≡◌, ◌≢◌, ◌⊎◌, inl, inr, ◌<◌, ◌≤◌, ℕ, suc, ◌+◌, Bool, true, false, ◌&&◌, List, [], ◌∷◌, None, refl, sym, ◌∙◌, ap, subst, arith}
use Rattle.std.specs.Prelude.{◌-◌}
use Rattle.std.specs.List.{range_with_len}
use Rattle.std.proofs.lemmas.Bool.{false≢true, cases_lt}
use Rattle.mss_base.specs.declared.site.Site.{Ghosts}
use Rattle.victim_choice.specs.declared.choose.Candidate.{Candidate}
use Rattle.core_state.specs.declared.rule.WorkAnswer.{WorkAnswer}
use Rattle.core_state.specs.declared.rule.WorkAnswer.TheVariants.{Did, Idle, Stopped, Memory}
use Rattle.core_state.specs.declared.rule.WorkRule.TheVariants.{IsIdle}
use Rattle.core_state.specs.Chains.{Terms, Step, worked, is_idle, WorkTurn}
use Rattle.core_state.specs.CoreValue.{CoreValue, CoreData, seen_core}
use Rattle.core_state.specs.IsCore.{IsCore}
use Rattle.core_state.specs.WorkEvents.{WorkEvent}
use Rattle.core_state.specs.WorkRules.{work_rule}
use Rattle.core_state.specs.declared.rule.WorkKind.{WorkKind}
use Rattle.core_progress.specs.Progress.{LeavesRun}
use Rattle.core_progress.proofs.OtherDevices.{same_work_rule, same_settle_left, same_run_left}
use Rattle.core_progress.specs.WorkLeft.{settle_left, run_left}
use Rattle.host_events.proofs.RuleFacts.{core_seen}
use Rattle.work_events.specs.WorkLaws.{AnswerSays}
use Rattle.work_events.proofs.WorkLawFacts.{answer_says}
use Rattle.serial_driver.specs.declared.answer.DriveAnswer.{DriveAnswer}
use Rattle.serial_driver.specs.declared.answer.DriveAnswer.TheVariants as answer
use Rattle.serial_driver.specs.declared.turn.Turn.{Turn}
use Rattle.serial_driver.specs.Answers.{of_work, of_last}
use Rattle.serial_driver.specs.Drives.{DriveValue, LeavesDrive, recorders_of, terms_of}
use Rattle.serial_driver.specs.Turns.{AtTurnEnd, LeavesLessBy, TurnsTo}
use Rattle.serial_driver.proofs.ChainFacts.{of_last-cons, work_goes, work_last}
use Rattle.serial_driver.proofs.EventRuns.{leaves_then}

-- ---- what an event leaves to do

module _ (tells : Type 0) (core : CoreData) (n : ℕ) (left : CoreData) where
  pub event_less : (told : WorkAnswer) → AnswerSays tells core n told left → of_work told ≡ answer.Done
      → (told ≡ Idle ⊎ ((settle_left left < settle_left core) × (run_left left ≤ run_left core))) → LeavesLessBy core n told left
  event_less Idle says goes less = record {
    less = omega (arith, ap settle_left says.1.1 ∙ same_settle_left core left.site);
    falls = λ is. absurd (false≢true (sym is));
    run = omega (arith, ap run_left says.1.1 ∙ same_run_left core left.site);
    quiet = λ _. (says.0, says.1.1);
  }
  event_less (Did what) says goes (inl is) = absurd cc
  event_less (Did what) says goes (inr it) = record {
    less = omega (arith, it.0);
    falls = λ _. it.0;
    run = it.1;
    quiet = λ is. absurd (false≢true is);
  }
  event_less (Stopped fault) says goes less = absurd cc
  event_less Memory says goes less = absurd cc

module _ {S C : Type 0} (g : Ghosts S) (may : List Candidate → ℕ → Type 0) (v w : CoreValue S C) (kept : v.stopped ≡ None → IsCore v) (n : ℕ)
    (below : n < v.config.recorders) where
  abbrev old : CoreData
  old = seen_core g v

  abbrev new : CoreData
  new = seen_core g w

  module _ (falls : (what : WorkKind) → IsCore old → WorkEvent g.tells may old n (Did what) new → settle_left new < settle_left old)
      (runs : (what : WorkKind) → IsCore old → WorkEvent g.tells may old n (Did what) new → LeavesRun old new) where
    says : (told : WorkAnswer) → WorkEvent g.tells may old n told new → AnswerSays g.tells old n told new
    says told event = answer_says g.tells may old n told new event (record { there = below; kept = λ going. core_seen g v (kept going) })

    pub work_less : (told : WorkAnswer) → WorkEvent g.tells may old n told new → of_work told ≡ answer.Done → LeavesLessBy old n told new
    work_less (Did what) event done =
        let it = says (Did what) event in
        let core = core_seen g v (kept it.0) in
        event_less g.tells old n new (Did what) it done (inr (falls what core event, (runs what core event).less))
    work_less Idle event done = event_less g.tells old n new Idle (says Idle event) done (inl refl)
    work_less (Stopped fault) event done = absurd cc
    work_less Memory event done = absurd cc

-- ---- a turn under way

module _ (terms : Terms) (start : CoreData) where
  -- the events from recorder number on make a whole turn with those before
  pub record TurnSoFar (number : ℕ) (idle : Bool) (now : CoreData) : Type 0 where
    pub on : (rest : ℕ) → number + rest ≡ start.config.recorders → (turn : Turn) (final : CoreData) (more : List Step)
        → WorkTurn terms (range_with_len number rest) idle now more final (AtTurnEnd turn final)
        → (steps : List Step) × WorkTurn terms (recorders_of start.config) true start steps final (AtTurnEnd turn final) × (of_last steps ≡ of_last more)
    pub config_ : now.config ≡ start.config
    pub quiet : idle ≡ true → (j : ℕ) → j < number → work_rule now j ≡ IsIdle
    pub less : settle_left now ≤ settle_left start
    pub falls : idle ≡ false → settle_left now < settle_left start
    pub run : run_left now ≤ run_left start
    pub history_ : now.history ≡ start.history

  pub turn_begins : TurnSoFar 0 true start
  turn_begins = record {
    on = λ rest all turn final more chain.
        let e : rest ≡ start.config.recorders = omega (arith, all) in
        (more, subst (λ (k : ℕ). WorkTurn terms (range_with_len 0 k) true start more final (AtTurnEnd turn final)) e chain, refl);
    config_ = refl;
    quiet = λ _ j below. absurd (omega (arith, below));
    less = omega arith;
    falls = λ is. absurd (false≢true (sym is));
    run = omega arith;
    history_ = refl;
  }

  module _ (number : ℕ) (idle : Bool) (now next : CoreData) (so_far : TurnSoFar number idle now) (below : number < now.config.recorders) (told : WorkAnswer)
      (event : WorkEvent terms.tells terms.may now number told next) where
    -- one more recorder
    one_more : (rest : ℕ) → number + 1 + rest ≡ start.config.recorders → number + suc rest ≡ start.config.recorders
    one_more rest all = omega (arith, all)

    still_idle : (a b : Bool) → (a && b) ≡ true → (a ≡ true) × (b ≡ true)
    still_idle true b is = (refl, is)
    still_idle false b is = absurd (false≢true is)

    some_busy : (a b : Bool) → (a && b) ≡ false → (a ≡ false) ⊎ (b ≡ false)
    some_busy true b is = inr is
    some_busy false b is = inl refl

    pub turn_goes : of_work told ≡ answer.Done → next.config ≡ now.config → next.history ≡ now.history → LeavesLessBy now number told next → TurnSoFar (number + 1) (idle && is_idle (worked number told)) next
    turn_goes done config_ history_ it = record {
      on = λ rest all turn final more chain.
          let whole = so_far.on (suc rest) (one_more rest all) turn final (worked number told ∷ more)
          (work_goes terms number now next told event done more final (λ core steps. WorkTurn terms (range_with_len (number + 1) rest) (idle && is_idle (worked number told)) core steps final (AtTurnEnd turn final)) chain) in
          (whole.0, whole.1, whole.2 ∙ of_last-cons (worked number told) more done);
      config_ = config_ ∙ so_far.config_;
      quiet = λ is j low. idle_at (still_idle idle (is_idle (worked number told)) is) j low;
      less = omega (arith, it.less, so_far.less);
      falls = λ is. falls_by (some_busy idle (is_idle (worked number told)) is);
      run = omega (arith, it.run, so_far.run);
      history_ = history_ ∙ so_far.history_;
    }
      where
        idle_at : (idle ≡ true) × (is_idle (worked number told) ≡ true) → (j : ℕ) → j < number + 1 → work_rule next j ≡ IsIdle
        idle_at both j low =
            ap (λ (c : CoreData). work_rule c j) (it.quiet both.1).1 ∙ same_work_rule now next.site j
            ∙ elim (cases_lt j number) [ inl less_ ↦ so_far.quiet both.0 j less_ | inr past ↦ (let e : j ≡ number = omega (arith, low, past) in ap (work_rule now) e ∙ (it.quiet both.1).0) ]

        falls_by : (idle ≡ false) ⊎ (is_idle (worked number told) ≡ false) → settle_left next < settle_left start
        falls_by (inl is) = omega (arith, so_far.falls is, it.less)
        falls_by (inr is) = omega (arith, so_far.less, it.falls is)

    pub turn_halts : of_work told ≢ answer.Done → next.history ≡ now.history → (turn : Turn) → turn.answer ≡ of_work told → TurnsTo terms start turn next
    turn_halts halted history_ turn is =
        let rest = rest_of in
        let whole = so_far.on (suc rest.0) rest.1 turn next (worked number told ∷ [])
        (work_last terms number now next told event halted (λ core steps. WorkTurn terms (range_with_len (number + 1) rest.0) (idle && is_idle (worked number told)) core steps next (AtTurnEnd turn next))) in
        record {
          steps = whole.0;
          chain = whole.1;
          last = is ∙ sym whole.2;
          leaves = λ done. absurd (halted (sym is ∙ done));
          history_ = history_ ∙ so_far.history_;
        }
      where
        rest_of : (rest : ℕ) × (number + suc rest ≡ start.config.recorders)
        rest_of = let low : number < start.config.recorders = subst (λ c. number < c.recorders) so_far.config_ below in (start.config.recorders - suc number, omega (arith, low))

  -- the turn is over
  pub turn_over : (number : ℕ) (idle : Bool) (now : CoreData) → TurnSoFar number idle now → number ≡ start.config.recorders → 1 ≤ start.config.recorders
      → TurnsTo terms start (record { answer = answer.Done; idle = idle }) now
  turn_over number idle now so_far all some =
      let turn : Turn = record { answer = answer.Done; idle = idle } in
      let whole = so_far.on 0 (omega (arith, all)) turn now [] ((refl, refl), refl) in
      record {
        steps = whole.0;
        chain = whole.1;
        last = sym whole.2;
        leaves = λ _. record {
          idle_ = λ is. record { some = subst (λ c. 1 ≤ c.recorders) (sym so_far.config_) some; each = λ i low. so_far.quiet is i (subst (λ (n : ℕ). i < n) (ap (λ c. c.recorders) so_far.config_ ∙ sym all) low) };
          less = so_far.less;
          falls = so_far.falls;
          run = so_far.run;
        };
        history_ = so_far.history_;
      }

-- ---- one recorder more

module _ {S C : Type 0} (g : Ghosts S) (may : C → List Candidate → ℕ → Type 0) (number : ℕ) (idle : Bool)
    (init now new : DriveValue S C) (below : number < init.core.config.recorders)
    (so_far : TurnSoFar (terms_of g may init) (seen_core g init.core) number idle (seen_core g now.core))
    (leaves : LeavesDrive g init now answer.Done) (told : WorkAnswer)
    (event : WorkEvent g.tells (may now.core.chooser) (seen_core g now.core) number told (seen_core g new.core))
    (left : LeavesDrive g now new (of_work told)) where
  event_so : WorkEvent g.tells (may init.core.chooser) (seen_core g now.core) number told (seen_core g new.core)
  event_so = subst (λ (c : C). WorkEvent g.tells (may c) (seen_core g now.core) number told (seen_core g new.core)) leaves.chooser_ event

  low : number < now.core.config.recorders
  low = subst (λ c. number < c.recorders) (sym leaves.session.beginning.config) below

  pub one_leaves : (told_so : DriveAnswer) → told_so ≡ of_work told → LeavesDrive g init new told_so
  one_leaves told_so is =
      subst (λ (a : DriveAnswer). LeavesDrive g init new a) (sym is)
      (leaves_then g init now new (of_work told) leaves left)

  pub one_goes : of_work told ≡ answer.Done → new.core.history ≡ now.core.history → LeavesLessBy (seen_core g now.core) number told (seen_core g new.core)
      → TurnSoFar (terms_of g may init) (seen_core g init.core) (number + 1) (idle && is_idle (worked number told)) (seen_core g new.core)
  one_goes done history_ less =
      turn_goes (terms_of g may init) (seen_core g init.core) number idle (seen_core g now.core) (seen_core g new.core) so_far low told event_so done left.session.beginning.config history_ less

  pub one_halts : of_work told ≢ answer.Done → new.core.history ≡ now.core.history → (turn : Turn) → turn.answer ≡ of_work told
      → TurnsTo (terms_of g may init) (seen_core g init.core) turn (seen_core g new.core)
  one_halts halted history_ turn is =
      turn_halts (terms_of g may init) (seen_core g init.core) number idle (seen_core g now.core) (seen_core g new.core) so_far low told event_so halted history_ turn is

-- Turns of the recorders, one after the other.
use Rattle.std.proofs.Common.{◌≡◌, ◌≢◌, ◌≤◌, ℕ, zero, suc, ◌<◌, Bool, true, false, List, [], ◌++◌, None, refl, sym, ◌∙◌, ap, subst, arith}
use Rattle.std.proofs.lemmas.Bool.{false≢true}
use Rattle.mss_base.specs.declared.site.Site.{Ghosts}
use Rattle.victim_choice.specs.declared.choose.Candidate.{Candidate}
use Rattle.core_state.specs.Chains.{Terms, Step, OneOf, Onward, WorkTurn, Settles, Ended, IsSettled}
use Rattle.core_state.specs.CoreValue.{CoreData, seen_core}
use Rattle.core_progress.specs.WorkLeft.{run_left}
use Rattle.serial_driver.specs.declared.answer.DriveAnswer.{DriveAnswer}
use Rattle.core_state.specs.IsCore.{IsCore}
use Rattle.core_progress.specs.Progress.{AreIdle}
use Rattle.work_events.proofs.RuleFacts.{rule_idle}
use Rattle.host_events.proofs.RuleFacts.{core_seen}
use Rattle.serial_driver.specs.declared.answer.DriveAnswer.TheVariants.{Done}
use Rattle.serial_driver.specs.declared.turn.Turn.{Turn}
use Rattle.serial_driver.specs.Answers.{of_last}
use Rattle.serial_driver.specs.Drives.{DriveValue, LeavesDrive, recorders_of, SettlesIt, terms_of}
use Rattle.serial_driver.specs.Turns.{AtTurnEnd, TurnsTo}
use Rattle.serial_driver.proofs.ChainFacts.{of_last-append, work_then, work_halted}
use Rattle.serial_driver.proofs.EventRuns.{leaves_then, same_terms}

module _ (terms : Terms) where
  -- ---- turns

  module _ (start : CoreData) where
    -- the turns from now on are those that settle the core, with those before
    pub record SettlesSoFar (now : CoreData) : Type 0 where
      pub on : (turns : ℕ) (final : CoreData) (more : List Step) → Settles terms (recorders_of start.config) turns now more final (Ended final)
          → (all : ℕ) × (steps : List Step) × Settles terms (recorders_of start.config) all start steps final (Ended final) × (of_last steps ≡ of_last more)
      pub config_ : now.config ≡ start.config
      pub history_ : now.history ≡ start.history
      pub run : run_left now ≤ run_left start

    pub settle_begins : SettlesSoFar start
    settle_begins = record { on = λ turns final more chain. (turns, more, chain, refl); config_ = refl; history_ = refl; run = omega arith }

    module _ (now next : CoreData) (so_far : SettlesSoFar now) (turn : Turn) (turns_ : TurnsTo terms now turn next) where
      abbrev one_turn : (Bool → Onward) → List Step → CoreData → Type 0
      one_turn go steps final = WorkTurn terms (recorders_of start.config) true now steps final go

      chain_ : one_turn (AtTurnEnd turn next) turns_.steps next
      chain_ = subst (λ c. WorkTurn terms (recorders_of c) true now turns_.steps next (AtTurnEnd turn next)) so_far.config_ turns_.chain

      abbrev behind : ℕ → CoreData → Bool → Onward
      behind turns final idle core rest = OneOf idle ((turns ≡ zero) × Ended final core rest) (Settles terms (recorders_of start.config) turns core rest final (Ended final))

      -- all were idle
      pub settle_rests : turn.answer ≡ Done → turn.idle ≡ true → IsSettled next → next.stopped ≡ None → SettlesIt terms start Done next
      settle_rests done idle settled going =
          let whole = so_far.on 1 next (turns_.steps ++ [])
          (work_then terms next next [] (recorders_of start.config) true now turns_.steps (AtTurnEnd turn next) (behind 0 next) by_end chain_ (sym turns_.last ∙ done)) in
          record {
            turns = whole.0;
            steps = whole.1;
            chain = whole.2;
            last = sym (whole.3 ∙ of_last-append turns_.steps [] (sym turns_.last ∙ done));
            settled = λ _. settled;
            going = λ _. going;
            history_ = turns_.history_ ∙ so_far.history_;
          }
        where
          by_end : (b : Bool) (core : CoreData) (rest : List Step) → AtTurnEnd turn next b core rest → of_last rest ≡ Done → behind 0 next b core (rest ++ [])
          by_end true core rest ended last = (refl, (ap (λ (l : List Step). l ++ []) ended.0.0, ended.0.1))
          by_end false core rest ended last = absurd (false≢true (sym ended.1 ∙ idle))

      pub settle_goes : turn.answer ≡ Done → turn.idle ≡ false → next.config ≡ now.config → SettlesSoFar next
      settle_goes done busy config_ = record {
        on = λ turns final more chain.
            let whole = so_far.on (suc turns) final (turns_.steps ++ more)
            (work_then terms next final more (recorders_of start.config) true now turns_.steps (AtTurnEnd turn next) (behind turns final) (by_end turns final more chain) chain_ (sym turns_.last ∙ done)) in
            (whole.0, whole.1, whole.2, whole.3 ∙ of_last-append turns_.steps more (sym turns_.last ∙ done));
        config_ = config_ ∙ so_far.config_;
        history_ = turns_.history_ ∙ so_far.history_;
        run = (let less = (turns_.leaves done).run in omega (arith, less, so_far.run));
      }
        where
          by_end : (turns : ℕ) (final : CoreData) (more : List Step) → Settles terms (recorders_of start.config) turns next more final (Ended final)
              → (b : Bool) (core : CoreData) (rest : List Step) → AtTurnEnd turn next b core rest → of_last rest ≡ Done → behind turns final b core (rest ++ more)
          by_end turns final more chain true core rest ended last = absurd (false≢true (sym busy ∙ ended.1))
          by_end turns final more chain false core rest ended last =
              subst (λ (l : List Step). Settles terms (recorders_of start.config) turns core (l ++ more) final (Ended final)) (sym ended.0.0)
              (subst (λ (c : CoreData). Settles terms (recorders_of start.config) turns c more final (Ended final)) ended.0.1 chain)

      pub settle_halts : turn.answer ≢ Done → SettlesIt terms start turn.answer next
      settle_halts halted =
          let last : of_last turns_.steps ≢ Done = λ is. halted (turns_.last ∙ is) in
          let whole = so_far.on 1 next turns_.steps
          (work_halted terms next (recorders_of start.config) true now turns_.steps (AtTurnEnd turn next) (behind 0 next) by_end chain_ last) in
          record {
            turns = whole.0;
            steps = whole.1;
            chain = whole.2;
            last = turns_.last ∙ sym whole.3;
            settled = λ is. absurd (halted is);
            going = λ is. absurd (halted is);
            history_ = turns_.history_ ∙ so_far.history_;
          }
        where
          by_end : (b : Bool) (core : CoreData) (rest : List Step) → AtTurnEnd turn next b core rest → of_last rest ≢ Done → behind 0 next b core rest
          by_end b core rest ended last = absurd (last (ap of_last ended.0.0))

-- ---- one turn more

module _ {S C : Type 0} (g : Ghosts S) (may : C → List Candidate → ℕ → Type 0) (init now new : DriveValue S C)
    (so_far : SettlesSoFar (terms_of g may init) (seen_core g init.core) (seen_core g now.core))
    (leaves : LeavesDrive g init now Done) (turn : Turn)
    (turns : TurnsTo (terms_of g may now) (seen_core g now.core) turn (seen_core g new.core))
    (left : LeavesDrive g now new turn.answer) where
  turns_so : TurnsTo (terms_of g may init) (seen_core g now.core) turn (seen_core g new.core)
  turns_so = subst (λ (t : Terms). TurnsTo t (seen_core g now.core) turn (seen_core g new.core)) (same_terms g may init now leaves) turns

  pub turn_leaves : LeavesDrive g init new turn.answer
  turn_leaves = leaves_then g init now new turn.answer leaves left

  pub turn_done : turn.answer ≡ Done → LeavesDrive g init new Done
  turn_done done = subst (λ (a : DriveAnswer). LeavesDrive g init new a) done turn_leaves

  pub turn_on : turn.answer ≡ Done → turn.idle ≡ false → SettlesSoFar (terms_of g may init) (seen_core g init.core) (seen_core g new.core)
  turn_on done busy =
      settle_goes (terms_of g may init) (seen_core g init.core) (seen_core g now.core) (seen_core g new.core) so_far turn turns_so done busy left.session.beginning.config

  pub turn_ends : turn.answer ≢ Done → SettlesIt (terms_of g may init) (seen_core g init.core) turn.answer (seen_core g new.core)
  turn_ends halted =
      settle_halts (terms_of g may init) (seen_core g init.core) (seen_core g now.core) (seen_core g new.core) so_far turn turns_so halted

  pub turn_run : turn.answer ≡ Done → run_left (seen_core g new.core) ≤ run_left (seen_core g init.core)
  turn_run done = let less = (turns.leaves done).run in omega (arith, less, so_far.run)

  -- all were idle
  pub turn_rests : (new.core.stopped ≡ None → IsCore new.core) → ((core : CoreData) → IsCore core → AreIdle core → IsSettled core) → turn.answer ≡ Done → turn.idle ≡ true
      → SettlesIt (terms_of g may init) (seen_core g init.core) Done (seen_core g new.core)
  turn_rests kept law done idle =
      let idle_ = (turns.leaves done).idle_ idle in
      let kept_ : new.core.stopped ≡ None → IsCore (seen_core g new.core) = λ going. core_seen g new.core (kept going) in
      let some = idle_.some in
      let low : 0 < new.core.config.recorders = omega (arith, some) in
      let going : new.core.stopped ≡ None = rule_idle (seen_core g new.core) 0 low kept_ (idle_.each 0 low) in
      settle_rests (terms_of g may init) (seen_core g init.core) (seen_core g now.core) (seen_core g new.core) so_far turn turns_so done idle
      (law (seen_core g new.core) (kept_ going) idle_) going

-- What a recorder does for its own task, by the rule that it met.
use Rattle.std.proofs.Common.{◌≡◌, inl, inr, ℕ, true, false, List, Option, Some, None, refl, sym, ◌∙◌, ap, subst}
use Rattle.std.specs.Prelude.{is_some}
use Rattle.std.proofs.lemmas.Bool.{false≢true}
use Rattle.fault_queue.specs.declared.queue.Request.{Request}
use Rattle.fault_queue.specs.declared.queue.RequestState.TheVariants.{Queued}
use Rattle.fault_queue.specs.Requests.{request_of}
use Rattle.transfers.specs.Copies.{moved_on}
use Rattle.transfers.specs.declared.transfer.Transfer.{Transfer}
use Rattle.transfers.specs.declared.transfer.TransferKind.{TransferKind}
use Rattle.transfers.specs.declared.transfer.TransferKind.TheVariants.{StageBlank, StageCartridge, Destage}
use Rattle.victim_choice.specs.declared.choose.Candidate.{Candidate}
use Rattle.core_state.specs.declared.task.Task.{Task}
use Rattle.core_state.specs.declared.rule.WorkAnswer.{WorkAnswer}
use Rattle.core_state.specs.declared.rule.WorkAnswer.TheVariants.{Did, Idle, Stopped}
use Rattle.core_state.specs.declared.rule.WorkKind.{WorkKind}
use Rattle.core_state.specs.declared.rule.WorkKind.TheVariants as kind
use Rattle.core_state.specs.declared.rule.WorkRule.{WorkRule}
use Rattle.core_state.specs.declared.rule.WorkRule.TheVariants.{IsStopped, IsIdle, GivesBack, Picks, PicksVictim, Abandons, Fetches, Copies, Ends, Frees, Assigns}
use Rattle.core_state.specs.CoreValue.{CoreData}
use Rattle.core_state.specs.WorkEvents.{CopiesIt, EndsIt, TellsEnd, WithTask, WorkDoes, WorkEvent}
use Rattle.core_state.specs.WorkRules.{task_of, work_rule}
use Rattle.core_state.proofs.TaskLists.{task_fits, task_put}
use Rattle.work_events.specs.WorkLaws.{IsRecorder}
use Rattle.work_events.proofs.RuleFacts.{rule_picks, rule_picks_victim}
use Rattle.quiet_events.specs.Quiet.{GivesOthersNothing, GoesOnAlone, is_own}
use Rattle.quiet_events.proofs.OthersIdle.{picked, fetch_leaves, copy_leaves, pick_leaves}
use Rattle.quiet_events.proofs.OthersWait.{fetch_waits, copy_waits, pick_waits}

the_task : (o : Option Task) (P : Task → Type 0) → WithTask o P → (task : Task) × (o ≡ Some task) × P task
the_task None P is = absurd is
the_task (Some task) P is = (task, refl, is)

module _ (tells : Type 0) (may : List Candidate → ℕ → Type 0) (core : CoreData) (n : ℕ) (is : IsRecorder core n) (left : CoreData) (what : WorkKind) (own : is_own what ≡ true) (goes_on : is_some (task_of left n) ≡ true) where
  abbrev Quiet : Type 0
  Quiet = GivesOthersNothing n core left

  not_own : (other : WorkKind) → what ≡ other → is_own other ≡ false → Quiet
  not_own other same foreign = absurd (false≢true (sym (ap is_own same ∙ foreign) ∙ own))

  did : (a b : WorkKind) → Did a ≡ Did b → a ≡ b
  did a b same = cc

  picks : (h frame : ℕ) (victim : Option (ℕ × ℕ)) (q : Request) → core.stopped ≡ None → request_of core.requests h ≡ Some q → q.state ≡ Queued → task_of core n ≡ None → left ≡ picked core left.site n h frame victim → Quiet
  picks h frame victim q going asked queued free path = subst (GivesOthersNothing n core) (sym path) record {
    recorders = λ other ne. pick_leaves core left.site n h frame victim (is.kept going).requests_ q asked queued other ne;
    hosts = λ g call. pick_waits core left.site n h frame victim (is.kept going).requests_ free g call;
  }

  copies : (task : Task) (t : Transfer) → task_of core n ≡ Some task → CopiesIt tells core n task t left → Quiet
  copies task t at (inl done) = subst (GivesOthersNothing n core) (sym done.1) record {
    recorders = λ other ne. copy_leaves core left.site n other ne (record task { transfer = Some (moved_on t) });
    hosts = λ g call. copy_waits core left.site n g call task (record task { transfer = Some (moved_on t) }) at refl refl;
  }
  copies task t at (inr failed) =
      let ended : task_of left n ≡ None = ap (λ (c : CoreData). task_of c n) failed.1 ∙ task_put core.tasks n None (task_fits core.tasks n task at) in
      absurd (false≢true (sym (ap (λ (o : Option Task). is_some o) ended) ∙ goes_on))

  ends : (task : Task) (t : Transfer) → EndsIt tells core n task t (Did what) left → Quiet
  ends task t (inl (firm, sync, tells_)) = by t.kind tells_
    where
      by : (k : TransferKind) → TellsEnd tells (record core { site = firm }) n task k t (Did what) left → Quiet
      by Destage told = not_own kind.End told.1 refl
      by StageBlank told = not_own kind.End told.1 refl
      by StageCartridge told = not_own kind.End told.1 refl
  ends task t (inr failed) = not_own kind.End (did what kind.End failed.1) refl

  pub quiet : (rule : WorkRule) → work_rule core n ≡ rule → WorkDoes tells may core n rule (Did what) left → Quiet
  quiet (IsStopped fault) met does = let e : Did what ≡ Stopped fault = does.0 in absurd cc
  quiet IsIdle met does = let e : Did what ≡ Idle = does.0 in absurd cc
  quiet (GivesBack cartridge) met does = not_own kind.GiveBack (did what kind.GiveBack does.1) refl
  quiet (Fetches cartridge) met does = subst (GivesOthersNothing n core) (sym does.2) record {
    recorders = λ other ne. fetch_leaves core left.site n other ne cartridge;
    hosts = λ g call. fetch_waits core left.site n g call cartridge;
  }
  quiet (Picks h frame) met does =
      let rule = rule_picks core n is.there is.kept h frame met in
      picks h frame None rule.request rule.going rule.may.asked rule.may.queued rule.may.idle does.2
  quiet (PicksVictim h) met does =
      let rule = rule_picks_victim core n is.there is.kept h met in
      let its = rule.may does.0 does.1 does.3 in
      picks h does.1.frame (Some (does.1.volume, does.1.page)) rule.request rule.going its.asked its.queued its.idle does.4.2
  quiet Abandons met does = let it = the_task (task_of core n) _ does in not_own kind.Abandon (did what kind.Abandon it.2.1) refl
  quiet (Copies t) met does = let it = the_task (task_of core n) _ does in copies it.0 t it.1 it.2.1
  quiet (Ends t) met does = let it = the_task (task_of core n) _ does in ends it.0 t it.2
  quiet (Frees volume page) met does = let it = the_task (task_of core n) _ does in not_own kind.Free it.2.1 refl
  quiet (Assigns volume page) met does = let it = the_task (task_of core n) _ does in not_own kind.Assign it.2.1 refl

-- whatever it was answered
pub work_quiet : (tells : Type 0) (may : List Candidate → ℕ → Type 0) (core : CoreData) (n : ℕ) → IsRecorder core n → (left : CoreData) (told : WorkAnswer) → GoesOnAlone left n told → WorkEvent tells may core n told left → GivesOthersNothing n core left
work_quiet tells may core n is left (Did what) on event = quiet tells may core n is left what on.0 on.1 (work_rule core n) refl event
work_quiet tells may core n is left _ on event = absurd on

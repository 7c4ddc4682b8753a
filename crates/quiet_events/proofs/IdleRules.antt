-- Where a recorder finds nothing to do, each of its rules says so.
use Rattle.std.proofs.Common.{◌≡◌, ◌⊎◌, inl, inr, ℕ, nat_lt, Bool, true, false, not, ◌&&◌, [], ◌∷◌, length, Option, Some, None, refl, sym, ◌∙◌, ap, subst}
use Rattle.std.specs.Prelude.{is_some}
use Rattle.std.specs.Option.{ForSome, option_map, option_and_then, unwrap_or}
use Rattle.std.proofs.lemmas.Bool.{false≢true}
use Rattle.mss_base.specs.Firsts.{◌or◌, where_so}
use Rattle.mss_base.proofs.FirstFacts.{or_none, both_none}
use Rattle.fault_queue.specs.declared.queue.Request.{Request}
use Rattle.fault_queue.specs.declared.queue.RequestState.{RequestState}
use Rattle.fault_queue.specs.declared.queue.RequestState.TheVariants as request
use Rattle.fault_queue.specs.Requests.{RequestsData}
use Rattle.volume_table.specs.Listed.{row_in_list}
use Rattle.shown_volumes.specs.Sound.{frame_in}
use Rattle.transfers.specs.declared.transfer.Transfer.{Transfer}
use Rattle.core_state.specs.declared.task.Task.{Task}
use Rattle.core_state.specs.declared.rule.WorkRule.{WorkRule}
use Rattle.core_state.specs.declared.rule.WorkRule.TheVariants.{IsStopped, IsIdle, GivesBack, Picks, PicksVictim, Abandons}
use Rattle.core_state.specs.CoreValue.{CoreData}
use Rattle.core_state.specs.Pins.{is_moving, free_frame, candidates, page_of}
use Rattle.core_state.specs.WorkRules.{task_of, held_in, transfer_of, stopped_rule, return_rule, pick_on, pick_for, first_pick, pick_rule, is_within, abandon_rule, carry_rule, copy_rule, end_rule, free_rule, assign_rule, task_rule, work_rule}
use Rattle.core_state.proofs.RuleWalks.{nothing, either, where_test, if_test, mapped, chained}

-- ---- rules that aren't the one for nothing

abbrev pub acts : WorkRule → Bool
acts IsIdle = false
acts _ = true

abbrev Act : WorkRule → Type 0
Act x = acts x ≡ true

-- where one is there, it acts
abbrev pub Acts : Option WorkRule → Type 0
Acts o = ForSome o (λ x. acts x ≡ true)

-- with this list of rules there is nothing to do
abbrev pub Rests : Option WorkRule → Type 0
Rests o = unwrap_or o IsIdle ≡ IsIdle

-- one that acts isn't there then, and those behind it rest
pub skipped : (a b : Option WorkRule) → Acts a → Rests (a or b) → (a ≡ None) × Rests b
skipped None b acting rests = (refl, rests)
skipped (Some x) b acting rests = absurd (false≢true (sym (ap acts rests) ∙ acting x refl))

pub skip : (a b : Option WorkRule) → a ≡ None → Rests b → Rests (a or b)
skip a b none rests = ap (λ (o : Option WorkRule). unwrap_or (o or b) IsIdle) none ∙ rests

pub rests_none : (a : Option WorkRule) → a ≡ None → Rests a
rests_none a none = ap (λ (o : Option WorkRule). unwrap_or o IsIdle) none

-- ---- which rules act

pub pick_on_acts : (core : CoreData) (h : ℕ) (frame : Option ℕ) → Acts (pick_on core h frame)
pick_on_acts core h (Some frame) = where_test Act (not (is_moving core frame)) (Picks h frame) (λ _. refl)
pick_on_acts core h None =
    either Act (option_map (Picks h) (free_frame core)) _ (mapped Act (Picks h) (free_frame core) (λ frame. refl))
    (where_test Act (nat_lt 0 (length (candidates core))) (PicksVictim h) (λ _. refl))

pick_for_acts : (core : CoreData) (h : ℕ) (r : Request) (state : RequestState) → Acts (pick_for core h r state)
pick_for_acts core h r request.Queued = pick_on_acts core h (frame_in (row_in_list core.rows) r.volume (page_of r.cylinder))
pick_for_acts core h r request.Moving = nothing Act None refl
pick_for_acts core h r request.Ready = nothing Act None refl
pick_for_acts core h r (request.Failed fault) = nothing Act None refl

first_pick_acts : (core : CoreData) (requests : RequestsData) → Acts (first_pick core requests)
first_pick_acts core [] = nothing Act None refl
first_pick_acts core (asked ∷ more) = either Act (pick_for core asked.0 asked.1 asked.1.state) (first_pick core more) (pick_for_acts core asked.0 asked.1 asked.1.state) (first_pick_acts core more)

pick_acts : (core : CoreData) (n : ℕ) → Acts (pick_rule core n)
pick_acts core n = if_test Act (is_some (task_of core n)) None (first_pick core core.requests) (nothing Act None refl) (first_pick_acts core core.requests)

return_acts : (core : CoreData) (n : ℕ) → Acts (return_rule core n)
return_acts core n =
    chained Act (λ cartridge. where_so (not (is_some (task_of core n))) (GivesBack cartridge)) (held_in core n)
    (λ cartridge. where_test Act (not (is_some (task_of core n))) (GivesBack cartridge) (λ _. refl))

abandon_acts : (task : Task) → Acts (abandon_rule task)
abandon_acts task = where_test Act (is_some task.victim && task.touched && not (is_within task.transfer)) Abandons (λ _. refl)

-- ---- a recorder at rest

-- the core goes on, the recorder has no cartridge to give back, none can be picked, and its task waits
pub record AtRest (core : CoreData) (n : ℕ) : Type 0 where
  pub going : core.stopped ≡ None
  pub returns : return_rule core n ≡ None
  pub picks : pick_rule core n ≡ None
  pub works : Rests (option_and_then (task_rule core n) (task_of core n))

goes : (o : Option ℕ) → option_map IsStopped o ≡ None → o ≡ None
goes None none = refl
goes (Some fault) none = absurd cc

pub at_rest : (core : CoreData) (n : ℕ) → work_rule core n ≡ IsIdle → AtRest core n
unfolding work_rule
at_rest core n is =
    let first = skipped (stopped_rule core) (return_rule core n or pick_rule core n or option_and_then (task_rule core n) (task_of core n)) (mapped Act IsStopped core.stopped (λ fault. refl)) is in
    let second = skipped (return_rule core n) (pick_rule core n or option_and_then (task_rule core n) (task_of core n)) (return_acts core n) first.1 in
    let third = skipped (pick_rule core n) (option_and_then (task_rule core n) (task_of core n)) (pick_acts core n) second.1 in
    record { going = goes core.stopped first.0; returns = second.0; picks = third.0; works = third.1 }

pub idle : (core : CoreData) (n : ℕ) → AtRest core n → work_rule core n ≡ IsIdle
unfolding work_rule
idle core n rest =
    skip (stopped_rule core) (return_rule core n or pick_rule core n or option_and_then (task_rule core n) (task_of core n)) (ap (option_map IsStopped) rest.going)
    (skip (return_rule core n) (pick_rule core n or option_and_then (task_rule core n) (task_of core n)) rest.returns
    (skip (pick_rule core n) (option_and_then (task_rule core n) (task_of core n)) rest.picks rest.works))

-- ---- what can't be picked

-- what one core can't pick, nor can another
pub record PicksNoMore (core left : CoreData) : Type 0 where
  pub rows : left.rows ≡ core.rows
  pub frames : (h : ℕ) (o : Option ℕ) → pick_on core h o ≡ None → pick_on left h o ≡ None

module _ (core left : CoreData) (less : PicksNoMore core left) where
  pub unpicked : (h : ℕ) (r : Request) (state : RequestState) → pick_for core h r state ≡ None → pick_for left h r state ≡ None
  unpicked h r request.Queued none =
      (λ i. pick_on left h (frame_in (row_in_list (less.rows i)) r.volume (page_of r.cylinder)))
      ∙ less.frames h (frame_in (row_in_list core.rows) r.volume (page_of r.cylinder)) none
  unpicked h r request.Moving none = refl
  unpicked h r request.Ready none = refl
  unpicked h r (request.Failed fault) none = refl

  -- of the same requests
  pub none_of : (requests : RequestsData) → first_pick core requests ≡ None → first_pick left requests ≡ None
  none_of [] none = refl
  none_of (asked ∷ more) none =
      let parts = or_none (pick_for core asked.0 asked.1 asked.1.state) (first_pick core more) none in
      both_none (pick_for left asked.0 asked.1 asked.1.state) (first_pick left more) (unpicked asked.0 asked.1 asked.1.state parts.0) (none_of more parts.1)

-- ---- a task that waits

-- a task's rules in one core are those in another, but that the cartridge may be in no cell where it was
pub record WaitsAlike (core left : CoreData) (n : ℕ) (task : Task) : Type 0 where
  pub transfer_ : transfer_of left task ≡ transfer_of core task
  pub carry : (t : Transfer) → (carry_rule left n t ≡ carry_rule core n t) ⊎ ((x : WorkRule) × (carry_rule core n t ≡ Some x) × (acts x ≡ true))
  pub assign : assign_rule left task ≡ assign_rule core task

module _ (core left : CoreData) (n : ℕ) (task : Task) (alike : WaitsAlike core left n task) where
  -- what is done towards a transfer
  abbrev towards : CoreData → Transfer → Option WorkRule
  towards c t = carry_rule c n t or copy_rule t or end_rule t

  abbrev behind : CoreData → Option WorkRule
  behind c = free_rule task or assign_rule c task

  behind_alike : behind left ≡ behind core
  behind_alike = ap (λ (o : Option WorkRule). free_rule task or o) alike.assign

  on : (o : Option Transfer) → Rests (option_and_then (towards core) o or behind core) → Rests (option_and_then (towards left) o or behind left)
  on None rests = subst Rests (sym behind_alike) rests
  on (Some t) rests = elim (alike.carry t) [
    | inl same ↦ (λ i. unwrap_or ((same i or copy_rule t or end_rule t) or behind_alike i) IsIdle) ∙ rests
    | inr fetched ↦ absurd (acted (carry_rule core n t) (copy_rule t or end_rule t) (behind core) fetched.0 fetched.1 fetched.2 rests)
  ]
    where
      acted : (a b c : Option WorkRule) (x : WorkRule) → a ≡ Some x → acts x ≡ true → Rests ((a or b) or c) → ⊥
      acted a b c x is acting rests = false≢true (sym (ap acts (sym (ap (λ (o : Option WorkRule). unwrap_or ((o or b) or c) IsIdle) is) ∙ rests)) ∙ acting)

  pub task_rests : Rests (task_rule core n task) → Rests (task_rule left n task)
  task_rests rests =
      let rest = skipped (abandon_rule task) (option_and_then (towards core) (transfer_of core task) or behind core) (abandon_acts task) rests in
      skip (abandon_rule task) (option_and_then (towards left) (transfer_of left task) or behind left) rest.0
      (subst (λ (o : Option Transfer). Rests (option_and_then (towards left) o or behind left)) (sym alike.transfer_) (on (transfer_of core task) rest.1))

pub works_alike : (core left : CoreData) (n : ℕ) (o : Option Task) → ((task : Task) → o ≡ Some task → WaitsAlike core left n task)
    → Rests (option_and_then (task_rule core n) o) → Rests (option_and_then (task_rule left n) o)
works_alike core left n None alike rests = refl
works_alike core left n (Some task) alike rests = task_rests core left n task (alike task refl) rests

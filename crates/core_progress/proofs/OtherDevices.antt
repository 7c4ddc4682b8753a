-- A core with its devices in another state: rules, and what is left to do, are the same. Layers above cite these lemmas.
use Rattle.std.proofs.Common.{◌≡◌, ℕ, refl}
use Rattle.channel_commands.specs.Data.{CallData}
use Rattle.core_state.specs.Chains.{IsSettled}
use Rattle.core_state.specs.CoreValue.{CoreData, DevicesSeen}
use Rattle.core_state.specs.HostRules.{host_rule}
use Rattle.core_state.specs.WorkRules.{work_rule}
use Rattle.core_progress.specs.Progress.{is_kept_waiting}
use Rattle.core_progress.specs.WorkLeft.{run_left, settle_left}

module _ (core : CoreData) (site : DevicesSeen) where
  pub same_host_rule : (h : ℕ) (call : CallData) → host_rule (record core { site = site }) h call ≡ host_rule core h call
  unfolding host_rule
  same_host_rule h call = refl

  pub same_work_rule : (recorder : ℕ) → work_rule (record core { site = site }) recorder ≡ work_rule core recorder
  unfolding work_rule
  same_work_rule recorder = refl

  pub same_kept_waiting : (h : ℕ) (call : CallData) → is_kept_waiting (record core { site = site }) h call ≡ is_kept_waiting core h call
  unfolding host_rule
  same_kept_waiting h call = refl

  pub same_settled : IsSettled core → IsSettled (record core { site = site })
  same_settled settled = record { no_tasks = settled.no_tasks; no_cartridges = settled.no_cartridges; requests_ = settled.requests_ }

  pub same_settle_left : settle_left (record core { site = site }) ≡ settle_left core
  same_settle_left = refl

  pub same_run_left : run_left (record core { site = site }) ≡ run_left core
  same_run_left = refl

-- Rules don't look at the devices. Layers above cite these lemmas.
use Rattle.std.proofs.Common.{ℕ, sym, subst}
use Rattle.channel_commands.specs.Data.{CallData}
use Rattle.core_state.specs.CoreValue.{CoreData, DevicesSeen}
use Rattle.core_state.specs.HostEvents.{IsSame}
use Rattle.core_state.specs.HostRules.{host_rule}
use Rattle.core_state.specs.WorkRules.{work_rule}
use Rattle.quiet_events.specs.Quiet.{HasNoWork, WaitsInVain}

module _ (core : CoreData) (site : DevicesSeen) where
  pub work_there : (n : ℕ) → HasNoWork core n → HasNoWork (record core { site = site }) n
  unfolding work_rule
  work_there n is = is

  pub wait_there : (h : ℕ) (call : CallData) → WaitsInVain core h call → WaitsInVain (record core { site = site }) h call
  unfolding host_rule
  wait_there h call is = is

-- nor does what changed nothing
module _ (tells : Type 0) (core left : CoreData) (same : IsSame tells core left) where
  pub same_work : (n : ℕ) → HasNoWork core n → HasNoWork left n
  same_work n is = subst (λ (c : CoreData). HasNoWork c n) (sym same.1) (work_there core left.site n is)

  pub same_wait : (h : ℕ) (call : CallData) → WaitsInVain core h call → WaitsInVain left h call
  same_wait h call is = subst (λ (c : CoreData). WaitsInVain c h call) (sym same.1) (wait_there core left.site h call is)

-- The last entry of a session, and what a stopped core answers. Layers above cite these lemmas.
use Rattle.std.proofs.Common.{◌≡◌, ℕ, ◌≤◌, ◌<◌, length, Some, None, ap}
use Rattle.std.specs.Option.{option_map}
use Rattle.std.proofs.lemmas.Bool.{le-leb, lt-leb}
use Rattle.mss_base.specs.Firsts.{where_so}
use Rattle.channel_commands.specs.Data.{CallData}
use Rattle.core_state.specs.declared.rule.HostRule.TheVariants as host
use Rattle.core_state.specs.declared.rule.WorkRule.TheVariants as work
use Rattle.core_state.specs.CoreValue.{CoreValue}
use Rattle.core_state.specs.HostRules.{host_rule, full_rule, stopped_rule}
use Rattle.core_state.specs.WorkRules.{work_rule, stopped_rule as recorder_stopped}
use Rattle.core_state.proofs.RuleWalks.{found_first}

module _ {S C : Type 0} (core : CoreValue S C) where
  -- an entry has room below 4,096 of them, and none from there on
  pub full_at_limit : 4096 ≤ length core.history → full_rule core ≡ Some host.IsFull
  full_at_limit full = ap (λ b. where_so b host.IsFull) (le-leb 4096 (length core.history) full)

  pub room_below : length core.history < 4096 → full_rule core ≡ None
  room_below few = ap (λ b. where_so b host.IsFull) (lt-leb 4096 (length core.history) few)

  -- the first rule of all: a stopped core answers the fault that stopped it
  pub host_stopped : (fault h : ℕ) (call : CallData) → core.stopped ≡ Some fault → host_rule core h call ≡ host.IsStopped fault
  unfolding host_rule
  host_stopped fault h call is = found_first (stopped_rule core) _ host.Responds (host.IsStopped fault) (ap (option_map host.IsStopped) is)

  pub work_stopped : (fault recorder : ℕ) → core.stopped ≡ Some fault → work_rule core recorder ≡ work.IsStopped fault
  unfolding work_rule
  work_stopped fault recorder is = found_first (recorder_stopped core) _ work.IsIdle (work.IsStopped fault) (ap (option_map work.IsStopped) is)

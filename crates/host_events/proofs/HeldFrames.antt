-- A host that waits for a frame has no request, so nothing changes.
use Rattle.std.proofs.Common.{◌≡◌, ℕ, Bool, true, false, ◌&&◌, Option, Some, None, refl, sym, ◌∙◌, ap}
use Rattle.std.specs.Prelude.{not, is_some}
use Rattle.std.proofs.lemmas.Bool.{and_parts, false≢true}
use Rattle.mss_base.specs.Firsts.{where_so}
use Rattle.channel_commands.specs.Data.{CallData, mount}
use Rattle.ckd_plain.specs.declared.host.HostState.{HostState}
use Rattle.volume_table.specs.Listed.{row_in_list}
use Rattle.fault_queue.specs.declared.queue.Request.{Request}
use Rattle.fault_queue.specs.Requests.{request_of}
use Rattle.core_state.specs.CoreValue.{CoreValue}
use Rattle.core_state.specs.HostRules.{would_bind}
use Rattle.core_state.specs.IsCore.{IsCore}
use Rattle.core_state.specs.Pins.{host_at, is_on}
use Rattle.core_state.proofs.RuleWalks.{none_some}
use Rattle.host_events.proofs.RuleFacts.{OnHeld}

bare_host : (m : Option (ℕ × Bool)) → is_some m ≡ false → (volume : ℕ) → is_on volume m ≡ true → ⊥
bare_host None bare volume on = false≢true on
bare_host (Some m) bare volume on = false≢true (sym bare)

tested : (test : Bool) (x y : ℕ) → where_so test x ≡ Some y → test ≡ true
tested true x y is = refl
tested false x y is = absurd (none_some y is)

not_true : (b : Bool) → not b ≡ true → b ≡ false
not_true true is = absurd (false≢true is)
not_true false is = refl

module _ {S C : Type 0} (v : CoreValue S C) (core : IsCore v) (h : ℕ) (call : CallData) (frame : ℕ) (on : OnHeld v h call frame) where
  abbrev host : HostState
  host = host_at v.hosts h

  bare : is_some (host_at v.hosts h).mounted ≡ false
  bare =
      let is : would_bind v host (mount on.volume true) ≡ Some on.volume = ap (would_bind v host) (sym on.is) ∙ on.binds in
      let test = tested (not host.chain_open && not (is_some host.mounted) && is_some (row_in_list v.rows on.volume)) on.volume on.volume is in
      not_true (is_some host.mounted) (and_parts (not host.chain_open) (not (is_some host.mounted)) (and_parts (not host.chain_open && not (is_some host.mounted)) (is_some (row_in_list v.rows on.volume)) test).0).1

  pub held_bare : request_of v.requests h ≡ None
  held_bare = by (request_of v.requests h) refl
    where
      by : (o : Option Request) → request_of v.requests h ≡ o → o ≡ None
      by None at = refl
      by (Some q) at = absurd (bare_host host.mounted bare q.volume (core.on_mounted h q at).0)

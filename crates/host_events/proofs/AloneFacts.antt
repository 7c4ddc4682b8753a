-- Requests of which there is none, and a host that is alone on its volume.
use Rattle.std.proofs.Common.{◌≡◌, ℕ, Bool, true, false, ◌&&◌, ◌==◌, [], ◌∷◌, Option, Some, None, refl, sym, ◌∙◌, ap}
use Rattle.std.specs.Prelude.{not, slice_get}
use Rattle.std.specs.Option.{option_map, option_and_then}
use Rattle.std.proofs.lemmas.Bool.{and_parts, eq-eqb}
use Rattle.mss_base.specs.Firsts.{where_so}
use Rattle.channel_commands.specs.Data.{CallData, is_command}
use Rattle.fault_queue.specs.Requests.{RequestsData}
use Rattle.core_state.specs.declared.rule.HostRule.TheVariants.{IsBusy}
use Rattle.core_state.specs.CoreValue.{CoreValue}
use Rattle.core_state.specs.HostRules.{busy_rule}
use Rattle.core_state.specs.Pins.{host_at, is_on, owns, owner_of}
use Rattle.core_state.proofs.RuleWalks.{none_some}
use Rattle.host_events.specs.Asking.{IsAlone}
use Rattle.host_events.proofs.RuleParts.{passes_found}

-- where no request is the first, there is none
pub none_first : (requests : RequestsData) → slice_get requests 0 ≡ None → requests ≡ []
none_first [] is = refl
none_first (asked ∷ requests) is = absurd (none_some asked (sym is))

-- ---- no other host keeps it off

both_false : (b c : Bool) → c ≡ false → (b && c) ≡ false
both_false true c is = is
both_false false c is = refl

module _ {S C : Type 0} (v : CoreValue S C) (h : ℕ) (call : CallData) where
  pub alone_not_busy : (volume : ℕ) (bind : Bool) → (host_at v.hosts h).mounted ≡ Some (volume, bind) → IsAlone v.hosts h volume → busy_rule v h call ≡ None
  alone_not_busy volume bind mounted alone =
      ap (λ (m : Option (ℕ × Bool)). option_and_then (λ owner. where_so (is_command call && not (owner == h)) (IsBusy owner)) (option_and_then (owner_of v) (option_map (λ n. n.0) m))) mounted
      ∙ by (owner_of v volume) refl
    where
      by : (o : Option ℕ) → owner_of v volume ≡ o → option_and_then (λ owner. where_so (is_command call && not (owner == h)) (IsBusy owner)) o ≡ None
      by None at = refl
      by (Some owner) at =
          let theirs : owns v.hosts v.requests owner volume ≡ true = passes_found (λ k. owns v.hosts v.requests k volume) 9 owner at in
          let parts = and_parts (is_on volume (host_at v.hosts owner).mounted) _ theirs in
          let own : (owner == h) ≡ true = eq-eqb owner h (alone owner parts.0) in
          ap (λ (b : Bool). where_so b (IsBusy owner)) (both_false (is_command call) (not (owner == h)) (ap not own))

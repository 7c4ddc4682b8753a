-- A host that has a volume mounted is one of eight, and a cylinder that isn't blank is one of a volume's.
use Rattle.std.proofs.Common.{◌≡◌, inl, inr, ℕ, zero, suc, ◌≤◌, ◌<◌, Bool, List, length, Some, sym, ◌∙◌, ap, arith}
use Rattle.std.proofs.lemmas.Bool.{cases_lt}
use Rattle.std.proofs.lemmas.List.{get_or_past}
use Rattle.ckd_plain.specs.declared.host.HostState.{HostState}
use Rattle.ckd_plain.specs.Plain.{fresh_host}
use Rattle.volume_table.specs.Row.{RowValue, IsRow, state_of}
use Rattle.core_state.specs.Pins.{host_at}
use Rattle.core_state.proofs.HostFacts.{IsHost}
use Rattle.core_state.proofs.RuleWalks.{none_some}
use Rattle.std.specs.Prelude.{◌∷◌}

pub mounted_host : (hosts : List HostState) (h : ℕ) (m : ℕ × Bool) → length hosts ≡ 8 → (host_at hosts h).mounted ≡ Some m → IsHost h
mounted_host hosts zero m long is = absurd (none_some m is)
mounted_host hosts (suc n) m long is = elim (cases_lt (suc n) 9) [
  | inl lt ↦ (omega arith, lt)
  | inr past ↦ absurd (none_some m (sym (ap (λ (x : HostState). x.mounted) (get_or_past (fresh_host ∷ hosts) (suc n) fresh_host (omega (arith, long, past)))) ∙ is))
]

pub staged_low : (r : RowValue) (y : ℕ) → IsRow r → 2 ≤ state_of r y → y < 404
staged_low r y row staged = elim (cases_lt y 404) [
  | inl lt ↦ lt
  | inr past ↦ absurd (let long = row.states in let e = get_or_past r.states y 0 (omega (arith, long, past)) in omega (arith, staged, e))
]

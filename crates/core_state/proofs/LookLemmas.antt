-- Hosts by their number, and the first of some numbers.
use Rattle.std.proofs.Common.{◌≡◌, ℕ, suc, ◌+◌, ◌<◌, List, refl, ◌∙◌, ap, arith, length, Some, None, Bool, true, false}
use Rattle.std.specs.Prelude.{slice_index_or}
use Rattle.std.proofs.lemmas.List.{get_or_default}
use Rattle.ckd_plain.specs.declared.host.HostState.{HostState}
use Rattle.ckd_plain.specs.Plain.{fresh_host}
use Rattle.fault_queue.specs.Requests.{RequestsData}
use Rattle.mss_base.specs.Firsts.{first_below, where_so}
use Rattle.mss_base.proofs.FirstFacts.{none_next, found_first}
use Rattle.core_state.specs.Pins.{host_at, owns}

pub host_there : (hosts : List HostState) (h i : ℕ) (d : HostState) → i + 1 ≡ h → i < length hosts → slice_index_or hosts i d ≡ host_at hosts h
host_there hosts h i d e lt = let s : suc i ≡ h = omega arith in get_or_default hosts i d fresh_host lt ∙ ap (λ (k : ℕ). host_at hosts k) s

-- host 0, which isn't there, owns nothing
pub no_owner_yet : (hosts : List HostState) (requests : RequestsData) (volume : ℕ) → first_below 1 (λ h. where_so (owns hosts requests h volume) h) ≡ None
unfolding first_below
no_owner_yet hosts requests volume = refl

module _ (test : ℕ → Bool) where
  -- no number so far passes, and this one doesn't
  pub none_passes : (n : ℕ) → first_below n (λ k. where_so (test k) k) ≡ None → test n ≡ false → first_below (n + 1) (λ k. where_so (test k) k) ≡ None
  none_passes n so_far fails = none_next n (λ k. where_so (test k) k) so_far (ap (λ b. where_so b n) fails)

  -- this one passes, and none before it
  pub first_passes : (n i : ℕ) → i < n → first_below i (λ k. where_so (test k) k) ≡ None → test i ≡ true → first_below n (λ k. where_so (test k) k) ≡ Some i
  first_passes n i lt so_far passes = found_first n (λ k. where_so (test k) k) i i lt so_far (ap (λ b. where_so b i) passes)

-- A host keeps its volume on its way past the index and to the home address.
use Rattle.std.proofs.Common.{◌≡◌, ℕ, Bool, true, false, ◌==◌, Option, Result, Ok, Err, refl, ap, ◌∙◌}
use Rattle.std.specs.Prelude.{◌+◌, bit_and, MatchResult}
use Rattle.std.proofs.lemmas.Bool.{cond_both}
use Rattle.ckd_plain.specs.declared.host.HostState.{HostState}
use Rattle.ckd_plain.specs.declared.unit_check.Refusal.{Refusal}
use Rattle.ckd_plain.specs.declared.host.Position.{Position}
use Rattle.ckd_plain.specs.declared.host.Position.TheVariants as position
use Rattle.mss_base.specs.declared.numbers.TheConstants.{HEADS}
use Rattle.ckd_plain.specs.Index.{pass_index, home_from, to_home}

-- the volume of the host that is left
abbrev pub volume_left : Result HostState Refusal → Option (ℕ × Bool)
volume_left (Ok host) = host.mounted
volume_left (Err refusal) = refusal.host.mounted

volume_left-pass_index : (host : HostState) (multi : Bool) → volume_left (pass_index host multi) ≡ host.mounted
unfolding pass_index
volume_left-pass_index host true =
    cond_both (bit_and host.mask 0x18 == 0x18) _ _ (λ (r : Result HostState Refusal). volume_left r ≡ host.mounted) (λ _. refl)
    (λ _. cond_both (host.head + 1 == HEADS) _ _ (λ (r : Result HostState Refusal). volume_left r ≡ host.mounted) (λ _. refl) (λ _. refl))
volume_left-pass_index host false = cond_both (host.passes == 0) _ _ (λ (r : Result HostState Refusal). volume_left r ≡ host.mounted) (λ _. refl) (λ _. refl)

-- where the index was passed, and where that ended the command
pub passed_volume : (host passed : HostState) (multi : Bool) → Ok passed ≡ pass_index host multi → passed.mounted ≡ host.mounted
passed_volume host passed multi is = ap volume_left is ∙ volume_left-pass_index host multi

pub refused_volume : (host : HostState) (refusal : Refusal) (multi : Bool) → Err refusal ≡ pass_index host multi → refusal.host.mounted ≡ host.mounted
refused_volume host refusal multi is = ap volume_left is ∙ volume_left-pass_index host multi

volume_left-home_from : (p : Position) (host : HostState) (multi : Bool) → volume_left (home_from p host multi) ≡ host.mounted
volume_left-home_from position.Start host multi = refl
volume_left-home_from _ host true = volume_left-pass_index host true
volume_left-home_from _ host false = refl

volume_match : (r : Result HostState Refusal) (volume : Option (ℕ × Bool)) → volume_left r ≡ volume
    → MatchResult r (λ (host : HostState). host.mounted ≡ volume) (λ (refusal : Refusal). refusal.host.mounted ≡ volume)
volume_match (Ok host) volume is = is
volume_match (Err refusal) volume is = is

pub home_volume : (host : HostState) (multi : Bool) (r : Result HostState Refusal) → r ≡ to_home host multi
    → MatchResult r (λ (there : HostState). there.mounted ≡ host.mounted) (λ (refusal : Refusal). refusal.host.mounted ≡ host.mounted)
unfolding to_home
home_volume host multi r is = volume_match r host.mounted (ap volume_left is ∙ volume_left-home_from host.position host multi)

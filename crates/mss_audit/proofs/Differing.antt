-- The first byte in which two bodies differ.
use Rattle.std.proofs.Common.{◌≡◌, ℕ, ◌+◌, ◌<◌, ◌==◌, List, Some, None, refl, sym, ◌∙◌, ap}
use Rattle.std.proofs.lemmas.Bool.{ne_eqb, eq-eqb}
use Rattle.std.specs.Prelude.{not, slice_index}
use Rattle.mss_base.specs.Firsts.{first_below, where_so}
use Rattle.mss_base.proofs.FirstFacts.{none_next, found_here}
use Rattle.volume_table.specs.declared.layout.TheConstants.{BODY_BYTES}
use Rattle.mss_audit.specs.declared.finding.Finding.TheVariants.{CopyDiffers}
use Rattle.mss_audit.specs.Findings.{difference}

module _ (volume n at : ℕ) (a b : List ℕ) (same : at ≡ n) (so_far : first_below n (difference volume a b) ≡ None) where
  here : difference volume a b n ≡ where_so (not (slice_index a at == slice_index b at)) (CopyDiffers volume (n + 1) (slice_index a at) (slice_index b at))
  here = λ i. where_so (not (slice_index a (sym same i) == slice_index b (sym same i))) (CopyDiffers volume (n + 1) (slice_index a (sym same i)) (slice_index b (sym same i)))

  pub differs_here : n < 510 → (slice_index a at ≡ slice_index b at → ⊥) → Some (CopyDiffers volume (n + 1) (slice_index a at) (slice_index b at)) ≡ first_below BODY_BYTES (difference volume a b)
  differs_here low differ =
      found_here 510 (difference volume a b) n _ low so_far
      (here ∙ ap (λ e. where_so (not e) (CopyDiffers volume (n + 1) (slice_index a at) (slice_index b at))) (ne_eqb (slice_index a at) (slice_index b at) differ)) refl

  pub same_here : slice_index a at ≡ slice_index b at → first_below (n + 1) (difference volume a b) ≡ None
  same_here equal =
      none_next n (difference volume a b) so_far
      (here ∙ ap (λ e. where_so (not e) (CopyDiffers volume (n + 1) (slice_index a at) (slice_index b at))) (eq-eqb (slice_index a at) (slice_index b at) equal))

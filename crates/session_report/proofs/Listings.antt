-- The volumes that are there, by number.
use Rattle.std.proofs.Common.{◌≡◌, ℕ, suc, ◌+◌, Bool, List, [], ◌++◌, Option, refl, ap, ◌∙◌, arith}
use Rattle.session_report.specs.Reports.{Heading, heading_of, volumes_below}

module _ (serials : ℕ → Option (List ℕ)) (marks : ℕ → Bool) where
  pub none_below : volumes_below 0 serials marks ≡ []
  unfolding volumes_below
  none_below = refl

  -- the volumes below a number, and then that of the number
  abbrev with_next : ℕ → List Heading
  with_next n = volumes_below n serials marks ++ heading_of n (serials n) (marks n)

  next_volume : (n : ℕ) → volumes_below (suc n) serials marks ≡ with_next n
  unfolding volumes_below
  next_volume n = refl

  pub next_below : (n : ℕ) → volumes_below (n + 1) serials marks ≡ with_next n
  next_below n =
      let more : n + 1 ≡ suc n = omega arith in
      ap (λ m. volumes_below m serials marks) more ∙ next_volume n

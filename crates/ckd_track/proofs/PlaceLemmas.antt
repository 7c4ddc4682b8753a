-- Where a record of a block's track begins.
use Rattle.std.proofs.Common.{◌≡◌, ℕ, ◌+◌, ◌-◌, ◌≤◌, List, length, Some, sym, ◌∙◌, ap, subst, arith}
use Rattle.std.proofs.lemmas.Option.{slice_get-get_or}
use Rattle.ckd_track.specs.Data.{blank_record}
use Rattle.ckd_track.specs.Track.{record_length, record_at, reading, place_after, BeginsAt}
use Rattle.ckd_track.proofs.FrontLemmas.{record_room}
use Rattle.ckd_track.proofs.UpdateLemmas.{record_placed}

pub begins_at : (k place : ℕ) (b : List ℕ) → 1 ≤ k → k ≤ length (reading b).records → place ≡ place_after (k - 1) 256 b → BeginsAt k place b
begins_at k place b first there is = record {
  item = slice_get-get_or (reading b).records (k - 1) blank_record (omega arith)
      ∙ ap Some (record_placed (k - 1) b (omega arith) ∙ ap (λ (p : ℕ). record_at p b) (sym is));
  inside = subst (λ (p : ℕ). p + record_length p b ≤ length b) (sym is) (record_room (k - 1) b (omega arith));
  behind = is;
}

-- How many records a track has, and that a count can tell each.
use Rattle.std.proofs.Common.{◌≡◌, ℕ, suc, zero, ◌+◌, ◌-◌, ◌*◌, ◌<◌, ◌≤◌, Bool, true, false, cond, List, [], ◌∷◌, length, refl, sym, ap, ◌∙◌, subst, arith}
use Rattle.std.specs.Prelude.{◌==◌, slice_get, slice_index_or, Some}
use Rattle.std.specs.List.{AllByRecursion}
use Rattle.std.proofs.lemmas.List.Sums.{sum_by-cons}
use Rattle.std.proofs.lemmas.Option.{slice_get_read}
use Rattle.ckd_track.specs.Data.{RecordData, cost_of, cost, IsTrack, HasCount}
use Rattle.ckd_plain.specs.declared.host.HostState.{HostState}
use Rattle.ckd_plain.specs.Index.{record_at}

cost_least : (r : RecordData) → 135 ≤ cost_of r
cost_least r = elim (length r.key == 0) as (λ (b : Bool). 135 ≤ cond b (135 + length r.body) (191 + length r.key + length r.body)) [ true ↦ omega arith | false ↦ omega arith ]

pub cost_length : (rs : List RecordData) → 135 * length rs ≤ cost rs
cost_length [] = omega arith
cost_length (r ∷ rs) = omega (arith, cost_least r, cost_length rs, sum_by-cons cost_of r rs)

-- a track has at most 97 records
pub track_length : (rs : List RecordData) → IsTrack rs → length rs ≤ 97
track_length rs t = omega (arith, cost_length rs, t.cost_)

each_found : (rs : List RecordData) (i : ℕ) (r : RecordData) → AllByRecursion HasCount rs → slice_get rs i ≡ Some r → HasCount r
each_found [] i r all e = absurd cc
each_found (x ∷ rs) zero r all e = let same : x ≡ r = cc in subst HasCount same all.0
each_found (x ∷ rs) (suc i) r all e = each_found rs i r all.1 e

-- a record that a track has can be told by a count
pub found_counted : (rs : List RecordData) (i : ℕ) (r : RecordData) → IsTrack rs → slice_get rs i ≡ Some r → HasCount r
found_counted rs i r t e = each_found rs i r t.each e

-- record k stands at place k - 1 of the track's list
pub record_stored : (track listed : List RecordData) (host : HostState) (number : ℕ) (r : RecordData) → listed ≡ track → (number ≡ 0 → ⊥) → number - 1 < length listed
    → r ≡ slice_index_or listed (number - 1) r → record_at track host number ≡ Some r
record_stored track listed host number r same later inside read =
    let e : number ≡ suc (number - 1) = omega arith in
    ap (λ (k : ℕ). record_at track host k) e ∙ ap (λ (rs : List RecordData). slice_get rs (number - 1)) (sym same) ∙ slice_get_read listed (length listed) (number - 1) r refl inside read

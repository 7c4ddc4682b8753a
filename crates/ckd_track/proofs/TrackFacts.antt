-- For the layers above: what the records of every block are, and what every track is.
use Rattle.std.proofs.Common.{◌≡◌, ℕ, zero, suc, ◌+◌, ◌*◌, ◌≤◌, Bool, true, false, nat_lt, List, [], ◌∷◌, ◌++◌, length, take, drop, get_or, refl, sym, ◌∙◌, ap, subst, arith, length-drop}
use Rattle.std.specs.Prelude.{slice_get, Some}
use Rattle.std.specs.List.{AllByRecursion}
use Rattle.std.proofs.lemmas.List.{append-nil, length-take-le, get_or-replicate}
use Rattle.std.proofs.lemmas.List.Sums.{sum_by-cons, sum_by-take-le, sum_by_push}
use Rattle.std.proofs.lemmas.Bool.{ltb-false}
use Rattle.std.proofs.lemmas.Bool.Decides.{nat_tests}
use Rattle.mss_base.specs.Zeros.{zeros}
use Rattle.mss_base.proofs.AllFacts.{all_take, all_push}
use Rattle.ckd_track.specs.Data.{RecordData, cost, cost_of, cost_of_lengths, HasCount, IsTrack}
use Rattle.ckd_track.specs.Track.{Reading, reading_of, key_length, data_length, record_length, record_at, cost_at, is_open, reading_by_gate, reading_from, reading, AreBytes}
use Rattle.ckd_track.specs.Formatting.{IsRecord, formatted_records}
use Rattle.ckd_track.proofs.ReadLemmas.{closed_byte_ends}

-- a record costs more than its bytes, and at least 135
pub cost_of_lengths-ge : (key_bytes data_bytes : ℕ) → 135 + key_bytes + data_bytes ≤ cost_of_lengths key_bytes data_bytes
cost_of_lengths-ge key_bytes data_bytes = grind (arith, nat_tests)

pub cost-ge_length : (rs : List RecordData) → 135 * length rs ≤ cost rs
cost-ge_length [] = omega arith
cost-ge_length (r ∷ rs) = omega (arith, cost_of_lengths-ge (length r.key) (length r.body), cost-ge_length rs, sum_by-cons cost_of r rs)

pub cost-push : (rs : List RecordData) (r : RecordData) → cost (rs ++ r ∷ []) ≡ cost rs + cost_of r
cost-push rs r = sum_by_push cost_of rs r

-- the first records of a list cost no more than all
pub cost-take-le : (n : ℕ) (rs : List RecordData) → cost (take n rs) ≤ cost rs
cost-take-le n rs = sum_by-take-le cost_of rs n

-- a track has at most 97 records
pub track_length : (rs : List RecordData) → IsTrack rs → length rs ≤ 97
track_length rs t = omega (arith, cost-ge_length rs, t.cost_)

each_found : (rs : List RecordData) (i : ℕ) (r : RecordData) → AllByRecursion HasCount rs → slice_get rs i ≡ Some r → HasCount r
each_found [] i r all e = absurd cc
each_found (x ∷ rs) zero r all e = let same : x ≡ r = cc in subst HasCount same all.0
each_found (x ∷ rs) (suc i) r all e = each_found rs i r all.1 e

-- a count can tell the lengths of each record of a track
pub found_counted : (rs : List RecordData) (i : ℕ) (r : RecordData) → IsTrack rs → slice_get rs i ≡ Some r → HasCount r
found_counted rs i r t e = each_found rs i r t.each e

-- the front of a track is a track
pub track_take : (n : ℕ) (rs : List RecordData) → IsTrack rs → IsTrack (take n rs)
track_take n rs t = record { cost_ = omega (arith, cost-take-le n rs, t.cost_); each = all_take HasCount n rs t.each }

-- a track with one more record, where it fits
pub track_push : (rs : List RecordData) (r : RecordData) → IsTrack rs → HasCount r → cost rs + cost_of r ≤ 13165 → IsTrack (rs ++ r ∷ [])
track_push rs r t here fits = record { cost_ = omega (arith, cost-push rs r, fits); each = all_push HasCount rs r t.each here }

-- a record that stands inside its block has the lengths of its count
module _ (place : ℕ) (b : List ℕ) (inside : place + record_length place b ≤ length b) where
  pub length-id : length (record_at place b).id ≡ 5
  length-id = length-take-le 5 (drop place b) (omega (arith, inside, length-drop place b))

  pub length-key : length (record_at place b).key ≡ key_length place b
  length-key = length-take-le (key_length place b) (drop (place + 8) b) (omega (arith, inside, length-drop (place + 8) b))

  pub length-body : length (record_at place b).body ≡ data_length place b
  length-body = length-take-le (data_length place b) (drop (place + 8 + key_length place b) b) (omega (arith, inside, length-drop (place + 8 + key_length place b) b))

  pub cost_of-record_at : cost_of (record_at place b) ≡ cost_at place b
  cost_of-record_at = (λ i. cost_of_lengths (length-key i) (length-body i))

  pub record_counted : AreBytes b → HasCount (record_at place b)
  record_counted bytes = record {
    id = length-id;
    key = omega (arith, length-key, bytes (place + 5));
    body = omega (arith, length-body, bytes (place + 6), bytes (place + 7));
  }

reached_cost : (open_gate past over : Bool) (number : ℕ) (r : RecordData) (rest : Reading) (spent : ℕ) → spent ≤ 13165
    → (past ≡ false → over ≡ false → spent + (cost_of r + cost rest.records) ≤ 13165) → spent + cost (reading_by_gate open_gate past over number r rest).records ≤ 13165
reached_cost false past over number r rest spent cheap go = omega arith
reached_cost true true over number r rest spent cheap go = omega arith
reached_cost true false true number r rest spent cheap go = omega arith
reached_cost true false false number r rest spent cheap go = omega (arith, go refl refl, sum_by-cons cost_of r rest.records)

from_cost : (most number place spent : ℕ) (b : List ℕ) → spent ≤ 13165 → spent + cost (reading_from most number place spent b).records ≤ 13165
unfolding reading_from
from_cost zero number place spent b cheap = omega arith
from_cost (suc most) number place spent b cheap =
    reached_cost (is_open number b) (nat_lt (length b) (place + record_length place b)) (nat_lt 13165 (spent + cost_at place b)) number (record_at place b)
    (reading_from most (number + 1) (place + record_length place b) (spent + cost_at place b) b) spent cheap
    (λ runs over. omega (arith, cost_of-record_at place b (ltb-false _ _ runs), from_cost most (number + 1) (place + record_length place b) (spent + cost_at place b) b (ltb-false _ _ over)))

reached_each : (open_gate past over : Bool) (number : ℕ) (r : RecordData) (rest : Reading) → (past ≡ false → HasCount r) → AllByRecursion HasCount rest.records
    → AllByRecursion HasCount (reading_by_gate open_gate past over number r rest).records
reached_each false past over number r rest here all = tt
reached_each true true over number r rest here all = tt
reached_each true false true number r rest here all = tt
reached_each true false false number r rest here all = (here refl, all)

from_each : (most number place spent : ℕ) (b : List ℕ) → AreBytes b → AllByRecursion HasCount (reading_from most number place spent b).records
unfolding reading_from
from_each zero number place spent b bytes = tt
from_each (suc most) number place spent b bytes =
    reached_each (is_open number b) (nat_lt (length b) (place + record_length place b)) (nat_lt 13165 (spent + cost_at place b)) number (record_at place b)
    (reading_from most (number + 1) (place + record_length place b) (spent + cost_at place b) b)
    (λ runs. record_counted place b (ltb-false _ _ runs) bytes) (from_each most (number + 1) (place + record_length place b) (spent + cost_at place b) b bytes)

-- the records of a block cost at most 13,165
pub reading_cost : (b : List ℕ) → cost (reading b).records ≤ 13165
unfolding reading
reading_cost b = omega (arith, from_cost 98 1 256 0 b (omega arith))

-- they are at most 97
pub reading_length : (b : List ℕ) → length (reading b).records ≤ 97
reading_length b = omega (arith, cost-ge_length (reading b).records, reading_cost b)

-- the records of a block of bytes are a track, whatever is bad behind them
pub reading_track : (b : List ℕ) → AreBytes b → IsTrack (reading b).records
unfolding reading
reading_track b bytes = record { cost_ = reading_cost b; each = from_each 98 1 256 0 b bytes }

-- a block of zeros is a blank track
pub reading-zeros : reading zeros ≡ reading_of []
unfolding reading zeros
reading-zeros =
    let gate : get_or zeros (128 + 1) 0 ≡ 0 = get_or-replicate 16384 (128 + 1) 0 0 (omega arith) in
    closed_byte_ends 98 1 256 0 zeros (λ opened. let no : 0 ≡ 193 = sym gate ∙ opened in absurd (omega (arith, no)))

-- what is left of a front after its first record
pub cost-take-cons : (n m : ℕ) (r : RecordData) (rs : List RecordData) → n ≡ suc m → cost (take n (r ∷ rs)) ≡ cost_of r + cost (take m rs)
cost-take-cons n m r rs is = ap (λ (k : ℕ). cost (take k (r ∷ rs))) is ∙ sum_by-cons cost_of r (take m rs)

pub cost-take-nil : (n : ℕ) → cost (take n []) ≡ 0
cost-take-nil zero = refl
cost-take-nil (suc n) = refl

-- the first records of a block cost at most 13,165
pub front_cost : (n : ℕ) (b : List ℕ) → cost (take n (reading b).records) ≤ 13165
front_cost n b = omega (arith, cost-take-le n (reading b).records, reading_cost b)

-- all the records of a track, one after another
pub all_read : (rs rest all : List RecordData) → IsTrack all → rs ++ rest ≡ all → rest ≡ [] → IsTrack rs
all_read rs rest all track is none = subst IsTrack (sym is ∙ ap (λ (l : List RecordData). rs ++ l) none ∙ append-nil rs) track

-- the record that a count, a key and data make
module _ (bytes : List ℕ) (is : IsRecord bytes) where
  pub own_cost : cost_of (record_at 0 bytes) ≡ cost_at 0 bytes
  own_cost = cost_of-record_at 0 bytes (omega (arith, is.whole))

  -- a count can tell its lengths
  pub own_counted : AreBytes bytes → HasCount (record_at 0 bytes)
  own_counted each = record_counted 0 bytes (omega (arith, is.whole)) each

  -- formatted behind the first records of a block where it fits, it makes a track with them
  pub formatted_track : (n : ℕ) (block : List ℕ) → AreBytes block → AreBytes bytes → cost (take n (reading block).records) + cost_of (record_at 0 bytes) ≤ 13165
      → IsTrack (formatted_records n (record_at 0 bytes) (reading block).records)
  formatted_track n block block_bytes record_bytes fits =
      track_push (take n (reading block).records) (record_at 0 bytes) (track_take n (reading block).records (reading_track block block_bytes)) (own_counted record_bytes) fits

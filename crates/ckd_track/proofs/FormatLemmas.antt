-- What a block reads as at each step of formatting.
use Rattle.std.proofs.Common.{◌≡◌, ◌⊎◌, inl, inr, ℕ, suc, ◌+◌, ◌*◌, ◌-◌, ◌≤◌, ◌<◌, true, false, ◌==◌, nat_lt, List, [], ◌∷◌, ◌++◌, length, take, drop, get_or, refl, sym, ◌∙◌, ap, arith}
use Rattle.std.proofs.lemmas.List.{ext_get_or, get_or-take, get_or-drop, length-take, length-drop}
use Rattle.std.proofs.lemmas.Bool.{le-ltb, cases_lt, cases_Bool, eqb-true}
use Rattle.mss_base.specs.Content.{splice, length-splice}
use Rattle.mss_base.proofs.ContentLemmas.{get_or-splice_below, get_or-splice_above, get_or-splice_in}
use Rattle.ckd_track.specs.Data.{RecordData, cost, cost_of, cost_of_lengths}
use Rattle.ckd_track.specs.Track.{reading_of, key_length, data_length, record_length, record_at, cost_at, is_open, before, reading_by_gate, reading_from, reading, place_after}
use Rattle.ckd_track.specs.Formatting.{IsRecord, formatted_records, Front, EndsAfter, Holds}
use Rattle.ckd_track.proofs.ReadLemmas.{closed_ends, prepend, prepend-nil}
use Rattle.ckd_track.proofs.TrackFacts.{cost_of_lengths-ge, own_cost}
use Rattle.ckd_track.proofs.FrontLemmas.{reading_front, place_after-ge, front_inside}

-- one record, and then a closed gate
one_more : (most number place spent : ℕ) (b : List ℕ) → is_open number b ≡ true → place + record_length place b ≤ length b → spent + cost_at place b ≤ 13165 → is_open (number + 1) b ≡ false
    → reading_from (suc most) number place spent b ≡ reading_of (record_at place b ∷ [])
unfolding reading_from
one_more most number place spent b opened inside cheap closed =
    let runs : nat_lt (length b) (place + record_length place b) ≡ false = le-ltb _ _ inside in
    let over : nat_lt 13165 (spent + cost_at place b) ≡ false = le-ltb _ _ cheap in
    (λ i. reading_by_gate (opened i) (runs i) (over i) number (record_at place b) (reading_from most (number + 1) (place + record_length place b) (spent + cost_at place b) b))
    ∙ ap (before (record_at place b)) (closed_ends most (number + 1) (place + record_length place b) (spent + cost_at place b) b closed)

module _ (n left : ℕ) (small : suc left + n ≡ 98) (a b : List ℕ) (there : n ≤ length (reading a).records) where
  front_is : Front n a b → reading b ≡ prepend (take n (reading a).records) (reading_from (suc left) (n + 1) (place_after n 256 a) (cost (take n (reading a).records)) b)
  unfolding reading
  front_is front = reading_front n 98 (suc left) 1 (n + 1) 256 0 a b small (omega arith) there front.long (λ i from to. front.gates i from (omega arith)) front.places
      ∙ (let spent_is : 0 + cost (take n (reading a).records) ≡ cost (take n (reading a).records) = omega arith in
      (λ i. prepend (take n (reading a).records) (reading_from (suc left) (n + 1) (place_after n 256 a) (spent_is i) b)))

  pub ends_after : EndsAfter n a b → reading b ≡ reading_of (take n (reading a).records)
  ends_after ends =
      front_is ends.front ∙ ap (prepend (take n (reading a).records)) (closed_ends (suc left) (n + 1) (place_after n 256 a) (cost (take n (reading a).records)) b ends.closed)
      ∙ prepend-nil (take n (reading a).records)

  ends_with : (r : RecordData) → Front n a b → is_open (n + 1) b ≡ true → is_open (n + 2) b ≡ false → record_at (place_after n 256 a) b ≡ r
      → place_after n 256 a + record_length (place_after n 256 a) b ≤ length b → cost (take n (reading a).records) + cost_at (place_after n 256 a) b ≤ 13165 → reading b ≡ reading_of (formatted_records n r (reading a).records)
  ends_with r front opened next is inside cheap =
      let second : n + 1 + 1 ≡ n + 2 = omega arith in
      front_is front ∙ ap (prepend (take n (reading a).records)) (one_more left (n + 1) (place_after n 256 a) (cost (take n (reading a).records)) b opened inside cheap (ap (λ (k : ℕ). is_open k b) second ∙ next))
      ∙ (λ i. reading_of (take n (reading a).records ++ is i ∷ []))

-- a write beyond the records of the front
pub front_write : (n at : ℕ) (left a b : List ℕ) → 129 + n ≤ at → (at + length left ≤ 256) ⊎ (place_after n 256 a ≤ at) → n ≤ 98 → Front n a b → Front n a (splice at left b)
front_write n at left a b beyond where_at few front =
    let least = place_after-ge n 256 a in
    record {
      long = length-splice at left b ∙ front.long;
      gates = λ i from to. get_or-splice_below at left b i (omega arith) ∙ front.gates i from to;
      places = λ i from to. elim where_at [
        | inl gate ↦ get_or-splice_above at left b i (omega arith) ∙ front.places i from to
        | inr place ↦ get_or-splice_below at left b i (omega arith) ∙ front.places i from to
      ];
    }

-- a gate that no write touches
gate_above : (number at : ℕ) (left b : List ℕ) → at + length left ≤ 128 + number → is_open number (splice at left b) ≡ is_open number b
gate_above number at left b le = ap (λ (x : ℕ). x == 193) (get_or-splice_above at left b (128 + number) le)

-- the gate behind n others, written
pub gate_written : (n : ℕ) (left b : List ℕ) → length left ≡ 1 → 129 + n < length b → is_open (n + 1) (splice (129 + n) left b) ≡ (get_or left 0 0 == 193)
gate_written n left b one inside = ap (λ (x : ℕ). x == 193) (get_or-splice_in (129 + n) left b (128 + (n + 1)) 0 (omega arith) (omega arith) (omega arith))

-- the same bytes put in again
pub splice_same : (at : ℕ) (left b : List ℕ) → ((j : ℕ) → j < length left → get_or left j 0 ≡ get_or b (at + j) 0) → at + length left ≤ length b → splice at left b ≡ b
splice_same at left b same inside = ext_get_or 0 (splice at left b) b (length-splice at left b) (λ i lt. at_each i (omega (arith, length-splice at left b)))
  where
    at_each : (i : ℕ) → i < length b → get_or (splice at left b) i 0 ≡ get_or b i 0
    at_each i lt = elim (cases_lt i at) [
      | inl below ↦ get_or-splice_below at left b i below
      | inr from ↦ elim (cases_lt i (at + length left)) [
        | inl within ↦
            let back : at + (i - at) ≡ i = omega arith in
            get_or-splice_in at left b i (i - at) (omega arith) (omega arith) lt ∙ same (i - at) (omega arith) ∙ ap (λ (k : ℕ). get_or b k 0) back
        | inr above ↦ get_or-splice_above at left b i above
      ]
    ]

front_same : (n : ℕ) (a : List ℕ) → Front n a a
front_same n a = record { long = refl; gates = λ i from to. refl; places = λ i from to. refl }

-- the gate behind the front shut
pub shut_after : (n : ℕ) (a left : List ℕ) → n ≤ 97 → length a ≡ 16384 → length left ≡ 1 → (get_or left 0 0 == 193) ≡ false → EndsAfter n a (splice (129 + n) left a)
shut_after n a left few long one shut = record {
  front = front_write n (129 + n) left a a (omega arith) (inl (omega arith)) (omega arith) (front_same n a);
  closed = gate_written n left a one (omega arith) ∙ shut;
}

-- closing an open gate: it is still open, or the track ends before its record
pub closing : (n : ℕ) (a left : List ℕ) → n ≤ 97 → length a ≡ 16384 → get_or a (129 + n) 0 ≡ 193 → length left ≡ 1 → (splice (129 + n) left a ≡ a) ⊎ EndsAfter n a (splice (129 + n) left a)
closing n a left few long opened one = elim (cases_Bool (get_or left 0 0 == 193)) [
  | inl still ↦ inl (splice_same (129 + n) left a
      (λ j lt. let first : j ≡ 0 = omega arith in ap (λ (k : ℕ). get_or left k 0) first ∙ eqb-true (get_or left 0 0) 193 still ∙ sym opened ∙ (let there : 129 + n ≡ 129 + n + j = omega arith in ap (λ (k : ℕ). get_or a k 0) there))
      (omega arith))
  | inr shut ↦ inr (shut_after n a left few long one shut)
]

-- the same bytes at two places
pub moved_part : (from to n : ℕ) (a b : List ℕ) → from + n ≤ length a → to + n ≤ length b → ((j : ℕ) → j < n → get_or b (to + j) 0 ≡ get_or a (from + j) 0) → take n (drop to b) ≡ take n (drop from a)
moved_part from to n a b in_a in_b same =
    ext_get_or 0 (take n (drop to b)) (take n (drop from a)) (omega (arith, length-take n (drop to b), length-take n (drop from a), length-drop to b, length-drop from a))
    (λ k lt.
    let inside : k < n = omega (arith, length-take n (drop to b)) in
    get_or-take n (drop to b) k 0 inside ∙ get_or-drop to b k 0 ∙ same k inside ∙ sym (get_or-drop from a k 0) ∙ sym (get_or-take n (drop from a) k 0 inside))

-- a record's bytes stand at a place
module _ (place : ℕ) (bytes b : List ℕ) (is : IsRecord bytes) (holds : Holds place bytes b) (inside : place + length bytes ≤ length b) where
  moved_key_length : key_length place b ≡ key_length 0 bytes
  moved_key_length = holds 5 (omega (arith, is.count))

  moved_data_length : data_length place b ≡ data_length 0 bytes
  moved_data_length = (λ i. 256 * holds 6 (omega (arith, is.count)) i + holds 7 (omega (arith, is.count)) i)

  moved_record_length : record_length place b ≡ record_length 0 bytes
  moved_record_length = (λ i. 8 + moved_key_length i + moved_data_length i)

  moved_cost : cost_at place b ≡ cost_at 0 bytes
  moved_cost = (λ i. cost_of_lengths (moved_key_length i) (moved_data_length i))

  moved_record : record_at place b ≡ record_at 0 bytes
  moved_record =
      let whole : 8 + key_length 0 bytes + data_length 0 bytes ≡ length bytes = is.whole in
      let id : take 5 (drop place b) ≡ take 5 (drop 0 bytes) = moved_part 0 place 5 bytes b (omega (arith, is.count)) (omega (arith, is.count)) (λ j lt. holds j (omega (arith, is.count)) ∙ (let here : j ≡ 0 + j = omega arith in ap (λ (k : ℕ). get_or bytes k 0) here)) in
      let key : take (key_length 0 bytes) (drop (place + 8) b) ≡ take (key_length 0 bytes) (drop 8 bytes) =
      moved_part 8 (place + 8) (key_length 0 bytes) bytes b (omega (arith, whole)) (omega (arith, whole)) (λ j lt. (let here : place + 8 + j ≡ place + (8 + j) = omega arith in ap (λ (k : ℕ). get_or b k 0) here) ∙ holds (8 + j) (omega (arith, whole))) in
      let body : take (data_length 0 bytes) (drop (place + 8 + key_length 0 bytes) b) ≡ take (data_length 0 bytes) (drop (8 + key_length 0 bytes) bytes) =
      moved_part (8 + key_length 0 bytes) (place + 8 + key_length 0 bytes) (data_length 0 bytes) bytes b (omega (arith, whole)) (omega (arith, whole))
      (λ j lt. (let here : place + 8 + key_length 0 bytes + j ≡ place + (8 + key_length 0 bytes + j) = omega arith in ap (λ (k : ℕ). get_or b k 0) here) ∙ holds (8 + key_length 0 bytes + j) (omega (arith, whole))) in
      (λ i. record { id = take 5 (drop place b); key = take (moved_key_length i) (drop (place + 8) b); body = take (moved_data_length i) (drop (place + 8 + moved_key_length i) b) })
      ∙ (λ i. record { id = id i; key = key i; body = body i })

-- a record that fits ends inside the block
pub fits_inside : (bytes : List ℕ) → IsRecord bytes → (n : ℕ) (a : List ℕ) → n ≤ length (reading a).records → cost (take n (reading a).records) + cost_of (record_at 0 bytes) ≤ 13165 → place_after n 256 a + length bytes ≤ 16384
fits_inside bytes is n a there fits = omega (arith, is.whole, fits, own_cost bytes is, front_inside n a there, cost_of_lengths-ge (key_length 0 bytes) (data_length 0 bytes))

-- bytes that were just written
pub holds_written : (place : ℕ) (bytes b : List ℕ) → place + length bytes ≤ length b → Holds place bytes (splice place bytes b)
holds_written place bytes b inside = λ j lt. get_or-splice_in place bytes b (place + j) j refl lt (omega arith)

-- opening the gate: the track ends before the record, or with it
pub opening : (n left : ℕ) (bytes a b gate_bytes : List ℕ) → suc left + n ≡ 98 → n ≤ length (reading a).records → length a ≡ 16384 → EndsAfter n a b → is_open (n + 2) b ≡ false
    → IsRecord bytes → Holds (place_after n 256 a) bytes b → cost (take n (reading a).records) + cost_of (record_at 0 bytes) ≤ 13165 → length gate_bytes ≡ 1
    → EndsAfter n a (splice (129 + n) gate_bytes b) ⊎ (reading (splice (129 + n) gate_bytes b) ≡ reading_of (formatted_records n (record_at 0 bytes) (reading a).records))
opening n left bytes a b gate_bytes small there long ends next is holds cheap one =
    let new = splice (129 + n) gate_bytes b in
    let len_b : length b ≡ 16384 = ends.front.long ∙ long in
    let len_new : length new ≡ 16384 = length-splice (129 + n) gate_bytes b ∙ len_b in
    let inside = fits_inside bytes is n a there cheap in
    let front : Front n a new = front_write n (129 + n) gate_bytes a b (omega arith) (inl (omega arith)) (omega arith) ends.front in
    let gate : is_open (n + 1) new ≡ (get_or gate_bytes 0 0 == 193) = gate_written n gate_bytes b one (omega arith) in
    elim (cases_Bool (get_or gate_bytes 0 0 == 193)) [
      | inl opened ↦
          let high = place_after-ge n 256 a in
          let still : Holds (place_after n 256 a) bytes new = (λ j lt. get_or-splice_above (129 + n) gate_bytes b (place_after n 256 a + j) (omega arith) ∙ holds j lt) in
          let fits : place_after n 256 a + length bytes ≤ length new = omega arith in
          let next_new : is_open (n + 2) new ≡ false = gate_above (n + 2) (129 + n) gate_bytes b (omega arith) ∙ next in
          let length_is : record_length (place_after n 256 a) new ≡ length bytes = moved_record_length (place_after n 256 a) bytes new is still fits ∙ is.whole in
          let cost_is = moved_cost (place_after n 256 a) bytes new is still fits in
          inr (ends_with n left small a new there (record_at 0 bytes) front (gate ∙ opened) next_new (moved_record (place_after n 256 a) bytes new is still fits) (omega arith) (omega (arith, cost_is, own_cost bytes is)))
      | inr shut ↦ inl (record { front = front; closed = gate ∙ shut })
    ]

-- What a block reads as with other bytes in one of its records.
use Rattle.std.proofs.Common.{◌≡◌, ◌⊎◌, inl, inr, ℕ, zero, suc, ◌+◌, ◌≤◌, ◌<◌, Bool, true, false, ◌==◌, nat_lt, List, length, take, drop, get_or, set, refl, sym, ◌∙◌, ap, arith, length-drop}
use Rattle.std.proofs.lemmas.List.{take_all}
use Rattle.mss_base.specs.Content.{splice, length-splice}
use Rattle.mss_base.proofs.ContentLemmas.{get_or-splice_below, get_or-splice_above, get_or-splice_in}
use Rattle.ckd_track.specs.Data.{RecordData, blank_record}
use Rattle.ckd_track.specs.Track.{Reading, key_length, data_length, record_length, record_at, cost_at, is_open, before, reading_by_gate, reading_from, reading, place_after}
use Rattle.ckd_track.specs.Updating.{updated_length, with_bytes, record_behind, updated_records, bytes_place}
use Rattle.ckd_track.proofs.TrackFacts.{length-key, length-body}
use Rattle.ckd_track.proofs.FrontLemmas.{place_after-ge, data_length_same, record_length_same, cost_at_same, record_at_same, good, first_read, rest_has, nothing, record_room}
use Rattle.ckd_track.proofs.FormatLemmas.{moved_part}

-- b has the bytes of a outside a range
abbrev Outside : ℕ → ℕ → List ℕ → List ℕ → Type 0
Outside from to a b = (i : ℕ) → (i < from) ⊎ (to ≤ i) → get_or b i 0 ≡ get_or a i 0

-- a reading with another record behind the first n
abbrev with_record : ℕ → RecordData → Reading → Reading
with_record n r old = record old { records = set old.records n r }

module _ (from to : ℕ) (a b : List ℕ) (long : length b ≡ length a) (high : 256 ≤ from) (same : Outside from to a b) where
  gate_same : (number : ℕ) → number ≤ 98 → is_open number b ≡ is_open number a
  gate_same number few = ap (λ (x : ℕ). x == 193) (same (128 + number) (inl (omega arith)))

  -- the records behind the range
  tail_same : (most number place spent : ℕ) → most + number ≤ 99 → to ≤ place → reading_from most number place spent b ≡ reading_from most number place spent a
  unfolding reading_from
  tail_same zero number place spent few behind = refl
  tail_same (suc most) number place spent few behind =
      let here = λ (i : ℕ) (least : place ≤ i) (below : i < place + 8). same i (inr (omega arith)) in
      let len_is : record_length place b ≡ record_length place a = record_length_same place a b long here in
      let cost_is : cost_at place b ≡ cost_at place a = cost_at_same place a b long here in
      let record_is : record_at place b ≡ record_at place a = record_at_same place a b long (λ i least below. same i (inr (omega arith))) in
      (λ i. reading_by_gate (gate_same number (omega arith) i) (nat_lt (long i) (place + len_is i)) (nat_lt 13165 (spent + cost_is i)) number (record_is i)
      (reading_from most (number + 1) (place + len_is i) (spent + cost_is i) b))
      ∙ ap (reading_by_gate (is_open number a) (nat_lt (length a) (place + record_length place a)) (nat_lt 13165 (spent + cost_at place a)) number (record_at place a))
      (tail_same most (number + 1) (place + record_length place a) (spent + cost_at place a) (omega arith) (omega arith))

  -- the range lies in the key and data of the record behind n others
  middle : (n most number place spent : ℕ) → most + number ≤ 99 → suc n ≤ length (reading_from most number place spent a).records
      → place_after n place a + 8 ≤ from → to ≤ place_after n place a + record_length (place_after n place a) a
      → reading_from most number place spent b ≡ with_record n (record_at (place_after n place a) b) (reading_from most number place spent a)
  unfolding reading_from place_after
  middle n zero number place spent few there least most_ = absurd (omega (arith, nothing number place spent a, there))
  middle zero (suc most) number place spent few there least most_ =
      let is_good = good most number place spent a zero there in
      let here = λ (i : ℕ) (lo : place ≤ i) (below : i < place + 8). same i (inl (omega arith)) in
      let len_is : record_length place b ≡ record_length place a = record_length_same place a b long here in
      let cost_is : cost_at place b ≡ cost_at place a = cost_at_same place a b long here in
      let open_is : is_open number b ≡ true = gate_same number (omega arith) ∙ is_good.0 in
      let runs_is : nat_lt (length b) (place + record_length place b) ≡ false = (λ i. nat_lt (long i) (place + len_is i)) ∙ is_good.1 in
      let over_is : nat_lt 13165 (spent + cost_at place b) ≡ false = (λ i. nat_lt 13165 (spent + cost_is i)) ∙ is_good.2 in
      (λ i. reading_by_gate (open_is i) (runs_is i) (over_is i) number (record_at place b) (reading_from most (number + 1) (place + len_is i) (spent + cost_is i) b))
      ∙ ap (before (record_at place b)) (tail_same most (number + 1) (place + record_length place a) (spent + cost_at place a) (omega arith) most_)
      ∙ ap (with_record zero (record_at place b)) (sym (first_read most number place spent a zero there))
  middle (suc n) (suc most) number place spent few there least most_ =
      let is_good = good most number place spent a (suc n) there in
      let next = place + record_length place a in
      let later : next ≤ place_after n next a = place_after-ge n next a in
      let here = λ (i : ℕ) (lo : place ≤ i) (below : i < place + 8). same i (inl (omega arith)) in
      let len_is : record_length place b ≡ record_length place a = record_length_same place a b long here in
      let cost_is : cost_at place b ≡ cost_at place a = cost_at_same place a b long here in
      let record_is : record_at place b ≡ record_at place a = record_at_same place a b long (λ i lo below. same i (inl (omega arith))) in
      let open_is : is_open number b ≡ true = gate_same number (omega arith) ∙ is_good.0 in
      let runs_is : nat_lt (length b) (place + record_length place b) ≡ false = (λ i. nat_lt (long i) (place + len_is i)) ∙ is_good.1 in
      let over_is : nat_lt 13165 (spent + cost_at place b) ≡ false = (λ i. nat_lt 13165 (spent + cost_is i)) ∙ is_good.2 in
      let rest_is = middle n most (number + 1) next (spent + cost_at place a) (omega arith) (rest_has most number place spent a (suc n) there) least most_ in
      (λ i. reading_by_gate (open_is i) (runs_is i) (over_is i) number (record_is i) (reading_from most (number + 1) (place + len_is i) (spent + cost_is i) b))
      ∙ ap (before (record_at place a)) rest_is
      ∙ ap (with_record (suc n) (record_at (place_after n next a) b)) (sym (first_read most number place spent a (suc n) there))

-- the record behind n others stands at its place
record_from : (n most number place spent : ℕ) (a : List ℕ) → suc n ≤ length (reading_from most number place spent a).records
    → get_or (reading_from most number place spent a).records n blank_record ≡ record_at (place_after n place a) a
unfolding place_after
record_from n zero number place spent a there = absurd (omega (arith, nothing number place spent a, there))
record_from zero (suc most) number place spent a there = ap (λ (r : Reading). get_or r.records zero blank_record) (first_read most number place spent a zero there)
record_from (suc n) (suc most) number place spent a there =
    ap (λ (r : Reading). get_or r.records (suc n) blank_record) (first_read most number place spent a (suc n) there)
    ∙ record_from n most (number + 1) (place + record_length place a) (spent + cost_at place a) a (rest_has most number place spent a (suc n) there)

pub record_placed : (n : ℕ) (a : List ℕ) → n < length (reading a).records → record_behind n (reading a).records ≡ record_at (place_after n 256 a) a
unfolding reading
record_placed n a there = record_from n 98 1 256 0 a (omega arith)

-- bytes put into the record behind n others
module _ (n : ℕ) (a left : List ℕ) (there : n < length (reading a).records) where
  abbrev place : ℕ
  place = place_after n 256 a

  room : place + record_length place a ≤ length a
  room = record_room n a there

  low : 256 ≤ place
  low = place_after-ge n 256 a

  -- how many bytes go there
  pub left_length : (key_too : Bool) → length left ≡ updated_length key_too (record_behind n (reading a).records) → bytes_place key_too place a + length left ≡ place + record_length place a
  left_length false fits = omega (arith, fits, ap (λ (r : RecordData). length r.body) (record_placed n a there), length-body place a room)
  left_length true fits =
      omega (arith, fits, ap (λ (r : RecordData). length r.body) (record_placed n a there), ap (λ (r : RecordData). length r.key) (record_placed n a there), length-body place a room, length-key place a room)

  module _ (key_too : Bool) (fits : length left ≡ updated_length key_too (record_behind n (reading a).records)) where
    abbrev at : ℕ
    at = bytes_place key_too place a

    abbrev now : List ℕ
    now = splice at left a

    ends : at + length left ≡ place + record_length place a
    ends = left_length key_too fits

    at_least : (k : Bool) → place + 8 ≤ bytes_place k place a
    at_least false = omega arith
    at_least true = omega arith

    outside : Outside at (at + length left) a now
    outside i (inl below) = get_or-splice_below at left a i below
    outside i (inr above) = get_or-splice_above at left a i above

    written : (i j : ℕ) → i ≡ at + j → j < length left → get_or now i 0 ≡ get_or left j 0
    written i j is inside = get_or-splice_in at left a i j is inside (omega (arith, ends, room))

    key_length_is : key_length place now ≡ key_length place a
    key_length_is = outside (place + 5) (inl (omega (arith, at_least key_too)))

    data_length_is : data_length place now ≡ data_length place a
    data_length_is = data_length_same place a now (length-splice at left a) (λ i least below. outside i (inl (omega (arith, at_least key_too))))

    id_is : take 5 (drop place now) ≡ take 5 (drop place a)
    id_is = moved_part place place 5 a now (omega (arith, room)) (omega (arith, room, length-splice at left a)) (λ j lt. outside (place + j) (inl (omega (arith, at_least key_too))))

    abbrev lengths_kept : RecordData
    lengths_kept = record {
      id = take 5 (drop place now);
      key = take (key_length place a) (drop (place + 8) now);
      body = take (data_length place a) (drop (place + 8 + key_length place a) now);
    }

    lengths_are : record_at place now ≡ lengths_kept
    lengths_are = (λ i. record { id = take 5 (drop place now); key = take (key_length_is i) (drop (place + 8) now); body = take (data_length_is i) (drop (place + 8 + key_length_is i) now) })

  -- its data alone
  data_put : (fits : length left ≡ updated_length false (record_behind n (reading a).records)) → record_at place (now false fits) ≡ with_bytes false left (record_at place a)
  data_put fits =
      let whole : length left ≡ data_length place a = omega (arith, ends false fits) in
      let key : take (key_length place a) (drop (place + 8) (now false fits)) ≡ take (key_length place a) (drop (place + 8) a) =
      moved_part (place + 8) (place + 8) (key_length place a) a (now false fits) (omega (arith, room)) (omega (arith, room, length-splice (at false fits) left a)) (λ j lt. outside false fits (place + 8 + j) (inl (omega arith))) in
      let body : take (data_length place a) (drop (place + 8 + key_length place a) (now false fits)) ≡ left =
      moved_part 0 (place + 8 + key_length place a) (data_length place a) left (now false fits) (omega (arith, whole)) (omega (arith, room, length-splice (at false fits) left a))
      (λ j lt. written false fits (place + 8 + key_length place a + j) j refl (omega (arith, whole)) ∙ (let here : j ≡ 0 + j = omega arith in ap (λ (k : ℕ). get_or left k 0) here))
      ∙ take_all (data_length place a) left (omega (arith, whole)) in
      lengths_are false fits ∙ (λ i. record { id = id_is false fits i; key = key i; body = body i })

  -- its key and data
  key_data_put : (fits : length left ≡ updated_length true (record_behind n (reading a).records)) → record_at place (now true fits) ≡ with_bytes true left (record_at place a)
  key_data_put fits =
      let whole : length left ≡ key_length place a + data_length place a = omega (arith, ends true fits) in
      let key_is : key_length place a ≡ length (record_at place a).key = sym (length-key place a room) in
      let key : take (key_length place a) (drop (place + 8) (now true fits)) ≡ take (key_length place a) left =
      moved_part 0 (place + 8) (key_length place a) left (now true fits) (omega (arith, whole)) (omega (arith, room, length-splice (at true fits) left a))
      (λ j lt. written true fits (place + 8 + j) j refl (omega (arith, whole)) ∙ (let here : j ≡ 0 + j = omega arith in ap (λ (k : ℕ). get_or left k 0) here)) in
      let body : take (data_length place a) (drop (place + 8 + key_length place a) (now true fits)) ≡ drop (key_length place a) left =
      moved_part (key_length place a) (place + 8 + key_length place a) (data_length place a) left (now true fits) (omega (arith, whole)) (omega (arith, room, length-splice (at true fits) left a))
      (λ j lt. written true fits (place + 8 + key_length place a + j) (key_length place a + j) (omega arith) (omega (arith, whole)))
      ∙ take_all (data_length place a) (drop (key_length place a) left) (omega (arith, whole, length-drop (key_length place a) left)) in
      lengths_are true fits ∙ (λ i. record { id = id_is true fits i; key = key i; body = body i })
      ∙ (λ i. record { id = take 5 (drop place a); key = take (key_is i) left; body = drop (key_is i) left })

  put : (key_too : Bool) (fits : length left ≡ updated_length key_too (record_behind n (reading a).records)) → record_at place (now key_too fits) ≡ with_bytes key_too left (record_at place a)
  put false fits = data_put fits
  put true fits = key_data_put fits

  -- the block with them
  pub reading-updated : (key_too : Bool) → length left ≡ updated_length key_too (record_behind n (reading a).records)
      → reading (splice (bytes_place key_too place a) left a) ≡ record (reading a) { records = updated_records key_too n left (reading a).records }
  unfolding reading
  reading-updated key_too fits =
      middle (at key_too fits) (at key_too fits + length left) a (now key_too fits) (length-splice (at key_too fits) left a) (omega (arith, low, at_least key_too fits key_too)) (outside key_too fits)
      n 98 1 256 0 (omega arith) (omega arith) (at_least key_too fits key_too) (omega (arith, ends key_too fits))
      ∙ (λ i. with_record n ((put key_too fits ∙ ap (with_bytes key_too left) (sym (record_placed n a there))) i) (reading a))

-- A track's records depend on their gates and their places alone.
use Rattle.std.proofs.Common.{◌≡◌, ℕ, zero, suc, ◌+◌, ◌*◌, ◌≤◌, ◌<◌, Bool, true, false, ◌==◌, nat_lt, List, length, take, drop, get_or, refl, sym, ◌∙◌, ap, arith}
use Rattle.std.proofs.lemmas.List.{ext_get_or, get_or-take, get_or-drop, length-take, length-drop, length-take-le}
use Rattle.std.proofs.lemmas.List.Sums.{sum_by-cons}
use Rattle.std.proofs.lemmas.Bool.{ltb-false}
use Rattle.ckd_track.specs.Data.{RecordData, cost, cost_of, cost_of_lengths}
use Rattle.ckd_track.specs.Track.{Reading, key_length, data_length, record_length, record_at, cost_at, is_open, before, reading_by_gate, reading_from, reading, place_after}
use Rattle.ckd_track.specs.Formatting.{SameBytes}
use Rattle.ckd_track.proofs.ReadLemmas.{prepend}
use Rattle.ckd_track.proofs.TrackFacts.{cost_of-record_at, cost_of_lengths-ge, cost-ge_length}

same_part : (from n : ℕ) (a b : List ℕ) → length b ≡ length a → SameBytes from (from + n) a b → take n (drop from b) ≡ take n (drop from a)
same_part from n a b long same =
    ext_get_or 0 (take n (drop from b)) (take n (drop from a)) (omega (arith, length-take n (drop from b), length-take n (drop from a), length-drop from b, length-drop from a))
    (λ k lt.
    let inside : k < n = omega (arith, length-take n (drop from b)) in
    get_or-take n (drop from b) k 0 inside ∙ get_or-drop from b k 0 ∙ same (from + k) (omega arith) (omega arith) ∙ sym (get_or-drop from a k 0) ∙ sym (get_or-take n (drop from a) k 0 inside))

pub place_after-ge : (n place : ℕ) (a : List ℕ) → place ≤ place_after n place a
unfolding place_after
place_after-ge zero place a = omega arith
place_after-ge (suc n) place a = omega (arith, place_after-ge n (place + record_length place a) a)

reached_has : (open_gate past over : Bool) (number : ℕ) (r : RecordData) (rest : Reading) (n : ℕ) → suc n ≤ length (reading_by_gate open_gate past over number r rest).records
    → (open_gate ≡ true) × (past ≡ false) × (over ≡ false)
reached_has false past over number r rest n le = absurd (omega arith)
reached_has true true over number r rest n le = absurd (omega arith)
reached_has true false true number r rest n le = absurd (omega arith)
reached_has true false false number r rest n le = (refl, refl, refl)

module _ (place : ℕ) (a b : List ℕ) (long : length b ≡ length a) where
  pub key_length_same : SameBytes place (place + 8) a b → key_length place b ≡ key_length place a
  key_length_same same = same (place + 5) (omega arith) (omega arith)

  pub data_length_same : SameBytes place (place + 8) a b → data_length place b ≡ data_length place a
  data_length_same same =
      let high : get_or b (place + 6) 0 ≡ get_or a (place + 6) 0 = same (place + 6) (omega arith) (omega arith) in
      let low : get_or b (place + 7) 0 ≡ get_or a (place + 7) 0 = same (place + 7) (omega arith) (omega arith) in
      (λ i. 256 * high i + low i)

  pub record_length_same : SameBytes place (place + 8) a b → record_length place b ≡ record_length place a
  record_length_same same = (λ i. 8 + key_length_same same i + data_length_same same i)

  pub cost_at_same : SameBytes place (place + 8) a b → cost_at place b ≡ cost_at place a
  cost_at_same same = (λ i. cost_of_lengths (key_length_same same i) (data_length_same same i))

  pub record_at_same : SameBytes place (place + record_length place a) a b → record_at place b ≡ record_at place a
  record_at_same same =
      let head : SameBytes place (place + 8) a b = λ i from to. same i from (omega arith) in
      let key_is = key_length_same head in
      let data_is = data_length_same head in
      let id : take 5 (drop place b) ≡ take 5 (drop place a) = same_part place 5 a b long (λ i from to. same i from (omega arith)) in
      let key : take (key_length place a) (drop (place + 8) b) ≡ take (key_length place a) (drop (place + 8) a) =
      same_part (place + 8) (key_length place a) a b long (λ i from to. same i (omega arith) (omega arith)) in
      let body : take (data_length place a) (drop (place + 8 + key_length place a) b) ≡ take (data_length place a) (drop (place + 8 + key_length place a) a) =
      same_part (place + 8 + key_length place a) (data_length place a) a b long (λ i from to. same i (omega arith) (omega arith)) in
      (λ i. record { id = take 5 (drop place b); key = take (key_is i) (drop (place + 8) b); body = take (data_is i) (drop (place + 8 + key_is i) b) })
      ∙ (λ i. record { id = id i; key = key i; body = body i })

-- the reading behind the first record
abbrev pub behind_first : ℕ → ℕ → ℕ → ℕ → List ℕ → Reading
behind_first most number place spent a = reading_from most (number + 1) (place + record_length place a) (spent + cost_at place a) a

-- a reading that has a record: its gate is open, it stands inside and isn't too dear, and the rest follows
module _ (most number place spent : ℕ) (a : List ℕ) (m : ℕ) (has : suc m ≤ length (reading_from (suc most) number place spent a).records) where
  abbrev pub rest : Reading
  rest = behind_first most number place spent a

  pub good : (is_open number a ≡ true) × (nat_lt (length a) (place + record_length place a) ≡ false) × (nat_lt 13165 (spent + cost_at place a) ≡ false)
  unfolding reading_from
  good = reached_has (is_open number a) (nat_lt (length a) (place + record_length place a)) (nat_lt 13165 (spent + cost_at place a)) number (record_at place a) rest m has

  pub first_inside : place + record_length place a ≤ length a
  first_inside = ltb-false _ _ good.1

  pub first_read : reading_from (suc most) number place spent a ≡ before (record_at place a) rest
  unfolding reading_from
  first_read = (λ i. reading_by_gate (good.0 i) (good.1 i) (good.2 i) number (record_at place a) rest)

  pub rest_has : m ≤ length rest.records
  rest_has = omega (arith, has, ap (λ (r : Reading). length r.records) first_read)

  -- what the first n + 1 of them cost
  front_costs : (n : ℕ) → cost (take (suc n) (reading_from (suc most) number place spent a).records) ≡ cost_at place a + cost (take n rest.records)
  front_costs n =
      ap (λ (r : Reading). cost (take (suc n) r.records)) first_read ∙ sum_by-cons cost_of (record_at place a) (take n rest.records)
      ∙ ap (λ (k : ℕ). k + cost (take n rest.records)) (cost_of-record_at place a first_inside)

-- The records at the front stand in every block that has their gates and their bytes.
pub reading_front : (n most left number last place spent : ℕ) (a b : List ℕ) → left + n ≡ most → number + n ≡ last
    → n ≤ length (reading_from most number place spent a).records → length b ≡ length a
    → SameBytes (128 + number) (128 + last) a b → SameBytes place (place_after n place a) a b
    → reading_from most number place spent b
    ≡ prepend (take n (reading_from most number place spent a).records) (reading_from left last (place_after n place a) (spent + cost (take n (reading_from most number place spent a).records)) b)
unfolding reading_from place_after
reading_front zero most left number last place spent a b is_most is_last there long gates area =
    let most_is : most ≡ left = omega arith in
    let last_is : number ≡ last = omega arith in
    let spent_is : spent ≡ spent + 0 = omega arith in
    (λ i. reading_from (most_is i) (last_is i) place (spent_is i) b)
reading_front (suc n) zero left number last place spent a b is_most is_last there long gates area = absurd (omega arith)
reading_front (suc n) (suc most) left number last place spent a b is_most is_last there long gates area =
    let next = place + record_length place a in
    let is_good = good most number place spent a n there in
    let later : next ≤ place_after n next a = place_after-ge n next a in
    let head : SameBytes place (place + 8) a b = λ i from to. area i from (omega arith) in
    let len_is = record_length_same place a b long head in
    let cost_is = cost_at_same place a b long head in
    let record_is : record_at place b ≡ record_at place a = record_at_same place a b long (λ i from to. area i from (omega arith)) in
    let gate : get_or b (128 + number) 0 ≡ get_or a (128 + number) 0 = gates (128 + number) (omega arith) (omega arith) in
    let open_is : is_open number b ≡ true = ap (λ (x : ℕ). x == 193) gate ∙ is_good.0 in
    let runs_is : nat_lt (length b) (place + record_length place b) ≡ false = (λ i. nat_lt (long i) (place + len_is i)) ∙ is_good.1 in
    let over_is : nat_lt 13165 (spent + cost_at place b) ≡ false = (λ i. nat_lt 13165 (spent + cost_is i)) ∙ is_good.2 in
    let of_a = first_read most number place spent a n there in
    let costs = front_costs most number place spent a n there n in
    let front = reading_front n most left (number + 1) last next (spent + cost_at place a) a b (omega arith) (omega arith) (rest_has most number place spent a n there) long
    (λ i from to. gates i (omega arith) to) (λ i from to. area i (omega arith) to) in
    let spent_is : spent + cost_at place a + cost (take n (behind_first most number place spent a).records) ≡ spent + cost (take (suc n) (reading_from (suc most) number place spent a).records) = omega (arith, costs) in
    (λ i. reading_by_gate (open_is i) (runs_is i) (over_is i) number (record_is i) (reading_from most (number + 1) (place + len_is i) (spent + cost_is i) b))
    ∙ ap (before (record_at place a)) front
    ∙ (λ i. prepend (take (suc n) (sym of_a i).records) (reading_from left last (place_after n next a) (spent_is i) b))

-- ---- places

pub nothing : (number place spent : ℕ) (b : List ℕ) → length (reading_from zero number place spent b).records ≡ 0
unfolding reading_from
nothing number place spent b = refl

push : (n place : ℕ) (b : List ℕ) → place_after (suc n) place b ≡ place_after n place b + record_length (place_after n place b) b
unfolding place_after
push zero place b = refl
push (suc n) place b = push n (place + record_length place b) b

pub place_after-push : (n place : ℕ) (b : List ℕ) → place_after (n + 1) place b ≡ place_after n place b + record_length (place_after n place b) b
place_after-push n place b = (let next : n + 1 ≡ suc n = omega arith in ap (λ (k : ℕ). place_after k place b) next) ∙ push n place b

pub place_after-zero : (place : ℕ) (b : List ℕ) → place_after 0 place b ≡ place
unfolding place_after
place_after-zero place b = refl

-- records take no more bytes than they cost
place_from : (n most number place spent : ℕ) (b : List ℕ) → n ≤ length (reading_from most number place spent b).records
    → place_after n place b ≤ place + cost (take n (reading_from most number place spent b).records)
unfolding place_after
place_from zero most number place spent b there = omega arith
place_from (suc n) zero number place spent b there = absurd (omega (arith, nothing number place spent b, there))
place_from (suc n) (suc most) number place spent b there =
    omega (
      arith,
      place_from n most (number + 1) (place + record_length place b) (spent + cost_at place b) b (rest_has most number place spent b n there),
      front_costs most number place spent b n there n,
      cost_of_lengths-ge (key_length place b) (data_length place b),
    )

-- a record of the track stands inside the block
room_from : (n most number place spent : ℕ) (b : List ℕ) → suc n ≤ length (reading_from most number place spent b).records → place_after n place b + record_length (place_after n place b) b ≤ length b
unfolding place_after
room_from n zero number place spent b there = absurd (omega (arith, nothing number place spent b, there))
room_from zero (suc most) number place spent b there = first_inside most number place spent b zero there
room_from (suc n) (suc most) number place spent b there = room_from n most (number + 1) (place + record_length place b) (spent + cost_at place b) b (rest_has most number place spent b (suc n) there)

pub record_room : (n : ℕ) (b : List ℕ) → n < length (reading b).records → place_after n 256 b + record_length (place_after n 256 b) b ≤ length b
unfolding reading
record_room n b there = room_from n 98 1 256 0 b (omega arith)

-- at most 97 records fit, and they end inside the block
module _ (n : ℕ) (a : List ℕ) (there : n ≤ length (reading a).records) where
  pub few_fit : (r : RecordData) → cost (take n (reading a).records) + cost_of r ≤ 13165 → n ≤ 96
  few_fit r fits =
      omega (arith, there, fits, length-take-le n (reading a).records there, cost-ge_length (take n (reading a).records), cost_of_lengths-ge (length r.key) (length r.body))

  pub front_inside : place_after n 256 a ≤ 256 + cost (take n (reading a).records)
  unfolding reading
  front_inside = place_from n 98 1 256 0 a there

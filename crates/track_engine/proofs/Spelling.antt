-- The bytes of an argument, cut or padded to what its count says, are the record that it spells.
use Rattle.std.proofs.Common.{◌≡◌, ℕ, ◌+◌, ◌*◌, ◌-◌, ◌≤◌, ◌<◌, List, ◌++◌, length, take, drop, get_or, replicate, sym, ap, subst, ◌∙◌, arith, length-append, length-drop}
use Rattle.std.proofs.lemmas.List.{append-nil, drop-take, drop-append-le, drop-drop, get_or_append_left, get_or-take, length-take, length-replicate, take_all, take-append-le, take-take}
use Rattle.ckd_track.specs.Data.{cost_of, cost_of_lengths}
use Rattle.ckd_track.specs.Track.{key_length, data_length, record_length, record_at, cost_at}
use Rattle.ckd_track.specs.Formatting.{IsRecord}
use Rattle.ckd_track.proofs.TrackFacts.{own_cost}
use Rattle.ckd_plain.specs.Data.{padded_bytes}
use Rattle.ckd_plain.specs.Checks.{number_at}
use Rattle.ckd_plain.specs.Effects.{new_record}
use Rattle.track_engine.specs.Writing.{Spells}

pub length-padded : (n : ℕ) (a : List ℕ) → length (padded_bytes n a) ≡ n
length-padded n a = simp (length-append, length-take, length-replicate) (omega arith)

-- the front of the bytes stays, and what is behind it is padded alike
get_or-padded : (n i : ℕ) (a : List ℕ) → i < n → i < length a → get_or (padded_bytes n a) i 0 ≡ get_or a i 0
get_or-padded n i a below inside =
    get_or_append_left (take n a) (replicate (n - length a) 0) 0 i (omega (arith, length-take n a)) ∙ get_or-take n a i 0 below

drop-padded : (k m : ℕ) (a : List ℕ) → k ≤ length a → drop k (padded_bytes (k + m) a) ≡ padded_bytes m (drop k a)
drop-padded k m a inside =
    let left : k + m - length a ≡ m - length (drop k a) = omega (arith, length-drop k a) in
    drop-append-le k (take (k + m) a) (replicate (k + m - length a) 0) (omega (arith, length-take (k + m) a))
    ∙ (λ i. drop-take k m a i ++ replicate (left i) 0)

take-padded : (k n : ℕ) (a : List ℕ) → k ≤ n → k ≤ length a → take k (padded_bytes n a) ≡ take k a
take-padded k n a below inside =
    take-append-le k (take n a) (replicate (n - length a) 0) (omega (arith, length-take n a)) ∙ take-take k n a below

module _ (a : List ℕ) (long : 8 ≤ length a) where
  abbrev whole : List ℕ
  whole = padded_bytes (record_length 0 a) a

  key_length_is : key_length 0 whole ≡ key_length 0 a
  key_length_is = get_or-padded (record_length 0 a) 5 a (omega arith) (omega arith)

  data_length_is : data_length 0 whole ≡ data_length 0 a
  data_length_is = λ i. 256 * get_or-padded (record_length 0 a) 6 a (omega arith) (omega arith) i + get_or-padded (record_length 0 a) 7 a (omega arith) (omega arith) i

  number_is : data_length 0 a ≡ number_at a 6
  number_is = omega arith

  rest : drop 8 whole ≡ padded_bytes (key_length 0 a + data_length 0 a) (drop 8 a)
  rest =
      let n_is : record_length 0 a ≡ 8 + (key_length 0 a + data_length 0 a) = omega arith in
      ap (λ (n : ℕ). drop 8 (padded_bytes n a)) n_is ∙ drop-padded 8 (key_length 0 a + data_length 0 a) a long

  is_record : IsRecord whole
  is_record = record {
    count = omega (arith, length-padded (record_length 0 a) a);
    whole = omega (arith, length-padded (record_length 0 a) a, key_length_is, data_length_is);
  }

  is_spelled : record_at 0 whole ≡ new_record a
  is_spelled =
      let id : take 5 (drop 0 whole) ≡ take 5 a = take-padded 5 (record_length 0 a) a (omega arith) (omega arith) in
      let body_whole : take (data_length 0 a) (drop (8 + key_length 0 a) whole) ≡ drop (8 + key_length 0 a) whole =
      take_all (data_length 0 a) (drop (8 + key_length 0 a) whole) (omega (arith, length-padded (record_length 0 a) a, length-drop (8 + key_length 0 a) whole)) in
      let body_rest : drop (8 + key_length 0 a) whole ≡ drop (key_length 0 a) (padded_bytes (key_length 0 a + data_length 0 a) (drop 8 a)) =
      sym (drop-drop (key_length 0 a) 8 whole) ∙ ap (drop (key_length 0 a)) rest in
      (λ i. record { id = id i; key = take (key_length_is i) (rest i); body = take (data_length_is i) (drop (8 + key_length_is i) whole) })
      ∙ (λ i. record { id = take 5 a; key = take (key_length 0 a) (padded_bytes (key_length 0 a + data_length 0 a) (drop 8 a)); body = (body_whole ∙ body_rest) i })
      ∙ (λ i. record { id = take 5 a; key = take (key_length 0 a) (padded_bytes (key_length 0 a + number_is i) (drop 8 a)); body = drop (key_length 0 a) (padded_bytes (key_length 0 a + number_is i) (drop 8 a)) })

  pub spells-padded : Spells a whole
  spells-padded = record { whole = is_record; spelled = is_spelled }

  -- where no byte is missing
  pub spells-take : record_length 0 a ≤ length a → Spells a (take (record_length 0 a) a)
  spells-take inside =
      let none : record_length 0 a - length a ≡ 0 = omega arith in
      subst (Spells a) (ap (λ (k : ℕ). take (record_length 0 a) a ++ replicate k 0) none ∙ append-nil (take (record_length 0 a) a)) spells-padded

  -- what it takes of its track
  pub cost_of-new_record : cost_of (new_record a) ≡ cost_at 0 a
  cost_of-new_record = sym (ap cost_of is_spelled) ∙ own_cost whole is_record ∙ (λ i. cost_of_lengths (key_length_is i) (data_length_is i))

-- How the reading of a block goes on from a record.
use Rattle.std.proofs.Common.{◌≡◌, ℕ, zero, suc, ◌+◌, ◌-◌, ◌≤◌, ◌<◌, Bool, true, false, nat_lt, List, [], ◌++◌, length, get_or, refl, sym, ◌∙◌, ap, arith}
use Rattle.std.proofs.lemmas.List.{append-nil}
use Rattle.std.proofs.lemmas.Bool.{le-ltb, lt-ltb, eq-eqb, ne_eqb}
use Rattle.ckd_track.specs.declared.track.TrackCause.TheVariants.{RunsPast, Overfull}
use Rattle.ckd_track.specs.Data.{RecordData}
use Rattle.ckd_track.specs.Track.{Reading, reading_of, stopped_at, record_length, record_at, cost_at, is_open, before, reading_by_gate, reading_from, reading}

-- a closed gate ends the track
pub closed_ends : (most number place spent : ℕ) (b : List ℕ) → is_open number b ≡ false → reading_from most number place spent b ≡ reading_of []
unfolding reading_from
closed_ends zero number place spent b closed = refl
closed_ends (suc most) number place spent b closed =
    (λ i. reading_by_gate (closed i) (nat_lt (length b) (place + record_length place b)) (nat_lt 13165 (spent + cost_at place b)) number (record_at place b) (reading_from most (number + 1) (place + record_length place b) (spent + cost_at place b) b))

pub closed_byte_ends : (most number place spent : ℕ) (b : List ℕ) → (get_or b (128 + number) 0 ≡ 193 → ⊥) → reading_from most number place spent b ≡ reading_of []
closed_byte_ends most number place spent b shut = closed_ends most number place spent b (ne_eqb _ _ shut)

reached_dear : (past : Bool) (number : ℕ) (r : RecordData) (rest : Reading) → length (reading_by_gate true past true number r rest).records ≡ 0
reached_dear true number r rest = refl
reached_dear false number r rest = refl

-- an open gate, at a record that can be reached
module _ (number place spent : ℕ) (b : List ℕ) (more : number ≤ 98) (opened : get_or b (128 + number) 0 ≡ 193) where
  abbrev later : Reading
  later = reading_from (98 - number) (number + 1) (place + record_length place b) (spent + cost_at place b) b

  opened_gate : reading_from (99 - number) number place spent b
      ≡ reading_by_gate true (nat_lt (length b) (place + record_length place b)) (nat_lt 13165 (spent + cost_at place b)) number (record_at place b) later
  unfolding reading_from
  opened_gate =
      let one_more : 99 - number ≡ suc (98 - number) = omega arith in
      ap (λ (m : ℕ). reading_from m number place spent b) one_more
      ∙ (λ i. reading_by_gate (eq-eqb (get_or b (128 + number) 0) 193 opened i) (nat_lt (length b) (place + record_length place b)) (nat_lt 13165 (spent + cost_at place b)) number (record_at place b) later)

  pub runs_past : length b < place + record_length place b → reading_from (99 - number) number place spent b ≡ stopped_at (record { number = number; cause = RunsPast })
  runs_past past = opened_gate ∙ (λ i. reading_by_gate true (lt-ltb _ _ past i) (nat_lt 13165 (spent + cost_at place b)) number (record_at place b) later)

  -- a record that costs too much is none, whether or not it runs past the block
  pub dear_ends : 13165 < spent + cost_at place b → length (reading_from (99 - number) number place spent b).records ≡ 0
  dear_ends over =
      ap (λ (r : Reading). length r.records) (opened_gate ∙ (λ i. reading_by_gate true (nat_lt (length b) (place + record_length place b)) (lt-ltb _ _ over i) number (record_at place b) later))
      ∙ reached_dear (nat_lt (length b) (place + record_length place b)) number (record_at place b) later

  module _ (inside : place + record_length place b ≤ length b) where
    pub overfull : 13165 < spent + cost_at place b → reading_from (99 - number) number place spent b ≡ stopped_at (record { number = number; cause = Overfull })
    overfull over = opened_gate ∙ (λ i. reading_by_gate true (le-ltb _ _ inside i) (lt-ltb _ _ over i) number (record_at place b) later)

    pub one_read : (r : RecordData) (end price : ℕ) → r ≡ record_at place b → end ≡ place + record_length place b → price ≡ spent + cost_at place b → price ≤ 13165
        → reading_from (99 - number) number place spent b ≡ before r (reading_from (99 - (number + 1)) (number + 1) end price b)
    one_read r end price r_is end_is price_is cheap =
        let left : 98 - number ≡ 99 - (number + 1) = omega arith in
        let cheap_at : spent + cost_at place b ≤ 13165 = omega (arith, price_is) in
        opened_gate ∙ (λ i. reading_by_gate true (le-ltb _ _ inside i) (le-ltb _ _ cheap_at i) number (record_at place b) later)
        ∙ (λ i. before (sym r_is i) (reading_from (left i) (number + 1) (sym end_is i) (sym price_is i) b))

reached_blank : (past over : Bool) (number : ℕ) (r : RecordData) (rest : Reading) → reading_by_gate true past over number r rest ≡ reading_of [] → ⊥
reached_blank true over number r rest same = let no = ap (λ (b : Reading). b.bad) same in absurd cc
reached_blank false true number r rest same = let no = ap (λ (b : Reading). b.bad) same in absurd cc
reached_blank false false number r rest same = let no = ap (λ (b : Reading). b.records) same in absurd cc

-- the first gate tells a blank track
pub blank_shut : (b : List ℕ) → reading b ≡ reading_of [] → get_or b 129 0 ≡ 193 → ⊥
unfolding reading
blank_shut b blank opened =
    reached_blank (nat_lt (length b) (256 + record_length 256 b)) (nat_lt 13165 (0 + cost_at 256 b)) 1 (record_at 256 b) (later 1 256 0 b (omega arith) opened) (sym (opened_gate 1 256 0 b (omega arith) opened) ∙ blank)

pub shut_blank : (b : List ℕ) → (get_or b 129 0 ≡ 193 → ⊥) → reading b ≡ reading_of []
unfolding reading
shut_blank b shut = closed_byte_ends 98 1 256 0 b shut

-- records before others
abbrev pub prepend : List RecordData → Reading → Reading
prepend rs rest = record { records = rs ++ rest.records; bad = rest.bad }

pub prepend-nil : (rs : List RecordData) → prepend rs (reading_of []) ≡ reading_of rs
prepend-nil rs = (λ i. reading_of (append-nil rs i))

-- The writes of formatting, on a site's log.
use Rattle.std.proofs.Common.{◌≡◌, ◌⊎◌, inl, inr, ℕ, ◌+◌, ◌-◌, ◌≤◌, ◌<◌, true, false, ◌==◌, List, [], ◌∷◌, length, take, get_or, refl, sym, ◌∙◌, ap, subst, arith}
use Rattle.std.proofs.lemmas.Bool.{cases_Bool, eqb-true, true≢false}
use Rattle.mss_base.specs.declared.place.UnitNo.{UnitNo}
use Rattle.mss_base.specs.Content.{SiteLog, content, splice, Adds, Settles, Writes, ChangesBlock}
use Rattle.mss_base.proofs.ContentLemmas.{get_or-splice_below, get_or-splice_above, get_or-splice_in}
use Rattle.mss_base.proofs.Moments.{block_write, block_written, block_then, block_weaker}
use Rattle.ckd_track.specs.Data.{cost, cost_of}
use Rattle.ckd_track.specs.Track.{Reading, reading, reading_of, record_at, is_open}
use Rattle.ckd_track.specs.Formatting.{formatted_records, IsRecord, IsFormatting, as_it_was, cut_short, completed, HasLaterOpen, LaterGates, SameBytes, EndsAfter, EndsBefore, StandsShut, Holds}
use Rattle.ckd_track.proofs.FormatLemmas.{ends_after, shut_after, closing, opening, holds_written, gate_written}

-- blocks with the same later gates
later_moved : (number : ℕ) (a b c : List ℕ) → LaterGates number a b → ((k : ℕ) → number < k → k ≤ 98 → get_or c (128 + k) 0 ≡ get_or b (128 + k) 0) → LaterGates number a c
later_moved number a b c later same = record {
  shut = λ has. later.shut (has.0, has.1, has.2, sym (ap (λ (x : ℕ). x == 193) (same has.0 has.1 has.2)) ∙ has.3);
  closed = λ some k from to. same k from to ∙ later.closed some k from to;
  kept = λ none k from to. same k from to ∙ later.kept none k from to;
}

-- a gate that isn't open is shut
next_shut : (n : ℕ) (b : List ℕ) → n ≤ 96 → (HasLaterOpen (n + 1) b → ⊥) → is_open (n + 2) b ≡ false
next_shut n b few none = elim (cases_Bool (is_open (n + 2) b)) [
  | inl opened ↦ absurd (none (n + 2, omega arith, omega arith, opened))
  | inr shut ↦ shut
]

module _ (unit : UnitNo) (block : ℕ) (s t : SiteLog) where
  pub close_moments : (n : ℕ) (a bytes : List ℕ) → n ≤ 96 → length a ≡ 16384 → content s unit block ≡ a → get_or a (129 + n) 0 ≡ 193 → length bytes ≡ 1
      → Adds (record { unit = unit; block = block; offset = 129 + n; bytes = bytes }) s t → Writes (ChangesBlock unit block (λ b. (b ≡ a) ⊎ EndsAfter n a b) (content s)) s t
  close_moments n a bytes few long told is one adds =
      let P : List ℕ → Type 0 = λ b. (b ≡ a) ⊎ EndsAfter n a b in
      block_write unit block (129 + n) bytes P s t adds (inl told)
      (λ left long_left. subst (λ (d : List ℕ). P (splice (129 + n) left d)) (sym told) (closing n a left (omega arith) long is (long_left ∙ one)))

  pub closed_by : (n : ℕ) (a : List ℕ) → n ≤ 96 → length a ≡ 16384 → content s unit block ≡ a
      → Adds (record { unit = unit; block = block; offset = 129 + n; bytes = 0 ∷ [] }) s t → EndsBefore n a (content t unit block)
  closed_by n a few long told adds =
      let now : content t unit block ≡ splice (129 + n) (0 ∷ []) a = block_written unit block (129 + n) (0 ∷ []) s t adds ∙ ap (λ (d : List ℕ). splice (129 + n) (0 ∷ []) d) told in
      record {
        ends = subst (EndsAfter n a) (sym now) (shut_after n a (0 ∷ []) (omega arith) long refl refl);
        later = λ i from to. ap (λ (d : List ℕ). get_or d i 0) now ∙ get_or-splice_above (129 + n) (0 ∷ []) a i (omega arith);
      }

  -- a write at the gate before them or among the records leaves the later gates as they are
  pub later_stays : (n : ℕ) (a : List ℕ) (at : ℕ) (bytes : List ℕ) → (at + length bytes ≤ 130 + n) ⊎ (256 ≤ at) → LaterGates (n + 1) a (content s unit block)
      → Adds (record { unit = unit; block = block; offset = at; bytes = bytes }) s t → LaterGates (n + 1) a (content t unit block)
  later_stays n a at bytes beside later adds =
      later_moved (n + 1) a (content s unit block) (content t unit block) later
      (λ k from to. ap (λ (d : List ℕ). get_or d (128 + k) 0) (block_written unit block at bytes s t adds) ∙ elim beside [
        | inl before ↦ get_or-splice_above at bytes (content s unit block) (128 + k) (omega arith)
        | inr behind ↦ get_or-splice_below at bytes (content s unit block) (128 + k) (omega arith)
      ])

  pub holds_after : (place : ℕ) (bytes : List ℕ) → place + length bytes ≤ length (content s unit block)
      → Adds (record { unit = unit; block = block; offset = place; bytes = bytes }) s t → Holds place bytes (content t unit block)
  holds_after place bytes inside adds =
      subst (Holds place bytes) (sym (block_written unit block place bytes s t adds)) (holds_written place bytes (content s unit block) inside)

  -- the later gates are written
  pub later_closed : (n : ℕ) (a bytes : List ℕ) → HasLaterOpen (n + 1) a → length bytes ≡ 97 - n → ((i : ℕ) → i < 97 - n → get_or bytes i 0 ≡ 0) → 227 ≤ length (content s unit block)
      → Adds (record { unit = unit; block = block; offset = 130 + n; bytes = bytes }) s t → LaterGates (n + 1) a (content t unit block)
  later_closed n a bytes some long zeros inside adds =
      let all : (k : ℕ) → n + 1 < k → k ≤ 98 → get_or (content t unit block) (128 + k) 0 ≡ 0 = λ k from to.
      ap (λ (d : List ℕ). get_or d (128 + k) 0) (block_written unit block (130 + n) bytes s t adds)
      ∙ get_or-splice_in (130 + n) bytes (content s unit block) (128 + k) (k - (n + 2)) (omega arith) (omega arith) (omega arith) ∙ zeros (k - (n + 2)) (omega arith) in
      record {
        shut = λ has. absurd (true≢false (sym has.3 ∙ ap (λ (x : ℕ). x == 193) (all has.0 has.1 has.2)));
        closed = λ _ k from to. all k from to;
        kept = λ none. absurd (none some);
      }

  module _ (n : ℕ) (a bytes : List ℕ) (few : n ≤ 96) (long : length a ≡ 16384) (there : n ≤ length (reading a).records)
      (stands : StandsShut n bytes a (content s unit block)) (is : IsRecord bytes) (cheap : cost (take n (reading a).records) + cost_of (record_at 0 bytes) ≤ 13165) where
    abbrev Opened : List ℕ → Type 0
    Opened b = EndsAfter n a b ⊎ (reading b ≡ reading_of (formatted_records n (record_at 0 bytes) (reading a).records))

    open_any : (left : List ℕ) → length left ≡ 1 → Opened (splice (129 + n) left (content s unit block))
    open_any left one = opening n (97 - n) bytes a (content s unit block) left (omega arith) there long stands.ends (next_shut n (content s unit block) few stands.later.shut) is stands.holds cheap one

    pub open_moments : (left : List ℕ) → length left ≡ 1 → Adds (record { unit = unit; block = block; offset = 129 + n; bytes = left }) s t → Writes (ChangesBlock unit block Opened (content s)) s t
    open_moments left one adds = block_write unit block (129 + n) left Opened s t adds (inl stands.ends) (λ other long_other. open_any other (long_other ∙ one))

    pub open_done : Adds (record { unit = unit; block = block; offset = 129 + n; bytes = 193 ∷ [] }) s t → reading (content t unit block) ≡ reading_of (formatted_records n (record_at 0 bytes) (reading a).records)
    open_done adds = ap reading (block_written unit block (129 + n) (193 ∷ []) s t adds) ∙ elim (open_any (193 ∷ []) refl) [
      | inl shut ↦ absurd (true≢false (sym (gate_written n (193 ∷ []) (content s unit block) refl (omega (arith, stands.ends.front.long))) ∙ shut.closed))
      | inr done ↦ done
    ]

-- an open gate's byte
pub gate_byte : (n : ℕ) (a : List ℕ) → is_open (n + 1) a ≡ true → get_or a (129 + n) 0 ≡ 193
gate_byte n a opened =
    let there : 129 + n ≡ 128 + (n + 1) = omega arith in
    ap (λ (k : ℕ). get_or a k 0) there ∙ eqb-true (get_or a (128 + (n + 1)) 0) 193 opened

-- the later gates are as they were, and none was open
pub later_kept : (n : ℕ) (a b : List ℕ) → SameBytes (130 + n) 227 a b → (HasLaterOpen (n + 1) a → ⊥) → LaterGates (n + 1) a b
later_kept n a b same none = record {
  shut = λ has. none (has.0, has.1, has.2, sym (ap (λ (x : ℕ). x == 193) (same (128 + has.0) (omega (arith, has.1)) (omega (arith, has.2)))) ∙ has.3);
  closed = λ some. absurd (none some);
  kept = λ _ k from to. same (128 + k) (omega arith) (omega arith);
}

-- the three steps, one after another
module _ (unit : UnitNo) (block n : ℕ) (a bytes : List ℕ) (few : n ≤ 96) (there : n ≤ length (reading a).records) where
  abbrev Closing : List ℕ → Type 0
  Closing b = (b ≡ a) ⊎ EndsAfter n a b

  abbrev Opening : List ℕ → Type 0
  Opening b = EndsAfter n a b ⊎ (reading b ≡ reading_of (formatted_records n (record_at 0 bytes) (reading a).records))

  abbrev Formats : List ℕ → Type 0
  Formats b = IsFormatting n (record_at 0 bytes) (reading a) (reading b)

  from_ends : (b : List ℕ) → EndsAfter n a b → Formats b
  from_ends b ends =
      let is : reading b ≡ reading_of (take n (reading a).records) = ends_after n (97 - n) (omega arith) a b there ends in
      record { reading = cut_short is; track = λ _. ap (λ (r : Reading). r.bad) is; records = cut_short (ap (λ (r : Reading). r.records) is) }

  from_closing : (b : List ℕ) → Closing b → Formats b
  from_closing b (inl same) =
      let is : reading b ≡ reading a = ap reading same in
      record { reading = as_it_was is; track = λ sound. ap (λ (r : Reading). r.bad) is ∙ sound; records = as_it_was (ap (λ (r : Reading). r.records) is) }
  from_closing b (inr ends) = from_ends b ends

  from_opening : (b : List ℕ) → Opening b → Formats b
  from_opening b (inl ends) = from_ends b ends
  from_opening b (inr is) = record { reading = completed is; track = λ _. ap (λ (r : Reading). r.bad) is; records = completed (ap (λ (r : Reading). r.records) is) }

  -- one block's writes, each behind the others
  abbrev Run : (List ℕ → Type 0) → SiteLog → SiteLog → Type 0
  Run P s t = Writes (ChangesBlock unit block P (content s)) s t

  pub after_one : (s t : SiteLog) → Run Closing s t → Run Formats s t
  after_one s t one = block_weaker unit block Closing Formats from_closing s t one

  -- a step behind others of which nothing is loose
  step : (P : List ℕ → Type 0) → ((b : List ℕ) → P b → Formats b) → (s t u : SiteLog) → Settles s t → Run Formats s t → Run P t u → Run Formats s u
  step P from_P s t u firm before next = block_then unit block Formats P Formats (λ b has. has) from_P s t u firm before next

  pub after_two : (s t u : SiteLog) → Settles s t → Run Closing s t → Run (EndsAfter n a) t u → Run Formats s u
  after_two s t u firm one two = step (EndsAfter n a) from_ends s t u firm (after_one s t one) two

  pub after_three : (s t u v : SiteLog) → Settles s t → Settles s u → Run Closing s t → Run (EndsAfter n a) t u → Run Opening u v → Run Formats s v
  after_three s t u v firm firm_too one two three = step Opening from_opening s u v firm_too (after_two s t u firm one two) three

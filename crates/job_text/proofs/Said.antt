-- A line that is read says what a line may say.
use Rattle.std.proofs.Common.{◌≡◌, ℕ, zero, suc, ◌<◌, ◌≤◌, true, false, List, [], ◌∷◌, ◌++◌, Ok, refl, subst, arith, inl, inr}
use Rattle.std.specs.Prelude.{nat_le, ◌&&◌, unwrap_or, slice_index, replicate, codes}
use Rattle.std.specs.List.{list_all, AllByRecursion}
use Rattle.std.proofs.lemmas.Bool.{cases_Bool, and_parts, leb-true}
use Rattle.std.proofs.lemmas.Bool.Decides.{nat_tests}
use Rattle.hex.specs.Hex.{hex_digit_value}
use Rattle.job_text.specs.declared.kind.Keyword.{Keyword}
use Rattle.job_text.specs.declared.kind.Keyword.TheVariants.{Mss, Volume, Host, Done, Mount, Demount, Program, Ccw, Tic, End}
use Rattle.mss_base.specs.Decimal.{number_of}
use Rattle.job_text.specs.Words.{bytes_of, byte_of}
use Rattle.job_text.specs.Lines.{LineData, mss, volume, host, done, mount, demount, program, ccw, tic, end, Slot, number, serial, byte, hex, fixed_slot, checked_line, line_of}
use Rattle.job_text.specs.Canonical.{keyword_of, IsLine}

-- the line, where a form was checked
checked_ok : (slots : List Slot) (line said : LineData) → checked_line slots line ≡ Ok said
    → (list_all (λ slot. slot.spelled) slots ≡ true) × (list_all (λ slot. slot.within) slots ≡ true) × (line ≡ said)
checked_ok slots line said h = elim (cases_Bool (list_all (λ slot. slot.spelled) slots)) [
  | inr bad ↦ absurd (let err = rw bad at h in cc)
  | inl spelled ↦ elim (cases_Bool (list_all (λ slot. slot.within) slots)) [
    | inr bad ↦ absurd (let err = rw (spelled, bad) at h in cc)
    | inl within ↦ (spelled, within, (let same = rw (spelled, within) at h in cc))
  ]
]

between : (low n high : ℕ) → (nat_le low n && nat_le n high) ≡ true → (low ≤ n) × (n ≤ high)
between low n high h = let t = and_parts _ _ h in (leb-true low n t.0, leb-true n high t.1)

digit_small : (d : ℕ) → unwrap_or (hex_digit_value d) 0 < 16
digit_small d = grind (arith, nat_tests)

bytes_small : (word : List ℕ) → AllByRecursion (λ b. b < 256) (bytes_of word)
bytes_small [] = tt
bytes_small (digit ∷ []) = tt
bytes_small (high ∷ low ∷ word) = (let a = digit_small high in let b = digit_small low in omega arith, bytes_small word)

first_small : (bytes : List ℕ) → AllByRecursion (λ b. b < 256) bytes → slice_index bytes 0 < 256
first_small [] h = omega arith
first_small (b ∷ bytes) h = h.0

append_small : (xs ys : List ℕ) → AllByRecursion (λ b. b < 256) xs → AllByRecursion (λ b. b < 256) ys → AllByRecursion (λ b. b < 256) (xs ++ ys)
append_small [] ys h k = k
append_small (x ∷ xs) ys h k = (h.0, append_small xs ys h.1 k)

copies_small : (n b : ℕ) → b < 256 → AllByRecursion (λ c. c < 256) (replicate n b)
copies_small zero b h = tt
copies_small (suc n) b h = (h, copies_small n b h)

byte_small : (word : List ℕ) → byte_of word < 256
byte_small word = first_small (bytes_of word) (bytes_small word)

-- what a line says may be said, and has the keyword
abbrev pub IsSaid : Keyword → LineData → Type 0
IsSaid k line = IsLine line × (keyword_of line ≡ k)

said_of : (k : Keyword) (line said : LineData) → line ≡ said → IsLine line → keyword_of line ≡ k → IsSaid k said
said_of k line said same is of = subst (IsSaid k) same (is, of)

pub is_said : (k : Keyword) (words : List (List ℕ)) (line : LineData) → line_of k words ≡ Ok line → IsSaid k line
is_said Mss (v ∷ a ∷ f ∷ b ∷ r ∷ []) line h =
    let slots = number 1 1 v ∷ fixed_slot (codes "frames") a ∷ number 1 200 f ∷ fixed_slot (codes "recorders") b ∷ number 1 8 r ∷ [] in
    let t = checked_ok slots (mss (number_of f) (number_of r)) line h in
    let p = and_parts _ _ (and_parts _ _ t.1).1 in
    let frames = between 1 (number_of f) 200 p.0 in
    let recorders = between 1 (number_of r) 8 (and_parts _ _ p.1).0 in
    said_of Mss (mss (number_of f) (number_of r)) line t.2 (frames.0, frames.1, recorders.0, recorders.1) refl
is_said Volume (v ∷ s ∷ []) line h =
    let t = checked_ok (number 0 31 v ∷ serial s ∷ []) (volume (number_of v) s false) line h in
    let n = between 0 (number_of v) 31 (and_parts _ _ t.1).0 in
    let parts = and_parts _ _ t.0 in
    said_of Volume (volume (number_of v) s false) line t.2 (n.1, (and_parts _ _ parts.1).0) refl
is_said Volume (v ∷ s ∷ r ∷ []) line h =
    let slots = number 0 31 v ∷ serial s ∷ fixed_slot (codes "readonly") r ∷ [] in
    let t = checked_ok slots (volume (number_of v) s true) line h in
    let n = between 0 (number_of v) 31 (and_parts _ _ t.1).0 in
    let parts = and_parts _ _ t.0 in
    said_of Volume (volume (number_of v) s true) line t.2 (n.1, (and_parts _ _ parts.1).0) refl
is_said Host (n ∷ []) line h =
    let t = checked_ok (number 1 8 n ∷ []) (host (number_of n)) line h in
    said_of Host (host (number_of n)) line t.2 (between 1 (number_of n) 8 (and_parts _ _ t.1).0) refl
is_said Done [] line h = (let same : done ≡ line = cc in said_of Done done line same tt refl)
is_said Mount (s ∷ []) line h = (let t = checked_ok (serial s ∷ []) (mount s false) line h in said_of Mount (mount s false) line t.2 (and_parts _ _ t.0).0 refl)
is_said Mount (s ∷ b ∷ []) line h = (let t = checked_ok (serial s ∷ fixed_slot (codes "bind") b ∷ []) (mount s true) line h in said_of Mount (mount s true) line t.2 (and_parts _ _ t.0).0 refl)
is_said Demount [] line h = (let same : demount ≡ line = cc in said_of Demount demount line same tt refl)
is_said Program [] line h = (let same : program ≡ line = cc in said_of Program program line same tt refl)
is_said Ccw (c ∷ []) line h = said_of Ccw (ccw (byte_of c) []) line (checked_ok (byte c ∷ []) (ccw (byte_of c) []) line h).2 (byte_small c, tt) refl
is_said Ccw (c ∷ x ∷ []) line h = said_of Ccw (ccw (byte_of c) (bytes_of x)) line (checked_ok (byte c ∷ hex x ∷ []) (ccw (byte_of c) (bytes_of x)) line h).2 (byte_small c, bytes_small x) refl
is_said Ccw (c ∷ f ∷ b ∷ n ∷ []) line h =
    let fill = replicate (number_of n) (byte_of b) in
    let slots = byte c ∷ fixed_slot (codes "fill") f ∷ byte b ∷ number 1 65798 n ∷ [] in
    said_of Ccw (ccw (byte_of c) fill) line (checked_ok slots (ccw (byte_of c) fill) line h).2 (byte_small c, copies_small (number_of n) (byte_of b) (byte_small b)) refl
is_said Ccw (c ∷ x ∷ f ∷ b ∷ n ∷ []) line h =
    let fill = replicate (number_of n) (byte_of b) in
    let slots = byte c ∷ hex x ∷ fixed_slot (codes "fill") f ∷ byte b ∷ number 1 65798 n ∷ [] in
    said_of Ccw (ccw (byte_of c) (bytes_of x ++ fill)) line (checked_ok slots (ccw (byte_of c) (bytes_of x ++ fill)) line h).2
    (byte_small c, append_small (bytes_of x) fill (bytes_small x) (copies_small (number_of n) (byte_of b) (byte_small b))) refl
is_said Tic (n ∷ []) line h = (let t = checked_ok (number 0 255 n ∷ []) (tic (number_of n)) line h in said_of Tic (tic (number_of n)) line t.2 (between 0 (number_of n) 255 (and_parts _ _ t.1).0).1 refl)
is_said End [] line h = (let same : end ≡ line = cc in said_of End end line same tt refl)
is_said k words line h = absurd (cc)

-- Bytes of items that are done again, where some are loose.
use Rattle.std.proofs.Common.{◌≡◌, ◌⊎◌, inl, inr, ℕ, zero, suc, ◌+◌, ◌-◌, ◌≤◌, ◌<◌, Bool, true, false, not, ◌&&◌, ◌||◌, ◌==◌, cond, List, [], ◌∷◌, length, replicate, get_or, Option, refl, sym, ◌∙◌, ap, arith}
use Rattle.std.specs.Prelude.{nat_le, nat_lt}
use Rattle.std.proofs.lemmas.List.{ext_get_or, get_or-replicate, length-replicate}
use Rattle.std.proofs.lemmas.Bool.{cases_Bool, cases_lt, cond-true, cond-false, and_from, and_parts, false≢true}
use Rattle.std.proofs.lemmas.Bool.Decides.{nat_tests}
use Rattle.mss_base.specs.declared.place.UnitNo.{UnitNo}
use Rattle.mss_base.specs.Content.{Content, Write, Item, wrote, synced, synced_all, unsynced, same_unit, splice, with_write, with_item, after, Places, in_range, loose_with, loose_after, Tear, torn_block, torn_byte, with_tear, length-with_write}
use Rattle.mss_base.proofs.ContentLemmas.{same_unit-true, get_or-splice_below, get_or-splice_above, get_or-splice_in}
use Rattle.mss_base.proofs.TornLemmas.{length-torn}
use Rattle.memory_devices.specs.Tears.{is_synced, firm_after}
use Rattle.memory_devices.specs.Redone.{filled_write, loosely, redone_item, redone}
use Rattle.memory_devices.specs.declared.tearing.Loose.{Loose}
use Rattle.memory_devices.specs.declared.tearing.Loose.TheVariants.{Kept, Filled, LeftOut}

-- ---- bytes by their places

-- a byte under a tear
get_or_torn : (is_open : ℕ → Bool) (tear : ℕ → Option ℕ) (xs : List ℕ) (i : ℕ) → i < length xs → get_or (torn_block is_open tear xs) i 0 ≡ torn_byte (is_open i) (tear i) (get_or xs i 0)
get_or_torn is_open tear [] i lt = absurd (omega arith)
get_or_torn is_open tear (x ∷ xs) zero lt = refl
get_or_torn is_open tear (x ∷ xs) (suc i) lt = get_or_torn (λ n. is_open (suc n)) (λ n. tear (suc n)) xs i (omega arith)

-- a content is what a tear makes of another one, where each byte is
pub by_bytes : (c d : Content) (is_open : Places) (tear : Tear) → ((unit : UnitNo) (block : ℕ) → length (d unit block) ≡ length (c unit block))
    → ((unit : UnitNo) (block place : ℕ) → place < length (c unit block) → get_or (d unit block) place 0 ≡ torn_byte (is_open unit block place) (tear unit block place) (get_or (c unit block) place 0))
    → d ≡ with_tear c is_open tear
by_bytes c d is_open tear long each = λ i unit block. at unit block i
  where
    at : (unit : UnitNo) (block : ℕ) → d unit block ≡ with_tear c is_open tear unit block
    at unit block =
        ext_get_or 0 (d unit block) (with_tear c is_open tear unit block) (long unit block ∙ sym (length-torn (is_open unit block) (tear unit block) (c unit block)))
        (λ i lt.
        let within : i < length (c unit block) = omega (arith, long unit block, lt) in
        each unit block i within ∙ sym (get_or_torn (is_open unit block) (tear unit block) (c unit block) i within))

-- a byte after a write: in its range, and out of it
pub byte_in : (c : Content) (w : Write) (unit : UnitNo) (block place : ℕ) → place < length (c unit block) → in_range w unit block place ≡ true → get_or (with_write c w unit block) place 0 ≡ get_or w.bytes (place - w.offset) 0
byte_in c w unit block place lt is =
    let parts = and_parts (same_unit w.unit unit && (w.block == block)) (nat_le w.offset place && nat_lt place (w.offset + length w.bytes)) is in
    let from : w.offset ≤ place = grind (arith, nat_tests, and_parts (nat_le w.offset place) (nat_lt place (w.offset + length w.bytes)) parts.1) in
    let to : place < w.offset + length w.bytes = grind (arith, nat_tests, and_parts (nat_le w.offset place) (nat_lt place (w.offset + length w.bytes)) parts.1) in
    ap (λ (l : List ℕ). get_or l place 0) (cond-true (same_unit w.unit unit && (w.block == block)) (splice w.offset w.bytes (c unit block)) (c unit block) parts.0)
    ∙ get_or-splice_in w.offset w.bytes (c unit block) place (place - w.offset) (omega arith) (omega arith) lt

pub byte_out : (c : Content) (w : Write) (unit : UnitNo) (block place : ℕ) → in_range w unit block place ≡ false → get_or (with_write c w unit block) place 0 ≡ get_or (c unit block) place 0
byte_out c w unit block place out = elim (cases_Bool (same_unit w.unit unit && (w.block == block))) [
  | inl here ↦
      ap (λ (l : List ℕ). get_or l place 0) (cond-true (same_unit w.unit unit && (w.block == block)) (splice w.offset w.bytes (c unit block)) (c unit block) here)
      ∙ beside (cases_lt place w.offset) (cases_lt place (w.offset + length w.bytes)) here
  | inr other ↦ ap (λ (l : List ℕ). get_or l place 0) (cond-false (same_unit w.unit unit && (w.block == block)) (splice w.offset w.bytes (c unit block)) (c unit block) other)
]
  where
    inside : w.offset ≤ place → place < w.offset + length w.bytes → (nat_le w.offset place && nat_lt place (w.offset + length w.bytes)) ≡ true
    inside from to = grind (arith, nat_tests)

    beside : (place < w.offset) ⊎ (w.offset ≤ place) → (place < w.offset + length w.bytes) ⊎ (w.offset + length w.bytes ≤ place) → (same_unit w.unit unit && (w.block == block)) ≡ true
        → get_or (splice w.offset w.bytes (c unit block)) place 0 ≡ get_or (c unit block) place 0
    beside (inl below) right here = get_or-splice_below w.offset w.bytes (c unit block) place below
    beside (inr from) (inl to) here =
        absurd (false≢true (sym out ∙ and_from (same_unit w.unit unit && (w.block == block)) (nat_le w.offset place && nat_lt place (w.offset + length w.bytes)) here (inside from to)))
    beside (inr from) (inr above) here = get_or-splice_above w.offset w.bytes (c unit block) place above

-- a write of as many other bytes has the same range
same_range : (w : Write) (bytes : List ℕ) (unit : UnitNo) (block place : ℕ) → length bytes ≡ length w.bytes → in_range (record w { bytes = bytes }) unit block place ≡ in_range w unit block place
same_range w bytes unit block place long = ap (λ (n : ℕ). (same_unit w.unit unit && (w.block == block)) && (nat_le w.offset place && nat_lt place (w.offset + n))) long

pub byte_in_other : (c : Content) (w : Write) (bytes : List ℕ) (unit : UnitNo) (block place : ℕ) → length bytes ≡ length w.bytes → place < length (c unit block) → in_range w unit block place ≡ true
    → get_or (with_write c (record w { bytes = bytes }) unit block) place 0 ≡ get_or bytes (place - w.offset) 0
byte_in_other c w bytes unit block place long lt is = byte_in c (record w { bytes = bytes }) unit block place lt (same_range w bytes unit block place long ∙ is)

pub byte_out_other : (c : Content) (w : Write) (bytes : List ℕ) (unit : UnitNo) (block place : ℕ) → length bytes ≡ length w.bytes → in_range w unit block place ≡ false
    → get_or (with_write c (record w { bytes = bytes }) unit block) place 0 ≡ get_or (c unit block) place 0
byte_out_other c w bytes unit block place long out = byte_out c (record w { bytes = bytes }) unit block place (same_range w bytes unit block place long ∙ out)

-- the unit of a place in a write's range
in_unit : (w : Write) (unit : UnitNo) (block place : ℕ) → in_range w unit block place ≡ true → w.unit ≡ unit
in_unit w unit block place is =
    let here = and_parts (same_unit w.unit unit && (w.block == block)) (nat_le w.offset place && nat_lt place (w.offset + length w.bytes)) is in
    same_unit-true w.unit unit (and_parts (same_unit w.unit unit) (w.block == block) here.0).0

-- one byte over and over
pub byte_filled : (byte : ℕ) (c : Content) (w : Write) (unit : UnitNo) (block place : ℕ) → place < length (c unit block) → in_range w unit block place ≡ true
    → get_or (with_write c (filled_write byte w) unit block) place 0 ≡ byte
byte_filled byte c w unit block place lt is =
    let parts = and_parts (same_unit w.unit unit && (w.block == block)) (nat_le w.offset place && nat_lt place (w.offset + length w.bytes)) is in
    let from : w.offset ≤ place = grind (arith, nat_tests, and_parts (nat_le w.offset place) (nat_lt place (w.offset + length w.bytes)) parts.1) in
    let to : place < w.offset + length w.bytes = grind (arith, nat_tests, and_parts (nat_le w.offset place) (nat_lt place (w.offset + length w.bytes)) parts.1) in
    byte_in_other c w (replicate (length w.bytes) byte) unit block place (length-replicate (length w.bytes) byte) lt is ∙ get_or-replicate (length w.bytes) (place - w.offset) byte 0 (omega arith)

-- ---- items done again

length-redone_item : (how : Loose) (is_firm : UnitNo → Bool) (c : Content) (x : Item) (unit : UnitNo) (block : ℕ) → length (redone_item how is_firm c x unit block) ≡ length (c unit block)
length-redone_item how is_firm c (wrote w) unit block = by_firm (is_firm w.unit)
  where
    loose : (how : Loose) → length (loosely how c w unit block) ≡ length (c unit block)
    loose Kept = length-with_write c w unit block
    loose (Filled byte) = length-with_write c (filled_write byte w) unit block
    loose LeftOut = refl

    by_firm : (b : Bool) → length (cond b (with_write c w) (loosely how c w) unit block) ≡ length (c unit block)
    by_firm true = length-with_write c w unit block
    by_firm false = loose how
length-redone_item how is_firm c (synced u) unit block = refl
length-redone_item how is_firm c synced_all unit block = refl
length-redone_item how is_firm c unsynced unit block = refl

pub length-redone : (how : Loose) (c : Content) (xs : List Item) (unit : UnitNo) (block : ℕ) → length (redone how c xs unit block) ≡ length (c unit block)
length-redone how c [] unit block = refl
length-redone how c (x ∷ xs) unit block =
    length-redone how (redone_item how (λ u. is_synced u xs) c x) xs unit block ∙ length-redone_item how (λ u. is_synced u xs) c x unit block

-- all of them
kept_item : (is_firm : UnitNo → Bool) (c : Content) (x : Item) → redone_item Kept is_firm c x ≡ with_item c x
kept_item is_firm c (wrote w) = both (is_firm w.unit)
  where
    both : (b : Bool) → cond b (with_write c w) (with_write c w) ≡ with_write c w
    both true = refl
    both false = refl
kept_item is_firm c (synced u) = refl
kept_item is_firm c synced_all = refl
kept_item is_firm c unsynced = refl

pub redone_kept : (c : Content) (xs : List Item) → redone Kept c xs ≡ after c xs
redone_kept c [] = refl
redone_kept c (x ∷ xs) = ap (λ (d : Content). redone Kept d xs) (kept_item (λ u. is_synced u xs) c x) ∙ redone_kept (with_item c x) xs

-- the firm ones
pub redone_firm : (c : Content) (xs : List Item) → redone LeftOut c xs ≡ firm_after c xs
redone_firm c [] = refl
redone_firm c (wrote w ∷ xs) = redone_firm (cond (is_synced w.unit xs) (with_write c w) c) xs
redone_firm c (synced u ∷ xs) = redone_firm c xs
redone_firm c (synced_all ∷ xs) = redone_firm c xs
redone_firm c (unsynced ∷ xs) = redone_firm c xs

-- a byte out of a write's range stays, whatever becomes of the write
stays_out : (how : Loose) (is_firm : UnitNo → Bool) (c : Content) (w : Write) (unit : UnitNo) (block place : ℕ) → in_range w unit block place ≡ false
    → get_or (redone_item how is_firm c (wrote w) unit block) place 0 ≡ get_or (c unit block) place 0
stays_out how is_firm c w unit block place out = by_firm (is_firm w.unit)
  where
    loose : (how : Loose) → get_or (loosely how c w unit block) place 0 ≡ get_or (c unit block) place 0
    loose Kept = byte_out c w unit block place out
    loose (Filled byte) = byte_out_other c w (replicate (length w.bytes) byte) unit block place (length-replicate (length w.bytes) byte) out
    loose LeftOut = refl

    by_firm : (b : Bool) → get_or (cond b (with_write c w) (loosely how c w) unit block) place 0 ≡ get_or (c unit block) place 0
    by_firm true = byte_out c w unit block place out
    by_firm false = loose how

-- whether a place with a loose write is loose still behind these items
abbrev still : Bool → UnitNo → List Item → Bool
still is_loose unit xs = is_loose && not (is_synced unit xs)

still_synced : (b a s : Bool) → (b && not (a || s)) ≡ ((b && not a) && not s)
still_synced true true s = refl
still_synced true false s = refl
still_synced false a s = refl

still_none : (b s : Bool) → (b && not (true || s)) ≡ (false && not s)
still_none true s = refl
still_none false s = refl

still_out : (b r s : Bool) → r ≡ false → (b && not (false || s)) ≡ ((b || r) && not s)
still_out true true s out = absurd (false≢true (sym out))
still_out true false s out = refl
still_out false true s out = absurd (false≢true (sym out))
still_out false false s out = refl

firm_in : (b r s : Bool) → r ≡ true → ((b || r) && not s) ≡ false → s ≡ true
firm_in true r true is shut = refl
firm_in true r false is shut = sym shut
firm_in false true true is shut = refl
firm_in false true false is shut = sym shut
firm_in false false s is shut = absurd (false≢true is)

loose_in : (b s : Bool) → (b && not s) ≡ true → s ≡ false
loose_in true true is = sym is
loose_in true false is = refl
loose_in false s is = absurd (false≢true is)

unloose : (b : Bool) → (b && true) ≡ b
unloose true = refl
unloose false = refl

-- where no place is loose, a byte is that of all items
pub agrees : (how : Loose) (c d : Content) (p : Places) (xs : List Item) (unit : UnitNo) (block place : ℕ) → place < length (c unit block) → place < length (d unit block)
    → (still (p unit block place) unit xs ≡ false → get_or (d unit block) place 0 ≡ get_or (c unit block) place 0)
    → loose_after p xs unit block place ≡ false → get_or (redone how d xs unit block) place 0 ≡ get_or (after c xs unit block) place 0
agrees how c d p [] unit block place in_c in_d same shut = same (unloose (p unit block place) ∙ shut)
agrees how c d p (wrote w ∷ xs) unit block place in_c in_d same shut =
    agrees how (with_write c w) (redone_item how firm d (wrote w)) (loose_with p (wrote w)) xs unit block place
    (omega (arith, length-with_write c w unit block)) (omega (arith, length-redone_item how firm d (wrote w) unit block))
    (λ none. elim (cases_Bool (in_range w unit block place)) [
      | inl is ↦
          let here : is_synced w.unit xs ≡ true = ap (λ (u : UnitNo). is_synced u xs) (in_unit w unit block place is) ∙ firm_in (p unit block place) (in_range w unit block place) (is_synced unit xs) is none in
          ap (λ (e : Content). get_or (e unit block) place 0) (cond-true (is_synced w.unit xs) (with_write d w) (loosely how d w) here)
          ∙ byte_in d w unit block place in_d is ∙ sym (byte_in c w unit block place in_c is)
      | inr out ↦
          stays_out how firm d w unit block place out ∙ same (still_out (p unit block place) (in_range w unit block place) (is_synced unit xs) out ∙ none)
          ∙ sym (byte_out c w unit block place out)
    ])
    shut
  where
    firm : UnitNo → Bool
    firm u = is_synced u xs
agrees how c d p (synced u ∷ xs) unit block place in_c in_d same shut =
    agrees how c d (loose_with p (synced u)) xs unit block place in_c in_d (λ none. same (still_synced (p unit block place) (same_unit u unit) (is_synced unit xs) ∙ none)) shut
agrees how c d p (synced_all ∷ xs) unit block place in_c in_d same shut =
    agrees how c d (loose_with p synced_all) xs unit block place in_c in_d (λ none. same (still_none (p unit block place) (is_synced unit xs) ∙ none)) shut
agrees how c d p (unsynced ∷ xs) unit block place in_c in_d same shut = agrees how c d (loose_with p unsynced) xs unit block place in_c in_d same shut

-- where one is, it is the byte that loose writes are filled with
pub fills : (byte : ℕ) (d : Content) (p : Places) (xs : List Item) (unit : UnitNo) (block place : ℕ) → place < length (d unit block)
    → (still (p unit block place) unit xs ≡ true → get_or (d unit block) place 0 ≡ byte)
    → loose_after p xs unit block place ≡ true → get_or (redone (Filled byte) d xs unit block) place 0 ≡ byte
fills byte d p [] unit block place in_d same is_open = same (unloose (p unit block place) ∙ is_open)
fills byte d p (wrote w ∷ xs) unit block place in_d same is_open =
    fills byte (redone_item (Filled byte) firm d (wrote w)) (loose_with p (wrote w)) xs unit block place (omega (arith, length-redone_item (Filled byte) firm d (wrote w) unit block))
    (λ some. elim (cases_Bool (in_range w unit block place)) [
      | inl is ↦
          let here : is_synced w.unit xs ≡ false = ap (λ (u : UnitNo). is_synced u xs) (in_unit w unit block place is) ∙ loose_in (p unit block place || in_range w unit block place) (is_synced unit xs) some in
          ap (λ (e : Content). get_or (e unit block) place 0) (cond-false (is_synced w.unit xs) (with_write d w) (loosely (Filled byte) d w) here)
          ∙ byte_filled byte d w unit block place in_d is
      | inr out ↦
          stays_out (Filled byte) firm d w unit block place out ∙ same (still_out (p unit block place) (in_range w unit block place) (is_synced unit xs) out ∙ some)
    ])
    is_open
  where
    firm : UnitNo → Bool
    firm u = is_synced u xs
fills byte d p (synced u ∷ xs) unit block place in_d same is_open =
    fills byte d (loose_with p (synced u)) xs unit block place in_d (λ some. same (still_synced (p unit block place) (same_unit u unit) (is_synced unit xs) ∙ some)) is_open
fills byte d p (synced_all ∷ xs) unit block place in_d same is_open =
    fills byte d (loose_with p synced_all) xs unit block place in_d (λ some. same (still_none (p unit block place) (is_synced unit xs) ∙ some)) is_open
fills byte d p (unsynced ∷ xs) unit block place in_d same is_open = fills byte d (loose_with p unsynced) xs unit block place in_d same is_open

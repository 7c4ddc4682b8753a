-- Blocks with the bytes of a tear at open places. Layers above cite these lemmas.
use Rattle.std.proofs.Common.{◌≡◌, ◌⊎◌, inl, inr, ℕ, zero, suc, ◌+◌, ◌≤◌, ◌<◌, Bool, true, false, ◌&&◌, cond, List, [], ◌∷◌, length, replicate, get_or, Option, Some, None, refl, sym, ◌∙◌, ap, arith}
use Rattle.std.specs.Prelude.{nat_le, nat_lt}
use Rattle.std.proofs.lemmas.List.{length-replicate}
use Rattle.std.proofs.lemmas.Bool.{false≢true}
use Rattle.std.proofs.lemmas.Bool.Decides.{nat_tests}
use Rattle.mss_base.specs.declared.place.UnitNo.{UnitNo}
use Rattle.mss_base.specs.Content.{Content, Places, Tear, no_tear, splice, torn_block, torn_byte, with_tear}

byte_none : (is_open : Bool) (was : ℕ) → torn_byte is_open None was ≡ was
byte_none true was = refl
byte_none false was = refl

byte_shut : (is_open : Bool) (byte : Option ℕ) (was : ℕ) → is_open ≡ false → torn_byte is_open byte was ≡ was
byte_shut true byte was shut = absurd (false≢true (sym shut))
byte_shut false byte was shut = refl

-- a tear without bytes changes nothing
pub torn_none : (is_open : ℕ → Bool) (xs : List ℕ) → torn_block is_open (λ i. None) xs ≡ xs
torn_none is_open [] = refl
torn_none is_open (x ∷ xs) = (λ i. byte_none (is_open 0) x i ∷ torn_none (λ n. is_open (suc n)) xs i)

-- nor does any where no place is open
pub torn_shut : (is_open : ℕ → Bool) (tear : ℕ → Option ℕ) (xs : List ℕ) → ((i : ℕ) → is_open i ≡ false) → torn_block is_open tear xs ≡ xs
torn_shut is_open tear [] shut = refl
torn_shut is_open tear (x ∷ xs) shut =
    (λ i. byte_shut (is_open 0) (tear 0) x (shut 0) i ∷ torn_shut (λ n. is_open (suc n)) (λ n. tear (suc n)) xs (λ n. shut (suc n)) i)

-- and none changes the length
pub length-torn : (is_open : ℕ → Bool) (tear : ℕ → Option ℕ) (xs : List ℕ) → length (torn_block is_open tear xs) ≡ length xs
length-torn is_open tear [] = refl
length-torn is_open tear (x ∷ xs) = ap suc (length-torn (λ n. is_open (suc n)) (λ n. tear (suc n)) xs)

-- or a byte at a place that isn't open
pub get_or-torn : (is_open : ℕ → Bool) (tear : ℕ → Option ℕ) (xs : List ℕ) (i : ℕ) → is_open i ≡ false → get_or (torn_block is_open tear xs) i 0 ≡ get_or xs i 0
get_or-torn is_open tear [] i shut = refl
get_or-torn is_open tear (x ∷ xs) zero shut = byte_shut (is_open 0) (tear 0) x shut
get_or-torn is_open tear (x ∷ xs) (suc i) shut = get_or-torn (λ n. is_open (suc n)) (λ n. tear (suc n)) xs i shut

-- a tear that keeps to some places
abbrev pub kept_to : (ℕ → Bool) → (ℕ → Option ℕ) → ℕ → Option ℕ
kept_to few tear i = cond (few i) (tear i) None

byte_fewer : (few many : Bool) (byte : Option ℕ) (was : ℕ) → (few ≡ true → many ≡ true) → torn_byte few byte was ≡ torn_byte many (cond few byte None) was
byte_fewer true true byte was gives = refl
byte_fewer true false byte was gives = absurd (false≢true (gives refl))
byte_fewer false many byte was gives = sym (byte_none many was)

-- what fewer open places allow, more do
pub torn_fewer : (few many : ℕ → Bool) (tear : ℕ → Option ℕ) (xs : List ℕ) → ((i : ℕ) → few i ≡ true → many i ≡ true) → torn_block few tear xs ≡ torn_block many (kept_to few tear) xs
torn_fewer few many tear [] gives = refl
torn_fewer few many tear (x ∷ xs) gives =
    (λ i. byte_fewer (few 0) (many 0) (tear 0) x (gives 0) i ∷ torn_fewer (λ n. few (suc n)) (λ n. many (suc n)) (λ n. tear (suc n)) xs (λ n. gives (suc n)) i)

byte_twice : (all some was : Bool) (byte : Option ℕ) (x : ℕ) → (all ≡ true → (was ≡ true) ⊎ (some ≡ true)) → (some ≡ true → all ≡ true)
    → torn_byte all byte x ≡ torn_byte was (cond all byte None) (torn_byte some byte x)
byte_twice true true true None x parts within = refl
byte_twice true true true (Some byte) x parts within = refl
byte_twice true true false byte x parts within = refl
byte_twice true false true None x parts within = refl
byte_twice true false true (Some byte) x parts within = refl
byte_twice true false false byte x parts within = elim (parts refl) [ inl is ↦ absurd (false≢true is) | inr is ↦ absurd (false≢true is) ]
byte_twice false true was byte x parts within = absurd (false≢true (within refl))
byte_twice false false true byte x parts within = refl
byte_twice false false false byte x parts within = refl

-- a tear of all open places is one of some of them, and then one of the others
pub torn_twice : (all some was : ℕ → Bool) (tear : ℕ → Option ℕ) (xs : List ℕ) → ((i : ℕ) → all i ≡ true → (was i ≡ true) ⊎ (some i ≡ true)) → ((i : ℕ) → some i ≡ true → all i ≡ true)
    → torn_block all tear xs ≡ torn_block was (kept_to all tear) (torn_block some tear xs)
torn_twice all some was tear [] parts within = refl
torn_twice all some was tear (x ∷ xs) parts within =
    (λ i. byte_twice (all 0) (some 0) (was 0) (tear 0) x (parts 0) (within 0) i
    ∷ torn_twice (λ n. all (suc n)) (λ n. some (suc n)) (λ n. was (suc n)) (λ n. tear (suc n)) xs (λ n. parts (suc n)) (λ n. within (suc n)) i)

-- a place below a range, and one above it
pub below_range : (at n i : ℕ) → i < at → (nat_le at i && nat_lt i (at + n)) ≡ false
below_range at n i lt = grind (arith, nat_tests)

pub above_range : (at n i : ℕ) → at + n ≤ i → (nat_le at i && nat_lt i (at + n)) ≡ false
above_range at n i le = grind (arith, nat_tests)

-- where the open places lie in a range, a tear is other bytes in that range
pub torn_range : (at n : ℕ) (is_open : ℕ → Bool) (tear : ℕ → Option ℕ) (block : List ℕ) → ((i : ℕ) → i < at → is_open i ≡ false) → ((i : ℕ) → at + n ≤ i → is_open i ≡ false)
    → (left : List ℕ) × (length left ≡ n) × (torn_block is_open tear block ≡ splice at left block)
unfolding splice
torn_range zero zero is_open tear block below above = ([], refl, torn_shut is_open tear block (λ i. above i (omega arith)) ∙ none block)
  where
    none : (xs : List ℕ) → xs ≡ splice zero [] xs
    none xs = refl
torn_range zero (suc n) is_open tear [] below above = (replicate (suc n) 0, length-replicate (suc n) 0, refl)
torn_range zero (suc n) is_open tear (x ∷ xs) below above =
    let rest = torn_range zero n (λ i. is_open (suc i)) (λ i. tear (suc i)) xs (λ i lt. absurd (omega arith)) (λ i le. above (suc i) (omega arith)) in
    (torn_byte (is_open 0) (tear 0) x ∷ rest.0, ap suc rest.1, ap (λ (l : List ℕ). torn_byte (is_open 0) (tear 0) x ∷ l) rest.2)
torn_range (suc at) n is_open tear [] below above = (replicate n 0, length-replicate n 0, refl)
torn_range (suc at) n is_open tear (x ∷ xs) below above =
    let rest = torn_range at n (λ i. is_open (suc i)) (λ i. tear (suc i)) xs (λ i lt. below (suc i) (omega arith)) (λ i le. above (suc i) (omega arith)) in
    (rest.0, rest.1, (λ i. byte_shut (is_open 0) (tear 0) x (below 0 (omega arith)) i ∷ rest.2 i))

-- bytes put over others
pub splice_over : (at : ℕ) (left bytes block : List ℕ) → length left ≡ length bytes → splice at left (splice at bytes block) ≡ splice at left block
unfolding splice
splice_over zero [] [] block long = refl
splice_over zero [] (b ∷ bytes) block long = absurd (omega (arith, long))
splice_over zero (l ∷ left) [] block long = absurd (omega (arith, long))
splice_over zero (l ∷ left) (b ∷ bytes) [] long = refl
splice_over zero (l ∷ left) (b ∷ bytes) (x ∷ xs) long = ap (λ (r : List ℕ). l ∷ r) (splice_over zero left bytes xs (omega (arith, long)))
splice_over (suc at) left bytes [] long = refl
splice_over (suc at) left bytes (x ∷ xs) long = ap (λ (r : List ℕ). x ∷ r) (splice_over at left bytes xs long)

-- ---- contents

pub bare : (c : Content) (is_open : Places) → with_tear c is_open no_tear ≡ c
bare c is_open = λ i unit block. torn_none (is_open unit block) (c unit block) i

pub shut_tear : (c : Content) (is_open : Places) (tear : Tear) → ((unit : UnitNo) (block place : ℕ) → is_open unit block place ≡ false) → with_tear c is_open tear ≡ c
shut_tear c is_open tear shut = λ i unit block. torn_shut (is_open unit block) (tear unit block) (c unit block) (shut unit block) i

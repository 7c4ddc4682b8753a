-- Blocks that lie one behind the other in a list of bytes.
use Rattle.std.proofs.Common.{◌≡◌, ℕ, ◌+◌, ◌-◌, ◌≤◌, inl, inr, List, ◌++◌, length, take, drop, sym, ◌∙◌, ap, ap₂, subst, arith, length-append, Result, Ok, Err, OnOk, is_ok, if◌then◌else◌, replicate}
use Rattle.std.proofs.lemmas.List.{length-drop, length-take-le, take-append-le, take_all, drop-take, drop_at}
use Rattle.std.proofs.lemmas.Slice.{take-put_mid_below, take-put_mid, drop-put_mid}
use Rattle.mss_files.specs.Files.{bytes_at}
use Rattle.mss_files.specs.Blocks.{block_from, length-block_from, ChangesBlock}
use borrow.Rule.Slice.PartMut.{put_mid}

-- the block as the code takes it out
pub block_is : (size from k : ℕ) (bytes : List ℕ) → k ≡ size → take k (drop from bytes) ≡ block_from size from bytes
unfolding block_from
block_is size from k bytes e = ap (λ (n : ℕ). take n (drop from bytes)) e

pub length-part : (size from k : ℕ) (bytes : List ℕ) → k ≡ size → from + size ≤ length bytes → length (take k (drop from bytes)) ≡ size
length-part size from k bytes e inside = ap length (block_is size from k bytes e) ∙ length-block_from size from bytes inside

-- a block is what stands there, however far the bytes are looked at
from_front : (size from : ℕ) (bytes : List ℕ) → block_from size from bytes ≡ drop from (take (from + size) bytes)
unfolding block_from
from_front size from bytes = sym (drop-take from size bytes)

-- bytes that are appended change no block
pub block_from-append : (size from : ℕ) (bytes more : List ℕ) → from + size ≤ length bytes → block_from size from (bytes ++ more) ≡ block_from size from bytes
block_from-append size from bytes more inside =
    from_front size from (bytes ++ more) ∙ ap (drop from) (take-append-le (from + size) bytes more inside) ∙ sym (from_front size from bytes)

-- more of the room is used
pub grown : {T E : Type 0} (size : ℕ) (result : Result T E) (value : T) (count more : ℕ) (old new : List ℕ) → result ≡ Ok value
    → new ≡ (if is_ok result then take count old ++ replicate more 0 else old) → length old ≤ count
    → (from : ℕ) → from + size ≤ length old → block_from size from new ≡ block_from size from old
grown size result value count more old new went is fits from inside =
    ap (block_from size from) (is ∙ ap (λ (r : Result _ _). if is_ok r then take count old ++ replicate more 0 else old) went ∙ ap (λ (l : List ℕ). l ++ replicate more 0) (take_all count old fits))
    ∙ block_from-append size from old (replicate more 0) inside

-- ---- a block is written over

pub block_put : (size from k : ℕ) (bytes block : List ℕ) → from + size ≤ length bytes → length block ≡ size → block_from size from (put_mid from k bytes block) ≡ block
block_put size from k bytes block inside whole =
    from_front size from (put_mid from k bytes block)
    ∙ ap (drop from) (take-put_mid from k bytes block (from + size) (omega (arith, whole)) (omega (arith, inside)))
    ∙ drop_at (take from bytes) block from (length-take-le from bytes (omega (arith, inside)))

put_below : (size from k : ℕ) (bytes block : List ℕ) (other : ℕ) → from ≤ length bytes → other + size ≤ from → block_from size other (put_mid from k bytes block) ≡ block_from size other bytes
put_below size from k bytes block other inside low =
    from_front size other (put_mid from k bytes block)
    ∙ ap (drop other) (take-put_mid_below from k bytes block (other + size) low inside)
    ∙ sym (from_front size other bytes)

put_above : (size from : ℕ) (bytes block : List ℕ) (other : ℕ) → from + size ≤ length bytes → length block ≡ size → from + size ≤ other → block_from size other (put_mid from size bytes block) ≡ block_from size other bytes
unfolding block_from
put_above size from bytes block other inside whole high =
    ap (take size) (drop-put_mid from size bytes block other high (omega (arith, inside)) whole)

length-put : (size from : ℕ) (bytes block : List ℕ) → from + size ≤ length bytes → length block ≡ size → length bytes ≤ length (put_mid from size bytes block)
length-put size from bytes block inside whole =
    let behind : length (drop size (drop from bytes)) ≡ length (drop from bytes) - size = length-drop size (drop from bytes) in
    let dropped : length (drop from bytes) ≡ length bytes - from = length-drop from bytes in
    let taken : length (take from bytes) ≡ from = length-take-le from bytes (omega (arith, inside)) in
    let first : length (take from bytes ++ (block ++ drop size (drop from bytes))) ≡ length (take from bytes) + length (block ++ drop size (drop from bytes)) = length-append (take from bytes) (block ++ drop size (drop from bytes)) in
    let next : length (block ++ drop size (drop from bytes)) ≡ length block + length (drop size (drop from bytes)) = length-append block (drop size (drop from bytes)) in
    omega (arith, behind, dropped, taken, first, next, inside, whole)

changes : (size from : ℕ) (bytes block : List ℕ) → from + size ≤ length bytes → length block ≡ size → ChangesBlock size from bytes (put_mid from size bytes block)
changes size from bytes block inside whole = record {
  long = length-put size from bytes block inside whole;
  others = λ other _ apart. elim apart [
    | inl low ↦ put_below size from size bytes block other (omega (arith, inside)) low
    | inr high ↦ put_above size from bytes block other inside whole high
  ];
}

-- as many bytes as the code counts are put
pub changes_put : (size from k : ℕ) (bytes block : List ℕ) → k ≡ size → from + size ≤ length bytes → length block ≡ size → ChangesBlock size from bytes (put_mid from k bytes block)
changes_put size from k bytes block e inside whole = subst (λ (n : ℕ). ChangesBlock size from bytes (put_mid from n bytes block)) (sym e) (changes size from bytes block inside whole)

-- bytes were put into the block
pub overwritten : (size from k offset : ℕ) (bytes block new : List ℕ) → k ≡ size → from + size ≤ length bytes → length block ≡ size
    → block ≡ take offset (take k (drop from bytes)) ++ (new ++ drop (offset + length new) (take k (drop from bytes)))
    → block_from size from (put_mid from k bytes block) ≡ take offset (block_from size from bytes) ++ (new ++ drop (offset + length new) (block_from size from bytes))
overwritten size from k offset bytes block new e inside whole is =
    block_put size from k bytes block inside whole ∙ is
    ∙ ap (λ (b : List ℕ). take offset b ++ (new ++ drop (offset + length new) b)) (block_is size from k bytes e)

-- a block was read there
pub read_whole : {T E : Type 0} (size : ℕ) (result : Result T E) (from k : ℕ) (bytes block : List ℕ) (file : ℕ → ℕ) (at place n : ℕ) → k ≡ size → from + size ≤ length bytes
    → length block ≡ n → n ≡ length (take k (drop from bytes)) → at ≡ place
    → OnOk result (block ≡ bytes_at file at n)
    → OnOk result (block_from size from (put_mid from k bytes block) ≡ bytes_at file place size)
read_whole size (Err _) from k bytes block file at place n e inside long part is read = read
read_whole size (Ok _) from k bytes block file at place n e inside long part is read =
    let whole : n ≡ size = part ∙ length-part size from k bytes e inside in
    block_put size from k bytes block inside (long ∙ whole) ∙ read ∙ ap₂ (λ (a m : ℕ). bytes_at file a m) is whole

-- Blocks that are kept go on being what the files hold.
use Rattle.std.proofs.Common.{◌≡◌, ◌≢◌, ℕ, zero, suc, ◌+◌, ◌-◌, ◌≤◌, ◌<◌, ◌⊎◌, inl, inr, true, ◌&&◌, ◌==◌, List, [], ◌∷◌, ◌++◌, length, take, drop, refl, sym, ◌∙◌, ap, ap₂, subst, arith}
use Rattle.std.proofs.Common.{Option, None, Some, replicate, Result, Ok, Err, OnOk, OnErr, slice_index_or, slice_set, get_or-set_other}
use Rattle.std.proofs.Math.Seq.{take-append_seam, drop-append_seam}
use Rattle.std.proofs.lemmas.List.{get_or-replicate}
use Rattle.std.proofs.lemmas.Bool.{eq-eqb, eqb-true, and_from, and_parts, cases_Bool, cases_lt}
use Rattle.mss_base.proofs.ContentLemmas.{same_unit-refl, same_unit-true}
use Rattle.mss_base.specs.Content.{same_unit}
use Rattle.mss_base.specs.declared.place.UnitNo.{UnitNo}
use Rattle.mss_base.specs.declared.place.BlockPlace.{BlockPlace}
use Rattle.mss_files.specs.Allotted.{start_in}
use Rattle.mss_files.specs.Blocks.{block_from, ChangesBlock}
use Rattle.mss_files.specs.Noted.{slot_of}
use Rattle.mss_files.specs.KeptBlocks.{slot_start, Stands, Keeps, HasBytes, IsHeld, KeepsStarts}
use Rattle.mss_files.specs.declared.kept_blocks.KeptBlocks.{KeptBlocks}
use Rattle.mss_files.specs.declared.pieces.Pieces.{Pieces}
use Rattle.mss_files.specs.Files.{FileBytes, bytes_at, file_place, ChangesOnly, GotBytes}
use Rattle.mss_files.proofs.Starts.{starts_apart}
use Rattle.mss_files.proofs.Transfers.{length-bytes_at, bytes_at-more, bytes_at-same}

-- two places are one, or they are not
pub place_cases : (a b : BlockPlace) → (a ≡ b) ⊎ (a ≡ b → ⊥)
place_cases a b = elim (cases_Bool (same_unit a.unit b.unit && (a.block == b.block))) [
  | inl same ↦
      let parts = and_parts (same_unit a.unit b.unit) (a.block == b.block) same in
      let unit_is : a.unit ≡ b.unit = same_unit-true a.unit b.unit parts.0 in
      let block_is : a.block ≡ b.block = eqb-true a.block b.block parts.1 in
      inl (λ i. record { unit = unit_is i; block = block_is i })
  | inr other ↦ inr (λ is.
      let same : (same_unit a.unit b.unit && (a.block == b.block)) ≡ true =
      ap (λ (p : BlockPlace). same_unit p.unit b.unit && (p.block == b.block)) is ∙ and_from _ _ (same_unit-refl b.unit) (eq-eqb b.block b.block refl) in
      cc)
]

take-bytes_at : (f : ℕ → ℕ) (at m n : ℕ) → take m (bytes_at f at (m + n)) ≡ bytes_at f at m
take-bytes_at f at m n =
    ap (take m) (bytes_at-more f at m n)
    ∙ subst (λ (k : ℕ). take k (bytes_at f at m ++ bytes_at f (at + m) n) ≡ bytes_at f at m) (length-bytes_at f at m) (take-append_seam (bytes_at f at m) (bytes_at f (at + m) n))

-- the front of a block that is held
pub front_of : (f : ℕ → ℕ) (at size n : ℕ) (block : List ℕ) → n ≤ size → block ≡ bytes_at f at size → take n block ≡ bytes_at f at n
front_of f at size n block inside is =
    let whole : n + (size - n) ≡ size = omega (arith, inside) in
    ap (take n) (is ∙ ap (bytes_at f at) (sym whole)) ∙ take-bytes_at f at n (size - n)

pub drop-bytes_at : (f : ℕ → ℕ) (at m n : ℕ) → drop m (bytes_at f at (m + n)) ≡ bytes_at f (at + m) n
drop-bytes_at f at m n =
    ap (drop m) (bytes_at-more f at m n)
    ∙ subst (λ (k : ℕ). drop k (bytes_at f at m ++ bytes_at f (at + m) n) ≡ bytes_at f (at + m) n) (length-bytes_at f at m) (drop-append_seam (bytes_at f at m) (bytes_at f (at + m) n))

-- a block that got the bytes which were written into its file
patched : (f g : ℕ → ℕ) (at offset : ℕ) (bytes : List ℕ) (rest : ℕ)
    → ((place : ℕ) → place < at + offset → g place ≡ f place)
    → ((place : ℕ) → at + offset + length bytes ≤ place → g place ≡ f place)
    → bytes_at g (at + offset) (length bytes) ≡ bytes
    → take offset (bytes_at f at (offset + (length bytes + rest))) ++ (bytes ++ drop (offset + length bytes) (bytes_at f at (offset + (length bytes + rest))))
    ≡ bytes_at g at (offset + (length bytes + rest))
patched f g at offset bytes rest before behind put =
    let n = length bytes in
    let front : take offset (bytes_at f at (offset + (n + rest))) ≡ bytes_at g at offset =
    take-bytes_at f at offset (n + rest) ∙ sym (bytes_at-same f g at offset (λ place low high. before place high)) in
    let whole : offset + (n + rest) ≡ offset + n + rest = omega arith in
    let last : at + (offset + n) ≡ at + offset + n = omega arith in
    let back : drop (offset + n) (bytes_at f at (offset + (n + rest))) ≡ bytes_at g (at + offset + n) rest =
    ap (λ (k : ℕ). drop (offset + n) (bytes_at f at k)) whole ∙ drop-bytes_at f at (offset + n) rest
    ∙ ap (λ (k : ℕ). bytes_at f k rest) last ∙ sym (bytes_at-same f g (at + offset + n) rest (λ place low high. behind place low)) in
    ap₂ (λ (a b : List ℕ). a ++ (bytes ++ b)) front back
    ∙ ap (λ (l : List ℕ). bytes_at g at offset ++ (l ++ bytes_at g (at + offset + n) rest)) (sym put)
    ∙ ap (λ (l : List ℕ). bytes_at g at offset ++ l) (sym (bytes_at-more g (at + offset) n rest))
    ∙ sym (bytes_at-more g at offset (n + rest))

-- a write into another block of the same unit: `count` bytes of the kept one, from `start` on
other_block : (f g : ℕ → ℕ) (block offset n kept start count : ℕ) → offset + n ≤ 16384 → start + count ≤ 16384 → (block ≡ kept → ⊥)
    → ((place : ℕ) → place < file_place block offset → g place ≡ f place)
    → ((place : ℕ) → file_place block offset + n ≤ place → g place ≡ f place)
    → bytes_at g (file_place kept start) count ≡ bytes_at f (file_place kept start) count
other_block f g block offset n kept start count inside within differ before behind = elim (cases_lt kept block) [
  | inl below ↦ bytes_at-same f g (file_place kept start) count (λ place low high. before place (omega (arith, below, high, within)))
  | inr from ↦ elim (cases_lt block kept) [
    | inl above ↦ bytes_at-same f g (file_place kept start) count (λ place low high. behind place (omega (arith, above, low, inside)))
    | inr upto ↦ absurd (differ (omega (arith, from, upto)))
  ]
]

-- a write into another block
pub elsewhere : (f g : FileBytes) (place kept : BlockPlace) (offset n start count : ℕ) → offset + n ≤ 16384 → start + count ≤ 16384 → (place ≡ kept → ⊥)
    → ChangesOnly place.unit (file_place place.block offset) n f g
    → bytes_at (g kept.unit) (file_place kept.block start) count ≡ bytes_at (f kept.unit) (file_place kept.block start) count
elsewhere f g place kept offset n start count inside within differ changed = elim (cases_Bool (same_unit place.unit kept.unit)) [
  | inr other ↦ ap (λ (h : ℕ → ℕ). bytes_at h (file_place kept.block start) count) (changed.others kept.unit other)
  | inl same ↦
      let unit_is : place.unit ≡ kept.unit = same_unit-true place.unit kept.unit same in
      subst (λ (u : UnitNo). bytes_at (g u) (file_place kept.block start) count ≡ bytes_at (f u) (file_place kept.block start) count) unit_is
      (other_block (f place.unit) (g place.unit) place.block offset n kept.block start count inside within (λ e. differ (λ i. record { unit = unit_is i; block = e i })) changed.before changed.behind)
]

-- a write into the front of so many bytes of the block
here : (f g : FileBytes) (place : BlockPlace) (size offset : ℕ) (bytes block : List ℕ) → offset + length bytes ≤ size
    → ChangesOnly place.unit (file_place place.block offset) (length bytes) f g
    → bytes_at (g place.unit) (file_place place.block offset) (length bytes) ≡ bytes
    → block ≡ bytes_at (f place.unit) (file_place place.block 0) size
    → take offset block ++ (bytes ++ drop (offset + length bytes) block) ≡ bytes_at (g place.unit) (file_place place.block 0) size
here f g place size offset bytes block inside changed put is =
    let rest : ℕ = size - (offset + length bytes) in
    let whole : offset + (length bytes + rest) ≡ size = omega (arith, inside) in
    let first : file_place place.block 0 + offset ≡ file_place place.block offset = omega arith in
    ap (λ (l : List ℕ). take offset l ++ (bytes ++ drop (offset + length bytes) l)) is
    ∙ subst (λ (n : ℕ). take offset (bytes_at (f place.unit) (file_place place.block 0) n) ++ (bytes ++ drop (offset + length bytes) (bytes_at (f place.unit) (file_place place.block 0) n)) ≡ bytes_at (g place.unit) (file_place place.block 0) n) whole
    (patched (f place.unit) (g place.unit) (file_place place.block 0) offset bytes rest
    (λ q low. changed.before q (omega (arith, low)))
    (λ q high. changed.behind q (omega (arith, high)))
    (ap (λ (k : ℕ). bytes_at (g place.unit) k (length bytes)) first ∙ put))

-- what was kept, behind a write that is made
pub still_held : (f g : FileBytes) (place kept : BlockPlace) (size offset : ℕ) (bytes old new : List ℕ) → offset + length bytes ≤ size → size ≤ 16384
    → GotBytes place offset bytes f g
    → (kept ≡ place → new ≡ take offset old ++ (bytes ++ drop (offset + length bytes) old))
    → ((kept ≡ place → ⊥) → new ≡ old)
    → old ≡ bytes_at (f kept.unit) (file_place kept.block 0) size
    → new ≡ bytes_at (g kept.unit) (file_place kept.block 0) size
still_held f g place kept size offset bytes old new inside few got same apart is =
    elim (place_cases kept place) [
      | inl e ↦
          same e ∙ subst (λ (p : BlockPlace). take offset old ++ (bytes ++ drop (offset + length bytes) old) ≡ bytes_at (g p.unit) (file_place p.block 0) size) (sym e)
          (here f g place size offset bytes old inside got.only got.put (is ∙ ap (λ (p : BlockPlace). bytes_at (f p.unit) (file_place p.block 0) size) e))
      | inr differ ↦ apart differ ∙ is ∙ sym (elsewhere f g place kept offset (length bytes) 0 size (omega (arith, inside, few)) (omega (arith, few)) (λ e. differ (sym e)) got.only)
    ]

-- what was kept of another block, behind a write that failed
pub held_apart : (f g : FileBytes) (place kept : BlockPlace) (size offset n : ℕ) (old new : List ℕ) → offset + n ≤ 16384 → size ≤ 16384
    → ChangesOnly place.unit (file_place place.block offset) n f g
    → (place ≡ kept → ⊥)
    → new ≡ old
    → old ≡ bytes_at (f kept.unit) (file_place kept.block 0) size
    → new ≡ bytes_at (g kept.unit) (file_place kept.block 0) size
held_apart f g place kept size offset n old new inside few changed differ same is =
    same ∙ is ∙ sym (elsewhere f g place kept offset n 0 size inside (omega (arith, few)) differ changed)

-- ---- all blocks that are kept

-- two slots are one, or one lies wholly before the other
slots_apart : (kept : KeptBlocks) (a b : BlockPlace)
    → (slot_of a ≡ slot_of b) ⊎ ((slot_start kept a + kept.pieces.size ≤ slot_start kept b) ⊎ (slot_start kept b + kept.pieces.size ≤ slot_start kept a))
slots_apart kept a b = starts_apart kept.pieces.size kept.pieces.of_slots.items (slot_of a) (slot_of b) (omega arith) (omega arith) kept.pieces.apart

-- bytes that don't meet are of two slots
start_apart : (kept : KeptBlocks) (a b : BlockPlace) → (slot_start kept a + kept.pieces.size ≤ slot_start kept b) ⊎ (slot_start kept b + kept.pieces.size ≤ slot_start kept a) → slot_of a ≡ slot_of b → ⊥
start_apart kept a b apart one =
    let same : slot_start kept a ≡ slot_start kept b = ap (start_in kept.pieces.size kept.pieces.of_slots.items) one in
    let some : 1 ≤ kept.pieces.size = kept.pieces.some in
    elim apart [
      | inl low ↦ absurd (omega (arith, low, same, some))
      | inr high ↦ absurd (omega (arith, high, same, some))
    ]

-- where the pieces stay, a slot stays where it is
same_start : (old new : KeptBlocks) (place : BlockPlace) → new.pieces ≡ old.pieces → slot_start new place ≡ slot_start old place
same_start old new place same = λ i. start_in (same i).size (same i).of_slots.items (slot_of place)

-- so its bytes are where they were
same_place : (old new : KeptBlocks) (place : BlockPlace) (room : List ℕ) (file : ℕ → ℕ) → new.pieces ≡ old.pieces
    → HasBytes old.pieces.size (slot_start old place) room file place → HasBytes new.pieces.size (slot_start new place) room file place
same_place old new place room file same has = subst (λ (p : Pieces). HasBytes p.size (start_in p.size p.of_slots.items (slot_of place)) room file place) (sym same) has

-- one slot has one block
one_stands : (kept : KeptBlocks) (a b : BlockPlace) → slot_of a ≡ slot_of b → Stands kept a → Stands kept b → a ≡ b
one_stands kept a b one first second =
    let e : Some a ≡ Some b = sym first ∙ ap (λ (n : ℕ). slice_index_or kept.places.of_slots.items n None) one ∙ second in
    cc

-- what was noted for a slot
noted : (xs : List (Option BlockPlace)) (i : ℕ) (a b : BlockPlace) → slice_index_or (slice_set xs i (Some a)) i None ≡ Some b → a ≡ b
noted [] i a b e = absurd (let f : None ≡ Some b = e in cc)
noted (x ∷ xs) zero a b e = cc
noted (x ∷ xs) (suc i) a b e = noted xs i a b e

-- where no block is noted none stands
pub none_stands : (places : List (Option BlockPlace)) → places ≡ replicate 323 None
    → (place : BlockPlace) → slice_index_or places (slot_of place) None ≡ Some place → ⊥
none_stands places blank place stands =
    let seen : slice_index_or (replicate 323 None) (slot_of place) None ≡ Some place =
    ap (λ (l : List (Option BlockPlace)). slice_index_or l (slot_of place) None) (sym blank) ∙ stands in
    absurd (let f : None ≡ Some place = sym (get_or-replicate 323 (slot_of place) None None (omega arith)) ∙ seen in cc)

none_noted : (xs : List (Option BlockPlace)) (i : ℕ) → slice_index_or (slice_set xs i None) i None ≡ None
none_noted [] i = refl
none_noted (x ∷ xs) zero = refl
none_noted (x ∷ xs) (suc i) = none_noted xs i

-- behind a write that is made
pub held_behind : (f g : FileBytes) (place : BlockPlace) (offset : ℕ) (bytes : List ℕ) (old new : KeptBlocks) → offset + length bytes ≤ old.pieces.size
    → GotBytes place offset bytes f g
    → new.places ≡ old.places
    → new.pieces ≡ old.pieces
    → (Keeps old place → block_from old.pieces.size (slot_start old place) new.bytes.items
    ≡ take offset (block_from old.pieces.size (slot_start old place) old.bytes.items) ++ (bytes ++ drop (offset + length bytes) (block_from old.pieces.size (slot_start old place) old.bytes.items)))
    → ((Keeps old place → ⊥) → new.bytes.items ≡ old.bytes.items)
    → ChangesBlock old.pieces.size (slot_start old place) old.bytes.items new.bytes.items
    → IsHeld f old → IsHeld g new
held_behind f g place offset bytes old new inside got places pieces patch apart changes held = λ other stands.
    let size = old.pieces.size in
    let was : Stands old other = ap (λ (l : List (Option BlockPlace)). slice_index_or l (slot_of other) None) (sym (λ i. (places i).of_slots.items)) ∙ stands in
    let has = held other was in
    same_place old new other new.bytes.items (g other.unit) pieces (record {
      inside = omega (arith, has.inside, changes.long);
      bytes = still_held f g place other size offset bytes (block_from size (slot_start old other) old.bytes.items) (block_from size (slot_start old other) new.bytes.items) inside old.pieces.few got
          (λ e. subst (λ (p : BlockPlace). block_from size (slot_start old p) new.bytes.items ≡ take offset (block_from size (slot_start old p) old.bytes.items) ++ (bytes ++ drop (offset + length bytes) (block_from size (slot_start old p) old.bytes.items))) (sym e)
          (patch (record { stands = subst (Stands old) e was; inside = subst (λ (p : BlockPlace). slot_start old p + size ≤ length old.bytes.items) e has.inside })))
          (λ differ. elim (slots_apart old other place) [
            | inl one ↦ ap (block_from size (slot_start old other)) (apart (λ keeps. differ (one_stands old other place one was keeps.stands)))
            | inr two ↦ changes.others (slot_start old other) has.inside two
          ])
          has.bytes;
    })

-- behind a write into a block that is kept no more
pub held_failed : (f g : FileBytes) (place : BlockPlace) (offset n : ℕ) (old new : KeptBlocks) → offset + n ≤ 16384
    → ChangesOnly place.unit (file_place place.block offset) n f g
    → (Stands new place → ⊥)
    → ((other : BlockPlace) → Stands new other → Stands old other)
    → new.pieces ≡ old.pieces
    → new.bytes.items ≡ old.bytes.items
    → IsHeld f old → IsHeld g new
held_failed f g place offset n old new inside changed gone others pieces same held = λ other stands.
    let size = old.pieces.size in
    let has = held other (others other stands) in
    same_place old new other new.bytes.items (g other.unit) pieces (record {
      inside = subst (λ (l : List ℕ). slot_start old other + size ≤ length l) (sym same) has.inside;
      bytes = held_apart f g place other size offset n (block_from size (slot_start old other) old.bytes.items) (block_from size (slot_start old other) new.bytes.items) inside old.pieces.few changed
          (λ e. gone (subst (Stands new) (sym e) stands)) (ap (block_from size (slot_start old other)) same) has.bytes;
    })

-- the slot of a block that was brought, or couldn't be
brought_there : {T E : Type 0} (result : Result T E) (f : FileBytes) (place other : BlockPlace) (old mid new : List (Option BlockPlace)) (size start : ℕ) (room : List ℕ)
    → slot_of other ≡ slot_of place
    → mid ≡ slice_set old (slot_of place) None
    → start + size ≤ length room
    → OnOk result (new ≡ slice_set mid (slot_of place) (Some place))
    → OnErr result (new ≡ mid)
    → OnOk result (block_from size start room ≡ bytes_at (f place.unit) (file_place place.block 0) size)
    → slice_index_or new (slot_of other) None ≡ Some other
    → HasBytes size start room (f other.unit) other
brought_there (Ok _) f place other old mid new size start room one cleared inside ok err block stands =
    let seen : slice_index_or (slice_set mid (slot_of place) (Some place)) (slot_of place) None ≡ Some other =
    ap (λ (l : List (Option BlockPlace)). slice_index_or l (slot_of place) None) (sym ok) ∙ ap (λ (n : ℕ). slice_index_or new n None) (sym one) ∙ stands in
    subst (λ (p : BlockPlace). HasBytes size start room (f p.unit) p) (noted mid (slot_of place) place other seen) (record { inside = inside; bytes = block })
brought_there (Err _) f place other old mid new size start room one cleared inside ok err block stands =
    let seen : slice_index_or (slice_set old (slot_of place) None) (slot_of place) None ≡ Some other =
    ap (λ (l : List (Option BlockPlace)). slice_index_or l (slot_of place) None) (sym (err ∙ cleared)) ∙ ap (λ (n : ℕ). slice_index_or new n None) (sym one) ∙ stands in
    absurd (let f : None ≡ Some other = sym (none_noted old (slot_of place)) ∙ seen in cc)

-- another slot
brought_elsewhere : {T E : Type 0} (result : Result T E) (place other : BlockPlace) (old mid new : List (Option BlockPlace))
    → (slot_of other ≡ slot_of place → ⊥)
    → mid ≡ slice_set old (slot_of place) None
    → OnOk result (new ≡ slice_set mid (slot_of place) (Some place))
    → OnErr result (new ≡ mid)
    → slice_index_or new (slot_of other) None ≡ slice_index_or old (slot_of other) None
brought_elsewhere (Ok _) place other old mid new differ cleared ok err =
    ap (λ (l : List (Option BlockPlace)). slice_index_or l (slot_of other) None) (ok ∙ ap (λ (l : List (Option BlockPlace)). slice_set l (slot_of place) (Some place)) cleared)
    ∙ get_or-set_other (slice_set old (slot_of place) None) (slot_of place) (slot_of other) (Some place) None differ
    ∙ get_or-set_other old (slot_of place) (slot_of other) None None differ
brought_elsewhere (Err _) place other old mid new differ cleared ok err =
    ap (λ (l : List (Option BlockPlace)). slice_index_or l (slot_of other) None) (err ∙ cleared)
    ∙ get_or-set_other old (slot_of place) (slot_of other) None None differ

-- behind a block that was brought, or couldn't be
pub held_brought : {T E : Type 0} (result : Result T E) (f g : FileBytes) (place : BlockPlace) (old mid new : KeptBlocks)
    → mid.places.of_slots.items ≡ slice_set old.places.of_slots.items (slot_of place) None
    → slot_start mid place + mid.pieces.size ≤ length mid.bytes.items
    → KeepsStarts place old mid
    → mid.pieces.size ≡ old.pieces.size
    → length old.bytes.items ≤ length mid.bytes.items
    → ((at : ℕ) → at + old.pieces.size ≤ length old.bytes.items → block_from old.pieces.size at mid.bytes.items ≡ block_from old.pieces.size at old.bytes.items)
    → OnOk result (new.places.of_slots.items ≡ slice_set mid.places.of_slots.items (slot_of place) (Some place))
    → OnErr result (new.places.of_slots.items ≡ mid.places.of_slots.items)
    → new.pieces ≡ mid.pieces
    → ChangesBlock mid.pieces.size (slot_start mid place) mid.bytes.items new.bytes.items
    → OnOk result (block_from mid.pieces.size (slot_start mid place) new.bytes.items ≡ bytes_at (f place.unit) (file_place place.block 0) mid.pieces.size)
    → g ≡ f
    → IsHeld f old → IsHeld g new
held_brought result f g place old mid new cleared room starts size long blocks ok err pieces next block same held = λ other stands.
    subst (λ (h : FileBytes). HasBytes new.pieces.size (slot_start new other) new.bytes.items (h other.unit) other) (sym same)
    (same_place mid new other new.bytes.items (f other.unit) pieces
    (elim (slots_apart mid other place) [
      | inl one ↦
          subst (λ (slot : ℕ). HasBytes mid.pieces.size (start_in mid.pieces.size mid.pieces.of_slots.items slot) new.bytes.items (f other.unit) other) (sym one)
          (brought_there result f place other old.places.of_slots.items mid.places.of_slots.items new.places.of_slots.items mid.pieces.size (slot_start mid place) new.bytes.items one cleared (omega (arith, room, next.long)) ok err block stands)
      | inr two ↦
          let differ : slot_of other ≡ slot_of place → ⊥ = λ e. start_apart mid other place two e in
          let was : Stands old other = sym (brought_elsewhere result place other old.places.of_slots.items mid.places.of_slots.items new.places.of_slots.items differ cleared ok err) ∙ stands in
          let has = held other was in
          let start : slot_start mid other ≡ slot_start old other = starts other differ has.inside in
          let inside : slot_start mid other + mid.pieces.size ≤ length mid.bytes.items = omega (arith, start, size, has.inside, long) in
          record {
            inside = omega (arith, inside, next.long);
            bytes = next.others (slot_start mid other) inside two
                ∙ ap₂ (λ (n at : ℕ). block_from n at mid.bytes.items) size start
                ∙ blocks (slot_start old other) has.inside ∙ has.bytes
                ∙ ap (bytes_at (f other.unit) (file_place other.block 0)) (sym size);
          }
    ]))

-- another block is kept still
pub keeps_on : {T E : Type 0} (result : Result T E) (place other : BlockPlace) (old mid new : KeptBlocks)
    → mid.places.of_slots.items ≡ slice_set old.places.of_slots.items (slot_of place) None
    → KeepsStarts place old mid
    → mid.pieces.size ≡ old.pieces.size
    → length old.bytes.items ≤ length mid.bytes.items
    → OnOk result (new.places.of_slots.items ≡ slice_set mid.places.of_slots.items (slot_of place) (Some place))
    → OnErr result (new.places.of_slots.items ≡ mid.places.of_slots.items)
    → new.pieces ≡ mid.pieces
    → length mid.bytes.items ≤ length new.bytes.items
    → slot_of other ≢ slot_of place → Keeps old other → Keeps new other
keeps_on result place other old mid new cleared starts size long ok err pieces longer differ keeps =
    let start : slot_start new other ≡ slot_start old other = same_start mid new other pieces ∙ starts other differ keeps.inside in
    let width : new.pieces.size ≡ old.pieces.size = (λ i. (pieces i).size) ∙ size in
    record {
      stands = brought_elsewhere result place other old.places.of_slots.items mid.places.of_slots.items new.places.of_slots.items differ cleared ok err ∙ keeps.stands;
      inside = omega (arith, start, width, keeps.inside, long, longer);
    }

-- Blocks that are zeros behind their front, and the one that is shown.
use Rattle.std.proofs.Common.{◌≡◌, ℕ, ◌+◌, ◌-◌, ◌≤◌, ◌<◌, get_or, min, ◌⊎◌, inl, inr, List, ◌++◌, length, take, drop, replicate, Option, None, Some, refl, sym, ◌∙◌, ap, ap₂, subst, arith}
use Rattle.std.proofs.Math.Seq.{take-append-add}
use Rattle.std.proofs.lemmas.List.{append-nil, take-append-le, take_all, take-replicate, drop-replicate, drop-drop, ext_get_or, get_or-replicate, length-replicate, length-drop}
use Rattle.std.proofs.lemmas.Slice.{drop-put_mid}
use Rattle.std.proofs.lemmas.Bool.{cases_lt}
use Rattle.mss_base.specs.declared.place.BlockPlace.{BlockPlace}
use Rattle.mss_files.specs.Files.{FileBytes, bytes_at, file_place, ChangesOnly, GotBytes}
use Rattle.mss_files.specs.KeptBlocks.{Stands, IsHeld, slot_start}
use Rattle.mss_files.specs.Blocks.{block_from}
use Rattle.mss_files.specs.ShortBlocks.{zeros_behind, IsShort, AreShort}
use Rattle.mss_files.specs.SiteBlocks.{AreHeld, IsShownHeld, Shows, ShowsWhole, ShowsFront, lent, lent_by}
use Rattle.mss_files.specs.Noted.{IsNoted}
use Rattle.mss_files.specs.declared.noted_places.NotedPlaces.{NotedPlaces}
use Rattle.mss_files.specs.declared.site_blocks.SiteBlocks.{SiteBlocks}
use Rattle.mss_files.proofs.Keeping.{place_cases, drop-bytes_at, elsewhere, still_held, held_apart}
use Rattle.mss_files.proofs.Transfers.{bytes_at-more, bytes_at-same}

-- ---- bytes

pub zeros_at_first : (bytes : List ℕ) → bytes ≡ replicate 16384 0 → drop 1024 bytes ≡ zeros_behind
unfolding zeros_behind
zeros_at_first bytes blank = ap (drop 1024) blank ∙ drop-replicate {X = ℕ} 1024 16384 0

-- bytes of which none is greater than this are zeros exactly where it is 0
pub zeros_by_greatest : (bytes : List ℕ) (greatest : ℕ) → ((i : ℕ) → i < length bytes → get_or bytes i 0 ≤ greatest)
    → (greatest ≡ 0) → bytes ≡ replicate (length bytes) 0
zeros_by_greatest bytes greatest most none =
    ext_get_or 0 bytes (replicate (length bytes) 0) (sym (length-replicate (length bytes) 0)) (λ i low.
    let least : get_or bytes i 0 ≡ 0 = omega (arith, most i low, none) in
    least ∙ sym (get_or-replicate (length bytes) i 0 0 low))

-- a byte of zeros
pub byte_of_zeros : (bytes : List ℕ) (i x : ℕ) → i < length bytes → x ≡ get_or bytes i x → bytes ≡ replicate (length bytes) 0 → x ≡ 0
byte_of_zeros bytes i x low is zeros =
    is ∙ ap (λ (l : List ℕ). get_or l i x) zeros ∙ get_or-replicate (length bytes) i 0 x low

-- a block is short exactly where the bytes behind its front are zeros
pub short_by_zeros : (bytes behind : List ℕ) → length bytes ≡ 16384 → behind ≡ drop 1024 bytes
    → (behind ≡ replicate (length behind) 0 → AreShort bytes) × (AreShort bytes → behind ≡ replicate (length behind) 0)
unfolding zeros_behind
short_by_zeros bytes behind whole is =
    let rest : length behind ≡ 15360 = ap length is ∙ length-drop 1024 bytes ∙ ap (λ (n : ℕ). n - 1024) whole in (
      λ zeros. record { whole = whole; zeros = sym is ∙ zeros ∙ ap (λ (n : ℕ). replicate n 0) rest },
      λ short. is ∙ short.zeros ∙ ap (λ (n : ℕ). replicate n 0) (sym rest),
    )

-- bytes that are written into the front leave what is behind it
pub behind_stays : (front offset : ℕ) (old bytes : List ℕ) → offset + length bytes ≤ front → front ≤ length old
    → drop front (take offset old ++ (bytes ++ drop (offset + length bytes) old)) ≡ drop front old
behind_stays front offset old bytes inside long =
    ap (λ (l : List ℕ). drop front (take offset old ++ (bytes ++ l))) (sym (drop-drop (length bytes) offset old))
    ∙ drop-put_mid offset (length bytes) old bytes front inside (omega (arith, inside, long)) refl

-- as many bytes of a short block as are asked for
pub cut_short : (n count rest : ℕ) (front : List ℕ) → count ≡ min n 1024 → rest + count ≡ n → length front ≡ 1024 → n ≤ 16384
    → take count front ++ replicate rest 0 ≡ take n (front ++ zeros_behind)
unfolding zeros_behind
cut_short n count rest front least whole long few = elim (cases_lt 1024 n) [
  | inr inside ↦
      let none : rest ≡ 0 = omega (arith, inside, least, whole) in
      let all : count ≡ n = omega (arith, inside, least) in
      ap₂ (λ (m k : ℕ). take m front ++ replicate k 0) all none ∙ append-nil (take n front)
      ∙ sym (take-append-le n front (replicate 15360 0) (omega (arith, inside, long)))
  | inl beyond ↦
      let joined : length front + rest ≡ n = omega (arith, beyond, long, least, whole) in
      ap₂ (λ (a b : List ℕ). a ++ b) (take_all count front (omega (arith, beyond, long, least))) (sym (take-replicate rest 15360 0 (omega (arith, few, joined, long))))
      ∙ sym (take-append-add front (replicate 15360 0) rest)
      ∙ ap (λ (k : ℕ). take k (front ++ replicate 15360 0)) joined
]

-- ---- what the files hold

-- a short block is its front and zeros
pub whole_of_front : (f : FileBytes) (place : BlockPlace) (front : List ℕ) → IsShort f place
    → front ≡ bytes_at (f place.unit) (file_place place.block 0) 1024
    → front ++ zeros_behind ≡ bytes_at (f place.unit) (file_place place.block 0) 16384
whole_of_front f place front short is =
    let first : file_place place.block 0 + 1024 ≡ file_place place.block 1024 = omega arith in
    ap₂ (λ (a b : List ℕ). a ++ b) is (sym short ∙ ap (λ (k : ℕ). bytes_at (f place.unit) k 15360) (sym first))
    ∙ sym (bytes_at-more (f place.unit) (file_place place.block 0) 1024 15360)

-- a short block stays so when another one is written
pub short_apart : (f g : FileBytes) (place other : BlockPlace) (offset n : ℕ) → offset + n ≤ 16384
    → ChangesOnly place.unit (file_place place.block offset) n f g
    → (place ≡ other → ⊥)
    → IsShort f other → IsShort g other
short_apart f g place other offset n inside changed differ short =
    elsewhere f g place other offset n 1024 15360 inside (omega arith) differ changed ∙ short

-- and when its front is written
pub short_in_front : (f g : FileBytes) (place other : BlockPlace) (offset n : ℕ) → offset + n ≤ 1024
    → ChangesOnly place.unit (file_place place.block offset) n f g
    → IsShort f other → IsShort g other
short_in_front f g place other offset n inside changed short = elim (place_cases place other) [
  | inl e ↦
      subst (IsShort g) e
      (bytes_at-same (f place.unit) (g place.unit) (file_place place.block 1024) 15360 (λ q low high. changed.behind q (omega (arith, low, inside))) ∙ subst (IsShort f) (sym e) short)
  | inr differ ↦ short_apart f g place other offset n (omega (arith, inside)) changed differ short
]

-- a block whose bytes were all written, zeros behind the front, is short
pub short_learned : (f g : FileBytes) (place : BlockPlace) (offset : ℕ) (bytes : List ℕ) → offset + length bytes ≤ 16384
    → GotBytes place offset bytes f g → AreShort bytes → IsShort g place
short_learned f g place offset bytes inside got short =
    let none : offset ≡ 0 = omega (arith, inside, short.whole) in
    let first : file_place place.block 0 + 1024 ≡ file_place place.block 1024 = omega arith in
    let put : bytes_at (g place.unit) (file_place place.block 0) 16384 ≡ bytes =
    ap₂ (λ (o n : ℕ). bytes_at (g place.unit) (file_place place.block o) n) (sym none) (sym short.whole) ∙ got.put in
    ap (λ (k : ℕ). bytes_at (g place.unit) k 15360) (sym first)
    ∙ sym (drop-bytes_at (g place.unit) (file_place place.block 0) 1024 15360)
    ∙ ap (drop 1024) put ∙ short.zeros

-- ---- the block that is shown

some_is : (a b : BlockPlace) → Some a ≡ Some b → a ≡ b
some_is a b e = cc

shown_cases : (shown : Option BlockPlace) (place : BlockPlace) → (shown ≡ Some place) ⊎ (shown ≡ Some place → ⊥)
shown_cases None place = inr (λ e. cc)
shown_cases (Some p) place = elim (place_cases p place) [
  | inl same ↦ inl (ap Some same)
  | inr differ ↦ inr (λ e. differ (some_is p place e))
]

-- behind a write into a front
pub shown_behind : (f g : FileBytes) (place other : BlockPlace) (offset : ℕ) (shown : Option BlockPlace) (bytes old new : List ℕ) → offset + length bytes ≤ 1024
    → GotBytes place offset bytes f g
    → (shown ≡ Some place → new ≡ take offset old ++ (bytes ++ drop (offset + length bytes) old))
    → ((shown ≡ Some place → ⊥) → new ≡ old)
    → shown ≡ Some other
    → old ≡ bytes_at (f other.unit) (file_place other.block 0) 16384
    → new ≡ bytes_at (g other.unit) (file_place other.block 0) 16384
shown_behind f g place other offset shown bytes old new inside got same apart is held =
    still_held f g place other 16384 offset bytes old new (omega (arith, inside)) (omega arith) got
    (λ e. same (is ∙ ap Some e))
    (λ differ. apart (λ e. differ (some_is other place (sym is ∙ e))))
    held

-- behind a write into a block that is shown no more
pub shown_apart : (f g : FileBytes) (place other : BlockPlace) (offset n : ℕ) (shown : Option BlockPlace) (old new : List ℕ) → offset + n ≤ 16384
    → ChangesOnly place.unit (file_place place.block offset) n f g
    → (shown ≡ Some place → ⊥)
    → shown ≡ Some other
    → new ≡ old
    → old ≡ bytes_at (f other.unit) (file_place other.block 0) 16384
    → new ≡ bytes_at (g other.unit) (file_place other.block 0) 16384
shown_apart f g place other offset n shown old new inside changed gone is same held =
    held_apart f g place other 16384 offset n old new inside (omega arith) changed
    (λ e. gone (is ∙ ap Some (sym e))) same held

-- the front that is kept of a block
pub front_held : (f : FileBytes) (kept : SiteBlocks) (place : BlockPlace) → AreHeld f kept → Stands kept.fronts place
    → block_from kept.fronts.pieces.size (slot_start kept.fronts place) kept.fronts.bytes.items ≡ bytes_at (f place.unit) (file_place place.block 0) 1024
front_held f kept place held stands = (held.fronts place stands).bytes ∙ ap (bytes_at (f place.unit) (file_place place.block 0)) kept.front_size

-- behind a front that was brought
pub fronts_then : (f g : FileBytes) (old new : SiteBlocks) → g ≡ f
    → new.whole ≡ old.whole → new.short ≡ old.short → new.shown ≡ old.shown
    → IsHeld g new.fronts → AreHeld f old → AreHeld g new
fronts_then f g old new same whole short shown fronts held = record {
  whole = subst (λ (b : FileBytes). IsHeld b new.whole) (sym same) (subst (IsHeld f) (sym whole) held.whole);
  fronts = fronts;
  short = λ other known. subst (λ (b : FileBytes). IsShort b other) (sym same)
      (held.short other (subst (λ (n : NotedPlaces). IsNoted n.of_slots.items other) short known));
  shown = subst (λ (b : FileBytes). IsShownHeld b new.shown) (sym same) (subst (IsShownHeld f) (sym shown) held.shown);
}

-- behind a front that is shown
pub shown_then : (f : FileBytes) (place other : BlockPlace) (before now : Option BlockPlace) (front old new : List ℕ)
    → IsShort f place
    → front ≡ bytes_at (f place.unit) (file_place place.block 0) 1024
    → now ≡ Some place
    → ((before ≡ Some place → ⊥) → new ≡ front ++ zeros_behind)
    → (before ≡ Some place → new ≡ old)
    → ((p : BlockPlace) → before ≡ Some p → old ≡ bytes_at (f p.unit) (file_place p.block 0) 16384)
    → now ≡ Some other
    → new ≡ bytes_at (f other.unit) (file_place other.block 0) 16384
shown_then f place other before now front old new short is shows put same held stands =
    subst (λ (p : BlockPlace). new ≡ bytes_at (f p.unit) (file_place p.block 0) 16384) (some_is place other (sym shows ∙ stands))
    (elim (shown_cases before place) [
      | inl was ↦ same was ∙ held place was
      | inr wasnt ↦ put wasnt ∙ whole_of_front f place front short is
    ])

-- what is lent is what the files hold, where it is this block
pub lent_held : (f : FileBytes) (kept : SiteBlocks) (place : BlockPlace) → AreHeld f kept → Shows kept place
    → lent kept ≡ bytes_at (f place.unit) (file_place place.block 0) 16384
lent_held f kept place held (ShowsWhole is) =
    ap (λ (by : Option BlockPlace). lent_by by kept) is ∙ (held.whole place (kept.stays place is).stands).bytes
    ∙ ap (bytes_at (f place.unit) (file_place place.block 0)) kept.whole_size
lent_held f kept place held (ShowsFront none is) = ap (λ (by : Option BlockPlace). lent_by by kept) none ∙ held.shown place is

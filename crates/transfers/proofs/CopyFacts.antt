-- What a write of a whole block leaves.
use Rattle.std.proofs.Common.{◌≡◌, ◌⊎◌, inl, inr, ℕ, ◌+◌, ◌<◌, nat_lt, true, false, ◌&&◌, ◌==◌, List, [], ◌∷◌, length, refl, sym, ◌∙◌, ap, subst, arith}
use Rattle.std.proofs.lemmas.Bool.{cases_Bool, and_parts, eqb-true, ltb-true, ltb-false}
use Rattle.mss_base.specs.declared.place.UnitNo.{UnitNo}
use Rattle.mss_base.specs.declared.place.UnitNo.TheVariants as unit
use Rattle.mss_base.specs.declared.place.BlockPlace.{BlockPlace}
use Rattle.mss_base.specs.Content.{Content, SiteLog, Write, content, synced, splice, same_unit, IsLoose, Got, Adds, Writes, length-splice}
use Rattle.mss_base.specs.Zeros.{length-zeros}
use Rattle.mss_base.proofs.ContentLemmas.{written_elsewhere}
use Rattle.mss_base.proofs.Moments.{content_then, block_write, block_written, block_started}
use Rattle.table_pair.specs.Pair.{is_table}
use Rattle.shown_volumes.specs.Shown.{block_at, volumes_shown, SameTables}
use Rattle.shown_volumes.specs.Sound.{IsSound}
use Rattle.shown_volumes.specs.Changing.{IsOutside, IsQuiet, StillShows}
use Rattle.shown_volumes.proofs.QuietFacts.{quiet_started, copied_moments, copied_quiet, synced_firm}
use Rattle.transfers.specs.declared.transfer.Transfer.{Transfer}
use Rattle.transfers.specs.declared.transfer.TransferKind.{TransferKind}
use Rattle.transfers.specs.declared.transfer.TransferKind.TheVariants as kind
use Rattle.transfers.specs.Copies.{in_frame, in_cartridge, target, target_of, target_unit, source, source_of, copy_of, AddsAtMost, AddsCopy, ChangesTarget, IsBlock, IsCopied, IsCopiedTo, AreFirm}

-- ---- the source

pub length-source : (t : Transfer) (head : ℕ) (c : Content) → ((u : UnitNo) (b : ℕ) → IsBlock (c u b)) → IsBlock (source t head c)
length-source t head c whole = by_kind t.kind
  where
    by_kind : (k : TransferKind) → IsBlock (source_of k (block_at c (in_frame t head)) (block_at c (in_cartridge t head)))
    by_kind kind.StageBlank = length-zeros
    by_kind kind.StageCartridge = whole (in_cartridge t head).unit (in_cartridge t head).block
    by_kind kind.Destage = whole (in_frame t head).unit (in_frame t head).block

-- ---- one block written

splice_whole : (bytes block : List ℕ) → length bytes ≡ length block → splice 0 bytes block ≡ bytes
unfolding splice
splice_whole [] [] same = refl
splice_whole [] (x ∷ block) same = absurd (omega (arith, same))
splice_whole (b ∷ bytes) [] same = absurd (omega (arith, same))
splice_whole (b ∷ bytes) (x ∷ block) same = ap (λ (l : List ℕ). b ∷ l) (splice_whole bytes block (omega (arith, same)))

-- the block copied to then holds the bytes
copied_there : (to : BlockPlace) (bytes : List ℕ) (old new : SiteLog) → Adds (copy_of to bytes) old new → length bytes ≡ length (block_at (content old) to)
    → block_at (content new) to ≡ bytes
copied_there to bytes old new adds long = block_written to.unit to.block 0 bytes old new adds ∙ splice_whole bytes (block_at (content old) to) long

-- all other blocks stay
copied_elsewhere : (to : BlockPlace) (bytes : List ℕ) (old new : SiteLog) → Adds (copy_of to bytes) old new
    → (u : UnitNo) (b : ℕ) → (same_unit to.unit u && (to.block == b)) ≡ false → content new u b ≡ content old u b
copied_elsewhere to bytes old new adds u b other =
    ap (λ (c : Content). c u b) (content_then (copy_of to bytes) old new adds) ∙ written_elsewhere (content old) (copy_of to bytes) u b other

-- tracks are copied to no table
no_table : (k : TransferKind) (t : Transfer) (head : ℕ) (u : UnitNo) (b : ℕ) → is_table u ≡ true
    → let to = target_of k (in_frame t head) (in_cartridge t head) in (same_unit to.unit u && (to.block == b)) ≡ false
no_table kind.StageBlank t head unit.TableA b table = refl
no_table kind.StageCartridge t head unit.TableA b table = refl
no_table kind.Destage t head unit.TableA b table = refl
no_table kind.StageBlank t head unit.TableB b table = refl
no_table kind.StageCartridge t head unit.TableB b table = refl
no_table kind.Destage t head unit.TableB b table = refl
no_table k t head (unit.Staging n) b table = absurd (let e : false ≡ true = table in cc)
no_table k t head (unit.Cartridge n) b table = absurd (let e : false ≡ true = table in cc)

pub leaves_table : (t : Transfer) (head : ℕ) (old new : SiteLog) → AddsAtMost (target t head) old new → SameTables (content old) (content new)
leaves_table t head old new (inl same) = λ u b table. ap (λ (s : SiteLog). content s u b) same
leaves_table t head old new (inr (left, long, adds)) = λ u b table. copied_elsewhere (target t head) left old new adds u b (no_table t.kind t head u b table)

-- all tracks of a transfer are copied to one unit
pub target_units : (t : Transfer) (head : ℕ) → (target t head).unit ≡ target_unit t
target_units t head = by_kind t.kind
  where
    by_kind : (k : TransferKind) → (target_of k (in_frame t head) (in_cartridge t head)).unit ≡ (target_of k (in_frame t 0) (in_cartridge t 0)).unit
    by_kind kind.StageBlank = refl
    by_kind kind.StageCartridge = refl
    by_kind kind.Destage = refl

-- so one sync makes all copies firm
pub synced_copies : (t : Transfer) (s u : SiteLog) → Got (synced (target_unit t) ∷ []) s u → AreFirm t u
synced_copies t s u got head is = synced_firm s u (target_unit t) got (target t head).block (subst (λ (n : UnitNo). IsLoose u n (target t head).block) (target_units t head) is)

-- a copy into a block outside shows the same, and leaves the site quiet
pub most_moments : (frames : ℕ) (t : Transfer) (s u : SiteLog) → IsQuiet s → IsSound frames (content s) → IsOutside (content s) (target t t.next) → AddsAtMost (target t t.next) s u
    → Writes (StillShows frames (volumes_shown (content s)) s) s u
most_moments frames t s u quiet sound out (inl same) = subst (λ (x : SiteLog). Writes (StillShows frames (volumes_shown (content s)) s) s x) (sym same) (quiet_started frames s quiet sound)
most_moments frames t s u quiet sound out (inr (left, long, adds)) = copied_moments frames s u (copy_of (target t t.next) left) quiet sound out adds

pub most_quiet : (t : Transfer) (s u : SiteLog) → IsQuiet s → IsOutside (content s) (target t t.next) → AddsAtMost (target t t.next) s u → IsQuiet u
most_quiet t s u quiet out (inl same) = subst IsQuiet (sym same) quiet
most_quiet t s u quiet out (inr (left, long, adds)) = copied_quiet s u (copy_of (target t t.next) left) quiet out adds

-- at each moment only the block copied to differs
pub copy_moments : (t : Transfer) (old new : SiteLog) → IsBlock (block_at (content old) (target t t.next)) → AddsAtMost (target t t.next) old new
    → Writes (ChangesTarget t (content old)) old new
copy_moments t old new whole (inl same) =
    let to = target t t.next in
    subst (λ (s : SiteLog). Writes (ChangesTarget t (content old)) old s) (sym same) (block_started to.unit to.block IsBlock old whole)
copy_moments t old new whole (inr (left, long, adds)) =
    let to = target t t.next in
    block_write to.unit to.block 0 left IsBlock old new adds whole (λ other _. length-splice 0 other (block_at (content old) to) ∙ whole)

-- ---- the tracks copied before

blocks_apart : (u v : UnitNo) (a b : ℕ) → (a ≡ b → ⊥) → (same_unit u v && (a == b)) ≡ false
blocks_apart u v a b differ = elim (cases_Bool (same_unit u v && (a == b))) [
  | inl same ↦ absurd (differ (eqb-true a b (and_parts (same_unit u v) (a == b) same).1))
  | inr other ↦ other
]

-- the tracks of two heads are copied to two blocks
target_apart : (k : TransferKind) (t : Transfer) (next head : ℕ) → (next ≡ head → ⊥)
    → let here = target_of k (in_frame t next) (in_cartridge t next) in let there = target_of k (in_frame t head) (in_cartridge t head) in
    (same_unit here.unit there.unit && (here.block == there.block)) ≡ false
target_apart kind.StageBlank t next head differ = blocks_apart (in_frame t next).unit (in_frame t head).unit (in_frame t next).block (in_frame t head).block (λ same. differ (omega (arith, same)))
target_apart kind.StageCartridge t next head differ = blocks_apart (in_frame t next).unit (in_frame t head).unit (in_frame t next).block (in_frame t head).block (λ same. differ (omega (arith, same)))
target_apart kind.Destage t next head differ = blocks_apart (in_cartridge t next).unit (in_cartridge t head).unit (in_cartridge t next).block (in_cartridge t head).block (λ same. differ (omega (arith, same)))

-- no copy changes what is copied from
source_stays : (k : TransferKind) (t : Transfer) (c d : Content) (next head : ℕ)
    → (let to = target_of k (in_frame t next) (in_cartridge t next) in (u : UnitNo) (b : ℕ) → (same_unit to.unit u && (to.block == b)) ≡ false → d u b ≡ c u b)
    → source_of k (block_at d (in_frame t head)) (block_at d (in_cartridge t head)) ≡ source_of k (block_at c (in_frame t head)) (block_at c (in_cartridge t head))
source_stays kind.StageBlank t c d next head others = refl
source_stays kind.StageCartridge t c d next head others = others (in_cartridge t head).unit (in_cartridge t head).block refl
source_stays kind.Destage t c d next head others = others (in_frame t head).unit (in_frame t head).block refl

same_or_below : (head next : ℕ) → head < next + 1 → (head < next) ⊎ (next ≡ head)
same_or_below head next below = elim (cases_Bool (nat_lt head next)) [ inl yes_ ↦ inl (omega (arith, ltb-true head next yes_)) | inr no_ ↦ inr (omega (arith, below, ltb-false head next no_)) ]

-- ---- a copy that is done, of blocks that are whole

module _ (t : Transfer) (old new : SiteLog) (whole : (u : UnitNo) (b : ℕ) → IsBlock (content old u b)) (adds : AddsCopy t old new) where
  long : length (source t t.next (content old)) ≡ length (block_at (content old) (target t t.next))
  long = length-source t t.next (content old) whole ∙ sym (whole (target t t.next).unit (target t t.next).block)

  -- the block equals its source
  pub copied_next : block_at (content new) (target t t.next) ≡ source t t.next (content old)
  copied_next = copied_there (target t t.next) (source t t.next (content old)) old new adds long

  -- one more track is copied
  pub copied_more : IsCopiedTo t (content old) → (head : ℕ) → head < t.next + 1 → IsCopied t (content new) head
  copied_more before head below =
      let others = copied_elsewhere (target t t.next) (source t t.next (content old)) old new adds in
      let stays : (h : ℕ) → source t h (content new) ≡ source t h (content old) = λ h. source_stays t.kind t (content old) (content new) t.next h others in
      elim (same_or_below head t.next below) [
        | inl earlier ↦
            others (target t head).unit (target t head).block (target_apart t.kind t t.next head (λ same. absurd (omega (arith, same, earlier))))
            ∙ before head earlier ∙ sym (stays head)
        | inr same ↦
            subst (IsCopied t (content new)) same (copied_next ∙ sym (stays t.next))
      ]

-- ---- what the code wrote, in the words of the transfer

module _ (t : Transfer) (head : ℕ) (to : BlockPlace) (old mid new : SiteLog) (to_is : to ≡ target t head) (head_is : head ≡ t.next) (same : mid ≡ old) where
  pub adds_at_most : AddsAtMost to mid new → AddsAtMost (target t t.next) old new
  adds_at_most adds = subst (λ (x : SiteLog). AddsAtMost (target t t.next) x new) same (subst (λ (p : BlockPlace). AddsAtMost p mid new) (to_is ∙ ap (target t) head_is) adds)

  pub adds_copy : (bytes : List ℕ) → bytes ≡ source t head (content old) → Adds (copy_of to bytes) mid new → AddsCopy t old new
  adds_copy bytes is adds =
      let write_is : copy_of to bytes ≡ copy_of (target t t.next) (source t t.next (content old)) =
      (λ i. copy_of ((to_is ∙ ap (target t) head_is) i) ((is ∙ ap (λ (h : ℕ). source t h (content old)) head_is) i)) in
      subst (λ (x : SiteLog). Adds (copy_of (target t t.next) (source t t.next (content old))) x new) same (subst (λ (w : Write). Adds w mid new) write_is adds)

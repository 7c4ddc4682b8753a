-- The two writes of an appending, on a site's log.
use Rattle.std.proofs.Common.{◌≡◌, inl, inr, ℕ, suc, ◌+◌, ◌*◌, ◌≤◌, ◌<◌, true, ◌==◌, List, [], ◌∷◌, ◌++◌, length, take, get_or, ◌∙◌, ap, arith, length-append}
use Rattle.mss_base.specs.declared.place.BlockPlace.{BlockPlace}
use Rattle.mss_base.specs.Blocks.{WritesBlock, block_of}
use Rattle.mss_base.specs.Content.{SiteLog, Write, wrote, synced, unsynced, content, write_at, Adds, Settles, ChangesBlock}
use Rattle.mss_base.proofs.Moments.{block_write, block_written, ended_with, weaker, then_firm}
use Rattle.table_journal.specs.Slots.{is_slot_open, slot_body, slots, IsAppending, slots_on, AppendsSlot}
use Rattle.table_journal.specs.Appending.{KeepsSlots, IsNextClosed}
use Rattle.table_journal.proofs.SlotLemmas.{body_put, next_put, put_length, put_first, put_last, keeps_same, keeps_behind, opened_slots, appending_gate, appending_none, appending_then}

-- how much longer a log gets by a write, synced or not
pub adds_few : (w : Write) (s t : SiteLog) → Adds w s t → length t.log ≤ length s.log + 2
adds_few w s t (inl alone) = omega (arith, ap (λ (l : SiteLog). length l.log) alone, length-append s.log (wrote w ∷ []))
adds_few w s t (inr (inl firm)) = omega (arith, ap (λ (l : SiteLog). length l.log) firm, length-append s.log (wrote w ∷ synced w.unit ∷ []))
adds_few w s t (inr (inr loose)) = omega (arith, ap (λ (l : SiteLog). length l.log) loose, length-append s.log (wrote w ∷ unsynced ∷ []))

pub adds_grow : (w : Write) (s t : SiteLog) → Adds w s t → length s.log < length t.log
adds_grow w s t (inl alone) = omega (arith, ap (λ (l : SiteLog). length l.log) alone, length-append s.log (wrote w ∷ []))
adds_grow w s t (inr (inl firm)) = omega (arith, ap (λ (l : SiteLog). length l.log) firm, length-append s.log (wrote w ∷ synced w.unit ∷ []))
adds_grow w s t (inr (inr loose)) = omega (arith, ap (λ (l : SiteLog). length l.log) loose, length-append s.log (wrote w ∷ unsynced ∷ []))

pub writes_grow : (at : BlockPlace) (P : List ℕ → Type 0) (s t : SiteLog) → WritesBlock at P s t → length s.log ≤ length t.log
writes_grow at P s t w = omega (arith, ap (λ (l : SiteLog). length l.log) w.grown, length-append s.log w.items)

module _ (at : BlockPlace) (s t : SiteLog) (used : ℕ) (few : used < 1984) (counts : length (slots_on s at) ≡ used) where
  -- a write behind the gate of the first slot that isn't in use
  pub body_moments : (place : ℕ) (left : List ℕ) → 512 + 8 * used < place → Adds (write_at at place left) s t → WritesBlock at (KeepsSlots (block_of s at)) s t
  body_moments place left beyond adds =
      block_write at.unit at.block place left (KeepsSlots (block_of s at)) s t adds (keeps_same (block_of s at)) (λ other long. keeps_behind used (block_of s at) counts few place other beyond)

  -- that gate is written
  module _ (whole : length (block_of s at) ≡ 16384) (next : IsNextClosed used (block_of s at)) (place : ℕ) (here : place ≡ 512 + 8 * used) where
    pub gate_moments : (left : List ℕ) → length left ≡ 1 → Adds (write_at at place left) s t → AppendsSlot (slot_body used (block_of s at)) at s t
    gate_moments left one adds =
        block_write at.unit at.block place left (IsAppending (slot_body used (block_of s at)) (block_of s at)) s t adds
        (appending_none (slot_body used (block_of s at)) (block_of s at) (block_of s at) (keeps_same (block_of s at)))
        (λ other long. appending_gate used (block_of s at) counts few place here other (long ∙ one) (omega arith) next)

    pub gate_opened : (bytes : List ℕ) → length bytes ≡ 1 → (get_or bytes 0 0 == 193) ≡ true → Adds (write_at at place bytes) s t → slots_on t at ≡ slots_on s at ++ slot_body used (block_of s at) ∷ []
    gate_opened bytes one opened adds =
        ap slots (block_written at.unit at.block place bytes s t adds) ∙ opened_slots used (block_of s at) counts few place here bytes one (omega arith) next opened

-- a body and the next gate, closed, are written as far as the block reaches
module _ (at : BlockPlace) (s t : SiteLog) (whole : length (block_of s at) ≡ 16384) (used place n : ℕ) (here : place ≡ 513 + 8 * used) (body bytes : List ℕ) (long : length body ≡ 7)
    (all : bytes ≡ body ++ 0 ∷ []) (some : 7 ≤ n) (most : n ≤ 8) (inside : place + n ≤ 16384) (adds : Adds (write_at at place (take n bytes)) s t) where
  abbrev put_bytes : List ℕ
  put_bytes = take n bytes

  long_put : length put_bytes ≡ n
  long_put = put_length body bytes long all n most

  pub body_there : slot_body used (block_of t at) ≡ body
  body_there =
      ap (slot_body used) (block_written at.unit at.block place put_bytes s t adds) ∙ body_put used place put_bytes (block_of s at) here (omega (arith, long_put)) (omega (arith, long_put))
      ∙ put_first body bytes long all n some

  pub next_there : (suc used < 1984 → n ≡ 8) → IsNextClosed used (block_of t at)
  next_there reaches = λ there.
      let eight = reaches there in
      ap (is_slot_open (suc used)) (block_written at.unit at.block place put_bytes s t adds)
      ∙ next_put used place put_bytes (block_of s at) here (omega (arith, long_put)) (omega (arith, long_put)) (put_last body bytes long all n (omega arith))

-- the slots stay, and then one is appended, of which the first is firm before the second
module _ (at : BlockPlace) (body : List ℕ) (s t : SiteLog) (first : WritesBlock at (KeepsSlots (block_of s at)) s t) where
  pub appends_none : AppendsSlot body at s t
  appends_none =
      weaker (ChangesBlock at.unit at.block (KeepsSlots (block_of s at)) (content s)) (ChangesBlock at.unit at.block (IsAppending body (block_of s at)) (content s))
      (λ c has. record { others = has.others; here = appending_none body (block_of s at) (c at.unit at.block) has.here }) s t first

  pub slots_kept : KeepsSlots (block_of s at) (block_of t at)
  slots_kept = (ended_with (ChangesBlock at.unit at.block (KeepsSlots (block_of s at)) (content s)) s t first).here

  pub appends_then : (u : SiteLog) → Settles s t → AppendsSlot body at t u → AppendsSlot body at s u
  appends_then u firm second =
      let at_mid = ended_with (ChangesBlock at.unit at.block (KeepsSlots (block_of s at)) (content s)) s t first in
      then_firm (ChangesBlock at.unit at.block (IsAppending body (block_of s at)) (content s)) s t u firm appends_none
      (weaker (ChangesBlock at.unit at.block (IsAppending body (block_of t at)) (content t)) (ChangesBlock at.unit at.block (IsAppending body (block_of s at)) (content s))
      (λ c has. record { others = λ unit block other. has.others unit block other ∙ at_mid.others unit block other; here = appending_then body (block_of s at) (block_of t at) (c at.unit at.block) at_mid.here has.here })
      t u second)

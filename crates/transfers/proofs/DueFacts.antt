-- What copies that are due leave of the shown volumes.
use Rattle.std.proofs.Common.{◌≡◌, inl, inr, ℕ, ◌<◌, ◌/◌, nat_lt, cond, Option, Some, None, refl, sym, ◌∙◌, ap, subst, arith}
use Rattle.std.specs.Prelude.{IsSome}
use Rattle.std.specs.Option.{option_map}
use Rattle.mss_base.specs.declared.place.UnitNo.TheVariants.{Cartridge}
use Rattle.mss_base.specs.declared.place.BlockPlace.{BlockPlace}
use Rattle.mss_base.specs.Content.{Content, SiteLog, Write, content, with_write, Writes}
use Rattle.mss_base.specs.Places.{frame_block, cartridge_block}
use Rattle.mss_base.proofs.Moments.{started, one_write}
use Rattle.ckd_track.specs.Track.{reading}
use Rattle.ckd_track.proofs.TrackFacts.{reading-zeros}
use Rattle.volume_table.specs.Row.{RowValue, frame_of, state_of}
use Rattle.volume_table.specs.Changes.{IsAllowed}
use Rattle.shown_volumes.specs.Shown.{block_at, on_cartridge, in_page, volumes_shown}
use Rattle.shown_volumes.specs.Sound.{IsSound, SoundAs}
use Rattle.shown_volumes.specs.Changing.{IsOutside, IsReady, IsFirmAt, IsFirmFor}
use Rattle.transfers.specs.declared.transfer.Transfer.{Transfer}
use Rattle.transfers.specs.declared.transfer.TransferKind.{TransferKind}
use Rattle.transfers.specs.declared.transfer.TransferKind.TheVariants as kind
use Rattle.transfers.specs.Copies.{in_frame, in_cartridge, target, target_of, source_of, copy_of, AddsAtMost, IsCopiedTo, AreFirm}
use Rattle.transfers.specs.Dues.{IsDue, due_state, change_by, change_of}

cartridge_place : (t : Transfer) (r : RowValue) (head : ℕ) → t.cartridge ≡ cond (nat_lt t.cylinder 202) r.first r.second → in_cartridge t head ≡ on_cartridge r t.cylinder head
cartridge_place t r head is = λ i. record { unit = Cartridge (is i); block = cartridge_block t.cylinder head }

-- a due transfer copies to blocks that no shown track stands on
pub goes_outside : (t : Transfer) (r : RowValue) (c : Content) (head : ℕ) → IsDue t r
    → (state_of r t.cylinder < 2 → IsOutside c (in_frame t head))
    → (state_of r t.cylinder ≡ 4 → IsOutside c (on_cartridge r t.cylinder head))
    → IsOutside c (target t head)
goes_outside t r c head due frame_out cartridge_out = by_kind t.kind due.state
  where
    by_kind : (k : TransferKind) → state_of r t.cylinder ≡ due_state k → IsOutside c (target_of k (in_frame t head) (in_cartridge t head))
    by_kind kind.StageBlank is = frame_out (omega (arith, is))
    by_kind kind.StageCartridge is = frame_out (omega (arith, is))
    by_kind kind.Destage is = subst (IsOutside c) (sym (cartridge_place t r head due.cartridge_)) (cartridge_out is)

-- a copy of a whole block outside
pub shows_same_while : (frames : ℕ) (to : BlockPlace) (old new : SiteLog) → IsSound frames (content old)
    → ((w : Write) → IsOutside (content old) (record { unit = w.unit; block = w.block }) → IsSound frames (content old) → SoundAs frames (volumes_shown (content old)) (with_write (content old) w))
    → IsOutside (content old) to → AddsAtMost to old new → Writes (SoundAs frames (volumes_shown (content old))) old new
shows_same_while frames to old new sound law outside (inl same) =
    subst (λ (s : SiteLog). Writes (SoundAs frames (volumes_shown (content old))) old s) (sym same) (started (SoundAs frames (volumes_shown (content old))) old (record { sound = sound; same = refl }))
shows_same_while frames to old new sound law outside (inr (left, long, adds)) =
    one_write (SoundAs frames (volumes_shown (content old))) old new (copy_of to left) adds (record { sound = sound; same = refl })
    (λ other _. law (copy_of to other) outside sound)

-- ---- the row's change

some_is : {A : Type 0} (o : Option A) (x : A) → o ≡ Some x → IsSome o
some_is (Some y) x is = refl
some_is None x is = absurd (let none : None ≡ Some x = is in cc)

pub allowed : (t : Transfer) (r : RowValue) → IsDue t r → IsAllowed (change_of t) r
allowed t r due = by_kind t.kind due.state
  where
    by_kind : (k : TransferKind) → state_of r t.cylinder ≡ due_state k → IsAllowed (change_by k t.cylinder) r
    by_kind kind.StageBlank is = (omega (arith, is), some_is (frame_of r (t.cylinder / 8)) t.frame due.frame_)
    by_kind kind.StageCartridge is = (omega (arith, is), some_is (frame_of r (t.cylinder / 8)) t.frame due.frame_)
    by_kind kind.Destage is = is

place_is : (t : Transfer) (r : RowValue) (head : ℕ) (place : BlockPlace) → frame_of r (t.cylinder / 8) ≡ Some t.frame → in_page r t.cylinder head ≡ Some place → in_frame t head ≡ place
place_is t r head place has at =
    let e : Some (in_frame t head) ≡ Some place = sym (ap (λ (o : Option ℕ). option_map (λ f. frame_block f t.cylinder head) o) has) ∙ at in
    ap place_or e
  where
    place_or : Option BlockPlace → BlockPlace
    place_or None = in_frame t head
    place_or (Some p) = p

-- each block copied to equals its source
pub ready : (frames : ℕ) (t : Transfer) (r : RowValue) (c : Content) → IsDue t r → t.next ≡ 19 → IsCopiedTo t c → IsReady frames (change_of t) r c
ready frames t r c due all copied = by_kind t.kind due.state (λ head low. copied head (omega (arith, all, low)))
  where
    by_kind : (k : TransferKind) → state_of r t.cylinder ≡ due_state k
        → ((head : ℕ) → head < 19 → block_at c (target_of k (in_frame t head) (in_cartridge t head)) ≡ source_of k (block_at c (in_frame t head)) (block_at c (in_cartridge t head)))
        → IsReady frames (change_by k t.cylinder) r c
    by_kind kind.StageBlank is each = λ head low. record {
      blank = λ two place at. ap (λ (p : BlockPlace). reading (block_at c p)) (sym (place_is t r head place due.frame_ at)) ∙ ap reading (each head low) ∙ reading-zeros;
      copied = λ three place at. absurd (omega (arith, is, three));
    }
    by_kind kind.StageCartridge is each = λ head low. record {
      blank = λ two place at. absurd (omega (arith, is, two));
      copied = λ three place at.
          ap (block_at c) (sym (place_is t r head place due.frame_ at)) ∙ each head low ∙ ap (block_at c) (cartridge_place t r head due.cartridge_);
    }
    by_kind kind.Destage is each = λ head low place at.
        ap (block_at c) (sym (place_is t r head place due.frame_ at)) ∙ sym (each head low) ∙ ap (block_at c) (cartridge_place t r head due.cartridge_)

-- and is firm, where the copies are
pub firm_for : (t : Transfer) (r : RowValue) (s : SiteLog) → IsDue t r → AreFirm t s → IsFirmFor (change_of t) r s
firm_for t r s due firm = by_kind t.kind firm
  where
    by_kind : (k : TransferKind) → ((head : ℕ) → IsFirmAt s (target_of k (in_frame t head) (in_cartridge t head))) → IsFirmFor (change_by k t.cylinder) r s
    by_kind kind.StageBlank each = λ head low place at. subst (IsFirmAt s) (place_is t r head place due.frame_ at) (each head)
    by_kind kind.StageCartridge each = λ head low place at. subst (IsFirmAt s) (place_is t r head place due.frame_ at) (each head)
    by_kind kind.Destage each = λ head low. subst (IsFirmAt s) (cartridge_place t r head due.cartridge_) (each head)

-- over contents with the same blocks
pub stays : (t : Transfer) (c d : Content) → ((head : ℕ) → head < t.next → block_at d (in_frame t head) ≡ block_at c (in_frame t head))
    → ((head : ℕ) → head < t.next → block_at d (in_cartridge t head) ≡ block_at c (in_cartridge t head)) → IsCopiedTo t c → IsCopiedTo t d
stays t c d same_frame same_cartridge copied = λ head below. by_kind t.kind head below (copied head below)
  where
    by_kind : (k : TransferKind) (head : ℕ) → head < t.next
        → block_at c (target_of k (in_frame t head) (in_cartridge t head)) ≡ source_of k (block_at c (in_frame t head)) (block_at c (in_cartridge t head))
        → block_at d (target_of k (in_frame t head) (in_cartridge t head)) ≡ source_of k (block_at d (in_frame t head)) (block_at d (in_cartridge t head))
    by_kind kind.StageBlank head below is = same_frame head below ∙ is
    by_kind kind.StageCartridge head below is = same_frame head below ∙ is ∙ sym (same_cartridge head below)
    by_kind kind.Destage head below is = same_cartridge head below ∙ is ∙ sym (same_frame head below)

-- Where a transfer copies from and to, and what the copy of a track does.
use Rattle.std.specs.Prelude.{◌≡◌, ◌⊎◌, ℕ, ◌+◌, ◌<◌, Bool, false, List, length, Option, Some, None, IsSome, Result, IsOk, OnOk, OnErr}
use Rattle.std.specs.Option.{ForSome}
use Rattle.mss_base.specs.Content.{Content, SiteLog, Write, Adds, Writes, ChangesBlock, content}
use Rattle.mss_base.specs.Counts.{HasCause, Rises}
use Rattle.mss_base.specs.Places.{cartridge_block, frame_block}
use Rattle.mss_base.specs.Sites.{OnlyReads, MayWrite}
use Rattle.mss_base.specs.Zeros.{zeros}
use Rattle.mss_base.specs.Geometry.{block_bytes}
use Rattle.mss_base.specs.declared.place.BlockPlace.{BlockPlace}
use Rattle.mss_base.specs.declared.place.UnitNo.{UnitNo}
use Rattle.mss_base.specs.declared.place.UnitNo.TheVariants.{Cartridge}
use Rattle.mss_base.specs.declared.site.Site.{Ghosts}
use Rattle.shown_volumes.specs.Shown.{block_at}
use Rattle.shown_volumes.specs.Changing.{IsFirmAt}
use Rattle.transfers.specs.declared.transfer.Transfer.{Transfer}
use Rattle.transfers.specs.declared.transfer.TransferKind.{TransferKind}
use Rattle.transfers.specs.declared.transfer.TransferKind.TheVariants as kind

-- ---- places

-- the track of a head in the frame, and on the cartridge
abbrev pub in_frame : Transfer → ℕ → BlockPlace
in_frame t head = frame_block t.frame t.cylinder head

abbrev pub in_cartridge : Transfer → ℕ → BlockPlace
in_cartridge t head = record {
  unit = Cartridge t.cartridge;
  block = cartridge_block t.cylinder head;
}

-- of the two, which one is copied to
abbrev pub target_of : TransferKind → BlockPlace → BlockPlace → BlockPlace
target_of kind.StageBlank frame cartridge = frame
target_of kind.StageCartridge frame cartridge = frame
target_of kind.Destage frame cartridge = cartridge

abbrev pub target : Transfer → ℕ → BlockPlace
target t head = target_of t.kind (in_frame t head) (in_cartridge t head)

-- the unit of all of them that are copied to
abbrev pub target_unit : Transfer → UnitNo
target_unit t = (target t 0).unit

-- of the two, which one is copied, if one is
abbrev pub copied_of : {A : Type 0} → TransferKind → A → A → Option A
copied_of kind.StageBlank frame cartridge = None
copied_of kind.StageCartridge frame cartridge = Some cartridge
copied_of kind.Destage frame cartridge = Some frame

-- where a copy reads, if it reads
abbrev pub source_place : Transfer → ℕ → Option BlockPlace
source_place t head = copied_of t.kind (in_frame t head) (in_cartridge t head)

-- ---- blocks

-- the bytes that were read, or a blank track
abbrev pub or_blank : Option (List ℕ) → List ℕ
or_blank (Some bytes) = bytes
or_blank None = zeros

abbrev pub source_of : TransferKind → List ℕ → List ℕ → List ℕ
source_of kind frame cartridge = or_blank (copied_of kind frame cartridge)

-- the bytes that the track of a head is copied from
abbrev pub source : Transfer → ℕ → Content → List ℕ
source t head c = source_of t.kind (block_at c (in_frame t head)) (block_at c (in_cartridge t head))

-- the track of a head is copied: the block that it goes to equals its source
abbrev pub IsCopied : Transfer → Content → ℕ → Type 0
IsCopied t c head = block_at c (target t head) ≡ source t head c

-- each track before the next one is copied
abbrev pub IsCopiedTo : Transfer → Content → Type 0
IsCopiedTo t c = (head : ℕ) → head < t.next → IsCopied t c head

-- no copy of a track is loose
abbrev pub AreFirm : Transfer → SiteLog → Type 0
AreFirm t s = (head : ℕ) → IsFirmAt s (target t head)

-- the transfer with one more track copied
abbrev pub moved_on : Transfer → Transfer
moved_on t = record t { next = t.next + 1 }

-- ---- the copy of a track

-- a block has 16,384 bytes, whatever they are
abbrev pub IsBlock : List ℕ → Type 0
IsBlock bytes = length bytes ≡ block_bytes

-- the write of a whole block
abbrev pub copy_of : BlockPlace → List ℕ → Write
copy_of place bytes = record { unit = place.unit; block = place.block; offset = 0; bytes = bytes }

-- the log is as it was, or got one write, of this whole block
abbrev pub AddsAtMost : BlockPlace → SiteLog → SiteLog → Type 0
AddsAtMost place old new =
    (new ≡ old) ⊎ ((left : List ℕ) × IsBlock left × Adds (copy_of place left) old new)

-- the log got one write: of the next track's source, into the block that it goes to
abbrev pub AddsCopy : Transfer → SiteLog → SiteLog → Type 0
AddsCopy t old new = Adds (copy_of (target t t.next) (source t t.next (content old))) old new

-- only the block that the next track goes to differs, and it is still a block
abbrev pub ChangesTarget : Transfer → Content → Content → Type 0
ChangesTarget t = ChangesBlock (target t t.next).unit (target t t.next).block IsBlock

-- What a copy does to the blocks. Whatever the outcome, it writes the whole block that the next
-- track goes to, or nothing, and at each moment all other blocks are as they were. Where it is
-- done, that block equals the source, and the track is copied as those before it were.
pub record CopiesBlock {T E : Type 0} (t : Transfer) (old new : SiteLog) (result : Result T E)
    : Type 0 where
  pub logged : AddsAtMost (target t t.next) old new
  pub moments : Writes (ChangesTarget t (content old)) old new
  pub written : OnOk result (AddsCopy t old new)
  pub copied : OnOk result
      (block_at (content new) (target t t.next) ≡ source t t.next (content old))
  pub progress : OnOk result
      (IsCopiedTo t (content old) → IsCopiedTo (moved_on t) (content new))

-- ---- the devices

-- the next track can be read, where the reads of these units alone may fail
abbrev pub IsReadable : (UnitNo → Bool) → Transfer → Type 0
IsReadable but t = ForSome (source_place t t.next) (λ place. but place.unit ≡ false)

-- a read was made, and failed, and nothing was written. Blank tracks aren't read.
pub record IsUnread {S : Type 0} (g : Ghosts S) (t : Transfer) (old new : S) : Type 0 where
  pub asked : IsSome (source_place t t.next)
  pub reads : OnlyReads g old new

-- What the copy of a transfer's next track does to its devices, whatever they tell. It writes once
-- at most. It fails where its read failed or its write did, and the count of faults rose then.
-- Where the write can't fail, a failure is the read's; where the read can't either, it is done.
pub record CopiesTrack {S T E : Type 0} (g : Ghosts S) (t : Transfer) (old new : S)
    (result : Result T E) : Type 0 where
  pub blocks : g.tells → CopiesBlock t (g.told old) (g.told new) result
  pub devices : MayWrite g 1 old new
  pub wrote : OnOk result (Rises (g.writes old) (g.writes new))
  pub undone : OnErr result
      (IsUnread g t old new
      ⊎ Rises (g.writes old) (g.writes new))
  pub cause : HasCause (g.faults old) (g.faults new) result
  pub only_reads_fail : (but : UnitNo → Bool) → g.never_fails_but old but
      → OnErr result (IsUnread g t old new)
  pub works : (but : UnitNo → Bool) → g.never_fails_but old but → IsReadable but t → IsOk result

-- The copy of one track shows the same, and goes on with what is half copied.
use Rattle.std.proofs.Common.{◌≡◌, ◌≢◌, ◌⊎◌, inl, inr, ℕ, ◌+◌, ◌/◌, ◌<◌, Bool, false, ◌&&◌, ◌==◌, List, Option, Some, sym, ◌∙◌, ap, subst, arith}
use Rattle.std.specs.Option.{ForSome}
use Rattle.std.proofs.lemmas.Bool.{cases_lt}
use Rattle.mss_base.specs.Content.{Content, SiteLog, content, Writes, same_unit}
use Rattle.mss_base.specs.Zeros.{zeros}
use Rattle.mss_base.specs.Places.{frame_block, cartridge_block}
use Rattle.mss_base.specs.declared.place.UnitNo.{UnitNo}
use Rattle.mss_base.specs.declared.place.UnitNo.TheVariants.{Cartridge}
use Rattle.mss_base.specs.declared.place.BlockPlace.{BlockPlace}
use Rattle.mss_base.proofs.ContentLemmas.{written_elsewhere}
use Rattle.mss_base.proofs.Moments.{content_then}
use Rattle.ckd_track.specs.Track.{reading}
use Rattle.ckd_track.proofs.TrackFacts.{reading-zeros}
use Rattle.volume_table.specs.Row.{RowValue, frame_of, state_of, cartridge_with}
use Rattle.shown_volumes.specs.Shown.{RowsOf, rows_of, volumes_shown, block_at, on_cartridge, in_page}
use Rattle.shown_volumes.specs.Sound.{IsSound, HasCartridgesOnce, IsStagedAs, IsSameAt}
use Rattle.shown_volumes.specs.Changing.{IsOutside, IsQuiet, StillShows}
use Rattle.shown_volumes.proofs.PlaceFacts.{in_frame}
use Rattle.shown_volumes.proofs.OutsideFacts.{frame_outside, cartridge_outside}
use Rattle.fault_queue.specs.declared.queue.Request.{Request}
use Rattle.transfers.specs.declared.transfer.Transfer.{Transfer}
use Rattle.transfers.specs.declared.transfer.TransferKind.{TransferKind}
use Rattle.transfers.specs.declared.transfer.TransferKind.TheVariants.{StageBlank, StageCartridge, Destage}
use Rattle.transfers.specs.Copies.{target, target_of, source_of, copy_of, AddsAtMost}
use Rattle.transfers.specs.Dues.{due_state}
use Rattle.transfers.proofs.CopyFacts.{most_moments, most_quiet}
use Rattle.transfers.proofs.DueFacts.{goes_outside}
use Rattle.core_state.specs.declared.task.Task.{Task}
use Rattle.core_state.specs.Tasks.{IsTransfer}
use Rattle.core_state.specs.Served.{AreStaged, AreDestaged, AreCopied, IsServed}
use Rattle.core_state.proofs.RuleWalks.{some_is}
use Rattle.core_state.proofs.Serving.{same_for, copied_same, frame_write_leaves_cartridges, frame_write_leaves_frames, cartridge_write_leaves_frames, cartridge_write_leaves_cartridges}
use Rattle.core_state.proofs.TaskRows.{framed_by}

-- where a track is copied to, and the bytes that it is copied from
abbrev pub copied_to : TransferKind → ℕ → ℕ → ℕ → ℕ → BlockPlace
copied_to kind frame cartridge cylinder head = target_of kind (frame_block frame cylinder head) (record { unit = Cartridge cartridge; block = cartridge_block cylinder head })

abbrev pub copied_from : TransferKind → Content → ℕ → ℕ → ℕ → ℕ → List ℕ
copied_from kind c frame cartridge cylinder head = source_of kind (block_at c (frame_block frame cylinder head)) (block_at c (record { unit = Cartridge cartridge; block = cartridge_block cylinder head }))

-- each block but one is the same
abbrev pub SameBut : BlockPlace → Content → Content → Type 0
SameBut place c d = (u : UnitNo) (b : ℕ) → (same_unit place.unit u && (place.block == b)) ≡ false → d u b ≡ c u b

pub same_but : (place : BlockPlace) (s t : SiteLog) → AddsAtMost place s t → SameBut place (content s) (content t)
same_but place s t (inl same) = λ u b other. ap (λ (x : SiteLog). content x u b) same
same_but place s t (inr (left, long, adds)) = λ u b other.
    ap (λ (c : Content). c u b) (content_then (copy_of place left) s t adds) ∙ written_elsewhere (content s) (copy_of place left) u b other

module _ (frames : ℕ) (s n : SiteLog) (rows : RowsOf) (rows_are : rows_of (content s) ≡ rows) (sound : IsSound frames (content s)) (quiet : IsQuiet s) (frame : ℕ) (victim : Option (ℕ × ℕ)) (q : Request) (t : Transfer)
    (is : IsTransfer rows frame victim q t) (more : t.next < 19) (may : AddsAtMost (target t t.next) s n) where
  its_row : rows_of (content s) t.volume ≡ Some is.row
  its_row = ap (λ (x : RowsOf). x t.volume) rows_are ∙ is.there

  -- no shown track stands on the block copied to
  lies_outside : IsOutside (content s) (target t t.next)
  lies_outside =
      goes_outside t is.row (content s) t.next is.due
      (λ unstaged. frame_outside frames (content s) t.volume t.cylinder t.next is.row sound its_row is.due.cylinder_in more t.frame is.due.frame_ unstaged)
      (λ changed. cartridge_outside frames (content s) t.volume t.cylinder t.next is.row sound its_row is.due.cylinder_in more changed)

  -- at each moment of the copy the content shows the same, and what was loose lies outside
  pub copy_shows : Writes (StillShows frames (volumes_shown (content s)) s) s n
  copy_shows = most_moments frames t s n quiet sound lies_outside may

  -- so does the copy, firm or not
  pub copy_quiet : IsQuiet n
  copy_quiet = most_quiet t s n quiet lies_outside may

-- ---- what is copied so far

module _ (c d : Content) (r : RowValue) (frame cylinder next : ℕ) (has : frame_of r (cylinder / 8) ≡ Some frame) (low : cylinder < 404) (more : next < 19) where
  abbrev place : BlockPlace
  place = frame_block frame cylinder next

  one_head : (head : ℕ) (at : BlockPlace) → in_page r cylinder head ≡ Some at → frame_block frame cylinder head ≡ at
  one_head head at is = let e : Some (frame_block frame cylinder head) ≡ Some at = sym (in_frame r cylinder head frame has) ∙ is in cc

  last_or : (head : ℕ) → head < next + 1 → (head ≡ next) ⊎ (head < next)
  last_or head lt = elim (cases_lt head next) [ inl less ↦ inr less | inr past ↦ inl (omega arith) ]

  -- a track staged
  module _ (others : SameBut (frame_block frame cylinder next) c d) (here : (state_of r cylinder ≡ 0) × (block_at d (frame_block frame cylinder next) ≡ zeros) ⊎ (state_of r cylinder ≡ 1) × (block_at d (frame_block frame cylinder next) ≡ block_at c (on_cartridge r cylinder next))) where
    carried : (head : ℕ) → block_at d (on_cartridge r cylinder head) ≡ block_at c (on_cartridge r cylinder head)
    carried head = frame_write_leaves_cartridges c d frame cylinder next others r cylinder head

    new_track : IsStagedAs d (state_of r cylinder + 2) (in_page r cylinder next) (on_cartridge r cylinder next)
    new_track = elim here [
      | inl blank ↦ record {
        blank = λ two at is. ap (λ (p : BlockPlace). reading (block_at d p)) (sym (one_head next at is)) ∙ ap reading blank.1 ∙ reading-zeros;
        copied = λ three. absurd (omega (arith, blank.0));
      }
      | inr copied_ ↦ record {
        blank = λ two. absurd (omega (arith, copied_.0));
        copied = λ three at is. ap (block_at d) (sym (one_head next at is)) ∙ copied_.1 ∙ sym (carried next);
      }
    ]

    pub staged_more : AreStaged c r cylinder next → AreStaged d r cylinder (next + 1)
    staged_more are head lt = elim (last_or head lt) [
      | inl e ↦ subst (λ (h : ℕ). IsStagedAs d (state_of r cylinder + 2) (in_page r cylinder h) (on_cartridge r cylinder h)) (sym e) new_track
      | inr less ↦
          let old = are head less in
          let framed : (at : BlockPlace) → in_page r cylinder head ≡ Some at → block_at d at ≡ block_at c at =
          λ at is. frame_write_leaves_frames c d frame cylinder next more others r cylinder head frame (omega arith) has (λ same. let k = same.2 in absurd (omega (arith, k))) at is in
          record {
            blank = λ two at is. ap reading (framed at is) ∙ old.blank two at is;
            copied = λ three at is. framed at is ∙ old.copied three at is ∙ sym (carried head);
          }
    ]

  -- a track destaged
  module _ (rows : RowsOf) (once : HasCartridgesOnce rows) (v : ℕ) (there : rows v ≡ Some r) (others_ : SameBut (on_cartridge r cylinder next) c d) (here_ : block_at d (on_cartridge r cylinder next) ≡ block_at c (frame_block frame cylinder next)) where
    framed_ : (head : ℕ) (at : BlockPlace) → in_page r cylinder head ≡ Some at → block_at d at ≡ block_at c at
    framed_ head at is = cartridge_write_leaves_frames c d r cylinder next others_ r cylinder head at is

    pub destaged_more : AreDestaged c r cylinder next → AreDestaged d r cylinder (next + 1)
    destaged_more are head lt = elim (last_or head lt) [
      | inl e ↦ subst (λ (h : ℕ). ForSome (in_page r cylinder h) (IsSameAt d (on_cartridge r cylinder h))) (sym e)
          (λ at is. framed_ next at is ∙ ap (block_at c) (sym (one_head next at is)) ∙ sym here_)
      | inr less ↦ λ at is.
          framed_ head at is ∙ are head less at is
          ∙ sym (cartridge_write_leaves_cartridges c d rows once v v r r there there cylinder next cylinder head low more low (omega arith) others_ (λ same. let k = same.2 in absurd (omega (arith, k))))
    ]

-- the claim of a transfer after its track was copied
pub copied_more : (rows : RowsOf) (once : HasCartridgesOnce rows) (c d : Content) (kind : TransferKind) (touched : Bool) (v : ℕ) (r : RowValue) (frame cylinder next : ℕ) → rows v ≡ Some r → frame_of r (cylinder / 8) ≡ Some frame
    → state_of r cylinder ≡ due_state kind → cylinder < 404 → next < 19
    → SameBut (copied_to kind frame (cartridge_with r cylinder) cylinder next) c d
    → block_at d (copied_to kind frame (cartridge_with r cylinder) cylinder next) ≡ copied_from kind c frame (cartridge_with r cylinder) cylinder next
    → AreCopied kind touched c r cylinder next → AreCopied kind touched d r cylinder (next + 1)
copied_more rows once c d StageBlank touched v r frame cylinder next there has state low more others here are = staged_more c d r frame cylinder next has low more others (inl (state, here)) are
copied_more rows once c d StageCartridge touched v r frame cylinder next there has state low more others here are = staged_more c d r frame cylinder next has low more others (inr (state, here)) are
copied_more rows once c d Destage touched v r frame cylinder next there has state low more others here are = λ untouched. destaged_more c d r frame cylinder next has low more rows once v there others here (are untouched)

-- what another recorder's transfer says of blocks stays
module _ (rows : RowsOf) (once : HasCartridgesOnce rows) (c d : Content) (kind : TransferKind) (v : ℕ) (r : RowValue) (frame cylinder next : ℕ) (there : rows v ≡ Some r) (has : frame_of r (cylinder / 8) ≡ Some frame) (low : cylinder < 404) (more : next < 19)
    (task : Task) (q : Request) (transfer : (t : Transfer) → task.transfer ≡ Some t → IsTransfer rows task.frame task.victim q t) (apart_ : task.frame ≢ frame) where
  framed_of : (t : Transfer) (k : RowValue) → task.transfer ≡ Some t → rows t.volume ≡ Some k → frame_of k (t.cylinder / 8) ≡ Some task.frame
  framed_of t k at is = let its = transfer t at in ap (λ (z : RowValue). frame_of z (t.cylinder / 8)) (some_is k its.row (sym is ∙ its.there)) ∙ framed_by rows task.frame task.victim q t its

  stays_by : (x : TransferKind) → SameBut (copied_to x frame (cartridge_with r cylinder) cylinder next) c d → (t : Transfer) (k : RowValue) → task.transfer ≡ Some t → rows t.volume ≡ Some k
      → ((head : ℕ) → head < 19 → (place : BlockPlace) → in_page k t.cylinder head ≡ Some place → block_at d place ≡ block_at c place)
      × ((head : ℕ) → head < 19 → block_at d (on_cartridge k t.cylinder head) ≡ block_at c (on_cartridge k t.cylinder head))
  stays_by StageBlank others t k at is = (
    (λ head low_head place in_. frame_write_leaves_frames c d frame cylinder next more others k t.cylinder head task.frame low_head (framed_of t k at is) (λ same. apart_ (sym same.0)) place in_),
    (λ head low_head. frame_write_leaves_cartridges c d frame cylinder next others k t.cylinder head),
  )
  stays_by StageCartridge others t k at is = (
    (λ head low_head place in_. frame_write_leaves_frames c d frame cylinder next more others k t.cylinder head task.frame low_head (framed_of t k at is) (λ same. apart_ (sym same.0)) place in_),
    (λ head low_head. frame_write_leaves_cartridges c d frame cylinder next others k t.cylinder head),
  )
  stays_by Destage others t k at is = (
    (λ head low_head place in_. cartridge_write_leaves_frames c d r cylinder next others k t.cylinder head place in_),
    (λ head low_head.
        cartridge_write_leaves_cartridges c d rows once v t.volume r k there is cylinder next t.cylinder head low more (transfer t at).due.cylinder_in low_head others
        (λ same.
        let row_is : r ≡ k = some_is r k (sym there ∙ ap rows same.0 ∙ is) in
        let e : Some frame ≡ Some task.frame = sym has ∙ (λ i. frame_of (row_is i) (same.1 i / 8)) ∙ framed_of t k at is in
        apart_ (sym (some_is frame task.frame e)))),
  )

  pub others_served : SameBut (copied_to kind frame (cartridge_with r cylinder) cylinder next) c d → IsServed c rows task → IsServed d rows task
  others_served others served t k at is =
      let stay = stays_by kind others t k at is in
      copied_same t.kind task.touched task.touched c d k k t.cylinder t.next (transfer t at).upto (same_for k t.cylinder) (λ u. u) (λ counts. stay.0) stay.1 (served t k at is)

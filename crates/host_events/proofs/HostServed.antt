-- What half-done transfers say stays when a host writes a track, or uses a page.
use Rattle.std.proofs.Common.{◌≡◌, ℕ, ◌%◌, ◌/◌, ◌<◌, Bool, true, false, ◌&&◌, ◌||◌, ◌==◌, List, Option, Some, refl, sym, ◌∙◌, ap, subst, arith}
use Rattle.std.proofs.lemmas.Bool.{and_from, eq-eqb, false≢true}
use Rattle.mss_base.specs.Content.{Content, same_unit}
use Rattle.mss_base.specs.Places.{frame_block}
use Rattle.mss_base.specs.declared.place.UnitNo.{UnitNo}
use Rattle.ckd_plain.specs.declared.host.HostState.{HostState}
use Rattle.volume_table.specs.Row.{RowValue, frame_of, state_of}
use Rattle.shown_volumes.specs.Shown.{RowsOf}
use Rattle.shown_volumes.proofs.OutsideFacts.{page_names}
use Rattle.fault_queue.specs.declared.queue.Request.{Request}
use Rattle.core_state.specs.declared.task.Task.{Task}
use Rattle.transfers.specs.declared.transfer.Transfer.{Transfer}
use Rattle.transfers.specs.declared.transfer.TransferKind.{TransferKind}
use Rattle.transfers.specs.declared.transfer.TransferKind.TheVariants.{StageBlank, StageCartridge, Destage}
use Rattle.transfers.specs.Dues.{due_state}
use Rattle.core_state.specs.Tasks.{IsTransfer, AreTasks, IsChosen, takes, touched_all}
use Rattle.core_state.specs.Served.{AreServed, AreCopied}
use Rattle.core_state.proofs.Serving.{HasOnePage, Counts, same_for, copied_same, frame_write_leaves_cartridges, frame_write_leaves_frames}
use Rattle.core_state.proofs.RuleWalks.{some_is}
use Rattle.core_state.proofs.TaskRows.{framed_by}
use Rattle.core_state.proofs.HostTasks.{was_touched}
use Rattle.fault_queue.specs.Requests.{RequestsData}

or_left : (a b : Bool) → (a || b) ≡ false → a ≡ false
or_left true b is = is
or_left false b is = refl

or_right : (a b : Bool) → (a || b) ≡ false → b ≡ false
or_right true b is = absurd (false≢true (sym is))
or_right false b is = is

-- a transfer that counts isn't of a cylinder that is changed, unless it is destaged untouched
counts_apart : (kind : TransferKind) (touched : Bool) (victim : Option (ℕ × ℕ)) (q : Request) (volume cylinder page : ℕ) → IsChosen kind victim q volume cylinder → Counts kind (touched || takes volume page victim)
    → due_state kind ≡ 4 → cylinder / 8 ≡ page → ⊥
counts_apart StageBlank touched victim q volume cylinder page due counts four same = cc
counts_apart StageCartridge touched victim q volume cylinder page due counts four same = cc
counts_apart Destage touched victim q volume cylinder page due counts four same =
    let none : takes volume page victim ≡ false = or_right touched (takes volume page victim) counts in
    let there : takes volume page victim ≡ true = ap (takes volume page) due ∙ and_from (volume == volume) (cylinder / 8 == page) (eq-eqb volume volume refl) (eq-eqb (cylinder / 8) page same) in
    false≢true (sym none ∙ there)

module _ (frames : ℕ) (rows : RowsOf) (moving : List Bool) (requests : RequestsData) (hosts : List HostState) (tasks : List (Option Task)) (are : AreTasks frames rows moving requests hosts tasks)
    (once : HasOnePage rows) (c d : Content) (volume y h f : ℕ) (r : RowValue) (there : rows volume ≡ Some r) (has : frame_of r (y / 8) ≡ Some f) (four : state_of r y ≡ 4) (low : h < 19)
    (others : (u : UnitNo) (b : ℕ) → (same_unit (frame_block f y h).unit u && ((frame_block f y h).block == b)) ≡ false → d u b ≡ c u b) where
  -- the block that is written is none that a transfer which counts speaks of
  apart_from : (task : Task) (t : Transfer) (request : Request) → IsTransfer rows task.frame task.victim request t → (k : RowValue) → rows t.volume ≡ Some k
      → Counts t.kind (task.touched || takes volume (y / 8) task.victim) → (head : ℕ) → (f ≡ task.frame) × (y % 8 ≡ t.cylinder % 8) × (h ≡ head) → ⊥
  apart_from task t request is k at counts head same =
      let mine : frame_of is.row (t.cylinder / 8) ≡ Some f = framed_by rows task.frame task.victim request t is ∙ ap (λ (n : ℕ). Some n) (sym same.0) in
      let one = once t.volume volume (t.cylinder / 8) (y / 8) f (page_names rows t.volume (t.cylinder / 8) f is.row is.there mine) (page_names rows volume (y / 8) f r there has) in
      let page_is : t.cylinder / 8 ≡ y / 8 = one.1 in
      let rest_is : y % 8 ≡ t.cylinder % 8 = same.1 in
      let cylinder_is : t.cylinder ≡ y = omega arith in
      let row_is : is.row ≡ r = some_is is.row r (sym is.there ∙ ap rows one.0 ∙ there) in
      let state : due_state t.kind ≡ 4 = sym is.due.state ∙ (λ i. state_of (row_is i) (cylinder_is i)) ∙ four in
      counts_apart t.kind task.touched task.victim request t.volume t.cylinder (y / 8) is.cylinder_
      (subst (λ (n : ℕ). Counts t.kind (task.touched || takes n (y / 8) task.victim)) (sym one.0) counts) state page_is

  pub served_written : AreServed c rows tasks → AreServed d rows (touched_all volume (y / 8) tasks)
  served_written served n now at t k copies is =
      let w = was_touched volume (y / 8) tasks n now at in
      let task : Task = w.task in
      let old : task.transfer ≡ Some t = ap (λ (x : Task). x.transfer) (sym w.is) ∙ copies in
      let its = are.each n w.task w.at in
      let transfer = its.transfer_ t old in
      let row_is : transfer.row ≡ k = some_is transfer.row k (sym transfer.there ∙ is) in
      let framed : frame_of k (t.cylinder / 8) ≡ Some task.frame = ap (λ (z : RowValue). frame_of z (t.cylinder / 8)) (sym row_is) ∙ framed_by rows task.frame task.victim its.request t transfer in
      subst (λ (b : Bool). AreCopied t.kind b d k t.cylinder t.next) (sym (ap (λ (x : Task). x.touched) w.is))
      (copied_same t.kind task.touched (task.touched || takes volume (y / 8) task.victim) c d k k t.cylinder t.next transfer.upto (same_for k t.cylinder)
      (or_left task.touched (takes volume (y / 8) task.victim))
      (λ counts head low_head place at_. frame_write_leaves_frames c d f y h low others k t.cylinder head task.frame low_head framed (apart_from task t its.request transfer k is counts head) place at_)
      (λ head low_head. frame_write_leaves_cartridges c d f y h others k t.cylinder head)
      (served n w.task w.at t k old is))

-- where nothing is written
pub served_alike : (rows : RowsOf) (c d : Content) (tasks : List (Option Task)) → d ≡ c → AreServed c rows tasks → AreServed d rows tasks
served_alike rows c d tasks same served = subst (λ (x : Content). AreServed x rows tasks) (sym same) served

-- touching takes claims away, and adds none
pub served_touched : (rows : RowsOf) (c : Content) (tasks : List (Option Task)) (volume page : ℕ) → AreServed c rows tasks → AreServed c rows (touched_all volume page tasks)
served_touched rows c tasks volume page served n now at t k copies is =
    let w = was_touched volume page tasks n now at in
    let task : Task = w.task in
    let old : task.transfer ≡ Some t = ap (λ (x : Task). x.transfer) (sym w.is) ∙ copies in
    subst (λ (b : Bool). AreCopied t.kind b c k t.cylinder t.next) (sym (ap (λ (x : Task). x.touched) w.is))
    (less t.kind task.touched (takes volume page task.victim) k t.cylinder t.next (served n w.task w.at t k old is))
  where
    less : (kind : TransferKind) (a b : Bool) (k : RowValue) (cylinder m : ℕ) → AreCopied kind a c k cylinder m → AreCopied kind (a || b) c k cylinder m
    less StageBlank a b k cylinder m are = are
    less StageCartridge a b k cylinder m are = are
    less Destage a b k cylinder m are = λ none. are (or_left a b none)

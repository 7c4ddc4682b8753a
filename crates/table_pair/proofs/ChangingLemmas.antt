-- One copy of a row, while the row is changed: by a slot more, or by a rewriting.
use Rattle.std.proofs.Common.{◌≡◌, inl, inr, ℕ, ◌+◌, ◌≤◌, ◌<◌, nat_lt, Bool, true, false, not, get_or, ◌==◌, List, [], ◌∷◌, ◌++◌, length, take, Result, Ok, refl, sym, ◌∙◌, ap, subst, arith, length-append}
use Rattle.std.proofs.lemmas.Bool.{false≢true, cond-true, cond-false, lt-ltb, le-ltb}
use Rattle.mss_base.specs.Blocks.{block_of}
use Rattle.mss_base.specs.Content.{SiteLog, content, ChangesBlock}
use Rattle.mss_base.specs.declared.place.BlockPlace.{BlockPlace}
use Rattle.mss_base.proofs.Moments.{block_weaker, ended_with}
use Rattle.volume_table.specs.Row.{RowValue}
use Rattle.volume_table.specs.Grammar.{body, decode}
use Rattle.volume_table.specs.Changes.{IsInRange}
use Rattle.volume_table.specs.Slots.{slot_of}
use Rattle.volume_table.specs.declared.changes.Change.{Change}
use Rattle.volume_table.proofs.SlotFacts.{told_one_more, told_by-none}
use Rattle.table_journal.specs.Slots.{slots, IsAppending, slots_on, AppendsSlot}
use Rattle.table_journal.proofs.SlotFacts.{byte_before}
use Rattle.table_pair.specs.Copies.{CopyView, copy_at, copy_on, filled_copy, HasGates, IsRewriting, WritesCopy}
use Rattle.table_pair.specs.Pair.{IsOpenWith}
use Rattle.table_pair.specs.Slots.{slots_after}
use Rattle.table_pair.specs.Changing.{IsCopyDue, IsChanging, IsCopyWith, ChangesCopy}
use Rattle.table_pair.proofs.CopyLemmas.{slots_of, body_front}
use Rattle.table_pair.proofs.WriteLemmas.{copy_weaker}

-- a body without slots tells the row that it spells
pub open_filled : (row : RowValue) (bytes : List ℕ) (c : CopyView) → decode bytes ≡ Ok row → IsOpenWith row (filled_copy bytes c)
open_filled row bytes c spelled = record { open_gate = refl; row_is = told_by-none bytes ∙ spelled }

pub open_as : (row : RowValue) (c d : CopyView) → c ≡ d → IsOpenWith row d → IsOpenWith row c
open_as row c d same is = subst (IsOpenWith row) (sym same) is

-- a copy that is open, of whose slots nothing is known
open_gates : (c : CopyView) → c.is_open ≡ true → HasGates (record { is_open = true; is_clear = false }) c
open_gates c is = record { own = is; clear = λ clear. absurd (false≢true clear) }

-- with the bytes before all slots as they were, only the slots of a copy differ, and the gate of slot 0
same_head : (old now : List ℕ) → take 512 now ≡ take 512 old → copy_at now ≡ record (copy_at old) { slots = slots now; is_clear = (copy_at now).is_clear }
unfolding copy_at
same_head old now head = λ i. record {
  is_open = byte_before old now head 0 (omega arith) i == 193;
  spelled = (sym (body_front now) ∙ ap body head ∙ body_front old) i;
  slots = slots now;
  is_made = not (byte_before old now head 511 (omega arith) i == 0);
  is_clear = get_or now 512 0 == 0;
}

module _ (change : Change) (row : RowValue) (used : ℕ) where
  -- with one slot more, which spells the change, a copy tells the new row
  one_more : (c : CopyView) (flag : Bool) → IsCopyDue change row used c → IsInRange change → IsOpenWith row (record c { slots = c.slots ++ slot_of change ∷ []; is_clear = flag })
  one_more c flag due range = record {
    open_gate = due.holds.open_gate;
    row_is = told_one_more c.spelled c.slots due.old change due.holds.row_is due.allowed range ∙ ap Ok (sym due.becomes);
  }

  module _ (old : List ℕ) (due : IsCopyDue change row used (copy_at old)) (range : IsInRange change) where
    with_slot : (now : List ℕ) → take 512 now ≡ take 512 old → slots now ≡ slots old ++ slot_of change ∷ [] → copy_at now ≡ record (copy_at old) { slots = (copy_at old).slots ++ slot_of change ∷ []; is_clear = (copy_at now).is_clear }
    with_slot now head more = same_head old now head ∙ (λ i. record (copy_at old) { slots = (more ∙ ap (λ (xs : List (List ℕ)). xs ++ slot_of change ∷ []) (sym (slots_of old))) i; is_clear = (copy_at now).is_clear })

    within_appending : (now : List ℕ) → IsAppending (slot_of change) old now → IsChanging row (copy_at old) (copy_at now)
    within_appending now is = record {
      made = ap (λ (c : CopyView). c.is_made) (same_head old now is.head);
      stage = elim is.slots_ [
        | inl none ↦ inl (same_head old now is.head ∙ (λ i. record (copy_at old) { slots = (none ∙ sym (slots_of old)) i; is_clear = (copy_at now).is_clear }))
        | inr more ↦ inr (inr (open_as row (copy_at now) _ (with_slot now is.head more) (one_more (copy_at old) (copy_at now).is_clear due range)))
      ];
    }

    after_appending : (now : List ℕ) → IsAppending (slot_of change) old now → slots now ≡ slots old ++ slot_of change ∷ [] → IsCopyWith row (used + 1) (copy_at now)
    after_appending now is more = record {
      holds = open_as row (copy_at now) _ (with_slot now is.head more) (one_more (copy_at old) (copy_at now).is_clear due range);
      slots_ = ap (λ (c : CopyView). length c.slots) (with_slot now is.head more) ∙ length-append (copy_at old).slots (slot_of change ∷ []) ∙ ap (λ (n : ℕ). n + 1) due.slots_;
    }

  module _ (at : BlockPlace) (s : SiteLog) (due : IsCopyDue change row used (copy_on s at)) where
    -- a slot is appended
    module _ (range : IsInRange change) (slot : List ℕ) (spelled : slot ≡ slot_of change) (t : SiteLog) (appends : AppendsSlot slot at s t) where
      as_spelled : AppendsSlot (slot_of change) at s t
      as_spelled = subst (λ (bytes : List ℕ). AppendsSlot bytes at s t) spelled appends

      pub append_moments : WritesCopy at (IsChanging row (copy_on s at)) s t
      append_moments = block_weaker at.unit at.block (IsAppending (slot_of change) (block_of s at)) (λ block. IsChanging row (copy_on s at) (copy_at block)) (within_appending (block_of s at) due range) s t as_spelled

      pub append_done : used < 1984 → slots_on t at ≡ slots_on s at ++ slot ∷ [] → IsCopyWith row (slots_after used) (copy_on t at)
      append_done few more =
          let end = (ended_with (ChangesBlock at.unit at.block (IsAppending (slot_of change) (block_of s at)) (content s)) s t as_spelled).here in
          subst (λ (n : ℕ). IsCopyWith row n (copy_on t at)) (sym (cond-true (nat_lt used 1984) (used + 1) 0 (lt-ltb used 1984 few)))
          (after_appending (block_of s at) due range (block_of t at) end (more ∙ ap (λ (bytes : List ℕ). slots_on s at ++ bytes ∷ []) spelled))

  -- so many slots are in use, and the copy may have some
  pub due_slots : (at : BlockPlace) (s : SiteLog) → IsCopyDue change row used (copy_on s at) → length (slots_on s at) ≡ used
  due_slots at s due = ap (λ (xs : List (List ℕ)). length xs) (sym (slots_of (block_of s at))) ∙ due.slots_

  pub due_gates : (c : CopyView) → IsCopyDue change row used c → HasGates (record { is_open = true; is_clear = false }) c
  due_gates c due = open_gates c due.holds.open_gate

-- one slot more is no lack of slots
pub one_used : {P : Type 0} (used : ℕ) → used < 1984 → slots_after used ≡ 0 → P
one_used used few none = let more : slots_after used ≡ used + 1 = cond-true (nat_lt used 1984) (used + 1) 0 (lt-ltb used 1984 few) in
    let no : used + 1 ≡ 0 = sym more ∙ none in absurd (omega arith)

-- a slot more leaves the body
pub append_body : (slot : List ℕ) (at : BlockPlace) (s t : SiteLog) → AppendsSlot slot at s t → (copy_on t at).spelled ≡ (copy_on s at).spelled
append_body slot at s t appends =
    let end = (ended_with (ChangesBlock at.unit at.block (IsAppending slot (block_of s at)) (content s)) s t appends).here in
    ap (λ (c : CopyView). c.spelled) (same_head (block_of s at) (block_of t at) end.head)

-- a copy is rewritten with a body that spells the new row
module _ (row : RowValue) (bytes : List ℕ) (spelled : decode bytes ≡ Ok row) where
  within_rewriting : (old now : CopyView) → IsRewriting bytes old now → IsChanging row old now
  within_rewriting old now is = elim is [
    | inl same ↦ record { made = ap (λ (c : CopyView). c.is_made) same; stage = inl (λ i. record (same i) { is_clear = now.is_clear }) }
    | inr filling ↦ record {
      made = filling.made;
      stage = elim filling.gate [
        | inl closed ↦ inr (inl closed)
        | inr full ↦ inr (inr (open_as row now (filled_copy bytes old) full (open_filled row bytes old spelled)))
      ];
    }
  ]

  pub rewrite_moments : (at : BlockPlace) (s t : SiteLog) → WritesCopy at (IsRewriting bytes (copy_on s at)) s t → WritesCopy at (IsChanging row (copy_on s at)) s t
  rewrite_moments at s t w = copy_weaker at (IsRewriting bytes (copy_on s at)) (IsChanging row (copy_on s at)) (within_rewriting (copy_on s at)) s t w

  pub rewrite_done : (used : ℕ) (old now : CopyView) → 1984 ≤ used → now ≡ filled_copy bytes old → IsCopyWith row (slots_after used) now
  rewrite_done used old now full is =
      subst (λ (n : ℕ). IsCopyWith row n now) (sym (cond-false (nat_lt used 1984) (used + 1) 0 (le-ltb used 1984 full)))
      (record { holds = open_as row now (filled_copy bytes old) is (open_filled row bytes old spelled); slots_ = ap (λ (c : CopyView). length c.slots) is })

-- at a place that was told
pub due_at : {change : Change} {row : RowValue} {used : ℕ} (at p : BlockPlace) (s : SiteLog) → IsCopyDue change row used (copy_on s p) → at ≡ p → IsCopyDue change row used (copy_on s at)
due_at {change} {row} {used} at p s due is = subst (λ (q : BlockPlace). IsCopyDue change row used (copy_on s q)) (sym is) due

pub changes_at : {T E : Type 0} {row : RowValue} {n : ℕ} {at p : BlockPlace} {s t : SiteLog} {r : Result T E} → ChangesCopy row n at s t r → at ≡ p → ChangesCopy row n p s t r
changes_at {T} {E} {row} {n} {s = s} {t = t} {r = r} changes is = subst (λ (q : BlockPlace). ChangesCopy row n q s t r) is changes

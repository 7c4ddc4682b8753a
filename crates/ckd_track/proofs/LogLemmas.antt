-- How far calls that write made a log grow, what they leave of a site one after another, and what one sync makes firm.
use Rattle.std.proofs.Common.{◌≡◌, ◌⊎◌, inl, inr, ◌≤◌, ℕ, ◌+◌, Bool, true, false, ◌&&◌, ◌==◌, List, [], ◌∷◌, ◌++◌, length, Result, Ok, Err, IsOk, OnOk, OnErr, sym, ◌∙◌, ap, subst, arith, length-append}
use Rattle.std.specs.Prelude.{not, nat_le, nat_lt}
use Rattle.std.proofs.lemmas.Bool.{and_left, and_parts, and_right, cases_Bool, false≢true, not_from_true, or_cases}
use Rattle.mss_base.specs.declared.place.UnitNo.{UnitNo}
use Rattle.mss_base.specs.declared.site.Site.{Ghosts}
use Rattle.mss_base.specs.Content.{Write, Item, wrote, synced, synced_all, unsynced, SiteLog, Places, nowhere, in_range, same_unit, loose_with, loose_after, Got, Adds, Settles, AreWithin}
use Rattle.mss_base.specs.Counts.{HasCause, HasCounted, Rises}
use Rattle.mss_base.specs.Sites.{MayWrite, WritesAtMost}
use Rattle.mss_base.specs.Sound.{StaysSound}
use Rattle.mss_base.proofs.Settling.{loose-append}

-- ---- how far a log grew

got_few : (items : List Item) (old new : SiteLog) → Got items old new → length new.log ≤ length old.log + length items
got_few items old new got = omega (arith, ap (λ (s : SiteLog). length s.log) got ∙ length-append old.log items)

adds_two : (w : Write) (old new : SiteLog) → Adds w old new → length new.log ≤ length old.log + 2
adds_two w old new (inl alone) = let few = got_few (wrote w ∷ []) old new alone in omega (arith, few)
adds_two w old new (inr (inl firm)) = got_few (wrote w ∷ synced w.unit ∷ []) old new firm
adds_two w old new (inr (inr loose)) = got_few (wrote w ∷ unsynced ∷ []) old new loose

-- ---- what calls leave of a site

pub on_err_always : {T E P : Type 0} (r : Result T E) → P → OnErr r P
on_err_always (Ok x) p = tt
on_err_always (Err e) p = p

pub on_ok_always : {T E P : Type 0} (r : Result T E) → P → OnOk r P
on_ok_always (Ok x) p = p
on_ok_always (Err e) p = tt

-- by what came of a call
pub either_way : {T E P Q : Type 0} (r : Result T E) → OnOk r P → OnErr r Q → P ⊎ Q
either_way (Ok x) p q = inl p
either_way (Err e) p q = inr q

counted_since : {T E : Type 0} (before mid now : ℕ) → before ≤ mid → (r : Result T E) → OnErr r (Rises mid now) → OnErr r (Rises before now)
counted_since before mid now later (Ok x) rose = tt
counted_since before mid now later (Err e) rose = omega (arith, later, rose)

module _ {S T E : Type 0} (g : Ghosts S) (old new : S) (r : Result T E) where
  -- a call that makes one item
  pub one_item : g.spare old ≤ g.spare new + 1 → HasCounted (g.writes old) (g.writes new) → StaysSound g.never_fails_but old new → (g.tells → (x : Item) × Got (x ∷ []) (g.told old) (g.told new))
      → HasCause (g.faults old) (g.faults new) r → ((but : UnitNo → Bool) → g.never_fails_but old but → IsOk r) → WritesAtMost g 1 old new r
  one_item room made sound got cause works = record {
    devices = record { room = room; written = made.later; later = cause.later; sound = sound };
    few = λ tells. let x = got tells in got_few (x.0 ∷ []) (g.told old) (g.told new) x.1;
    cause = cause;
    counted = on_err_always r made.rises;
    works = works;
  }

  -- a firm write
  pub two_items : MayWrite g 2 old new → (g.tells → (w : Write) × Adds w (g.told old) (g.told new)) → HasCause (g.faults old) (g.faults new) r → Rises (g.writes old) (g.writes new)
      → ((but : UnitNo → Bool) → g.never_fails_but old but → IsOk r) → WritesAtMost g 2 old new r
  two_items devices adds cause made works = record {
    devices = devices;
    few = λ tells. let w = adds tells in adds_two w.0 (g.told old) (g.told new) w.1;
    cause = cause;
    counted = on_err_always r made;
    works = works;
  }

module _ {S : Type 0} (g : Ghosts S) (old mid new : S) where
  -- a call that was done, and one behind it
  pub writes_then : {T U E F : Type 0} (m n : ℕ) (x : T) (r : Result U F) → WritesAtMost {T = T} {E = E} g m old mid (Ok x) → WritesAtMost g n mid new r → WritesAtMost g (m + n) old new r
  writes_then m n x r first second = record {
    devices = record {
      room = omega (arith, first.devices.room, second.devices.room);
      written = omega (arith, first.devices.written, second.devices.written);
      later = omega (arith, first.devices.later, second.devices.later);
      sound = λ but so. second.devices.sound but (first.devices.sound but so);
    };
    few = λ tells. omega (arith, first.few tells, second.few tells);
    cause = subst (λ (n : ℕ). HasCause n (g.faults new) r) first.cause.same second.cause;
    counted = counted_since (g.writes old) (g.writes mid) (g.writes new) first.devices.written r second.counted;
    works = λ but so. second.works but (first.devices.sound but so);
  }

-- a call that failed within one that may make more items
pub writes_broken : {S T U E F : Type 0} (g : Ghosts S) (old new : S) (m n : ℕ) → m ≤ n → (e : E) (f : F)
    → WritesAtMost {T = T} g m old new (Err e) → WritesAtMost {T = U} g n old new (Err f)
writes_broken g old new m n le e f uses = record {
  devices = record { room = omega (arith, le, uses.devices.room); written = uses.devices.written; later = uses.devices.later; sound = uses.devices.sound };
  few = λ tells. omega (arith, le, uses.few tells);
  cause = record { later = uses.cause.later; failed = uses.cause.failed; same = tt };
  counted = uses.counted;
  works = uses.works;
}

-- ---- what is firm

-- a sync, done or failed, is one item
pub sync_item : (unit : UnitNo) (old new : SiteLog) → Got (synced unit ∷ []) old new ⊎ Got (unsynced ∷ []) old new → (x : Item) × Got (x ∷ []) old new
sync_item unit old new (inl done) = (synced unit, done)
sync_item unit old new (inr failed) = (unsynced, failed)

-- items on one block are loose in its unit alone
module _ (unit : UnitNo) (block : ℕ) (places : ℕ → Bool) where
  loose_there : (p : Places) → ((u : UnitNo) (b i : ℕ) → p u b i ≡ true → same_unit unit u ≡ true)
      → (xs : List Item) → AreWithin unit block places xs → (u : UnitNo) (b i : ℕ) → loose_after p xs u b i ≡ true → same_unit unit u ≡ true
  loose_there p gives [] within u b i is = gives u b i is
  loose_there p gives (wrote w ∷ xs) within u b i is = loose_there (loose_with p (wrote w)) step xs within.1 u b i is
    where
      step : (u : UnitNo) (b i : ℕ) → loose_with p (wrote w) u b i ≡ true → same_unit unit u ≡ true
      step u b i is = elim (or_cases (p u b i) (in_range w u b i) is) [
        | inl old ↦ gives u b i old
        | inr now ↦ ap (λ (v : UnitNo). same_unit v u) (sym within.0.0) ∙ (and_parts (same_unit w.unit u) (w.block == b) (and_parts (same_unit w.unit u && (w.block == b)) (nat_le w.offset i && nat_lt i (w.offset + length w.bytes)) now).0).0
      ]
  loose_there p gives (synced v ∷ xs) within u b i is = loose_there (loose_with p (synced v)) (λ u b i is. gives u b i (and_parts (p u b i) (not (same_unit v u)) is).0) xs within.1 u b i is
  loose_there p gives (synced_all ∷ xs) within u b i is = loose_there (loose_with p synced_all) (λ u b i is. absurd (false≢true is)) xs within.1 u b i is
  loose_there p gives (unsynced ∷ xs) within u b i is = loose_there (loose_with p unsynced) (λ u b i is. gives u b i is) xs within.1 u b i is

  -- so a sync of that unit makes them firm
  pub settles_within : (items : List Item) (old new : SiteLog) → AreWithin unit block places items → Got (items ++ synced unit ∷ []) old new → Settles old new
  settles_within items old new within got = record {
    items = items ++ synced unit ∷ [];
    grown = got;
    settled = λ u b i. ap (λ (p : Places). p u b i) (loose-append nowhere items (synced unit ∷ [])) ∙ shut u b i;
  }
    where
      shut : (u : UnitNo) (b i : ℕ) → (loose_after nowhere items u b i && not (same_unit unit u)) ≡ false
      shut u b i = elim (cases_Bool (loose_after nowhere items u b i)) [
        | inl is ↦ and_right (loose_after nowhere items u b i) (not (same_unit unit u)) (not_from_true (same_unit unit u) (loose_there nowhere (λ u b i is. absurd (false≢true is)) items within u b i is))
        | inr none ↦ and_left (loose_after nowhere items u b i) (not (same_unit unit u)) none
      ]

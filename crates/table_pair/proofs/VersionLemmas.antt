-- Copies of version 2, which stay so while their row is changed, and are so once it is created.
use Rattle.std.proofs.Common.{◌≡◌, false, ℕ, List, Ok, ◌∙◌, ap, subst}
use Rattle.mss_base.specs.declared.place.BlockPlace.{BlockPlace}
use Rattle.mss_base.specs.Content.{SiteLog, content}
use Rattle.volume_table.specs.Row.{RowValue}
use Rattle.volume_table.specs.Grammar.{is_old, spelling}
use Rattle.volume_table.proofs.SpellingLemmas.{spelling_is_new}
use Rattle.table_journal.specs.Slots.{AppendsSlot}
use Rattle.table_pair.specs.declared.copy.TableCopy.TheVariants as copy
use Rattle.table_pair.specs.Places.{place_of}
use Rattle.table_pair.specs.Copies.{CopyView, copy_on, filled_copy, IsFilling}
use Rattle.table_pair.specs.Changing.{IsChanging, ChangesCopy}
use Rattle.table_pair.specs.Creating.{FillsCopy}
use Rattle.table_pair.specs.Migrating.{AreNew, StaysNew}
use Rattle.table_pair.proofs.PairLemmas.{copy_a, copy_b, kept_a, kept_b}
use Rattle.table_pair.proofs.ChangingLemmas.{append_body}

-- a slot more leaves the body, and so its version
pub append_new : (slot : List ℕ) (at : BlockPlace) (s t : SiteLog) → AppendsSlot slot at s t → StaysNew (copy_on s at) (copy_on t at)
append_new slot at s t appends new = ap is_old (append_body slot at s t appends) ∙ new

-- a body that spells a row is of version 2
pub filled_new : (row : RowValue) (bytes : List ℕ) (old now : CopyView) → bytes ≡ spelling row → now ≡ filled_copy bytes old → is_old now.spelled ≡ false
filled_new row bytes old now spelled is = ap (λ (c : CopyView). is_old c.spelled) is ∙ ap is_old spelled ∙ spelling_is_new row

-- at a place that was told
pub new_at : (at p : BlockPlace) (s t : SiteLog) → StaysNew (copy_on s at) (copy_on t at) → at ≡ p → StaysNew (copy_on s p) (copy_on t p)
new_at at p s t stays is = subst (λ (q : BlockPlace). StaysNew (copy_on s q) (copy_on t q)) is stays

-- both copies stay so, one after the other
pub both_stay_new : {T E : Type 0} {volume m n : ℕ} {row : RowValue} {s t u : SiteLog} {value other : T}
    → ChangesCopy {T = T} {E = E} row m (place_of copy.A volume) s t (Ok value)
    → ChangesCopy {T = T} {E = E} row n (place_of copy.B volume) t u (Ok other)
    → StaysNew (copy_a volume s) (copy_a volume t) → StaysNew (copy_b volume t) (copy_b volume u)
    → AreNew volume (content s) → AreNew volume (content u)
both_stay_new {volume = volume} {row = row} {s = s} {t = t} {u = u} first second stays_a stays_b new = record {
  a = ap (λ (c : CopyView). is_old c.spelled) (kept_a volume (IsChanging row (copy_b volume t)) t u second.moments) ∙ stays_a new.a;
  b = stays_b (ap (λ (c : CopyView). is_old c.spelled) (kept_b volume (IsChanging row (copy_a volume s)) s t first.moments) ∙ new.b);
}

-- both copies are so that were filled with a body that spells a row
pub both_filled_new : {T E : Type 0} {volume : ℕ} (row : RowValue) (bytes : List ℕ) → bytes ≡ spelling row → {s t u : SiteLog} {value other : T}
    → FillsCopy {T = T} {E = E} bytes (place_of copy.A volume) s t (Ok value)
    → FillsCopy {T = T} {E = E} bytes (place_of copy.B volume) t u (Ok other)
    → AreNew volume (content u)
both_filled_new {volume = volume} row bytes spelled {s} {t} {u} first second = record {
  a = ap (λ (c : CopyView). is_old c.spelled) (kept_a volume (IsFilling bytes (copy_b volume t)) t u second.moments) ∙ filled_new row bytes (copy_a volume s) (copy_a volume t) spelled first.done;
  b = filled_new row bytes (copy_b volume t) (copy_b volume u) spelled second.done;
}

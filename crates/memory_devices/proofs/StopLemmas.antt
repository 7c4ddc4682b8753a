-- What is done again under a tear is what a stop leaves.
use Rattle.std.proofs.Common.{◌≡◌, inl, inr, ℕ, ◌-◌, ◌<◌, Bool, true, false, ◌||◌, cond, List, length, take, replicate, get_or, slice_get, Option, Some, None, refl, sym, ◌∙◌, ap, arith}
use Rattle.std.proofs.lemmas.List.{length-replicate}
use Rattle.std.proofs.lemmas.Bool.{cases_Bool, false≢true}
use Rattle.mss_base.specs.Listing.{Listing}
use Rattle.mss_base.specs.declared.place.UnitNo.{UnitNo}
use Rattle.mss_base.specs.Content.{Content, Write, Item, wrote, synced, synced_all, unsynced, with_write, fitted_bytes, after, Places, nowhere, in_range, loose_with, loose_after, SiteLog, torn_byte, with_tear, open_with, length-with_write, length-after}
use Rattle.mss_base.proofs.ContentLemmas.{length-fitted}
use Rattle.mss_base.proofs.TornLemmas.{bare}
use Rattle.memory_devices.specs.Tears.{firm_after, bytes_at, left_by_stop}
use Rattle.memory_devices.specs.Redone.{loose_under, filled_write, redone, covered_content}
use Rattle.memory_devices.specs.declared.tearing.Loose.TheVariants.{Kept, Filled, LeftOut}
use Rattle.memory_devices.specs.declared.tearing.Tear.{Tear as TestTear}
use Rattle.memory_devices.specs.declared.tearing.Tear.TheVariants as tear
use Rattle.memory_devices.proofs.TearLemmas.{by_bytes, byte_in_other, byte_out_other, byte_filled, length-redone, redone_kept, redone_firm, agrees, fills}

-- ---- bytes in the range of the next item

put_in : (l r : Bool) (byte was : ℕ) → r ≡ true → byte ≡ torn_byte (l || r) (cond r (Some byte) None) was
put_in true true byte was is = refl
put_in false true byte was is = refl
put_in l false byte was is = absurd (false≢true is)

put_out : (l r : Bool) (byte was : ℕ) → r ≡ false → was ≡ torn_byte (l || r) (cond r (Some byte) None) was
put_out l true byte was out = absurd (false≢true (sym out))
put_out true false byte was out = refl
put_out false false byte was out = refl

covers_bytes : (c : Content) (l : Places) (x : Option Item) (bytes : Listing ℕ) → covered_content c x (tear.Write bytes) ≡ with_tear c (open_with l x) (bytes_at x bytes.items)
covers_bytes c l (Some (wrote w)) bytes =
    by_bytes c (with_write c over) (loose_with l (wrote w)) (bytes_at (Some (wrote w)) bytes.items) (length-with_write c over)
    (λ unit block place lt. elim (cases_Bool (in_range w unit block place)) [
      | inl is ↦
          byte_in_other c w left unit block place (length-fitted (length w.bytes) bytes.items) lt is
          ∙ put_in (l unit block place) (in_range w unit block place) (get_or left (place - w.offset) 0) (get_or (c unit block) place 0) is
      | inr out ↦
          byte_out_other c w left unit block place (length-fitted (length w.bytes) bytes.items) out
          ∙ put_out (l unit block place) (in_range w unit block place) (get_or left (place - w.offset) 0) (get_or (c unit block) place 0) out
    ])
  where
    left : List ℕ
    left = fitted_bytes (length w.bytes) bytes.items

    over : Write
    over = record w { bytes = left }
covers_bytes c l (Some (synced u)) bytes = sym (bare c l)
covers_bytes c l (Some synced_all) bytes = sym (bare c l)
covers_bytes c l (Some unsynced) bytes = sym (bare c l)
covers_bytes c l None bytes = sym (bare c l)

-- ---- one byte at each open place

fill_in : (l r : Bool) (byte was : ℕ) → r ≡ true → byte ≡ torn_byte (l || r) (Some byte) was
fill_in true r byte was is = refl
fill_in false true byte was is = refl
fill_in false false byte was is = absurd (false≢true is)

fill_out : (l r : Bool) (byte was : ℕ) → r ≡ false → torn_byte l (Some byte) was ≡ torn_byte (l || r) (Some byte) was
fill_out true r byte was out = refl
fill_out false true byte was out = absurd (false≢true (sym out))
fill_out false false byte was out = refl

fill_true : (l : Bool) (byte was : ℕ) → l ≡ true → byte ≡ torn_byte l (Some byte) was
fill_true true byte was is = refl
fill_true false byte was is = absurd (false≢true is)

fill_false : (l : Bool) (byte was : ℕ) → l ≡ false → was ≡ torn_byte l (Some byte) was
fill_false true byte was out = absurd (false≢true (sym out))
fill_false false byte was out = refl

module _ (byte : ℕ) (c d : Content) (l : Places) (long : (unit : UnitNo) (block : ℕ) → length (d unit block) ≡ length (c unit block))
    (each : (unit : UnitNo) (block place : ℕ) → place < length (c unit block) → get_or (d unit block) place 0 ≡ torn_byte (l unit block place) (Some byte) (get_or (c unit block) place 0)) where
  rests_filled : d ≡ with_tear c l (λ unit block place. Some byte)
  rests_filled = by_bytes c d l (λ unit block place. Some byte) long each

  covers_filled : (x : Option Item) → covered_content d x (tear.Fill byte) ≡ with_tear c (open_with l x) (λ unit block place. Some byte)
  covers_filled (Some (wrote w)) =
      by_bytes c (with_write d (filled_write byte w)) (loose_with l (wrote w)) (λ unit block place. Some byte) (λ unit block. length-with_write d (filled_write byte w) unit block ∙ long unit block)
      (λ unit block place lt. elim (cases_Bool (in_range w unit block place)) [
        | inl is ↦
            byte_filled byte d w unit block place (omega (arith, long unit block, lt)) is ∙ fill_in (l unit block place) (in_range w unit block place) byte (get_or (c unit block) place 0) is
        | inr out ↦
            byte_out_other d w (replicate (length w.bytes) byte) unit block place (length-replicate (length w.bytes) byte) out ∙ each unit block place lt
            ∙ fill_out (l unit block place) (in_range w unit block place) byte (get_or (c unit block) place 0) out
      ])
  covers_filled (Some (synced u)) = rests_filled
  covers_filled (Some synced_all) = rests_filled
  covers_filled (Some unsynced) = rests_filled
  covers_filled None = rests_filled

-- ---- what is firm at each open place

shut_before : (l : Places) (x : Option Item) (unit : UnitNo) (block place : ℕ) → open_with l x unit block place ≡ false → l unit block place ≡ false
shut_before l (Some (wrote w)) unit block place out = left (l unit block place) (in_range w unit block place) out
  where
    left : (a b : Bool) → (a || b) ≡ false → a ≡ false
    left true b is = is
    left false b is = refl
shut_before l (Some (synced u)) unit block place out = out
shut_before l (Some synced_all) unit block place out = out
shut_before l (Some unsynced) unit block place out = out
shut_before l None unit block place out = out

covers_none : (c : Content) (x : Option Item) → covered_content c x tear.Lost ≡ c
covers_none c (Some (wrote w)) = refl
covers_none c (Some (synced u)) = refl
covers_none c (Some synced_all) = refl
covers_none c (Some unsynced) = refl
covers_none c None = refl

rests_firm : (c d : Content) (l : Places) (x : Option Item) → ((unit : UnitNo) (block : ℕ) → length (d unit block) ≡ length (c unit block))
    → ((unit : UnitNo) (block place : ℕ) → place < length (c unit block) → l unit block place ≡ false → get_or (d unit block) place 0 ≡ get_or (c unit block) place 0)
    → d ≡ with_tear c (open_with l x) (λ unit block place. Some (get_or (d unit block) place 0))
rests_firm c d l x long same =
    by_bytes c d (open_with l x) (λ unit block place. Some (get_or (d unit block) place 0)) long
    (λ unit block place lt. elim (cases_Bool (open_with l x unit block place)) [
      | inl is ↦ fill_true (open_with l x unit block place) (get_or (d unit block) place 0) (get_or (c unit block) place 0) is
      | inr out ↦
          same unit block place lt (shut_before l x unit block place out)
          ∙ fill_false (open_with l x unit block place) (get_or (d unit block) place 0) (get_or (c unit block) place 0) out
    ])

-- ---- all of it

pub stopped_bare : (s : SiteLog) (k : ℕ) → redone Kept s.start (take k s.log) ≡ left_by_stop s k None
stopped_bare s k = redone_kept s.start (take k s.log) ∙ sym (bare (after s.start (take k s.log)) (open_with (loose_after nowhere (take k s.log)) (slice_get s.log k)))

pub stopped_torn : (s : SiteLog) (k : ℕ) (t : TestTear) → covered_content (redone (loose_under t) s.start (take k s.log)) (slice_get s.log k) t ≡ left_by_stop s k (Some t)
stopped_torn s k (tear.Write bytes) =
    let xs = take k s.log in
    ap (λ (c : Content). covered_content c (slice_get s.log k) (tear.Write bytes)) (redone_kept s.start xs) ∙ covers_bytes (after s.start xs) (loose_after nowhere xs) (slice_get s.log k) bytes
stopped_torn s k (tear.Fill byte) =
    covers_filled byte (after s.start xs) (redone (Filled byte) s.start xs) (loose_after nowhere xs) (λ unit block. length-redone (Filled byte) s.start xs unit block ∙ sym (length-after s.start xs unit block))
    (λ unit block place lt.
    let within : place < length (s.start unit block) = omega (arith, length-after s.start xs unit block, lt) in
    elim (cases_Bool (loose_after nowhere xs unit block place)) [
      | inl is ↦
          fills byte s.start nowhere xs unit block place within (λ e. absurd (false≢true e)) is
          ∙ fill_true (loose_after nowhere xs unit block place) byte (get_or (after s.start xs unit block) place 0) is
      | inr out ↦
          agrees (Filled byte) s.start s.start nowhere xs unit block place within within (λ e. refl) out
          ∙ fill_false (loose_after nowhere xs unit block place) byte (get_or (after s.start xs unit block) place 0) out
    ])
    (slice_get s.log k)
  where
    xs : List Item
    xs = take k s.log
stopped_torn s k tear.Lost =
    let xs = take k s.log in
    let firm : redone LeftOut s.start xs ≡ firm_after s.start xs = redone_firm s.start xs in
    covers_none (redone LeftOut s.start xs) (slice_get s.log k)
    ∙ rests_firm (after s.start xs) (redone LeftOut s.start xs) (loose_after nowhere xs) (slice_get s.log k)
    (λ unit block. length-redone LeftOut s.start xs unit block ∙ sym (length-after s.start xs unit block))
    (λ unit block place lt out.
    let within : place < length (s.start unit block) = omega (arith, length-after s.start xs unit block, lt) in
    agrees LeftOut s.start s.start nowhere xs unit block place within within (λ e. refl) out)
    ∙ ap (λ (f : Content). with_tear (after s.start xs) (open_with (loose_after nowhere xs) (slice_get s.log k)) (λ unit block place. Some (get_or (f unit block) place 0))) firm

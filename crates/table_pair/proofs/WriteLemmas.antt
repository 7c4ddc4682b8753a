-- The writes of one copy, one after another.
use Rattle.std.proofs.Common.{◌≡◌, ◌⊎◌, inl, inr, ℕ, ◌+◌, ◌≤◌, ◌<◌, nat_lt, Bool, true, false, not, ◌&&◌, ◌||◌, ◌==◌, List, [], ◌∷◌, ◌++◌, length, get_or, Result, Ok, Err, refl, sym, ◌∙◌, ap, subst, arith, length-append}
use Rattle.std.specs.Prelude.{OnOk, OnErr}
use Rattle.std.proofs.lemmas.Bool.{cases_Bool, and_from, and_right, or_left, or_right, eq-eqb, lt-ltb}
use Rattle.mss_base.specs.declared.place.BlockPlace.{BlockPlace}
use Rattle.mss_base.specs.declared.place.UnitNo.{UnitNo}
use Rattle.mss_base.specs.Content.{Content, Write, write_at, Item, wrote, synced, unsynced, Writes, ChangesBlock, SiteLog, content, splice, same_unit, Got, Adds, Settles, AreWithin}
use Rattle.mss_base.proofs.ContentLemmas.{get_or-splice_in, get_or-splice_above, get_or-splice_below}
use Rattle.mss_base.proofs.Moments.{block_write, block_written, block_weaker, block_started, content_grown, ended_with, weaker, then_firm}
use Rattle.mss_base.proofs.Settling.{got_then, adds_firm}
use Rattle.mss_base.proofs.BlindMoments.{block_blind}
use Rattle.table_pair.specs.Copies.{CopyView, copy_at, byte_on, copy_on, shut_copy, marked_copy, emptied_copy, filled_copy, IsFilling, IsRewriting, WritesCopy}
use Rattle.table_pair.proofs.CopyLemmas.{gate_written, body_written, mark_written, slot_shut, clear_slots, same_gate, same_mark, gate_of, mark_of}

-- the block of a copy is whole
abbrev pub IsWhole : SiteLog → BlockPlace → Type 0
IsWhole s at = length (content s at.unit at.block) ≡ 16384

-- a byte that was written
pub byte_put : (at : BlockPlace) (place byte : ℕ) (s t : SiteLog) → place < length (content s at.unit at.block) → Adds (write_at at place (byte ∷ [])) s t → byte_on t at place ≡ byte
byte_put at place byte s t lt adds =
    ap (λ (b : List ℕ). get_or b place 0) (block_written at.unit at.block place (byte ∷ []) s t adds)
    ∙ get_or-splice_in place (byte ∷ []) (content s at.unit at.block) place 0 (omega arith) (omega arith) (omega arith)

-- no write at all
pub nothing_written : (at : BlockPlace) (P : CopyView → Type 0) (s t : SiteLog) → t ≡ s → P (copy_on s at) → WritesCopy at P s t
nothing_written at P s t same holds = subst (λ (u : SiteLog). WritesCopy at P s u) (sym same) (block_started at.unit at.block (λ block. P (copy_at block)) s holds)

pub copy_weaker : (at : BlockPlace) (P R : CopyView → Type 0) → ((c : CopyView) → P c → R c) → (s t : SiteLog) → WritesCopy at P s t → WritesCopy at R s t
copy_weaker at P R from_P s t w = block_weaker at.unit at.block (λ block. P (copy_at block)) (λ block. R (copy_at block)) (λ block. from_P (copy_at block)) s t w

-- one run after another, where nothing that the first wrote is loose at its end
pub copy_then : (at : BlockPlace) (P Q R : CopyView → Type 0) → ((c : CopyView) → P c → R c) → ((c : CopyView) → Q c → R c) → (s t u : SiteLog) → Settles s t → WritesCopy at P s t → WritesCopy at Q t u → WritesCopy at R s u
copy_then at P Q R from_P from_Q s t u settled first second =
    let there = ended_with (ChangesBlock at.unit at.block (λ block. P (copy_at block)) (content s)) s t first in
    then_firm (ChangesBlock at.unit at.block (λ block. R (copy_at block)) (content s)) s t u settled
    (copy_weaker at P R from_P s t first)
    (weaker (ChangesBlock at.unit at.block (λ block. Q (copy_at block)) (content t)) (ChangesBlock at.unit at.block (λ block. R (copy_at block)) (content s))
    (λ c has. record { others = λ unit block other. has.others unit block other ∙ there.others unit block other; here = from_Q (copy_at (c at.unit at.block)) has.here }) t u second)

-- the gate is closed
module _ (at : BlockPlace) (s t : SiteLog) (whole : IsWhole s at) where
  pub closing : (left : List ℕ) → length left ≡ 1 → (copy_on s at).is_open ≡ true → Adds (write_at at 0 left) s t → WritesCopy at (λ c. (c ≡ copy_on s at) ⊎ (c ≡ shut_copy (copy_on s at))) s t
  closing left one opened adds = block_write at.unit at.block 0 left _ s t adds (inl refl) (λ other long.
      let is = gate_written other (content s at.unit at.block) whole (long ∙ one) in
      elim (cases_Bool (get_or other 0 0 == 193)) [
        | inl still ↦ inl (is ∙ (λ i. record (copy_on s at) { is_open = still i }) ∙ same_gate (copy_on s at) true opened)
        | inr gone ↦ inr (is ∙ (λ i. record (copy_on s at) { is_open = gone i }))
      ])

  pub closed : (byte : ℕ) → (byte == 193) ≡ false → Adds (write_at at 0 (byte ∷ [])) s t → copy_on t at ≡ shut_copy (copy_on s at)
  closed byte other adds =
      ap copy_at (block_written at.unit at.block 0 (byte ∷ []) s t adds) ∙ gate_written (byte ∷ []) (content s at.unit at.block) whole refl ∙ (λ i. record (copy_on s at) { is_open = other i })

  -- the made mark is set
  pub marking : (left : List ℕ) → length left ≡ 1 → (copy_on s at).is_made ≡ false → Adds (write_at at 511 left) s t → WritesCopy at (λ c. (c ≡ copy_on s at) ⊎ (c ≡ marked_copy (copy_on s at))) s t
  marking left one unmade adds = block_write at.unit at.block 511 left _ s t adds (inl refl) (λ other long.
      let is = mark_written other (content s at.unit at.block) whole (long ∙ one) in
      elim (cases_Bool (not (get_or other 0 0 == 0))) [
        | inl made ↦ inr (is ∙ (λ i. record (copy_on s at) { is_made = made i }))
        | inr still ↦ inl (is ∙ (λ i. record (copy_on s at) { is_made = still i }) ∙ same_mark (copy_on s at) false unmade)
      ])

  pub mark_set : Adds (write_at at 511 (77 ∷ [])) s t → copy_on t at ≡ marked_copy (copy_on s at)
  mark_set adds = ap copy_at (block_written at.unit at.block 511 (77 ∷ []) s t adds) ∙ mark_written (77 ∷ []) (content s at.unit at.block) whole refl

-- ---- a body, and the gate of slot 0

-- where a body and that gate stand
abbrev pub put_places : ℕ → Bool
put_places i = (nat_lt 0 i && nat_lt i 511) || (i == 512)

-- the log got items that write there, if they write
pub record Puts (at : BlockPlace) (s t : SiteLog) : Type 0 where
  pub items : List Item
  pub grown : Got items s t
  pub within : AreWithin at.unit at.block put_places items

within-append : (unit : UnitNo) (block : ℕ) (places : ℕ → Bool) (xs ys : List Item) → AreWithin unit block places xs → AreWithin unit block places ys → AreWithin unit block places (xs ++ ys)
within-append unit block places [] ys first rest = rest
within-append unit block places (x ∷ xs) ys first rest = (first.0, within-append unit block places xs ys first.1 rest)

module _ (at : BlockPlace) where
  pub puts_then : (s t u : SiteLog) → Puts at s t → Puts at t u → Puts at s u
  puts_then s t u first second = record {
    items = first.items ++ second.items;
    grown = got_then first.items second.items s t u first.grown second.grown;
    within = within-append at.unit at.block put_places first.items second.items first.within second.within;
  }

  pub puts_body : (left : List ℕ) → length left ≡ 510 → (s t : SiteLog) → Got (wrote (write_at at 1 left) ∷ []) s t → Puts at s t
  puts_body left long s t got = record {
    items = wrote (write_at at 1 left) ∷ [];
    grown = got;
    within = ((refl, refl, λ i from to. or_left (nat_lt 0 i && nat_lt i 511) (i == 512) (and_from (nat_lt 0 i) (nat_lt i 511) (lt-ltb 0 i (omega (arith, from))) (lt-ltb i 511 (omega (arith, to, long))))), tt);
  }

  pub puts_gate : (left : List ℕ) → length left ≡ 1 → (s t : SiteLog) → Got (wrote (write_at at 512 left) ∷ []) s t → Puts at s t
  puts_gate left one s t got = record {
    items = wrote (write_at at 512 left) ∷ [];
    grown = got;
    within = ((refl, refl, λ i from to. or_right (nat_lt 0 i && nat_lt i 511) (i == 512) (eq-eqb i 512 (omega (arith, from, to, one)))), tt);
  }

  pub puts_sync : {T E : Type 0} (r : Result T E) (s t : SiteLog) → OnOk r (Got (synced at.unit ∷ []) s t) → OnErr r (Got (unsynced ∷ []) s t) → Puts at s t
  puts_sync (Ok value) s t ok err = record { items = synced at.unit ∷ []; grown = ok; within = (tt, tt) }
  puts_sync (Err e) s t ok err = record { items = unsynced ∷ []; grown = err; within = (tt, tt) }

  -- behind a closed gate that is a filling
  pub putting : (bytes : List ℕ) (s t : SiteLog) → (copy_on s at).is_open ≡ false → Puts at s t → WritesCopy at (IsFilling bytes (copy_on s at)) s t
  putting bytes s t shut_gate puts =
      block_blind at.unit at.block (λ block. IsFilling bytes (copy_on s at) (copy_at block)) put_places puts.items s t puts.grown puts.within (λ block long outside. record {
        made = mark_of block ∙ ap (λ (byte : ℕ). not (byte == 0)) (outside 511 refl) ∙ sym (mark_of (content s at.unit at.block));
        gate = inl (gate_of block ∙ ap (λ (byte : ℕ). byte == 193) (outside 0 refl) ∙ sym (gate_of (content s at.unit at.block)) ∙ shut_gate);
      })

  -- a sync leaves what is read
  pub on_synced : (s t : SiteLog) → Got (synced at.unit ∷ []) s t → content t ≡ content s
  on_synced s t got = content_grown s t (synced at.unit ∷ []) got

  firm_two : (same a i b j : Bool) → ((((same && a) && i) || ((same && b) && j)) && not same) ≡ false
  firm_two true a i b j = and_right (((true && a) && i) || ((true && b) && j)) false refl
  firm_two false a i b j = refl

  -- both writes are firm behind the sync
  pub puts_firm : (xs ys : List ℕ) (s r t u : SiteLog) → Got (wrote (write_at at 1 xs) ∷ []) s r → Got (wrote (write_at at 512 ys) ∷ []) r t → Got (synced at.unit ∷ []) t u → Settles s u
  puts_firm xs ys s r t u first second third = record {
    items = wrote (write_at at 1 xs) ∷ wrote (write_at at 512 ys) ∷ synced at.unit ∷ [];
    grown = got_then (wrote (write_at at 1 xs) ∷ wrote (write_at at 512 ys) ∷ []) (synced at.unit ∷ []) s t u
        (got_then (wrote (write_at at 1 xs) ∷ []) (wrote (write_at at 512 ys) ∷ []) s r t first second) third;
    settled = λ unit block place. firm_two (same_unit at.unit unit) (at.block == block) _ (at.block == block) _;
  }

  pub put_firm : (xs : List ℕ) (s t u : SiteLog) → Got (wrote (write_at at 1 xs) ∷ []) s t → Got (synced at.unit ∷ []) t u → Settles s u
  put_firm xs s t u first second = adds_firm (write_at at 1 xs) s u (got_then (wrote (write_at at 1 xs) ∷ []) (synced at.unit ∷ []) s t u first second)

-- what a copy then is
module _ (at : BlockPlace) (bytes : List ℕ) (long : length bytes ≡ 510) (s t : SiteLog) (whole : IsWhole s at) (first : Got (wrote (write_at at 1 bytes) ∷ []) s t) where
  body_is : copy_on t at ≡ record (copy_on s at) { spelled = bytes }
  body_is = ap copy_at (block_written at.unit at.block 1 bytes s t (inl first)) ∙ body_written bytes (content s at.unit at.block) whole long

  body_mark : byte_on t at 511 ≡ byte_on s at 511
  body_mark =
      ap (λ (b : List ℕ). get_or b 511 0) (block_written at.unit at.block 1 bytes s t (inl first)) ∙ get_or-splice_above 1 bytes (content s at.unit at.block) 511 (omega arith)

  -- where the gate of slot 0 was 00
  pub put_alone : (u : SiteLog) → (copy_on s at).is_clear ≡ true → Got (synced at.unit ∷ []) t u → copy_on u at ≡ emptied_copy bytes (copy_on s at)
  put_alone u clear sync =
      let none : (copy_on s at).slots ≡ [] = clear_slots (content s at.unit at.block) clear in
      ap (λ (c : Content). copy_at (c at.unit at.block)) (on_synced at t u sync) ∙ body_is ∙ (λ i. record (copy_on s at) { spelled = bytes; slots = none i; is_clear = clear i })

  pub mark_alone : (u : SiteLog) → Got (synced at.unit ∷ []) t u → byte_on u at 511 ≡ byte_on s at 511
  mark_alone u sync = ap (λ (c : Content). get_or (c at.unit at.block) 511 0) (on_synced at t u sync) ∙ body_mark

  -- where the gate of slot 0 was put to 00 behind it
  module _ (r u : SiteLog) (whole_t : IsWhole t at) (second : Got (wrote (write_at at 512 (0 ∷ [])) ∷ []) t r) (sync : Got (synced at.unit ∷ []) r u) where
    pub put_both : copy_on u at ≡ emptied_copy bytes (copy_on s at)
    put_both =
        ap (λ (c : Content). copy_at (c at.unit at.block)) (on_synced at r u sync) ∙ ap copy_at (block_written at.unit at.block 512 (0 ∷ []) t r (inl second))
        ∙ slot_shut (0 ∷ []) (content t at.unit at.block) whole_t ∙ ap (λ (c : CopyView). record c { slots = []; is_clear = true }) body_is

    pub mark_both : byte_on u at 511 ≡ byte_on s at 511
    mark_both =
        ap (λ (c : Content). get_or (c at.unit at.block) 511 0) (on_synced at r u sync) ∙ ap (λ (b : List ℕ). get_or b 511 0) (block_written at.unit at.block 512 (0 ∷ []) t r (inl second))
        ∙ get_or-splice_below 512 (0 ∷ []) (content t at.unit at.block) 511 (omega arith) ∙ body_mark

-- ---- the gate is opened behind a firm body
module _ (at : BlockPlace) (bytes : List ℕ) (s t : SiteLog) (shut_gate : (copy_on s at).is_open ≡ false)
    (body_put : WritesCopy at (IsFilling bytes (copy_on s at)) s t) (there : copy_on t at ≡ emptied_copy bytes (copy_on s at)) where
  -- with a gate
  with_gate : (flag : Bool) → IsFilling bytes (copy_on s at) (record (copy_on s at) { is_open = flag; spelled = bytes; slots = []; is_clear = true })
  with_gate true = record { made = refl; gate = inr refl }
  with_gate false = record { made = refl; gate = inl refl }

  module _ (u : SiteLog) (whole_t : IsWhole t at) where
    pub opening : (left : List ℕ) → length left ≡ 1 → Settles s t → Adds (write_at at 0 left) t u → WritesCopy at (IsFilling bytes (copy_on s at)) s u
    opening left one settled adds =
        let here : IsFilling bytes (copy_on s at) (copy_on t at) = subst (IsFilling bytes (copy_on s at)) (sym there) (record { made = refl; gate = inl shut_gate }) in
        copy_then at (IsFilling bytes (copy_on s at)) (IsFilling bytes (copy_on s at)) (IsFilling bytes (copy_on s at)) (λ c is. is) (λ c is. is) s t u settled body_put
        (block_write at.unit at.block 0 left _ t u adds here (λ other long_other.
        let is : copy_at (splice 0 other (content t at.unit at.block)) ≡ record (copy_on s at) { is_open = get_or other 0 0 == 193; spelled = bytes; slots = []; is_clear = true } =
        gate_written other (content t at.unit at.block) whole_t (long_other ∙ one) ∙ ap (λ (c : CopyView). record c { is_open = get_or other 0 0 == 193 }) there in
        subst (IsFilling bytes (copy_on s at)) (sym is) (with_gate (get_or other 0 0 == 193))))

    pub gate_opened : Adds (write_at at 0 (193 ∷ [])) t u → copy_on u at ≡ filled_copy bytes (copy_on s at)
    gate_opened adds =
        ap copy_at (block_written at.unit at.block 0 (193 ∷ []) t u adds) ∙ gate_written (193 ∷ []) (content t at.unit at.block) whole_t refl ∙ ap (λ (c : CopyView). record c { is_open = true }) there

-- the mark stays where the gate is written
pub mark_stays : (at : BlockPlace) (t u : SiteLog) → Adds (write_at at 0 (193 ∷ [])) t u → byte_on u at 511 ≡ byte_on t at 511
mark_stays at t u adds =
    ap (λ (b : List ℕ). get_or b 511 0) (block_written at.unit at.block 0 (193 ∷ []) t u adds) ∙ get_or-splice_above 0 (193 ∷ []) (content t at.unit at.block) 511 (omega arith)

-- closed first, then filled
module _ (at : BlockPlace) (bytes : List ℕ) (s t : SiteLog) (old : WritesCopy at (λ c. (c ≡ copy_on s at) ⊎ (c ≡ shut_copy (copy_on s at))) s t) where
  from_closing : (c : CopyView) → (c ≡ copy_on s at) ⊎ (c ≡ shut_copy (copy_on s at)) → IsRewriting bytes (copy_on s at) c
  from_closing c is = elim is [
    | inl same ↦ inl same
    | inr closed ↦ inr (subst (IsFilling bytes (copy_on s at)) (sym closed) (record { made = refl; gate = inl refl }))
  ]

  pub rewriting_closed : WritesCopy at (IsRewriting bytes (copy_on s at)) s t
  rewriting_closed = copy_weaker at _ _ from_closing s t old

  module _ (u : SiteLog) (is_shut : copy_on t at ≡ shut_copy (copy_on s at)) where
    from_filling : (c : CopyView) → IsFilling bytes (copy_on t at) c → IsRewriting bytes (copy_on s at) c
    from_filling c is = let f = subst (λ (o : CopyView). IsFilling bytes o c) is_shut is in inr (record { made = f.made; gate = f.gate })

    pub rewriting_filled : Settles s t → WritesCopy at (IsFilling bytes (copy_on t at)) t u → WritesCopy at (IsRewriting bytes (copy_on s at)) s u
    rewriting_filled settled second = copy_then at _ _ _ from_closing from_filling s t u settled old second

-- a copy that was shut has the gate of slot 0 that it had
pub shut_clear : (old new : CopyView) → new ≡ shut_copy old → old.is_clear ≡ true → new.is_clear ≡ true
shut_clear old new is clear = ap (λ (c : CopyView). c.is_clear) is ∙ clear

-- a log with one more write, and with some
pub adds_grow : (w : Write) (s t : SiteLog) → Adds w s t → length s.log < length t.log
adds_grow w s t (inl alone) = omega (arith, ap (λ (l : SiteLog). length l.log) alone ∙ length-append s.log (wrote w ∷ []))
adds_grow w s t (inr (inl firm)) = omega (arith, ap (λ (l : SiteLog). length l.log) firm ∙ length-append s.log (wrote w ∷ synced w.unit ∷ []))
adds_grow w s t (inr (inr loose)) = omega (arith, ap (λ (l : SiteLog). length l.log) loose ∙ length-append s.log (wrote w ∷ unsynced ∷ []))

pub writes_grow : (P : Content → Type 0) (s t : SiteLog) → Writes P s t → length s.log ≤ length t.log
writes_grow P s t w = omega (arith, ap (λ (l : SiteLog). length l.log) w.grown ∙ length-append s.log w.items)

-- how many items a log got
pub got_so_many : (xs : List Item) (s t : SiteLog) → Got xs s t → length t.log ≡ length s.log + length xs
got_so_many xs s t got = ap (λ (l : SiteLog). length l.log) got ∙ length-append s.log xs

pub adds_few : (w : Write) (s t : SiteLog) → Adds w s t → length t.log ≤ length s.log + 2
adds_few w s t (inl alone) = omega (arith, got_so_many (wrote w ∷ []) s t alone)
adds_few w s t (inr (inl firm)) = omega (arith, got_so_many (wrote w ∷ synced w.unit ∷ []) s t firm)
adds_few w s t (inr (inr loose)) = omega (arith, got_so_many (wrote w ∷ unsynced ∷ []) s t loose)

pub sync_few : {T E : Type 0} (unit : UnitNo) (r : Result T E) (s t : SiteLog) → OnOk r (Got (synced unit ∷ []) s t) → OnErr r (Got (unsynced ∷ []) s t) → length t.log ≤ length s.log + 1
sync_few unit (Ok value) s t ok err = omega (arith, got_so_many (synced unit ∷ []) s t ok)
sync_few unit (Err e) s t ok err = omega (arith, got_so_many (unsynced ∷ []) s t err)

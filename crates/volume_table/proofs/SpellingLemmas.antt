-- Pieces that are written one after another, and that a row's spelling is read as the row.
use Rattle.std.proofs.Common.{◌≡◌, ℕ, zero, suc, ◌+◌, ◌*◌, ◌/◌, ◌%◌, ◌≤◌, ◌<◌, Bool, true, false, nat_lt, ◌==◌, ◌||◌, List, [], ◌∷◌, ◌++◌, length, get_or, take, drop, map, replicate, Option, Some, None, Ok, refl, sym, ◌∙◌, ap, subst, arith, append_assoc, length-append}
use Rattle.std.specs.Prelude.{IfSome, is_some}
use Rattle.std.proofs.lemmas.List.{length-map, get_or-map, get_or-append-add, take_at, drop_at, drop-drop}
use Rattle.std.proofs.lemmas.Bool.{lt-ltb, cond-true}
use Rattle.std.specs.Int.{w16, to_be_bytes}
use Rattle.mss_base.specs.Content.{splice}
use Rattle.mss_base.proofs.ContentLemmas.{splice_fits}
use Rattle.volume_table.specs.Row.{RowValue, IsRow, frame_of}
use Rattle.volume_table.specs.declared.fault.RowField.{RowField}
use Rattle.volume_table.specs.declared.fault.RowField.TheVariants as field
use Rattle.volume_table.specs.declared.fault.RowFault.{RowFault}
use Rattle.volume_table.specs.Grammar.{◌then◌, first_in, first_fault, unless, row_at, page_of, page_byte, is_page_byte, two, body, decode, row_or_fault, spelling, serial_fault, cartridge_fault, page_fault, is_state, state_fault, spare_fault, mark_fault, mark_byte, is_old}
use Rattle.volume_table.proofs.StateLemmas.{state_passes}
use Rattle.volume_table.proofs.GrammarLemmas.{first_all}

splice_after : (at m : ℕ) (a b block : List ℕ) → m ≡ at + length a → m + length b ≤ length block → splice m b (splice at a block) ≡ splice at (a ++ b) block
unfolding splice
splice_after zero zero [] b block is le = refl
splice_after zero (suc m) [] b block is le = absurd (omega arith)
splice_after zero zero (x ∷ a) b block is le = absurd (omega arith)
splice_after zero (suc m) (x ∷ a) b [] is le = absurd (omega arith)
splice_after zero (suc m) (x ∷ a) b (y ∷ block) is le = ap (λ (l : List ℕ). x ∷ l) (splice_after zero m a b block (omega arith) (omega arith))
splice_after (suc n) zero a b block is le = absurd (omega arith)
splice_after (suc n) (suc m) a b [] is le = absurd (omega arith)
splice_after (suc n) (suc m) a b (y ∷ block) is le = ap (λ (l : List ℕ). y ∷ l) (splice_after n m a b block (omega arith) (omega arith))

pub splice_none : (at : ℕ) (block : List ℕ) → splice at [] block ≡ block
unfolding splice
splice_none zero block = refl
splice_none (suc n) [] = refl
splice_none (suc n) (x ∷ block) = ap (λ (l : List ℕ). x ∷ l) (splice_none n block)

-- one more piece behind those at a place
pub more : (at m : ℕ) (a b old mid new : List ℕ) → mid ≡ splice at a old → new ≡ splice m b mid → m ≡ at + length a → m + length b ≤ length old → new ≡ splice at (a ++ b) old
more at m a b old mid new first second is le = second ∙ ap (λ (l : List ℕ). splice m b l) first ∙ splice_after at m a b old is le

module _ (r : RowValue) (old b1 b2 b3 b4 b5 b6 b7 b8 : List ℕ) (row : IsRow r) (long : length old ≡ 512) where
  pub written : b1 ≡ splice 1 (2 ∷ []) old → b2 ≡ splice 2 r.serial b1 → b3 ≡ splice 8 (two r.first) b2 → b4 ≡ splice 10 (two r.second) b3
      → b5 ≡ splice 12 (map page_byte r.pages) b4 → b6 ≡ splice 63 (mark_byte r.read_only ∷ []) b5 → b7 ≡ splice 64 r.states b6 → b8 ≡ splice 468 (replicate 43 0) b7 → b8 ≡ splice 1 (spelling r) old
  unfolding spelling
  written e1 e2 e3 e4 e5 e6 e7 e8 =
      let p2 = 2 ∷ r.serial in
      let p3 = p2 ++ two r.first in
      let p4 = p3 ++ two r.second in
      let p5 = p4 ++ map page_byte r.pages in
      let p6 = p5 ++ mark_byte r.read_only ∷ [] in
      let p7 = p6 ++ r.states in
      let l2 : length p2 ≡ 7 = ap suc row.serial.six in
      let l3 : length p3 ≡ 9 = omega (arith, length-append p2 (two r.first)) in
      let l4 : length p4 ≡ 11 = omega (arith, length-append p3 (two r.second)) in
      let l5 : length p5 ≡ 62 = omega (arith, length-append p4 (map page_byte r.pages), length-map r.pages page_byte, row.pages) in
      let l6 : length p6 ≡ 63 = omega (arith, length-append p5 (mark_byte r.read_only ∷ [])) in
      let l7 : length p7 ≡ 467 = omega (arith, length-append p6 r.states, row.states) in
      let s2 : b2 ≡ splice 1 p2 old = more 1 2 (2 ∷ []) r.serial old b1 b2 e1 e2 refl (omega (arith, row.serial.six)) in
      let s3 : b3 ≡ splice 1 p3 old = more 1 8 p2 (two r.first) old b2 b3 s2 e3 (omega arith) (omega arith) in
      let s4 : b4 ≡ splice 1 p4 old = more 1 10 p3 (two r.second) old b3 b4 s3 e4 (omega arith) (omega arith) in
      let s5 : b5 ≡ splice 1 p5 old = more 1 12 p4 (map page_byte r.pages) old b4 b5 s4 e5 (omega arith) (omega (arith, length-map r.pages page_byte, row.pages)) in
      let s6 : b6 ≡ splice 1 p6 old = more 1 63 p5 (mark_byte r.read_only ∷ []) old b5 b6 s5 e6 (omega arith) (omega arith) in
      let s7 : b7 ≡ splice 1 p7 old = more 1 64 p6 r.states old b6 b7 s6 e7 (omega arith) (omega (arith, row.states)) in
      let s8 : b8 ≡ splice 1 (p7 ++ replicate 43 0) old = more 1 468 p7 (replicate 43 0) old b7 b8 s7 e8 (omega arith) (omega arith) in
      s8 ∙ ap (λ (l : List ℕ). splice 1 l old) (simp append_assoc)

length-spelling : (r : RowValue) → IsRow r → length (spelling r) ≡ 510
unfolding spelling
length-spelling r row = simp (length-append, length-map) (omega (arith, row.serial.six, row.pages, row.states))

pub body_splice : (s block : List ℕ) → length s ≡ 510 → 511 ≤ length block → body (splice 1 s block) ≡ s
unfolding splice
body_splice s [] long le = absurd (omega arith)
body_splice s (x ∷ block) long le = ap (take 510) (splice_fits 0 s block (omega arith)) ∙ take_at s (drop (0 + length s) block) 510 long

pub body_written : (r : RowValue) (block : List ℕ) → IsRow r → length block ≡ 512 → body (splice 1 (spelling r) block) ≡ spelling r
body_written r block row long = body_splice (spelling r) block (length-spelling r row) (omega arith)

good_field : (b : Bool) (f : RowField) (value : ℕ) → b ≡ true → unless b f value ≡ None
good_field b f value is = ap (λ (t : Bool). unless t f value) is

page_again : (o : Option ℕ) → IfSome o (λ f. f < 200) → page_of (page_byte o) ≡ o
page_again None small = refl
page_again (Some f) small = cond-true _ (Some f) None (lt-ltb f 200 small)

page_good : (o : Option ℕ) → IfSome o (λ f. f < 200) → is_page_byte (page_byte o) ≡ true
page_good None small = refl
page_good (Some f) small = ap (λ (b : Bool). b || (f == 255)) (lt-ltb f 200 small)

has_frame : (o : Option ℕ) → IfSome o (λ f. f < 200) → nat_lt (page_byte o) 200 ≡ is_some o
has_frame None small = refl
has_frame (Some f) small = lt-ltb f 200 small

pages_again : (ps : List (Option ℕ)) → ((k : ℕ) → IfSome (get_or ps k None) (λ f. f < 200)) → map page_of (map page_byte ps) ≡ ps
pages_again [] small = refl
pages_again (p ∷ ps) small = λ i. page_again p (small 0) i ∷ pages_again ps (λ k. small (suc k)) i

mark_again : (mark : Bool) → (mark_byte mark == 1) ≡ mark
mark_again true = refl
mark_again false = refl

mark_none : (mark : Bool) → mark_fault false (mark_byte mark) ≡ None
mark_none true = refl
mark_none false = refl

module _ (a b c d e f first second : ℕ) (mark : Bool) (pages : List (Option ℕ)) (states : List ℕ) where
  abbrev r : RowValue
  r = record {
    serial = a ∷ b ∷ c ∷ d ∷ e ∷ f ∷ [];
    read_only = mark;
    first = first;
    second = second;
    pages = pages;
    states = states;
  }

  abbrev tail : List ℕ
  tail = map page_byte pages ++ (mark_byte mark ∷ states ++ replicate 43 0)

  module _ (row : IsRow r) where
    length-bytes : length (map page_byte pages) ≡ 51
    length-bytes = length-map pages page_byte ∙ row.pages

    page_bytes : take 51 tail ≡ map page_byte pages
    page_bytes = take_at (map page_byte pages) (mark_byte mark ∷ states ++ replicate 43 0) 51 length-bytes

    behind_pages : drop 51 tail ≡ mark_byte mark ∷ states ++ replicate 43 0
    behind_pages = drop_at (map page_byte pages) (mark_byte mark ∷ states ++ replicate 43 0) 51 length-bytes

    mark_is : get_or tail 51 0 ≡ mark_byte mark
    mark_is =
        ap (λ (n : ℕ). get_or tail (n + 0) 0) (sym length-bytes)
        ∙ get_or-append-add (map page_byte pages) (mark_byte mark ∷ states ++ replicate 43 0) 0 0

    from_states : drop 52 tail ≡ states ++ replicate 43 0
    from_states = sym (drop-drop 1 51 tail) ∙ ap (drop 1) behind_pages

    state_bytes : take 404 (drop 52 tail) ≡ states
    state_bytes = ap (take 404) from_states ∙ take_at states (replicate 43 0) 404 row.states

    spare_bytes : drop 456 tail ≡ replicate 43 0
    spare_bytes = sym (drop-drop 404 52 tail) ∙ ap (drop 404) from_states ∙ drop_at states (replicate 43 0) 404 row.states

    two_again : (n : ℕ) → 256 * (n / 256) + n % 256 ≡ n
    two_again n = omega arith

    row_again : row_at (spelling r) ≡ r
    unfolding spelling
    row_again = λ i. record {
      serial = a ∷ b ∷ c ∷ d ∷ e ∷ f ∷ [];
      read_only = (ap (λ (x : ℕ). x == 1) mark_is ∙ mark_again mark) i;
      first = two_again first i;
      second = two_again second i;
      pages = (ap (map page_of) page_bytes ∙ pages_again pages row.frames) i;
      states = state_bytes i;
    }

    serial_none : first_in serial_fault 0 (a ∷ b ∷ c ∷ d ∷ e ∷ f ∷ []) ≡ None
    serial_none = first_all serial_fault 0 (a ∷ b ∷ c ∷ d ∷ e ∷ f ∷ []) (λ k lt. good_field _ (field.Serial (0 + k)) _ (row.serial.each k lt))

    page_none : first_in page_fault 0 (map page_byte pages) ≡ None
    page_none = first_all page_fault 0 (map page_byte pages) (λ k lt.
        let is : get_or (map page_byte pages) k 0 ≡ page_byte (get_or pages k None) = get_or-map page_byte pages k None 0 (omega (arith, length-map pages page_byte)) in
        good_field _ (field.Page (0 + k)) _ (ap is_page_byte is ∙ page_good (get_or pages k None) (row.frames k)))

    state_none : first_in (state_fault (map page_byte pages)) 0 states ≡ None
    state_none = first_all (state_fault (map page_byte pages)) 0 states (λ k lt.
        let q = (0 + k) / 8 in
        let same : q ≡ k / 8 = omega arith in
        let is : get_or (map page_byte pages) q 0 ≡ page_byte (get_or pages q None) = get_or-map page_byte pages q None 0 (omega (arith, row.pages, row.states)) in
        let has : nat_lt (get_or (map page_byte pages) q 0) 200 ≡ is_some (frame_of r (k / 8)) =
        ap (λ (n : ℕ). nat_lt n 200) is ∙ has_frame (get_or pages q None) (row.frames q) ∙ ap (λ (n : ℕ). is_some (frame_of r n)) same in
        good_field _ (field.State (0 + k)) _ (ap (λ (t : Bool). is_state t (get_or states k 0)) has ∙ state_passes (frame_of r (k / 8)) (get_or states k 0) (row.numbers k) (row.staged k)))

    spare_none : first_in spare_fault 1 (replicate 43 0) ≡ None
    spare_none = refl

    cartridge_none : (which : RowField) (n : ℕ) → n < 2048 → cartridge_fault which (256 * (n / 256) + n % 256) ≡ None
    cartridge_none which n small = ap (cartridge_fault which) (two_again n) ∙ good_field _ which n (lt-ltb n 2048 small)

    abbrev Checked : List ℕ → List ℕ → ℕ → List ℕ → List ℕ → Option RowFault
    Checked serial page_bytes mark_read state_list spares =
        first_in serial_fault 0 serial
        then cartridge_fault field.First (256 * (first / 256) + first % 256)
        then cartridge_fault field.Second (256 * (second / 256) + second % 256)
        then first_in page_fault 0 page_bytes
        then mark_fault false mark_read
        then first_in (state_fault page_bytes) 0 state_list
        then first_in spare_fault 1 spares

    no_fault : first_fault (spelling r) ≡ None
    unfolding spelling first_fault
    no_fault =
        (λ i. Checked (a ∷ b ∷ c ∷ d ∷ e ∷ f ∷ []) (page_bytes i) (mark_is i) (state_bytes i) (ap (take 43) spare_bytes i))
        ∙ (λ i. serial_none i then cartridge_none field.First first row.first i then cartridge_none field.Second second row.second i then page_none i then mark_none mark i then state_none i then spare_none i)

    spelled : decode (spelling r) ≡ Ok r
    spelled = λ i. row_or_fault (no_fault i) (row_again i)

-- by the six bytes of the serial
by_serial : (r : RowValue) (serial : List ℕ) → r.serial ≡ serial → length serial ≡ 6 → IsRow r → decode (spelling r) ≡ Ok r
by_serial r (a ∷ b ∷ c ∷ d ∷ e ∷ f ∷ []) is six row =
    let s : RowValue = record r { serial = a ∷ b ∷ c ∷ d ∷ e ∷ f ∷ [] } in
    let same : s ≡ r = (λ i. record r { serial = sym is i }) in
    subst (λ (q : RowValue). decode (spelling q) ≡ Ok q) same
    (spelled a b c d e f r.first r.second r.read_only r.pages r.states (subst IsRow (sym same) row))
by_serial r serial is six row = absurd (omega arith)

pub decode_spelling : (r : RowValue) → IsRow r → decode (spelling r) ≡ Ok r
decode_spelling r row = by_serial r r.serial refl row.serial.six row

-- what is written is of version 2
pub spelling_is_new : (r : RowValue) → is_old (spelling r) ≡ false
unfolding spelling
spelling_is_new r = refl

pub two_bytes : (n : ℕ) → n < 2048 → to_be_bytes w16 n ≡ two n
two_bytes n small = let e : n / 256 % 256 ≡ n / 256 = omega arith in ap (λ (b : ℕ). b ∷ n % 256 ∷ []) e

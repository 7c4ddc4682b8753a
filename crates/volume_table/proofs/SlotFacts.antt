-- What slots tell: that a change is read back from its slot, that one slot more is one change more, and that what a body
-- and its slots tell is a row.
use Rattle.std.proofs.Common.{◌≡◌, ◌≢◌, ◌↔◌, ℕ, zero, suc, ◌+◌, ◌*◌, ◌/◌, ◌%◌, ◌<◌, ◌==◌, inl, inr, Bool, true, false, ◌&&◌, nat_lt, cond, List, [], ◌∷◌, ◌++◌, length, get_or, Option, Some, None, Result, Ok, Err, refl, sym, ◌∙◌, ap, subst, arith, zero-add}
use Rattle.std.specs.Prelude.{is_some, is_none, not}
use Rattle.std.specs.Option.{option_and_then}
use Rattle.std.proofs.lemmas.List.{get_or_past}
use Rattle.std.proofs.lemmas.Option.{option_and_then_some}
use Rattle.std.proofs.lemmas.Bool.{cases_Bool, cases_lt, and_parts, and_from, or_cases, or_left, or_right, eqb-true, eq-eqb, ltb-true, lt-ltb, cond-true, cond-false, false≢true}
use Rattle.volume_table.specs.Row.{RowValue, IsRow, frame_of, state_of}
use Rattle.volume_table.specs.Changes.{IsAllowed, IsInRange, effect}
use Rattle.volume_table.specs.Grammar.{decode}
use Rattle.volume_table.specs.declared.fault.RowFault.{RowFault}
use Rattle.volume_table.specs.declared.changes.Change.{Change}
use Rattle.volume_table.specs.declared.changes.Change.TheVariants.{Create, Assign, Free, Staged, Changed, Destaged, Protect}
use Rattle.volume_table.specs.Slots.{slot_of, assignment, cylinder_change, frameless_change, change_by, change_of, each_passes, is_other_frame, may_lose_frame, allows, allowed_effect, after_slot, goes_on, changed_by, with_slots, told_by}
use Rattle.volume_table.proofs.RowLemmas.{row-changed}
use Rattle.volume_table.proofs.OneSpelling.{decoded_row}

-- what each item passes, and the other way round
all_pass : (A : Type 0) (test : ℕ → A → Bool) (n : ℕ) (xs : List A) (d : A) → each_passes test n xs ≡ true → (k m : ℕ) → m ≡ n + k → k < length xs → test m (get_or xs k d) ≡ true
all_pass A test n [] d is k m at lt = absurd (omega arith)
all_pass A test n (x ∷ xs) d is zero m at lt = let e : m ≡ n = omega arith in ap (λ (j : ℕ). test j x) e ∙ (and_parts (test n x) (each_passes test (suc n) xs) is).0
all_pass A test n (x ∷ xs) d is (suc k) m at lt = all_pass A test (suc n) xs d (and_parts (test n x) (each_passes test (suc n) xs) is).1 k m (omega arith) (omega arith)

pass_all : (A : Type 0) (test : ℕ → A → Bool) (n : ℕ) (xs : List A) (d : A) → ((k m : ℕ) → m ≡ n + k → k < length xs → test m (get_or xs k d) ≡ true) → each_passes test n xs ≡ true
pass_all A test n [] d each = refl
pass_all A test n (x ∷ xs) d each =
    and_from (test n x) (each_passes test (suc n) xs) (each zero n (omega arith) (omega arith)) (pass_all A test (suc n) xs d (λ k m at lt. each (suc k) m (omega arith) (omega arith)))

none_is : (o : Option ℕ) → is_none o ≡ true → o ≡ None
none_is None is = refl
none_is (Some x) is = absurd cc

none_so : (o : Option ℕ) → o ≡ None → is_none o ≡ true
none_so None is = refl
none_so (Some x) is = absurd cc

other_is : (frame : ℕ) (o : Option ℕ) → is_other_frame frame o ≡ true → o ≢ Some frame
other_is frame None is = λ e. absurd cc
other_is frame (Some x) is = λ e. let same : x ≡ frame = cc in false≢true (sym (cond-true (x == frame) false true (eq-eqb x frame same)) ∙ is)

other_so : (frame : ℕ) (o : Option ℕ) → o ≢ Some frame → is_other_frame frame o ≡ true
other_so frame None ne = refl
other_so frame (Some x) ne = elim (cases_Bool (x == frame)) [
  | inl same ↦ absurd (ne (ap (λ (y : ℕ). Some y) (eqb-true x frame same)))
  | inr other ↦ cond-false (x == frame) false true other
]

lost_is : (page cylinder state : ℕ) → may_lose_frame page cylinder state ≡ true → cylinder / 8 ≡ page → state ≢ 4
lost_is page cylinder state is at = λ four.
    false≢true (sym (cond-true (cylinder / 8 == page && state == 4) false true (and_from (cylinder / 8 == page) (state == 4) (eq-eqb (cylinder / 8) page at) (eq-eqb state 4 four))) ∙ is)

lost_so : (page cylinder state : ℕ) → (cylinder / 8 ≡ page → state ≢ 4) → may_lose_frame page cylinder state ≡ true
lost_so page cylinder state ne = elim (cases_Bool (cylinder / 8 == page && state == 4)) [
  | inl both ↦ let p = and_parts (cylinder / 8 == page) (state == 4) both in absurd (ne (eqb-true (cylinder / 8) page p.0) (eqb-true state 4 p.1))
  | inr neither ↦ cond-false (cylinder / 8 == page && state == 4) false true neither
]

mark_is : (mark on : Bool) → cond on (not mark) mark ≡ true → mark ≢ on
mark_is true true is = absurd cc
mark_is true false is = λ e. absurd cc
mark_is false true is = λ e. absurd cc
mark_is false false is = absurd cc

mark_so : (mark on : Bool) → mark ≢ on → cond on (not mark) mark ≡ true
mark_so true true ne = absurd (ne refl)
mark_so true false ne = refl
mark_so false true ne = refl
mark_so false false ne = absurd (ne refl)

allowed_is : (c : Change) (r : RowValue) → allows c r ≡ true → IsAllowed c r
allowed_is (Create serial first second) r is = absurd cc
allowed_is (Assign page frame) r is =
    let p = and_parts (is_none (frame_of r page)) (each_passes (λ _ other. is_other_frame frame other) 0 r.pages) is in (
      none_is (frame_of r page) p.0,
      λ other. elim (cases_lt other (length r.pages)) [
        | inl lt ↦ other_is frame (frame_of r other) (all_pass (Option ℕ) (λ _ o. is_other_frame frame o) 0 r.pages None p.1 other other (sym (zero-add other)) lt)
        | inr past ↦ λ e. let none : frame_of r other ≡ None = get_or_past r.pages other None past in absurd cc
      ],
    )
allowed_is (Free page) r is =
    let p = and_parts (is_some (frame_of r page)) (each_passes (may_lose_frame page) 0 r.states) is in (
      p.0,
      λ cylinder at. elim (cases_lt cylinder (length r.states)) [
        | inl lt ↦ lost_is page cylinder (state_of r cylinder) (all_pass ℕ (may_lose_frame page) 0 r.states 0 p.1 cylinder cylinder (sym (zero-add cylinder)) lt) at
        | inr past ↦ λ four. let none : state_of r cylinder ≡ 0 = get_or_past r.states cylinder 0 past in absurd (omega arith)
      ],
    )
allowed_is (Staged cylinder) r is =
    let p = and_parts (nat_lt (state_of r cylinder) 2) (is_some (frame_of r (cylinder / 8))) is in
    (ltb-true (state_of r cylinder) 2 p.0, p.1)
allowed_is (Changed cylinder) r is = elim (or_cases (state_of r cylinder == 2) (state_of r cylinder == 3) is) [
  | inl two ↦ inl (eqb-true (state_of r cylinder) 2 two)
  | inr three ↦ inr (eqb-true (state_of r cylinder) 3 three)
]
allowed_is (Destaged cylinder) r is = eqb-true (state_of r cylinder) 4 is
allowed_is (Protect on) r is = mark_is r.read_only on is

allowed_so : (c : Change) (r : RowValue) → IsAllowed c r → allows c r ≡ true
allowed_so (Create serial first second) r is = absurd is
allowed_so (Assign page frame) r is =
    and_from (is_none (frame_of r page)) (each_passes (λ _ other. is_other_frame frame other) 0 r.pages) (none_so (frame_of r page) is.0)
    (pass_all (Option ℕ) (λ _ other. is_other_frame frame other) 0 r.pages None (λ k m at lt. other_so frame (frame_of r k) (is.1 k)))
allowed_so (Free page) r is =
    and_from (is_some (frame_of r page)) (each_passes (may_lose_frame page) 0 r.states) is.0
    (pass_all ℕ (may_lose_frame page) 0 r.states 0 (λ k m at lt. let e : m ≡ k = omega arith in lost_so page m (state_of r k) (λ on. is.1 k (ap (λ (j : ℕ). j / 8) (sym e) ∙ on))))
allowed_so (Staged cylinder) r is = and_from (nat_lt (state_of r cylinder) 2) (is_some (frame_of r (cylinder / 8))) (lt-ltb (state_of r cylinder) 2 is.0) is.1
allowed_so (Changed cylinder) r is = elim is [
  | inl two ↦ or_left (state_of r cylinder == 2) (state_of r cylinder == 3) (eq-eqb (state_of r cylinder) 2 two)
  | inr three ↦ or_right (state_of r cylinder == 2) (state_of r cylinder == 3) (eq-eqb (state_of r cylinder) 3 three)
]
allowed_so (Destaged cylinder) r is = eq-eqb (state_of r cylinder) 4 is
allowed_so (Protect on) r is = mark_so r.read_only on is

-- the test is the fact, of any lists
pub allows_is : (c : Change) (r : RowValue) → (allows c r ≡ true) ↔ IsAllowed c r
allows_is c r = (allowed_is c r, allowed_so c r)

-- a test of the fact answers as that test
pub same_test : (c : Change) (r : RowValue) (b : Bool) → ((b ≡ true) ↔ IsAllowed c r) → b ≡ allows c r
same_test c r true is = sym (allowed_so c r (is.0 refl))
same_test c r false is = elim (cases_Bool (allows c r)) [
  | inl so ↦ is.1 (allowed_is c r so) ∙ sym so
  | inr other ↦ sym other
]

two_again : (n : ℕ) → 256 * (n / 256) + n % 256 ≡ n
two_again n = omega arith

mark_slot_back : (on : Bool) → change_of (slot_of (Protect on)) ≡ Some (Protect on)
mark_slot_back true = refl
mark_slot_back false = refl

-- a change is read back from its slot
pub slot_back : (c : Change) (r : RowValue) → IsAllowed c r → IsInRange c → change_of (slot_of c) ≡ Some c
slot_back (Create serial first second) r allowed range = absurd allowed
slot_back (Assign page frame) r allowed range =
    ap (λ (n : ℕ). assignment n frame) (two_again page)
    ∙ cond-true (nat_lt page 51 && nat_lt frame 200) (Some (Assign page frame)) None (and_from (nat_lt page 51) (nat_lt frame 200) (lt-ltb page 51 range.0) (lt-ltb frame 200 range.1))
slot_back (Free page) r allowed range = ap (λ (n : ℕ). frameless_change 2 n) (two_again page) ∙ cond-true (nat_lt page 51) (Some (Free page)) None (lt-ltb page 51 range)
slot_back (Staged cylinder) r allowed range =
    ap (λ (n : ℕ). frameless_change 3 n) (two_again cylinder) ∙ cond-true (nat_lt cylinder 404) (Some (Staged cylinder)) None (lt-ltb cylinder 404 range)
slot_back (Changed cylinder) r allowed range =
    ap (λ (n : ℕ). frameless_change 4 n) (two_again cylinder) ∙ cond-true (nat_lt cylinder 404) (Some (Changed cylinder)) None (lt-ltb cylinder 404 range)
slot_back (Destaged cylinder) r allowed range =
    ap (λ (n : ℕ). frameless_change 5 n) (two_again cylinder) ∙ cond-true (nat_lt cylinder 404) (Some (Destaged cylinder)) None (lt-ltb cylinder 404 range)
slot_back (Protect on) r allowed range = mark_slot_back on

some_when : {A : Type 0} (b : Bool) (x y : A) → cond b (Some x) None ≡ Some y → (b ≡ true) × (x ≡ y)
some_when true x y is = (refl, cc)
some_when false x y is = absurd cc

passes_when : (b : Bool) (o : Option Change) (c : Change) → cond b o None ≡ Some c → (b ≡ true) × (o ≡ Some c)
passes_when true o c is = (refl, is)
passes_when false o c is = absurd cc

either : (P : Type 0) (b : Bool) (m n : Option Change) (c : Change) → cond b m n ≡ Some c → (m ≡ Some c → P) → (n ≡ Some c → P) → P
either P true m n c is first second = first is
either P false m n c is first second = second is

only : (b : Change) (c : Change) → Some b ≡ Some c → IsInRange b → IsInRange c
only b c is range = let e : b ≡ c = cc in subst IsInRange e range

cylinder_in_range : (kind cylinder : ℕ) (c : Change) → cylinder < 404 → cylinder_change kind cylinder ≡ Some c → IsInRange c
cylinder_in_range kind cylinder c lt is =
    either (IsInRange c) (kind == 3) _ _ c is (λ e. only (Staged cylinder) c e lt)
    (λ is4. either (IsInRange c) (kind == 4) _ _ c is4 (λ e. only (Changed cylinder) c e lt)
    (λ is5. either (IsInRange c) (kind == 5) _ _ c is5 (λ e. only (Destaged cylinder) c e lt) (λ none. absurd cc)))

frameless_in_range : (kind number : ℕ) (c : Change) → frameless_change kind number ≡ Some c → IsInRange c
frameless_in_range kind number c is =
    either (IsInRange c) (kind == 2) _ _ c is
    (λ free. let p = passes_when (nat_lt number 51) (Some (Free number)) c free in only (Free number) c p.1 (ltb-true number 51 p.0))
    (λ other. either (IsInRange c) (kind == 6) _ _ c other
    (λ mark. let p = passes_when (nat_lt number 2) (Some (Protect (number == 1))) c mark in only (Protect (number == 1)) c p.1 tt)
    (λ rest. let p = passes_when (nat_lt number 404) (cylinder_change kind number) c rest in cylinder_in_range kind number c (ltb-true number 404 p.0) p.1))

assignment_in_range : (page frame : ℕ) (c : Change) → assignment page frame ≡ Some c → IsInRange c
assignment_in_range page frame c is =
    let p = passes_when (nat_lt page 51 && nat_lt frame 200) (Some (Assign page frame)) c is in
    let both = and_parts (nat_lt page 51) (nat_lt frame 200) p.0 in
    only (Assign page frame) c p.1 (ltb-true page 51 both.0, ltb-true frame 200 both.1)

change_in_range : (kind number frame : ℕ) (c : Change) → change_by kind number frame ≡ Some c → IsInRange c
change_in_range kind number frame c is =
    either (IsInRange c) (kind == 1) _ _ c is (assignment_in_range number frame c)
    (λ other. frameless_in_range kind number c (passes_when (frame == 0) (frameless_change kind number) c other).1)

-- what a slot spells is in range
pub slot_in_range : (slot : List ℕ) (c : Change) → change_of slot ≡ Some c → IsInRange c
slot_in_range slot c is = change_in_range (get_or slot 0 0) _ (get_or slot 3 0) c (passes_when _ _ c is).1

after_is_row : (slot : List ℕ) (r next : RowValue) → IsRow r → after_slot slot r ≡ Some next → IsRow next
after_is_row slot r next row is = option_and_then_some (allowed_effect r) (change_of slot) next is (λ c spelled done.
    let p = some_when (allows c r) (effect c r) next done in
    subst IsRow p.1 (row-changed c r row (allowed_is c r p.0) (slot_in_range slot c spelled)))

went_on : (P : Type 0) (n : ℕ) (slot : List ℕ) (rest : RowValue → Result RowValue RowFault) (o : Option RowValue) (out : RowValue) → goes_on n slot rest o ≡ Ok out
    → ((next : RowValue) → o ≡ Some next → rest next ≡ Ok out → P) → P
went_on P n slot rest None out is then_so = absurd cc
went_on P n slot rest (Some next) out is then_so = then_so next refl is

changed_is_row : (n : ℕ) (r : RowValue) (slots : List (List ℕ)) (out : RowValue) → IsRow r → changed_by n r slots ≡ Ok out → IsRow out
changed_is_row n r [] out row is = let e : r ≡ out = cc in subst IsRow e row
changed_is_row n r (slot ∷ slots) out row is = went_on (IsRow out) n slot (λ next. changed_by (suc n) next slots) (after_slot slot r) out is (λ next after rest.
    changed_is_row (suc n) next slots out (after_is_row slot r next row after) rest)

told_from : (P : Type 0) (slots : List (List ℕ)) (read : Result RowValue RowFault) (out : RowValue) → with_slots slots read ≡ Ok out → ((r : RowValue) → read ≡ Ok r → changed_by 0 r slots ≡ Ok out → P) → P
told_from P slots (Ok r) out is then_so = then_so r refl is
told_from P slots (Err f) out is then_so = absurd cc

-- what a body and its slots tell is a row
pub told_is_row : (body : List ℕ) (slots : List (List ℕ)) (r : RowValue) → length body ≡ 510 → told_by body slots ≡ Ok r → IsRow r
told_is_row body slots r long is = told_from (IsRow r) slots (decode body) r is (λ read from changed. changed_is_row 0 read slots r (decoded_row body read long from) changed)

-- one slot more, behind what those before it gave
abbrev pub and_slot : ℕ → List ℕ → Result RowValue RowFault → Result RowValue RowFault
and_slot number slot (Ok r) = changed_by number r (slot ∷ [])
and_slot number slot (Err fault) = Err fault

goes_on_then : (n m : ℕ) (s slot : List ℕ) (rest more : RowValue → Result RowValue RowFault) (o : Option RowValue) → ((r : RowValue) → more r ≡ and_slot m slot (rest r)) → goes_on n s more o ≡ and_slot m slot (goes_on n s rest o)
goes_on_then n m s slot rest more None each = refl
goes_on_then n m s slot rest more (Some r) each = each r

-- one slot more is one change more
pub changed_by-append : (n m : ℕ) (r : RowValue) (slots : List (List ℕ)) (slot : List ℕ) → m ≡ n + length slots → changed_by n r (slots ++ slot ∷ []) ≡ and_slot m slot (changed_by n r slots)
changed_by-append n m r [] slot at = let e : n ≡ m = omega arith in ap (λ (k : ℕ). changed_by k r (slot ∷ [])) e
changed_by-append n m r (s ∷ slots) slot at =
    goes_on_then n m s slot (λ next. changed_by (suc n) next slots) (λ next. changed_by (suc n) next (slots ++ slot ∷ [])) (after_slot s r)
    (λ next. changed_by-append (suc n) m next slots slot (omega arith))

after_change : (slot : List ℕ) (c : Change) (r : RowValue) → change_of slot ≡ Some c → allows c r ≡ true → after_slot slot r ≡ Some (effect c r)
after_change slot c r spelled allowed = ap (option_and_then (allowed_effect r)) spelled ∙ cond-true (allows c r) (Some (effect c r)) None allowed

with_one_more : (slots : List (List ℕ)) (slot : List ℕ) (read : Result RowValue RowFault) → with_slots (slots ++ slot ∷ []) read ≡ and_slot (length slots) slot (with_slots slots read)
with_one_more slots slot (Ok r) = changed_by-append 0 (length slots) r slots slot (sym (zero-add (length slots)))
with_one_more slots slot (Err f) = refl

-- where a body and its slots tell a row, the slot of a change that is allowed makes that change
pub told_one_more : (body : List ℕ) (slots : List (List ℕ)) (r : RowValue) (c : Change) → told_by body slots ≡ Ok r → IsAllowed c r → IsInRange c → told_by body (slots ++ slot_of c ∷ []) ≡ Ok (effect c r)
told_one_more body slots r c told allowed range =
    let after = after_change (slot_of c) c r (slot_back c r allowed range) (allowed_so c r allowed) in
    with_one_more slots (slot_of c) (decode body) ∙ ap (and_slot (length slots) (slot_of c)) told ∙ ap (goes_on (length slots) (slot_of c) (λ next. changed_by (suc (length slots)) next [])) after

-- a body without slots tells what it spells
pub told_by-none : (body : List ℕ) → told_by body [] ≡ decode body
told_by-none body = told_none (decode body)
  where
    told_none : (read : Result RowValue RowFault) → with_slots [] read ≡ read
    told_none (Ok r) = refl
    told_none (Err f) = refl

pub length-slot_of : (c : Change) → length (slot_of c) ≡ 7
length-slot_of (Create serial first second) = refl
length-slot_of (Assign page frame) = refl
length-slot_of (Free page) = refl
length-slot_of (Staged cylinder) = refl
length-slot_of (Changed cylinder) = refl
length-slot_of (Destaged cylinder) = refl
length-slot_of (Protect on) = refl

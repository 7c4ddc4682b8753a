-- What contracts see of a book and of a pass, and what their types keep.
use Rattle.std.specs.Prelude.{◌≡◌, ◌⊎◌, ℕ, List, [], map, length, Some, slice_get, nat_eq, All, Contains}
use Rattle.std.specs.List.{IsDistinct}
use mathlib.Core.List.{IsPrefix}
use Rattle.atomic_table.specs.Seated.{TableId}
use Rattle.atomic_table.specs.declared.shared.Seat.{Seat}
use Rattle.ckd_plain.specs.History.{EntryData}
use Rattle.seen_book.specs.declared.rule.View.{View}
use Rattle.seen_book.specs.Openings.{OpeningData, IsLegalFrom}
use Rattle.seen_book.specs.Entries.{entries_of}
use Rattle.seen_book.specs.Views.{book_view, pass_view}

-- the name of no word
abbrev pub no_table : TableId
no_table = record { words = 0; slots = 0; views_name = 0; atom = 0; block = 0; offset = 0; slot_names = [] }

-- a book: the history, and the hosts for which passes were made
pub record BookData : Type 0 where
  pub list : List EntryData
  pub made : List ℕ

-- a pass: its host, what it has seen, and its own entries
pub record PassData : Type 0 where
  pub host : ℕ
  pub seen : List EntryData
  pub mine : List EntryData

abbrev pub IsIn : List ℕ → ℕ → Type 0
IsIn hosts host = Contains hosts host

abbrev pub IsOfOne : List ℕ → EntryData → Type 0
IsOfOne hosts e = Contains hosts e.host

-- each host is one of these
abbrev pub AreAmong : List ℕ → List ℕ → Type 0
AreAmong hosts made = All (IsIn hosts) made

-- each entry is of one of these hosts
abbrev pub AreOfThese : List ℕ → List EntryData → Type 0
AreOfThese hosts log = All (IsOfOne hosts) log

-- the hosts for which passes were made differ, and are of the name's list
abbrev pub AreMade : List ℕ → List ℕ → Type 0
AreMade hosts made = IsDistinct nat_eq made × AreAmong hosts made

-- what a book keeps of its seat
pub record IsBook (table : TableId) (opening : OpeningData) (hosts : List ℕ) (seat : Seat (Unit {0}) View) : Type 0 where
  pub table_ : seat.table_id ≡ table
  pub me : seat.me ≡ (book_view seat.me.0.seen seat.me.0.made, [])
  pub legal : IsLegalFrom opening seat.me.0.seen
  pub made_ : AreMade hosts seat.me.0.made
  pub kept : AreOfThese seat.me.0.made seat.me.0.seen
  pub entries : AreOfThese hosts seat.me.0.seen

-- what a pass keeps of its seat
pub record IsPass (table : TableId) (opening : OpeningData) (hosts : List ℕ) (host : ℕ) (seat : Seat (Unit {0}) View) : Type 0 where
  pub table_ : seat.table_id ≡ table
  pub me : seat.me ≡ (pass_view host seat.me.0.seen seat.me.0.mine, [])
  pub legal : IsLegalFrom opening seat.me.0.seen
  pub host_ : Contains hosts host
  pub own : entries_of host seat.me.0.seen ≡ seat.me.0.mine
  pub entries : AreOfThese hosts seat.me.0.seen

-- a seat with an empty history, at a table of one word and no slot
pub record IsFresh (table : TableId) (seat : Seat (Unit {0}) View) : Type 0 where
  pub words : table.words ≡ 1
  pub slots : table.slots ≡ 0
  pub table_ : seat.table_id ≡ table
  pub me : seat.me ≡ (book_view [] [], [])

-- the table has one word and no slot, and the seat is of it
abbrev pub IsWord : TableId → TableId → Type 0
IsWord table seat = (table.words ≡ 1) × (table.slots ≡ 0) × (seat ≡ table)

-- the pass has seen a beginning of this history, in which its own entries are all of its host
abbrev pub Begins : List EntryData → PassData → Type 0
Begins log p = IsPrefix p.seen log × (entries_of p.host log ≡ p.mine)

-- there is such a history of this length
abbrev pub Shows : PassData → ℕ → Type 0
Shows p n = (log : List EntryData) × (length log ≡ n) × Begins log p

-- of any two passes one has seen a beginning of what the other has seen
abbrev pub AreNested : List PassData → Type 0
AreNested ps =
    (j k : ℕ) (p q : PassData) → slice_get ps j ≡ Some p → slice_get ps k ≡ Some q → IsPrefix p.seen q.seen ⊎ IsPrefix q.seen p.seen

-- no two passes are of one host
abbrev pub HaveOneEach : List PassData → Type 0
HaveOneEach ps = IsDistinct nat_eq (map (λ (p : PassData). p.host) ps)

-- the view of a book that took in these passes
abbrev pub closing_view : List EntryData → List ℕ → List PassData → View
closing_view log made ps = record (book_view log made) {
  olds = map (λ (p : PassData). p.seen) ps;
  taken = map (λ (p : PassData). (p.host, p.mine)) ps;
}

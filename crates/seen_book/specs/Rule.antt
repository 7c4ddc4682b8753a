-- The rule of the word, and what its steps tell.
use Rattle.std.specs.Prelude.{◌≡◌, ℕ, true, List, [], ◌∷◌, length, map, Option, Some, None, All, Contains, nat_eq}
use Rattle.std.specs.List.{IsDistinct}
use mathlib.Core.Option.{some}
use mathlib.Core.List.{IsPrefix}
use lib.ListN.{get_elem?}
use Rattle.atomic_table.specs.Table.{State}
use Rattle.ckd_plain.specs.History.{EntryData}
use Rattle.seen_book.specs.declared.rule.View.{View}
use Rattle.seen_book.specs.Entries.{entries_of}
use Rattle.seen_book.specs.Views.{view_with_entry}

-- a pass that ended: its host has no seat any more, these are all its entries, and it counts as made
abbrev pub IsGone : (ℕ → Option ℕ) → List EntryData → List ℕ → ℕ × List EntryData → Type 0
IsGone owner log made t = (owner t.0 ≡ None) × (entries_of t.0 log ≡ t.1) × Contains made t.0

-- the hosts of passes that ended
abbrev pub hosts_of : List (ℕ × List EntryData) → List ℕ
hosts_of ended = map (λ (t : ℕ × List EntryData). t.0) ended

-- What the rule says of one seat's view. `holder` is the seat that knows the whole history, and `owner` gives the seat
-- of a host's pass: so no two seats hold, and no two are of one host. That lists are legal is kept by the types of books
-- and passes.
pub record Fits (log : List EntryData) (made : List ℕ) (holder : ℕ) (owner : ℕ → Option ℕ) (seat : ℕ) (v : View) : Type 0 where
  pub holder_ : v.holds ≡ true → (seat ≡ holder) × (v.seen ≡ log) × (v.made ≡ made)
  pub seen_ : IsPrefix v.seen log
  pub olds_ : All (λ old. IsPrefix old log) v.olds
  pub own : v.hosted ≡ true → (owner v.host ≡ Some seat) × (entries_of v.host log ≡ v.mine) × Contains made v.host
  pub taken_ : All (IsGone owner log made) v.taken
  pub differ : IsDistinct nat_eq (hosts_of v.taken)

-- The rule: there is one history. The word counts its entries, each is of a host for which a pass was made, one seat
-- holds the whole of it, and each seat's view fits it. A spent view fits any.
pub record Kept (s : State (Unit {0}) View) : Type 0 where
  pub log : List EntryData
  pub made : List ℕ
  pub holder : ℕ
  pub owner : ℕ → Option ℕ
  pub word : s.words ≡ length log ∷ []
  pub hosts : All (λ (e : EntryData). Contains made e.host) log
  pub held : (v : View) × (get_elem? s.views holder ≡ some v) × (v.holds ≡ true)
  pub views : (seat : ℕ) (v : View) → get_elem? s.views seat ≡ some v → Fits log made holder owner seat v

-- the entry was added to the whole history, of which the earlier lists are beginnings
pub record Appended (e : EntryData) (v : View) (found : ℕ) (w : View) : Type 0 where
  pub view : w ≡ view_with_entry e v
  pub length_ : found ≡ length v.seen
  pub olds_ : All (λ old. IsPrefix old v.seen) v.olds
  pub own : entries_of v.host w.seen ≡ w.mine
  pub hosts : All (λ (x : EntryData). Contains w.made x.host) w.seen

-- the view's lists are beginnings of a history of the length found, which is the view's own list if it holds the whole
pub record Looked (v : View) (found : ℕ) (w : View) : Type 0 where
  pub view : w ≡ v
  pub log : List EntryData
  pub length_ : length log ≡ found
  pub whole : v.holds ≡ true → log ≡ v.seen
  pub seen_ : IsPrefix v.seen log
  pub olds_ : All (λ old. IsPrefix old log) v.olds
  pub own : v.hosted ≡ true → entries_of v.host log ≡ v.mine
  pub taken_ : All (λ (t : ℕ × List EntryData). entries_of t.0 log ≡ t.1) v.taken
  pub differ : IsDistinct nat_eq (hosts_of v.taken)

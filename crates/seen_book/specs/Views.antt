-- What a seat at the word knows, and what the six kinds of step make of it.
use Rattle.std.specs.Prelude.{ℕ, true, false, List, [], ◌∷◌, ◌++◌}
use Rattle.ckd_plain.specs.History.{EntryData}
use Rattle.seen_book.specs.declared.rule.View.{View}

-- a seat that is not used any more
abbrev pub spent : View
spent = record { holds = false; hosted = false; host = 0; seen = []; mine = []; made = []; olds = []; taken = [] }

-- a book
abbrev pub book_view : List EntryData → List ℕ → View
book_view log made = record spent { holds = true; seen = log; made = made }

-- a host's pass
abbrev pub pass_view : ℕ → List EntryData → List EntryData → View
pass_view host seen mine = record spent { hosted = true; host = host; seen = seen; mine = mine }

-- a host's seat is split off: the book's gets the host among those with a pass
abbrev pub with_made : ℕ → View → View
with_made host v = record v { made = v.made ++ host ∷ [] }

-- and the host's has seen what the book has, with no entry of its own
abbrev pub host_of : ℕ → View → View
host_of host v = pass_view host v.seen []

-- the book w is joined into the host's seat v, which keeps both lists
abbrev pub with_book : View → View → View
with_book v w = record v { holds = true; seen = w.seen; made = w.made; olds = v.seen ∷ w.seen ∷ []; taken = w.taken }

-- the entry is added
abbrev pub view_with_entry : EntryData → View → View
view_with_entry e v = record v { seen = v.seen ++ e ∷ []; mine = v.mine ++ e ∷ [] }

-- the book is split off: the host's seat keeps what it has seen
abbrev pub without_book : View → View
without_book v = pass_view v.host v.seen v.mine

-- and the book's has the rest
abbrev pub book_of : View → View
book_of v = record v { hosted = false; host = 0; mine = []; olds = [] }

-- a host's seat w is joined into the book v, for good
abbrev pub with_pass : View → View → View
with_pass v w = record v { olds = w.seen ∷ v.olds; taken = (w.host, w.mine) ∷ v.taken }

use Rattle.seen_book.proofs.calls.append.Given as goal

abbrev pub ghosts-append_entry : goal.ghosts-append_entry
ghosts-append_entry g a = record { new_entry = a.entry.now }

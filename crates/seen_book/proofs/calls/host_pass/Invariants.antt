use Rattle.seen_book.proofs.calls.host_pass.Given as goal

abbrev pub ghosts-split_host : goal.ghosts-split_host
ghosts-split_host g a = record { new_host = a.host }

use Rattle.mss_files.proofs.file_site.FileSite.over.Goals as goal

pub invariant_of-result : goal.invariant_of-result
invariant_of-result g c = λ told. c.in_ok-kept.ensures.held _

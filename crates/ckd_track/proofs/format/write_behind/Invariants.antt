use Rattle.ckd_track.proofs.format.write_behind.Given as goal

-- the block before the format
abbrev pub ghost-close_later : goal.ghost-close_later
ghost-close_later g a = g.block

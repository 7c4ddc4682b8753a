use Rattle.ckd_track.proofs.format.put_behind.Given as goal

-- the block before the format
abbrev pub ghost-write_behind : goal.ghost-write_behind
ghost-write_behind g a = g.block

use Rattle.ckd_track.proofs.format.format_at.Given as goal

-- the block before the format
abbrev pub ghost-close_gate : goal.ghost-close_gate
ghost-close_gate g a = g.block

abbrev pub ghost-put_behind : goal.ghost-put_behind
ghost-put_behind g a = g.block

abbrev pub ghost-open_gate : goal.ghost-open_gate
ghost-open_gate g a = g.block

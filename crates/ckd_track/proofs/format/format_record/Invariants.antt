use Rattle.ckd_track.proofs.format.format_record.Given as goal

-- the block that was brought
abbrev pub ghost-format_at : goal.ghost-format_at
ghost-format_at g a = g.S.Site.brought a.site.now

use Rattle.std.proofs.Common.{sym, subst}
use Rattle.mss_files.specs.FileSites.{FileSiteValue}
use Rattle.mss_files.specs.SiteBlocks.{KeepsBlock}
use Rattle.mss_files.proofs.file_site.FileSiteSite.write.Goals as goal

pub returns-in-Ok-clause-others : goal.returns-in-Ok-clause-others
returns-in-Ok-clause-others g c = λ other differ keeps.
    c.write.ensures.others other differ (subst (λ (s : FileSiteValue _). KeepsBlock s.kept other) (sym c.self.view_is) keeps)

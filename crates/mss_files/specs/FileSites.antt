-- What a clause sees of a site in files.
use Rattle.std.specs.Prelude.{ℕ}
use Rattle.mss_files.specs.declared.site_blocks.SiteBlocks.{SiteBlocks}

-- the files, the blocks that are kept, how many writes were made, and how many calls failed
pub record FileSiteValue (F : Type 0) : Type 0 where
  pub files : F
  pub kept : SiteBlocks
  pub writes : ℕ
  pub faults : ℕ

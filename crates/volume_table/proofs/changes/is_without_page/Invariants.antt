use Rattle.std.proofs.Common.{◌≢◌, ◌<◌, ℕ, Some, None, get_or}
use Rattle.volume_table.proofs.changes.is_without_page.Given as goal

abbrev pub invariant-loop-page : goal.invariant-loop-page
invariant-loop-page l = (k : ℕ) → k < l.page-index → get_or l.pages k None ≢ Some l.frame

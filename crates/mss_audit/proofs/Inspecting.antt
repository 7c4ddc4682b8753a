-- One call after another of those that only read.
use Rattle.std.proofs.Common.{◌≡◌, ℕ, ◌+◌, false, List, ◌++◌, Result, Ok, Err, refl, sym, ◌∙◌, subst}
use Rattle.mss_base.specs.Content.{Content, SiteLog, content}
use Rattle.mss_base.specs.Sites.{OnlyReads}
use Rattle.mss_base.specs.declared.site.Site.{Ghosts}
use Rattle.table_pair.proofs.SiteLemmas.{reads_then}
use Rattle.mss_audit.specs.declared.finding.Finding.{Finding}
use Rattle.mss_audit.specs.declared.finding.AuditFault.{AuditFault}
use Rattle.mss_audit.specs.declared.finding.AuditFault.TheVariants.{Memory}
use Rattle.mss_audit.specs.Listing.{joined_below}
use Rattle.mss_audit.specs.Auditing.{CountsReads, Inspects}
use Rattle.mss_audit.proofs.Joining.{joined_next}

-- what a walk keeps of its site and of its list
pub record IsListing {S : Type 0} (g : Ghosts S) (begun now : S) (start so_far : List Finding) (found : Content → List Finding) : Type 0 where
  pub list : g.tells → so_far ≡ start ++ found (content (g.told begun))
  pub devices : OnlyReads g begun now
  pub count : g.faults now ≡ g.faults begun

module _ {S : Type 0} (g : Ghosts S) where
  -- a call behind others that failed nowhere
  pub inspects_then : {T : Type 0} (begun now next : S) (result : Result T AuditFault) → OnlyReads g begun now → g.faults now ≡ g.faults begun → Inspects g now next result → Inspects g begun next result
  inspects_then begun now next result first count second = record {
    devices = reads_then g begun now next first second.devices;
    counts = subst (λ (n : ℕ). CountsReads n (g.faults next) result) count second.counts;
    works = λ never. second.works (first.sound (λ _. false) never);
  }

  -- a call ends the one that made it
  pub inspects_err : (T : Type 0) {U : Type 0} (old new : S) (e : AuditFault) (result : Result U AuditFault) → result ≡ Err e → Inspects {T = T} g old new (Err e) → Inspects g old new result
  inspects_err T old new e result is ends = subst (λ (r : Result _ AuditFault). Inspects g old new r) (sym is) (record { devices = ends.devices; counts = ends.counts; works = ends.works })

  -- memory ran out where no read had failed
  pub inspects_memory : {U : Type 0} (old new : S) (result : Result U AuditFault) → result ≡ Err Memory → OnlyReads g old new → g.faults new ≡ g.faults old → Inspects g old new result
  inspects_memory old new result is reads count = subst (λ (r : Result _ AuditFault). Inspects g old new r) (sym is) (record { devices = reads; counts = count; works = λ never. tt })

  pub inspects_ok : {U : Type 0} (old new : S) (value : U) → OnlyReads g old new → g.faults new ≡ g.faults old → Inspects g old new (Ok value)
  inspects_ok old new value reads count = record { devices = reads; counts = count; works = λ never. tt }

-- one number more, of a site whose log stayed
pub lists_next : (found : Content → ℕ → List Finding) (begun now : SiteLog) (start so_far next : List Finding) (n at : ℕ) → now ≡ begun → at ≡ n
    → so_far ≡ start ++ joined_below n (found (content begun)) → next ≡ so_far ++ found (content now) at → next ≡ start ++ joined_below (n + 1) (found (content begun))
lists_next found begun now start so_far next n at same number before added =
    joined_next (found (content begun)) start so_far next n n refl before (added ∙ (λ i. so_far ++ found (content (same i)) (number i)))

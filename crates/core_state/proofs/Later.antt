-- Later moments of a session, one after the other.
use Rattle.std.proofs.Common.{◌++◌, [], refl, sym, ◌∙◌, ap, append_assoc}
use Rattle.std.proofs.lemmas.List.{append-nil}
use Rattle.mss_base.specs.Content.{SiteLog}
use Rattle.core_state.specs.Beginning.{Continues, IsLater}
use Rattle.core_state.specs.CoreValue.{CoreData}

-- a moment is as late as itself
pub later_none : (tells : Type 0) (core : CoreData) → IsLater tells core core
later_none tells core = record {
  beginning = record { config = refl; first_write = refl; first_faults = refl; handed = λ rows. refl };
  grown = λ t. ([], (λ i. record { start = core.site.told.start; log = sym (append-nil core.site.told.log) i }));
}

continues_then : (old mid new : SiteLog) → Continues old mid → Continues mid new → Continues old new
continues_then old mid new first then_ = (
  first.0 ++ then_.0,
  then_.1 ∙ ap (λ (s : SiteLog). record s { log = s.log ++ then_.0 }) first.1
      ∙ (λ i. record { start = old.start; log = append_assoc old.log first.0 then_.0 i }),
)

pub later_then : (tells : Type 0) (old mid new : CoreData) → IsLater tells old mid → IsLater tells mid new → IsLater tells old new
later_then tells old mid new first then_ = record {
  beginning = record {
    config = then_.beginning.config ∙ first.beginning.config;
    first_write = then_.beginning.first_write ∙ first.beginning.first_write;
    first_faults = then_.beginning.first_faults ∙ first.beginning.first_faults;
    handed = λ rows. then_.beginning.handed rows ∙ first.beginning.handed rows;
  };
  grown = λ t. continues_then old.site.told mid.site.told new.site.told (first.grown t) (then_.grown t);
}

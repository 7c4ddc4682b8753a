use Rattle.std.proofs.Common.{List, All, subst}
use Rattle.ckd_plain.specs.History.{EntryData}
use Rattle.seen_book.specs.Books.{Begins, AreOfThese}
use Rattle.mss_run.proofs.shared.Shared.close.Goals as goal

pub returns-clause-hosts : goal.returns-clause-hosts
returns-clause-hosts g c = subst (λ (log : List EntryData). AreOfThese g.N.Name.hosts log) c.into_parts-core.ensures.history c.close.ensures.hosts

pub returns-clause-passes : goal.returns-clause-passes
returns-clause-passes g c = subst (λ (log : List EntryData). All (Begins log) c.args.passes.items) c.into_parts-core.ensures.history c.close.ensures.passes

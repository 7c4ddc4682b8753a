use Rattle.std.proofs.Common.{ap, subst}
use Rattle.seen_book.specs.Books.{AreOfThese}
use Rattle.seen_book.proofs.types.HostPass.host.Goals as goal

pub returns-clause-hosts : goal.returns-clause-hosts
returns-clause-hosts g c = subst (AreOfThese g.N.Name.hosts) (ap (λ p. p.seen) c.self.view_is) c.self.invariant.entries

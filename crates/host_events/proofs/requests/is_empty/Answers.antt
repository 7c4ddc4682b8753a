use Rattle.std.proofs.Common.{◌∙◌, not, ap, sym}
use Rattle.mss_base.proofs.FirstFacts.{none_is}
use Rattle.host_events.proofs.AloneFacts.{none_first}
use Rattle.host_events.proofs.requests.is_empty.Goals as goal

pub returns : goal.returns
returns c = λ none. none_first c.args.requests.now (sym c.nth.ensures ∙ none_is c.nth.result (c.is_none.ensures ∙ ap not none))

use Rattle.channel_commands.specs.Data.{done}
use Rattle.core_state.specs.HostEvents.{replied}
use Rattle.host_events.proofs.CauseFacts.{has_cause, answers_each, replies_plainly}
use Rattle.host_events.proofs.law.answers_have_their_causes.Goals as goal

pub returns-clause-forth : goal.returns-clause-forth
returns-clause-forth g c = λ core h call told left kept event. has_cause g.S.Site.tells core kept h left call told event

pub returns-clause-back : goal.returns-clause-back
returns-clause-back g c = λ core h call told left kept event. answers_each g.S.Site.tells core kept h left call told event

pub returns-clause-plain : goal.returns-clause-plain
returns-clause-plain g c = λ core h call index status bytes left kept event tells. replies_plainly g.S.Site.tells core kept h left tells call (replied index (done status bytes)) event

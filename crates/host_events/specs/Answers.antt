-- What an answer to a host stands for.
use Rattle.std.specs.Prelude.{ℕ}
use Rattle.mss_base.specs.declared.site.Site.{Ghosts}
use Rattle.channel_commands.specs.Views.{call_of, reply_of}
use Rattle.channel_commands.specs.declared.call.Call.{Call}
use Rattle.core_state.specs.CoreValue.{CoreValue, seen_core}
use Rattle.core_state.specs.HostEvents.{HostDoes}
use Rattle.core_state.specs.HostEvents.{HostTold, replied, marked, waits, halts, at_limit}
use Rattle.core_state.specs.HostEvents.{no_memory}
use Rattle.core_state.specs.declared.rule.HostRule.{HostRule}
use Rattle.host_events.specs.declared.answer.HostAnswer.{HostAnswer}
use Rattle.host_events.specs.declared.answer.HostAnswer.TheVariants as answer

abbrev pub told_of : HostAnswer → HostTold
told_of (answer.Replied index reply) = replied index (reply_of reply)
told_of answer.Marked = marked
told_of (answer.Wait waiting) = waits waiting
told_of (answer.Stopped fault) = halts fault
told_of answer.CommandLimit = at_limit
told_of answer.Memory = no_memory

-- what a call comes to by a rule: the answer, and the core after it, of whose site only so much is
-- seen
abbrev pub HostStep : {S C : Type 0} → Ghosts S → CoreValue S C → ℕ → Call → HostRule → HostAnswer
    → CoreValue S C → Type 0
HostStep g old host call rule answer new =
    HostDoes g.tells (seen_core g old) host (call_of call) rule (told_of answer) (seen_core g new)

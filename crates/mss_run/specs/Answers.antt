-- What a call under the lock leaves of its pass.
use Rattle.std.specs.Prelude.{◌≡◌, ◌⊎◌, ℕ, List, [], ◌∷◌, ◌++◌, length, Option, Some, None}
use mathlib.Core.List.{IsPrefix}
use Rattle.channel_commands.specs.Data.{CallData, ReplyData, stopped}
use Rattle.ckd_plain.specs.History.{EntryData, IsStopped}
use Rattle.seen_book.specs.Books.{PassData}
use Rattle.core_state.specs.declared.session.TheConstants.{ENTRY_LIMIT}
use Rattle.core_state.specs.HostEvents.{HostTold, replied, marked, waits, halts, at_limit, no_memory}
use Rattle.host_events.specs.Answers.{told_of}
use Rattle.host_events.specs.declared.answer.HostAnswer.{HostAnswer}

-- the pass has seen more, which ends with this entry of its host; its own entries got this one
pub record Grows (call : CallData) (reply : ReplyData) (index : ℕ) (p q : PassData) : Type 0 where
  pub between : List EntryData
  pub entry : EntryData
  pub host_ : (entry.host ≡ p.host) × (q.host ≡ p.host)
  pub call_ : entry.call ≡ call
  pub reply_ : entry.reply ≡ reply
  pub seen_ : q.seen ≡ (p.seen ++ between) ++ entry ∷ []
  pub index_ : index ≡ length (p.seen ++ between)
  pub mine_ : q.mine ≡ p.mine ++ entry ∷ []

-- the call stopped the core: its entry, the last that the pass has seen, keeps the fault
pub record Stops (call : CallData) (fault : ℕ) (p q : PassData) : Type 0 where
  pub index : ℕ
  pub grows : Grows call stopped index p q
  pub fault_ : grows.entry.fault ≡ Some fault

-- the pass has seen a full history
pub record IsFull (p q : PassData) : Type 0 where
  pub host_ : q.host ≡ p.host
  pub mine_ : q.mine ≡ p.mine
  pub seen_ : IsPrefix p.seen q.seen
  pub length_ : length q.seen ≡ ENTRY_LIMIT

-- a reply is an entry that the pass has seen; a stop may be one, with the fault that is told; at the
-- limit it has seen all; else it is as it was
abbrev pub Answered : CallData → PassData → HostTold → PassData → Type 0
Answered call p (replied index reply) q = Grows call reply index p q × (IsStopped reply → ⊥)
Answered call p (halts fault) q = (q ≡ p) ⊎ Stops call fault p q
Answered call p at_limit q = IsFull p q
Answered call p marked q = q ≡ p
Answered call p (waits why) q = q ≡ p
Answered call p no_memory q = q ≡ p

-- where the run has ended, no event was done
abbrev pub Stepped : CallData → PassData → Option HostAnswer → PassData → Type 0
Stepped call p None q = q ≡ p
Stepped call p (Some answer) q = Answered call p (told_of answer) q

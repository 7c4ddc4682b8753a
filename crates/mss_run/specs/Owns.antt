-- Which places of a history are a host's own, and what it was told there.
use Rattle.std.specs.Prelude.{◌≡◌, ◌⊎◌, ◌<◌, ◌≤◌, ℕ, ◌+◌, ◌==◌, Bool, true, false, ◌&&◌, not, List, [], ◌∷◌, ◌++◌, filter, map, Option, Some, None, if◌then◌else◌}
use Rattle.channel_commands.specs.Data.{CallData, ReplyData, stopped}
use Rattle.channel_commands.specs.Views.{reply_of}
use Rattle.channel_commands.specs.declared.call.Reply.{Reply}
use Rattle.channel_program.specs.Script.{Exchange}
use Rattle.ckd_plain.specs.History.{EntryData, IsStopped}
use Rattle.seen_book.specs.Books.{PassData}
use Rattle.seen_book.specs.Entries.{entries_of}
use Rattle.host_events.specs.declared.answer.HostAnswer.{HostAnswer}
use Rattle.host_events.specs.declared.answer.HostAnswer.TheVariants as answer
use Rattle.mss_run.specs.declared.host.Told.{Told}
use Rattle.mss_run.specs.declared.host.Attempt.{Attempt}
use Rattle.mss_run.specs.declared.host.Attempt.TheVariants as attempt
use Rattle.mss_run.specs.Answers.{Grows, IsFull, Stops}

-- ---- what a host was told

-- a host isn't told of a stop: that call counts as unanswered
abbrev pub is_stop : ReplyData → Bool
is_stop stopped = true
is_stop _ = false

abbrev pub is_heard : ℕ → EntryData → Bool
is_heard h e = (e.host == h) && not (is_stop e.reply)

-- the entries that a host was told of, in order
abbrev pub heard_by : ℕ → List EntryData → List EntryData
heard_by h log = filter (is_heard h) log

-- their places, counted from k on
abbrev pub places_from : ℕ → ℕ → List EntryData → List ℕ
places_from h k [] = []
places_from h k (e ∷ es) =
    if is_heard h e then k ∷ places_from h (k + 1) es else places_from h (k + 1) es

abbrev pub places_of : ℕ → List EntryData → List ℕ
places_of h log = places_from h 0 log

-- their calls and replies
abbrev pub exchange : EntryData → Exchange
exchange e = (e.call, e.reply)

abbrev pub exchanges_of : ℕ → List EntryData → List Exchange
exchanges_of h log = map exchange (heard_by h log)

-- as far as the host's pass has seen
abbrev pub exchanges_by : PassData → List Exchange
exchanges_by p = exchanges_of p.host p.seen

-- what a host asked, in order, and what came of it: its entries, one that stopped the core included
abbrev pub asked_of : ℕ → List EntryData → List Exchange
asked_of h log = map exchange (entries_of h log)

-- as far as the host's pass has its own entries
abbrev pub asked_by : PassData → List Exchange
asked_by p = map exchange p.mine

-- numbers that rise, from one on and below another
abbrev pub Rise : ℕ → ℕ → List ℕ → Type 0
Rise from below [] = Unit {0}
Rise from below (k ∷ ks) = (from ≤ k) × (k < below) × Rise (k + 1) below ks

-- ---- what comes of a call

-- it was left unanswered: its pass is as it was, or has seen that it stopped the core, or 4,096
-- entries
abbrev pub IsLeft : CallData → PassData → PassData → Type 0
IsLeft call p q = (q ≡ p) ⊎ (((fault : ℕ) × Stops call fault p q) ⊎ IsFull p q)

abbrev pub IsReplied : CallData → PassData → Told → PassData → Type 0
IsReplied call p t q =
    Grows call (reply_of t.reply) t.index p q × (IsStopped (reply_of t.reply) → ⊥)

-- one attempt
abbrev pub Attempted : CallData → PassData → Attempt → PassData → Type 0
Attempted call p attempt.Again q = q ≡ p
Attempted call p (attempt.Replied t) q = IsReplied call p t q
Attempted call p attempt.Halted q = IsLeft call p q

-- what it comes to, by the answer of its event, and by whether what was done for a recorder lets the
-- run go on: a mark and a wait are tried again, and nothing else
abbrev pub attempt_of : Option HostAnswer → Bool → Attempt
attempt_of (Some (answer.Replied index reply)) on =
    attempt.Replied (record { index = index; reply = reply })
attempt_of (Some answer.Marked) on = attempt.Again
attempt_of (Some (answer.Wait why)) true = attempt.Again
attempt_of _ on = attempt.Halted

-- attempts, until it is replied or the run has ended
abbrev pub Called : CallData → PassData → Option Told → PassData → Type 0
Called call p (Some t) q = IsReplied call p t q
Called call p None q = IsLeft call p q

-- its host was told of one more exchange
pub record IsAnswered (call : CallData) (reply : ReplyData) (p q : PassData) : Type 0 where
  pub host_ : q.host ≡ p.host
  pub told : exchanges_by q ≡ exchanges_by p ++ (call, reply) ∷ []
  pub asked : asked_by q ≡ asked_by p ++ (call, reply) ∷ []

-- it was told of none; the call stopped the core, or added nothing
pub record IsUnanswered (call : CallData) (p q : PassData) : Type 0 where
  pub host_ : q.host ≡ p.host
  pub told : exchanges_by q ≡ exchanges_by p
  pub asked : (asked_by q ≡ asked_by p) ⊎ (asked_by q ≡ asked_by p ++ (call, stopped) ∷ [])

abbrev pub Makes : CallData → PassData → Option Reply → PassData → Type 0
Makes call p (Some reply) q = IsAnswered call (reply_of reply) p q
Makes call p None q = IsUnanswered call p q

-- What the command does of its words on an input, a site and an output.
use Rattle.std.specs.Prelude.{◌≡◌, ℕ, List, [], Option}
use Rattle.core_state.specs.declared.session.Session.{Session}
use Rattle.command_words.specs.declared.command.Command.{Command}
use Rattle.mss_base.specs.Counts.{Rises}
use Rattle.mss_files.specs.Output.{Input, AlwaysKnown, known_bytes}
use Rattle.mss_files.specs.Output as file
use Rattle.mss_top.specs.Obeying.{Does, IsWhole, Parties}
use Rattle.mss_top.specs.Serial.{Chooses, Output, until}
use Rattle.mss_top.specs.declared.status.Status.{Status}
use Rattle.mss_top.specs.declared.status.Status.TheVariants.{OutputFault}
use Rattle.session_report.specs.Parties.{Stream, party_between}

-- The last write, of a run whose status is due: nothing waits any more, or the output failed.
pub data IsFlushed (due : Status) (before now : ℕ) (waiting : List ℕ) (told : Status)
    : Type 0 where
  whole : told ≡ due → waiting ≡ [] → now ≡ before → IsFlushed due before now waiting told
  broken : told ≡ OutputFault → Rises before now → IsFlushed due before now waiting told

-- the chooser of the command, the least recently touched
abbrev pub least_recent : Chooses
least_recent candidates place = place ≡ 0

-- the parties of a call, with the output up to a moment
abbrev pub up_to : Parties → Output → Parties
up_to p mid = record p { sink = until p.sink mid }

-- an input, between two of its states
abbrev pub input_of : {R : Type 0} → (R → Option (List ℕ)) → Input → Input → Stream
input_of remaining old new = party_between (AlwaysKnown remaining) (λ (input : Input). known_bytes input.left)
    (λ (input : Input). input.faults) old new

-- an output, between two of its states
abbrev pub output_of : {W : Type 0} → (W → Option (List ℕ)) → file.Output → file.Output → Stream
output_of contents old new = party_between (AlwaysKnown contents)
    (λ (output : file.Output). known_bytes output.contents)
    (λ (output : file.Output). output.faults) old new

-- What the words ask for was done, and what that put was written. Input, devices and output are seen
-- from before the call to behind the last write, with the status and the session that are answered
-- then. `other` is what the closure may answer by which a comparison chooses last.
pub record IsDone (asked : Option Command) (other : Chooses) (p : Parties) (waiting : List ℕ)
    (told : Status) (session : Option Session) : Type 0 where
  -- the output behind the call, and the status of the call
  pub put : Output
  pub due : Status
  pub does : Does asked least_recent other (up_to p put) due session
  pub whole : IsWhole asked (up_to p put) due
  pub flushed : IsFlushed due put.faults p.sink.faults_now waiting told
  -- the last write puts nothing more
  pub kept : p.sink.tells → p.sink.now ≡ put.bytes

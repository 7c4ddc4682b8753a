-- What a command is answered.
use Rattle.std.specs.Prelude.{◌≡◌, ◌≤◌, ℕ, ◌+◌, Bool, false, List, length, Some, Result, IfOk, IfErr, OnOk, OnErr}
use Rattle.mss_base.specs.Content.{Content, SiteLog, content, Settles}
use Rattle.mss_base.specs.Sites.{OnlyReads, MayWrite}
use Rattle.mss_base.specs.declared.place.UnitNo.{UnitNo}
use Rattle.mss_base.specs.declared.site.Site.{Ghosts}
use Rattle.channel_commands.specs.Codes.{is_write}
use Rattle.channel_commands.specs.Views.{reply_of}
use Rattle.channel_commands.specs.declared.call.Reply.{Reply}
use Rattle.channel_commands.specs.declared.command.Command.{Command}
use Rattle.ckd_track.specs.Data.{RecordData}
use Rattle.ckd_track.specs.Track.{reading, reading_of}
use Rattle.mss_base.specs.Geometry.{format_items}
use Rattle.ckd_plain.specs.declared.host.HostState.{HostState}
use Rattle.ckd_plain.specs.Effects.{prior_number}
use Rattle.ckd_plain.specs.Plain.{Answer, with_open_chain, command_answer, IsDone, KeepsChain}
use Rattle.ckd_plain.specs.Views.{Responds}
use Rattle.track_engine.specs.declared.place.CylinderPlace.{CylinderPlace}
use Rattle.track_engine.specs.declared.place.EngineFault.{EngineFault}
use Rattle.track_engine.specs.Faults.{FailsBy, HasUnitCheck, IsNoFailure, IsNoFailedWrite}
use Rattle.track_engine.specs.Tracks.{tracks_at, tracks_on, AreTracksOn}
use Rattle.track_engine.specs.Writing.{WritesTrack, LeavesGatesIn, IsOfNothing, most_writes}

-- the plain machine's answer to a command that passed its checks, on the tracks of a cylinder's blocks
abbrev pub ran : Content → UnitNo → ℕ → HostState → Command → List ℕ → Bool → Answer
ran c unit first host command argument chained =
    command_answer (tracks_at c unit first) (with_open_chain host) command argument chained

-- what is asked: a command with its bytes, and whether a further one is chained behind it, by a host on the blocks of
-- its cylinder
pub record Asked : Type 0 where
  pub command : Command
  pub argument : List ℕ
  pub chained : Bool
  pub host : HostState
  pub place : CylinderPlace

abbrev pub asked_command : Command → List ℕ → Bool → HostState → CylinderPlace → Asked
asked_command command argument chained host place =
    record { command = command; argument = argument; chained = chained; host = host; place = place }

abbrev pub ran_for : Asked → SiteLog → Answer
ran_for a s = ran (content s) a.place.unit a.place.first_block a.host a.command a.argument a.chained

-- an update of a record that has no bytes to update
abbrev pub AsksNothing : Asked → SiteLog → Type 0
AsksNothing a s = IsOfNothing a.command (prior_number (with_open_chain a.host).prior) (tracks_on s a.place a.host.head)

-- What a command on a cylinder's blocks does, by the log of its site: the reply and the host that is left are the
-- plain machine's; whatever the outcome, only the block of the host's head was written, in steps that a stop may
-- leave, and in the end it is the new track, and behind a record that was formatted no gate is open. When the reply
-- comes, all that was written is firm.
pub record RunsCommand (a : Asked) (old new : SiteLog) (result : Result Reply EngineFault)
    (left : HostState) : Type 0 where
  pub answer : IfOk result (Responds (ran_for a old) left)
  pub writes : WritesTrack a.command (with_open_chain a.host) a.place.unit a.place.first_block old new
      (ran_for a old).written
  pub exact : OnOk result ((track : List RecordData) → (ran_for a old).written ≡ Some track
      → reading (content new a.place.unit (a.place.first_block + a.host.head)) ≡ reading_of track)
  pub gates : OnOk result ((track : List RecordData) → (ran_for a old).written ≡ Some track
      → LeavesGatesIn a.command (record { unit = a.place.unit; block = a.place.first_block + a.host.head })
      (prior_number (with_open_chain a.host).prior + 1) old new)
  pub firm : OnOk result (Settles old new)
  pub still_tracks : AreTracksOn new a.place

-- what a command leaves of its host, whatever the site tells
pub record LeavesHost (chained : Bool) (old new : HostState) (result : Result Reply EngineFault) : Type 0 where
  pub done_ : IfOk result (λ reply. IsDone (reply_of reply))
  pub chain : IfOk result (λ reply. KeepsChain chained (reply_of reply) new)
  pub mounted_ : new.mounted ≡ old.mounted
  pub stays : OnErr result (new ≡ old)

-- What a command leaves of its devices, whatever the site tells. An update makes `update_items` items of the log at
-- most, a write of count, key and data `format_items`; a command that is no write, or ends with unit check, reads at
-- most. The count of faults rises where a call failed, and the fault says which; where no call may fail, none did.
pub record LeavesDevices {S : Type 0} (g : Ghosts S) (c : Command) (unit : UnitNo) (old new : S)
    (result : Result Reply EngineFault) : Type 0 where
  pub devices : MayWrite g format_items old new
  pub few : g.tells → length (g.told new).log ≤ length (g.told old).log + most_writes c
  pub looks : is_write c ≡ false → OnlyReads g old new
  pub unwritten : IfOk result (λ reply. HasUnitCheck (reply_of reply) → OnlyReads g old new)
  pub same : OnOk result (g.faults new ≡ g.faults old)
  pub cause : IfErr result (FailsBy g (is_write c) old new)
  pub works : (but : UnitNo → Bool) → g.never_fails_but old but → but unit ≡ false → IfErr result IsNoFailure
  pub only_reads_fail : (but : UnitNo → Bool) → g.never_fails_but old but → IfErr result IsNoFailedWrite

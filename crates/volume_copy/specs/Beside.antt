-- A core, and the copier beside it, if a copy is asked for.
use Rattle.std.specs.Prelude.{◌≡◌, ◌≤◌, ℕ, min, Bool, true, false, List, length, Option, MatchOption}
use Rattle.std.specs.Option.{IsSomeAnd, option_map}
use Rattle.mss_base.specs.declared.site.Site.{Ghosts}
use Rattle.channel_commands.specs.Data.{CallData}
use Rattle.ckd_plain.specs.History.{EntryData}
use Rattle.core_state.specs.Chains.{Reading}
use Rattle.core_state.specs.CoreValue.{CoreValue, seen_core}
use Rattle.core_state.specs.HostEvents.{HostEvent, HostTold}
use Rattle.volume_copy.specs.declared.copier.CopyState.{CopyState}
use Rattle.volume_copy.specs.declared.copier.CopyState.TheVariants.{Armed, Taking}
use Rattle.volume_copy.specs.Copies.{AskedCopy, CopyData, FailedIn, IsOnTime}
use Rattle.volume_copy.specs.Copies.{StandsFor, asked_by}
use Rattle.volume_copy.specs.Steps.{ReadsCore, TakesNextFrom}

pub record CopiedValue (S C : Type 0) : Type 0 where
  pub core : CoreValue S C
  pub copier : Option CopyData

-- one whose time hasn't passed, and that hasn't begun
pub record IsReadyFor (history : List EntryData) (c : CopyData) : Type 0 where
  pub armed : c.state ≡ Armed
  pub early : length history ≤ c.after_

-- it stands for the session of the core, and is on time
pub record StandsBeside {S C : Type 0} (g : Ghosts S) (v : CoreValue S C) (c : CopyData) : Type 0
  where
    pub stands : g.tells → StandsFor (g.told v.site) c v
    pub time : IsOnTime c v.history
    pub failed : FailedIn v (g.faults v.site) c.state

-- behind the session: all of it is taken, there was no such volume, or a read failed
abbrev pub IsFinished : CopyState → Type 0
IsFinished Armed = ⊥
IsFinished Taking = ⊥
IsFinished _ = Unit {0}

pub record IsCopied {S C : Type 0} (g : Ghosts S) (v : CoreValue S C) (c : CopyData) : Type 0 where
  pub stands : g.tells → StandsFor (g.told v.site) c v
  -- its point is the one that was asked for, or the end of a shorter history
  pub point_ : c.point ≡ min c.after_ (length v.history)
  pub failed : FailedIn v (g.faults v.site) c.state
  pub finished : IsFinished c.state

-- which copy is asked for beside a core, if one is
abbrev pub asked_copy : Option CopyData → Option AskedCopy
asked_copy copier = option_map asked_by copier

-- an event of a host, behind a read of the copier, if there is one
abbrev pub HostEventBeside : {S C : Type 0} → Ghosts S → Bool → CoreValue S C → ℕ → CallData
    → HostTold → CoreValue S C → Type 0
HostEventBeside g copies old host call told new =
    Reading copies g.tells (seen_core g old)
    (λ read. HostEvent g.tells read host call told (seen_core g new))

-- without a copier nothing happens; with one the core is read at most
abbrev pub ReadsBeside : {S C : Type 0} → Ghosts S → Bool → CoreValue S C → CoreValue S C → Type 0
ReadsBeside g false old new = new ≡ old
ReadsBeside g true old new = ReadsCore g old new

-- with a copier the next track of the copy is taken, or its read fails, and the copy with it;
-- without one nothing changes
abbrev pub TakesBeside : {S C : Type 0} → Ghosts S → CopiedValue S C → CopiedValue S C → Type 0
TakesBeside g old new =
    MatchOption old.copier (new ≡ old)
    (λ c. IsSomeAnd new.copier (λ d. TakesNextFrom g old.core new.core c d))

-- Who is in a run, and what actors that find nothing to do leave as it was.
use Rattle.std.specs.Prelude.{◌≡◌, ◌⊎◌, ℕ, Bool, true, false, replicate, slice_set, Option, Some, None}
use Rattle.std.specs.List.{list_any}
use Rattle.mss_base.specs.declared.site.Site.{Ghosts}
use Rattle.core_state.specs.declared.rule.WorkAnswer.{WorkAnswer}
use Rattle.core_state.specs.declared.rule.WorkAnswer.TheVariants.{Idle}
use Rattle.volume_copy.specs.Beside.{CopiedValue, TakesBeside}
use Rattle.volume_copy.specs.declared.copier.CopyState.{CopyState}
use Rattle.volume_copy.specs.declared.copier.CopyState.TheVariants.{Armed, Taking}
use Rattle.mss_run.specs.declared.held.CopyTurn.{CopyTurn}
use Rattle.mss_run.specs.declared.held.CopyTurn.TheVariants as turn
use Rattle.mss_run.specs.declared.present.Presence.{Presence}

-- before any actor is in
abbrev pub nobody : Presence
nobody = record { hosts = replicate 9 false; workers = replicate 8 false; ended = false }

-- a host is counted in or out, a recorder's worker is, the run ends
abbrev pub with_host : ℕ → Bool → Presence → Presence
with_host host is_in p = record p { hosts = slice_set p.hosts host is_in }

abbrev pub with_worker : ℕ → Bool → Presence → Presence
with_worker recorder is_in p = record p { workers = slice_set p.workers recorder is_in }

abbrev pub ended_presence : Presence → Presence
ended_presence p = record p { ended = true }

-- some host is in
abbrev pub has_hosts : Presence → Bool
has_hosts p = list_any (λ b. b) p.hosts

-- nothing was done
abbrev pub IsRest : Option WorkAnswer → Type 0
IsRest None = Unit {0}
IsRest (Some Idle) = Unit {0}
IsRest _ = ⊥

-- A worker's turn: it is told to leave, and counted out, only where the run is over or no host is
-- in. While the run goes on it stays: idle only where some host is in.
abbrev pub Turns : ℕ → Presence → Option WorkAnswer → Presence → Type 0
Turns recorder old None new =
    ((old.ended ≡ true) ⊎ (has_hosts old ≡ false)) × (new ≡ with_worker recorder false old)
Turns recorder old (Some Idle) new =
    (old.ended ≡ false) × (has_hosts old ≡ true) × (new ≡ old)
Turns recorder old (Some answer) new = (old.ended ≡ false) × (new ≡ old)

-- A copier's turn: it goes on only while the run does and some host is in, and waits only where its
-- copy hasn't begun. It is told to leave only where the run is over, no host is in, nothing is left
-- to take, or memory is wanting.
abbrev pub CopyTurns : Presence → CopyTurn → Option CopyState → Type 0
CopyTurns p turn.Took copy = (p.ended ≡ false) × (has_hosts p ≡ true) × (copy ≡ Some Taking)
CopyTurns p turn.Waits copy = (p.ended ≡ false) × (has_hosts p ≡ true) × (copy ≡ Some Armed)
CopyTurns p turn.Leaves copy =
    (p.ended ≡ true)
    ⊎ ((has_hosts p ≡ false) ⊎ ((copy ≡ Some Armed → ⊥) × (copy ≡ Some Taking → ⊥)))
CopyTurns p turn.Lacks copy = Unit {0}

-- What it takes in its turn: the next track, while the run goes on and some host is in. Else, and
-- where memory is wanting, nothing changes.
abbrev pub TakesInTurn : {S C : Type 0} → Ghosts S → Presence → CopyTurn → CopiedValue S C
    → CopiedValue S C → Type 0
TakesInTurn g p turn.Leaves old new =
    (((p.ended ≡ true) ⊎ (has_hosts p ≡ false)) × (new ≡ old)) ⊎ TakesBeside g old new
TakesInTurn g p turn.Lacks old new = new ≡ old
TakesInTurn g p _ old new = TakesBeside g old new

-- A command on the blocks of a staged cylinder.
use Rattle.std.specs.Prelude.{◌≡◌, ◌⊎◌, ◌≤◌, ◌<◌, ℕ, ◌/◌, Bool, true, IsTrue, List, Some, Ok}
use Rattle.mss_base.specs.Places.{frame_block}
use Rattle.mss_base.specs.declared.place.BlockPlace.{BlockPlace}
use Rattle.channel_commands.specs.declared.command.Command.{Command}
use Rattle.channel_commands.specs.Codes.{is_write}
use Rattle.ckd_plain.specs.Plain.{with_open_chain}
use Rattle.ckd_plain.specs.Checks.{admitted_command}
use Rattle.ckd_plain.specs.Effects.{is_data}
use Rattle.volume_table.specs.Row.{RowValue, frame_of, state_of}
use Rattle.fault_queue.specs.declared.queue.Request.{Request}
use Rattle.fault_queue.specs.declared.queue.RequestState.TheVariants.{Moving}
use Rattle.core_state.specs.CoreValue.{CoreValue}
use Rattle.core_state.specs.Pins.{host_at, owns}
use Rattle.volume_table.specs.Listed.{row_in_list}
use Rattle.fault_queue.specs.Requests.{request_of}

-- a host's cylinder stands in a frame
pub record IsStagedAt {S C : Type 0} (v : CoreValue S C) (h : ℕ) (volume frame : ℕ) (bind : Bool)
    (r : RowValue) : Type 0 where
  pub mounted : (host_at v.hosts h).mounted ≡ Some (volume, bind)
  pub row : row_in_list v.rows volume ≡ Some r
  pub frame_ : frame_of r ((host_at v.hosts h).cylinder / 8) ≡ Some frame
  pub staged : 2 ≤ state_of r (host_at v.hosts h).cylinder
  pub at_most : state_of r (host_at v.hosts h).cylinder ≤ 4
  pub low : (host_at v.hosts h).cylinder < 404
  pub low_head : (host_at v.hosts h).head < 19

-- no other host owns the volume that a host has mounted
abbrev pub IsNotBusy : {S C : Type 0} → CoreValue S C → ℕ → Type 0
IsNotBusy v h =
    (volume : ℕ) (bind : Bool) → (host_at v.hosts h).mounted ≡ Some (volume, bind) → (other : ℕ)
    → owns v.hosts v.requests other volume ≡ true → other ≡ h

-- no task works for a host
abbrev pub IsNotAwaited : {S C : Type 0} → CoreValue S C → ℕ → Type 0
IsNotAwaited v h = (q : Request) → request_of v.requests h ≡ Some q → q.state ≡ Moving → ⊥

-- a search, read or write that passes the checks, on a cylinder that stands in a frame from this
-- block on; for a write the cylinder is changed
pub record MayRun {S C : Type 0} (v : CoreValue S C) (h : ℕ) (code : ℕ) (argument : List ℕ)
    (c : Command) (first : BlockPlace) : Type 0 where
  pub volume : ℕ
  pub frame : ℕ
  pub bind : Bool
  pub r : RowValue
  pub admits : admitted_command (with_open_chain (host_at v.hosts h)) code argument ≡ Ok c
  pub data_ : is_data c ≡ true
  pub at : IsStagedAt v h volume frame bind r
  pub changed : IsTrue (is_write c) → state_of r (host_at v.hosts h).cylinder ≡ 4
  pub first_ : first ≡ frame_block frame (host_at v.hosts h).cylinder 0

-- a write that passes the checks, on a cylinder that stands in a frame and isn't changed yet
pub record MayMark {S C : Type 0} (v : CoreValue S C) (h : ℕ) (code : ℕ) (argument : List ℕ)
    (volume : ℕ) : Type 0 where
  pub c : Command
  pub bind : Bool
  pub r : RowValue
  pub admits : admitted_command (with_open_chain (host_at v.hosts h)) code argument ≡ Ok c
  pub write_ : is_write c ≡ true
  pub mounted : (host_at v.hosts h).mounted ≡ Some (volume, bind)
  pub row : row_in_list v.rows volume ≡ Some r
  pub staged : (state_of r (host_at v.hosts h).cylinder ≡ 2)
      ⊎ (state_of r (host_at v.hosts h).cylinder ≡ 3)
  pub low : (host_at v.hosts h).cylinder < 404

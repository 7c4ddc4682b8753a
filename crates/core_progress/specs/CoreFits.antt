-- What keeps recorders and hosts going: what is true of a core's requests, tasks, frames and
-- cartridges at every moment.
use Rattle.std.specs.Prelude.{◌≡◌, ◌⊎◌, ◌≤◌, ◌<◌, ℕ, nat_eq, true, false, Some, None, IsSome}
use Rattle.std.specs.List.{All, IsDistinct, Contains}
use Rattle.volume_table.specs.Listed.{row_in_list}
use Rattle.shown_volumes.specs.Sound.{frame_in}
use Rattle.fault_queue.specs.declared.queue.Request.{Request}
use Rattle.fault_queue.specs.declared.queue.RequestState.TheVariants.{Queued, Moving, Ready}
use Rattle.fault_queue.specs.Requests.{request_of, IsOnce}
use Rattle.transfers.specs.declared.transfer.Transfer.{Transfer}
use Rattle.transfers.specs.declared.transfer.TransferKind.TheVariants.{StageBlank, StageCartridge}
use Rattle.transfers.specs.declared.transfer.TransferKind.TheVariants.{Destage}
use Rattle.transfers.specs.Dues.{due_state}
use Rattle.cartridge_store.specs.declared.store.Place.TheVariants.{Recorder}
use Rattle.cartridge_store.specs.Places.{place_of, home_of}
use Rattle.core_state.specs.declared.task.Task.{Task}
use Rattle.core_state.specs.CoreValue.{CoreValue}
use Rattle.core_state.specs.IsCore.{IsPlaced}
use Rattle.core_state.specs.Pins.{host_at, page_of, asked_page, owner_at, state_in, owns}
use Rattle.core_state.specs.Pins.{is_moving, is_volume_bound}
use Rattle.core_state.specs.WorkRules.{task_of, held_in, cartridge_of}

module _ {S C : Type 0} (core : CoreValue S C) where
  abbrev pub HasTask : ℕ → Task → Type 0
  HasTask recorder task = task_of core recorder ≡ Some task

  abbrev pub HasRequest : ℕ → Request → Type 0
  HasRequest h r = request_of core.requests h ≡ Some r

  -- ---- requests

  pub record RequestsFit : Type 0 where
    -- no host has two
    pub single : IsOnce core.requests
    -- each is on the volume that its host has mounted, and on the cylinder where it stands
    pub placed : (h : ℕ) (r : Request) → HasRequest h r → IsPlaced (host_at core.hosts h) r
    -- and that volume has a row
    pub there : (h : ℕ) (r : Request) → HasRequest h r → IsSome (row_in_list core.rows r.volume)
    -- at most one host owns a volume
    pub alone : (volume h k : ℕ) → owns core.hosts core.requests h volume ≡ true
        → owns core.hosts core.requests k volume ≡ true → h ≡ k
    -- a Ready one's cylinder is staged; that of one that waits, or is served, isn't
    pub staged : (h : ℕ) (r : Request) → HasRequest h r → r.state ≡ Ready
        → 2 ≤ state_in core.rows r.volume r.cylinder
    pub unstaged : (h : ℕ) (r : Request) → HasRequest h r
        → (r.state ≡ Queued) ⊎ (r.state ≡ Moving)
        → state_in core.rows r.volume r.cylinder < 2

  -- ---- tasks

  -- a transfer under way is between the task's frame and the cylinder's cartridge, and the
  -- cylinder's state is still that from which it began
  pub record IsUnderWay (task : Task) (t : Transfer) : Type 0 where
    pub frame_ : t.frame ≡ task.frame
    pub cartridge_ : t.cartridge ≡ cartridge_of core.rows t.volume t.cylinder
    pub state : state_in core.rows t.volume t.cylinder ≡ due_state t.kind
    pub upto : t.next ≤ 19

  -- a cylinder of the victim's page goes to its cartridge
  pub record IsDestage (page : ℕ × ℕ) (t : Transfer) : Type 0 where
    pub kind_ : t.kind ≡ Destage
    pub volume_ : t.volume ≡ page.0
    pub page_ : page_of t.cylinder ≡ page.1

  -- the asked cylinder comes into the task's frame, which its page has
  pub record IsStaging (task : Task) (r : Request) (t : Transfer) : Type 0 where
    pub kind_ : (t.kind ≡ StageBlank) ⊎ (t.kind ≡ StageCartridge)
    pub volume_ : t.volume ≡ r.volume
    pub cylinder_ : t.cylinder ≡ r.cylinder
    pub framed : frame_in (row_in_list core.rows) r.volume (page_of r.cylinder) ≡ Some task.frame

  pub record TasksFit : Type 0 where
    -- only so many recorders have one
    pub low : (i : ℕ) (task : Task) → HasTask i task → i < core.config.recorders
    -- its host has a Moving request, and a Moving request has a task
    pub serves : (i : ℕ) (task : Task) → HasTask i task
        → (r : Request) × HasRequest task.host r × (r.state ≡ Moving)
    pub served : (h : ℕ) (r : Request) → HasRequest h r → r.state ≡ Moving
        → (i : ℕ) × (task : Task) × HasTask i task × (task.host ≡ h)
    -- no two serve one host, and no two use one frame
    pub hosts_apart : (i j : ℕ) (s t : Task) → HasTask i s → HasTask j t → s.host ≡ t.host → i ≡ j
    pub frames_apart : (i j : ℕ) (s t : Task) → HasTask i s → HasTask j t → s.frame ≡ t.frame
        → i ≡ j
    -- the frames that they use are moving, and no others
    pub uses : (i : ℕ) (task : Task) → HasTask i task
        → (task.frame < core.config.frames) × (is_moving core task.frame ≡ true)
    pub used : (frame : ℕ) → is_moving core frame ≡ true
        → (i : ℕ) × (task : Task) × HasTask i task × (task.frame ≡ frame)
    -- one that takes a frame: it is its victim's, whose volume isn't bound; the asked page has
    -- none; and the task is touched where a Ready request is on the victim
    pub takes : (i : ℕ) (task : Task) (page : ℕ × ℕ) → HasTask i task → task.victim ≡ Some page
        → (owner_at core.owners task.frame ≡ Some page)
        × (is_volume_bound core.hosts page.0 ≡ false)
    pub bare : (i : ℕ) (task : Task) (page : ℕ × ℕ) (r : Request) → HasTask i task
        → task.victim ≡ Some page → HasRequest task.host r
        → frame_in (row_in_list core.rows) r.volume (page_of r.cylinder) ≡ None
    pub touched_ : (i : ℕ) (task : Task) (page : ℕ × ℕ) (h : ℕ) (r : Request) → HasTask i task
        → task.victim ≡ Some page → HasRequest h r → r.state ≡ Ready → asked_page r ≡ page
        → task.touched ≡ true
    -- one that takes none: its frame is the asked page's, or nobody's while that page has none
    pub given : (i : ℕ) (task : Task) (r : Request) → HasTask i task → task.victim ≡ None
        → HasRequest task.host r
        → (frame_in (row_in_list core.rows) r.volume (page_of r.cylinder) ≡ Some task.frame)
        ⊎ ((owner_at core.owners task.frame ≡ None)
        × (frame_in (row_in_list core.rows) r.volume (page_of r.cylinder) ≡ None))
    -- its transfer: one that takes a frame destages, and one that takes none stages
    pub transfers : (i : ℕ) (task : Task) (t : Transfer) → HasTask i task → task.transfer ≡ Some t
        → IsUnderWay task t
    pub destages : (i : ℕ) (task : Task) (t : Transfer) (page : ℕ × ℕ) → HasTask i task
        → task.transfer ≡ Some t → task.victim ≡ Some page → IsDestage page t
    pub stages : (i : ℕ) (task : Task) (t : Transfer) (r : Request) → HasTask i task
        → task.transfer ≡ Some t → task.victim ≡ None → HasRequest task.host r
        → IsStaging task r t

  -- ---- frames and cartridges

  pub record FramesFit : Type 0 where
    -- a page has a frame exactly where the frame has the page
    pub given : (page : ℕ × ℕ) (frame : ℕ)
        → frame_in (row_in_list core.rows) page.0 page.1 ≡ Some frame
        → (frame < core.config.frames) × (owner_at core.owners frame ≡ Some page)
    pub owned : (page : ℕ × ℕ) (frame : ℕ) → owner_at core.owners frame ≡ Some page
        → frame_in (row_in_list core.rows) page.0 page.1 ≡ Some frame
    -- each is once in the order of touch, and nothing else
    pub ordered : (frame : ℕ) → frame < core.config.frames → Contains core.recency frame
    pub once : IsDistinct nat_eq core.recency
    pub known : All (λ frame. frame < core.config.frames) core.recency

  -- a cartridge is in its cell, or in the recorder that holds it
  pub record CartridgesFit : Type 0 where
    pub lies : (cartridge : ℕ) → (place_of core.store cartridge ≡ home_of cartridge)
        ⊎ ((i : ℕ) × (place_of core.store cartridge ≡ Recorder i)
        × (held_in core i ≡ Some cartridge))
    pub holds : (i cartridge : ℕ) → held_in core i ≡ Some cartridge
        → (i < core.config.recorders) × (place_of core.store cartridge ≡ Recorder i)

  -- all of it
  pub record CoreFits : Type 0 where
    pub requests_ : RequestsFit
    pub tasks_ : TasksFit
    pub frames_ : FramesFit
    pub cartridges_ : CartridgesFit

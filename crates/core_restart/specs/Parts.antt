-- What a core needs of memory beside its rows, and from what it can begin.
use Rattle.std.specs.Prelude.{◌≡◌, ◌≤◌, ◌*◌, ℕ, [], length, replicate, None}
use Rattle.mss_base.specs.Configs.{ConfigData}
use Rattle.mss_base.specs.Content.{Content, SiteLog, IsLoose, content}
use Rattle.mss_base.specs.declared.place.UnitNo.{UnitNo}
use Rattle.volume_table.specs.Listed.{row_in_list}
use Rattle.ckd_plain.specs.Plain.{fresh_host}
use Rattle.cartridge_store.specs.Places.{place_of, home_of}
use Rattle.staging_adapter.specs.Frames.{free_frames}
use Rattle.victim_choice.specs.Order.{first_order}
use Rattle.mss_restart.specs.declared.opening.Opened.{Opened}
use Rattle.mss_restart.specs.Opening.{IsOpened}
use Rattle.mss_restart.specs.Answers.{TellsChanges, steps_of}
use Rattle.core_restart.specs.declared.parts.Parts.{Parts}
use Rattle.core_restart.specs.Owners.{HaveFrames}

-- everything at its start, with room for two messages of each configured volume
pub record AreParts (config : ConfigData) (parts : Parts) : Type 0 where
  pub config_ : parts.config ≡ config
  pub frames_ : parts.frames ≡ free_frames config.frames
  pub recency_ : parts.recency ≡ first_order config.frames
  pub requests_ : parts.requests ≡ []
  pub tasks_ : parts.tasks.items ≡ replicate config.recorders None
  pub at_home : (cartridge : ℕ) → place_of parts.store cartridge ≡ home_of cartridge
  pub recorders_ : parts.recorders.items ≡ replicate config.recorders None
  pub hosts_ : parts.hosts.items ≡ replicate 8 fresh_host
  pub console_ : parts.console.items ≡ []
  pub room : 2 * length config.volumes ≤ parts.console.spare

-- nothing that was written to a site is loose
abbrev pub IsFirm : SiteLog → Type 0
IsFirm s = (unit : UnitNo) (block : ℕ) → IsLoose s unit block → ⊥

-- an opened site, of which so many writes were made by now, all of them firm: its rows, with a count
-- of slots for each of the 32 volumes, and the steps that led to them
pub record MayBegin (tells : Type 0) (told : SiteLog) (writes : ℕ) (config : ConfigData)
    (opened : Opened) : Type 0 where
  pub rows_ : HaveFrames config.frames opened.rows
  pub used_ : length opened.used.items ≡ 32
  pub written : ℕ
  pub counted : TellsChanges config written writes (row_in_list opened.rows) (steps_of opened)
  pub from : Content
  pub opened_ : tells → IsOpened config from (content told) opened.rows opened.used.items
  pub firm : tells → IsFirm told

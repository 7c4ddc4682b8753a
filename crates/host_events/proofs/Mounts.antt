-- A mount, by whether the volume that it asks for is there.
use Rattle.std.proofs.Common.{◌≡◌, ℕ, Bool, Option, Some, None, refl}
use Rattle.channel_commands.specs.Data.{ReplyData, mounted, no_volume}
use Rattle.ckd_plain.specs.declared.host.HostState.{HostState}
use Rattle.ckd_plain.specs.Plain.{mounted_by, with_volume}

pub by_mark : (P : ReplyData × HostState → Type 0) (host : HostState) (volume : ℕ) (bind : Bool) (mark : Option Bool)
    → ((read_only : Bool) → mark ≡ Some read_only → P (mounted, with_volume host volume bind read_only)) → (mark ≡ None → P (no_volume, host))
    → P (mounted_by host volume bind mark)
by_mark P host volume bind (Some read_only) there none = there read_only refl
by_mark P host volume bind None there none = none refl
